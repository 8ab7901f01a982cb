-- What an item is answered with, and its parameters and predicates, reach each type in one way only, together with what expressions and
-- patterns name.
use Rattle.std.specs.Prelude.{◌≡◌, ℕ, ◌≤◌, Bool, true, false, ◌||◌, if◌then◌else◌, nat_eq, List, [], ◌∷◌, ◌++◌, length, slice_get}
use Rattle.std.specs.Prelude.{Option, Some, Ok}
use Rattle.hir_store.specs.Pointers.{Pointer}
use Rattle.hir_store.specs.Stored.{SourceMap, Store, map_of, store_of}
use Rattle.hir_store.specs.declared.generics.GenericParams.{GenericParams}
use Rattle.hir_store.specs.declared.generics.TypeOrConstParamData.{TypeOrConstParamData}
use Rattle.hir_store.specs.declared.generics.TypeOrConstParamData.TheVariants as param
use Rattle.hir_store.specs.declared.generics.WherePredicate.{WherePredicate}
use Rattle.hir_store.specs.declared.generics.WherePredicate.TheVariants as predicate
use Rattle.hir_store.specs.declared.ids.GenericDefId.{GenericDefId}
use Rattle.hir_store.specs.declared.ids.TypeRefId.{TypeRefId}
use Rattle.hir_store.specs.declared.type_ref.TraitRef.{TraitRef}
use Rattle.hir_store.specs.declared.type_ref.TypeBound.{TypeBound}
use Rattle.hir_store.specs.declared.type_ref.TypeRef.{TypeRef}
use Rattle.hir_store.specs.declared.type_ref.TypeRef.TheVariants as type
use Rattle.hir_lower_builder.specs.Builder.{Builder, new_builder}
use Rattle.hir_lower_builder.specs.Lowering.{Lowering}
use Rattle.hir_lower_item.specs.Items.{Alias, Function, Generics, Impl, Trait}
use Rattle.hir_lower_item.specs.Lower.{lower_alias, lower_function, lower_generics, lower_impl, lower_trait}
use Rattle.thm_semantics.specs.Reached.{Spread}
use Rattle.thm_type_result.specs.Named.{of_exprs, of_pats, of_types_alone}
use Rattle.thm_type_result.specs.Reached.{of_bound, of_each, of_present, types_reached}

-- what is named by what is answered, of what each type reaches

abbrev pub Naming : Type 0
Naming = (TypeRefId → List ℕ) → List ℕ

-- the type of an `impl`, and its trait
abbrev pub named_by_impl : TypeRefId → Option TraitRef → Naming
named_by_impl self trait_ f = f self ++ of_present (λ t. f t.path) trait_

-- the bounds of an alias, and its type
abbrev pub named_by_alias : List TypeBound → Option TypeRefId → Naming
named_by_alias bounds ty f = of_each (of_bound f) bounds ++ of_present f ty

-- the types of what a function is given, and of what it returns
abbrev pub named_by_function : List TypeRefId → Option TypeRefId → Naming
named_by_function args ret f = of_each f args ++ of_present f ret

-- where parameters and predicates are all that is answered
abbrev pub none_named : Naming
none_named f = []

-- what is named by parameters and predicates

-- the default of a type, or the type of a constant
abbrev pub named_by_param : TypeOrConstParamData → Naming
named_by_param (param.TypeParamData x) f = of_present f x.default
named_by_param (param.ConstParamData x) f = f x.ty

abbrev pub among : TypeRefId → List TypeRefId → Bool
among t [] = false
among t (u ∷ us) = nat_eq t.0 u.0 || among t us

-- whether an `impl` became it: it is a parameter that comes from a node
abbrev pub impl_became : Option TypeRef → Option (Option Pointer) → Bool
impl_became (Some (type.TypeParam p)) (Some (Some at)) = true
impl_became t from = false

module _ (store : Store) (source_map : SourceMap) where
  abbrev pub is_of_impl : TypeRefId → Bool
  is_of_impl t = impl_became (slice_get store.types t.0) (slice_get source_map.type_sources t.0)

  -- What predicates are of is named once, by the first that is of it, unless an `impl` became it, which is named where it stands; and the
  -- bound of each is.
  abbrev pub named_by_predicates : List TypeRefId → List WherePredicate → Naming
  named_by_predicates before [] f = []
  named_by_predicates before (predicate.TypeBound binder t b ∷ ps) f =
      (if is_of_impl t || among t before then [] else f t) ++ (of_bound f b ++ named_by_predicates (t ∷ before) ps f)
  named_by_predicates before (predicate.Lifetime l m ∷ ps) f = named_by_predicates before ps f

  abbrev pub named_by_params : List TypeOrConstParamData → List WherePredicate → Naming
  named_by_params xs ps f = of_each (λ x. named_by_param x f) xs ++ named_by_predicates [] ps f

-- with what its parameters and predicates name
abbrev pub with_params : Store → SourceMap → GenericParams → Naming → Naming
with_params store source_map g named f = named f ++ named_by_params store source_map g.type_or_consts g.where_predicates f

-- however deep one looks
abbrev pub ReachesOnce : Store → Naming → Type 0
ReachesOnce store named = (depth : ℕ) → length store.types ≤ depth → let f = types_reached store.types depth in let l = of_types_alone f in
    Spread 0 (length store.types) (named f ++ (of_exprs l store.exprs ++ of_pats l store.pats))

-- theorems, where an item is lowered first

abbrev pub AnswersOnce : {A : Type 0} → (A → Naming) → Lowering A → Type 0
AnswersOnce {A} named p = (limit : ℕ) (new : Builder) (a : A) → p (new_builder limit) ≡ (Ok a, new)
    → let s = store_of new.stored in let g = new.tracks.generics in
    ReachesOnce s (λ f. named a f ++ named_by_params s (map_of new.stored) g.type_or_consts g.where_predicates f)

abbrev pub GenericsOnce : Type 0
GenericsOnce = (def : GenericDefId) (g : Generics) → AnswersOnce (λ a. none_named) (lower_generics def g)

abbrev pub TraitsOnce : Type 0
TraitsOnce = (def : GenericDefId) (x : Trait) → AnswersOnce (λ a. none_named) (lower_trait def x)

abbrev pub ImplsOnce : Type 0
ImplsOnce = (def : GenericDefId) (x : Impl) → AnswersOnce (λ a. named_by_impl a.0 a.1) (lower_impl def x)

abbrev pub AliasesOnce : Type 0
AliasesOnce = (def : GenericDefId) (x : Alias) → AnswersOnce (λ a. named_by_alias a.0 a.1) (lower_alias def x)

abbrev pub FunctionsOnce : Type 0
FunctionsOnce = (def : GenericDefId) (x : Function) → AnswersOnce (λ a. named_by_function a.args a.ret) (lower_function def x)
