-- The constants that an item is answered with, and those of its parameters and predicates, and the ends of ranges in types there, are
-- expressions of their own: what they reach, together with what they hold and don't run, is reached in one way only.
use Rattle.std.specs.Prelude.{◌≡◌, ◌≢◌, ℕ, ◌≤◌, ◌||◌, if◌then◌else◌, List, [], ◌∷◌, ◌++◌, length, Option, Some, Ok}
use Rattle.hir_store.specs.Stored.{SourceMap, Store, map_of, store_of}
use Rattle.hir_store.specs.declared.generics.ConstParamData.{ConstParamData}
use Rattle.hir_store.specs.declared.generics.GenericParams.{GenericParams}
use Rattle.hir_store.specs.declared.generics.TypeOrConstParamData.{TypeOrConstParamData}
use Rattle.hir_store.specs.declared.generics.TypeOrConstParamData.TheVariants as param
use Rattle.hir_store.specs.declared.generics.WherePredicate.{WherePredicate}
use Rattle.hir_store.specs.declared.generics.WherePredicate.TheVariants as predicate
use Rattle.hir_store.specs.declared.ids.GenericDefId.{GenericDefId}
use Rattle.hir_store.specs.declared.ids.TypeRefId.{TypeRefId}
use Rattle.hir_store.specs.declared.type_ref.ConstRef.{ConstRef}
use Rattle.hir_store.specs.declared.type_ref.TraitRef.{TraitRef}
use Rattle.hir_store.specs.declared.type_ref.TypeBound.{TypeBound}
use Rattle.hir_lower_builder.specs.Builder.{Builder, new_builder}
use Rattle.hir_lower_builder.specs.Lowering.{Lowering}
use Rattle.hir_lower_item.specs.Items.{Alias, Function, Generics, Impl, Trait}
use Rattle.hir_lower_item.specs.Lower.{lower_alias, lower_function, lower_generics, lower_impl, lower_trait}
use Rattle.spec_semantics.specs.Inner.{Inners, Inside, all_of, of_bound, of_constant, of_present}
use Rattle.thm_semantics.specs.Reached.{Spread, of_each, reached_to}
use Rattle.thm_type_result.specs.Unrun.{all_unruns, exprs_of}
use Rattle.thm_item_result.specs.Once.{among, is_of_impl}

-- what is held by what is answered, of what each type holds

abbrev pub Holding : Type 0
Holding = Inners → List Inside

-- the type of an `impl`, and its trait
abbrev pub held_by_impl : TypeRefId → Option TraitRef → Holding
held_by_impl self trait_ r = r.type self ++ of_present (λ t. r.type t.path) trait_

-- the bounds of an alias, and its type
abbrev pub held_by_alias : List TypeBound → Option TypeRefId → Holding
held_by_alias bounds ty r = all_of (of_bound r) bounds ++ of_present r.type ty

-- the types of what a function is given, and of what it returns
abbrev pub held_by_function : List TypeRefId → Option TypeRefId → Holding
held_by_function args ret r = all_of r.type args ++ of_present r.type ret

-- where parameters and predicates are all that is answered
abbrev pub none_held : Holding
none_held r = []

-- what is held by parameters and predicates

-- the default of a type; or the type of a constant, and its default, which is itself one that is held
abbrev pub held_by_param : TypeOrConstParamData → Holding
held_by_param (param.TypeParamData x) r = of_present r.type x.default
held_by_param (param.ConstParamData x) r = r.type x.ty ++ of_present (of_constant r) x.default

module _ (store : Store) (source_map : SourceMap) where
  -- like what is named by predicates
  abbrev pub held_by_predicates : List TypeRefId → List WherePredicate → Holding
  held_by_predicates before [] r = []
  held_by_predicates before (predicate.TypeBound binder t b ∷ ps) r =
      (if is_of_impl store source_map t || among t before then [] else r.type t) ++ (of_bound r b ++ held_by_predicates (t ∷ before) ps r)
  held_by_predicates before (predicate.Lifetime l m ∷ ps) r = held_by_predicates before ps r

  abbrev pub held_by_params : List TypeOrConstParamData → List WherePredicate → Holding
  held_by_params xs ps r = all_of (λ x. held_by_param x r) xs ++ held_by_predicates [] ps r

-- with what its parameters and predicates hold
abbrev pub with_held_params : Store → SourceMap → GenericParams → Holding → Holding
with_held_params store source_map g held r = held r ++ held_by_params store source_map g.type_or_consts g.where_predicates r

-- however deep one looks
abbrev pub HoldsOnce : Store → Holding → Type 0
HoldsOnce store held = (depth : ℕ) → length store.exprs ≤ depth
    → Spread 0 (length store.exprs) (of_each (reached_to store depth) (exprs_of (held (all_unruns store))))

-- Then all that are held are different expressions, as two defaults are that stand in two parameters.
abbrev pub HeldApart : Type 0
HeldApart = (store : Store) (held : Holding) → HoldsOnce store held → (before between behind : List Inside) (x y : Inside)
    → held (all_unruns store) ≡ before ++ (x ∷ (between ++ (y ∷ behind))) → x.expr ≢ y.expr

-- theorems, where an item is lowered first

abbrev pub AnswersHoldOnce : {A : Type 0} → (A → Holding) → Lowering A → Type 0
AnswersHoldOnce {A} held p = (limit : ℕ) (new : Builder) (a : A) → p (new_builder limit) ≡ (Ok a, new)
    → let s = store_of new.stored in let g = new.tracks.generics in
    HoldsOnce s (λ r. held a r ++ held_by_params s (map_of new.stored) g.type_or_consts g.where_predicates r)

abbrev pub GenericsHoldOnce : Type 0
GenericsHoldOnce = (def : GenericDefId) (g : Generics) → AnswersHoldOnce (λ a. none_held) (lower_generics def g)

abbrev pub TraitsHoldOnce : Type 0
TraitsHoldOnce = (def : GenericDefId) (x : Trait) → AnswersHoldOnce (λ a. none_held) (lower_trait def x)

abbrev pub ImplsHoldOnce : Type 0
ImplsHoldOnce = (def : GenericDefId) (x : Impl) → AnswersHoldOnce (λ a. held_by_impl a.0 a.1) (lower_impl def x)

abbrev pub AliasesHoldOnce : Type 0
AliasesHoldOnce = (def : GenericDefId) (x : Alias) → AnswersHoldOnce (λ a. held_by_alias a.0 a.1) (lower_alias def x)

abbrev pub FunctionsHoldOnce : Type 0
FunctionsHoldOnce = (def : GenericDefId) (x : Function) → AnswersHoldOnce (λ a. held_by_function a.args a.ret) (lower_function def x)

-- So the defaults of two constant parameters are two expressions, also where both are absent.
abbrev pub TwoDefaults : Type 0
TwoDefaults = (def : GenericDefId) (g : Generics) (limit : ℕ) (new : Builder) (a : Unit {0})
    → lower_generics def g (new_builder limit) ≡ (Ok a, new) → (before between behind : List TypeOrConstParamData) (x y : ConstParamData)
    → new.tracks.generics.type_or_consts ≡ before ++ (param.ConstParamData x ∷ (between ++ (param.ConstParamData y ∷ behind)))
    → (c d : ConstRef) → x.default ≡ Some c → y.default ≡ Some d → c.expr ≢ d.expr
