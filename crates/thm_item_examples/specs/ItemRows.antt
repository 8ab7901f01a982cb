-- Small traits, implementations and aliases, and what is read off them.
use Rattle.std.specs.Prelude.{◌≡◌, ℕ, codes, true, List, [], ◌∷◌, Option, Some, None}
use Rattle.hir_syntax.specs.declared.ast.ElseBranch.TheOpen.{TypeKind-F}
use Rattle.hir_syntax.specs.declared.types.TypeBound.{TypeBound as AstTypeBound}
use Rattle.hir_syntax.specs.declared.types.Type_.{Type_ as AstType}
use Rattle.hir_syntax.specs.declared.items.GenericParam.{GenericParam as AstGenericParam}
use Rattle.hir_syntax.specs.declared.items.Impl.{Impl as AstImpl}
use Rattle.hir_syntax.specs.declared.items.Trait.{Trait as AstTrait}
use Rattle.hir_syntax.specs.declared.items.TypeAlias.{TypeAlias as AstTypeAlias}
use Rattle.hir_syntax.specs.declared.items.WherePred.{WherePred as AstWherePred}
use Rattle.hir_store.specs.declared.diagnostics.ExpressionStoreDiagnostics.TheVariants.{MissingBody}
use Rattle.hir_store.specs.declared.diagnostics.MissingBodyItemKind.{MissingBodyItemKind}
use Rattle.hir_store.specs.declared.diagnostics.MissingBodyItemKind.TheVariants as missing
use Rattle.hir_store.specs.declared.ids.ExternBlockId.{ExternBlockId}
use Rattle.hir_store.specs.declared.ids.GenericDefId.{GenericDefId}
use Rattle.hir_store.specs.declared.ids.ImplId.{ImplId}
use Rattle.hir_store.specs.declared.ids.ItemContainerId.{ItemContainerId}
use Rattle.hir_store.specs.declared.ids.ItemContainerId.TheVariants as holder
use Rattle.hir_store.specs.declared.ids.ModuleId.{ModuleId}
use Rattle.hir_store.specs.declared.ids.TraitId.{TraitId}
use Rattle.hir_env.specs.ResolveCtx.{ResolveCtx}
use Rattle.spec_data.specs.Data as datum
use Rattle.spec_data.specs.Data.{BoundData, BoundsData, OptionTypeData, TypeData}
use Rattle.spec_data.specs.Trees.{bare_segment, error_data, impl_at, impl_data, never_at, never_data, no_range, node, pointer, type_at}
use Rattle.hir_lower_item.specs.Answering.{resolved_alias, resolved_impl, resolved_trait}
use Rattle.thm_item_examples.specs.Trees.{broken_named, enabled, path_at, trait_at, type_param_at, where_of, with_impl}
use Rattle.thm_item_examples.specs.Read.{Read, Seen, a_bound, a_fault, a_param, a_trait, a_type, alias_seen, impl_seen}
use Rattle.thm_item_examples.specs.Read.{trait_read, type_made}
use Rattle.thm_item_examples.specs.Expected.{absent, args_of, bounded_by, data_with, from_impl, named_data, of_impl, of_parameter}
use Rattle.thm_item_examples.specs.Expected.{of_written}
use Rattle.thm_item_examples.specs.Expected.{one_bound, parameter_from, parameter_made, plain_param, self_param}

module _ (at : ResolveCtx) where
  -- with a parameter, and with an `impl` that stays
  abbrev pub with_parameter : GenericDefId → TypeData
  with_parameter def = data_with at 4 (codes "A") (args_of (datum.type_argument (parameter_from at 5 def)))

  abbrev pub with_opaque : TypeData
  with_opaque = data_with at 4 (codes "A") (args_of (datum.type_argument (impl_data at 5 (codes "B") datum.no_args true)))

  -- `T: A`, and what it asks of a parameter with this number
  abbrev pub a_bound_at : ℕ → BoundData
  a_bound_at n = bounded_by (named_data at n (codes "A"))

-- `<T: A>`, and `where !: B`
abbrev pub t_of_a : List AstGenericParam
t_of_a = type_param_at 6 (Some (codes "T")) (trait_at 7 (bare_segment (codes "A")) ∷ []) None ∷ []

abbrev pub never_of_b : List AstWherePred
never_of_b = where_of (Some (never_at 1)) None None (trait_at 2 (bare_segment (codes "B")) ∷ []) ∷ []

module _ (at : ResolveCtx) where
  -- what both ask where T has this number
  abbrev pub b_of_never : BoundData
  b_of_never = bounded_by (named_data at 2 (codes "B"))

  abbrev pub t_seen : GenericDefId → List Seen
  t_seen def = a_param ∷ parameter_made def ∷ a_bound (a_bound_at at 7) ∷ []

-- traits

abbrev pub trait_of : List AstTypeBound → Option (List AstGenericParam) → Option (List AstWherePred) → AstTrait
trait_of bs ps ws = record { id = node 0; range = no_range; bounds = bs; generics = ps; where_ = ws }

module _ (at : ResolveCtx) (def : GenericDefId) where
  abbrev pub TraitReads : AstTrait → Read → Type 0
  TraitReads x r = trait_read def (resolved_trait (enabled at) def x) ≡ r

  -- `trait: A`, `trait<T: A>: A<impl B> where !: B`, and `trait<T: A>`
  pub record ReadsTraits : Type 0 where
    pub bounded : TraitReads (trait_of (trait_at 3 (bare_segment (codes "A")) ∷ []) None None)
        (record {
          params = self_param def ∷ [];
          lifetimes = [];
          asks = of_parameter def 0 (a_bound_at at 3) ∷ [];
          parts = a_param ∷ parameter_made def ∷ a_bound (a_bound_at at 3) ∷ [];
        })
    pub whole : TraitReads (trait_of (trait_at 4 with_impl ∷ []) (Some t_of_a) (Some never_of_b))
        (record {
          params = self_param def ∷ from_impl def (pointer at 5) ∷ plain_param def (codes "T") ∷ [];
          lifetimes = [];
          asks = of_impl def 1 (pointer at 5) (bounded_by (named_data at 9 (codes "B")))
              ∷ of_parameter def 0 (bounded_by (with_parameter at def)) ∷ of_parameter def 2 (a_bound_at at 7)
              ∷ of_written (never_data at 1) (b_of_never at) ∷ [];
          parts = a_param ∷ parameter_made def ∷ a_bound (bounded_by (with_parameter at def))
              ∷ a_param ∷ parameter_made def ∷ a_bound (a_bound_at at 7)
              ∷ a_type (never_data at 1) ∷ a_bound (b_of_never at) ∷ [];
        })
    pub boundless : TraitReads (trait_of [] (Some t_of_a) None)
        (record {
          params = self_param def ∷ plain_param def (codes "T") ∷ [];
          lifetimes = [];
          asks = of_parameter def 1 (a_bound_at at 7) ∷ [];
          parts = a_param ∷ parameter_made def ∷ t_seen at def;
        })

-- implementations

abbrev pub impl_of : Option AstType → Option AstType → Option (List AstGenericParam) → Option (List AstWherePred) → AstImpl
impl_of self t ps ws = record { id = node 0; range = no_range; self_ty = self; trait_ = t; generics = ps; where_ = ws }

module _ (at : ResolveCtx) (def : GenericDefId) where
  abbrev pub ImplReads : AstImpl → Read → TypeData × Option TypeData → Type 0
  ImplReads x r answers = impl_seen def (resolved_impl (enabled at) def x) ≡ (r, answers)

  -- with no parameters, and these parts
  abbrev pub of_parts : List Seen → Read
  of_parts xs = record { params = []; lifetimes = []; asks = []; parts = xs }

  -- written as this, for `!`, which is no trait
  abbrev pub NoTrait : Option AstType → Type 0
  NoTrait t = ImplReads (impl_of (Some (never_at 3)) t None None) (of_parts (a_type (never_data at 3) ∷ [])) (never_data at 3, None)

  -- `impl<T: A> A<impl B> for ! where !: B`, and of no type and no trait
  pub record ReadsImplementations : Type 0 where
    pub whole : ImplReads (impl_of (Some (never_at 3)) (Some (path_at 4 with_impl)) (Some t_of_a) (Some never_of_b))
        (record {
          params = plain_param def (codes "T") ∷ [];
          lifetimes = [];
          asks = of_parameter def 0 (a_bound_at at 7) ∷ of_written (never_data at 1) (b_of_never at) ∷ [];
          parts = a_type (never_data at 3) ∷ a_trait (Some (with_opaque at))
              ∷ a_param ∷ parameter_made def ∷ a_bound (a_bound_at at 7) ∷ a_type (never_data at 1) ∷ a_bound (b_of_never at) ∷ [];
        })
        (never_data at 3, Some (with_opaque at))
    pub lacking : ImplReads (impl_of None None None None) (of_parts (type_made absent ∷ [])) (absent, None)
    -- `impl B`, which is no type that has an implementation
    pub of_impl : ImplReads (impl_of (Some (impl_at 3 (bare_segment (codes "B")))) None None None)
        (of_parts (a_type (error_data at 3) ∷ [])) (error_data at 3, None)

  -- `impl ! for !`, `impl (A<impl B>) for !`, `impl dyn A<impl B> for !`, and where the path is absent or refused
  pub record ReadsNoTraits : Type 0 where
    pub never : NoTrait (Some (never_at 4))
    pub parens : NoTrait (Some (type_at 4 (TypeKind-F.ParenType (Some (path_at 4 with_impl)))))
    pub dyn_ : NoTrait (Some (type_at 4 (TypeKind-F.DynTraitType (trait_at 4 with_impl ∷ []))))
    pub pathless : ImplReads (impl_of (Some (never_at 3)) (Some (type_at 4 (TypeKind-F.PathType None))) None None)
        (of_parts (a_type (never_data at 3) ∷ a_trait None ∷ [])) (never_data at 3, None)
    pub refused : ImplReads (impl_of (Some (never_at 3)) (Some (path_at 4 broken_named)) None None)
        (of_parts (a_type (never_data at 3) ∷ a_trait None ∷ [])) (never_data at 3, None)

-- aliases

abbrev pub alias_of : List AstTypeBound → Option (List AstGenericParam) → Option (List AstWherePred) → Option AstType → AstTypeAlias
alias_of bs ps ws t = record { id = node 0; range = no_range; bounds = bs; generics = ps; where_ = ws; ty = t }

module _ (at : ResolveCtx) (def : GenericDefId) where
  abbrev pub AliasReads : ItemContainerId → AstTypeAlias → Read → BoundsData × OptionTypeData → Type 0
  AliasReads container x r answers = alias_seen def (resolved_alias (enabled at) def container x) ≡ (r, answers)

  -- `type X<T: A>: A<impl B> where !: B`, and these parts behind
  abbrev pub in_front : List Seen → Read
  in_front xs = record {
    params = plain_param def (codes "T") ∷ [];
    lifetimes = [];
    asks = of_parameter def 0 (a_bound_at at 7) ∷ of_written (never_data at 1) (b_of_never at) ∷ [];
    parts = a_bound (bounded_by (with_opaque at)) ∷ a_param ∷ parameter_made def ∷ a_bound (a_bound_at at 7)
        ∷ a_type (never_data at 1) ∷ a_bound (b_of_never at) ∷ xs;
  }

  abbrev pub with_type : Option AstType → AstTypeAlias
  with_type t = alias_of (trait_at 4 with_impl ∷ []) (Some t_of_a) (Some never_of_b) t

  -- with the type `impl B`, wherever it stands
  abbrev pub Typed : ItemContainerId → Type 0
  Typed container = AliasReads container (with_type (Some (impl_at 8 (bare_segment (codes "B")))))
      (in_front (a_type (impl_data at 8 (codes "B") datum.no_args true) ∷ []))
      (one_bound (bounded_by (with_opaque at)), datum.some_type (impl_data at 8 (codes "B") datum.no_args true))

  -- without one, and what is told
  abbrev pub Typeless : ItemContainerId → List Seen → Type 0
  Typeless container xs = AliasReads container (with_type None) (in_front xs) (one_bound (bounded_by (with_opaque at)), datum.no_type)

  abbrev pub lacks : MissingBodyItemKind → List Seen
  lacks k = a_fault (MissingBody (pointer at 0) k) ∷ []

  -- in a module, an `impl`, a trait and an extern block
  pub record ReadsAliases (m : ModuleId) (i : ImplId) (t : TraitId) (e : ExternBlockId) : Type 0 where
    pub in_module : Typed (holder.ModuleId m)
    pub in_impl : Typed (holder.ImplId i)
    pub in_trait : Typed (holder.TraitId t)
    pub in_extern : Typed (holder.ExternBlockId e)
    pub lacks_in_module : Typeless (holder.ModuleId m) (lacks missing.TypeAlias)
    pub lacks_in_impl : Typeless (holder.ImplId i) (lacks missing.AssocType)
    pub lacks_in_trait : Typeless (holder.TraitId t) []
    pub lacks_in_extern : Typeless (holder.ExternBlockId e) []

-- theorems, for each environment, wherever an item stands

abbrev pub TraitsAreRead : Type 0
TraitsAreRead = (at : ResolveCtx) (def : GenericDefId) → ReadsTraits at def

abbrev pub ImplementationsAreRead : Type 0
ImplementationsAreRead = (at : ResolveCtx) (def : GenericDefId) → ReadsImplementations at def

abbrev pub OtherTraitsAreNone : Type 0
OtherTraitsAreNone = (at : ResolveCtx) (def : GenericDefId) → ReadsNoTraits at def

abbrev pub AliasesAreRead : Type 0
AliasesAreRead = (at : ResolveCtx) (def : GenericDefId) (m : ModuleId) (i : ImplId) (t : TraitId) (e : ExternBlockId)
    → ReadsAliases at def m i t e
