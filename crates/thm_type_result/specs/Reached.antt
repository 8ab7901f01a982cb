-- Which types a stored type reaches, and that it reaches each in one way only.
use Rattle.std.specs.Prelude.{ℕ, zero, suc, List, [], ◌∷◌, ◌++◌, Option, Some, None, slice_get}
use Rattle.hir_store.specs.declared.ids.TypeRefId.{TypeRefId}
use Rattle.hir_store.specs.declared.path.Path.{Path}
use Rattle.hir_store.specs.declared.path.Path.TheVariants.{BarePath, Normal, LangItem}
use Rattle.hir_store.specs.declared.path.GenericArg.{GenericArg}
use Rattle.hir_store.specs.declared.path.GenericArg.TheVariants as arg
use Rattle.hir_store.specs.declared.path.GenericArgs.{GenericArgs}
use Rattle.hir_store.specs.declared.path.AssociatedTypeBinding.{AssociatedTypeBinding}
use Rattle.hir_store.specs.declared.path.AssociatedTypeBinding.TheOpen.{AssociatedTypeBinding-F, GenericArgs-F}
use Rattle.hir_store.specs.declared.path.AssociatedTypeBinding.TheFolds.{fold-AssociatedTypeBinding, fold-GenericArgs}
use Rattle.hir_store.specs.declared.type_ref.TypeBound.{TypeBound}
use Rattle.hir_store.specs.declared.type_ref.TypeBound.TheVariants as bound
use Rattle.hir_store.specs.declared.type_ref.TypeRef.{TypeRef}
use Rattle.hir_store.specs.declared.type_ref.TypeRef.TheVariants as ty

abbrev pub of_present : {A : Type 0} → (A → List ℕ) → Option A → List ℕ
of_present f None = []
of_present f (Some a) = f a

abbrev pub of_each : {A : Type 0} → (A → List ℕ) → List A → List ℕ
of_each f [] = []
of_each f (a ∷ as') = f a ++ of_each f as'

abbrev pub flat_numbers : List (List ℕ) → List ℕ
flat_numbers [] = []
flat_numbers (ks ∷ kss) = ks ++ flat_numbers kss

-- The numbers that are reached, one for each way. What the expressions of constants name isn't reached through the type, nor is what
-- the ends of ranges in its pattern name, which are expressions too; beside them such a pattern holds patterns alone.

module _ (f : TypeRefId → List ℕ) where
  abbrev pub of_arg : GenericArg → List ℕ
  of_arg (arg.Type_ t) = f t
  of_arg (arg.Lifetime l) = []
  of_arg (arg.Const c) = []

  abbrev pub of_bound : TypeBound → List ℕ
  of_bound (bound.Path t modifier) = f t
  of_bound (bound.ForLifetime names t) = f t
  of_bound (bound.Lifetime l) = []
  of_bound (bound.Use args) = []
  of_bound bound.Error = []

  -- arguments hold bindings, which hold arguments

  abbrev pub binding_step : AssociatedTypeBinding-F (List ℕ) (List ℕ) → List ℕ
  binding_step b = of_present (λ ks. ks) b.args ++ (of_present f b.type_ref ++ of_each of_bound b.bounds)

  abbrev pub args_step : GenericArgs-F (List ℕ) (List ℕ) → List ℕ
  args_step a = of_each of_arg a.args ++ flat_numbers a.bindings

  unfoldable pub of_args : GenericArgs → List ℕ
  of_args = fold-GenericArgs (List ℕ) (List ℕ) binding_step args_step

  unfoldable pub of_binding : AssociatedTypeBinding → List ℕ
  of_binding = fold-AssociatedTypeBinding (List ℕ) (List ℕ) binding_step args_step

  abbrev pub of_lists : List (Option GenericArgs) → List ℕ
  of_lists = of_each (of_present of_args)

  abbrev pub of_path : Path → List ℕ
  of_path (BarePath p) = []
  of_path (Normal p) = of_present f p.type_anchor ++ of_lists p.generic_args
  of_path (LangItem i) = []

  abbrev pub below : TypeRef → List ℕ
  below ty.Never = []
  below ty.Placeholder = []
  below ty.Error = []
  below (ty.Tuple ts) = of_each f ts
  below (ty.Path p) = of_path p
  below (ty.RawPtr t mutability) = f t
  below (ty.Reference r) = f r.ty
  below (ty.Array a) = f a.ty
  below (ty.Slice t) = f t
  below (ty.Fn g) = of_each f g.params
  below (ty.ImplTrait bounds) = of_each of_bound bounds
  below (ty.DynTrait bounds) = of_each of_bound bounds
  below (ty.Pattern t p) = f t
  below (ty.TypeParam k) = []

  abbrev pub below_found : Option TypeRef → List ℕ
  below_found None = []
  below_found (Some t) = below t

-- so deep, through arguments, anchors, bindings and bounds
unfoldable pub types_reached : List TypeRef → ℕ → TypeRefId → List ℕ
types_reached types zero i = []
types_reached types (suc depth) i = i.0 ∷ below_found (types_reached types depth) (slice_get types i.0)
