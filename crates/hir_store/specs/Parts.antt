-- The direct parts of a stored type, in the order in which a visitor is handed them.
use Rattle.std.specs.Prelude.{List, [], ◌∷◌, Option, Some, None}
use Rattle.hir_store.specs.declared.ids.TypeRefId.{TypeRefId}
use Rattle.hir_store.specs.declared.ids.LifetimeRefId.{LifetimeRefId}
use Rattle.hir_store.specs.declared.path.Path.{Path}
use Rattle.hir_store.specs.declared.path.Path.TheVariants.{BarePath, Normal, LangItem}
use Rattle.hir_store.specs.declared.path.GenericArg.{GenericArg}
use Rattle.hir_store.specs.declared.path.GenericArg.TheVariants as arg
use Rattle.hir_store.specs.declared.path.GenericArgs.{GenericArgs}
use Rattle.hir_store.specs.declared.path.AssociatedTypeBinding.{AssociatedTypeBinding}
use Rattle.hir_store.specs.declared.path.AssociatedTypeBinding.TheOpen.{AssociatedTypeBinding-F, GenericArgs-F}
use Rattle.hir_store.specs.declared.path.AssociatedTypeBinding.TheFolds.{para-AssociatedTypeBinding, para-GenericArgs}
use Rattle.hir_store.specs.declared.type_ref.UseArgRef.{UseArgRef}
use Rattle.hir_store.specs.declared.type_ref.UseArgRef.TheVariants as use_arg
use Rattle.hir_store.specs.declared.type_ref.TypeBound.{TypeBound}
use Rattle.hir_store.specs.declared.type_ref.TypeBound.TheVariants as bound
use Rattle.hir_store.specs.declared.type_ref.TypeRef.{TypeRef}
use Rattle.hir_store.specs.declared.type_ref.TypeRef.TheVariants as ty

-- Parts one after another: numbers of the same store, and arguments, with what follows these where they are gone into.
pub data Parts : Type 0 where
  no_parts : Parts
  type_and : TypeRefId → Parts → Parts
  lifetime_and : LifetimeRefId → Parts → Parts
  args_and : GenericArgs → Parts → Parts → Parts

-- these, and then those
abbrev pub and_then : Parts → Parts → Parts
and_then no_parts qs = qs
and_then (type_and t ps) qs = type_and t (and_then ps qs)
and_then (lifetime_and l ps) qs = lifetime_and l (and_then ps qs)
and_then (args_and a inside ps) qs = args_and a inside (and_then ps qs)

abbrev pub of_present : {A : Type 0} → (A → Parts) → Option A → Parts
of_present f None = no_parts
of_present f (Some a) = f a

abbrev pub of_each : {A : Type 0} → (A → Parts) → List A → Parts
of_each f [] = no_parts
of_each f (a ∷ as') = and_then (f a) (of_each f as')

abbrev pub of_type : TypeRefId → Parts
of_type t = type_and t no_parts

abbrev pub of_lifetime : LifetimeRefId → Parts
of_lifetime l = lifetime_and l no_parts

-- a constant isn't gone into
abbrev pub of_arg : GenericArg → Parts
of_arg (arg.Type_ t) = of_type t
of_arg (arg.Lifetime l) = of_lifetime l
of_arg (arg.Const c) = no_parts

abbrev pub of_use : UseArgRef → Parts
of_use (use_arg.Name n) = no_parts
of_use (use_arg.Lifetime l) = of_lifetime l

abbrev pub of_bound : TypeBound → Parts
of_bound (bound.Path t modifier) = of_type t
of_bound (bound.ForLifetime names t) = of_type t
of_bound (bound.Lifetime l) = of_lifetime l
of_bound (bound.Use us) = of_each of_use us
of_bound bound.Error = no_parts

-- Arguments hold bindings, which hold arguments. Each step sees what is stored, too.

abbrev pub args_beside : GenericArgs × Parts → Parts
args_beside p = args_and p.0 p.1 no_parts

abbrev pub binding_step : AssociatedTypeBinding-F (AssociatedTypeBinding × Parts) (GenericArgs × Parts) → Parts
binding_step b = and_then (of_present args_beside b.args) (and_then (of_present of_type b.type_ref) (of_each of_bound b.bounds))

abbrev pub args_step : GenericArgs-F (AssociatedTypeBinding × Parts) (GenericArgs × Parts) → Parts
args_step a = and_then (of_each of_arg a.args) (of_each (λ p. p.1) a.bindings)

-- what follows arguments that are gone into
unfoldable pub inside_args : GenericArgs → Parts
inside_args = para-GenericArgs Parts Parts binding_step args_step

unfoldable pub of_binding : AssociatedTypeBinding → Parts
of_binding = para-AssociatedTypeBinding Parts Parts binding_step args_step

abbrev pub of_args : GenericArgs → Parts
of_args a = args_and a (inside_args a) no_parts

abbrev pub of_path : Path → Parts
of_path (BarePath p) = no_parts
of_path (Normal p) = and_then (of_present of_type p.type_anchor) (of_each (of_present of_args) p.generic_args)
of_path (LangItem i) = no_parts

-- the pattern of a type and the length of an array aren't gone into
abbrev pub parts : TypeRef → Parts
parts ty.Never = no_parts
parts ty.Placeholder = no_parts
parts ty.Error = no_parts
parts (ty.Tuple ts) = of_each of_type ts
parts (ty.Path p) = of_path p
parts (ty.RawPtr t mutability) = of_type t
parts (ty.Reference r) = and_then (of_type r.ty) (of_present of_lifetime r.lifetime)
parts (ty.Array a) = of_type a.ty
parts (ty.Slice t) = of_type t
parts (ty.Fn g) = of_each of_type g.params
parts (ty.ImplTrait bounds) = of_each of_bound bounds
parts (ty.DynTrait bounds) = of_each of_bound bounds
parts (ty.Pattern t p) = of_type t
parts (ty.TypeParam p) = no_parts

-- of what stands there, where anything does
abbrev pub parts_found : Option TypeRef → Parts
parts_found None = no_parts
parts_found (Some t) = parts t
