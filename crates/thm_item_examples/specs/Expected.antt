-- What the small trees are read as.
use Rattle.std.specs.Prelude.{ℕ, suc, codes, true, false, List, [], ◌∷◌, Option, Some, None}
use Rattle.hir_store.specs.Pointers.{Pointer}
use Rattle.hir_store.specs.declared.diagnostics.ExpressionStoreDiagnostics.TheVariants.{InactiveCode}
use Rattle.hir_store.specs.declared.generics.LifetimeBoundType.{LifetimeBoundType}
use Rattle.hir_store.specs.declared.generics.LifetimeBoundType.TheVariants.{EarlyBound, LateBound}
use Rattle.hir_store.specs.declared.generics.LifetimeParamData.{LifetimeParamData}
use Rattle.hir_store.specs.declared.generics.TypeParamProvenance.TheVariants as provenance
use Rattle.hir_store.specs.declared.hir.Mutability.TheVariants.{Shared}
use Rattle.hir_store.specs.declared.ids.CfgId.{CfgId}
use Rattle.hir_store.specs.declared.ids.GenericDefId.{GenericDefId}
use Rattle.hir_store.specs.declared.name.Name.{Name}
use Rattle.hir_store.specs.declared.name.Name.TheVariants as name
use Rattle.hir_store.specs.declared.path.GenericArgsParentheses.TheVariants as parens
use Rattle.hir_store.specs.declared.path.PathKind.TheVariants as kind
use Rattle.hir_store.specs.declared.type_ref.LifetimeRef.TheVariants as lifetime
use Rattle.hir_store.specs.declared.type_ref.TraitBoundModifier.TheVariants as modifier
use Rattle.hir_env.specs.ResolvedTree as tree
use Rattle.hir_env.specs.ResolvedTree.{Binder, Expr}
use Rattle.hir_env.specs.ResolveCtx.{ResolveCtx, site_of}
use Rattle.spec_data.specs.Data as datum
use Rattle.spec_data.specs.Data.{ArgumentData, BoundData, BoundsData, LifetimeData, OptionArgsData, OptionTypeData, TypeData, TypesData}
use Rattle.spec_data.specs.Data.{typed}
use Rattle.spec_data.specs.Trees.{never_data, pointer}
use Rattle.spec_semantics.specs.InnerWritten.{constant_body}
use Rattle.thm_item_generics.specs.Fold.{Param, const_param, impl_param, type_param}
use Rattle.thm_item_generics.specs.AskedFold as asked
use Rattle.thm_item_generics.specs.AskedFold.{Asked, Asking, Target}
use Rattle.thm_item_examples.specs.Read.{Read, Seen, a_fault, type_made}

abbrev pub text : List ℕ → Name
text t = name.Text t

-- types and bounds, by their nodes

-- a path of one name, and one with arguments beside the name
abbrev pub named_data : ResolveCtx → ℕ → List ℕ → TypeData
named_data at n t = typed (Some (pointer at n))
    (datum.path_shape (datum.path_data kind.Plain datum.no_type (datum.more_names (text t) datum.no_args datum.no_names) true))

abbrev pub data_with : ResolveCtx → ℕ → List ℕ → OptionArgsData → TypeData
data_with at n t x = typed (Some (pointer at n))
    (datum.path_shape (datum.path_data kind.Plain datum.no_type (datum.more_names (text t) x datum.no_names) false))

abbrev pub args_of : ArgumentData → OptionArgsData
args_of x = datum.some_args (datum.args_data (datum.more_arguments x datum.no_arguments) false datum.no_bindings parens.No)

abbrev pub lifetime_from : ResolveCtx → ℕ → List ℕ → LifetimeData
lifetime_from at n t = record { lifetime = lifetime.Named (text t); from = Some (pointer at n) }

abbrev pub bounded_by : TypeData → BoundData
bounded_by t = datum.path_bound t modifier.None

abbrev pub one_bound : BoundData → BoundsData
one_bound b = datum.more_bounds b datum.no_bounds

-- the parameter that an `impl` at this node became
abbrev pub parameter_from : ResolveCtx → ℕ → GenericDefId → TypeData
parameter_from at n def = typed (Some (pointer at n)) (datum.parameter_shape def)

-- the parameter that a written one is, which comes from no node
abbrev pub parameter_made : GenericDefId → Seen
parameter_made def = type_made (typed None (datum.parameter_shape def))

-- an error from no node
abbrev pub absent : TypeData
absent = typed None datum.error_shape

abbrev pub only : TypeData → TypesData
only t = datum.more_types t datum.no_types

-- parameters

abbrev pub plain_param : GenericDefId → List ℕ → Param
plain_param def t = type_param def (text t) provenance.TypeParamList datum.no_type []

abbrev pub nameless_param : GenericDefId → Param
nameless_param def = type_param def name.Missing provenance.TypeParamList datum.no_type []

abbrev pub default_param : GenericDefId → List ℕ → TypeData → Param
default_param def t d = type_param def (text t) provenance.TypeParamList (datum.some_type d) []

-- one that the `impl` at this node became, of this definition
abbrev pub from_impl : GenericDefId → Pointer → Param
from_impl def at = impl_param def at

abbrev pub self_param : GenericDefId → Param
self_param def = type_param def (text (codes "Self")) provenance.TraitSelf datum.no_type []

abbrev pub const_alone : Name → TypeData → Param
const_alone n t = const_param n t [] None []

-- with a default from this node, in which no body is, and with one that is `_`
abbrev pub const_by : Name → TypeData → Pointer → Expr → Param
const_by n t at e = const_param n t [] (Some (Some (site_of at))) (constant_body (tree.some_expr e) ∷ [])

abbrev pub const_with : Name → TypeData → Pointer → Param
const_with n t at = const_by n t at (tree.leaf_expr at tree.underscore)

abbrev pub is_bound : LifetimeBoundType → List ℕ → LifetimeParamData
is_bound b t = record { name = text t; bound_type = b }

abbrev pub early : List ℕ → LifetimeParamData
early t = is_bound EarlyBound t

abbrev pub late : List ℕ → LifetimeParamData
late t = is_bound LateBound t

-- what is asked

-- this bound, of the parameter with this number, and of one that the `impl` at this node became
abbrev pub of_parameter : GenericDefId → ℕ → BoundData → Asking
of_parameter def k b = asked.of_type None (asked.parameter def k None) b []

abbrev pub of_impl : GenericDefId → ℕ → Pointer → BoundData → Asking
of_impl def k at b = asked.of_type None (asked.parameter def k (Some at)) b []

-- of a written type, behind a `for` with these names
abbrev pub of_bound_type : Option Binder → TypeData → BoundData → Asking
of_bound_type names t b = asked.of_type names (asked.written t []) b []

abbrev pub of_written : TypeData → BoundData → Asking
of_written t b = of_bound_type None t b

-- the first outlives the second
abbrev pub outlives : LifetimeData → LifetimeData → Asking
outlives l m = asked.of_lifetime l m

-- faults

abbrev pub inactive : ResolveCtx → ℕ → CfgId → Seen
inactive at n by = a_fault (InactiveCode (pointer at n) by)

-- nothing but this fault
abbrev pub fault_alone : ResolveCtx → ℕ → CfgId → Read
fault_alone at n by = record { params = []; lifetimes = []; asks = []; parts = inactive at n by ∷ [] }
