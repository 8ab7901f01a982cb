-- What the uses find in a store and its source map.
use Rattle.std.specs.Prelude.{◌≡◌, ◌<◌, ℕ, List, Contains, Bool, true, false, Option, Some, None, slice_get, option_and_then}
use Rattle.hir_store.specs.Bindings.{owner_at}
use Rattle.hir_store.specs.Pointers.{Pointer, value_at, flat_option}
use Rattle.hir_store.specs.Stored.{Store, SourceMap}
use Rattle.hir_store.specs.declared.hir.Expr.{Expr}
use Rattle.hir_store.specs.declared.hir.Expr.TheVariants as hir
use Rattle.hir_store.specs.declared.ids.BindingId.{BindingId}
use Rattle.hir_store.specs.declared.ids.ExprId.{ExprId}
use Rattle.hir_store.specs.declared.ids.PatId.{PatId}
use Rattle.hir_store.specs.declared.type_ref.TypeRef.{TypeRef}

abbrev pub is_call : Expr → Bool
is_call (hir.Call callee args) = true
is_call (hir.MethodCall receiver name generics args) = true
is_call _ = false

abbrev pub is_call_there : Option Expr → Bool
is_call_there None = false
is_call_there (Some e) = is_call e

-- the type that an expression casts to
abbrev pub cast_to : Store → Expr → Option TypeRef
cast_to store (hir.Cast operand t) = slice_get store.types t.0
cast_to store _ = None

abbrev pub cast_at : Store → SourceMap → Pointer → Option TypeRef
cast_at store source_map node =
    option_and_then (λ id. option_and_then (cast_to store) (slice_get store.exprs id.0)) (value_at source_map.expr_map node)

-- the node of the expression, or, where there is none, of the pattern
abbrev pub node_of : SourceMap → Option ExprId → Option PatId → Option Pointer
node_of source_map (Some id) _ = flat_option (slice_get source_map.expr_sources id.0)
node_of source_map None (Some id) = flat_option (slice_get source_map.pat_sources id.0)
node_of source_map None None = None

-- the node of the expression to which this node leads, or, where it leads to none, of the pattern that is assigned to
abbrev pub there_and_back : SourceMap → Pointer → Option Pointer
there_and_back source_map node = node_of source_map (value_at source_map.expr_map node) (value_at source_map.target_map node)

abbrev pub IsOwned : Store → ExprId → BindingId → Type 0
IsOwned store closure b = owner_at store.binding_owners b.0 ≡ Some closure

-- of the bindings below this number each that the closure owns is one of these
abbrev pub AllOwnedBelow : ℕ → Store → ExprId → List BindingId → Type 0
AllOwnedBelow end store closure bs = (b : BindingId) → b.0 < end → IsOwned store closure b → Contains bs b
