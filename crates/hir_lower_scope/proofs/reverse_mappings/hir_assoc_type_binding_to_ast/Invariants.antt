use Rattle.std.proofs.Common.{◌≡◌, drop, slice_get}
use Rattle.spec_data.specs.Arguments.{bindings_among, kept_bindings}
use Rattle.hir_lower_scope.proofs.reverse_mappings.hir_assoc_type_binding_to_ast.Given as goal

abbrev pub invariant-loop-arg : goal.invariant-loop-arg
invariant-loop-arg l =
    slice_get (kept_bindings l.args) l.binding_index
    ≡ slice_get (bindings_among (drop l.arg-index l.args)) l.before
