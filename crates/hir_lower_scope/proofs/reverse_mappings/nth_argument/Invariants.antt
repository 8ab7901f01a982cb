use Rattle.std.proofs.Common.{◌≡◌, drop, slice_get}
use Rattle.spec_data.specs.Arguments.{arguments_among}
use Rattle.hir_lower_scope.proofs.reverse_mappings.nth_argument.Given as goal

abbrev pub invariant-loop-arg : goal.invariant-loop-arg
invariant-loop-arg l =
    slice_get (arguments_among l.args) l.index ≡ slice_get (arguments_among (drop l.arg-index l.args)) l.before
