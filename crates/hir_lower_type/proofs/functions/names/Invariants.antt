use Rattle.std.proofs.Common.{◌≡◌, ◌++◌, length}
use Rattle.hir_lower_type.specs.Params.{param_names}
use Rattle.hir_lower_type.proofs.functions.names.Given as goal

abbrev pub invariant-loop-left : goal.invariant-loop-left
invariant-loop-left l = param_names l.fn.left ≡ l.names ++ param_names l.left

abbrev pub decreases-loop-left : goal.decreases-loop-left
decreases-loop-left l = length l.left
