use Rattle.std.proofs.Common.{◌≡◌, ◌++◌, length}
use Rattle.hir_lower_item.specs.Answering.{binder_names}
use Rattle.hir_lower_item.proofs.predicates.binder_names.Given as goal

abbrev pub invariant-loop-left : goal.invariant-loop-left
invariant-loop-left l = binder_names l.fn.left ≡ l.names ++ binder_names l.left

abbrev pub decreases-loop-left : goal.decreases-loop-left
decreases-loop-left l = length l.left
