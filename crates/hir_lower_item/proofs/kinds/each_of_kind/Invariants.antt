use Rattle.std.proofs.Common.{◌≡◌, ◌++◌, length, map}
use Rattle.hir_lower_item.specs.Kinds.{of_kind}
use Rattle.hir_lower_item.proofs.kinds.each_of_kind.Given as goal

abbrev pub invariant-loop-left : goal.invariant-loop-left
invariant-loop-left l = map (of_kind l.named) l.fn.left ≡ l.done ++ map (of_kind l.named) l.left

abbrev pub decreases-loop-left : goal.decreases-loop-left
decreases-loop-left l = length l.left
