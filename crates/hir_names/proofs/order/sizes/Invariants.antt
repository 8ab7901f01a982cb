use Rattle.std.proofs.Common.{◌≡◌, length}
use Rattle.hir_names.proofs.order.sizes.Given as goal

abbrev pub invariant-loop-left : goal.invariant-loop-left
invariant-loop-left l = length l.sizes.items ≡ l.len

abbrev pub decreases-loop-left : goal.decreases-loop-left
decreases-loop-left l = l.left
