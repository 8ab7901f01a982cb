use Rattle.std.proofs.Common.{◌≡◌, ◌++◌, length}
use Rattle.hir_env.specs.Answering.{names_of}
use Rattle.hir_lower_builder.proofs.names.names_of.Given as goal

abbrev pub invariant-loop-left : goal.invariant-loop-left
invariant-loop-left l = names_of l.fn.left ≡ l.names ++ names_of l.left

abbrev pub decreases-loop-left : goal.decreases-loop-left
decreases-loop-left l = length l.left
