use Rattle.std.proofs.Common.{◌≡◌, length, ◌++◌, None}
use Rattle.std.specs.Prelude.{map}
use Rattle.hir_lower_builder.proofs.walk.absent_args.Given as goal

abbrev pub invariant-loop-left : goal.invariant-loop-left
invariant-loop-left l = map (λ n. None) l.fn.names ≡ l.args ++ map (λ n. None) l.left

abbrev pub decreases-loop-left : goal.decreases-loop-left
decreases-loop-left l = length l.left
