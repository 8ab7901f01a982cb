use Rattle.std.proofs.Common.{length}
use Rattle.hir_recorder.proofs.asked.+same_bools.Given as goal

abbrev pub decreases-same_bools : goal.decreases-same_bools
decreases-same_bools l = length l.one.now
