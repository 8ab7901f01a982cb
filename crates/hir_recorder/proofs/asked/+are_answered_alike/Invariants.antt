use Rattle.std.proofs.Common.{length}
use Rattle.hir_recorder.proofs.asked.+are_answered_alike.Given as goal

abbrev pub decreases-are_answered_alike : goal.decreases-are_answered_alike
decreases-are_answered_alike g l = length l.asked.now
