use Rattle.std.proofs.Common.{length}
use Rattle.lower_cached.proofs.question.+was_asked.Given as goal

abbrev pub decreases-was_asked : goal.decreases-was_asked
decreases-was_asked l = length l.log.now
