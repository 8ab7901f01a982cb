use Rattle.std.proofs.Common.{length}
use Rattle.lower_listing.proofs.expansions.lines.Given as goal

abbrev pub decreases-loop-left : goal.decreases-loop-left
decreases-loop-left l = length l.left
