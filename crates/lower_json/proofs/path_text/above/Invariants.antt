use Rattle.std.proofs.Common.{◌≡◌, length}
use Rattle.lower_json.specs.PathTexts.{above}
use Rattle.lower_json.proofs.path_text.above.Given as goal

abbrev pub invariant-loop-name : goal.invariant-loop-name
invariant-loop-name l = above 1 l.names ≡ above l.levels l.rest

abbrev pub decreases-loop-name : goal.decreases-loop-name
decreases-loop-name l = length l.rest
