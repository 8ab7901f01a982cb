use Rattle.std.proofs.Common.{◌≡◌, None, length}
use Rattle.lower_json.specs.PathTexts.{closed}
use Rattle.lower_json.proofs.path_text.closed.Given as goal

abbrev pub invariant-loop-byte : goal.invariant-loop-byte
invariant-loop-byte l = closed None l.text ≡ closed l.number l.rest

abbrev pub decreases-loop-byte : goal.decreases-loop-byte
decreases-loop-byte l = length l.rest
