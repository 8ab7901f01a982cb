use Rattle.std.proofs.Common.{◌≡◌, ◌++◌, length, IsUtf8}
use Rattle.lower_json.specs.PathTexts as spec
use Rattle.lower_json.proofs.path_text.pieces.Given as goal

abbrev pub invariant-loop-piece : goal.invariant-loop-piece
invariant-loop-piece l = (spec.pieces l.text ≡ l.pieces ++ spec.pieces l.rest) × IsUtf8 l.rest

abbrev pub decreases-loop-piece : goal.decreases-loop-piece
decreases-loop-piece l = length l.rest
