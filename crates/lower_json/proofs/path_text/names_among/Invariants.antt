use Rattle.std.proofs.Common.{◌≡◌, ◌++◌, drop, true}
use Rattle.lower_json.specs.PathTexts.{names_among}
use Rattle.lower_json.proofs.path_text.names_among.Given as goal

abbrev pub invariant-loop-piece : goal.invariant-loop-piece
invariant-loop-piece l =
    names_among true l.pieces ≡ l.names ++ names_among l.is_name (drop l.piece-index l.pieces)
