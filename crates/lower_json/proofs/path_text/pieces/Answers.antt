use Rattle.std.proofs.Common.{◌∙◌, arith, rules}
use Rattle.std.proofs.lemmas.Str.Pattern.{split_once_first}
use Rattle.lower_json.specs.PathTexts.{pieces}
use Rattle.lower_json.proofs.Pieces.{one_more, onto}
use Rattle.lower_json.proofs.path_text.pieces.Goals as goal

pub loop-piece-preserved : goal.loop-piece-preserved
loop-piece-preserved c =
    let l = c.loop-piece in
    let piece = c.in-Some.piece.now in
    let more = c.in-Some.more.now in
    let item = c.in_ok-new.field-0 in
    let cut = rw c.in-Some.is at (split_once_first 58 l.rest.now c.split_once.result c.split_once.ensures.cases (omega arith)) in
    let iteration = one_more l.rest.now piece more cut.0 cut.1 cut.2 in
    let pushed = c.in_ok-push.ensures.ok in
    let moved = onto l.pieces c.push.new.self (pieces l.rest.now) (pieces more) item piece pushed c.in_ok-new.ensures iteration in
    (l.invariant.0 ∙ moved, search rules)
