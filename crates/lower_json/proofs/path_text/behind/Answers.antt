use Rattle.std.proofs.lemmas.Grind.{common_steps}
use Rattle.std.proofs.Common.{◌≡◌, None, arith}
use Rattle.lower_json.proofs.Pieces.{nothing_behind}
use Rattle.lower_json.proofs.path_text.behind.Goals as goal

pub returns-in_err-first : goal.returns-in_err-first
returns-in_err-first c =
    let l = c.loop-byte in
    let gone : c.from_residual.result ≡ None = grind arith in
    let ended = rw c.in_err-first.was at c.split_first.ensures.cases in
    rw gone (nothing_behind l.byte-index c.args.front.now c.args.text.now l.rest.now l.invariant (omega arith) ended)

pub loop-byte-preserved : goal.loop-byte-preserved
loop-byte-preserved c = grind (arith, common_steps)

pub returns-then-first-byte : goal.returns-then-first-byte
returns-then-first-byte c = grind (arith, common_steps)
