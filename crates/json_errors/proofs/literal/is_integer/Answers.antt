use Rattle.json_errors.proofs.Digits.{is_integer-refused}
use Rattle.std.proofs.Common.{arith}
use Rattle.std.proofs.lemmas.Grind.{common_steps}
use Rattle.json_errors.proofs.literal.is_integer.Goals as goal

pub returns-in-None : goal.returns-in-None
returns-in-None c =
    let i = c.loop-byte.invariant in
    let byte = c.in-Some.byte.now in
    is_integer-refused c.args.text.now c.loop-byte.rest.now c.loop-byte.number byte c.in-Some.more.now c.in-Some.ensures.cases.0
    i.digits i.same c.in-None.ensures

pub returns : goal.returns
returns c = grind (arith, common_steps)
