use Rattle.std.proofs.lemmas.Grind.{common_steps}
use Rattle.std.proofs.Common.{◌≢◌, length, arith}
use Rattle.std.proofs.lemmas.Bool.Decides.{nat_tests}
use Rattle.lower_json.proofs.Tuples.{not_five}
use Rattle.lower_json.proofs.resolve.said_in.Goals as goal

pub returns-in_default : goal.returns-in_default
returns-in_default c =
    let apart : length c.args.items.now ≢ 5 = grind (arith, nat_tests) in
    not_five c.args.items.now apart

pub returns-in-len5 : goal.returns-in-len5
returns-in-len5 c = grind (arith, common_steps)
