use Rattle.std.proofs.lemmas.Grind.{common_steps}
use Rattle.std.proofs.Common.{arith}
use Rattle.lower_json.proofs.tables.triple.Goals as goal

pub returns-in_err-small-in-len3 : goal.returns-in_err-small-in-len3
returns-in_err-small-in-len3 c = grind (arith, common_steps)

pub returns-in_ok-small-in-len3 : goal.returns-in_ok-small-in-len3
returns-in_ok-small-in-len3 c = grind (arith, common_steps)

pub returns-in_err-site-in-len3 : goal.returns-in_err-site-in-len3
returns-in_err-site-in-len3 c = grind (arith, common_steps)
