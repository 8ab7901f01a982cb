use Rattle.std.proofs.lemmas.Grind.{common_steps}
use Rattle.std.proofs.Common.{arith}
use Rattle.lower_json.proofs.tables.quadruple.Goals as goal

pub returns-in_err-two-in-len4 : goal.returns-in_err-two-in-len4
returns-in_err-two-in-len4 c = grind (arith, common_steps)

pub returns-in_ok-two-in-len4 : goal.returns-in_ok-two-in-len4
returns-in_ok-two-in-len4 c = grind (arith, common_steps)

pub returns-in_err-site-in-len4 : goal.returns-in_err-site-in-len4
returns-in_err-site-in-len4 c = grind (arith, common_steps)
