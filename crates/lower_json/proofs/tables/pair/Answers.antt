use Rattle.std.proofs.lemmas.Grind.{common_steps}
use Rattle.std.proofs.Common.{arith}
use Rattle.lower_json.proofs.tables.pair.Goals as goal

pub returns-in_ok-decision-in-len2 : goal.returns-in_ok-decision-in-len2
returns-in_ok-decision-in-len2 c = grind (arith, common_steps)

pub returns-in_err-decision-in-len2 : goal.returns-in_err-decision-in-len2
returns-in_err-decision-in-len2 c = grind (arith, common_steps)

pub returns-in_err-small-in-len2 : goal.returns-in_err-small-in-len2
returns-in_err-small-in-len2 c = grind (arith, common_steps)
