use Rattle.std.proofs.lemmas.Grind.{common_steps}
use Rattle.std.proofs.Common.{arith}
use Rattle.lower_json.proofs.tables.context_with.Goals as goal

pub returns-in_err-context_id-in-len6 : goal.returns-in_err-context_id-in-len6
returns-in_err-context_id-in-len6 c = grind (arith, common_steps)

pub returns-in_err-frame-in-len6 : goal.returns-in_err-frame-in-len6
returns-in_err-frame-in-len6 c = grind (arith, common_steps)

pub returns-in_ok-frame-in-len6 : goal.returns-in_ok-frame-in-len6
returns-in_ok-frame-in-len6 c = grind (arith, common_steps)
