use Rattle.std.proofs.lemmas.Grind.{common_steps}
use Rattle.std.proofs.Common.{arith}
use Rattle.lower_json.proofs.macros.legacy.Goals as goal

pub returns-in-len4 : goal.returns-in-len4
returns-in-len4 c = grind (arith, common_steps)
