use Rattle.std.proofs.lemmas.Grind.{common_steps}
use Rattle.std.proofs.Common.{arith}
use Rattle.lower_json.proofs.read.parse.Goals as goal

pub returns-in-Ok-from_str-clause-value : goal.returns-in-Ok-from_str-clause-value
returns-in-Ok-from_str-clause-value c = grind (arith, common_steps)
