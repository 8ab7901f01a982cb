use Rattle.std.proofs.lemmas.Grind.{common_steps}
use Rattle.std.proofs.Common.{arith}
use Rattle.lower_json.proofs.tree.boxed.Goals as goal

pub returns : goal.returns
returns g c = grind (arith, common_steps)

pub returns-in_err-part : goal.returns-in_err-part
returns-in_err-part g c = grind (arith, common_steps)
