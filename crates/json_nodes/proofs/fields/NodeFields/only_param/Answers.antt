use Rattle.std.proofs.lemmas.Grind.{common_steps}
use Rattle.std.proofs.Common.{arith}
use Rattle.json_nodes.proofs.fields.NodeFields.only_param.Goals as goal

pub returns : goal.returns
returns g c = grind (arith, common_steps)
