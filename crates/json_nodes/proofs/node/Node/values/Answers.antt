use Rattle.std.proofs.lemmas.Grind.{common_steps}
use Rattle.std.proofs.Common.{arith}
use Rattle.json_nodes.proofs.node.Node.values.Goals as goal

pub returns-in_err-as_array : goal.returns-in_err-as_array
returns-in_err-as_array g c = grind (arith, common_steps)

pub returns : goal.returns
returns g c = grind (arith, common_steps)
