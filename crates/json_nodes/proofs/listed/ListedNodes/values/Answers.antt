use Rattle.std.proofs.lemmas.Grind.{common_steps}
use Rattle.std.proofs.Common.{arith}
use Rattle.json_nodes.proofs.listed.ListedNodes.values.Goals as goal

pub returns : goal.returns
returns g c = grind (arith, common_steps)

pub returns-in_err-get : goal.returns-in_err-get
returns-in_err-get g c = grind (arith, common_steps)

pub returns-in_err-at : goal.returns-in_err-at
returns-in_err-at g c = grind (arith, common_steps)

pub returns-in_err-as_array : goal.returns-in_err-as_array
returns-in_err-as_array g c = grind (arith, common_steps)
