use Rattle.std.proofs.lemmas.Grind.{common_steps}
use Rattle.std.proofs.Common.{arith}
use Rattle.json_nodes.proofs.listed.ListedNodes.part_at.Goals as goal

pub returns-in_default-item_kind : goal.returns-in_default-item_kind
returns-in_default-item_kind g c = grind (arith, common_steps)

pub returns : goal.returns
returns g c = grind (arith, common_steps)
