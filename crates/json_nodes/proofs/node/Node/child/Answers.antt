use Rattle.std.proofs.lemmas.Grind.{common_steps}
use Rattle.std.proofs.Common.{arith}
use Rattle.json_nodes.proofs.node.Node.child.Goals as goal

pub written-requires-text-text : goal.written-requires-text-text
written-requires-text-text g c = grind (arith, common_steps)

pub returns-in_default-small : goal.returns-in_default-small
returns-in_default-small g c = grind (arith, common_steps)

pub returns : goal.returns
returns g c = grind (arith, common_steps)

pub part_at-requires : goal.part_at-requires
part_at-requires g c = c.requires

pub returns-in-Some : goal.returns-in-Some
returns-in-Some g c = grind (arith, common_steps)
