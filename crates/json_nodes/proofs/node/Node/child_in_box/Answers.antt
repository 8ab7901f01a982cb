use Rattle.std.proofs.lemmas.Grind.{common_steps}
use Rattle.std.proofs.Common.{arith}
use Rattle.json_nodes.proofs.node.Node.child_in_box.Goals as goal

pub part_at-read-requires : goal.part_at-read-requires
part_at-read-requires g c = c.requires

pub returns-in_default-small : goal.returns-in_default-small
returns-in_default-small g c = grind (arith, common_steps)

pub returns-in-Some : goal.returns-in-Some
returns-in-Some g c = grind (arith, common_steps)

pub written_in_box-requires-text-text : goal.written_in_box-requires-text-text
written_in_box-requires-text-text g c = grind (arith, common_steps)

pub returns : goal.returns
returns g c = grind (arith, common_steps)
