use Rattle.std.proofs.lemmas.Grind.{common_steps}
use Rattle.std.proofs.Common.{arith}
use Rattle.json_nodes.proofs.type_parts.BoundsSortGroupTypeOfBoxedTypeBound.from_sort.Goals as goal

pub returns-in_default : goal.returns-in_default
returns-in_default g c = grind (arith, common_steps)

pub returns-in-Bound : goal.returns-in-Bound
returns-in-Bound g c = grind (arith, common_steps)
