use Rattle.std.proofs.lemmas.Grind.{common_steps}
use Rattle.std.proofs.Common.{arith}
use Rattle.json_nodes.proofs.type_parts.TypesSortGroupTypeOfBoxedType_PathType.from_sort.Goals as goal

pub returns-in_default : goal.returns-in_default
returns-in_default g c = grind (arith, common_steps)

pub returns-in-Type_ : goal.returns-in-Type_
returns-in-Type_ g c = grind (arith, common_steps)

pub returns-in-PathType : goal.returns-in-PathType
returns-in-PathType g c = grind (arith, common_steps)
