use Rattle.std.proofs.lemmas.Grind.{common_steps}
use Rattle.std.proofs.Common.{arith}
use Rattle.json_nodes.proofs.path_parts.GenericArgsSortGroupPathOfTypeArgConstArgBoxedGenericArg.from_sort.Goals as goal

pub returns-in_default : goal.returns-in_default
returns-in_default g c = grind (arith, common_steps)

pub returns-in-GenericArg : goal.returns-in-GenericArg
returns-in-GenericArg g c = grind (arith, common_steps)

pub returns-in-ConstArg : goal.returns-in-ConstArg
returns-in-ConstArg g c = grind (arith, common_steps)

pub returns-in-TypeArg : goal.returns-in-TypeArg
returns-in-TypeArg g c = grind (arith, common_steps)
