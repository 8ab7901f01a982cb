use Rattle.std.proofs.lemmas.Grind.{common_steps}
use Rattle.std.proofs.Common.{arith}
use Rattle.json_nodes.proofs.param_parts.ParamListsSortGroupParamOfBoxedParamList.from_sort.Goals as goal

pub returns-in-ParamList : goal.returns-in-ParamList
returns-in-ParamList c = grind (arith, common_steps)

pub returns-in_default : goal.returns-in_default
returns-in_default c = grind (arith, common_steps)
