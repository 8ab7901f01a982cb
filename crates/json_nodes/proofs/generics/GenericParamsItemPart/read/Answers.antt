use Rattle.std.proofs.lemmas.Grind.{common_steps}
use Rattle.std.proofs.Common.{arith}
use Rattle.json_nodes.proofs.generics.GenericParamsItemPart.read.Goals as goal

pub generic_param-requires : goal.generic_param-requires
generic_param-requires g c = grind (arith, common_steps)

pub returns : goal.returns
returns g c = grind (arith, common_steps)
