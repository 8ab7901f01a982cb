use Rattle.std.proofs.lemmas.Grind.{common_steps}
use Rattle.std.proofs.Common.{arith}
use Rattle.hir_lower_item.proofs.params.param_node.Goals as goal

pub returns-in-ConstParam : goal.returns-in-ConstParam
returns-in-ConstParam c = grind (arith, common_steps)

pub returns-in-LifetimeParam : goal.returns-in-LifetimeParam
returns-in-LifetimeParam c = grind (arith, common_steps)

pub returns-in-TypeParam : goal.returns-in-TypeParam
returns-in-TypeParam c = grind (arith, common_steps)
