use Rattle.std.proofs.lemmas.Grind.{common_steps}
use Rattle.std.proofs.Common.{arith}
use Rattle.hir_lower_item.proofs.params.kept_param.Goals as goal

pub returns-in-TypeParam : goal.returns-in-TypeParam
returns-in-TypeParam g c = rw c.in-TypeParam.is c.type_param.ensures

pub returns-in-LifetimeParam : goal.returns-in-LifetimeParam
returns-in-LifetimeParam g c = grind (arith, common_steps)

pub returns-in-ConstParam : goal.returns-in-ConstParam
returns-in-ConstParam g c = grind (arith, common_steps)
