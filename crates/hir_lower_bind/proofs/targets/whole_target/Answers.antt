use Rattle.std.proofs.Common.{arith}
use Rattle.std.proofs.lemmas.Grind.{common_steps}
use Rattle.hir_lower_bind.proofs.targets.whole_target.Goals as goal

pub returns-in_err-found : goal.returns-in_err-found
returns-in_err-found g c = grind (arith, common_steps)

pub returns : goal.returns
returns g c = grind (arith, common_steps)

pub land-requires : goal.land-requires
land-requires g c = grind (arith, common_steps)

pub assignee-requires : goal.assignee-requires
assignee-requires g c = grind (arith, common_steps)
