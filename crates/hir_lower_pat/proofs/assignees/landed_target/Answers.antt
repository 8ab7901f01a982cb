use Rattle.std.proofs.Common.{arith}
use Rattle.std.proofs.lemmas.Grind.{common_steps}
use Rattle.hir_lower_pat.proofs.assignees.landed_target.Goals as goal

pub returns : goal.returns
returns g c = grind (arith, common_steps)
