use Rattle.std.proofs.Common.{arith}
use Rattle.std.proofs.lemmas.Grind.{common_steps}
use Rattle.hir_lower_pat.proofs.assignees.path_form.Goals as goal

pub returns-in_ok-id-2 : goal.returns-in_ok-id-2
returns-in_ok-id-2 g c = grind (arith, common_steps)

pub returns-in_ok-id : goal.returns-in_ok-id
returns-in_ok-id g c = grind (arith, common_steps)
