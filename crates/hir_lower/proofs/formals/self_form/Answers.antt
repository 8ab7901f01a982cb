use Rattle.std.proofs.lemmas.Grind.{common_steps}
use Rattle.std.proofs.Common.{arith}
use Rattle.hir_lower.proofs.formals.self_form.Goals as goal

pub returns-in_ok-report-in-Err : goal.returns-in_ok-report-in-Err
returns-in_ok-report-in-Err g c = grind (arith, common_steps)

pub returns-in_ok-self_binding-in-Ok : goal.returns-in_ok-self_binding-in-Ok
returns-in_ok-self_binding-in-Ok g c = grind (arith, common_steps)
