use Rattle.std.proofs.lemmas.Grind.{common_steps}
use Rattle.std.proofs.Common.{arith}
use Rattle.hir_lower.proofs.formals.formal.Goals as goal

pub returns-in_ok-report-in-Err : goal.returns-in_ok-report-in-Err
returns-in_ok-report-in-Err g c = grind (arith, common_steps)

pub returns-in_ok-missing_pat-in-Ok : goal.returns-in_ok-missing_pat-in-Ok
returns-in_ok-missing_pat-in-Ok g c = grind (arith, common_steps)

pub returns-in_err-kept_form-in-Ok : goal.returns-in_err-kept_form-in-Ok
returns-in_err-kept_form-in-Ok g c = grind (arith, common_steps)

pub returns-in_ok-kept_form-in-Ok : goal.returns-in_ok-kept_form-in-Ok
returns-in_ok-kept_form-in-Ok g c = grind (arith, common_steps)
