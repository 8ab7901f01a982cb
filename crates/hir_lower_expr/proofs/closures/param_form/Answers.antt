use Rattle.std.proofs.Common.{arith}
use Rattle.std.proofs.lemmas.Grind.{common_steps}
use Rattle.hir_lower_expr.proofs.closures.param_form.Goals as goal

pub returns-in_ok-report-in-Err : goal.returns-in_ok-report-in-Err
returns-in_ok-report-in-Err g c = grind (arith, common_steps)

pub kept_param-requires-clause-pat : goal.kept_param-requires-clause-pat
kept_param-requires-clause-pat g c = grind (arith, common_steps)

pub kept_param-requires-clause-ty : goal.kept_param-requires-clause-ty
kept_param-requires-clause-ty g c = grind (arith, common_steps)

pub returns-in-Ok : goal.returns-in-Ok
returns-in-Ok g c = grind (arith, common_steps)
