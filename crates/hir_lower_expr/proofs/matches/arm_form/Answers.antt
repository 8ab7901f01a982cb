use Rattle.std.proofs.Common.{arith}
use Rattle.std.proofs.lemmas.Grind.{common_steps}
use Rattle.hir_lower_expr.proofs.matches.arm_form.Goals as goal

pub returns-in-Ok : goal.returns-in-Ok
returns-in-Ok g c = grind (arith, common_steps)

pub kept_arm-requires-clause-expr : goal.kept_arm-requires-clause-expr
kept_arm-requires-clause-expr g c = grind (arith, common_steps)

pub kept_arm-requires-clause-pat : goal.kept_arm-requires-clause-pat
kept_arm-requires-clause-pat g c = grind (arith, common_steps)

pub kept_arm-requires-clause-guard : goal.kept_arm-requires-clause-guard
kept_arm-requires-clause-guard g c = grind (arith, common_steps)

pub returns-in_ok-report-in-Err : goal.returns-in_ok-report-in-Err
returns-in_ok-report-in-Err g c = grind (arith, common_steps)
