use Rattle.std.proofs.Common.{arith}
use Rattle.std.proofs.lemmas.Grind.{common_steps}
use Rattle.hir_lower_expr.proofs.records.field_form.Goals as goal

pub returns-in_ok-report-in-Err : goal.returns-in_ok-report-in-Err
returns-in_ok-report-in-Err g c = grind (arith, common_steps)

pub named_field-requires : goal.named_field-requires
named_field-requires g c = grind (arith, common_steps)

pub returns-in-Some : goal.returns-in-Some
returns-in-Some g c = grind (arith, common_steps)

pub returns-in-None : goal.returns-in-None
returns-in-None g c = grind (arith, common_steps)
