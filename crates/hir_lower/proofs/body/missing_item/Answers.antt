use Rattle.std.proofs.lemmas.Grind.{common_steps}
use Rattle.std.proofs.Common.{arith}
use Rattle.hir_lower.specs.Roots.{body_of, report_missing}
use Rattle.hir_lower.proofs.body.missing_item.Goals as goal

pub returns : goal.returns
unfolding body_of report_missing
returns g c = grind (arith, common_steps)

pub returns-in_err-report : goal.returns-in_err-report
unfolding body_of report_missing
returns-in_err-report g c = grind (arith, common_steps)
