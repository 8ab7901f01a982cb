use Rattle.std.proofs.lemmas.Grind.{common_steps}
use Rattle.std.proofs.Common.{arith}
use Rattle.hir_lower.specs.Roots.{body_of, report_missing}
use Rattle.hir_lower.proofs.body.kept_item.Goals as goal

pub returns-in-None : goal.returns-in-None
returns-in-None g c = rw c.in-None.is c.missing_item.ensures

pub returns-in-Some : goal.returns-in-Some
unfolding body_of report_missing
returns-in-Some g c = grind (arith, common_steps)
