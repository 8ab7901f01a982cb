use Rattle.std.proofs.Common.{arith}
use Rattle.std.proofs.lemmas.Grind.{common_steps}
use Rattle.hir_lower_builder.specs.Forms.{assign_form}
use Rattle.hir_lower_expr.proofs.assignments.assign_form.Goals as goal

pub returns : goal.returns
unfolding assign_form
returns g c = grind (arith, common_steps)
