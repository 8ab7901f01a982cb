use Rattle.std.proofs.Common.{arith, rules}
use Rattle.std.proofs.lemmas.Grind.{common_steps}
use Rattle.hir_lower_builder.specs.Forms.{loop_form}
use Rattle.hir_lower_builder.specs.Lower.{loop_form}
use Rattle.hir_lower_expr.proofs.control.loop_form.Goals as goal

pub returns-in_ok-body-in-Some : goal.returns-in_ok-body-in-Some
unfolding loop_form
returns-in_ok-body-in-Some g c = search rules

pub returns-in_ok-body-in-None : goal.returns-in_ok-body-in-None
unfolding loop_form
returns-in_ok-body-in-None g c = grind (arith, common_steps)
