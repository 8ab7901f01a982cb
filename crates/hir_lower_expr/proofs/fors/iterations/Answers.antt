use Rattle.std.proofs.Common.{arith}
use Rattle.std.proofs.lemmas.Grind.{common_steps}
use Rattle.hir_lower_builder.specs.Made.{made_loop_form}
use Rattle.hir_lower_expr.proofs.fors.iterations.Goals as goal

pub returns-in_ok-body-in-None : goal.returns-in_ok-body-in-None
unfolding made_loop_form
returns-in_ok-body-in-None g c = grind (arith, common_steps)

pub returns-in_ok-body-in-Some : goal.returns-in_ok-body-in-Some
unfolding made_loop_form
returns-in_ok-body-in-Some g c = grind (arith, common_steps)
