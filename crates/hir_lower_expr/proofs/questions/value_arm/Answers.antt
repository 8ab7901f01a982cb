use Rattle.std.proofs.Common.{arith}
use Rattle.std.proofs.lemmas.Grind.{common_steps}
use Rattle.hir_lower_builder.specs.Made.{flow_arm_form}
use Rattle.hir_lower_expr.proofs.questions.value_arm.Goals as goal

pub returns : goal.returns
unfolding flow_arm_form
returns g c = grind (arith, common_steps)
