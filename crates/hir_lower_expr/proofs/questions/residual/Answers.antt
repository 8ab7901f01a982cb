use Rattle.std.proofs.Common.{arith}
use Rattle.std.proofs.lemmas.Grind.{common_steps}
use Rattle.hir_lower_builder.specs.Made.{residual_form}
use Rattle.hir_lower_expr.proofs.questions.residual.Goals as goal

pub returns : goal.returns
unfolding residual_form
returns g c = grind (arith, common_steps)
