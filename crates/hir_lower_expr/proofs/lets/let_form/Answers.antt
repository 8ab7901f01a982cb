use Rattle.std.proofs.Common.{arith}
use Rattle.std.proofs.lemmas.Grind.{common_steps}
use Rattle.hir_lower_builder.specs.Forms.{let_form}
use Rattle.hir_lower_expr.proofs.lets.let_form.Goals as goal

pub returns : goal.returns
unfolding let_form
returns g c = grind (arith, common_steps)
