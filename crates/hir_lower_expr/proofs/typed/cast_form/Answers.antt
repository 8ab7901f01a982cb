use Rattle.std.proofs.lemmas.Grind.{common_steps}
use Rattle.std.proofs.Common.{arith}
use Rattle.hir_lower_builder.specs.Forms.{cast_form}
use Rattle.hir_lower_expr.proofs.typed.cast_form.Goals as goal

pub returns : goal.returns
unfolding cast_form
returns g c = grind (arith, common_steps)
