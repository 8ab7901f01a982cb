use Rattle.std.proofs.lemmas.Grind.{common_steps}
use Rattle.std.proofs.Common.{arith}
use Rattle.hir_lower_builder.specs.Forms.{offset_of_form}
use Rattle.hir_lower_expr.proofs.typed.offset_of_form.Goals as goal

pub returns : goal.returns
unfolding offset_of_form
returns g c = grind (arith, common_steps)
