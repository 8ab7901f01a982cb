use Rattle.std.proofs.Common.{arith}
use Rattle.std.proofs.lemmas.Grind.{common_steps}
use Rattle.hir_lower_builder.specs.Forms.{operand_form}
use Rattle.hir_lower_expr.proofs.operators.field_form.Goals as goal

pub returns : goal.returns
unfolding operand_form
returns g c = grind (arith, common_steps)
