use Rattle.std.proofs.Common.{arith, rules}
use Rattle.std.proofs.lemmas.Grind.{common_steps}
use Rattle.hir_lower_builder.specs.Forms.{operand_form}
use Rattle.hir_lower_builder.specs.Lower.{operand_form}
use Rattle.hir_lower_expr.proofs.operators.prefix_form.Goals as goal

pub returns-in-None : goal.returns-in-None
unfolding operand_form
returns-in-None g c = search rules

pub returns-in-Some : goal.returns-in-Some
unfolding operand_form
returns-in-Some g c = grind (arith, common_steps)
