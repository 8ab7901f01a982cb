use Rattle.std.proofs.Common.{rules}
use Rattle.hir_lower_builder.specs.Lower.{operand_form}
use Rattle.hir_lower_expr.proofs.operators.reference_form.Goals as goal

pub returns : goal.returns
unfolding operand_form
returns g c = search rules
