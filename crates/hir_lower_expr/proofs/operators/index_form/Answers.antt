use Rattle.std.proofs.Common.{rules}
use Rattle.hir_lower_builder.specs.Lower.{operands_form}
use Rattle.hir_lower_expr.proofs.operators.index_form.Goals as goal

pub returns : goal.returns
unfolding operands_form
returns g c = search rules
