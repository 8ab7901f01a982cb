use Rattle.std.proofs.Common.{rules}
use Rattle.hir_lower_builder.specs.Lower.{iteration_form}
use Rattle.hir_lower_expr.proofs.control.iteration_form.Goals as goal

pub returns : goal.returns
unfolding iteration_form
returns g c = search rules
