use Rattle.std.proofs.Common.{rules}
use Rattle.hir_lower_builder.specs.Lower.{await_form}
use Rattle.hir_lower_expr.proofs.operators.await_form.Goals as goal

pub returns : goal.returns
unfolding await_form
returns g c = search rules
