use Rattle.std.proofs.Common.{rules}
use Rattle.hir_lower_builder.specs.Lower.{if_form}
use Rattle.hir_lower_expr.proofs.control.if_form.Goals as goal

pub returns : goal.returns
unfolding if_form
returns g c = search rules
