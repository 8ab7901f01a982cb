use Rattle.std.proofs.Common.{rules}
use Rattle.hir_lower_builder.specs.Lower.{value_form}
use Rattle.hir_lower_expr.proofs.leaving.yeet_form.Goals as goal

pub returns : goal.returns
unfolding value_form
returns g c = search rules
