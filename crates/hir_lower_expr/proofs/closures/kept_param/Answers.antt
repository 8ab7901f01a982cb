use Rattle.std.proofs.Common.{rules}
use Rattle.hir_lower_builder.specs.Lower.{param_form}
use Rattle.hir_lower_expr.proofs.closures.kept_param.Goals as goal

pub returns : goal.returns
unfolding param_form
returns g c = search rules
