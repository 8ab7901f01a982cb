use Rattle.std.proofs.Common.{rules}
use Rattle.hir_lower_builder.specs.Lower.{call_form}
use Rattle.hir_lower_expr.proofs.calls.call_form.Goals as goal

pub returns : goal.returns
unfolding call_form
returns g c = search rules
