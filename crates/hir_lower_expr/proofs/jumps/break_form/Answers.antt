use Rattle.std.proofs.Common.{rules}
use Rattle.hir_lower_builder.specs.Lower.{break_form}
use Rattle.hir_lower_expr.proofs.jumps.break_form.Goals as goal

pub returns : goal.returns
unfolding break_form
returns g c = search rules
