use Rattle.std.proofs.Common.{rules}
use Rattle.hir_lower_builder.specs.Lower.{continue_form}
use Rattle.hir_lower_expr.proofs.jumps.continue_form.Goals as goal

pub returns : goal.returns
unfolding continue_form
returns g c = search rules
