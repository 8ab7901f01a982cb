use Rattle.std.proofs.Common.{arith, rules}
use Rattle.std.proofs.lemmas.Grind.{common_steps}
use Rattle.hir_lower_builder.specs.Forms.{coroutine_form}
use Rattle.hir_lower_builder.specs.Lower.{coroutine_form}
use Rattle.hir_lower_expr.proofs.coroutines.bordered_coroutine.Goals as goal

pub returns : goal.returns
unfolding coroutine_form
returns g c = search rules

pub returns-in_err-id : goal.returns-in_err-id
unfolding coroutine_form
returns-in_err-id g c = grind (arith, common_steps)
