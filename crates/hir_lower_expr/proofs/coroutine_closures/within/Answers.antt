use Rattle.std.proofs.Common.{arith}
use Rattle.std.proofs.lemmas.Grind.{common_steps}
use Rattle.hir_lower_builder.specs.Preludes.{within_form}
use Rattle.hir_lower_expr.proofs.coroutine_closures.within.Goals as goal

pub returns-in_err-handed : goal.returns-in_err-handed
unfolding within_form
returns-in_err-handed g c = grind (arith, common_steps)

pub let_params-requires-clause-left : goal.let_params-requires-clause-left
unfolding within_form
let_params-requires-clause-left g c = grind (arith, common_steps)

pub returns-in_err-coroutine : goal.returns-in_err-coroutine
unfolding within_form
returns-in_err-coroutine g c = grind (arith, common_steps)

pub returns : goal.returns
unfolding within_form
returns g c = grind (arith, common_steps)

pub returns-in_err-body : goal.returns-in_err-body
unfolding within_form
returns-in_err-body g c = grind (arith, common_steps)

pub let_params-requires-clause-prelude : goal.let_params-requires-clause-prelude
unfolding within_form
let_params-requires-clause-prelude g c = grind (arith, common_steps)

pub made_coroutine-requires-clause-body : goal.made_coroutine-requires-clause-body
unfolding within_form
made_coroutine-requires-clause-body g c = grind (arith, common_steps)
