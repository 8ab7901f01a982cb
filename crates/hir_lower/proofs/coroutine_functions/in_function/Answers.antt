use Rattle.std.proofs.lemmas.Grind.{common_steps}
use Rattle.std.proofs.Common.{arith}
use Rattle.thm_body_result.specs.Formals.{in_function}
use Rattle.hir_lower.proofs.coroutine_functions.in_function.Goals as goal

pub made_coroutine-requires-clause-body : goal.made_coroutine-requires-clause-body
unfolding in_function
made_coroutine-requires-clause-body g c = grind (arith, common_steps)

pub returns-in_err-own : goal.returns-in_err-own
unfolding in_function
returns-in_err-own g c = grind (arith, common_steps)

pub returns-in_err-handed : goal.returns-in_err-handed
unfolding in_function
returns-in_err-handed g c = grind (arith, common_steps)

pub let_params-requires-clause-left : goal.let_params-requires-clause-left
unfolding in_function
let_params-requires-clause-left g c = grind (arith, common_steps)

pub returns-in_err-coroutine : goal.returns-in_err-coroutine
unfolding in_function
returns-in_err-coroutine g c = grind (arith, common_steps)

pub let_self-requires : goal.let_self-requires
unfolding in_function
let_self-requires g c = grind (arith, common_steps)

pub returns-in_err-pats : goal.returns-in_err-pats
unfolding in_function
returns-in_err-pats g c = grind (arith, common_steps)

pub returns : goal.returns
unfolding in_function
returns g c = grind (arith, common_steps)

pub returns-in_err-body : goal.returns-in_err-body
unfolding in_function
returns-in_err-body g c = grind (arith, common_steps)
