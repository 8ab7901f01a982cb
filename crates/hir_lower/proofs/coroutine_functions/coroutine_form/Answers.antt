use Rattle.std.proofs.lemmas.Grind.{common_steps}
use Rattle.std.proofs.Common.{arith}
use Rattle.hir_lower.specs.Formals.{behind_self}
use Rattle.thm_body_result.specs.Formals.{coroutine_body}
use Rattle.hir_lower.proofs.coroutine_functions.coroutine_form.Goals as goal

pub returns-in-None : goal.returns-in-None
unfolding coroutine_body behind_self
returns-in-None g c = grind (arith, common_steps)

pub returns-in_err-receiver-in-Some : goal.returns-in_err-receiver-in-Some
unfolding coroutine_body behind_self
returns-in_err-receiver-in-Some g c = grind (arith, common_steps)

pub returns-in_ok-receiver-in-Some : goal.returns-in_ok-receiver-in-Some
unfolding coroutine_body behind_self
returns-in_ok-receiver-in-Some g c = grind (arith, common_steps)

pub behind_self-requires-in-Some : goal.behind_self-requires-in-Some
unfolding coroutine_body behind_self
behind_self-requires-in-Some g c = grind (arith, common_steps)
