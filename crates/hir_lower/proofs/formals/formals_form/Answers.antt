use Rattle.std.proofs.lemmas.Grind.{common_steps}
use Rattle.std.proofs.Common.{arith}
use Rattle.thm_body_result.specs.Formals.{lower_formals}
use Rattle.hir_lower.proofs.formals.formals_form.Goals as goal

pub returns-in_err-pats-in-Some : goal.returns-in_err-pats-in-Some
unfolding lower_formals
returns-in_err-pats-in-Some g c = grind (arith, common_steps)

pub returns-in_ok-pats-in-Some : goal.returns-in_ok-pats-in-Some
unfolding lower_formals
returns-in_ok-pats-in-Some g c = grind (arith, common_steps)

pub returns-in-None : goal.returns-in-None
unfolding lower_formals
returns-in-None g c = grind (arith, common_steps)
