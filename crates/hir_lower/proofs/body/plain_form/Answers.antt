use Rattle.std.proofs.lemmas.Grind.{common_steps}
use Rattle.std.proofs.Common.{arith}
use Rattle.thm_body_result.specs.Formals.{plain_body}
use Rattle.hir_lower.proofs.body.plain_form.Goals as goal

pub returns : goal.returns
unfolding plain_body
returns g c = grind (arith, common_steps)

pub returns-in_err-receiver : goal.returns-in_err-receiver
unfolding plain_body
returns-in_err-receiver g c = grind (arith, common_steps)

pub returns-in_err-root : goal.returns-in_err-root
unfolding plain_body
returns-in_err-root g c = grind (arith, common_steps)
