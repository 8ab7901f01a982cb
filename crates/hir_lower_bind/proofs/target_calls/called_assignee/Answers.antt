use Rattle.std.proofs.Common.{arith}
use Rattle.std.proofs.lemmas.Grind.{common_steps}
use Rattle.hir_lower_bind.proofs.target_calls.called_assignee.Goals as goal

pub returns : goal.returns
returns g c = grind (arith, common_steps)

pub returns-in_err-call_form : goal.returns-in_err-call_form
returns-in_err-call_form g c = grind (arith, common_steps)
