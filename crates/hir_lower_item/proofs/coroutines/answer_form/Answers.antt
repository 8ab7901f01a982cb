use Rattle.std.proofs.lemmas.Grind.{common_steps}
use Rattle.std.proofs.Common.{arith}
use Rattle.hir_lower_item.proofs.coroutines.answer_form.Goals as goal

pub returns-in_ok-coroutine_form-in-Some : goal.returns-in_ok-coroutine_form-in-Some
returns-in_ok-coroutine_form-in-Some c = grind (arith, common_steps)
