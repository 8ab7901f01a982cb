use Rattle.std.proofs.lemmas.Grind.{common_steps}
use Rattle.std.proofs.Common.{arith}
use Rattle.hir_lower_bind.proofs.target_elements.element.Goals as goal

pub returns-after-dots : goal.returns-after-dots
returns-after-dots g c = grind (arith, common_steps)

pub returns-in_ok-push_pat-in-Some : goal.returns-in_ok-push_pat-in-Some
returns-in_ok-push_pat-in-Some g c = grind (arith, common_steps)

pub returns-in_err-element : goal.returns-in_err-element
returns-in_err-element g c = grind (arith, common_steps)
