use Rattle.std.proofs.lemmas.Grind.{common_steps}
use Rattle.std.proofs.Common.{arith}
use Rattle.hir_lower_bind.proofs.tuples.element.Goals as goal

pub returns-in_ok-push_pat-in-Some : goal.returns-in_ok-push_pat-in-Some
returns-in_ok-push_pat-in-Some g c = grind (arith, common_steps)
