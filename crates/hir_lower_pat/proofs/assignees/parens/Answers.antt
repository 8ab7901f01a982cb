use Rattle.std.proofs.lemmas.Grind.{common_steps}
use Rattle.std.proofs.Common.{arith}
use Rattle.hir_lower_pat.proofs.assignees.parens.Goals as goal

pub returns-in_ok-id-in-Gone : goal.returns-in_ok-id-in-Gone
returns-in_ok-id-in-Gone g c = grind (arith, common_steps)

pub returns-in-Pat : goal.returns-in-Pat
returns-in-Pat g c = grind (arith, common_steps)
