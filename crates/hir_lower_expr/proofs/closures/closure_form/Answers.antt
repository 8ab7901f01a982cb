use Rattle.std.proofs.lemmas.Grind.{common_steps}
use Rattle.std.proofs.Common.{arith}
use Rattle.hir_lower_expr.proofs.closures.closure_form.Goals as goal

pub returns-in-true-true : goal.returns-in-true-true
returns-in-true-true g c = grind (arith, common_steps)

pub returns-in-false-true : goal.returns-in-false-true
returns-in-false-true g c = grind (arith, common_steps)
