use Rattle.std.proofs.lemmas.Grind.{common_steps}
use Rattle.std.proofs.Common.{arith}
use Rattle.hir_lower_pat.proofs.callees.expr_behind.Goals as goal

pub returns-in_default : goal.returns-in_default
returns-in_default g c = grind (arith, common_steps)

pub returns-then-place-eq0 : goal.returns-then-place-eq0
returns-then-place-eq0 g c = grind (arith, common_steps)

pub returns-in-Expanded-default-Some-Expr-default : goal.returns-in-Expanded-default-Some-Expr-default
returns-in-Expanded-default-Some-Expr-default g c = grind (arith, common_steps)

pub overflow_sub-left : goal.overflow_sub-left
overflow_sub-left g c = grind (arith, common_steps)
