use Rattle.std.proofs.lemmas.Grind.{common_steps}
use Rattle.std.proofs.Common.{arith}
use Rattle.hir_lower_pat.proofs.calls.expr_of.Goals as goal

pub returns-in_default : goal.returns-in_default
returns-in_default c = grind (arith, common_steps)

pub returns-in-Yes-default-Some-Expr : goal.returns-in-Yes-default-Some-Expr
returns-in-Yes-default-Some-Expr c = grind (arith, common_steps)
