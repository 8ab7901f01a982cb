use Rattle.std.proofs.Common.{arith}
use Rattle.std.proofs.lemmas.Grind.{common_steps}
use Rattle.hir_lower_builder.specs.Forms.{let_stmt_form}
use Rattle.hir_lower_expr.proofs.lets.kept_let.Goals as goal

pub returns-in_err-else_branch : goal.returns-in_err-else_branch
unfolding let_stmt_form
returns-in_err-else_branch g c = grind (arith, common_steps)

pub returns : goal.returns
unfolding let_stmt_form
returns g c = grind (arith, common_steps)

pub returns-in_err-initializer : goal.returns-in_err-initializer
unfolding let_stmt_form
returns-in_err-initializer g c = grind (arith, common_steps)
