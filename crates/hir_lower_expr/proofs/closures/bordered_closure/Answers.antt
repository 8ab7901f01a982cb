use Rattle.std.proofs.Common.{arith, rules}
use Rattle.std.proofs.lemmas.Grind.{common_steps}
use Rattle.hir_lower_builder.specs.Forms.{closure_form}
use Rattle.hir_lower_builder.specs.Lower.{closure_form}
use Rattle.hir_lower_expr.proofs.closures.bordered_closure.Goals as goal

pub returns : goal.returns
unfolding closure_form
returns g c = search rules

pub returns-in_err-ret_type : goal.returns-in_err-ret_type
unfolding closure_form
returns-in_err-ret_type g c = grind (arith, common_steps)

pub returns-in_err-body : goal.returns-in_err-body
unfolding closure_form
returns-in_err-body g c = grind (arith, common_steps)
