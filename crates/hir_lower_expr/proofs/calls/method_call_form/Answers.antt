use Rattle.std.proofs.Common.{arith, rules}
use Rattle.std.proofs.lemmas.Grind.{common_steps}
use Rattle.hir_lower_builder.specs.Forms.{method_call_form}
use Rattle.hir_lower_builder.specs.Lower.{method_call_form}
use Rattle.hir_lower_expr.proofs.calls.method_call_form.Goals as goal

pub returns : goal.returns
unfolding method_call_form
returns g c = search rules

pub returns-in_err-generic_args : goal.returns-in_err-generic_args
unfolding method_call_form
returns-in_err-generic_args g c = grind (arith, common_steps)

pub alloc_expr-requires : goal.alloc_expr-requires
unfolding method_call_form
alloc_expr-requires g c = grind (arith, common_steps)
