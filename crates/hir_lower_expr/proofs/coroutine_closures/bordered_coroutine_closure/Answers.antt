use Rattle.std.proofs.Common.{arith}
use Rattle.std.proofs.lemmas.Grind.{common_steps}
use Rattle.hir_lower_builder.specs.Preludes.{coroutine_closure_form}
use Rattle.hir_lower_expr.proofs.coroutine_closures.bordered_coroutine_closure.Goals as goal

pub store_coroutine_closure-requires : goal.store_coroutine_closure-requires
unfolding coroutine_closure_form
store_coroutine_closure-requires g c = grind (arith, common_steps)

pub returns-in_err-args : goal.returns-in_err-args
unfolding coroutine_closure_form
returns-in_err-args g c = grind (arith, common_steps)

pub returns : goal.returns
unfolding coroutine_closure_form
returns g c = grind (arith, common_steps)
