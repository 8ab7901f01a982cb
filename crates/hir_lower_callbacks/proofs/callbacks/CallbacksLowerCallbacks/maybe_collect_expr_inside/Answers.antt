use Rattle.std.proofs.lemmas.Grind.{common_steps}
use Rattle.std.proofs.Common.{arith}
use Rattle.hir_lower_callbacks.proofs.callbacks.CallbacksLowerCallbacks.maybe_collect_expr_inside.Goals as goal

pub returns : goal.returns
returns g c = grind (arith, common_steps)

pub expr-requires : goal.expr-requires
expr-requires g c = grind (arith, common_steps)
