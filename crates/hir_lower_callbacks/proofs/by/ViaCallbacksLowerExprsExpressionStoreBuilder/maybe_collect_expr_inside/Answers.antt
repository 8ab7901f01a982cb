use Rattle.std.proofs.lemmas.Grind.{common_steps}
use Rattle.std.proofs.Common.{arith}
use Rattle.hir_lower_callbacks.proofs.by.ViaCallbacksLowerExprsExpressionStoreBuilder.maybe_collect_expr_inside.Goals as goal

pub returns : goal.returns
returns g c = grind (arith, common_steps)

pub maybe_collect_expr_inside-requires : goal.maybe_collect_expr_inside-requires
maybe_collect_expr_inside-requires g c = grind (arith, common_steps)
