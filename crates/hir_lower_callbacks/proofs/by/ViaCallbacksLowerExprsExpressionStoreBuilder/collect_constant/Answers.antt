use Rattle.std.proofs.lemmas.Grind.{common_steps}
use Rattle.std.proofs.Common.{arith}
use Rattle.hir_lower_callbacks.proofs.by.ViaCallbacksLowerExprsExpressionStoreBuilder.collect_constant.Goals as goal

pub returns : goal.returns
returns g c = grind (arith, common_steps)

pub collect_constant-requires : goal.collect_constant-requires
collect_constant-requires g c = grind (arith, common_steps)
