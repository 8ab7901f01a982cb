use Rattle.std.proofs.lemmas.Grind.{common_steps}
use Rattle.std.proofs.Common.{arith}
use Rattle.hir_lower_callbacks.proofs.by.ViaCallbacksLowerAllExpressionStoreBuilder.lower_target.Goals as goal

pub returns : goal.returns
returns g c = grind (arith, common_steps)

pub lower_target-requires : goal.lower_target-requires
lower_target-requires g c = grind (arith, common_steps)
