use Rattle.std.proofs.lemmas.Grind.{common_steps}
use Rattle.std.proofs.Common.{arith}
use Rattle.hir_lower_callbacks.proofs.by.ViaCallbacksLowerExprsExpressionStoreBuilder.lower_type.Goals as goal

pub lower_type-requires : goal.lower_type-requires
lower_type-requires g c = grind (arith, common_steps)

pub returns : goal.returns
returns g c = grind (arith, common_steps)
