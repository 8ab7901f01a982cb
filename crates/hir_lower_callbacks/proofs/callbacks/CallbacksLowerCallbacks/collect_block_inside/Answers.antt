use Rattle.std.proofs.lemmas.Grind.{common_steps}
use Rattle.std.proofs.Common.{arith}
use Rattle.hir_lower_callbacks.proofs.callbacks.CallbacksLowerCallbacks.collect_block_inside.Goals as goal

pub returns : goal.returns
returns g c = grind (arith, common_steps)

pub block-requires : goal.block-requires
block-requires g c = grind (arith, common_steps)
