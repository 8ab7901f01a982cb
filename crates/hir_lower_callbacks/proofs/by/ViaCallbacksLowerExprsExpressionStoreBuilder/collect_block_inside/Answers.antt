use Rattle.std.proofs.lemmas.Grind.{common_steps}
use Rattle.std.proofs.Common.{arith}
use Rattle.hir_lower_callbacks.proofs.by.ViaCallbacksLowerExprsExpressionStoreBuilder.collect_block_inside.Goals as goal

pub collect_block_inside-requires-clause-role : goal.collect_block_inside-requires-clause-role
collect_block_inside-requires-clause-role g c = grind (arith, common_steps)

pub returns : goal.returns
returns g c = grind (arith, common_steps)

pub collect_block_inside-requires-clause-part : goal.collect_block_inside-requires-clause-part
collect_block_inside-requires-clause-part g c = grind (arith, common_steps)
