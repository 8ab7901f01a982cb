use Rattle.std.proofs.lemmas.Grind.{common_steps}
use Rattle.std.proofs.Common.{arith}
use Rattle.hir_store.proofs.Descends.{nothing_descends}
use Rattle.hir_store.proofs.builder.ExpressionStoreBuilder.new.Goals as goal

pub returns : goal.returns
returns c = grind (arith, common_steps)

pub invariant_of-result : goal.invariant_of-result
invariant_of-result c = grind (arith, common_steps, nothing_descends)
