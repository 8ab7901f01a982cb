use Rattle.std.proofs.lemmas.Grind.{common_steps}
use Rattle.std.proofs.Common.{arith}
use Rattle.hir_lower_callbacks.proofs.by.ViaCallbacksLowerExprsExpressionStoreBuilder.read_path.Goals as goal

pub returns : goal.returns
returns g c = grind (arith, common_steps)

pub read_path-requires-clause-part : goal.read_path-requires-clause-part
read_path-requires-clause-part g c = grind (arith, common_steps)
