use Rattle.std.proofs.lemmas.Grind.{common_steps}
use Rattle.std.proofs.Common.{arith}
use Rattle.hir_lower_callbacks.proofs.by.ViaCallbacksLowerAllExpressionStoreBuilder.top_pat.Goals as goal

pub returns : goal.returns
returns g c = grind (arith, common_steps)

pub top_pat-requires : goal.top_pat-requires
top_pat-requires g c = grind (arith, common_steps)
