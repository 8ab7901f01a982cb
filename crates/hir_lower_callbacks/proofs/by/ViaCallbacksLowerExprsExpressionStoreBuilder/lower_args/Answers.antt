use Rattle.std.proofs.lemmas.Grind.{common_steps}
use Rattle.std.proofs.Common.{arith}
use Rattle.hir_lower_callbacks.proofs.by.ViaCallbacksLowerExprsExpressionStoreBuilder.lower_args.Goals as goal

pub returns : goal.returns
returns g c = grind (arith, common_steps)

pub lower_args-requires : goal.lower_args-requires
lower_args-requires g c = grind (arith, common_steps)
