use Rattle.std.proofs.lemmas.Grind.{common_steps}
use Rattle.std.proofs.Common.{arith}
use Rattle.hir_lower_callbacks.proofs.callbacks.CallbacksLowerCallbacks.lower_args.Goals as goal

pub returns : goal.returns
returns g c = grind (arith, common_steps)

pub args-requires : goal.args-requires
args-requires g c = grind (arith, common_steps)
