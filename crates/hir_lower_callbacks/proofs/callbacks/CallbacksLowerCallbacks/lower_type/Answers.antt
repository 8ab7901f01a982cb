use Rattle.std.proofs.lemmas.Grind.{common_steps}
use Rattle.std.proofs.Common.{arith}
use Rattle.hir_lower_callbacks.proofs.callbacks.CallbacksLowerCallbacks.lower_type.Goals as goal

pub type_ref-requires : goal.type_ref-requires
type_ref-requires g c = grind (arith, common_steps)

pub returns : goal.returns
returns g c = grind (arith, common_steps)
