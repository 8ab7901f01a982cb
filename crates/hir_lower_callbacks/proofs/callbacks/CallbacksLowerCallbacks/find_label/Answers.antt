use Rattle.std.proofs.Common.{rules}
use Rattle.hir_lower_callbacks.proofs.callbacks.CallbacksLowerCallbacks.find_label.Goals as goal

pub returns : goal.returns
returns g c = search rules
