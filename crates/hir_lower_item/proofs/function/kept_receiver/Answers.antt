use Rattle.std.proofs.lemmas.Grind.{common_steps}
use Rattle.std.proofs.Common.{arith}
use Rattle.hir_lower_item.proofs.function.kept_receiver.Goals as goal

pub returns-in_ok-lower_type_node-in-Some : goal.returns-in_ok-lower_type_node-in-Some
returns-in_ok-lower_type_node-in-Some g c = grind (arith, common_steps)

pub returns-in_ok-self_form-in-None : goal.returns-in_ok-self_form-in-None
returns-in_ok-self_form-in-None g c = grind (arith, common_steps)
