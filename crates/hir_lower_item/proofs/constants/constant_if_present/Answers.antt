use Rattle.std.proofs.lemmas.Grind.{common_steps}
use Rattle.std.proofs.Common.{arith}
use Rattle.hir_lower_item.proofs.constants.constant_if_present.Goals as goal

pub returns-in-None : goal.returns-in-None
returns-in-None g c = grind (arith, common_steps)

pub returns-in_ok-lower_constant-in-Some : goal.returns-in_ok-lower_constant-in-Some
returns-in_ok-lower_constant-in-Some g c = grind (arith, common_steps)
