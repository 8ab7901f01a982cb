use Rattle.std.proofs.lemmas.Grind.{common_steps}
use Rattle.std.proofs.Common.{arith}
use Rattle.hir_lower_item.proofs.params.lifetime_param.Goals as goal

pub returns-in-Some : goal.returns-in-Some
returns-in-Some g c = grind (arith, common_steps)

pub returns-in_ok-alloc_lifetime-in-None : goal.returns-in_ok-alloc_lifetime-in-None
returns-in_ok-alloc_lifetime-in-None g c = grind (arith, common_steps)
