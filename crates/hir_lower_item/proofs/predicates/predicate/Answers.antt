use Rattle.std.proofs.lemmas.Grind.{common_steps}
use Rattle.std.proofs.Common.{arith}
use Rattle.hir_lower_item.proofs.predicates.predicate.Goals as goal

pub returns-in-Some-default : goal.returns-in-Some-default
returns-in-Some-default g c = grind (arith, common_steps)

pub returns-in-None-None : goal.returns-in-None-None
returns-in-None-None g c = grind (arith, common_steps)

pub returns-in-None-Some : goal.returns-in-None-Some
returns-in-None-Some g c = grind (arith, common_steps)
