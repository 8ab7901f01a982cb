use Rattle.std.proofs.lemmas.Grind.{common_steps}
use Rattle.std.proofs.Common.{arith}
use Rattle.hir_lower_type.proofs.calls.type_of.Goals as goal

pub returns-in-Yes-default-Some-Type_ : goal.returns-in-Yes-default-Some-Type_
returns-in-Yes-default-Some-Type_ c = grind (arith, common_steps)

pub returns-in_default : goal.returns-in_default
returns-in_default c = grind (arith, common_steps)
