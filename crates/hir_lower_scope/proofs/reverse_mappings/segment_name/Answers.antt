use Rattle.std.proofs.lemmas.Grind.{common_steps}
use Rattle.std.proofs.Common.{arith}
use Rattle.hir_lower_scope.proofs.reverse_mappings.segment_name.Goals as goal

pub returns-in-Some : goal.returns-in-Some
returns-in-Some c = grind (arith, common_steps)

pub returns-in_default-name : goal.returns-in_default-name
returns-in_default-name c = grind (arith, common_steps)

pub returns-in-Some-SelfTypeKw : goal.returns-in-Some-SelfTypeKw
returns-in-Some-SelfTypeKw c = grind (arith, common_steps)

pub returns-in_default : goal.returns-in_default
returns-in_default c = grind (arith, common_steps)
