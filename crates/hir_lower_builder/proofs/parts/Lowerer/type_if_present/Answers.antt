use Rattle.std.proofs.lemmas.Grind.{common_steps}
use Rattle.std.proofs.Common.{arith}
use Rattle.hir_lower_builder.proofs.parts.Lowerer.type_if_present.Goals as goal

pub returns-in-None : goal.returns-in-None
returns-in-None c = grind (arith, common_steps)

pub lower_type-requires : goal.lower_type-requires
lower_type-requires c = grind (arith, common_steps)

pub returns-in_ok-lower_type-in-Some : goal.returns-in_ok-lower_type-in-Some
returns-in_ok-lower_type-in-Some c = grind (arith, common_steps)
