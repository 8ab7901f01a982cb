use Rattle.std.proofs.Common.{arith}
use Rattle.std.proofs.lemmas.Grind.{common_steps}
use Rattle.hir_lower_bind.proofs.sides.OptionBoxedAstPatSidePart.lower_side.Goals as goal

pub returns-in-Some : goal.returns-in-Some
returns-in-Some g c = grind (arith, common_steps)

pub returns-in-None : goal.returns-in-None
returns-in-None g c = grind (arith, common_steps)

pub present_side-requires : goal.present_side-requires
present_side-requires g c = grind (arith, common_steps)
