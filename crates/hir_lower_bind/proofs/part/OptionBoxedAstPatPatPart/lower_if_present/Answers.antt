use Rattle.std.proofs.Common.{arith}
use Rattle.std.proofs.lemmas.Grind.{common_steps}
use Rattle.hir_lower_bind.proofs.part.OptionBoxedAstPatPatPart.lower_if_present.Goals as goal

pub returns-in-None : goal.returns-in-None
returns-in-None g c = grind (arith, common_steps)

pub returns-in_ok-lower_pat-in-Some : goal.returns-in_ok-lower_pat-in-Some
returns-in_ok-lower_pat-in-Some g c = grind (arith, common_steps)

pub lower_pat-requires-clause-part : goal.lower_pat-requires-clause-part
lower_pat-requires-clause-part g c = grind (arith, common_steps)
