use Rattle.std.proofs.lemmas.Grind.{common_steps}
use Rattle.std.proofs.Common.{arith}
use Rattle.hir_lower_bind.proofs.part.AstPatPatNode.lower_element.Goals as goal

pub returns : goal.returns
returns g c = grind (arith, common_steps)

pub lower_element-requires-clause-part : goal.lower_element-requires-clause-part
lower_element-requires-clause-part g c = grind (arith, common_steps)
