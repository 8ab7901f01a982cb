use Rattle.std.proofs.lemmas.Grind.{common_steps}
use Rattle.std.proofs.Common.{arith}
use Rattle.hir_lower_pat.proofs.parts.InsidePatByPatPartsExpressionStoreBuilder.lower_element.Goals as goal

pub returns : goal.returns
returns g c = grind (arith, common_steps)

pub element-requires : goal.element-requires
element-requires g c = grind (arith, common_steps)
