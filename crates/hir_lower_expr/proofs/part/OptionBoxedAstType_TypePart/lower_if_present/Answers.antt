use Rattle.std.proofs.Common.{arith}
use Rattle.std.proofs.lemmas.Grind.{common_steps}
use Rattle.hir_lower_expr.proofs.part.OptionBoxedAstType_TypePart.lower_if_present.Goals as goal

pub returns : goal.returns
returns g c = grind (arith, common_steps)

pub type_if_present-requires : goal.type_if_present-requires
type_if_present-requires g c = grind (arith, common_steps)
