use Rattle.std.proofs.Common.{arith}
use Rattle.std.proofs.lemmas.Grind.{common_steps}
use Rattle.hir_lower_expr.proofs.part.OptionBoxedAstType_TypePart.lower.Goals as goal

pub returns : goal.returns
returns g c = grind (arith, common_steps)

pub type_or_error-requires : goal.type_or_error-requires
type_or_error-requires g c = grind (arith, common_steps)
