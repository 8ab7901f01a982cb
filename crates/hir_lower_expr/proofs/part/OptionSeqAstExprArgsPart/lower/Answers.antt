use Rattle.std.proofs.lemmas.Grind.{common_steps}
use Rattle.std.proofs.Common.{arith}
use Rattle.hir_lower_expr.proofs.part.OptionSeqAstExprArgsPart.lower.Goals as goal

pub returns : goal.returns
returns g c = grind (arith, common_steps)

pub arguments-requires : goal.arguments-requires
arguments-requires g c = grind (arith, common_steps)
