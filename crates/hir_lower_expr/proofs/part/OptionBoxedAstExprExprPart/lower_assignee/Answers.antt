use Rattle.std.proofs.lemmas.Grind.{common_steps}
use Rattle.std.proofs.Common.{arith}
use Rattle.hir_lower_expr.proofs.part.OptionBoxedAstExprExprPart.lower_assignee.Goals as goal

pub lower_target-requires : goal.lower_target-requires
lower_target-requires g c = grind (arith, common_steps)

pub returns : goal.returns
returns g c = grind (arith, common_steps)
