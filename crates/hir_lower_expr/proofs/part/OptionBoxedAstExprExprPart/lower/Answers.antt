use Rattle.std.proofs.lemmas.Grind.{common_steps}
use Rattle.std.proofs.Common.{arith}
use Rattle.hir_lower_expr.proofs.part.OptionBoxedAstExprExprPart.lower.Goals as goal

pub collect_expr_opt-requires : goal.collect_expr_opt-requires
collect_expr_opt-requires g c = grind (arith, common_steps)

pub returns : goal.returns
returns g c = grind (arith, common_steps)
