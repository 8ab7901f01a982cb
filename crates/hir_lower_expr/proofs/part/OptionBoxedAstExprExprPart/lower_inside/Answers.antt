use Rattle.std.proofs.lemmas.Grind.{common_steps}
use Rattle.std.proofs.Common.{arith}
use Rattle.hir_lower_expr.proofs.part.OptionBoxedAstExprExprPart.lower_inside.Goals as goal

pub returns : goal.returns
returns g c = grind (arith, common_steps)

pub collect_expr_opt_inside-requires : goal.collect_expr_opt_inside-requires
collect_expr_opt_inside-requires g c = grind (arith, common_steps)
