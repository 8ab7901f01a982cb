use Rattle.std.proofs.Common.{◌+◌, ◌*◌}
use Rattle.hir_env.specs.Count.{count_expr, count_option_expr}
use Rattle.hir_env.specs.Whole.{resolved_expr, expr_part}
use Rattle.hir_lower_pat.proofs.TargetCallees.{size_inside}
use Rattle.hir_lower_expr.proofs.conditions.+holds_let.Given as goal

abbrev pub decreases-called_with_let : goal.decreases-called_with_let
decreases-called_with_let g l = 4 * size_inside (g.P.LowerParts.rctx l.lowerer.now.parts) l.call.now + 2

abbrev pub decreases-is_and_with_let : goal.decreases-is_and_with_let
decreases-is_and_with_let g l =
    let at = g.P.LowerParts.rctx l.lowerer.now.parts in
    4 * (count_option_expr (expr_part at l.lhs.now) + count_option_expr (expr_part at l.rhs.now)) + 3

abbrev pub decreases-is_kept_with_let : goal.decreases-is_kept_with_let
decreases-is_kept_with_let g l = 4 * count_expr (resolved_expr (g.P.LowerParts.rctx l.lowerer.now.parts) l.node.now)

abbrev pub decreases-is_with_let : goal.decreases-is_with_let
decreases-is_with_let g l = 4 * count_expr (resolved_expr (g.P.LowerParts.rctx l.lowerer.now.parts) l.node.now) + 1

abbrev pub decreases-holds_let : goal.decreases-holds_let
decreases-holds_let g l = 4 * count_option_expr (expr_part (g.P.LowerParts.rctx l.lowerer.now.parts) l.part.now) + 2
