use Rattle.std.proofs.Common.{◌+◌, ◌*◌}
use Rattle.hir_env.specs.Count.{count_expr}
use Rattle.hir_env.specs.Whole.{resolved_expr}
use Rattle.hir_lower_pat.proofs.TargetCallees.{size_inside}
use Rattle.hir_lower_pat.proofs.callees.+is_path.Given as goal

abbrev pub decreases-called_is_path : goal.decreases-called_is_path
decreases-called_is_path g l = 2 * size_inside (g.P.LowerParts.rctx l.lowerer.now.parts) l.written.now + 1

abbrev pub decreases-is_path : goal.decreases-is_path
decreases-is_path g l = 2 * count_expr (resolved_expr (g.P.LowerParts.rctx l.lowerer.now.parts) l.node.now)
