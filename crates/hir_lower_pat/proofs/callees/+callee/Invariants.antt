use Rattle.std.proofs.Common.{◌+◌, ◌*◌}
use Rattle.hir_env.specs.Count.{count_expr}
use Rattle.hir_env.specs.Whole.{resolved_expr}
use Rattle.hir_lower_pat.proofs.TargetCallees.{size_inside}
use Rattle.hir_lower_pat.proofs.callees.+callee.Given as goal

abbrev pub decreases-called_callee : goal.decreases-called_callee
decreases-called_callee g l = 2 * size_inside (g.P.LowerParts.rctx l.lowerer.now.parts) l.written.now + 1

abbrev pub decreases-callee : goal.decreases-callee
decreases-callee g l = 2 * count_expr (resolved_expr (g.P.LowerParts.rctx l.lowerer.now.parts) l.node.now)
