use Rattle.std.proofs.Common.{◌+◌, ◌*◌}
use Rattle.hir_env.specs.Count.{count_expr, count_option_expr}
use Rattle.hir_env.specs.Whole.{resolved_expr, into}
use Rattle.hir_lower_builder.specs.Inside.{inside_call}
use Rattle.hir_lower_pat.specs.Calls.{written_expr}
use Rattle.hir_lower_bind.proofs.targets.+assignee.Given as goal

abbrev pub decreases-assignee_called : goal.decreases-assignee_called
decreases-assignee_called g l = 4 * count_expr (written_expr (g.P.LowerParts.rctx l.lowerer.now.parts) l.at l.written.now)

-- what the call stands for, whatever its node
abbrev pub decreases-called_element : goal.decreases-called_element
decreases-called_element g l =
    let at = g.P.LowerParts.rctx l.lowerer.now.parts in
    4 * count_option_expr (inside_call at.answers (into at) at.place l.written.now) + 3

abbrev pub decreases-assignee : goal.decreases-assignee
decreases-assignee g l = 4 * count_expr (resolved_expr (g.P.LowerParts.rctx l.lowerer.now.parts) l.node.now) + 1

abbrev pub decreases-element : goal.decreases-element
decreases-element g l = 4 * count_expr (resolved_expr (g.P.LowerParts.rctx l.lowerer.now.parts) l.node.now) + 2
