use Rattle.std.proofs.Common.{sym}
use Rattle.hir_lower_pat.specs.Assignees.{found_at}
use Rattle.hir_lower_pat.proofs.AssigneeSteps.{dots_in_parens, goes_through_parens}
use Rattle.hir_lower_bind.proofs.targets.paren_around.Goals as goal

pub returns-then-is_dots : goal.returns-then-is_dots
returns-then-is_dots g c =
    let rctx = g.T.Here.rctx c.args.parts.now in
    dots_in_parens (found_at rctx) c.args.call c.args.at (g.N.TargetNode.read rctx c.args.inner.now) c.args.state.now _ _
    (sym c.if-is_dots.ensures) c.dots_assignee.ensures

pub returns-else-is_dots : goal.returns-else-is_dots
returns-else-is_dots g c =
    let rctx = g.T.Here.rctx c.args.parts.now in
    goes_through_parens (found_at rctx) c.args.call c.args.at (g.N.TargetNode.read rctx c.args.inner.now) c.args.state.now _ _
    (sym c.if-is_dots.ensures) c.parens_around.ensures
