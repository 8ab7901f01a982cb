use Rattle.std.proofs.Common.{◌∙◌, ap}
use Rattle.hir_lower_pat.proofs.AssigneeSteps.{path_lowers}
use Rattle.hir_lower_pat.proofs.assignees.path_assignee.Goals as goal

pub returns : goal.returns
returns g c =
    let rctx = g.H.Here.rctx c.args.parts.now in
    path_lowers rctx c.args.call c.args.at _ _ (g.W.PathPart.read rctx c.args.path.now) c.args.state.now _ _
    (c.hygiene-hygiene.ensures ∙ ap rctx.answers.hygiene c.site.ensures) c.read_path.ensures
