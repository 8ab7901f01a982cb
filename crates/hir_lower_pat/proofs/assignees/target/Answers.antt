use Rattle.std.proofs.Common.{refl}
use Rattle.hir_env.specs.Targets.{pointer_of}
use Rattle.hir_lower_pat.specs.Assignees.{found_at}
use Rattle.hir_lower_pat.proofs.AssigneeSteps.{target_lands}
use Rattle.hir_lower_pat.proofs.assignees.target.Goals as goal

pub returns : goal.returns
returns g c =
    let rctx = g.T.Here.rctx c.args.parts.now in
    let read = g.N.TargetNode.read rctx c.args.node.now in
    target_lands (found_at rctx) read (pointer_of read) c.args.state.now _ _ refl c.landed_target.ensures
