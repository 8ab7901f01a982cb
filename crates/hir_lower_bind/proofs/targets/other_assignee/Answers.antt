use Rattle.std.proofs.lemmas.Grind.{common_steps}
use Rattle.std.proofs.Common.{ap, arith}
use Rattle.hir_env.specs.Whole.{resolved_expr}
use Rattle.hir_lower_pat.specs.Assignees.{HasAssignee, assignee_of, found_at, place_assignee}
use Rattle.hir_lower_pat.proofs.AssigneeLemmas.{other_is}
use Rattle.hir_lower_pat.proofs.AssigneeSteps.{same_steps}
use Rattle.hir_lower_bind.proofs.targets.other_assignee.Goals as goal

pub returns : goal.returns
returns g c =
    let rctx = g.T.Here.rctx c.args.parts.now in
    let read = resolved_expr rctx c.args.node.now in
    let old = c.args.state.now in
    same_steps HasAssignee (assignee_of (found_at rctx) c.args.call read) (place_assignee read) old _ _
    (ap (λ p. p old) (other_is rctx c.args.call c.args.node.now c.requires.kind)) c.place.ensures

pub place-requires : goal.place-requires
place-requires g c = grind (arith, common_steps, other_is)
