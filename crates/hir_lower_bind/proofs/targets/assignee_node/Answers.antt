use Rattle.std.proofs.Common.{arith, ◌∙◌, ap, sym}
use Rattle.std.proofs.lemmas.Grind.{common_steps}
use Rattle.hir_env.specs.ResolveCtx.{site_of}
use Rattle.hir_env.specs.Whole.{resolved_expr}
use Rattle.hir_lower_pat.specs.Assignees.{HasAssignee, assignee_of, found_at, place_assignee}
use Rattle.hir_lower_pat.proofs.AssigneeLemmas.{enabled_is, disabled_is}
use Rattle.hir_lower_pat.proofs.AssigneeSteps.{same_steps}
use Rattle.hir_lower_bind.proofs.targets.assignee_node.Goals as goal

pub kept_assignee-requires-clause-at : goal.kept_assignee-requires-clause-at
kept_assignee-requires-clause-at g c = grind (arith, common_steps, enabled_is, disabled_is)

pub kept_assignee-requires-clause-parts : goal.kept_assignee-requires-clause-parts
kept_assignee-requires-clause-parts g c = grind (arith, common_steps, enabled_is, disabled_is)

pub kept_assignee-requires-clause-place : goal.kept_assignee-requires-clause-place
kept_assignee-requires-clause-place g c = grind (arith, common_steps, enabled_is, disabled_is)

pub kept_assignee-requires-clause-enabled : goal.kept_assignee-requires-clause-enabled
kept_assignee-requires-clause-enabled g c = grind (arith, common_steps, enabled_is, disabled_is)

pub place-requires : goal.place-requires
place-requires g c = grind (arith, common_steps, enabled_is, disabled_is)

pub returns-in-Ok : goal.returns-in-Ok
returns-in-Ok g c = grind (arith, common_steps, enabled_is, disabled_is)

pub returns-in-Err : goal.returns-in-Err
returns-in-Err g c =
    let rctx = g.T.Here.rctx c.args.parts.now in
    let read = resolved_expr rctx c.args.node.now in
    let old = c.args.state.now in
    let asked = sym (c.cfg.ensures ∙ ap rctx.answers.cfg (c.site.ensures ∙ ap site_of c.pointer-at.ensures)) ∙ c.in-Err.is in
    same_steps HasAssignee (assignee_of (found_at rctx) c.args.call read) (place_assignee read) old _ _
    (ap (λ p. p old) (disabled_is rctx c.args.call c.args.node.now _ asked)) c.place.ensures

pub kept_assignee-requires-clause-uncalled : goal.kept_assignee-requires-clause-uncalled
kept_assignee-requires-clause-uncalled g c = grind (arith, common_steps, enabled_is, disabled_is)
