use Rattle.std.proofs.Common.{arith}
use Rattle.std.proofs.lemmas.Grind.{common_steps}
use Rattle.hir_env.specs.Whole.{resolved_expr}
use Rattle.hir_lower_pat.proofs.AssigneeSteps.{listless_lowers, record_lowers}
use Rattle.hir_lower_bind.proofs.target_records.record_assignee.Goals as goal

pub returns-in-None : goal.returns-in-None
returns-in-None g c =
    let rctx = g.T.Here.rctx c.args.parts.now in
    listless_lowers rctx c.args.call c.args.at (resolved_expr rctx c.args.node.now) c.args.path.now c.args.list.now c.args.state.now _ _
    c.requires.is c.in-None.is c.place.ensures

pub returns-in-Some : goal.returns-in-Some
returns-in-Some g c =
    let rctx = g.T.Here.rctx c.args.parts.now in
    record_lowers rctx c.args.call c.args.at (resolved_expr rctx c.args.node.now) c.args.path.now c.args.list.now _ c.args.state.now _ _
    c.requires.is c.in-Some.is c.listed_assignee.ensures

pub listed_assignee-requires-clause-path : goal.listed_assignee-requires-clause-path
listed_assignee-requires-clause-path g c = grind (arith, common_steps)

pub place-requires : goal.place-requires
place-requires g c = grind (arith, common_steps)

pub listed_assignee-requires-clause-list : goal.listed_assignee-requires-clause-list
listed_assignee-requires-clause-list g c = grind (arith, common_steps)
