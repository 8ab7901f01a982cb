use Rattle.std.proofs.Common.{arith}
use Rattle.std.proofs.lemmas.Grind.{common_steps}
use Rattle.hir_env.specs.Whole.{resolved_expr}
use Rattle.hir_lower_pat.proofs.TargetLists.{argless_lowers, call_lowers, calleeless_lowers, pathless_lowers}
use Rattle.hir_lower_bind.proofs.target_calls.call_assignee.Goals as goal

pub returns-in-None : goal.returns-in-None
returns-in-None g c =
    let rctx = g.T.Here.rctx c.args.parts.now in
    calleeless_lowers rctx c.args.call c.args.at (resolved_expr rctx c.args.node.now) c.args.callee.now c.args.args.now c.args.state.now _ _
    c.requires.is c.in-None.is c.place.ensures

pub returns-in-None-args : goal.returns-in-None-args
returns-in-None-args g c =
    let rctx = g.T.Here.rctx c.args.parts.now in
    argless_lowers rctx c.args.call c.args.at (resolved_expr rctx c.args.node.now) c.args.callee.now c.args.args.now c.args.state.now _ _
    c.requires.is c.in-None-args.is c.place-in-None-args.ensures

pub returns-then-is_path : goal.returns-then-is_path
returns-then-is_path g c =
    let rctx = g.T.Here.rctx c.args.parts.now in
    call_lowers rctx c.args.call c.args.at (resolved_expr rctx c.args.node.now) c.args.callee.now c.args.args.now _ _ _ c.args.state.now _ _
    c.requires.is c.in-Some.is c.in-Some-args.is c.get-callee.ensures c.if-is_path.ensures c.called_assignee.ensures

pub returns-else-is_path : goal.returns-else-is_path
returns-else-is_path g c =
    let rctx = g.T.Here.rctx c.args.parts.now in
    pathless_lowers rctx c.args.call c.args.at (resolved_expr rctx c.args.node.now) c.args.callee.now c.args.args.now _ _
    c.args.state.now _ _
    c.requires.is c.in-Some.is c.get-callee.ensures c.if-is_path.ensures c.place-else-is_path.ensures

pub place-requires : goal.place-requires
place-requires g c = grind (arith, common_steps)

pub place-requires-in-None-args : goal.place-requires-in-None-args
place-requires-in-None-args g c = grind (arith, common_steps)

pub place-requires-else-is_path : goal.place-requires-else-is_path
place-requires-else-is_path g c = grind (arith, common_steps)

pub called_assignee-requires-clause-callee : goal.called_assignee-requires-clause-callee
called_assignee-requires-clause-callee g c = grind (arith, common_steps)

pub called_assignee-requires-clause-args : goal.called_assignee-requires-clause-args
called_assignee-requires-clause-args g c = grind (arith, common_steps)
