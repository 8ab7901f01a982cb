use Rattle.std.proofs.Common.{arith, ◌∙◌, ap, subst, sym, ◌≤◌}
use Rattle.std.proofs.lemmas.Grind.{common_steps}
use Rattle.hir_syntax.specs.declared.ast.ElseBranch.TheOpen.{ExprKind-F}
use Rattle.hir_syntax.specs.declared.ast.ExprKind.TheVariants as kind
use Rattle.hir_store.specs.Range.{HasPathOption}
use Rattle.hir_env.specs.Count.{count_expr}
use Rattle.hir_env.specs.Whole.{resolved_expr, path_part}
use Rattle.hir_lower_builder.specs.Calls.{found_of}
use Rattle.hir_lower_builder.specs.Lower.{lower_path}
use Rattle.hir_lower_builder.specs.Lowering.{Lowers}
use Rattle.hir_lower_builder.specs.Methods.{at_place}
use Rattle.hir_lower_pat.specs.Calls.{expr_lent}
use Rattle.hir_lower_pat.specs.TargetLists.{callee_call, callee_steps, callee_there}
use Rattle.hir_lower_pat.proofs.AssigneeLemmas.{opened}
use Rattle.hir_lower_pat.proofs.AssigneeSteps.{same_steps}
use Rattle.hir_lower_pat.proofs.TargetCallees.{call_callee, call_size, inside_size, lacking_callee, other_callee, path_callee, size_inside}
use Rattle.hir_lower_pat.proofs.TargetCalls.{expr_was_entered}
use Rattle.hir_lower_pat.proofs.TargetSteps.{found_lowers, unasked}
use Rattle.hir_lower_pat.proofs.TypePats.{handed_on}
use Rattle.hir_lower_pat.proofs.callees.+callee.Goals as goal

pub called_callee-returns-in_err-entered : goal.called_callee-returns-in_err-entered
called_callee-returns-in_err-entered g t c =
    let at = g.P.LowerParts.rctx c.args.lowerer.now.parts in
    handed_on HasPathOption (callee_call at c.args.written.now) c.args.state.now _ c.from_residual.result c.enter.new.state
    c.from_residual.ensures.1
    (λ other.
    let h = c.in_err-entered.ensures other in
    (unasked HasPathOption at c.args.written.now (callee_there at) c.args.state.now c.enter.new.state _ h.0, h.1))

pub called_callee-returns-in-Some : goal.called_callee-returns-in-Some
called_callee-returns-in-Some g t c =
    let at = g.P.LowerParts.rctx c.args.lowerer.now.parts in
    found_lowers HasPathOption at c.args.written.now (callee_there at) c.args.state.now c.enter.new.state
    (found_of c.in_ok-entered.entered) _ c.in_ok-entered.ensures.0 (sym c.expr_of.ensures ∙ ap expr_lent c.in-Some.is)
    _ c.callee.new.state c.in_ok-entered.ensures.1 (rw c.moved.ensures.rctx at c.callee.ensures)

pub called_callee-callee-requires : goal.called_callee-callee-requires
called_callee-callee-requires g t c κs within =
    let it = c.args.lowerer.now.parts in
    let at = g.P.LowerParts.rctx it in
    let can = g.P.LowerParts.can it in
    let call = c.args.written.now in
    let place = c.in-Some.place in
    let node = c.in-Some.node.now in
    let may = expr_was_entered at call
    (λ q x. can.target q x × (count_expr (resolved_expr (at_place at q) x) ≤ size_inside at call))
    (λ n f x es left asked.
    (g.met.P.LowerParts.target_call_kids it call n f x es c.requires left asked, inside_size at call n f x es left asked))
    c.args.state.now c.enter.new.state (found_of c.in_ok-entered.entered) c.in_ok-entered.ensures.0 place node
    (sym c.expr_of.ensures ∙ ap expr_lent c.in-Some.is) in
    let same = ap (λ s. count_expr (resolved_expr s node)) c.moved.ensures.rctx in
    let here = ap (λ s. s.place) c.moved.ensures.rctx in
    (omega (arith, c.decreases, may.1, same), (within.0, (within.1, rw here (c.moved.ensures.can.target place node may.0))))

pub callee-called_callee-requires : goal.callee-called_callee-requires
callee-called_callee-requires g t c κs within =
    let parts = c.args.lowerer.now.parts in
    let at = g.P.LowerParts.rctx parts in
    let is = opened (kind.rolls-MacroExpr _ ∙ sym c.in-MacroExpr.is) ∙ ap (λ o. ExprKind-F.MacroExpr o) c.in-Some.is in
    let may = rw is at (g.met.P.LowerParts.target_kids parts at.place c.args.node.now c.requires) in
    let size = call_size at c.in-Some.written c.args.node.now is in
    (omega (arith, c.decreases, size), (within.0, (within.1, may)))

pub callee-returns-in-Some : goal.callee-returns-in-Some
callee-returns-in-Some g t c =
    let at = g.P.LowerParts.rctx c.args.lowerer.now.parts in
    let is = opened (kind.rolls-MacroExpr _ ∙ sym c.in-MacroExpr.is) ∙ ap (λ o. ExprKind-F.MacroExpr o) c.in-Some.is in
    same_steps HasPathOption (callee_steps (resolved_expr at c.args.node.now)) (callee_call at c.in-Some.written) c.args.state.now _ _
    (call_callee at c.args.node.now c.in-Some.written c.args.state.now is) c.called_callee.ensures

pub callee-returns-in-None : goal.callee-returns-in-None
callee-returns-in-None g t c =
    let at = g.P.LowerParts.rctx c.args.lowerer.now.parts in
    let is = opened (kind.rolls-MacroExpr _ ∙ sym c.in-MacroExpr.is) ∙ ap (λ o. ExprKind-F.MacroExpr o) c.in-None.is in
    let steps = lacking_callee at c.args.node.now c.args.state.now is in
    grind (arith, common_steps, steps)

pub callee-returns-in-PathExpr : goal.callee-returns-in-PathExpr
callee-returns-in-PathExpr g t c =
    let at = g.P.LowerParts.rctx c.args.lowerer.now.parts in
    let path = c.in-PathExpr.path in
    let is = opened (kind.rolls-PathExpr _ ∙ sym c.in-PathExpr.is) in
    same_steps HasPathOption (callee_steps (resolved_expr at c.args.node.now)) (lower_path (path_part at path)) c.args.state.now _ _
    (path_callee at c.args.node.now path c.args.state.now is)
    (subst (λ p. Lowers HasPathOption (lower_path (path_part (at_place at p) path)) c.args.state.now c.lower.result c.lower.new.state)
    c.place.ensures c.lower.ensures)

pub callee-lower-requires : goal.callee-lower-requires
callee-lower-requires g t c =
    let parts = c.args.lowerer.now.parts in
    let at = g.P.LowerParts.rctx parts in
    let is = opened (kind.rolls-PathExpr _ ∙ sym c.in-PathExpr.is) in
    rw c.place.ensures (rw is at (g.met.P.LowerParts.target_kids parts at.place c.args.node.now c.requires))

pub callee-returns-in_default : goal.callee-returns-in_default
callee-returns-in_default g t c =
    let at = g.P.LowerParts.rctx c.args.lowerer.now.parts in
    let steps = other_callee at c.args.node.now c.in_default.not-PathExpr c.in_default.not-MacroExpr c.args.state.now in
    grind (arith, common_steps, steps)
