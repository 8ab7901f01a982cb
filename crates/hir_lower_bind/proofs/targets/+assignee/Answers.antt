use Rattle.std.proofs.Common.{arith, ◌≡◌, ◌∙◌, ap, sym, ◌<◌, ◌+◌, ◌*◌, refl, ◌≤◌, Some, None, Ok}
use Rattle.std.proofs.lemmas.Grind.{common_steps}
use Rattle.hir_syntax.specs.declared.ast.ElseBranch.TheOpen.{ExprKind-F}
use Rattle.hir_syntax.specs.declared.ast.ExprKind.{out-ExprKind}
use Rattle.hir_syntax.specs.declared.ast.ExprKind.TheVariants as kind
use Rattle.hir_env.specs.Count.{count_expr}
use Rattle.hir_env.specs.ResolveCtx.{site_of}
use Rattle.hir_env.specs.Whole.{resolved_expr, own_pointer, pointer_at}
use Rattle.hir_lower_builder.specs.Calls.{found_of}
use Rattle.hir_lower_builder.specs.Methods.{at_place}
use Rattle.hir_lower_builder.proofs.Inside.{call_less}
use Rattle.hir_lower_pat.specs.Assignees.{HandlesTarget, HandlesTargetElement, HasAssignee, assignee_of, element_found, found_at}
use Rattle.hir_lower_pat.specs.Assignees.{place_assignee}
use Rattle.hir_lower_pat.specs.Calls.{expr_lent, target_element_there, written_expr}
use Rattle.hir_lower_pat.proofs.AssigneeLemmas.{disabled_is, enabled_is, kept_below, no_call_left, opened}
use Rattle.hir_lower_pat.proofs.TargetCalls.{called_lowers, called_refused, expr_call_is, expr_was_entered, inner_lowers}
use Rattle.hir_lower_pat.proofs.TargetCalls.{inner_refused, lacking_expr_is, lacking_lowers, unasked_assignee}
use Rattle.hir_lower_pat.proofs.TargetKids.{kids}
use Rattle.hir_store.specs.Range.{HasPatOption}
use Rattle.hir_store.specs.declared.pat.Pat.TheVariants as pat
use Rattle.hir_env.specs.Targets.{origin, outermost}
use Rattle.hir_lower_builder.specs.Forms.{some}
use Rattle.hir_lower_builder.specs.Targets.{alloc_target, missing_target}
use Rattle.hir_lower_pat.specs.TargetLists.{element_call}
use Rattle.hir_lower_pat.specs.declared.assignees.Assignee.TheVariants as assignee
use Rattle.hir_lower_pat.proofs.AssigneeSteps.{same_steps}
use Rattle.hir_lower_pat.proofs.TargetCallees.{call_size, inside_size, size_inside}
use Rattle.hir_lower_pat.proofs.TargetElements.{call_element, lacking_element}
use Rattle.hir_lower_pat.proofs.TargetSteps.{dots_found, found, found_lowers, part_landed, part_unaimed, part_unlanded, some_lowers}
use Rattle.hir_lower_pat.proofs.TargetSteps.{some_refused, unasked}
use Rattle.hir_lower_pat.proofs.TypePats.{handed_on}
use Rattle.hir_lower_bind.proofs.targets.+assignee.Goals as goal

pub assignee-assignee_node-requires-clause-parts : goal.assignee-assignee_node-requires-clause-parts
assignee-assignee_node-requires-clause-parts g t c =
    let d = c.decreases in
    let parts = c.args.lowerer.now.parts in
    let node = c.args.node.now in
    let at = g.P.LowerParts.rctx parts in
    let size = kept_below at node in
    kids at (g.P.LowerParts.can parts)
    _
    (count_expr (resolved_expr at node))
    (λ x may h.
    let assignee_size : 4 * count_expr (resolved_expr at x) + 1 < t = omega (arith, h, d) in
    let element_size : 4 * count_expr (resolved_expr at x) + 2 < t = omega (arith, h, d) in (
      record {
        callable = λ v old call b same is. (rw same (rw is assignee_size), ((λ a m. m), rw same (rw is may)));
        assignees = λ v old new call b r same it q. rw (← it) (rw (← same) q.1);
      },
      record {
        callable = λ v old call b same is. (rw same (rw is element_size), ((λ a m. m), rw same (rw is may)));
        assignees = λ v old new call b r same it q. rw (← it) (rw (← same) q.1);
      },
    ))
    (pointer_at at node.id node.range) (out-ExprKind node.kind)
    (g.met.P.LowerParts.target_kids parts at.place node c.requires) size

pub assignee-assignee_node-requires-clause-place : goal.assignee-assignee_node-requires-clause-place
assignee-assignee_node-requires-clause-place g t c = g.met.P.LowerParts.target_place c.args.lowerer.now.parts c.args.node.now c.requires

pub assignee-assignee_node-requires-clause-uncalled : goal.assignee-assignee_node-requires-clause-uncalled
assignee-assignee_node-requires-clause-uncalled g t c = no_call_left c.args.node.now.kind c.in_default.not-MacroExpr

pub assignee-place-requires : goal.assignee-place-requires
assignee-place-requires g t c = g.met.P.LowerParts.target_place c.args.lowerer.now.parts c.args.node.now c.requires

pub assignee-returns-in-Err : goal.assignee-returns-in-Err
assignee-returns-in-Err g t c =
    let at = g.P.LowerParts.rctx c.args.lowerer.now.parts in
    let node = c.args.node.now in
    let read = resolved_expr at node in
    let old = c.args.state.now in
    let asked = sym (c.cfg.ensures ∙ ap at.answers.cfg (c.site.ensures ∙ ap site_of c.pointer-at.ensures)) ∙ c.in-Err.is in
    same_steps HasAssignee (assignee_of (found_at at) c.args.call read) (place_assignee read) old _ _
    (ap (λ p. p old) (disabled_is at c.args.call node _ asked)) c.place.ensures

pub assignee-assignee_called-requires : goal.assignee-assignee_called-requires
assignee-assignee_called-requires g t c κs within =
    let parts = c.args.lowerer.now.parts in
    let at = g.P.LowerParts.rctx parts in
    let node = c.args.node.now in
    let call = c.in-Some.written in
    let is = opened (kind.rolls-MacroExpr _ ∙ sym c.in-MacroExpr.is) ∙ ap (λ o. ExprKind-F.MacroExpr o) c.in-Some.is in
    let may = rw is at (g.met.P.LowerParts.target_kids parts at.place node c.requires) in
    let size = ap count_expr (expr_call_is at node call is) in
    let same = ap (λ s. count_expr (written_expr at s call)) c.pointer-at.ensures in
    let kept = kept_below at node in
    (omega (arith, c.decreases, size, same, kept), (within, may))

pub assignee-returns-in-Some : goal.assignee-returns-in-Some
assignee-returns-in-Some g t c =
    let at = g.P.LowerParts.rctx c.args.lowerer.now.parts in
    let node = c.args.node.now in
    let call = c.in-Some.written in
    let asked = sym (c.cfg.ensures ∙ ap at.answers.cfg (c.site.ensures ∙ ap site_of c.pointer-at.ensures)) ∙ c.in-Ok.is in
    let is = opened (kind.rolls-MacroExpr _ ∙ sym c.in-MacroExpr.is) ∙ ap (λ o. ExprKind-F.MacroExpr o) c.in-Some.is in
    rw (enabled_is at node asked) (rw (expr_call_is at node call is) (rw c.pointer-at.ensures at c.assignee_called.ensures))

pub assignee-returns-in-None : goal.assignee-returns-in-None
assignee-returns-in-None g t c =
    let at = g.P.LowerParts.rctx c.args.lowerer.now.parts in
    let node = c.args.node.now in
    let asked = sym (c.cfg.ensures ∙ ap at.answers.cfg (c.site.ensures ∙ ap site_of c.pointer-at.ensures)) ∙ c.in-Ok.is in
    let is = opened (kind.rolls-MacroExpr _ ∙ sym c.in-MacroExpr.is) ∙ ap (λ o. ExprKind-F.MacroExpr o) c.in-None.is in
    rw (enabled_is at node asked)
    (rw (lacking_expr_is at node is) (lacking_lowers at c.args.call (pointer_at at node.id node.range) c.args.state.now))

pub assignee_called-assignee-requires : goal.assignee_called-assignee-requires
assignee_called-assignee-requires g t c κs within =
    let it = c.args.lowerer.now.parts in
    let at = g.P.LowerParts.rctx it in
    let can = g.P.LowerParts.can it in
    let call = c.args.written.now in
    let place = c.in-Some.place in
    let node = c.in-Some.node.now in
    let may = expr_was_entered at call
    (λ q x. can.target q x × (count_expr (resolved_expr (at_place at q) x) < count_expr (written_expr at c.args.at call)))
    (λ n f x es left asked. (
      g.met.P.LowerParts.target_call_kids it call n f x es c.requires left asked,
      call_less at call n f x es c.args.at left asked,
    ))
    c.args.state.now c.enter.new.state (found_of c.in_ok-entered.entered) c.in_ok-entered.ensures.0 place node
    (sym c.expr_of.ensures ∙ ap expr_lent c.in-Some.is) in
    let same = ap (λ s. count_expr (resolved_expr s node)) c.moved-inside.ensures.rctx in
    let here = ap (λ s. s.place) c.moved-inside.ensures.rctx in
    (omega (arith, c.decreases, may.1, same), (within, rw here (c.moved-inside.ensures.can.target place node may.0)))

pub assignee_called-returns-in_err-entered : goal.assignee_called-returns-in_err-entered
assignee_called-returns-in_err-entered g t c =
    let at = g.P.LowerParts.rctx c.args.lowerer.now.parts in
    let call = c.args.call in
    let written = c.args.written.now in
    handed_on HasAssignee (assignee_of (found_at at) call (written_expr at c.args.at written)) c.args.state.now _ c.from_residual.result
    c.enter.new.state c.from_residual.ensures.1
    (λ other.
    let h = c.in_err-entered.ensures other in
    (unasked_assignee at call c.args.at written c.args.state.now c.enter.new.state _ h.0, h.1))

pub assignee_called-returns-in-None : goal.assignee_called-returns-in-None
assignee_called-returns-in-None g t c =
    let at = g.P.LowerParts.rctx c.args.lowerer.now.parts in
    called_lowers at c.args.call c.args.at c.args.written.now c.args.state.now c.enter.new.state (found_of c.in_ok-entered.entered) None
    c.in_ok-entered.ensures.0 (sym c.expr_of.ensures ∙ ap expr_lent c.in-None.is) _ _ c.in_ok-entered.ensures.1 c.uncalled_assignee.ensures

pub assignee_called-returns-in_err-inner-in-Some : goal.assignee_called-returns-in_err-inner-in-Some
assignee_called-returns-in_err-inner-in-Some g t c =
    let at = g.P.LowerParts.rctx c.args.lowerer.now.parts in
    let call = c.args.call in
    let written = c.args.written.now in
    let place = c.in-Some.place in
    let node = c.in-Some.node.now in
    let same = ap (λ a. assignee_of (found_at a) call (resolved_expr a node) c.enter.new.state) c.moved-inside.ensures.rctx in
    handed_on HasAssignee (assignee_of (found_at at) call (written_expr at c.args.at written)) c.args.state.now _
    c.from_residual-in_err-inner-in-Some.result c.assignee.new.state c.from_residual-in_err-inner-in-Some.ensures.1
    (λ other.
    let h = c.in_err-inner-in-Some.ensures other in
    let inner = inner_refused at call c.args.at place node c.enter.new.state c.assignee.new.state _ (sym same ∙ h.0) in (
      called_refused at call c.args.at written c.args.state.now c.enter.new.state (found_of c.in_ok-entered.entered) (Some (place, node))
          c.in_ok-entered.ensures.0 (sym c.expr_of.ensures ∙ ap expr_lent c.in-Some.is) _ c.assignee.new.state inner,
      h.1,
    ))

pub assignee_called-returns-in_ok-inner-in-Some : goal.assignee_called-returns-in_ok-inner-in-Some
assignee_called-returns-in_ok-inner-in-Some g t c =
    let at = g.P.LowerParts.rctx c.args.lowerer.now.parts in
    let call = c.args.call in
    let place = c.in-Some.place in
    let node = c.in-Some.node.now in
    let inner = rw c.moved-inside.ensures.rctx at c.in_ok-inner-in-Some.ensures in
    let source = c.source.ensures ∙ ap (λ a. outermost call (own_pointer a node)) c.moved-inside.ensures.rctx in
    called_lowers at call c.args.at c.args.written.now c.args.state.now c.enter.new.state (found_of c.in_ok-entered.entered)
    (Some (place, node)) c.in_ok-entered.ensures.0 (sym c.expr_of.ensures ∙ ap expr_lent c.in-Some.is) _ _ c.in_ok-entered.ensures.1
    (inner_lowers at call c.args.at place node c.enter.new.state c.assignee.new.state c.in_ok-inner-in-Some.inner c.source.result _ _ source
    inner c.called_assignee.ensures)

-- elements

pub element-called_element-requires : goal.element-called_element-requires
element-called_element-requires g t c κs within =
    let parts = c.args.lowerer.now.parts in
    let at = g.P.LowerParts.rctx parts in
    let node = c.args.node.now in
    let is = opened (kind.rolls-MacroExpr _ ∙ sym c.in-MacroExpr.is) ∙ ap (λ o. ExprKind-F.MacroExpr o) c.in-Some.is in
    let may = rw is at (g.met.P.LowerParts.target_kids parts at.place node c.requires) in
    let size = call_size at c.in-Some.written node is in
    (omega (arith, c.decreases, size), (within, may))

pub element-returns-in-Some : goal.element-returns-in-Some
element-returns-in-Some g t c =
    let at = g.P.LowerParts.rctx c.args.lowerer.now.parts in
    let node = c.args.node.now in
    let call = c.in-Some.written in
    let is = opened (kind.rolls-MacroExpr _ ∙ sym c.in-MacroExpr.is) ∙ ap (λ o. ExprKind-F.MacroExpr o) c.in-Some.is in
    let outer = c.outermost.ensures ∙ ap (outermost c.args.call) c.pointer-at.ensures in
    same_steps HasPatOption (element_found (found_at at) c.args.call (resolved_expr at node))
    (element_call at (outermost c.args.call (pointer_at at node.id node.range)) call) c.args.state.now _ _
    (call_element at c.args.call node call c.args.state.now is) (rw outer at c.called_element.ensures)

pub element-returns-in_ok-alloc_target-in-None : goal.element-returns-in_ok-alloc_target-in-None
element-returns-in_ok-alloc_target-in-None g t c =
    let at = g.P.LowerParts.rctx c.args.lowerer.now.parts in
    let node = c.args.node.now in
    let is = opened (kind.rolls-MacroExpr _ ∙ sym c.in-MacroExpr.is) ∙ ap (λ o. ExprKind-F.MacroExpr o) c.in-None.is in
    let made = rw c.pointer-at.ensures at c.in_ok-alloc_target-in-None.ensures in
    let steps = alloc_target pat.Missing (origin c.args.call (pointer_at at node.id node.range)) in
    same_steps HasPatOption (element_found (found_at at) c.args.call (resolved_expr at node)) (some steps) c.args.state.now
    (Ok (Some c.in_ok-alloc_target-in-None.field-0)) c.alloc_target.new.state
    (lacking_element at c.args.call node c.args.state.now is) (some_lowers steps c.args.state.now _ c.alloc_target.new.state made)

pub element-returns-in_err-alloc_target-in-None : goal.element-returns-in_err-alloc_target-in-None
element-returns-in_err-alloc_target-in-None g t c =
    let at = g.P.LowerParts.rctx c.args.lowerer.now.parts in
    let node = c.args.node.now in
    let is = opened (kind.rolls-MacroExpr _ ∙ sym c.in-MacroExpr.is) ∙ ap (λ o. ExprKind-F.MacroExpr o) c.in-None.is in
    let steps = alloc_target pat.Missing (origin c.args.call (pointer_at at node.id node.range)) in
    handed_on HasPatOption (element_found (found_at at) c.args.call (resolved_expr at node)) c.args.state.now _ c.from_residual.result
    c.alloc_target.new.state c.from_residual.ensures.1
    (λ other.
    let h = rw c.pointer-at.ensures at (c.in_err-alloc_target-in-None.ensures other) in (
      lacking_element at c.args.call node c.args.state.now is
          ∙ some_refused steps c.args.state.now _ c.alloc_target.new.state h.0,
      h.1,
    ))

pub element-returns-then-is_dots_kind : goal.element-returns-then-is_dots_kind
element-returns-then-is_dots_kind g t c =
    let at = g.P.LowerParts.rctx c.args.lowerer.now.parts in
    let node = c.args.node.now in
    let alone = no_call_left node.kind c.in_default.not-MacroExpr in
    let steps = dots_found at c.args.call node alone c.args.state.now (sym c.if-is_dots_kind.ensures) in
    grind (arith, common_steps, steps)

pub element-assignee-requires : goal.element-assignee-requires
element-assignee-requires g t c κs within = (omega (arith, c.decreases), (within, c.requires))

pub element-returns-in_err-found-in_default : goal.element-returns-in_err-found-in_default
element-returns-in_err-found-in_default g t c =
    let at = g.P.LowerParts.rctx c.args.lowerer.now.parts in
    let node = c.args.node.now in
    let alone = no_call_left node.kind c.in_default.not-MacroExpr in
    let parts = sym c.if-is_dots_kind.ensures in
    handed_on HasPatOption (element_found (found_at at) c.args.call (resolved_expr at node)) c.args.state.now _
    c.from_residual-in_err-found-in_default.result c.assignee.new.state c.from_residual-in_err-found-in_default.ensures.1
    (λ other.
    let h = c.in_err-found-in_default.ensures other in (
      part_unaimed at c.args.call node alone assignee.Gone (outermost c.args.call (own_pointer at node)) c.args.state.now
          c.assignee.new.state
          c.assignee.new.state parts refl _ h.0,
      h.1,
    ))

pub element-returns-in_err-land-in_default : goal.element-returns-in_err-land-in_default
element-returns-in_err-land-in_default g t c =
    let at = g.P.LowerParts.rctx c.args.lowerer.now.parts in
    let node = c.args.node.now in
    let alone = no_call_left node.kind c.in_default.not-MacroExpr in
    let parts = sym c.if-is_dots_kind.ensures in
    handed_on HasPatOption (element_found (found_at at) c.args.call (resolved_expr at node)) c.args.state.now _
    c.from_residual-in_err-land-in_default.result c.land.new.state c.from_residual-in_err-land-in_default.ensures.1
    (λ other.
    let h = c.in_err-land-in_default.ensures other in (
      part_unlanded at c.args.call node alone c.in_ok-found-in_default.found c.source.result c.args.state.now c.assignee.new.state
          c.land.new.state parts c.source.ensures _ c.in_ok-found-in_default.ensures h.0,
      h.1,
    ))

pub element-returns-in_ok-land-in_default : goal.element-returns-in_ok-land-in_default
element-returns-in_ok-land-in_default g t c =
    let at = g.P.LowerParts.rctx c.args.lowerer.now.parts in
    let node = c.args.node.now in
    let alone = no_call_left node.kind c.in_default.not-MacroExpr in
    let parts = sym c.if-is_dots_kind.ensures in
    part_landed at c.args.call node alone c.in_ok-found-in_default.found c.source.result c.args.state.now c.assignee.new.state
    c.land.new.state
    parts c.source.ensures _ c.in_ok-found-in_default.ensures c.in_ok-land-in_default.ensures

pub called_element-element-requires : goal.called_element-element-requires
called_element-element-requires g t c κs within =
    let it = c.args.lowerer.now.parts in
    let at = g.P.LowerParts.rctx it in
    let can = g.P.LowerParts.can it in
    let call = c.args.written.now in
    let place = c.in-Some.place in
    let node = c.in-Some.node.now in
    let may = expr_was_entered at call
    (λ q x. can.target q x × (count_expr (resolved_expr (at_place at q) x) ≤ size_inside at call))
    (λ n f x es left asked.
    (g.met.P.LowerParts.target_call_kids it call n f x es c.requires left asked, inside_size at call n f x es left asked))
    c.args.state.now c.enter.new.state (found_of c.in_ok-entered.entered) c.in_ok-entered.ensures.0 place node
    (sym c.expr_of.ensures ∙ ap expr_lent c.in-Some.is) in
    let same = ap (λ s. count_expr (resolved_expr s node)) c.moved.ensures.rctx in
    let here = ap (λ s. s.place) c.moved.ensures.rctx in
    (omega (arith, c.decreases, may.1, same), (within, rw here (c.moved.ensures.can.target place node may.0)))

pub called_element-returns-in_err-entered : goal.called_element-returns-in_err-entered
called_element-returns-in_err-entered g t c =
    let at = g.P.LowerParts.rctx c.args.lowerer.now.parts in
    handed_on HasPatOption (element_call at c.args.outer c.args.written.now) c.args.state.now _ c.from_residual.result c.enter.new.state
    c.from_residual.ensures.1
    (λ other.
    let h = c.in_err-entered.ensures other in
    (unasked HasPatOption at c.args.written.now (target_element_there at c.args.outer) c.args.state.now c.enter.new.state _ h.0, h.1))

pub called_element-returns-in_err-missing_target-in-None : goal.called_element-returns-in_err-missing_target-in-None
called_element-returns-in_err-missing_target-in-None g t c =
    let at = g.P.LowerParts.rctx c.args.lowerer.now.parts in
    let steps = missing_target (Some c.args.outer) in
    handed_on HasPatOption (element_call at c.args.outer c.args.written.now) c.args.state.now _
    c.from_residual-in_err-missing_target-in-None.result c.missing_target.new.state
    c.from_residual-in_err-missing_target-in-None.ensures.1
    (λ other.
    let h = c.in_err-missing_target-in-None.ensures other in (
      found HasPatOption at c.args.written.now (target_element_there at c.args.outer) c.args.state.now c.enter.new.state
          (found_of c.in_ok-entered.entered) None c.in_ok-entered.ensures.0 (sym c.expr_of.ensures ∙ ap expr_lent c.in-None.is)
          ∙ some_refused steps c.enter.new.state _ c.missing_target.new.state h.0,
      h.1,
    ))

pub called_element-returns-in_ok-missing_target-in-None : goal.called_element-returns-in_ok-missing_target-in-None
called_element-returns-in_ok-missing_target-in-None g t c =
    let at = g.P.LowerParts.rctx c.args.lowerer.now.parts in
    let steps = missing_target (Some c.args.outer) in
    found_lowers HasPatOption at c.args.written.now (target_element_there at c.args.outer) c.args.state.now c.enter.new.state
    (found_of c.in_ok-entered.entered) None c.in_ok-entered.ensures.0 (sym c.expr_of.ensures ∙ ap expr_lent c.in-None.is)
    (Ok (Some c.in_ok-missing_target-in-None.field-0)) c.missing_target.new.state c.in_ok-entered.ensures.1
    (some_lowers steps c.enter.new.state _ c.missing_target.new.state c.in_ok-missing_target-in-None.ensures)

pub called_element-returns-in-Some : goal.called_element-returns-in-Some
called_element-returns-in-Some g t c =
    let at = g.P.LowerParts.rctx c.args.lowerer.now.parts in
    found_lowers HasPatOption at c.args.written.now (target_element_there at c.args.outer) c.args.state.now c.enter.new.state
    (found_of c.in_ok-entered.entered) (Some (c.in-Some.place, c.in-Some.node.now)) c.in_ok-entered.ensures.0
    (sym c.expr_of.ensures ∙ ap expr_lent c.in-Some.is) _ c.element.new.state c.in_ok-entered.ensures.1
    (rw c.moved.ensures.rctx at c.element.ensures)

pub element-land-requires : goal.element-land-requires
element-land-requires g t c = grind (arith, common_steps)

pub assignee_called-called_assignee-requires : goal.assignee_called-called_assignee-requires
assignee_called-called_assignee-requires g t c = grind (arith, common_steps)
