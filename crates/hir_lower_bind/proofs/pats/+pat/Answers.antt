use Rattle.std.proofs.Common.{arith, ◌≡◌, ◌∙◌, ap, sym, ◌+◌, ◌*◌, ◌<◌, Some, None}
use Rattle.std.proofs.lemmas.Grind.{common_steps}
use Rattle.hir_syntax.specs.declared.ast.ElseBranch.TheOpen.{PatKind-F}
use Rattle.hir_syntax.specs.declared.pats.PatKind.{out-PatKind}
use Rattle.hir_syntax.specs.declared.pats.PatKind.TheVariants as kind
use Rattle.hir_store.specs.Range.{HasPatOption}
use Rattle.hir_env.specs.Count.{count_pat}
use Rattle.hir_env.specs.Whole.{resolved_pat, pointer_at}
use Rattle.hir_env.proofs.PatLevels.{pat_is_level}
use Rattle.hir_lower_builder.specs.Calls.{found_of}
use Rattle.hir_lower_builder.specs.Lower.{lower_pat}
use Rattle.hir_lower_builder.specs.Lowering.{go_on, pure}
use Rattle.hir_lower_builder.specs.Methods.{at_place}
use Rattle.hir_lower_builder.proofs.Inside.{pat_call_less}
use Rattle.hir_lower_pat.specs.Calls.{pat_lent, written_call}
use Rattle.hir_lower_pat.specs.Callbacks.{HandlesElement, HandlesPat}
use Rattle.hir_lower_pat.specs.Bindings.{table_of}
use Rattle.hir_lower_pat.specs.Methods.{element_steps}
use Rattle.hir_lower_pat.proofs.CallLemmas.{call_is, lacking_is, pat_on, rest_is, was_entered}
use Rattle.hir_lower_pat.proofs.ElementSteps.{inner_named, inner_refused, missing_named, missing_refused}
use Rattle.hir_lower_pat.proofs.ElementSteps.{part_named, refused_named, unasked}
use Rattle.hir_lower_pat.proofs.Elements.{part_left}
use Rattle.hir_lower_pat.proofs.Kids.{kids}
use Rattle.hir_lower_pat.proofs.KindLemmas.{no_call_left}
use Rattle.hir_lower_pat.proofs.NameLemmas.{names_grow}
use Rattle.hir_lower_pat.proofs.TypePats.{opened}
use Rattle.hir_lower_bind.proofs.pats.+pat.Goals as goal

pub lower_pat-pat_form-requires-clause-parts : goal.lower_pat-pat_form-requires-clause-parts
lower_pat-pat_form-requires-clause-parts g t c =
    let d = c.decreases in
    let parts = c.args.lowerer.now.parts in
    let node = c.args.node.now in
    let at = g.P.LowerParts.rctx parts in
    let can = g.P.LowerParts.can parts in
    let size = ap count_pat (pat_is_level at node) in
    kids at (can.pat at.place)
    (λ x. HandlesPat g.P.LowerParts.rctx _ _ c.args.lowerer.now x × HandlesElement g.P.LowerParts.rctx _ _ c.args.lowerer.now x)
    (can.path at.place) (can.pat_call at.place) (count_pat (resolved_pat at node))
    (λ x may h.
    let pat_size : 4 * count_pat (resolved_pat at x) + 1 < t = omega (arith, h, d) in
    let element_size : 4 * count_pat (resolved_pat at x) + 2 < t = omega (arith, h, d) in (
      record {
        callable = λ v old was b same is named. (rw same (rw is pat_size), ((λ a m. m), (rw same (rw is may), named)));
        lowers = λ v old new was is b r same it q. rw (← it) (rw (← same) q);
      },
      record {
        callable = λ v old was b same is named. (rw same (rw is element_size), ((λ a m. m), (rw same (rw is may), named)));
        lowers = λ v old new was is b r same it q. rw (← it) (rw (← same) q);
      },
    ))
    (pointer_at at node.id node.range) (out-PatKind node.kind)
    (g.met.P.LowerParts.pat_kids parts at.place node c.requires.part) (omega (arith, size))

pub called_pat-lower_pat-requires : goal.called_pat-lower_pat-requires
called_pat-lower_pat-requires g t c κs within =
    let it = c.args.lowerer.now.parts in
    let at = g.P.LowerParts.rctx it in
    let can = g.P.LowerParts.can it in
    let call = c.args.call.now in
    let place = c.in-Some.place in
    let node = c.in-Some.node.now in
    let may = was_entered at call
    (λ q x. can.pat q x × (count_pat (resolved_pat (at_place at q) x) < count_pat (written_call at c.args.at call)))
    (λ n f x es left asked. (
      g.met.P.LowerParts.pat_call_kids it call n f x es c.requires.part left asked,
      pat_call_less at call n f x es c.args.at left asked,
    ))
    c.args.state.now c.enter.new.state (found_of c.in_ok-entered.entered) c.in_ok-entered.ensures.0 place node
    (sym c.pat_of.ensures ∙ ap pat_lent c.in-Some.is) in
    let same = ap (λ s. count_pat (resolved_pat s node)) c.moved.ensures.rctx in
    let here = ap (λ s. s.place) c.moved.ensures.rctx in (
      omega (arith, c.decreases, may.1, same),
      (
        within,
        (
          rw here (c.moved.ensures.can.pat place node may.0),
          names_grow c.args.state.now.stored c.enter.new.state.stored c.args.bindings.now c.in_ok-entered.ensures.1 c.requires.names,
        ),
      ),
    )

pub called_pat-returns-in_err-entered : goal.called_pat-returns-in_err-entered
called_pat-returns-in_err-entered g t c = grind (arith, common_steps, pat_on)

pub called_pat-returns-in_err-pat-in-None : goal.called_pat-returns-in_err-pat-in-None
called_pat-returns-in_err-pat-in-None g t c = grind (arith, common_steps, pat_on)

pub called_pat-returns-in_err-pat-in-Some : goal.called_pat-returns-in_err-pat-in-Some
called_pat-returns-in_err-pat-in-Some g t c = grind (arith, common_steps, pat_on)

pub called_pat-returns-in_err-point_pat : goal.called_pat-returns-in_err-point_pat
called_pat-returns-in_err-point_pat g t c = grind (arith, common_steps, pat_on)

pub called_pat-returns : goal.called_pat-returns
called_pat-returns g t c = grind (arith, common_steps, pat_on)

pub called_element-lower_element-requires : goal.called_element-lower_element-requires
called_element-lower_element-requires g t c κs within =
    let it = c.args.lowerer.now.parts in
    let at = g.P.LowerParts.rctx it in
    let can = g.P.LowerParts.can it in
    let call = c.args.call.now in
    let place = c.in-Some.place in
    let node = c.in-Some.node.now in
    let may = was_entered at call
    (λ q x. can.pat q x × (count_pat (resolved_pat (at_place at q) x) < count_pat (written_call at c.args.at call)))
    (λ n f x es left asked. (
      g.met.P.LowerParts.pat_call_kids it call n f x es c.requires.part left asked,
      pat_call_less at call n f x es c.args.at left asked,
    ))
    c.args.state.now c.enter.new.state (found_of c.in_ok-entered.entered) c.in_ok-entered.ensures.0 place node
    (sym c.pat_of.ensures ∙ ap pat_lent c.in-Some.is) in
    let same = ap (λ s. count_pat (resolved_pat s node)) c.moved.ensures.rctx in
    let here = ap (λ s. s.place) c.moved.ensures.rctx in (
      omega (arith, c.decreases, may.1, same),
      (
        within,
        (
          rw here (c.moved.ensures.can.pat place node may.0),
          names_grow c.args.state.now.stored c.enter.new.state.stored c.args.bindings.now c.in_ok-entered.ensures.1 c.requires.names,
        ),
      ),
    )

pub called_element-returns-in_err-entered : goal.called_element-returns-in_err-entered
called_element-returns-in_err-entered g t c =
    let at = g.P.LowerParts.rctx c.args.lowerer.now.parts in
    refused_named HasPatOption (element_steps (written_call at c.args.at c.args.call.now)) c.args.bindings.now c.args.bindings.now
    c.args.state.now c.enter.new.state _ c.from_residual.result c.from_residual.ensures.1
    (λ other. let h = c.in_err-entered.ensures other in (
      unasked at c.args.at c.args.call.now c.args.bindings.now c.args.bindings.now c.args.state.now c.enter.new.state
          (table_of c.args.bindings.now) _ h.0,
      h.1,
    ))

pub called_element-returns-in_err-missing_form-in-None : goal.called_element-returns-in_err-missing_form-in-None
called_element-returns-in_err-missing_form-in-None g t c =
    let at = g.P.LowerParts.rctx c.args.lowerer.now.parts in
    let names = c.args.bindings.now in
    refused_named HasPatOption (element_steps (written_call at c.args.at c.args.call.now)) names names
    c.args.state.now c.missing_form.new.state _ c.from_residual-in_err-missing_form-in-None.result
    c.from_residual-in_err-missing_form-in-None.ensures.1
    (λ other. let h = c.in_err-missing_form-in-None.ensures other in (
      missing_refused at c.args.at c.args.call.now names names c.args.state.now c.enter.new.state (found_of c.in_ok-entered.entered)
          c.in_ok-entered.ensures.0 (sym c.pat_of.ensures ∙ ap pat_lent c.in-None.is) c.missing_form.new.state (table_of names) _ h.0,
      h.1,
    ))

pub called_element-returns-in_ok-missing_form-in-None : goal.called_element-returns-in_ok-missing_form-in-None
called_element-returns-in_ok-missing_form-in-None g t c =
    let at = g.P.LowerParts.rctx c.args.lowerer.now.parts in
    let names = c.args.bindings.now in
    missing_named at c.args.at c.args.call.now names names c.args.state.now c.enter.new.state (found_of c.in_ok-entered.entered)
    c.in_ok-entered.ensures.0 (sym c.pat_of.ensures ∙ ap pat_lent c.in-None.is) c.missing_form.new.state _
    c.in_ok-entered.ensures.1 c.requires.names c.in_ok-missing_form-in-None.ensures

pub called_element-returns-in_err-found-in-Some : goal.called_element-returns-in_err-found-in-Some
called_element-returns-in_err-found-in-Some g t c =
    let at = g.P.LowerParts.rctx c.args.lowerer.now.parts in
    let names = c.args.bindings.now in
    let node = c.in-Some.node.now in
    let same = ap (λ a. element_steps (resolved_pat a node) (table_of names) c.enter.new.state) c.moved.ensures.rctx in
    refused_named HasPatOption (element_steps (written_call at c.args.at c.args.call.now)) names c.lower_element.new.bindings
    c.args.state.now c.lower_element.new.state _ c.from_residual-in_err-found-in-Some.result
    c.from_residual-in_err-found-in-Some.ensures.1
    (λ other. let h = c.in_err-found-in-Some.ensures other in (
      inner_refused at c.args.at c.args.call.now names names c.args.state.now c.enter.new.state (found_of c.in_ok-entered.entered)
          c.in-Some.place node c.in_ok-entered.ensures.0 (sym c.pat_of.ensures ∙ ap pat_lent c.in-Some.is)
          (table_of names) _ c.lower_element.new.state (sym same ∙ h.0),
      h.1,
    ))

pub called_element-returns-in_ok-found-in-Some : goal.called_element-returns-in_ok-found-in-Some
called_element-returns-in_ok-found-in-Some g t c =
    let at = g.P.LowerParts.rctx c.args.lowerer.now.parts in
    let names = c.args.bindings.now in
    let node = c.in-Some.node.now in
    let inner = rw c.moved.ensures.rctx at c.in_ok-found-in-Some.ensures in
    inner_named at c.args.at c.args.call.now names c.lower_element.new.bindings c.args.state.now c.enter.new.state
    (found_of c.in_ok-entered.entered) c.in-Some.place node c.in_ok-entered.ensures.0
    (sym c.pat_of.ensures ∙ ap pat_lent c.in-Some.is) c.in_ok-found-in-Some.found c.lower_element.new.state c.point_element.new.state
    c.point_element.result c.in_ok-entered.ensures.1 inner c.point_element.ensures

pub lower_element-called_element-requires : goal.lower_element-called_element-requires
lower_element-called_element-requires g t c κs within =
    let parts = c.args.lowerer.now.parts in
    let at = g.P.LowerParts.rctx parts in
    let node = c.args.node.now in
    let call = c.in-Some.written in
    let is = opened (kind.rolls-MacroPat _ ∙ sym c.in-MacroPat.is) ∙ ap (λ o. PatKind-F.MacroPat o) c.in-Some.is in
    let may = rw is at (g.met.P.LowerParts.pat_kids parts at.place node c.requires.part) in
    let size = ap count_pat (call_is at node call is) in
    let same = ap (λ s. count_pat (written_call at s call)) c.pointer-at.ensures in
    (omega (arith, c.decreases, size, same), (within, (may, c.requires.names)))

pub lower_element-returns-in-Some : goal.lower_element-returns-in-Some
lower_element-returns-in-Some g t c =
    let at = g.P.LowerParts.rctx c.args.lowerer.now.parts in
    let call = c.in-Some.written in
    let is = opened (kind.rolls-MacroPat _ ∙ sym c.in-MacroPat.is) ∙ ap (λ o. PatKind-F.MacroPat o) c.in-Some.is in
    rw (call_is at c.args.node.now call is) (rw c.pointer-at.ensures at c.called_element.ensures)

pub lower_element-returns-in-RestPat : goal.lower_element-returns-in-RestPat
lower_element-returns-in-RestPat g t c =
    let at = g.P.LowerParts.rctx c.args.lowerer.now.parts in
    rw (rest_is at c.args.node.now (opened (kind.rolls-RestPat ∙ sym c.in-RestPat.is))) (grind (arith, common_steps))

pub lower_element-returns-in_err-alloc_pat-in-None : goal.lower_element-returns-in_err-alloc_pat-in-None
lower_element-returns-in_err-alloc_pat-in-None g t c =
    let at = g.P.LowerParts.rctx c.args.lowerer.now.parts in
    let is = opened (kind.rolls-MacroPat _ ∙ sym c.in-MacroPat.is) ∙ ap (λ o. PatKind-F.MacroPat o) c.in-None.is in
    rw (lacking_is at c.args.node.now is) (grind (arith, common_steps))

pub lower_element-returns-in_ok-alloc_pat-in-None : goal.lower_element-returns-in_ok-alloc_pat-in-None
lower_element-returns-in_ok-alloc_pat-in-None g t c =
    let at = g.P.LowerParts.rctx c.args.lowerer.now.parts in
    let is = opened (kind.rolls-MacroPat _ ∙ sym c.in-MacroPat.is) ∙ ap (λ o. PatKind-F.MacroPat o) c.in-None.is in
    rw (lacking_is at c.args.node.now is) (grind (arith, common_steps))

pub lower_pat-returns-in-None : goal.lower_pat-returns-in-None
lower_pat-returns-in-None g t c =
    let at = g.P.LowerParts.rctx c.args.lowerer.now.parts in
    let is = opened (kind.rolls-MacroPat _ ∙ sym c.in-MacroPat.is) ∙ ap (λ o. PatKind-F.MacroPat o) c.in-None.is in
    rw (lacking_is at c.args.node.now is) (grind (arith, common_steps))

pub lower_element-returns-in_ok-lower_pat-in_default : goal.lower_element-returns-in_ok-lower_pat-in_default
lower_element-returns-in_ok-lower_pat-in_default g t c =
    let at = g.P.LowerParts.rctx c.args.lowerer.now.parts in
    let node = c.args.node.now in
    part_named (lower_pat (resolved_pat at node)) (element_steps (resolved_pat at node)) c.args.bindings.now c.lower_pat.new.bindings
    c.args.state.now c.lower_pat.new.state _ (part_left at node c.in_default.not-RestPat c.in_default.not-MacroPat)
    c.in_ok-lower_pat-in_default.ensures

pub lower_element-returns-in_err-lower_pat-in_default : goal.lower_element-returns-in_err-lower_pat-in_default
lower_element-returns-in_err-lower_pat-in_default g t c =
    let at = g.P.LowerParts.rctx c.args.lowerer.now.parts in
    let node = c.args.node.now in
    let names = c.args.bindings.now in
    let same = part_left at node c.in_default.not-RestPat c.in_default.not-MacroPat (table_of names) in
    refused_named HasPatOption (element_steps (resolved_pat at node)) names c.lower_pat.new.bindings
    c.args.state.now c.lower_pat.new.state _ c.from_residual-in_err-lower_pat-in_default.result
    c.from_residual-in_err-lower_pat-in_default.ensures.1
    (λ other. let h = c.in_err-lower_pat-in_default.ensures other in
    (ap (λ f. f c.args.state.now) same ∙ ap (λ r. go_on r.0 r.1 (λ q. pure (Some q.0, q.1))) h.0, h.1))

pub lower_pat-called_pat-requires : goal.lower_pat-called_pat-requires
lower_pat-called_pat-requires g t c κs within =
    let parts = c.args.lowerer.now.parts in
    let at = g.P.LowerParts.rctx parts in
    let node = c.args.node.now in
    let call = c.in-Some.written in
    let is = opened (kind.rolls-MacroPat _ ∙ sym c.in-MacroPat.is) ∙ ap (λ o. PatKind-F.MacroPat o) c.in-Some.is in
    let may = rw is at (g.met.P.LowerParts.pat_kids parts at.place node c.requires.part) in
    let size = ap count_pat (call_is at node call is) in
    let same = ap (λ s. count_pat (written_call at s call)) c.pointer-at.ensures in
    (omega (arith, c.decreases, size, same), (within, (may, c.requires.names)))

pub lower_pat-returns-in-Some : goal.lower_pat-returns-in-Some
lower_pat-returns-in-Some g t c =
    let at = g.P.LowerParts.rctx c.args.lowerer.now.parts in
    let call = c.in-Some.written in
    let is = opened (kind.rolls-MacroPat _ ∙ sym c.in-MacroPat.is) ∙ ap (λ o. PatKind-F.MacroPat o) c.in-Some.is in
    rw (call_is at c.args.node.now call is) (rw c.pointer-at.ensures at c.called_pat.ensures)

pub lower_pat-returns-in_default : goal.lower_pat-returns-in_default
lower_pat-returns-in_default g t c =
    rw (pat_is_level (g.P.LowerParts.rctx c.args.lowerer.now.parts) c.args.node.now) c.pat_form.ensures

pub lower_pat-pat_form-requires-clause-uncalled : goal.lower_pat-pat_form-requires-clause-uncalled
lower_pat-pat_form-requires-clause-uncalled g t c = no_call_left c.args.node.now.kind c.in_default.not-MacroPat

pub called_pat-point_pat-requires : goal.called_pat-point_pat-requires
called_pat-point_pat-requires g t c = grind (arith, common_steps)

pub lower_element-lower_pat-requires : goal.lower_element-lower_pat-requires
lower_element-lower_pat-requires g t c = grind (arith, common_steps)
