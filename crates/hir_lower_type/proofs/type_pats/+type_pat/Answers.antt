use Rattle.std.proofs.Common.{arith, rules, ◌∙◌, ◌+◌, ◌*◌, ◌<◌, ap, sym, []}
use Rattle.std.proofs.lemmas.Grind.{common_steps}
use Rattle.hir_syntax.specs.declared.ast.ElseBranch.TheOpen.{PatKind-F}
use Rattle.hir_syntax.specs.declared.pats.PatKind.TheVariants as kind
use Rattle.hir_store.specs.Range.{HasPat, HasPats}
use Rattle.hir_env.specs.Count.{count_pat, count_pats}
use Rattle.hir_env.specs.TypePats.{type_pat_of, type_pats_of}
use Rattle.hir_env.specs.Whole.{resolved_pat, pats_part}
use Rattle.hir_env.proofs.PatLevels.{pat_is_level}
use Rattle.hir_lower_builder.specs.Calls.{found_of}
use Rattle.hir_lower_builder.specs.Lower.{lower_type_pat, lower_type_pats}
use Rattle.hir_lower_builder.specs.Methods.{at_place}
use Rattle.hir_lower_pat.proofs.KindLemmas.{first_of}
use Rattle.hir_lower_builder.proofs.Inside.{pat_call_less}
use Rattle.hir_lower_pat.specs.Calls.{pat_lent, written_call}
use Rattle.hir_lower_pat.proofs.CallLemmas.{call_is, lacking_is, was_entered}
use Rattle.hir_lower_pat.proofs.TypeCalls.{type_led, type_missing, type_refused, type_unasked}
use Rattle.hir_lower_pat.proofs.TypePats.{first_size, handed_on, one_more, opened, or_size, others_left, refused}
use Rattle.hir_lower_type.proofs.type_pats.+type_pat.Goals as goal

pub each_type_pat-type_pat-requires : goal.each_type_pat-type_pat-requires
each_type_pat-type_pat-requires g t c =
    let l = c.loop-left in
    let here = at_place (g.P.LowerParts.rctx c.args.lowerer.now.parts) c.args.place in
    let size = first_size here l.left.now c.one-item.result c.one-item.is c.in-len1-up.len_at_least in
    let may = rw (first_of l.left.now c.one-item.result c.one-item.is c.in-len1-up.len_at_least) at l.invariant.may in
    λ κs within. (omega (arith, c.decreases, l.invariant.size, size), (within.0, (within.1, may.0)))

pub each_type_pat-loop-left-preserved : goal.each_type_pat-loop-left-preserved
each_type_pat-loop-left-preserved g t c =
    let l = c.loop-left in
    let here = at_place (g.P.LowerParts.rctx c.args.lowerer.now.parts) c.args.place in
    let size = first_size here l.left.now c.one-item.result c.one-item.is c.in-len1-up.len_at_least in
    let may = rw (first_of l.left.now c.one-item.result c.one-item.is c.in-len1-up.len_at_least) at l.invariant.may in
    let more = one_more here.answers.lang_items here _ _ _ _ _ _ c.push_pat.new.pats c.one-item.is c.in-len1-up.len_at_least
    c.in_ok-id.ensures.0 c.in_ok-push_pat.ensures.items in
    record {
      so_far = l.invariant.so_far ∙ more;
      may = may.1;
      placed = search rules;
      size = omega (arith, l.invariant.size, size);
    }

pub each_type_pat-returns-in_err-id : goal.each_type_pat-returns-in_err-id
each_type_pat-returns-in_err-id g t c =
    let l = c.loop-left in
    let here = at_place (g.P.LowerParts.rctx c.args.lowerer.now.parts) c.args.place in
    let items = here.answers.lang_items in
    handed_on HasPats (lower_type_pats [] (type_pats_of items (pats_part here c.args.left.now))) c.args.state.now _ c.from_residual.result
    c.type_pat.new.state c.from_residual.ensures.1
    (λ other.
    let h = c.in_err-id.ensures other in
    let is = refused items here _ _ _ _ _ _ c.one-item.is c.in-len1-up.len_at_least h.0 in
    (l.invariant.so_far ∙ is, h.1))

pub alternatives_form-each_type_pat-requires : goal.alternatives_form-each_type_pat-requires
alternatives_form-each_type_pat-requires g t c =
    let here = at_place (g.P.LowerParts.rctx c.args.lowerer.now.parts) c.args.place in
    let same = ap (λ xs. count_pats (pats_part here xs)) c.as_slice.ensures in
    λ κs within. (omega (arith, c.decreases, same), (within.0, (within.1, rw c.as_slice.ensures c.requires)))

pub type_pat-alternatives_form-requires : goal.type_pat-alternatives_form-requires
type_pat-alternatives_form-requires g t c =
    let parts = c.args.lowerer.now.parts in
    let here = at_place (g.P.LowerParts.rctx parts) c.args.place in
    let is = opened (kind.rolls-OrPat _ ∙ sym c.in-OrPat.is) in
    let may = rw is at (g.met.P.LowerParts.pat_kids parts c.args.place c.args.node.now c.requires) in
    let size = or_size here c.args.node.now _ is in
    λ κs within. (omega (arith, c.decreases, size), (within.0, (within.1, may)))

pub type_pat-range_form-requires : goal.type_pat-range_form-requires
type_pat-range_form-requires g t c =
    let is = opened (kind.rolls-RangePat _ _ _ ∙ sym c.in-RangePat.is) in
    let may = rw is at (g.met.P.LowerParts.pat_kids c.args.lowerer.now.parts c.args.place c.args.node.now c.requires) in
    record { start = may.0; end = may.1 }

pub type_pat-returns-in-NotNullPat : goal.type_pat-returns-in-NotNullPat
type_pat-returns-in-NotNullPat g t c =
    let here = at_place (g.P.LowerParts.rctx c.args.lowerer.now.parts) c.args.place in
    rw (pat_is_level here c.args.node.now, opened (kind.rolls-NotNullPat ∙ sym c.in-NotNullPat.is))
    (rw c.pointer_in-at.ensures at c.not_null_form.ensures)

pub type_pat-returns-in-OrPat : goal.type_pat-returns-in-OrPat
type_pat-returns-in-OrPat g t c =
    let here = at_place (g.P.LowerParts.rctx c.args.lowerer.now.parts) c.args.place in
    rw (pat_is_level here c.args.node.now, opened (kind.rolls-OrPat _ ∙ sym c.in-OrPat.is)) c.alternatives_form.ensures

pub type_pat-returns-in-RangePat : goal.type_pat-returns-in-RangePat
type_pat-returns-in-RangePat g t c =
    let here = at_place (g.P.LowerParts.rctx c.args.lowerer.now.parts) c.args.place in
    rw (pat_is_level here c.args.node.now, opened (kind.rolls-RangePat _ _ _ ∙ sym c.in-RangePat.is))
    (rw c.pointer_in-at.ensures at c.range_form.ensures)

pub type_pat-returns-in_default : goal.type_pat-returns-in_default
type_pat-returns-in_default g t c =
    let here = at_place (g.P.LowerParts.rctx c.args.lowerer.now.parts) c.args.place in
    rw (pat_is_level here c.args.node.now) c.other_form.ensures

pub type_pat-called_form-requires : goal.type_pat-called_form-requires
type_pat-called_form-requires g t c =
    let parts = c.args.lowerer.now.parts in
    let here = at_place (g.P.LowerParts.rctx parts) c.args.place in
    let call = c.in-Some.written in
    let is = opened (kind.rolls-MacroPat _ ∙ sym c.in-MacroPat.is) ∙ ap (λ o. PatKind-F.MacroPat o) c.in-Some.is in
    let may = rw is at (g.met.P.LowerParts.pat_kids parts c.args.place c.args.node.now c.requires) in
    let size = ap count_pat (call_is here c.args.node.now call is) in
    let same = ap (λ s. count_pat (written_call here s call)) c.pointer_in-at.ensures in
    λ κs within. (omega (arith, c.decreases, size, same), (within.0, (within.1, may)))

pub type_pat-returns-in-Some : goal.type_pat-returns-in-Some
type_pat-returns-in-Some g t c =
    let here = at_place (g.P.LowerParts.rctx c.args.lowerer.now.parts) c.args.place in
    let call = c.in-Some.written in
    let is = opened (kind.rolls-MacroPat _ ∙ sym c.in-MacroPat.is) ∙ ap (λ o. PatKind-F.MacroPat o) c.in-Some.is in
    rw (call_is here c.args.node.now call is) (rw c.pointer_in-at.ensures at c.called_form.ensures)

pub type_pat-returns-in-None : goal.type_pat-returns-in-None
type_pat-returns-in-None g t c =
    let here = at_place (g.P.LowerParts.rctx c.args.lowerer.now.parts) c.args.place in
    let is = opened (kind.rolls-MacroPat _ ∙ sym c.in-MacroPat.is) ∙ ap (λ o. PatKind-F.MacroPat o) c.in-None.is in
    rw (lacking_is here c.args.node.now is) c.missing_pat.ensures

pub called_form-type_pat-requires : goal.called_form-type_pat-requires
called_form-type_pat-requires g t c =
    let it = c.moved-there.result.parts in
    let up = g.P.LowerParts.rctx it in
    let can = g.P.LowerParts.can it in
    let call = c.args.call.now in
    let here = ap (λ s. s.place) c.moved-there.ensures.rctx in
    let claimed : can.pat_call up.place call = rw here (c.moved-there.ensures.can.pat_call c.args.place call c.requires) in
    let may = was_entered up call
    (λ q x. can.pat q x × (count_pat (resolved_pat (at_place up q) x) < count_pat (written_call up c.args.at call)))
    (λ n f x es left asked. (
      g.met.P.LowerParts.pat_call_kids it call n f x es claimed left asked,
      pat_call_less up call n f x es c.args.at left asked,
    ))
    c.args.state.now c.enter.new.state (found_of c.in_ok-entered.entered) c.in_ok-entered.ensures.0
    c.in-Some.place c.in-Some.node.now (sym c.pat_of.ensures ∙ ap pat_lent c.in-Some.is) in
    let same = ap (λ a. count_pat (written_call a c.args.at call)) c.moved-there.ensures.rctx in
    λ κs within. (omega (arith, c.decreases, may.1, same), (within.0, (within.1, may.0)))

pub called_form-returns-in_err-entered : goal.called_form-returns-in_err-entered
called_form-returns-in_err-entered g t c =
    let here = at_place (g.P.LowerParts.rctx c.args.lowerer.now.parts) c.args.place in
    let call = c.args.call.now in
    handed_on HasPat (lower_type_pat (type_pat_of here.answers.lang_items (written_call here c.args.at call))) c.args.state.now _
    c.from_residual.result c.enter.new.state c.from_residual.ensures.1
    (λ other.
    let h = c.in_err-entered.ensures other in
    (type_unasked here c.args.at call c.args.state.now c.enter.new.state _ (rw c.moved-there.ensures.rctx at h.0), h.1))

pub called_form-returns-in-None : goal.called_form-returns-in-None
called_form-returns-in-None g t c =
    let here = at_place (g.P.LowerParts.rctx c.args.lowerer.now.parts) c.args.place in
    type_missing here c.args.at c.args.call.now c.args.state.now c.enter.new.state (found_of c.in_ok-entered.entered)
    (rw c.moved-there.ensures.rctx at c.in_ok-entered.ensures.0) (sym c.pat_of.ensures ∙ ap pat_lent c.in-None.is)
    c.missing_form.result c.missing_form.new.state c.in_ok-entered.ensures.1 c.missing_form.ensures

pub called_form-returns-in_err-id-in-Some : goal.called_form-returns-in_err-id-in-Some
called_form-returns-in_err-id-in-Some g t c =
    let here = at_place (g.P.LowerParts.rctx c.args.lowerer.now.parts) c.args.place in
    let call = c.args.call.now in
    handed_on HasPat (lower_type_pat (type_pat_of here.answers.lang_items (written_call here c.args.at call))) c.args.state.now _
    c.from_residual-in_err-id-in-Some.result c.type_pat.new.state c.from_residual-in_err-id-in-Some.ensures.1
    (λ other.
    let h = c.in_err-id-in-Some.ensures other in (
      type_refused here c.args.at call c.args.state.now c.enter.new.state (found_of c.in_ok-entered.entered)
          c.in-Some.place c.in-Some.node.now (rw c.moved-there.ensures.rctx at c.in_ok-entered.ensures.0)
          (sym c.pat_of.ensures ∙ ap pat_lent c.in-Some.is) _ c.type_pat.new.state (rw c.moved-there.ensures.rctx at h.0),
      h.1,
    ))

pub called_form-returns-in_ok-id-in-Some : goal.called_form-returns-in_ok-id-in-Some
called_form-returns-in_ok-id-in-Some g t c =
    let here = at_place (g.P.LowerParts.rctx c.args.lowerer.now.parts) c.args.place in
    type_led here c.args.at c.args.call.now c.args.state.now c.enter.new.state (found_of c.in_ok-entered.entered)
    c.in-Some.place c.in-Some.node.now (rw c.moved-there.ensures.rctx at c.in_ok-entered.ensures.0)
    (sym c.pat_of.ensures ∙ ap pat_lent c.in-Some.is) c.in_ok-id-in-Some.id c.type_pat.new.state c.pointed_form.new.state
    c.pointed_form.result c.in_ok-entered.ensures.1 (rw c.moved-there.ensures.rctx at c.in_ok-id-in-Some.ensures) c.pointed_form.ensures

pub each_type_pat-push_pat-requires : goal.each_type_pat-push_pat-requires
each_type_pat-push_pat-requires g t c = grind (arith, common_steps)

pub each_type_pat-returns : goal.each_type_pat-returns
each_type_pat-returns g t c = grind (arith, common_steps)

pub each_type_pat-returns-in_err-push_pat : goal.each_type_pat-returns-in_err-push_pat
each_type_pat-returns-in_err-push_pat g t c = grind (arith, common_steps)

pub each_type_pat-loop-left-init : goal.each_type_pat-loop-left-init
each_type_pat-loop-left-init g t c = grind (arith, common_steps)

pub each_type_pat-loop-left-smaller : goal.each_type_pat-loop-left-smaller
each_type_pat-loop-left-smaller g t c = grind (arith, common_steps)

pub type_pat-other_form-requires : goal.type_pat-other_form-requires
type_pat-other_form-requires g t c =
    let no = c.in_default in
    others_left c.args.node.now.kind no.not-NotNullPat no.not-OrPat no.not-RangePat no.not-MacroPat

pub each_type_pat-slice_bounds-rest-count : goal.each_type_pat-slice_bounds-rest-count
each_type_pat-slice_bounds-rest-count g t c = grind (arith, common_steps, others_left)

pub each_type_pat-bounds-left-0 : goal.each_type_pat-bounds-left-0
each_type_pat-bounds-left-0 g t c = grind (arith, common_steps, others_left)

pub called_form-pointed_form-requires : goal.called_form-pointed_form-requires
called_form-pointed_form-requires g t c = grind (arith, common_steps, others_left)

pub each_type_pat-slice_bounds-rest-start : goal.each_type_pat-slice_bounds-rest-start
each_type_pat-slice_bounds-rest-start g t c = grind (arith, common_steps, others_left)
