use Rattle.std.proofs.Common.{◌≡◌, ◌∙◌, ◌+◌, ◌*◌, ◌<◌, ap, arith, subst, sym, Some, None}
use Rattle.std.proofs.lemmas.Grind.{common_steps}
use Rattle.hir_syntax.specs.declared.pats.PatKind.TheVariants as kind
use Rattle.hir_store.specs.Range.{HasPat}
use Rattle.hir_store.specs.declared.pat.Pat.TheVariants as pat
use Rattle.hir_env.specs.TypePats.{bare_pat}
use Rattle.hir_env.specs.Whole.{resolved_pat}
use Rattle.hir_lower_builder.specs.Calls.{found_of}
use Rattle.hir_lower_builder.specs.Lower.{lower_pat}
use Rattle.hir_lower_builder.specs.Lowering.{alloc_pat, go_on, pure}
use Rattle.hir_lower_builder.specs.Pats.{barred_pat_form}
use Rattle.hir_lower_pat.specs.Bare.{bare_as, bare_kind, barred, name_if, plain_name, wild}
use Rattle.hir_lower_pat.specs.Bindings.{table_of}
use Rattle.hir_lower_pat.specs.Calls.{pat_lent, written_call}
use Rattle.hir_lower_pat.specs.Methods.{LowersPat}
use Rattle.hir_lower_pat.proofs.AtNodes.{alone_lowers}
use Rattle.hir_lower_pat.proofs.BareForms.{bare_lowers, bare_refused, bare_unasked}
use Rattle.hir_lower_pat.proofs.BarePats.{bare_is, bare_on, less_left}
use Rattle.hir_lower_pat.proofs.CallLemmas.{was_entered}
use Rattle.hir_lower_pat.proofs.ElementSteps.{refused_named}
use Rattle.hir_lower_pat.proofs.TypePats.{opened}
use Rattle.hir_lower_bind.proofs.bare.+bare.Goals as goal

pub bare_call-bare_form-requires : goal.bare_call-bare_form-requires
bare_call-bare_form-requires g t c κs within =
    let parts = c.args.lowerer.now.parts in
    let at = g.P.LowerParts.rctx parts in
    let call = c.args.call.now in
    let found = found_of c.in_ok-entered.entered in
    let is = sym c.pat_of.ensures ∙ ap pat_lent c.in-Some.is in
    let may = was_entered at call (g.P.LowerParts.can parts).pat
    (λ n f e es left asked. g.met.P.LowerParts.pat_call_kids parts call n f e es c.requires.part left asked)
    c.args.state.now c.enter.new.state found c.in_ok-entered.ensures.0 c.in-Some.place c.in-Some.node.now is in
    let less = less_left at call c.args.state.now c.enter.new.state found c.in_ok-entered.ensures.0
    c.in-Some.place c.in-Some.node.now is in
    let here = ap (λ x. x.place) c.moved.ensures.rctx in
    let left = ap (λ p. p.left) here in (
      omega (arith, less, left, c.decreases),
      (within.0, (within.1, (rw here (c.moved.ensures.can.pat c.in-Some.place c.in-Some.node.now may), grind (arith, common_steps)))),
    )

pub bare_call-returns-in_err-entered : goal.bare_call-returns-in_err-entered
bare_call-returns-in_err-entered g t c =
    let at = g.P.LowerParts.rctx c.args.lowerer.now.parts in
    let names = c.args.bindings.now in
    refused_named HasPat (lower_pat (bare_pat (written_call at c.args.at c.args.call.now))) names names
    c.args.state.now c.enter.new.state _ c.from_residual.result c.from_residual.ensures.1
    (λ other. let h = c.in_err-entered.ensures other in
    (bare_unasked at c.args.at c.args.call.now c.args.state.now c.enter.new.state (table_of names) _ h.0, h.1))

pub bare_call-returns-in_err-id-in-None : goal.bare_call-returns-in_err-id-in-None
bare_call-returns-in_err-id-in-None g t c =
    let at = g.P.LowerParts.rctx c.args.lowerer.now.parts in
    let names = c.args.bindings.now in
    refused_named HasPat (lower_pat (bare_pat (written_call at c.args.at c.args.call.now))) names names
    c.args.state.now c.missing_pat.new.self _ c.from_residual-in_err-id-in-None.result c.from_residual-in_err-id-in-None.ensures.1
    (λ other. let h = c.in_err-id-in-None.ensures other in (
      bare_refused at c.args.at c.args.call.now c.args.state.now c.enter.new.state (table_of names) (found_of c.in_ok-entered.entered)
          None _ c.missing_pat.new.self c.in_ok-entered.ensures.0 (sym c.pat_of.ensures ∙ ap pat_lent c.in-None.is)
          (ap (λ r. go_on r.0 r.1 (λ i. pure (i, table_of names))) h.0),
      h.1,
    ))

pub bare_call-returns-in_err-id-in-Some : goal.bare_call-returns-in_err-id-in-Some
bare_call-returns-in_err-id-in-Some g t c =
    let at = g.P.LowerParts.rctx c.args.lowerer.now.parts in
    let names = c.args.bindings.now in
    let node = c.in-Some.node.now in
    let same = ap (λ a. lower_pat (bare_pat (resolved_pat a node)) (table_of names) c.enter.new.state) c.moved.ensures.rctx in
    refused_named HasPat (lower_pat (bare_pat (written_call at c.args.at c.args.call.now))) names c.bare_form.new.bindings
    c.args.state.now c.bare_form.new.state _ c.from_residual-in_err-id-in-Some.result c.from_residual-in_err-id-in-Some.ensures.1
    (λ other. let h = c.in_err-id-in-Some.ensures other in (
      bare_refused at c.args.at c.args.call.now c.args.state.now c.enter.new.state (table_of names) (found_of c.in_ok-entered.entered)
          (Some (c.in-Some.place, node)) _ c.bare_form.new.state c.in_ok-entered.ensures.0
          (sym c.pat_of.ensures ∙ ap pat_lent c.in-Some.is) (sym same ∙ h.0),
      h.1,
    ))

pub bare_call-returns-in_err-point_pat : goal.bare_call-returns-in_err-point_pat
bare_call-returns-in_err-point_pat g t c = grind (arith, common_steps, bare_on)

pub bare_call-returns : goal.bare_call-returns
bare_call-returns g t c = grind (arith, common_steps, bare_on)

pub bare_kind_form-returns-then-is_alone : goal.bare_kind_form-returns-then-is_alone
bare_kind_form-returns-then-is_alone g t c =
    let at = g.P.LowerParts.rctx c.args.lowerer.now.parts in
    let node = c.args.node.now in
    let layer = opened (kind.rolls-IdentPat _ _ _ _ ∙ sym c.in-IdentPat.is) in
    let is = ap bare_kind layer ∙ ap (λ b. name_if b c.in-IdentPat.name) (sym c.if-is_alone.ensures) in
    bare_lowers at node _ c.args.bindings.now c.plain_name.new.bindings c.args.state.now _ c.plain_name.new.state is
    (rw c.pointer-at.ensures at c.plain_name.ensures)

pub bare_kind_form-returns-else-is_alone : goal.bare_kind_form-returns-else-is_alone
bare_kind_form-returns-else-is_alone g t c =
    let at = g.P.LowerParts.rctx c.args.lowerer.now.parts in
    let node = c.args.node.now in
    let layer = opened (kind.rolls-IdentPat _ _ _ _ ∙ sym c.in-IdentPat.is) in
    let is = ap bare_kind layer ∙ ap (λ b. name_if b c.in-IdentPat.name) (sym c.if-is_alone.ensures) in
    let names = c.args.bindings.now in
    bare_lowers at node barred names names c.args.state.now _ c.barred_form.new.state is
    (rw c.pointer-at.ensures at (alone_lowers (barred_pat_form c.pointer-at.result) names c.args.state.now _ c.barred_form.new.state
    c.requires.names c.barred_form.ensures))

pub bare_form-returns : goal.bare_form-returns
bare_form-returns g t c =
    let at = g.P.LowerParts.rctx c.args.lowerer.now.parts in
    let node = c.args.node.now in
    subst (λ q. LowersPat q c.args.bindings.now c.args.state.now c.bare_kind_form.result c.bare_kind_form.new.bindings
    c.bare_kind_form.new.state)
    (sym (bare_is at node)) c.bare_kind_form.ensures

pub bare_kind_form-returns-in-WildcardPat : goal.bare_kind_form-returns-in-WildcardPat
bare_kind_form-returns-in-WildcardPat g t c =
    let at = g.P.LowerParts.rctx c.args.lowerer.now.parts in
    let node = c.args.node.now in
    let names = c.args.bindings.now in
    let steps = alloc_pat pat.Wild (Some c.pointer-at.result) in
    let alone = alone_lowers steps names c.args.state.now c.alloc_pat.result c.alloc_pat.new.self c.requires.names c.alloc_pat.ensures in
    bare_lowers at node wild names names c.args.state.now c.alloc_pat.result c.alloc_pat.new.self
    (ap bare_kind (opened (kind.rolls-WildcardPat ∙ sym c.in-WildcardPat.is))) (rw c.pointer-at.ensures at alone)

pub bare_kind_form-returns-in-MacroPat-Some : goal.bare_kind_form-returns-in-MacroPat-Some
bare_kind_form-returns-in-MacroPat-Some g t c = grind (arith, common_steps)

pub bare_kind_form-returns-in-MacroPat-None : goal.bare_kind_form-returns-in-MacroPat-None
bare_kind_form-returns-in-MacroPat-None g t c = grind (arith, common_steps)

pub bare_kind_form-returns-in_default : goal.bare_kind_form-returns-in_default
bare_kind_form-returns-in_default g t c = grind (arith, common_steps)

pub bare_call-point_pat-requires : goal.bare_call-point_pat-requires
bare_call-point_pat-requires g t c = grind (arith, common_steps)

pub bare_kind_form-bare_call-requires : goal.bare_kind_form-bare_call-requires
bare_kind_form-bare_call-requires g t c = grind (arith, common_steps)

pub bare_form-bare_kind_form-requires : goal.bare_form-bare_kind_form-requires
bare_form-bare_kind_form-requires g t c = grind (arith, common_steps)
