use Rattle.std.proofs.Common.{arith, ◌∙◌, ◌∷◌, []}
use Rattle.std.proofs.lemmas.Grind.{common_steps}
use Rattle.hir_store.specs.Range.{HasPats}
use Rattle.hir_env.specs.Whole.{pats_part}
use Rattle.hir_lower_builder.specs.Lower.{lower_later}
use Rattle.hir_lower_pat.specs.Bindings.{table_of}
use Rattle.hir_lower_pat.proofs.ElementSteps.{refused_named}
use Rattle.hir_lower_pat.proofs.LaterPats.{later_refused}
use Rattle.hir_lower_bind.proofs.alternatives.later.Goals as goal

pub loop-left-init : goal.loop-left-init
loop-left-init g c = grind (arith, common_steps)

pub loop-left-smaller : goal.loop-left-smaller
loop-left-smaller g c = grind (arith, common_steps)

pub next-requires-clause-part : goal.next-requires-clause-part
next-requires-clause-part g c = grind (arith, common_steps)

pub loop-left-preserved : goal.loop-left-preserved
loop-left-preserved g c = grind (arith, common_steps)

pub returns : goal.returns
returns g c = grind (arith, common_steps)

pub returns-in_err-id : goal.returns-in_err-id
returns-in_err-id g c =
    let l = c.loop-left in
    let at = g.S.Here.rctx c.args.parts.now in
    refused_named HasPats (lower_later (pats_part at c.args.left.now) (c.args.first ∷ [])) c.args.bindings.now c.next.new.bindings
    c.args.state.now c.next.new.state _ c.from_residual-in_err-id.result
    c.from_residual-in_err-id.ensures.1
    (λ other.
    let h = c.in_err-id.ensures other in
    let is = later_refused at l.done l.left.now c.one-item.result (table_of l.bindings) l.state c.next.new.state _ c.one-item.is
    c.in-len1-up.len_at_least h.0 in
    (l.invariant.so_far ∙ is, h.1))

pub slice_bounds-rest-count : goal.slice_bounds-rest-count
slice_bounds-rest-count g c = grind (arith, common_steps)

pub slice_bounds-rest-start : goal.slice_bounds-rest-start
slice_bounds-rest-start g c = grind (arith, common_steps)

pub bounds-left-0 : goal.bounds-left-0
bounds-left-0 g c = grind (arith, common_steps)
