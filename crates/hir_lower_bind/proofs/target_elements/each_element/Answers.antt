use Rattle.std.proofs.Common.{arith, ◌∙◌}
use Rattle.std.proofs.lemmas.Grind.{common_steps}
use Rattle.hir_env.specs.Whole.{exprs_part}
use Rattle.hir_lower_builder.specs.Pats.{no_elements}
use Rattle.hir_lower_pat.specs.Assignees.{found_at}
use Rattle.hir_lower_pat.specs.Methods.{HasElements}
use Rattle.hir_lower_pat.specs.TargetLists.{elements_read}
use Rattle.hir_lower_pat.proofs.TargetLists.{element_refused}
use Rattle.hir_lower_pat.proofs.TypePats.{handed_on}
use Rattle.hir_lower_bind.proofs.target_elements.each_element.Goals as goal

pub returns-in_err-done : goal.returns-in_err-done
returns-in_err-done g c =
    let l = c.loop-left in
    let rctx = g.T.Here.rctx c.args.parts.now in
    handed_on HasElements (elements_read (found_at rctx) no_elements (exprs_part rctx c.args.left.now)) c.args.state.now _
    c.from_residual.result c.element.new.state c.from_residual.ensures.1
    (λ other.
    let h = c.in_err-done.ensures other in
    let is = element_refused rctx l.left.now c.one-item.result l.state c.element.new.state l.done _ c.one-item.is
    c.in-len1-up.len_at_least h.0 in
    (l.invariant.so_far ∙ is, h.1))

pub element-requires-clause-part : goal.element-requires-clause-part
element-requires-clause-part g c = grind (arith, common_steps)

pub loop-left-preserved : goal.loop-left-preserved
loop-left-preserved g c = grind (arith, common_steps)

pub returns : goal.returns
returns g c = grind (arith, common_steps)

pub loop-left-init : goal.loop-left-init
loop-left-init g c = grind (arith, common_steps)

pub loop-left-smaller : goal.loop-left-smaller
loop-left-smaller g c = grind (arith, common_steps)

pub bounds-left-0 : goal.bounds-left-0
bounds-left-0 g c = grind (arith, common_steps)

pub slice_bounds-rest-start : goal.slice_bounds-rest-start
slice_bounds-rest-start g c = grind (arith, common_steps)

pub slice_bounds-rest-count : goal.slice_bounds-rest-count
slice_bounds-rest-count g c = grind (arith, common_steps)
