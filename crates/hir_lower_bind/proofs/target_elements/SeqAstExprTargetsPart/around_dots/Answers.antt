use Rattle.std.proofs.Common.{arith, ◌∙◌, None, []}
use Rattle.std.proofs.lemmas.Grind.{common_steps}
use Rattle.hir_env.specs.Whole.{exprs_part}
use Rattle.hir_lower_pat.specs.Assignees.{found_at}
use Rattle.hir_lower_pat.specs.TargetLists.{HasArrayParts, array_read}
use Rattle.hir_lower_pat.proofs.TargetLists.{array_refused}
use Rattle.hir_lower_pat.proofs.TypePats.{handed_on}
use Rattle.hir_lower_bind.proofs.target_elements.SeqAstExprTargetsPart.around_dots.Goals as goal

pub returns-in_err-done : goal.returns-in_err-done
returns-in_err-done g c =
    let l = c.loop-left in
    let rctx = g.T.Here.rctx c.args.parts.now in
    handed_on HasArrayParts (array_read (found_at rctx) ([], None, []) (exprs_part rctx c.args.self.now)) c.args.state.now _
    c.from_residual.result c.array_element.new.state c.from_residual.ensures.1
    (λ other.
    let h = c.in_err-done.ensures other in
    let is = array_refused rctx l.left.now c.one-item.result l.state c.array_element.new.state l.done _ c.one-item.is
    c.in-len1-up.len_at_least h.0 in
    (l.invariant.so_far ∙ is, h.1))

pub loop-left-preserved : goal.loop-left-preserved
loop-left-preserved g c = grind (arith, common_steps)

pub loop-left-smaller : goal.loop-left-smaller
loop-left-smaller g c = grind (arith, common_steps)

pub array_element-requires-clause-part : goal.array_element-requires-clause-part
array_element-requires-clause-part g c = grind (arith, common_steps)

pub loop-left-init : goal.loop-left-init
loop-left-init g c = grind (arith, common_steps)

pub returns : goal.returns
returns g c = grind (arith, common_steps)

pub slice_bounds-rest-count : goal.slice_bounds-rest-count
slice_bounds-rest-count g c = grind (arith, common_steps)

pub slice_bounds-rest-start : goal.slice_bounds-rest-start
slice_bounds-rest-start g c = grind (arith, common_steps)

pub bounds-left-0 : goal.bounds-left-0
bounds-left-0 g c = grind (arith, common_steps)
