use Rattle.hir_env.specs.ResolvedTree as tree
use Rattle.hir_env.specs.Targets.{before_dots, behind_dots, dots_pointer, origin}
use Rattle.hir_lower_pat.specs.Assignees.{HasAssignee, assignee_of, found_at}
use Rattle.hir_lower_pat.proofs.AtNodes.{patterned_lowers, patterned_refused}
use Rattle.hir_lower_pat.proofs.TypePats.{handed_on}
use Rattle.hir_lower_bind.proofs.target_arrays.array_assignee.Goals as goal

pub returns-in_err-array_form : goal.returns-in_err-array_form
returns-in_err-array_form g c =
    let rctx = g.T.Here.rctx c.args.parts.now in
    let read = g.L.TargetsPart.read rctx c.args.elems.now in
    let found = found_at rctx in
    let whole = tree.array_target (origin c.args.call c.args.at) (before_dots found read) (dots_pointer read) (behind_dots found read) in
    handed_on HasAssignee (assignee_of found c.args.call (tree.list_expr c.args.at tree.array_of read)) c.args.state.now _
    c.from_residual.result
    c.array_form.new.state c.from_residual.ensures.1
    (λ other. let h = c.in_err-array_form.ensures other in
    (patterned_refused whole c.args.state.now _ c.array_form.new.state h.0, h.1))

pub returns : goal.returns
returns g c =
    let rctx = g.T.Here.rctx c.args.parts.now in
    let read = g.L.TargetsPart.read rctx c.args.elems.now in
    let found = found_at rctx in
    let whole = tree.array_target (origin c.args.call c.args.at) (before_dots found read) (dots_pointer read) (behind_dots found read) in
    patterned_lowers whole c.args.state.now _ c.array_form.new.state c.in_ok-array_form.ensures
