use Rattle.std.proofs.lemmas.Grind.{common_steps}
use Rattle.std.proofs.Common.{arith, ◌∙◌, []}
use Rattle.hir_store.specs.Range.{HasTypes}
use Rattle.hir_env.specs.Whole.{into, read_param}
use Rattle.hir_lower_builder.specs.Lower.{lower_parts}
use Rattle.hir_lower_type.specs.Params.{params_at}
use Rattle.hir_lower_type.proofs.Params.{handed_on, params_more, params_refused}
use Rattle.hir_lower_type.proofs.functions.params.Goals as goal

pub returns-in_err-id : goal.returns-in_err-id
returns-in_err-id g c =
    let l = c.loop-left in
    let at = g.P.LowerParts.rctx c.args.lowerer.now.parts in
    handed_on HasTypes (lower_parts [] (params_at at c.args.left.now)) c.args.state.now _ c.from_residual.result c.param.new.state
    c.from_residual.ensures.1
    (λ other.
    let h = c.in_err-id.ensures other in
    let read = read_param at.answers (into at) in
    let is = params_refused read at.place l.done l.left.now _ _ _ _ c.one-item.is c.in-len1-up.len_at_least h.0 in
    (l.invariant.so_far ∙ is, h.1))

pub loop-left-init : goal.loop-left-init
loop-left-init g c = grind (arith, params_more)

pub loop-left-smaller-in_ok-push_type : goal.loop-left-smaller-in_ok-push_type
loop-left-smaller-in_ok-push_type g c = grind (arith, params_more)

pub slice_bounds-rest-start : goal.slice_bounds-rest-start
slice_bounds-rest-start g c = c.in-len1-up.len_at_least

pub loop-left-smaller : goal.loop-left-smaller
loop-left-smaller g c = grind (arith, params_more)

pub slice_bounds-rest-count : goal.slice_bounds-rest-count
slice_bounds-rest-count g c = c.in-len1-up.len_at_least

pub param-requires : goal.param-requires
param-requires g c = grind (arith, params_more)

pub bounds-left-0 : goal.bounds-left-0
bounds-left-0 g c = c.in-len1-up.len_at_least

pub loop-left-preserved : goal.loop-left-preserved
loop-left-preserved g c = grind (arith, common_steps)

pub returns : goal.returns
returns g c = grind (arith, common_steps)

pub loop-left-preserved-in_ok-push_type : goal.loop-left-preserved-in_ok-push_type
loop-left-preserved-in_ok-push_type g c = grind (arith, common_steps)
