use Rattle.hir_store.specs.Range.{HasNone}
use Rattle.hir_env.specs.Whole.{bounds_part}
use Rattle.hir_lower_callbacks.specs.ResolveCtxs.{rctx_at}
use Rattle.hir_lower_item.specs.Answering.{resolved_generics, at_place, in_self_bounds}
use Rattle.hir_lower_item.specs.Lower.{lower_generics, self_param}
use Rattle.hir_lower_item.proofs.ItemHere.{generics_here}
use Rattle.hir_lower_item.proofs.Steps.{refused_first, then_lowers}
use Rattle.hir_lower_item.proofs.items.trait_form.Goals as goal

pub returns-in_err-self_param : goal.returns-in_err-self_param
returns-in_err-self_param g c =
    let at = rctx_at (g.E.LowerEnv.answers c.args.env.now) c.args.place in
    let x = c.args.node.now in
    let read = resolved_generics at c.args.def x.generics x.where_ in
    refused_first HasNone HasNone (self_param c.args.def (bounds_part (at_place (in_self_bounds c.args.def) at) x.bounds))
    (λ _. lower_generics c.args.def read) c.args.state.now c.self_param.new.state c.in_err-self_param.field-0.0
    c.from_residual.result c.from_residual.ensures.1 c.in_err-self_param.ensures

pub returns : goal.returns
returns g c =
    let at = rctx_at (g.E.LowerEnv.answers c.args.env.now) c.args.place in
    let x = c.args.node.now in
    let read = resolved_generics at c.args.def x.generics x.where_ in
    then_lowers HasNone HasNone (self_param c.args.def (bounds_part (at_place (in_self_bounds c.args.def) at) x.bounds))
    (λ _. lower_generics c.args.def read) c.args.state.now c.self_param.new.state c.generics.new.state c.in_ok-self_param.field-0
    c.generics.result c.in_ok-self_param.ensures
    (generics_here at c.args.def _ x.generics _ x.where_ c.self_param.new.state c.generics.new.state c.generics.result
    c.as_ref-params.ensures.value c.as_ref-asked.ensures.value c.generics.ensures)
