use Rattle.std.proofs.Common.{Err, Ok}
use Rattle.hir_store.specs.Range.{HasNone, HasTypeOption}
use Rattle.hir_store.specs.declared.generics.TypeParamProvenance.TheVariants.{TypeParamList}
use Rattle.hir_env.specs.Answering.{name_or_missing}
use Rattle.hir_env.specs.Whole.{bounds_part, type_part}
use Rattle.hir_lower_builder.specs.Lower.{present_type}
use Rattle.hir_lower_callbacks.specs.ResolveCtxs.{rctx_at}
use Rattle.hir_lower_item.specs.Answering.{at_place, in_bounds, in_plain}
use Rattle.hir_lower_item.specs.Lower.{type_param_form}
use Rattle.hir_lower_item.proofs.Here.{present_here}
use Rattle.hir_lower_item.proofs.ItemHere.{form_here}
use Rattle.hir_lower_item.proofs.Steps.{refused_first, then_lowers}
use Rattle.hir_lower_item.proofs.params.type_param.Goals as goal

pub returns-in_err-default : goal.returns-in_err-default
returns-in_err-default g c =
    let a = g.E.LowerEnv.answers c.args.env.now in
    let at = rctx_at a c.args.place in
    let bs = bounds_part (at_place (in_bounds c.args.def) at) c.args.bounds.now in
    refused_first HasTypeOption HasNone (present_type (type_part (at_place in_plain at) c.args.default.now))
    (λ t. type_param_form c.args.def (name_or_missing c.args.name.now) t TypeParamList bs) c.args.state.now c.type_if_present.new.state
    c.in_err-default.field-0.0 c.from_residual.result c.from_residual.ensures.1
    (present_here a _ _ c.args.state.now c.type_if_present.new.state c.in_plain.ensures c.args.default.now
    (Err c.in_err-default.field-0.0) c.in_err-default.ensures)

pub returns : goal.returns
returns g c =
    let a = g.E.LowerEnv.answers c.args.env.now in
    let at = rctx_at a c.args.place in
    let bs = bounds_part (at_place (in_bounds c.args.def) at) c.args.bounds.now in
    then_lowers HasTypeOption HasNone (present_type (type_part (at_place in_plain at) c.args.default.now))
    (λ t. type_param_form c.args.def (name_or_missing c.args.name.now) t TypeParamList bs) c.args.state.now c.type_if_present.new.state
    c.type_param_form.new.state c.in_ok-default.default c.type_param_form.result
    (present_here a _ _ c.args.state.now c.type_if_present.new.state c.in_plain.ensures c.args.default.now (Ok c.in_ok-default.default)
    c.in_ok-default.ensures)
    (form_here a _ _ c.args.def _ _ c.in_ok-default.default TypeParamList c.args.bounds.now c.type_if_present.new.state
    c.type_param_form.new.state c.type_param_form.result c.in_bounds-inside.ensures c.in_ok-name.ensures c.type_param_form.ensures)
