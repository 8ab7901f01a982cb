use Rattle.std.proofs.lemmas.Grind.{common_steps}
use Rattle.std.proofs.Common.{Err, Ok, arith}
use Rattle.std.specs.Prelude.{None, Option, option_map}
use Rattle.hir_store.specs.Range.{HasNone, HasType}
use Rattle.hir_store.specs.declared.generics.TypeOrConstParamData.TheVariants as param
use Rattle.hir_store.specs.declared.ids.TypeRefId.{TypeRefId}
use Rattle.hir_store.specs.declared.type_ref.ConstRef.{ConstRef}
use Rattle.hir_env.specs.Answering.{name_or_missing}
use Rattle.hir_env.specs.Whole as of
use Rattle.hir_lower_builder.specs.Lower.{type_part}
use Rattle.hir_lower_builder.specs.Lowering.{HasNumber, Lowering, ◌>>=◌, add_param, pure}
use Rattle.hir_lower_callbacks.specs.ResolveCtxs.{rctx_at}
use Rattle.hir_lower_item.specs.Answering.{at_place, in_plain}
use Rattle.hir_lower_item.specs.Has.{HasConstOption}
use Rattle.hir_lower_item.specs.Lower.{present_constant}
use Rattle.hir_lower_item.proofs.Here.{constant_here, type_here}
use Rattle.hir_lower_item.proofs.Steps.{refused_first, then_lowers}
use Rattle.hir_lower_item.proofs.params.const_param.Goals as goal

pub returns-in_err-ty : goal.returns-in_err-ty
returns-in_err-ty g c =
    let a = g.E.LowerEnv.answers c.args.env.now in
    let at = at_place in_plain (rctx_at a c.args.place) in
    let n = name_or_missing c.args.name.now in
    let ty = type_part None (of.type_part at c.args.ty.now) in
    let default = present_constant (option_map (of.resolved_constant at) c.args.default.now) in
    let last : TypeRefId → Option ConstRef → Lowering (Unit {0}) = λ t d.
    add_param (param.ConstParamData (record { name = n; ty = t; default = d })) >>= (λ k. pure tt) in
    refused_first HasType HasNone ty (λ t. default >>= last t) c.args.state.now c.type_or_error.new.state c.in_err-ty.field-0.0
    c.from_residual.result c.from_residual.ensures.1
    (type_here a _ _ c.args.state.now c.type_or_error.new.state c.in_plain-inside.ensures c.args.ty.now (Err c.in_err-ty.field-0.0)
    c.in_err-ty.ensures)

pub returns-in_err-default : goal.returns-in_err-default
returns-in_err-default g c =
    let a = g.E.LowerEnv.answers c.args.env.now in
    let at = at_place in_plain (rctx_at a c.args.place) in
    let n = name_or_missing c.args.name.now in
    let ty = type_part None (of.type_part at c.args.ty.now) in
    let default = present_constant (option_map (of.resolved_constant at) c.args.default.now) in
    let last : TypeRefId → Option ConstRef → Lowering (Unit {0}) = λ t d.
    add_param (param.ConstParamData (record { name = n; ty = t; default = d })) >>= (λ k. pure tt) in
    then_lowers HasType HasNone ty (λ t. default >>= last t) c.args.state.now c.type_or_error.new.state c.constant_if_present.new.state
    c.in_ok-ty.ty c.from_residual-in_err-default.result
    (type_here a _ _ c.args.state.now c.type_or_error.new.state c.in_plain-inside.ensures c.args.ty.now (Ok c.in_ok-ty.ty)
    c.in_ok-ty.ensures)
    (refused_first HasConstOption HasNone default (last c.in_ok-ty.ty) c.type_or_error.new.state c.constant_if_present.new.state
    c.in_err-default.field-0.0 c.from_residual-in_err-default.result c.from_residual-in_err-default.ensures.1
    (constant_here a _ _ c.type_or_error.new.state c.constant_if_present.new.state c.in_plain-inside.ensures c.args.default.now
    (Err c.in_err-default.field-0.0) c.in_err-default.ensures))

pub returns-in_err-add_param : goal.returns-in_err-add_param
returns-in_err-add_param g c =
    let a = g.E.LowerEnv.answers c.args.env.now in
    let at = at_place in_plain (rctx_at a c.args.place) in
    let n = name_or_missing c.args.name.now in
    let ty = type_part None (of.type_part at c.args.ty.now) in
    let default = present_constant (option_map (of.resolved_constant at) c.args.default.now) in
    let last : TypeRefId → Option ConstRef → Lowering (Unit {0}) = λ t d.
    add_param (param.ConstParamData (record { name = n; ty = t; default = d })) >>= (λ k. pure tt) in
    let x = param.ConstParamData (record { name = n; ty = c.in_ok-ty.ty; default = c.in_ok-default.default }) in
    then_lowers HasType HasNone ty (λ t. default >>= last t) c.args.state.now c.type_or_error.new.state c.add_param.new.self
    c.in_ok-ty.ty c.from_residual-in_err-add_param.result
    (type_here a _ _ c.args.state.now c.type_or_error.new.state c.in_plain-inside.ensures c.args.ty.now (Ok c.in_ok-ty.ty)
    c.in_ok-ty.ensures)
    (then_lowers HasConstOption HasNone default (last c.in_ok-ty.ty) c.type_or_error.new.state c.constant_if_present.new.state
    c.add_param.new.self c.in_ok-default.default c.from_residual-in_err-add_param.result
    (constant_here a _ _ c.type_or_error.new.state c.constant_if_present.new.state c.in_plain-inside.ensures c.args.default.now
    (Ok c.in_ok-default.default) c.in_ok-default.ensures)
    (refused_first HasNumber HasNone (add_param x) (λ k. pure tt) c.constant_if_present.new.state c.add_param.new.self
    c.in_err-add_param.field-0.0 c.from_residual-in_err-add_param.result c.from_residual-in_err-add_param.ensures.1
    (rw c.in_ok-name.ensures at c.in_err-add_param.ensures)))

pub returns : goal.returns
returns g c = grind (arith, common_steps)
