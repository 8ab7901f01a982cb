use Rattle.std.proofs.Common.{Err, Ok}
use Rattle.std.specs.Prelude.{List, Option}
use Rattle.hir_store.specs.Past.{past_type_ids}
use Rattle.hir_store.specs.Range.{HasNone, HasTypeOption, HasTypes}
use Rattle.hir_store.specs.declared.ids.TypeRefId.{TypeRefId}
use Rattle.hir_env.specs.Answering.{coroutine_kind}
use Rattle.hir_env.specs.Whole.{ret_part}
use Rattle.hir_lower_builder.specs.Lowering.{Lowering, ◌>>=◌, pure}
use Rattle.hir_lower_callbacks.specs.ResolveCtxs.{rctx_at}
use Rattle.hir_lower_item.specs.Answering.{resolved_generics, arguments_part, at_place, in_output, receiver_part}
use Rattle.hir_lower_item.specs.Has.{HasSignature}
use Rattle.hir_lower_item.specs.Lower.{any_variadic, input_types, is_received, lower_generics, output_type}
use Rattle.hir_lower_item.specs.declared.function.Signature.{Signature}
use Rattle.hir_lower_item.proofs.ItemHere.{generics_here}
use Rattle.hir_lower_item.proofs.Last.{kept, last}
use Rattle.hir_lower_item.proofs.Steps.{refused_first, then_lowers}
use Rattle.hir_lower_item.proofs.function.function.Goals as goal

pub returns-in_err-generics : goal.returns-in_err-generics
returns-in_err-generics g c =
    let at = rctx_at (g.E.LowerEnv.answers c.args.env.now) c.args.place in
    let x = c.args.node.now in
    let read = lower_generics c.args.def (resolved_generics at c.args.def x.generics x.where_) in
    let inputs = input_types (receiver_part at c.args.def x.params) (arguments_part at c.args.def x.params) in
    let out = output_type (coroutine_kind x.async_ x.gen_) (ret_part (at_place in_output at) x.ret) in
    let end : List TypeRefId → Option TypeRefId → Lowering Signature = λ args ret. pure (record {
      args = args;
      ret = ret;
      has_self = is_received (receiver_part at c.args.def x.params);
      has_variadic = any_variadic (arguments_part at c.args.def x.params);
    }) in
    refused_first HasNone HasSignature read (λ _. inputs >>= (λ args. out >>= end args)) c.args.state.now c.generics.new.state
    c.in_err-generics.field-0.0 c.from_residual.result c.from_residual.ensures.1
    (generics_here at c.args.def _ x.generics _ x.where_ c.args.state.now c.generics.new.state
    (Err c.in_err-generics.field-0.0) c.as_ref-list.ensures.value c.as_ref-clause.ensures.value c.in_err-generics.ensures)

pub returns-in_err-args : goal.returns-in_err-args
returns-in_err-args g c =
    let at = rctx_at (g.E.LowerEnv.answers c.args.env.now) c.args.place in
    let x = c.args.node.now in
    let read = lower_generics c.args.def (resolved_generics at c.args.def x.generics x.where_) in
    let inputs = input_types (receiver_part at c.args.def x.params) (arguments_part at c.args.def x.params) in
    let out = output_type (coroutine_kind x.async_ x.gen_) (ret_part (at_place in_output at) x.ret) in
    let end : List TypeRefId → Option TypeRefId → Lowering Signature = λ args ret. pure (record {
      args = args;
      ret = ret;
      has_self = is_received (receiver_part at c.args.def x.params);
      has_variadic = any_variadic (arguments_part at c.args.def x.params);
    }) in
    then_lowers HasNone HasSignature read (λ _. inputs >>= (λ args. out >>= end args)) c.args.state.now c.generics.new.state
    c.input_types.new.state c.in_ok-generics.field-0 c.from_residual-in_err-args.result
    (generics_here at c.args.def _ x.generics _ x.where_ c.args.state.now c.generics.new.state
    (Ok c.in_ok-generics.field-0) c.as_ref-list.ensures.value c.as_ref-clause.ensures.value c.in_ok-generics.ensures)
    (refused_first HasTypes HasSignature inputs (λ args. out >>= end args) c.generics.new.state c.input_types.new.state
    c.in_err-args.field-0.0 c.from_residual-in_err-args.result c.from_residual-in_err-args.ensures.1 c.in_err-args.ensures)

pub returns-in_err-ret : goal.returns-in_err-ret
returns-in_err-ret g c =
    let at = rctx_at (g.E.LowerEnv.answers c.args.env.now) c.args.place in
    let x = c.args.node.now in
    let read = lower_generics c.args.def (resolved_generics at c.args.def x.generics x.where_) in
    let inputs = input_types (receiver_part at c.args.def x.params) (arguments_part at c.args.def x.params) in
    let out = output_type (coroutine_kind x.async_ x.gen_) (ret_part (at_place in_output at) x.ret) in
    let end : List TypeRefId → Option TypeRefId → Lowering Signature = λ args ret. pure (record {
      args = args;
      ret = ret;
      has_self = is_received (receiver_part at c.args.def x.params);
      has_variadic = any_variadic (arguments_part at c.args.def x.params);
    }) in
    then_lowers HasNone HasSignature read (λ _. inputs >>= (λ args. out >>= end args)) c.args.state.now c.generics.new.state
    c.output.new.state c.in_ok-generics.field-0 c.from_residual-in_err-ret.result
    (generics_here at c.args.def _ x.generics _ x.where_ c.args.state.now c.generics.new.state
    (Ok c.in_ok-generics.field-0) c.as_ref-list.ensures.value c.as_ref-clause.ensures.value c.in_ok-generics.ensures)
    (then_lowers HasTypes HasSignature inputs (λ args. out >>= end args) c.generics.new.state c.input_types.new.state
    c.output.new.state c.in_ok-args.args c.from_residual-in_err-ret.result c.in_ok-args.ensures
    (refused_first HasTypeOption HasSignature out (end c.in_ok-args.args) c.input_types.new.state c.output.new.state
    c.in_err-ret.field-0.0 c.from_residual-in_err-ret.result c.from_residual-in_err-ret.ensures.1 c.in_err-ret.ensures))

pub returns : goal.returns
returns g c =
    let at = rctx_at (g.E.LowerEnv.answers c.args.env.now) c.args.place in
    let x = c.args.node.now in
    let read = lower_generics c.args.def (resolved_generics at c.args.def x.generics x.where_) in
    let inputs = input_types (receiver_part at c.args.def x.params) (arguments_part at c.args.def x.params) in
    let out = output_type (coroutine_kind x.async_ x.gen_) (ret_part (at_place in_output at) x.ret) in
    let end : List TypeRefId → Option TypeRefId → Lowering Signature = λ args ret. pure (record {
      args = args;
      ret = ret;
      has_self = is_received (receiver_part at c.args.def x.params);
      has_variadic = any_variadic (arguments_part at c.args.def x.params);
    }) in
    let args = c.in_ok-args.args in
    let ret = c.in_ok-ret.ret in
    let answer : Signature = record {
      args = args;
      ret = ret;
      has_self = is_received (receiver_part at c.args.def x.params);
      has_variadic = any_variadic (arguments_part at c.args.def x.params);
    } in
    let new = c.output.new.state in
    rw (c.has_self-has_self.ensures, c.has_variadic-has_variadic.ensures) (
    then_lowers HasNone HasSignature read (λ _. inputs >>= (λ args. out >>= end args)) c.args.state.now c.generics.new.state new
    c.in_ok-generics.field-0 (Ok answer)
    (generics_here at c.args.def _ x.generics _ x.where_ c.args.state.now c.generics.new.state
    (Ok c.in_ok-generics.field-0) c.as_ref-list.ensures.value c.as_ref-clause.ensures.value c.in_ok-generics.ensures)
    (then_lowers HasTypes HasSignature inputs (λ args. out >>= end args) c.generics.new.state c.input_types.new.state new args
    (Ok answer) c.in_ok-args.ensures
    (then_lowers HasTypeOption HasSignature out (end args) c.input_types.new.state new new ret (Ok answer) c.in_ok-ret.ensures
    (last HasSignature answer new (
      kept c.input_types.new.state.stored new.stored (past_type_ids args) c.in_ok-ret.ensures.1 c.in_ok-args.ensures.2,
      c.in_ok-ret.ensures.2,
    )))))
