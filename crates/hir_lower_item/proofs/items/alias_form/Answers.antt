use Rattle.std.proofs.Common.{Err, Ok}
use Rattle.std.specs.Prelude.{[], List, Option}
use Rattle.hir_store.specs.Past.{past_bounds, past_present, past_type_id}
use Rattle.hir_store.specs.Range.{HasBounds, HasNone, HasTypeOption}
use Rattle.hir_store.specs.declared.ids.TypeRefId.{TypeRefId}
use Rattle.hir_store.specs.declared.type_ref.TypeBound.{TypeBound}
use Rattle.hir_env.specs.Whole as of
use Rattle.hir_lower_builder.specs.Lower.{lower_bounds, present_type}
use Rattle.hir_lower_builder.specs.Lowering.{Lowering, ◌>>=◌, pure}
use Rattle.hir_lower_callbacks.specs.ResolveCtxs.{rctx_at}
use Rattle.hir_lower_item.specs.Answering.{resolved_generics, at_place, in_opaque, missing_type, required_type}
use Rattle.hir_lower_item.specs.Has.{HasAlias}
use Rattle.hir_lower_item.specs.Lower.{lower_generics, report_missing}
use Rattle.hir_lower_item.proofs.Here.{present_here}
use Rattle.hir_lower_item.proofs.ItemHere.{bounds_here, fault_here, generics_here}
use Rattle.hir_lower_item.proofs.Last.{kept, kept_thrice, last}
use Rattle.hir_lower_item.proofs.Steps.{refused_first, then_lowers}
use Rattle.hir_lower_item.proofs.items.alias_form.Goals as goal

pub returns-in_err-bounds : goal.returns-in_err-bounds
returns-in_err-bounds g c =
    let a = g.E.LowerEnv.answers c.args.env.now in
    let at = rctx_at a c.args.place in
    let x = c.args.node.now in
    let bounds = lower_bounds [] (of.bounds_part (at_place in_opaque at) x.bounds) in
    let read = lower_generics c.args.def (resolved_generics at c.args.def x.generics x.where_) in
    let ty = present_type (of.type_part (at_place in_opaque at) x.ty) in
    let fault = report_missing (missing_type (of.pointer_at at x.id x.range) x.ty (required_type c.args.container)) in
    let typed : List TypeBound → Option TypeRefId → Lowering (List TypeBound × Option TypeRefId) = λ bs t. fault >>= (λ _. pure (bs, t)) in
    let behind : List TypeBound → Lowering (List TypeBound × Option TypeRefId) = λ bs. read >>= (λ _. ty >>= typed bs) in
    refused_first HasBounds HasAlias bounds behind c.args.state.now c.each_bound.new.state c.in_err-bounds.field-0.0
    c.from_residual.result c.from_residual.ensures.1
    (bounds_here a _ _ _ x.bounds c.args.state.now c.each_bound.new.state (Err c.in_err-bounds.field-0.0) c.in_opaque-inside.ensures
    c.as_slice.ensures
    c.in_err-bounds.ensures)

pub returns-in_err-generics : goal.returns-in_err-generics
returns-in_err-generics g c =
    let a = g.E.LowerEnv.answers c.args.env.now in
    let at = rctx_at a c.args.place in
    let x = c.args.node.now in
    let bounds = lower_bounds [] (of.bounds_part (at_place in_opaque at) x.bounds) in
    let read = lower_generics c.args.def (resolved_generics at c.args.def x.generics x.where_) in
    let ty = present_type (of.type_part (at_place in_opaque at) x.ty) in
    let fault = report_missing (missing_type (of.pointer_at at x.id x.range) x.ty (required_type c.args.container)) in
    let typed : List TypeBound → Option TypeRefId → Lowering (List TypeBound × Option TypeRefId) = λ bs t. fault >>= (λ _. pure (bs, t)) in
    let behind : List TypeBound → Lowering (List TypeBound × Option TypeRefId) = λ bs. read >>= (λ _. ty >>= typed bs) in
    let bs = c.in_ok-bounds.bounds in
    then_lowers HasBounds HasAlias bounds behind c.args.state.now c.each_bound.new.state c.generics.new.state bs
    c.from_residual-in_err-generics.result
    (bounds_here a _ _ _ x.bounds c.args.state.now c.each_bound.new.state (Ok bs) c.in_opaque-inside.ensures c.as_slice.ensures
    c.in_ok-bounds.ensures)
    (refused_first HasNone HasAlias read (λ _. ty >>= typed bs) c.each_bound.new.state c.generics.new.state c.in_err-generics.field-0.0
    c.from_residual-in_err-generics.result c.from_residual-in_err-generics.ensures.1
    (generics_here at c.args.def _ x.generics _ x.where_ c.each_bound.new.state c.generics.new.state
    (Err c.in_err-generics.field-0.0) c.as_ref-list.ensures.value c.as_ref-clause.ensures.value c.in_err-generics.ensures))

pub returns-in_err-ty : goal.returns-in_err-ty
returns-in_err-ty g c =
    let a = g.E.LowerEnv.answers c.args.env.now in
    let at = rctx_at a c.args.place in
    let x = c.args.node.now in
    let bounds = lower_bounds [] (of.bounds_part (at_place in_opaque at) x.bounds) in
    let read = lower_generics c.args.def (resolved_generics at c.args.def x.generics x.where_) in
    let ty = present_type (of.type_part (at_place in_opaque at) x.ty) in
    let fault = report_missing (missing_type (of.pointer_at at x.id x.range) x.ty (required_type c.args.container)) in
    let typed : List TypeBound → Option TypeRefId → Lowering (List TypeBound × Option TypeRefId) = λ bs t. fault >>= (λ _. pure (bs, t)) in
    let behind : List TypeBound → Lowering (List TypeBound × Option TypeRefId) = λ bs. read >>= (λ _. ty >>= typed bs) in
    let bs = c.in_ok-bounds.bounds in
    then_lowers HasBounds HasAlias bounds behind c.args.state.now c.each_bound.new.state c.type_if_present.new.state bs
    c.from_residual-in_err-ty.result
    (bounds_here a _ _ _ x.bounds c.args.state.now c.each_bound.new.state (Ok bs) c.in_opaque-inside.ensures c.as_slice.ensures
    c.in_ok-bounds.ensures)
    (then_lowers HasNone HasAlias read (λ _. ty >>= typed bs) c.each_bound.new.state c.generics.new.state c.type_if_present.new.state
    c.in_ok-generics.field-0 c.from_residual-in_err-ty.result
    (generics_here at c.args.def _ x.generics _ x.where_ c.each_bound.new.state c.generics.new.state
    (Ok c.in_ok-generics.field-0) c.as_ref-list.ensures.value c.as_ref-clause.ensures.value c.in_ok-generics.ensures)
    (refused_first HasTypeOption HasAlias ty (typed bs) c.generics.new.state c.type_if_present.new.state c.in_err-ty.field-0.0
    c.from_residual-in_err-ty.result c.from_residual-in_err-ty.ensures.1
    (present_here a _ _ c.generics.new.state c.type_if_present.new.state c.in_opaque-inside.ensures x.ty (Err c.in_err-ty.field-0.0)
    c.in_err-ty.ensures)))

pub returns-in_err-report_missing : goal.returns-in_err-report_missing
returns-in_err-report_missing g c =
    let a = g.E.LowerEnv.answers c.args.env.now in
    let at = rctx_at a c.args.place in
    let x = c.args.node.now in
    let bounds = lower_bounds [] (of.bounds_part (at_place in_opaque at) x.bounds) in
    let read = lower_generics c.args.def (resolved_generics at c.args.def x.generics x.where_) in
    let ty = present_type (of.type_part (at_place in_opaque at) x.ty) in
    let fault = report_missing (missing_type (of.pointer_at at x.id x.range) x.ty (required_type c.args.container)) in
    let typed : List TypeBound → Option TypeRefId → Lowering (List TypeBound × Option TypeRefId) = λ bs t. fault >>= (λ _. pure (bs, t)) in
    let behind : List TypeBound → Lowering (List TypeBound × Option TypeRefId) = λ bs. read >>= (λ _. ty >>= typed bs) in
    let bs = c.in_ok-bounds.bounds in
    let t = c.in_ok-ty.ty in
    let end = c.report_missing.new.state in
    then_lowers HasBounds HasAlias bounds behind c.args.state.now c.each_bound.new.state end bs
    c.from_residual-in_err-report_missing.result
    (bounds_here a _ _ _ x.bounds c.args.state.now c.each_bound.new.state (Ok bs) c.in_opaque-inside.ensures c.as_slice.ensures
    c.in_ok-bounds.ensures)
    (then_lowers HasNone HasAlias read (λ _. ty >>= typed bs) c.each_bound.new.state c.generics.new.state end c.in_ok-generics.field-0
    c.from_residual-in_err-report_missing.result
    (generics_here at c.args.def _ x.generics _ x.where_ c.each_bound.new.state c.generics.new.state
    (Ok c.in_ok-generics.field-0) c.as_ref-list.ensures.value c.as_ref-clause.ensures.value c.in_ok-generics.ensures)
    (then_lowers HasTypeOption HasAlias ty (typed bs) c.generics.new.state c.type_if_present.new.state end t
    c.from_residual-in_err-report_missing.result
    (present_here a _ _ c.generics.new.state c.type_if_present.new.state c.in_opaque-inside.ensures x.ty (Ok t) c.in_ok-ty.ensures)
    (refused_first HasNone HasAlias fault (λ _. pure (bs, t)) c.type_if_present.new.state end c.in_err-report_missing.field-0.0
    c.from_residual-in_err-report_missing.result c.from_residual-in_err-report_missing.ensures.1
    (fault_here _ (of.pointer_at at x.id x.range) x.ty (required_type c.args.container) c.type_if_present.new.state end
    (Err c.in_err-report_missing.field-0.0) c.pointer.ensures c.in_err-report_missing.ensures))))

pub returns : goal.returns
returns g c =
    let a = g.E.LowerEnv.answers c.args.env.now in
    let at = rctx_at a c.args.place in
    let x = c.args.node.now in
    let bounds = lower_bounds [] (of.bounds_part (at_place in_opaque at) x.bounds) in
    let read = lower_generics c.args.def (resolved_generics at c.args.def x.generics x.where_) in
    let ty = present_type (of.type_part (at_place in_opaque at) x.ty) in
    let fault = report_missing (missing_type (of.pointer_at at x.id x.range) x.ty (required_type c.args.container)) in
    let typed : List TypeBound → Option TypeRefId → Lowering (List TypeBound × Option TypeRefId) = λ bs t. fault >>= (λ _. pure (bs, t)) in
    let behind : List TypeBound → Lowering (List TypeBound × Option TypeRefId) = λ bs. read >>= (λ _. ty >>= typed bs) in
    let bs = c.in_ok-bounds.bounds in
    let t = c.in_ok-ty.ty in
    let end = c.report_missing.new.state in
    let first = bounds_here a _ _ _ x.bounds c.args.state.now c.each_bound.new.state (Ok bs) c.in_opaque-inside.ensures c.as_slice.ensures
    c.in_ok-bounds.ensures in
    let second = generics_here at c.args.def _ x.generics _ x.where_ c.each_bound.new.state c.generics.new.state
    (Ok c.in_ok-generics.field-0) c.as_ref-list.ensures.value c.as_ref-clause.ensures.value c.in_ok-generics.ensures in
    let third = present_here a _ _ c.generics.new.state c.type_if_present.new.state c.in_opaque-inside.ensures x.ty (Ok t)
    c.in_ok-ty.ensures in
    let fourth = fault_here _ (of.pointer_at at x.id x.range) x.ty (required_type c.args.container) c.type_if_present.new.state end
    (Ok c.in_ok-report_missing.field-0) c.pointer.ensures c.in_ok-report_missing.ensures in
    then_lowers HasBounds HasAlias bounds behind c.args.state.now c.each_bound.new.state end bs (Ok (bs, t)) first
    (then_lowers HasNone HasAlias read (λ _. ty >>= typed bs) c.each_bound.new.state c.generics.new.state end c.in_ok-generics.field-0
    (Ok (bs, t)) second
    (then_lowers HasTypeOption HasAlias ty (typed bs) c.generics.new.state c.type_if_present.new.state end t (Ok (bs, t)) third
    (then_lowers HasNone HasAlias fault (λ _. pure (bs, t)) c.type_if_present.new.state end end c.in_ok-report_missing.field-0
    (Ok (bs, t)) fourth
    (last HasAlias (bs, t) end (
      kept_thrice c.each_bound.new.state.stored c.generics.new.state.stored c.type_if_present.new.state.stored end.stored (past_bounds bs)
          second.1 third.1 fourth.1 first.2,
      kept c.type_if_present.new.state.stored end.stored (past_present past_type_id t) fourth.1 third.2,
    )))))
