use Rattle.std.proofs.lemmas.Grind.{common_steps}
use Rattle.std.proofs.Common.{◌≡◌, ◌∙◌, ap, refl, subst, sym, [], ◌∷◌, ◌++◌, List, Err, Ok, arith}
use Rattle.std.specs.Prelude.{None, Option, Some}
use Rattle.hir_syntax.specs.declared.types.Param.{Param as AstParam}
use Rattle.hir_store.specs.Range.{HasNone, HasTypeOption, HasTypes}
use Rattle.hir_store.specs.declared.ids.GenericDefId.{GenericDefId}
use Rattle.hir_store.specs.declared.ids.TypeRefId.{TypeRefId}
use Rattle.hir_env.specs.ResolveCtx.{ResolveCtx}
use Rattle.hir_lower_builder.specs.Builder.{Builder}
use Rattle.hir_lower_builder.specs.Lower.{push_some}
use Rattle.hir_lower_builder.specs.Lowering.{Checked, Lowering, Lowers, ◌>>=◌}
use Rattle.hir_lower_callbacks.specs.ResolveCtxs.{rctx_at}
use Rattle.hir_lower_item.specs.Answering.{resolved_receiver, arguments_of}
use Rattle.hir_lower_item.specs.Lower.{argument_types, lower_receiver, report_each}
use Rattle.hir_lower_item.proofs.Steps.{refused_first, then_lowers}
use Rattle.hir_lower_item.proofs.function.listed_types.Goals as goal
use Rattle.hir_lower_item.proofs.function.listed_types.Goals.{in-Some+in_ok-push_type, in_default}

none_left : (o : Option TypeRefId) → ((x : TypeRefId) → o ≡ Some x → ⊥) → push_some [] o ≡ []
none_left None n = refl
none_left (Some x) n = absurd (n x refl)

faults_here : (at : ResolveCtx) (def : GenericDefId) (xs ys : List AstParam) (b d : Builder) (r : Checked (Unit {0})) → xs ≡ ys
    → Lowers HasNone (report_each (arguments_of at def xs)) b r d → Lowers HasNone (report_each (arguments_of at def ys)) b r d
faults_here at def xs ys b d r e h = subst (λ z. Lowers HasNone (report_each (arguments_of at def z)) b r d) e h

types_here : (at : ResolveCtx) (def : GenericDefId) (ts us : List TypeRefId) (xs ys : List AstParam) (b d : Builder)
    (r : Checked (List TypeRefId)) → ts ≡ us → xs ≡ ys → Lowers HasTypes (argument_types ts (arguments_of at def xs)) b r d
    → Lowers HasTypes (argument_types us (arguments_of at def ys)) b r d
types_here at def ts us xs ys b d r e f h =
    subst (λ z. Lowers HasTypes (argument_types us (arguments_of at def z)) b r d) f
    (subst (λ z. Lowers HasTypes (argument_types z (arguments_of at def xs)) b r d) e h)

pub returns-in_err-report_each : goal.returns-in_err-report_each
returns-in_err-report_each g c =
    let at = rctx_at (g.E.LowerEnv.answers c.args.env.now) c.args.place in
    let self = lower_receiver (resolved_receiver at c.args.def c.args.list.now.self_) in
    let others = arguments_of at c.args.def c.args.list.now.params in
    let behind : Option TypeRefId → Lowering (List TypeRefId) = λ o. report_each others >>= (λ _. argument_types (push_some [] o) others) in
    let o = c.in_ok-id.field-0 in
    then_lowers HasTypeOption HasTypes self behind c.args.state.now c.receiver.new.state c.report_each.new.state o
    c.from_residual-in_err-report_each.result c.in_ok-id.ensures
    (refused_first HasNone HasTypes (report_each others) (λ _. argument_types (push_some [] o) others) c.receiver.new.state
    c.report_each.new.state c.in_err-report_each.field-0.0 c.from_residual-in_err-report_each.result
    c.from_residual-in_err-report_each.ensures.1
    (faults_here at c.args.def _ c.args.list.now.params c.receiver.new.state c.report_each.new.state (Err c.in_err-report_each.field-0.0)
    c.as_slice-params.ensures c.in_err-report_each.ensures))

pub returns : goal.returns
returns g c =
    let at = rctx_at (g.E.LowerEnv.answers c.args.env.now) c.args.place in
    let self = lower_receiver (resolved_receiver at c.args.def c.args.list.now.self_) in
    let others = arguments_of at c.args.def c.args.list.now.params in
    let behind : Option TypeRefId → Lowering (List TypeRefId) = λ o. report_each others >>= (λ _. argument_types (push_some [] o) others) in
    let o = c.in_ok-id.field-0 in
    let taken : c.match-branch-2.types ≡ push_some [] o = elim c.match-branch-2.branch [
      | in-Some+in_ok-push_type w ↦
          w.types-is ∙ w.in_ok-push_type.ensures.items ∙ ap (λ l. l ++ w.in-Some.id ∷ []) c.new-types.ensures
          ∙ ap (push_some []) (sym w.in-Some.is)
      | in_default w ↦ w.types-is ∙ c.new-types.ensures ∙ sym (none_left o w.in_default.not-Some)
    ] in
    then_lowers HasTypeOption HasTypes self behind c.args.state.now c.receiver.new.state c.argument_types.new.state o
    c.argument_types.result c.in_ok-id.ensures
    (then_lowers HasNone HasTypes (report_each others) (λ _. argument_types (push_some [] o) others) c.receiver.new.state
    c.report_each.new.state c.argument_types.new.state c.in_ok-report_each.field-0 c.argument_types.result
    (faults_here at c.args.def _ c.args.list.now.params c.receiver.new.state c.report_each.new.state (Ok c.in_ok-report_each.field-0)
    c.as_slice-params.ensures c.in_ok-report_each.ensures)
    (types_here at c.args.def _ (push_some [] o) _ c.args.list.now.params c.report_each.new.state c.argument_types.new.state
    c.argument_types.result taken c.as_slice-params.ensures c.argument_types.ensures))

pub argument_types-requires : goal.argument_types-requires
argument_types-requires g c = grind (arith, common_steps)
