use Rattle.std.proofs.Common.{arith, Err, Ok}
use Rattle.hir_store.specs.Range.{HasNone, HasType}
use Rattle.hir_store.specs.declared.ids.TypeRefId.{TypeRefId}
use Rattle.hir_store.specs.declared.type_ref.TraitRef.{TraitRef}
use Rattle.std.specs.Prelude.{None, Option}
use Rattle.hir_env.specs.Whole as of
use Rattle.hir_lower_builder.specs.Lower.{type_part}
use Rattle.hir_lower_builder.specs.Lowering.{Lowering, ◌>>=◌, pure}
use Rattle.hir_lower_callbacks.specs.ResolveCtxs.{rctx_at}
use Rattle.hir_lower_item.specs.Answering.{resolved_generics, at_place, in_opaque, in_plain, trait_of}
use Rattle.hir_lower_item.specs.Has.{HasImpl, HasTraitOption}
use Rattle.hir_lower_item.specs.Lower.{lower_generics, lower_trait_ref}
use Rattle.hir_lower_item.proofs.Here.{type_here}
use Rattle.hir_lower_item.proofs.ItemHere.{generics_here, trait_here}
use Rattle.hir_lower_item.proofs.Last.{last, trait_kept}
use Rattle.hir_lower_item.proofs.Steps.{refused_first, then_lowers}
use Rattle.hir_lower_item.proofs.items.impl_form.Goals as goal

pub returns-in_err-self_type : goal.returns-in_err-self_type
returns-in_err-self_type g c =
    let a = g.E.LowerEnv.answers c.args.env.now in
    let at = rctx_at a c.args.place in
    let x = c.args.node.now in
    let ty = type_part None (of.type_part (at_place in_plain at) x.self_ty) in
    let tr = lower_trait_ref (trait_of (at_place in_opaque at) x.trait_) in
    let read = lower_generics c.args.def (resolved_generics at c.args.def x.generics x.where_) in
    let behind : TypeRefId → Option TraitRef → Lowering (TypeRefId × Option TraitRef) = λ s t. read >>= (λ _. pure (s, t)) in
    refused_first HasType HasImpl ty (λ s. tr >>= behind s) c.args.state.now c.type_or_error.new.state c.in_err-self_type.field-0.0
    c.from_residual.result c.from_residual.ensures.1
    (type_here a _ _ c.args.state.now c.type_or_error.new.state c.in_plain.ensures x.self_ty (Err c.in_err-self_type.field-0.0)
    c.in_err-self_type.ensures)

pub returns-in_err-trait_ : goal.returns-in_err-trait_
returns-in_err-trait_ g c =
    let a = g.E.LowerEnv.answers c.args.env.now in
    let at = rctx_at a c.args.place in
    let x = c.args.node.now in
    let ty = type_part None (of.type_part (at_place in_plain at) x.self_ty) in
    let tr = lower_trait_ref (trait_of (at_place in_opaque at) x.trait_) in
    let read = lower_generics c.args.def (resolved_generics at c.args.def x.generics x.where_) in
    let behind : TypeRefId → Option TraitRef → Lowering (TypeRefId × Option TraitRef) = λ s t. read >>= (λ _. pure (s, t)) in
    then_lowers HasType HasImpl ty (λ s. tr >>= behind s) c.args.state.now c.type_or_error.new.state c.trait_ref.new.state
    c.in_ok-self_type.self_type c.from_residual-in_err-trait_.result
    (type_here a _ _ c.args.state.now c.type_or_error.new.state c.in_plain.ensures x.self_ty (Ok c.in_ok-self_type.self_type)
    c.in_ok-self_type.ensures)
    (refused_first HasTraitOption HasImpl tr (behind c.in_ok-self_type.self_type) c.type_or_error.new.state c.trait_ref.new.state
    c.in_err-trait_.field-0.0 c.from_residual-in_err-trait_.result c.from_residual-in_err-trait_.ensures.1
    (trait_here a _ _ x.trait_ c.type_or_error.new.state c.trait_ref.new.state (Err c.in_err-trait_.field-0.0) c.in_opaque.ensures
    c.in_err-trait_.ensures))

pub returns-in_err-generics : goal.returns-in_err-generics
returns-in_err-generics g c =
    let a = g.E.LowerEnv.answers c.args.env.now in
    let at = rctx_at a c.args.place in
    let x = c.args.node.now in
    let ty = type_part None (of.type_part (at_place in_plain at) x.self_ty) in
    let tr = lower_trait_ref (trait_of (at_place in_opaque at) x.trait_) in
    let read = lower_generics c.args.def (resolved_generics at c.args.def x.generics x.where_) in
    let behind : TypeRefId → Option TraitRef → Lowering (TypeRefId × Option TraitRef) = λ s t. read >>= (λ _. pure (s, t)) in
    let s = c.in_ok-self_type.self_type in
    let t = c.in_ok-trait_.trait_ in
    then_lowers HasType HasImpl ty (λ s. tr >>= behind s) c.args.state.now c.type_or_error.new.state c.generics.new.state s
    c.from_residual-in_err-generics.result
    (type_here a _ _ c.args.state.now c.type_or_error.new.state c.in_plain.ensures x.self_ty (Ok c.in_ok-self_type.self_type)
    c.in_ok-self_type.ensures)
    (then_lowers HasTraitOption HasImpl tr (behind s) c.type_or_error.new.state c.trait_ref.new.state c.generics.new.state t
    c.from_residual-in_err-generics.result
    (trait_here a _ _ x.trait_ c.type_or_error.new.state c.trait_ref.new.state (Ok t) c.in_opaque.ensures c.in_ok-trait_.ensures)
    (refused_first HasNone HasImpl read (λ _. pure (s, t)) c.trait_ref.new.state c.generics.new.state c.in_err-generics.field-0.0
    c.from_residual-in_err-generics.result c.from_residual-in_err-generics.ensures.1
    (generics_here at c.args.def _ x.generics _ x.where_ c.trait_ref.new.state c.generics.new.state
    (Err c.in_err-generics.field-0.0) c.as_ref-list.ensures.value c.as_ref-clause.ensures.value c.in_err-generics.ensures)))

pub returns : goal.returns
returns g c =
    let a = g.E.LowerEnv.answers c.args.env.now in
    let at = rctx_at a c.args.place in
    let x = c.args.node.now in
    let ty = type_part None (of.type_part (at_place in_plain at) x.self_ty) in
    let tr = lower_trait_ref (trait_of (at_place in_opaque at) x.trait_) in
    let read = lower_generics c.args.def (resolved_generics at c.args.def x.generics x.where_) in
    let behind : TypeRefId → Option TraitRef → Lowering (TypeRefId × Option TraitRef) = λ s t. read >>= (λ _. pure (s, t)) in
    let s = c.in_ok-self_type.self_type in
    let t = c.in_ok-trait_.trait_ in
    let first = type_here a _ _ c.args.state.now c.type_or_error.new.state c.in_plain.ensures x.self_ty (Ok s) c.in_ok-self_type.ensures in
    let second = trait_here a _ _ x.trait_ c.type_or_error.new.state c.trait_ref.new.state (Ok t) c.in_opaque.ensures
    c.in_ok-trait_.ensures in
    let third = generics_here at c.args.def _ x.generics _ x.where_ c.trait_ref.new.state c.generics.new.state
    (Ok c.in_ok-generics.field-0) c.as_ref-list.ensures.value c.as_ref-clause.ensures.value c.in_ok-generics.ensures in
    then_lowers HasType HasImpl ty (λ s. tr >>= behind s) c.args.state.now c.type_or_error.new.state c.generics.new.state s
    (Ok (s, t)) first
    (then_lowers HasTraitOption HasImpl tr (behind s) c.type_or_error.new.state c.trait_ref.new.state c.generics.new.state t
    (Ok (s, t)) second
    (then_lowers HasNone HasImpl read (λ _. pure (s, t)) c.trait_ref.new.state c.generics.new.state c.generics.new.state
    c.in_ok-generics.field-0 (Ok (s, t)) third
    (last HasImpl (s, t) c.generics.new.state (
      omega (arith, first.2, second.1.2, third.1.2),
      trait_kept c.trait_ref.new.state.stored c.generics.new.state.stored t third.1
          second.2,
    ))))
