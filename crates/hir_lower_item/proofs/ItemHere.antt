-- What is read of an item's parts where they are, or at a place, that are those meant.
use Rattle.std.proofs.Common.{◌≡◌, subst}
use Rattle.std.specs.Prelude.{[], List, Option}
use Rattle.hir_syntax.specs.declared.types.Type_.{Type_ as AstType}
use Rattle.hir_syntax.specs.declared.types.TypeBound.{TypeBound as AstTypeBound}
use Rattle.hir_syntax.specs.declared.items.GenericParam.{GenericParam as AstGenericParam}
use Rattle.hir_syntax.specs.declared.items.WherePred.{WherePred as AstWherePred}
use Rattle.hir_store.specs.Pointers.{Pointer}
use Rattle.hir_store.specs.Range.{HasBounds, HasNone}
use Rattle.hir_store.specs.declared.diagnostics.MissingBodyItemKind.{MissingBodyItemKind}
use Rattle.hir_store.specs.declared.generics.TypeParamProvenance.{TypeParamProvenance}
use Rattle.hir_store.specs.declared.ids.GenericDefId.{GenericDefId}
use Rattle.hir_store.specs.declared.ids.TypeRefId.{TypeRefId}
use Rattle.hir_store.specs.declared.name.Name.{Name}
use Rattle.hir_store.specs.declared.type_ref.TraitRef.{TraitRef}
use Rattle.hir_store.specs.declared.type_ref.TypeBound.{TypeBound}
use Rattle.hir_env.specs.Answers.{Answers}
use Rattle.hir_env.specs.ResolveCtx.{ResolveCtx}
use Rattle.hir_env.specs.Whole.{bounds_part}
use Rattle.hir_env.specs.declared.ctx.LowerCtx.{LowerCtx}
use Rattle.hir_lower_builder.specs.Builder.{Builder}
use Rattle.hir_lower_builder.specs.Lower.{lower_bounds}
use Rattle.hir_lower_builder.specs.Lowering.{Checked, Lowers}
use Rattle.hir_lower_callbacks.specs.ResolveCtxs.{rctx_at}
use Rattle.hir_lower_item.specs.Answering.{resolved_generics, missing_type, trait_of}
use Rattle.hir_lower_item.specs.Has.{HasTraitOption}
use Rattle.hir_lower_item.specs.Lower.{lower_generics, lower_trait_ref, report_missing, type_param_form}

pub generics_here : (at : ResolveCtx) (def : GenericDefId) (ps qs : Option (List AstGenericParam)) (ws xs : Option (List AstWherePred))
    (b d : Builder) (r : Checked (Unit {0})) → ps ≡ qs → ws ≡ xs → Lowers HasNone (lower_generics def (resolved_generics at def ps ws)) b
    r d
    → Lowers HasNone (lower_generics def (resolved_generics at def qs xs)) b r d
generics_here at def ps qs ws xs b d r e f h =
    subst (λ y. Lowers HasNone (lower_generics def (resolved_generics at def qs y)) b r d) f
    (subst (λ y. Lowers HasNone (lower_generics def (resolved_generics at def y ws)) b r d) e h)

pub trait_here : (a : Answers) (p q : LowerCtx) (t : Option AstType) (b d : Builder) (r : Checked (Option TraitRef)) → p ≡ q
    → Lowers HasTraitOption (lower_trait_ref (trait_of (rctx_at a p) t)) b r d
    → Lowers HasTraitOption (lower_trait_ref (trait_of (rctx_at a q) t)) b r d
trait_here a p q t b d r e h = subst (λ x. Lowers HasTraitOption (lower_trait_ref (trait_of (rctx_at a x) t)) b r d) e h

pub bounds_here : (a : Answers) (p q : LowerCtx) (ts us : List AstTypeBound) (b d : Builder) (r : Checked (List TypeBound)) → p ≡ q
    → ts ≡ us
    → Lowers HasBounds (lower_bounds [] (bounds_part (rctx_at a p) ts)) b r d
    → Lowers HasBounds (lower_bounds [] (bounds_part (rctx_at a q) us)) b r d
bounds_here a p q ts us b d r e f h =
    subst (λ y. Lowers HasBounds (lower_bounds [] (bounds_part (rctx_at a q) y)) b r d) f
    (subst (λ x. Lowers HasBounds (lower_bounds [] (bounds_part (rctx_at a x) ts)) b r d) e h)

pub fault_here : (s u : Pointer) (t : Option AstType) (k : Option MissingBodyItemKind) (b d : Builder) (r : Checked (Unit {0})) → s ≡ u
    → Lowers HasNone (report_missing (missing_type s t k)) b r d → Lowers HasNone (report_missing (missing_type u t k)) b r d
fault_here s u t k b d r e h = subst (λ x. Lowers HasNone (report_missing (missing_type x t k)) b r d) e h

pub form_here : (a : Answers) (p q : LowerCtx) (def : GenericDefId) (n m : Name) (t : Option TypeRefId) (from : TypeParamProvenance)
    (ts : List AstTypeBound) (b d : Builder) (r : Checked (Unit {0})) → p ≡ q → n ≡ m
    → Lowers HasNone (type_param_form def n t from (bounds_part (rctx_at a p) ts)) b r d
    → Lowers HasNone (type_param_form def m t from (bounds_part (rctx_at a q) ts)) b r d
form_here a p q def n m t from ts b d r e f h =
    subst (λ y. Lowers HasNone (type_param_form def y t from (bounds_part (rctx_at a q) ts)) b r d) f
    (subst (λ x. Lowers HasNone (type_param_form def n t from (bounds_part (rctx_at a x) ts)) b r d) e h)
