-- What is read at a place that is the one here.
use Rattle.std.proofs.Common.{◌≡◌, ◌∙◌, ap, subst, sym, [], false, if◌then◌else◌, Option, Some, None, Err}
use Rattle.hir_syntax.specs.declared.pats.Pat.{Pat as AstPat}
use Rattle.hir_syntax.specs.declared.types.Param.{Param as AstParam, out-Param}
use Rattle.hir_syntax.specs.declared.types.Type_.{Type_ as AstType_}
use Rattle.hir_store.specs.Pointers.{Pointer}
use Rattle.hir_store.specs.Range.{HasType}
use Rattle.hir_store.specs.declared.error.StoreError.{StoreError}
use Rattle.hir_store.specs.declared.ids.PatId.{PatId}
use Rattle.hir_store.specs.declared.ids.TypeRefId.{TypeRefId}
use Rattle.hir_store.specs.declared.type_ref.TypeRef.TheVariants as ty
use Rattle.hir_env.specs.ResolvedTree as tree
use Rattle.hir_env.specs.ResolvedTree.{Bounds}
use Rattle.hir_env.specs.declared.ctx.LowerCtx.{LowerCtx}
use Rattle.hir_env.specs.Paths.{inside_constant}
use Rattle.hir_env.specs.ResolveCtx.{ResolveCtx}
use Rattle.hir_env.specs.TypePats.{type_pat_or_none}
use Rattle.hir_env.specs.Whole.{answer_part, resolved_type, param_level, pat_part, type_pat_part, type_part}
use Rattle.hir_env.specs.Wrapped.{AstRetType}
use Rattle.hir_lower_builder.specs.Builder.{Builder}
use Rattle.hir_lower_builder.specs.Lower.{lower_bounds, lower_type, some, type_or_unit}
use Rattle.hir_lower_builder.specs.Lower as spec
use Rattle.hir_lower_builder.specs.Lowering.{Checked, Lowering, Lowers, alloc_type, go_on, pure}
use Rattle.hir_lower_builder.specs.Methods.{LowersType, LowersTypePat, at_place}
use Rattle.hir_lower_builder.specs.Types.{dyn_type_form}
use Rattle.hir_lower_type.specs.Params.{lower_param}

pub answer_here : (at : ResolveCtx) (p : LowerCtx) (ret : Option AstRetType) (x y : AstType_) (old : Builder) (r : Checked TypeRefId)
    (new : Builder)
    → ret ≡ Some (Some x) → y ≡ x → p ≡ at.place → LowersType None (resolved_type (at_place at p) y) old r new
    → Lowers HasType (type_or_unit (answer_part at ret)) old r new
answer_here at p ret x y old r new e same here h = subst (λ z. Lowers HasType (type_or_unit (answer_part at z)) old r new) (sym e)
    (subst (λ z. LowersType None (resolved_type at z) old r new) same
    (subst (λ q. LowersType None (resolved_type (at_place at q) y) old r new) here h))

pub pat_here : (at : ResolveCtx) (p q : LowerCtx) (x : Option AstPat) (old : Builder) (r : Checked PatId) (new : Builder)
    → p ≡ inside_constant q → q ≡ at.place → LowersTypePat (type_pat_part (at_place at p) x) old r new
    → LowersTypePat (type_pat_or_none at.answers.lang_items (pat_part (at_place at (inside_constant at.place)) x)) old r new
pat_here at p q x old r new e here h =
    subst (λ a. LowersTypePat (type_pat_part (at_place at a) x) old r new) (e ∙ ap inside_constant here) h

pub dyn_here : (at : ResolveCtx) (p : LowerCtx) (node : Pointer) (read : ResolveCtx → Bounds) (old new : Builder) (e : StoreError)
    → p ≡ at.place
    → lower_bounds [] (read (at_place at p)) old ≡ (Err e, new) → lower_type None (tree.dyn_type node (read at)) old ≡ (Err e, new)
unfolding dyn_type_form
dyn_here at p node read old new e here h =
    let there = subst (λ q. lower_bounds [] (read (at_place at q)) old ≡ (Err e, new)) here h in
    ap (λ o. go_on o.0 o.1 (λ bs. alloc_type (ty.DynTrait bs) (Some node))) there

refused : {A B : Type 0} (q : Lowering A) (f : A → B) (old new : Builder) (e : StoreError) → q old ≡ (Err e, new)
    → go_on (q old).0 (q old).1 (λ a. pure (f a)) ≡ (Err e, new)
refused q f old new e h = ap (λ o. go_on o.0 o.1 (λ a. pure (f a))) h

-- what refuses the type of a parameter refuses the parameter
pub param_here : (at : ResolveCtx) (p : LowerCtx) (x : AstParam) (old new : Builder) (e : StoreError)
    → (out-Param x).variadic ≡ false → p ≡ at.place → spec.type_part None (type_part (at_place at p) (out-Param x).ty) old ≡ (Err e, new)
    → lower_param (param_level at x) old ≡ (Err e, new)
param_here at p x old new e plain here h =
    let there = subst (λ q. spec.type_part None (type_part (at_place at q) (out-Param x).ty) old ≡ (Err e, new)) here h in
    ap (λ b. (if b then pure None else some (spec.type_part None (type_part at (out-Param x).ty))) old) plain
    ∙ refused (spec.type_part None (type_part at (out-Param x).ty)) Some old new e there
