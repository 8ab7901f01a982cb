use Rattle.std.proofs.lemmas.Grind.{common_steps}
use Rattle.std.proofs.Common.{◌∙◌, sym, arith}
use Rattle.hir_syntax.specs.declared.types.TypeKind.TheVariants as kind
use Rattle.hir_lower_type.proofs.AtNodes.{opened, type_as}
use Rattle.hir_lower_type.proofs.types.type_node.Goals as goal

pub type_or_error-requires : goal.type_or_error-requires
type_or_error-requires g c = rw c.place.ensures (rw (opened (kind.rolls-ParenType _ ∙ sym c.in-ParenType.is)) at c.requires)

pub for_form-requires : goal.for_form-requires
for_form-requires g c = rw (opened (kind.rolls-ForType _ _ ∙ sym c.in-ForType.is)) at c.requires

pub returns-in-ForType : goal.returns-in-ForType
returns-in-ForType g c =
    let is = opened (kind.rolls-ForType _ _ ∙ sym c.in-ForType.is) in
    type_as (g.P.LowerParts.rctx c.args.lowerer.now.parts) c.args.binder.now c.args.node.now _ c.pointer-at.result _ _ _
    c.pointer-at.ensures is c.for_form.ensures

pub slice_form-requires : goal.slice_form-requires
slice_form-requires g c = rw (opened (kind.rolls-SliceType _ ∙ sym c.in-SliceType.is)) at c.requires

pub returns-in-SliceType : goal.returns-in-SliceType
returns-in-SliceType g c =
    let is = opened (kind.rolls-SliceType _ ∙ sym c.in-SliceType.is) in
    type_as (g.P.LowerParts.rctx c.args.lowerer.now.parts) c.args.binder.now c.args.node.now _ c.pointer-at.result _ _ _
    c.pointer-at.ensures is c.slice_form.ensures

pub pointer_form-requires : goal.pointer_form-requires
pointer_form-requires g c = rw (opened (kind.rolls-PtrType _ _ ∙ sym c.in-PtrType.is)) at c.requires

pub returns-in-PtrType : goal.returns-in-PtrType
returns-in-PtrType g c =
    let is = opened (kind.rolls-PtrType _ _ ∙ sym c.in-PtrType.is) in
    type_as (g.P.LowerParts.rctx c.args.lowerer.now.parts) c.args.binder.now c.args.node.now _ c.pointer-at.result _ _ _
    c.pointer-at.ensures is c.pointer_form.ensures

pub ref_form-requires : goal.ref_form-requires
ref_form-requires g c = rw (opened (kind.rolls-RefType _ _ _ ∙ sym c.in-RefType.is)) at c.requires

pub returns-in-RefType : goal.returns-in-RefType
returns-in-RefType g c =
    let is = opened (kind.rolls-RefType _ _ _ ∙ sym c.in-RefType.is) in
    type_as (g.P.LowerParts.rctx c.args.lowerer.now.parts) c.args.binder.now c.args.node.now _ c.pointer-at.result _ _ _
    c.pointer-at.ensures is c.ref_form.ensures

pub array_form-requires : goal.array_form-requires
array_form-requires g c =
    let may = rw (opened (kind.rolls-ArrayType _ _ ∙ sym c.in-ArrayType.is)) at c.requires in record { len = may.0; ty = may.1 }

pub returns-in-ArrayType : goal.returns-in-ArrayType
returns-in-ArrayType g c =
    let is = opened (kind.rolls-ArrayType _ _ ∙ sym c.in-ArrayType.is) in
    type_as (g.P.LowerParts.rctx c.args.lowerer.now.parts) c.args.binder.now c.args.node.now _ c.pointer-at.result _ _ _
    c.pointer-at.ensures is c.array_form.ensures

pub tuple_form-requires : goal.tuple_form-requires
tuple_form-requires g c = rw (opened (kind.rolls-TupleType _ ∙ sym c.in-TupleType.is)) at c.requires

pub returns-in-TupleType : goal.returns-in-TupleType
returns-in-TupleType g c =
    let is = opened (kind.rolls-TupleType _ ∙ sym c.in-TupleType.is) in
    type_as (g.P.LowerParts.rctx c.args.lowerer.now.parts) c.args.binder.now c.args.node.now _ c.pointer-at.result _ _ _
    c.pointer-at.ensures is c.tuple_form.ensures

pub path_form-requires : goal.path_form-requires
path_form-requires g c = rw (opened (kind.rolls-PathType _ ∙ sym c.in-PathType.is)) at c.requires

pub returns-in-PathType : goal.returns-in-PathType
returns-in-PathType g c =
    let is = opened (kind.rolls-PathType _ ∙ sym c.in-PathType.is) in
    type_as (g.P.LowerParts.rctx c.args.lowerer.now.parts) c.args.binder.now c.args.node.now _ c.pointer-at.result _ _ _
    c.pointer-at.ensures is c.path_form.ensures

pub fn_form-requires : goal.fn_form-requires
fn_form-requires g c =
    let may = rw (opened (kind.rolls-FnPtrType _ _ _ _ ∙ sym c.in-FnPtrType.is)) at c.requires in record { params = may.0; ret = may.1 }

pub returns-in-FnPtrType : goal.returns-in-FnPtrType
returns-in-FnPtrType g c =
    let is = opened (kind.rolls-FnPtrType _ _ _ _ ∙ sym c.in-FnPtrType.is) in
    type_as (g.P.LowerParts.rctx c.args.lowerer.now.parts) c.args.binder.now c.args.node.now _ c.pointer-at.result _ _ _
    c.pointer-at.ensures is c.fn_form.ensures

pub impl_form-requires : goal.impl_form-requires
impl_form-requires g c = rw (opened (kind.rolls-ImplTraitType _ ∙ sym c.in-ImplTraitType.is)) at c.requires

pub dyn_form-requires : goal.dyn_form-requires
dyn_form-requires g c = rw (opened (kind.rolls-DynTraitType _ ∙ sym c.in-DynTraitType.is)) at c.requires

pub returns-in-DynTraitType : goal.returns-in-DynTraitType
returns-in-DynTraitType g c =
    let is = opened (kind.rolls-DynTraitType _ ∙ sym c.in-DynTraitType.is) in
    type_as (g.P.LowerParts.rctx c.args.lowerer.now.parts) c.args.binder.now c.args.node.now _ c.pointer-at.result _ _ _
    c.pointer-at.ensures is c.dyn_form.ensures

pub pattern_form-requires : goal.pattern_form-requires
pattern_form-requires g c =
    let may = rw (opened (kind.rolls-PatternType _ _ ∙ sym c.in-PatternType.is)) at c.requires in record { ty = may.0; pat = may.1 }

pub returns-in-PatternType : goal.returns-in-PatternType
returns-in-PatternType g c =
    let is = opened (kind.rolls-PatternType _ _ ∙ sym c.in-PatternType.is) in
    type_as (g.P.LowerParts.rctx c.args.lowerer.now.parts) c.args.binder.now c.args.node.now _ c.pointer-at.result _ _ _
    c.pointer-at.ensures is c.pattern_form.ensures

pub returns-in-NeverType : goal.returns-in-NeverType
returns-in-NeverType g c =
    let is = opened (kind.rolls-NeverType ∙ sym c.in-NeverType.is) in
    type_as (g.P.LowerParts.rctx c.args.lowerer.now.parts) c.args.binder.now c.args.node.now _ c.pointer-at.result _ _ _
    c.pointer-at.ensures is c.never_form.ensures

pub returns-in-InferType : goal.returns-in-InferType
returns-in-InferType g c =
    let is = opened (kind.rolls-InferType ∙ sym c.in-InferType.is) in
    type_as (g.P.LowerParts.rctx c.args.lowerer.now.parts) c.args.binder.now c.args.node.now _ c.pointer-at.result _ _ _
    c.pointer-at.ensures is c.infer_form.ensures

pub returns-in-MacroType-Some : goal.returns-in-MacroType-Some
returns-in-MacroType-Some g c = grind (arith, common_steps)

pub returns-in-MacroType-None : goal.returns-in-MacroType-None
returns-in-MacroType-None g c = grind (arith, common_steps)
