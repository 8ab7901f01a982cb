use Rattle.std.proofs.lemmas.Grind.{common_steps}
use Rattle.std.proofs.Common.{◌∙◌, sym, arith}
use Rattle.hir_syntax.specs.declared.ast.ExprKind.TheVariants as kind
use Rattle.hir_lower_dispatch.proofs.OfFamily.{opened, only_typed}
use Rattle.hir_lower_dispatch.proofs.families.typed_kind.Goals as goal

pub path_form-requires : goal.path_form-requires
path_form-requires g c = rw (opened (kind.rolls-PathExpr _ ∙ sym c.in-PathExpr.is)) at c.requires.parts

pub cast_form-requires : goal.cast_form-requires
cast_form-requires g c =
    let parts = rw (opened (kind.rolls-CastExpr _ _ ∙ sym c.in-CastExpr.is)) at c.requires.parts in
    record { operand = parts.0; ty = parts.1 }

pub record_form-requires : goal.record_form-requires
record_form-requires g c =
    let parts = rw (opened (kind.rolls-RecordExpr _ _ ∙ sym c.in-RecordExpr.is)) at c.requires.parts in
    record { path = parts.0; list = parts.1 }

pub offset_of_form-requires : goal.offset_of_form-requires
offset_of_form-requires g c = rw (opened (kind.rolls-OffsetOfExpr _ _ ∙ sym c.in-OffsetOfExpr.is)) at c.requires.parts

pub returns-in-PathExpr : goal.returns-in-PathExpr
returns-in-PathExpr g c = rw (opened (kind.rolls-PathExpr _ ∙ sym c.in-PathExpr.is)) c.path_form.ensures

pub returns-in-CastExpr : goal.returns-in-CastExpr
returns-in-CastExpr g c = rw (opened (kind.rolls-CastExpr _ _ ∙ sym c.in-CastExpr.is)) c.cast_form.ensures

pub returns-in-RecordExpr : goal.returns-in-RecordExpr
returns-in-RecordExpr g c = rw (opened (kind.rolls-RecordExpr _ _ ∙ sym c.in-RecordExpr.is)) c.record_form.ensures

pub returns-in-OffsetOfExpr : goal.returns-in-OffsetOfExpr
returns-in-OffsetOfExpr g c = rw (opened (kind.rolls-OffsetOfExpr _ _ ∙ sym c.in-OffsetOfExpr.is)) c.offset_of_form.ensures

pub unreachable-requires : goal.unreachable-requires
unreachable-requires g c = grind (arith, common_steps, only_typed)
