use Rattle.std.proofs.Common.{◌∙◌, sym}
use Rattle.hir_syntax.specs.declared.ast.ExprKind.TheVariants as kind
use Rattle.hir_lower_dispatch.proofs.OfFamily.{opened}
use Rattle.hir_lower_dispatch.proofs.families.access_kind.Goals as goal

pub paren_form-requires : goal.paren_form-requires
paren_form-requires g c = rw (opened (kind.rolls-ParenExpr _ ∙ sym c.in-ParenExpr.is)) at c.requires.parts

pub field_form-requires : goal.field_form-requires
field_form-requires g c = rw (opened (kind.rolls-FieldExpr _ _ ∙ sym c.in-FieldExpr.is)) at c.requires.parts

pub index_form-requires : goal.index_form-requires
index_form-requires g c =
    let parts = rw (opened (kind.rolls-IndexExpr _ _ ∙ sym c.in-IndexExpr.is)) at c.requires.parts in
    record { base = parts.0; index = parts.1 }

pub reference_form-requires : goal.reference_form-requires
reference_form-requires g c = rw (opened (kind.rolls-RefExpr _ _ _ ∙ sym c.in-RefExpr.is)) at c.requires.parts

pub returns-in-ParenExpr : goal.returns-in-ParenExpr
returns-in-ParenExpr g c = rw (opened (kind.rolls-ParenExpr _ ∙ sym c.in-ParenExpr.is)) c.paren_form.ensures

pub returns-in-FieldExpr : goal.returns-in-FieldExpr
returns-in-FieldExpr g c = rw (opened (kind.rolls-FieldExpr _ _ ∙ sym c.in-FieldExpr.is)) c.field_form.ensures

pub returns-in-IndexExpr : goal.returns-in-IndexExpr
returns-in-IndexExpr g c = rw (opened (kind.rolls-IndexExpr _ _ ∙ sym c.in-IndexExpr.is)) c.index_form.ensures

pub returns-in-RefExpr : goal.returns-in-RefExpr
returns-in-RefExpr g c = rw (opened (kind.rolls-RefExpr _ _ _ ∙ sym c.in-RefExpr.is)) c.reference_form.ensures
