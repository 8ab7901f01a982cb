use Rattle.std.proofs.lemmas.Grind.{common_steps}
use Rattle.std.proofs.Common.{◌∙◌, sym, arith}
use Rattle.hir_syntax.specs.declared.ast.ExprKind.TheVariants as kind
use Rattle.hir_lower_dispatch.proofs.OfFamily.{opened, only_listing}
use Rattle.hir_lower_dispatch.proofs.families.listing_kind.Goals as goal

pub call_form-requires : goal.call_form-requires
call_form-requires g c =
    let parts = rw (opened (kind.rolls-CallExpr _ _ ∙ sym c.in-CallExpr.is)) at c.requires.parts in
    record { callee = parts.0; args = parts.1 }

pub method_call_form-requires : goal.method_call_form-requires
method_call_form-requires g c =
    let parts = rw (opened (kind.rolls-MethodCallExpr _ _ _ _ ∙ sym c.in-MethodCallExpr.is)) at c.requires.parts in
    record { receiver = parts.0; generics = parts.1; args = parts.2 }

pub tuple_form-requires : goal.tuple_form-requires
tuple_form-requires g c = rw (opened (kind.rolls-TupleExpr _ _ ∙ sym c.in-TupleExpr.is)) at c.requires.parts

pub array_form-requires : goal.array_form-requires
array_form-requires g c = rw (opened (kind.rolls-ArrayExpr _ ∙ sym c.in-ArrayExpr.is)) at c.requires.parts

pub repeat_form-requires : goal.repeat_form-requires
repeat_form-requires g c =
    let parts = rw (opened (kind.rolls-RepeatExpr _ _ ∙ sym c.in-RepeatExpr.is)) at c.requires.parts in
    record { init = parts.0; len = parts.1 }

pub returns-in-CallExpr : goal.returns-in-CallExpr
returns-in-CallExpr g c = rw (opened (kind.rolls-CallExpr _ _ ∙ sym c.in-CallExpr.is)) c.call_form.ensures

pub returns-in-MethodCallExpr : goal.returns-in-MethodCallExpr
returns-in-MethodCallExpr g c = rw (opened (kind.rolls-MethodCallExpr _ _ _ _ ∙ sym c.in-MethodCallExpr.is)) c.method_call_form.ensures

pub returns-in-TupleExpr : goal.returns-in-TupleExpr
returns-in-TupleExpr g c = rw (opened (kind.rolls-TupleExpr _ _ ∙ sym c.in-TupleExpr.is)) c.tuple_form.ensures

pub returns-in-ArrayExpr : goal.returns-in-ArrayExpr
returns-in-ArrayExpr g c = rw (opened (kind.rolls-ArrayExpr _ ∙ sym c.in-ArrayExpr.is)) c.array_form.ensures

pub returns-in-RepeatExpr : goal.returns-in-RepeatExpr
returns-in-RepeatExpr g c = rw (opened (kind.rolls-RepeatExpr _ _ ∙ sym c.in-RepeatExpr.is)) c.repeat_form.ensures

pub unreachable-requires : goal.unreachable-requires
unreachable-requires g c = grind (arith, common_steps, only_listing)
