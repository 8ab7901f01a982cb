use Rattle.std.proofs.Common.{◌∙◌, sym}
use Rattle.hir_syntax.specs.declared.ast.ExprKind.TheVariants as kind
use Rattle.hir_lower_dispatch.proofs.OfFamily.{opened}
use Rattle.hir_lower_dispatch.proofs.families.matching_kind.Goals as goal

pub let_form-requires : goal.let_form-requires
let_form-requires g c =
    let parts = rw (opened (kind.rolls-LetExpr _ _ ∙ sym c.in-LetExpr.is)) at c.requires.parts in
    record { pat = parts.0; expr = parts.1 }

pub match_form-requires : goal.match_form-requires
match_form-requires g c =
    let parts = rw (opened (kind.rolls-MatchExpr _ _ ∙ sym c.in-MatchExpr.is)) at c.requires.parts in
    record { expr = parts.0; arms = parts.1 }

pub for_form-requires : goal.for_form-requires
for_form-requires g c =
    let parts = rw (opened (kind.rolls-ForExpr _ _ _ _ ∙ sym c.in-ForExpr.is)) at c.requires.parts in
    record { pat = parts.0; iterable = parts.1; body = parts.2 }

pub closure_form-requires : goal.closure_form-requires
closure_form-requires g c =
    let parts = rw (opened (kind.rolls-ClosureExpr _ _ _ _ _ _ _ ∙ sym c.in-ClosureExpr.is)) at c.requires.parts in
    record { params = parts.0; ret = parts.1; body = parts.2 }

pub returns-in-LetExpr : goal.returns-in-LetExpr
returns-in-LetExpr g c = rw (opened (kind.rolls-LetExpr _ _ ∙ sym c.in-LetExpr.is)) c.let_form.ensures

pub returns-in-MatchExpr : goal.returns-in-MatchExpr
returns-in-MatchExpr g c = rw (opened (kind.rolls-MatchExpr _ _ ∙ sym c.in-MatchExpr.is)) c.match_form.ensures

pub returns-in-ForExpr : goal.returns-in-ForExpr
returns-in-ForExpr g c = rw (opened (kind.rolls-ForExpr _ _ _ _ ∙ sym c.in-ForExpr.is)) c.for_form.ensures

pub returns-in-ClosureExpr : goal.returns-in-ClosureExpr
returns-in-ClosureExpr g c = rw (opened (kind.rolls-ClosureExpr _ _ _ _ _ _ _ ∙ sym c.in-ClosureExpr.is)) c.closure_form.ensures
