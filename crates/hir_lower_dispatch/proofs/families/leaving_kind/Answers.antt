use Rattle.std.proofs.lemmas.Grind.{common_steps}
use Rattle.std.proofs.Common.{◌∙◌, sym, arith}
use Rattle.hir_syntax.specs.declared.ast.ExprKind.TheVariants as kind
use Rattle.hir_lower_dispatch.proofs.OfFamily.{opened, only_leaving}
use Rattle.hir_lower_dispatch.proofs.families.leaving_kind.Goals as goal

pub return_form-requires : goal.return_form-requires
return_form-requires g c = rw (opened (kind.rolls-ReturnExpr _ ∙ sym c.in-ReturnExpr.is)) at c.requires.parts

pub become_form-requires : goal.become_form-requires
become_form-requires g c = rw (opened (kind.rolls-BecomeExpr _ ∙ sym c.in-BecomeExpr.is)) at c.requires.parts

pub yield_form-requires : goal.yield_form-requires
yield_form-requires g c = rw (opened (kind.rolls-YieldExpr _ ∙ sym c.in-YieldExpr.is)) at c.requires.parts

pub yeet_form-requires : goal.yeet_form-requires
yeet_form-requires g c = rw (opened (kind.rolls-YeetExpr _ ∙ sym c.in-YeetExpr.is)) at c.requires.parts

pub returns-in-ReturnExpr : goal.returns-in-ReturnExpr
returns-in-ReturnExpr g c = rw (opened (kind.rolls-ReturnExpr _ ∙ sym c.in-ReturnExpr.is)) c.return_form.ensures

pub returns-in-BecomeExpr : goal.returns-in-BecomeExpr
returns-in-BecomeExpr g c = rw (opened (kind.rolls-BecomeExpr _ ∙ sym c.in-BecomeExpr.is)) c.become_form.ensures

pub returns-in-YieldExpr : goal.returns-in-YieldExpr
returns-in-YieldExpr g c = rw (opened (kind.rolls-YieldExpr _ ∙ sym c.in-YieldExpr.is)) c.yield_form.ensures

pub returns-in-YeetExpr : goal.returns-in-YeetExpr
returns-in-YeetExpr g c = rw (opened (kind.rolls-YeetExpr _ ∙ sym c.in-YeetExpr.is)) c.yeet_form.ensures

pub unreachable-requires : goal.unreachable-requires
unreachable-requires g c = grind (arith, common_steps, only_leaving)
