use Rattle.std.proofs.lemmas.Grind.{common_steps}
use Rattle.std.proofs.Common.{◌∙◌, sym, arith}
use Rattle.hir_syntax.specs.declared.ast.ExprKind.TheVariants as kind
use Rattle.hir_lower_dispatch.proofs.OfFamily.{opened, only_control}
use Rattle.hir_lower_dispatch.proofs.families.control_kind.Goals as goal

pub if_form-requires : goal.if_form-requires
if_form-requires g c =
    let parts = rw (opened (kind.rolls-IfExpr _ _ _ ∙ sym c.in-IfExpr.is)) at c.requires.parts in
    record { condition = parts.0; then = parts.1; else_ = parts.2 }

pub loop_form-requires : goal.loop_form-requires
loop_form-requires g c = rw (opened (kind.rolls-LoopExpr _ _ ∙ sym c.in-LoopExpr.is)) at c.requires.parts

pub while_form-requires : goal.while_form-requires
while_form-requires g c =
    let parts = rw (opened (kind.rolls-WhileExpr _ _ _ ∙ sym c.in-WhileExpr.is)) at c.requires.parts in
    record { condition = parts.0; body = parts.1 }

pub block_form-requires : goal.block_form-requires
block_form-requires g c =
    let parts = rw (opened (kind.rolls-BlockExpr _ ∙ sym c.in-BlockExpr.is)) at c.requires.parts in rw c.get.ensures parts

pub question_form-requires : goal.question_form-requires
question_form-requires g c = rw (opened (kind.rolls-TryExpr _ ∙ sym c.in-TryExpr.is)) at c.requires.parts

pub break_form-requires : goal.break_form-requires
break_form-requires g c = rw (opened (kind.rolls-BreakExpr _ _ ∙ sym c.in-BreakExpr.is)) at c.requires.parts

pub returns-in-IfExpr : goal.returns-in-IfExpr
returns-in-IfExpr g c = rw (opened (kind.rolls-IfExpr _ _ _ ∙ sym c.in-IfExpr.is)) c.if_form.ensures

pub returns-in-LoopExpr : goal.returns-in-LoopExpr
returns-in-LoopExpr g c = rw (opened (kind.rolls-LoopExpr _ _ ∙ sym c.in-LoopExpr.is)) c.loop_form.ensures

pub returns-in-WhileExpr : goal.returns-in-WhileExpr
returns-in-WhileExpr g c = rw (opened (kind.rolls-WhileExpr _ _ _ ∙ sym c.in-WhileExpr.is)) c.while_form.ensures

pub returns-in-TryExpr : goal.returns-in-TryExpr
returns-in-TryExpr g c = rw (opened (kind.rolls-TryExpr _ ∙ sym c.in-TryExpr.is)) c.question_form.ensures

pub returns-in-ContinueExpr : goal.returns-in-ContinueExpr
returns-in-ContinueExpr g c = rw (opened (kind.rolls-ContinueExpr _ ∙ sym c.in-ContinueExpr.is)) c.continue_form.ensures

pub returns-in-BreakExpr : goal.returns-in-BreakExpr
returns-in-BreakExpr g c = rw (opened (kind.rolls-BreakExpr _ _ ∙ sym c.in-BreakExpr.is)) c.break_form.ensures

pub unreachable-requires : goal.unreachable-requires
unreachable-requires g c = grind (arith, common_steps, only_control)
