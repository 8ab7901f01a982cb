use Rattle.std.proofs.Common.{arith, ◌∙◌, ap, sym, ◌≤◌}
use Rattle.hir_syntax.specs.declared.ast.ElseBranch.TheOpen.{ExprKind-F}
use Rattle.hir_syntax.specs.declared.ast.ExprKind.TheVariants as kind
use Rattle.hir_env.specs.Conditions.{holds_let, is_with_let}
use Rattle.hir_env.specs.Count.{count_expr}
use Rattle.hir_env.specs.ResolveCtx.{site_of}
use Rattle.hir_env.specs.Whole.{resolved_expr, expr_part}
use Rattle.hir_lower_builder.specs.Methods.{at_place}
use Rattle.hir_lower_pat.specs.Calls.{expr_lent}
use Rattle.hir_lower_pat.proofs.AssigneeLemmas.{enabled_is, opened}
use Rattle.hir_lower_pat.proofs.TargetCallees.{call_size, inside_size, is_behind, size_inside}
use Rattle.hir_lower_expr.specs.Conditions.{is_and, let_there}
use Rattle.hir_lower_expr.proofs.ConditionLemmas.{absent_holds, and_holds, and_size, by_left, by_none, by_right, call_holds}
use Rattle.hir_lower_expr.proofs.ConditionLemmas.{disabled_holds, lacking_holds, let_holds, other_holds, paren_holds, paren_size}
use Rattle.hir_lower_expr.proofs.ConditionLemmas.{part_holds, part_size}
use Rattle.hir_lower_expr.proofs.conditions.+holds_let.Goals as goal

-- calls

pub called_with_let-is_with_let-requires : goal.called_with_let-is_with_let-requires
called_with_let-is_with_let-requires g t c κs within =
    let at = g.P.LowerParts.rctx c.args.lowerer.now.parts in
    let node = c.in-Some.node.now in
    let less = is_behind at c.args.call.now (λ q x. count_expr (resolved_expr (at_place at q) x) ≤ size_inside at c.args.call.now)
    (inside_size at c.args.call.now) c.in-Some.place node (sym c.expr_behind.ensures ∙ ap expr_lent c.in-Some.is) in
    let same = ap (λ s. count_expr (resolved_expr s node)) c.moved.ensures.rctx in
    (omega (arith, c.decreases, less, same), within)

pub called_with_let-returns-in-Some : goal.called_with_let-returns-in-Some
called_with_let-returns-in-Some g t c =
    let at = g.P.LowerParts.rctx c.args.lowerer.now.parts in
    let there = sym c.expr_behind.ensures ∙ ap expr_lent c.in-Some.is in
    c.is_with_let.ensures ∙ (ap (λ s. is_with_let (resolved_expr s c.in-Some.node.now)) c.moved.ensures.rctx
    ∙ ap (let_there at) (sym there))

pub called_with_let-returns-in-None : goal.called_with_let-returns-in-None
called_with_let-returns-in-None g t c =
    let at = g.P.LowerParts.rctx c.args.lowerer.now.parts in
    ap (let_there at) (sym (sym c.expr_behind.ensures ∙ ap expr_lent c.in-None.is))

-- operators

pub is_and_with_let-holds_let-requires : goal.is_and_with_let-holds_let-requires
is_and_with_let-holds_let-requires g t c κs within = (omega (arith, c.decreases), within)

pub is_and_with_let-holds_let-requires-else-holds_let : goal.is_and_with_let-holds_let-requires-else-holds_let
is_and_with_let-holds_let-requires-else-holds_let g t c κs within = (omega (arith, c.decreases), within)

pub is_and_with_let-returns-then-holds_let : goal.is_and_with_let-returns-then-holds_let
is_and_with_let-returns-then-holds_let g t c =
    by_left _ _ _ _ (sym c.if-is_and.true ∙ c.is_and.ensures) (sym c.if-holds_let.true ∙ c.holds_let.ensures) c.if-holds_let.true

pub is_and_with_let-returns-else-holds_let : goal.is_and_with_let-returns-else-holds_let
is_and_with_let-returns-else-holds_let g t c =
    by_right _ _ _ _ (sym c.if-is_and.true ∙ c.is_and.ensures) (sym c.if-holds_let.false ∙ c.holds_let.ensures)
    c.holds_let-else-holds_let.ensures

pub is_and_with_let-returns-else-is_and : goal.is_and_with_let-returns-else-is_and
is_and_with_let-returns-else-is_and g t c =
    let at = g.P.LowerParts.rctx c.args.lowerer.now.parts in
    by_none (is_and c.args.op.now) (holds_let (expr_part at c.args.lhs.now)) (holds_let (expr_part at c.args.rhs.now)) _
    (sym c.if-is_and.false ∙ c.is_and.ensures) c.if-is_and.false

-- by their kinds

pub is_kept_with_let-returns-in-LetExpr : goal.is_kept_with_let-returns-in-LetExpr
is_kept_with_let-returns-in-LetExpr g t c =
    let at = g.P.LowerParts.rctx c.args.lowerer.now.parts in
    sym (let_holds at c.args.node.now _ _ (opened (kind.rolls-LetExpr _ _ ∙ sym c.in-LetExpr.is)))

pub is_kept_with_let-holds_let-requires : goal.is_kept_with_let-holds_let-requires
is_kept_with_let-holds_let-requires g t c κs within =
    let at = g.P.LowerParts.rctx c.args.lowerer.now.parts in
    let is = opened (kind.rolls-ParenExpr _ ∙ sym c.in-ParenExpr.is) in
    let size = paren_size at c.args.node.now c.in-ParenExpr.expr is in
    (omega (arith, c.decreases, size), within)

pub is_kept_with_let-returns-in-ParenExpr : goal.is_kept_with_let-returns-in-ParenExpr
is_kept_with_let-returns-in-ParenExpr g t c =
    let at = g.P.LowerParts.rctx c.args.lowerer.now.parts in
    let is = opened (kind.rolls-ParenExpr _ ∙ sym c.in-ParenExpr.is) in
    c.holds_let.ensures ∙ sym (paren_holds at c.args.node.now c.in-ParenExpr.expr is)

pub is_kept_with_let-is_and_with_let-requires : goal.is_kept_with_let-is_and_with_let-requires
is_kept_with_let-is_and_with_let-requires g t c κs within =
    let at = g.P.LowerParts.rctx c.args.lowerer.now.parts in
    let is = opened (kind.rolls-BinExpr _ _ _ ∙ sym c.in-BinExpr.is) in
    let size = and_size at c.args.node.now c.in-BinExpr.op c.in-BinExpr.lhs c.in-BinExpr.rhs is in
    (omega (arith, c.decreases, size), within)

pub is_kept_with_let-returns-in-BinExpr : goal.is_kept_with_let-returns-in-BinExpr
is_kept_with_let-returns-in-BinExpr g t c =
    let at = g.P.LowerParts.rctx c.args.lowerer.now.parts in
    let is = opened (kind.rolls-BinExpr _ _ _ ∙ sym c.in-BinExpr.is) in
    c.is_and_with_let.ensures ∙ sym (and_holds at c.args.node.now c.in-BinExpr.op c.in-BinExpr.lhs c.in-BinExpr.rhs is)

pub is_kept_with_let-called_with_let-requires : goal.is_kept_with_let-called_with_let-requires
is_kept_with_let-called_with_let-requires g t c κs within =
    let at = g.P.LowerParts.rctx c.args.lowerer.now.parts in
    let is = opened (kind.rolls-MacroExpr _ ∙ sym c.in-MacroExpr.is) ∙ ap (λ o. ExprKind-F.MacroExpr o) c.in-Some.is in
    let size = call_size at c.in-Some.call c.args.node.now is in
    (omega (arith, c.decreases, size), within)

pub is_kept_with_let-returns-in-Some : goal.is_kept_with_let-returns-in-Some
is_kept_with_let-returns-in-Some g t c =
    let at = g.P.LowerParts.rctx c.args.lowerer.now.parts in
    let is = opened (kind.rolls-MacroExpr _ ∙ sym c.in-MacroExpr.is) ∙ ap (λ o. ExprKind-F.MacroExpr o) c.in-Some.is in
    c.called_with_let.ensures ∙ sym (call_holds at c.args.node.now c.in-Some.call is)

pub is_kept_with_let-returns-in-None : goal.is_kept_with_let-returns-in-None
is_kept_with_let-returns-in-None g t c =
    let at = g.P.LowerParts.rctx c.args.lowerer.now.parts in
    let is = opened (kind.rolls-MacroExpr _ ∙ sym c.in-MacroExpr.is) ∙ ap (λ o. ExprKind-F.MacroExpr o) c.in-None.is in
    sym (lacking_holds at c.args.node.now is)

pub is_kept_with_let-returns-in_default : goal.is_kept_with_let-returns-in_default
is_kept_with_let-returns-in_default g t c =
    let at = g.P.LowerParts.rctx c.args.lowerer.now.parts in
    let d = c.in_default in
    sym (other_holds at c.args.node.now d.not-LetExpr d.not-ParenExpr d.not-BinExpr d.not-MacroExpr)

-- with the condition that disables it

pub is_with_let-returns-in-Err : goal.is_with_let-returns-in-Err
is_with_let-returns-in-Err g t c =
    let at = g.P.LowerParts.rctx c.args.lowerer.now.parts in
    let asked = sym (c.cfg.ensures ∙ ap at.answers.cfg (c.site.ensures ∙ ap site_of c.pointer-at.ensures)) ∙ c.in-Err.is in
    sym (disabled_holds at c.args.node.now _ asked)

pub is_with_let-is_kept_with_let-requires : goal.is_with_let-is_kept_with_let-requires
is_with_let-is_kept_with_let-requires g t c κs within = (omega (arith, c.decreases), within)

pub is_with_let-returns-in-Ok : goal.is_with_let-returns-in-Ok
is_with_let-returns-in-Ok g t c =
    let at = g.P.LowerParts.rctx c.args.lowerer.now.parts in
    let asked = sym (c.cfg.ensures ∙ ap at.answers.cfg (c.site.ensures ∙ ap site_of c.pointer-at.ensures)) ∙ c.in-Ok.is in
    c.is_kept_with_let.ensures ∙ ap is_with_let (sym (enabled_is at c.args.node.now asked))

-- a part

pub holds_let-is_with_let-requires : goal.holds_let-is_with_let-requires
holds_let-is_with_let-requires g t c κs within =
    let at = g.P.LowerParts.rctx c.args.lowerer.now.parts in
    let size = part_size at c.args.part.now _ c.get.result.now c.in-Some.is c.get.ensures in
    (omega (arith, c.decreases, size), within)

pub holds_let-returns-in-Some : goal.holds_let-returns-in-Some
holds_let-returns-in-Some g t c =
    let at = g.P.LowerParts.rctx c.args.lowerer.now.parts in
    c.is_with_let.ensures ∙ part_holds at c.args.part.now _ c.get.result.now c.in-Some.is c.get.ensures

pub holds_let-returns-in-None : goal.holds_let-returns-in-None
holds_let-returns-in-None g t c = sym (absent_holds (g.P.LowerParts.rctx c.args.lowerer.now.parts) c.args.part.now c.in-None.is)
