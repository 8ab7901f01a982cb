use Rattle.std.proofs.Common.{arith, ◌∙◌, ap, sym, ◌≤◌}
use Rattle.std.specs.Prelude.{is_some}
use Rattle.hir_syntax.specs.declared.ast.ElseBranch.TheOpen.{ExprKind-F}
use Rattle.hir_syntax.specs.declared.ast.ExprKind.TheVariants as kind
use Rattle.hir_env.specs.Count.{count_expr}
use Rattle.hir_env.specs.Targets.{callee_path}
use Rattle.hir_env.specs.Whole.{resolved_expr}
use Rattle.hir_lower_builder.specs.Methods.{at_place}
use Rattle.hir_lower_pat.specs.Calls.{expr_lent}
use Rattle.hir_lower_pat.specs.TargetLists.{path_there}
use Rattle.hir_lower_pat.proofs.AssigneeLemmas.{opened}
use Rattle.hir_lower_pat.proofs.TargetCallees.{call_path, call_size, inside_size, is_behind, lacking_path, other_path, path_path}
use Rattle.hir_lower_pat.proofs.TargetCallees.{size_inside}
use Rattle.hir_lower_pat.proofs.callees.+is_path.Goals as goal

pub called_is_path-is_path-requires : goal.called_is_path-is_path-requires
called_is_path-is_path-requires g t c κs within =
    let at = g.P.LowerParts.rctx c.args.lowerer.now.parts in
    let node = c.in-Some.node.now in
    let less = is_behind at c.args.written.now (λ q x. count_expr (resolved_expr (at_place at q) x) ≤ size_inside at c.args.written.now)
    (inside_size at c.args.written.now) c.in-Some.place node (sym c.expr_behind.ensures ∙ ap expr_lent c.in-Some.is) in
    let same = ap (λ s. count_expr (resolved_expr s node)) c.moved.ensures.rctx in
    (omega (arith, c.decreases, less, same), within)

pub called_is_path-returns-in-Some : goal.called_is_path-returns-in-Some
called_is_path-returns-in-Some g t c =
    let at = g.P.LowerParts.rctx c.args.lowerer.now.parts in
    let there = sym c.expr_behind.ensures ∙ ap expr_lent c.in-Some.is in
    c.is_path.ensures ∙ (ap (λ s. is_some (callee_path (resolved_expr s c.in-Some.node.now))) c.moved.ensures.rctx
    ∙ ap (λ x. is_some (path_there at x)) (sym there))

pub called_is_path-returns-in-None : goal.called_is_path-returns-in-None
called_is_path-returns-in-None g t c =
    let at = g.P.LowerParts.rctx c.args.lowerer.now.parts in
    ap (λ x. is_some (path_there at x)) (sym (sym c.expr_behind.ensures ∙ ap expr_lent c.in-None.is))

pub is_path-called_is_path-requires : goal.is_path-called_is_path-requires
is_path-called_is_path-requires g t c κs within =
    let at = g.P.LowerParts.rctx c.args.lowerer.now.parts in
    let is = opened (kind.rolls-MacroExpr _ ∙ sym c.in-MacroExpr.is) ∙ ap (λ o. ExprKind-F.MacroExpr o) c.in-Some.is in
    let size = call_size at c.in-Some.written c.args.node.now is in
    (omega (arith, c.decreases, size), within)

pub is_path-returns-in-Some : goal.is_path-returns-in-Some
is_path-returns-in-Some g t c =
    let at = g.P.LowerParts.rctx c.args.lowerer.now.parts in
    let is = opened (kind.rolls-MacroExpr _ ∙ sym c.in-MacroExpr.is) ∙ ap (λ o. ExprKind-F.MacroExpr o) c.in-Some.is in
    c.called_is_path.ensures ∙ ap is_some (sym (call_path at c.args.node.now c.in-Some.written is))

pub is_path-returns-in-None : goal.is_path-returns-in-None
is_path-returns-in-None g t c =
    let at = g.P.LowerParts.rctx c.args.lowerer.now.parts in
    let is = opened (kind.rolls-MacroExpr _ ∙ sym c.in-MacroExpr.is) ∙ ap (λ o. ExprKind-F.MacroExpr o) c.in-None.is in
    ap is_some (sym (lacking_path at c.args.node.now is))

pub is_path-returns-in-PathExpr : goal.is_path-returns-in-PathExpr
is_path-returns-in-PathExpr g t c =
    let at = g.P.LowerParts.rctx c.args.lowerer.now.parts in
    ap is_some (sym (path_path at c.args.node.now _ (opened (kind.rolls-PathExpr _ ∙ sym c.in-PathExpr.is))))

pub is_path-returns-in_default : goal.is_path-returns-in_default
is_path-returns-in_default g t c =
    let at = g.P.LowerParts.rctx c.args.lowerer.now.parts in
    ap is_some (sym (other_path at c.args.node.now c.in_default.not-PathExpr c.in_default.not-MacroExpr))
