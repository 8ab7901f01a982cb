-- What a macro call stands for is what the rules allow, where it is so of all that it may stand for.
use Rattle.std.proofs.Common.{◌≡◌, refl, ℕ, zero, suc, List, [], ◌∷◌, Option, Some, None}
use Rattle.hir_syntax.specs.declared.ast.ElseBranch.TheOpen.{ExprKind-F, PatKind-F}
use Rattle.hir_syntax.specs.declared.ast.Expr.{Expr as AstExpr}
use Rattle.hir_syntax.specs.declared.ast.Stmt.{Stmt as AstStmt}
use Rattle.hir_syntax.specs.declared.macros.Fragment.TheVariants as fragment
use Rattle.hir_syntax.specs.declared.macros.MacroCall.{MacroCall as AstMacroCall}
use Rattle.hir_store.specs.Pointers.{Pointer}
use Rattle.hir_env.specs.ResolvedTree as tree
use Rattle.hir_env.specs.ResolvedTree.{Called, Expr, Gone, OptionExpr}
use Rattle.hir_env.specs.Answers.{Answers, Expanding, unresolved, no_expansion, expanded}
use Rattle.hir_env.specs.Calls.{around, around_if, asked_call, call_pointer, entered_expr, entered_pat, entered_splice, expr_in, gone_in}
use Rattle.hir_env.specs.Calls.{pat_in, splice_in, splice_of, spliced_last, stmts_of, value_or_none}
use Rattle.hir_env.specs.Folds.{entering, read_stmt, read_value}
use Rattle.hir_env.specs.Layers.{Defined}
use Rattle.hir_env.specs.declared.expand.FragmentKind.TheVariants as fragments
use Rattle.hir_env.specs.declared.ctx.LowerCtx.{LowerCtx}
use Rattle.thm_reading.specs.Rules as rule
use Rattle.thm_reading.specs.Shapes as shape
use Rattle.thm_reading.specs.Rules.{ContentsAs, ExprKindAs, OptExprAs, OptPatAs, PatKindAs, SpliceAs, StmtsAs, TailAs}
use Rattle.thm_reading.specs.Shapes.{AroundAs, LastAs}
use Rattle.thm_reading.specs.LowerCtx as says
use Rattle.thm_reading.proofs.Motives.{AllByRules, Below, at}
use Rattle.thm_reading.proofs.TypeForms.{call_said, fresh}

gone_said : (s : Pointer) (c : Called) (e : Expr) (g : Option Gone) → gone_in e ≡ g
    → AroundAs s c (tree.some_expr e) (around_if g s c (tree.some_expr e))
gone_said s c e None is = shape.around_expr is
gone_said s (tree.entered c) e (Some why) is = shape.around_gone is
gone_said s tree.callless e (Some why) is = shape.around_gone is
gone_said s tree.unentered e (Some why) is = shape.around_gone is
gone_said s (tree.unresolved x y) e (Some why) is = shape.around_gone is
gone_said s tree.spliced e (Some why) is = shape.around_gone is

around_said : (s : Pointer) (c : Called) (e : OptionExpr) → AroundAs s c e (around s c e)
around_said s c tree.no_expr = shape.around_nothing
around_said s c (tree.some_expr e) = gone_said s c e (gone_in e) refl

last_said : (s : Pointer) (e : OptionExpr) → LastAs s e (spliced_last s e)
last_said s tree.no_expr = shape.no_last
last_said s (tree.some_expr e) = shape.some_last (around_said s tree.spliced (tree.some_expr e))

module _ (a : Answers) where
  pat_within : (n : ℕ) (h : AllByRules a n) (p : LowerCtx) (x : Expanding)
      → OptPatAs a (says.within (Some x) (at (suc n) p)) (says.its_pat (Some x)) (pat_in (fresh a n) (at (suc n) p) x)
  pat_within n h p (expanded f (Some (fragment.Pat t)) es) = rule.some_pat (h.pat t (record p { file_id = f }))
  pat_within n h p (expanded f (Some (fragment.Expr t)) es) = rule.no_pat
  pat_within n h p (expanded f (Some (fragment.Type_ t)) es) = rule.no_pat
  pat_within n h p (expanded f (Some (fragment.Stmts t)) es) = rule.no_pat
  pat_within n h p (expanded f None es) = rule.no_pat
  pat_within n h p (unresolved x) = rule.no_pat
  pat_within n h p no_expansion = rule.no_pat

  pub pat_called : (n : ℕ) (h : Below a n) (c : AstMacroCall) (p : LowerCtx) (s : Pointer)
      → PatKindAs a (at n p) s (PatKind-F.MacroPat (Some c)) (entered_pat a (entering a n) c (at n p) s)
  pat_called zero h c p s = rule.called_pat says.too_deep rule.no_pat
  pat_called (suc n) h c p s = rule.called_pat (call_said _ (asked_call a fragments.Pat c p))
      (pat_within n h p (asked_call a fragments.Pat c p))

  expr_within : (n : ℕ) (h : AllByRules a n) (p : LowerCtx) (x : Expanding)
      → OptExprAs a (says.within (Some x) (at (suc n) p)) (says.its_expr (Some x)) (expr_in (fresh a n) (at (suc n) p) x)
  expr_within n h p (expanded f (Some (fragment.Expr t)) es) = rule.some_expr ((h.expr t).expr (record p { file_id = f }))
  expr_within n h p (expanded f (Some (fragment.Pat t)) es) = rule.no_expr
  expr_within n h p (expanded f (Some (fragment.Type_ t)) es) = rule.no_expr
  expr_within n h p (expanded f (Some (fragment.Stmts t)) es) = rule.no_expr
  expr_within n h p (expanded f None es) = rule.no_expr
  expr_within n h p (unresolved x) = rule.no_expr
  expr_within n h p no_expansion = rule.no_expr

  pub expr_called : (n : ℕ) (h : Below a n) (c : AstMacroCall) (p : LowerCtx) (s : Pointer)
      → ExprKindAs a (at n p) s (ExprKind-F.MacroExpr (Some c)) (entered_expr a (entering a n) c (at n p) s)
  expr_called zero h c p s = rule.called_expr says.too_deep rule.no_expr shape.around_nothing
  expr_called (suc n) h c p s = rule.called_expr (call_said _ (asked_call a fragments.Expr c p))
      (expr_within n h p (asked_call a fragments.Expr c p)) (around_said s _ _)

  stmts_within : (n : ℕ) (h : AllByRules a n) (ss : List AstStmt) (p : LowerCtx) (d : Defined)
      → (let r = stmts_of (read_stmt a (entering a n)) (read_value a (entering a n)) ss (at n p) d in StmtsAs a (at n p) ss d r.stmts
      r.defined)
  stmts_within n h [] p d = rule.no_stmts
  stmts_within n h (s ∷ ss) p d = rule.more_stmts (h.stmt s p d) (stmts_within n h ss p _)

  tail_within : (n : ℕ) (h : AllByRules a n) (e : Option AstExpr) (p : LowerCtx) (d : Defined)
      → (let r = value_or_none (read_stmt a (entering a n)) (read_value a (entering a n)) e (at n p) d in TailAs a (at n p) e d r.stmts
      r.last r.defined)
  tail_within n h None p d = rule.no_tail
  tail_within n h (Some e) p d = rule.some_tail ((h.expr e).value p d)

  contents_within : (n : ℕ) (h : AllByRules a n) (ss : List AstStmt) (e : Option AstExpr) (p : LowerCtx) (d : Defined)
      → (let r = splice_of (read_stmt a (entering a n)) (read_value a (entering a n)) ss e (at n p) d in
      ContentsAs a (at n p) ss e d r.stmts r.last r.defined)
  contents_within n h ss e p d = rule.contents (stmts_within n h ss p d) (tail_within n h e p _)

  splice_within : (n : ℕ) (h : AllByRules a n) (p : LowerCtx) (s c : Pointer) (x : Expanding) (d : Defined)
      → (let r = splice_in (fresh a n) (at (suc n) p) s c x d in SpliceAs a (at (suc n) p) s c (Some x) d r.stmts r.last r.defined)
  splice_within n h p s c (expanded f (Some (fragment.Stmts ms)) es) d =
      rule.spliced (contents_within n h ms.stmts ms.expr (record p { file_id = f }) d) (last_said s _)
  splice_within n h p s c (expanded f (Some (fragment.Expr x)) es) d = rule.no_stmts_in_it refl
  splice_within n h p s c (expanded f (Some (fragment.Pat x)) es) d = rule.no_stmts_in_it refl
  splice_within n h p s c (expanded f (Some (fragment.Type_ x)) es) d = rule.no_stmts_in_it refl
  splice_within n h p s c (expanded f None es) d = rule.no_stmts_in_it refl
  splice_within n h p s c (unresolved x) d = rule.not_found_for_stmts
  splice_within n h p s c no_expansion d = rule.not_expanded_to_stmts

  pub splice_called : (n : ℕ) (h : Below a n) (c : AstMacroCall) (p : LowerCtx) (s : Pointer) (d : Defined)
      → (let r = entered_splice a (entering a n) c (at n p) s d in
      SpliceAs a (at n p) s (call_pointer p c) (says.answer a (at n p) c fragments.Stmts) d r.stmts r.last r.defined)
  splice_called zero h c p s d = rule.too_deep_for_stmts
  splice_called (suc n) h c p s d = splice_within n h p s (call_pointer p c) (asked_call a fragments.Stmts c p) d
