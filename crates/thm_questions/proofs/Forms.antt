-- What some forms ask, by one level of the list.
use Rattle.std.proofs.Common.{◌≡◌, ◌∙◌, ap, sym, refl, ℕ, suc, List, [], ◌∷◌, ◌++◌, Option, Some, None}
use Rattle.hir_base.specs.declared.op.BinaryOp.TheVariants as op
use Rattle.hir_syntax.specs.declared.ast.BlockExpr.{BlockExpr as AstBlockExpr, out-BlockExpr, roll-out-BlockExpr}
use Rattle.hir_syntax.specs.declared.ast.ElseBranch.TheOpen.{ExprKind-F}
use Rattle.hir_syntax.specs.declared.ast.Expr.{Expr as AstExpr, out-Expr, roll-out-Expr}
use Rattle.hir_syntax.specs.declared.ast.ExprKind.{out-ExprKind, roll-out-ExprKind}
use Rattle.hir_syntax.specs.declared.ast.Stmt.{Stmt as AstStmt}
use Rattle.hir_env.specs.Answers.{Answers}
use Rattle.hir_env.specs.Answering.{inside}
use Rattle.hir_env.specs.Layers.{Defined, ExprKindLayer, written}
use Rattle.hir_env.specs.ResolveCtx.{ptr}
use Rattle.hir_env.specs.declared.ctx.LoweringMode.TheVariants as mode
use Rattle.hir_env.specs.declared.ctx.LowerCtx.{LowerCtx}
use Rattle.hir_env.proofs.Mapped.{beside, map_list, optional}
use Rattle.thm_frame.specs.Theorems.{rctx}
use Rattle.thm_frame.specs.Questions.{Question, of_block}
use Rattle.spec_fold.specs.Folds as fold
use Rattle.spec_fold.proofs.Maps.{map_block, map_expr_kind}
use Rattle.spec_fold.proofs.Rolled.{rolled_block, rolled_expr, rolled_expr_kind}
use Rattle.thm_questions.specs.Asked as asked
use Rattle.thm_questions.specs.Asked.{asking}
use Rattle.thm_questions.specs.Decided.{for_items, question_items}
use Rattle.thm_questions.specs.Forms as form
use Rattle.thm_questions.specs.Lists.{entered_calls, questions}
use Rattle.thm_questions.specs.Parts.{of_option}
use Rattle.thm_questions.proofs.Called.{fresh_asked}
use Rattle.thm_questions.proofs.Claims.{asked_of, in_asked}

module _ (a : Answers) (p : LowerCtx) where
  abbrev n : ℕ
  n = p.left

  -- one level of an expression
  level : (e : AstExpr)
      → questions (rctx p a) e
      ≡ asked.kind_asked a n (entered_calls a n) (map_expr_kind (in_asked a n) (out-ExprKind e.kind)) (ptr e.id e.range) p
  level e =
      (λ j. (sym (ap (fold.fold_expr asking (asked_of a n)) (roll-out-Expr e)) j).expr p)
      ∙ ((λ j. (rolled_expr asking (asked_of a n) (out-Expr e) j).expr p)
      ∙ ((λ j. (sym (ap (fold.fold_expr_kind asking (asked_of a n)) (roll-out-ExprKind e.kind)) j).expr (ptr e.id e.range) p)
      ∙ (λ j. (rolled_expr_kind asking (asked_of a n) (out-ExprKind e.kind) j).expr (ptr e.id e.range) p)))

  -- where it is known which one
  pub level_of : (e : AstExpr) (k : ExprKindLayer written) → out-ExprKind e.kind ≡ k
      → questions (rctx p a) e ≡ asked.kind_asked a n (entered_calls a n) (map_expr_kind (in_asked a n) k) (ptr e.id e.range) p
  level_of e k is = level e ∙ (λ j. asked.kind_asked a n (entered_calls a n) (map_expr_kind (in_asked a n) (is j)) (ptr e.id e.range) p)

  -- one level of a block
  pub own_level : (b : AstBlockExpr)
      → (fold.fold_block asking (asked_of a n) b).own p
      ≡ asked.own_block_asked a n (entered_calls a n) (out-BlockExpr b).mod_ (map_block (in_asked a n) (out-BlockExpr b)) p
  own_level b =
      (λ j. (sym (ap (fold.fold_block asking (asked_of a n)) (roll-out-BlockExpr b)) j).own p)
      ∙ (λ j. (rolled_block asking (asked_of a n) (out-BlockExpr b) j).own p)

  -- parts with what is made of them ask what the parts do

  pub some_is : {W R : Type 0} (h : W → R) (asks : R → List Question) (x : Option W)
      → of_option (λ y. asks y.1) (optional (beside h) x) ≡ of_option (λ y. asks (h y)) x
  some_is h asks None = refl
  some_is h asks (Some x) = refl

  abbrev behind : AstStmt → LowerCtx → Defined → Defined
  behind = asked.behind a n

  abbrev stmt_asked : AstStmt → LowerCtx → Defined → List Question
  stmt_asked = fold.fold_stmt asking (asked_of a n)

  pub stmts_are : (ss : List AstStmt) (q : LowerCtx) (d : Defined)
      → asked.of_stmts a (λ y. y.1) (λ y. behind y.0) (map_list (beside stmt_asked) ss) q d ≡ asked.of_stmts a stmt_asked behind ss q d
  stmts_are [] q d = refl
  stmts_are (s ∷ ss) q d = λ j. stmt_asked s q d ++ stmts_are ss q (behind s q d) j

  pub left_are : (ss : List AstStmt) (q : LowerCtx) (d : Defined)
      → asked.left_off a (λ y. behind y.0) (map_list (beside stmt_asked) ss) q d ≡ asked.left_off a behind ss q d
  left_are [] q d = refl
  left_are (s ∷ ss) q d = left_are ss q (behind s q d)

pub literal : form.LiteralAsks
literal a p e l is = level_of a p e (ExprKind-F.Literal l) is

pub path : form.PathAsks
path a p e x is = level_of a p e (ExprKind-F.PathExpr (Some x)) is

pub limited_call : form.LimitedCallAsks
limited_call a p e c is = level_of a (record p { left = 0 }) e (ExprKind-F.MacroExpr (Some c)) is

pub unresolved_call : form.UnresolvedCallAsks
unresolved_call a p n e c x is answer = let q = record p { left = suc n } in
    level_of a q e (ExprKind-F.MacroExpr (Some c)) is
    ∙ (λ j. asked.own_cfg p e.id ∷ form.of_call p c ∷ asked.of_expr_in a (fresh_asked a n) q (answer j))

pub entered_call : form.EnteredCallAsks
entered_call a p n e c f x es is answer = let q = record p { left = suc n } in
    level_of a q e (ExprKind-F.MacroExpr (Some c)) is
    ∙ (λ j. asked.own_cfg p e.id ∷ form.of_call p c ∷ asked.of_expr_in a (fresh_asked a n) q (answer j))

pub block : form.BlockAsks
block a p e b is plain unlabelled =
    let q = record p { mode = mode.Analysis } in
    let n = p.left in
    let at = asked.own_site p (out-BlockExpr b).id in
    let r = inside (a.block at p.module_id) q in
    level_of a q e (ExprKind-F.BlockExpr b) is
    ∙ (λ j. asked.own_cfg p e.id ∷ (own_level a q b
    ∙ ((λ k. asked.own_block_asked a n (entered_calls a n) (plain k) (map_block (in_asked a n) (out-BlockExpr b)) q)
    ∙ ((λ k. asked.of_label q (unlabelled k) ++ asked.held_asked a n (entered_calls a n) (map_block (in_asked a n) (out-BlockExpr b)) q)
    ∙ (λ k. of_block at p.module_id ∷ (stmts_are a q (out-BlockExpr b).stmts r [] k
    ++ (some_is a q (fold.fold_expr asking (asked_of a n)) (λ y. y.value r (left_are a q (out-BlockExpr b).stmts r [] k))
    (out-BlockExpr b).tail k)))))) j)

pub for_loop : form.ForAsks
for_loop a p e x h b is = level_of a p e (ExprKind-F.ForExpr None x h b) is
    ∙ (λ j. asked.own_cfg p e.id ∷ (for_items ++ (some_is a p (fold.fold_pat asking (asked_of a p.left)) (λ y. y p) x j
    ++ (some_is a p (fold.fold_expr asking (asked_of a p.left)) (λ y. y.expr p) h j
    ++ some_is a p (fold.fold_block asking (asked_of a p.left)) (λ y. y.asked p) b j))))

pub question_mark : form.QuestionAsks
question_mark a p e x is = level_of a p e (ExprKind-F.TryExpr x) is
    ∙ (λ j. asked.own_cfg p e.id ∷ (question_items ++ some_is a p (fold.fold_expr asking (asked_of a p.left)) (λ y. y.expr p) x j))

pub assignment : form.AssignmentAsks
assignment a p e x y is = level_of a p e (ExprKind-F.BinExpr (Some op.Assign) (Some x) (Some y)) is
