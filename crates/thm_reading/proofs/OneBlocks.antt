-- The rules of blocks and statements allow one tree alone, where those of other parts do, of trees that are allowed by fewer rules.
use Rattle.std.proofs.Common.{◌≡◌, ◌∙◌, ◌≤◌, ℕ, refl, sym}
use Rattle.std.specs.Prelude.{List, true, false, Option, Some, None, [], ◌∷◌}
use Rattle.hir_syntax.specs.declared.ast.Expr.{Expr as AstExpr}
use Rattle.hir_syntax.specs.declared.ast.BlockExpr.{BlockExpr as AstBlockExpr}
use Rattle.hir_syntax.specs.declared.ast.BlockModifier.{BlockModifier}
use Rattle.hir_syntax.specs.declared.ast.Stmt.{Stmt as AstStmt}
use Rattle.hir_store.specs.declared.hir.CoroutineKind.TheVariants as coroutine
use Rattle.hir_store.specs.declared.ids.BlockId.{BlockId}
use Rattle.hir_env.specs.ResolvedTree.{Block, OptionBlock, Stmts}
use Rattle.hir_env.specs.ResolvedTree.{Expr, OptionExpr}
use Rattle.hir_env.specs.Answers.{Expanding}
use Rattle.hir_env.specs.Calls.{append, times}
use Rattle.hir_env.specs.Layers.{BlockExprLayer, Defined, ExprKindLayer, StmtKindLayer, written}
use Rattle.hir_env.specs.Wrapped.{AstLetElse}
use Rattle.hir_store.specs.Pointers.{Pointer}
use Rattle.hir_store.specs.declared.name.Name.TheVariants as name
use Rattle.hir_env.specs.ResolvedTree as tree
use Rattle.hir_env.specs.declared.ctx.LowerCtx.{LowerCtx}
use Rattle.thm_reading.specs.LowerCtx.{block_node, def_here}
use Rattle.thm_reading.specs.LowerCtx.{node}
use Rattle.hir_env.specs.Calls.{spliced_last}
use Rattle.thm_reading.specs.Rules as rule
use Rattle.thm_reading.specs.Rules.{OptPlainAs, ForBodyAs, OwnAs, PlainAs, InBlockAs, ContentsAs, StmtsAs, TailAs, ValueAs, SpliceAs}
use Rattle.thm_reading.specs.Rules.{StmtAs}
use Rattle.thm_reading.specs.Rules.{LetElseAs}
use Rattle.thm_reading.proofs.Alone.{Two, Three, bool_clash, presence, ok_not_err, error_or, numbers, labels, moved, last_only}
use Rattle.hir_env.specs.Answers.{Answers}
use Rattle.thm_reading.proofs.Sizes.{size_opt_plain, size_for_body, size_own, size_plain, size_in_block, size_contents, size_stmts}
use Rattle.thm_reading.proofs.Sizes.{size_tail, size_value, size_splice, size_stmt, size_let_else}
use Rattle.thm_reading.proofs.Below.{Below, left, less, right}

module _ (env : Answers) {n : ℕ} (below : Below env n) where
  mutual
    pub one_opt_plain : {a1 : LowerCtx} {a2 : Option AstBlockExpr} {x y : OptionBlock} → (h : OptPlainAs env a1 a2 x)
        → size_opt_plain env h ≤ n → OptPlainAs env a1 a2 y → x ≡ y
    one_opt_plain rule.no_block _ rule.no_block = refl
    one_opt_plain (rule.some_block h1) e (rule.some_block k1) = λ i. tree.some_block (one_plain h1 (less e) k1 i)

    pub one_for_body : {a1 : LowerCtx} {a2 : Option AstBlockExpr} {x y : OptionExpr} → (h : ForBodyAs env a1 a2 x) → size_for_body env h ≤ n
        → ForBodyAs env a1 a2 y → x ≡ y
    one_for_body rule.no_body _ rule.no_body = refl
    one_for_body (rule.enabled_body _ h2) e (rule.enabled_body _ k2) = λ i. tree.some_expr (one_own h2 (less e) k2 i)
    one_for_body (rule.enabled_body h _) _ (rule.disabled_body k _) = ok_not_err (sym h ∙ k)
    one_for_body (rule.disabled_body h _) _ (rule.enabled_body k _) = ok_not_err (sym k ∙ h)
    one_for_body (rule.disabled_body {p = p} {b = b} {by = by} h1 h2) e (rule.disabled_body k1 k2) =
        λ i. tree.some_expr (tree.disabled_expr
        (record { entered = []; condition = Some (block_node p b, (error_or by ((sym h1 ∙ k1) i))) })
        (one_own h2 (less e) k2 i))

    pub one_own : {a1 : LowerCtx} {a2 : Option BlockModifier} {a3 : BlockExprLayer written} {x y : Expr} → (h : OwnAs env a1 a2 a3 x)
        → size_own env h ≤ n → OwnAs env a1 a2 a3 y → x ≡ y
    one_own (rule.labelled {p = p} {b = b} {w = w} h1 h2) e (rule.labelled {w = v} k1 k2) =
        λ i. tree.block_expr (tree.block (node p b.id b.range) false (labels w v h1 k1 i).0 (labels w v h1 k1 i).1
        (one_in_block h2 (less e) k2 i).0 (one_in_block h2 (less e) k2 i).1.0 (one_in_block h2 (less e) k2 i).1.1)
    one_own (rule.unsafe_block {p = p} {b = b} h1) e (rule.unsafe_block k1) =
        λ i. tree.block_expr (tree.block (node p b.id b.range) true None tt (one_in_block h1 (less e) k1 i).0
        (one_in_block h1 (less e) k1 i).1.0 (one_in_block h1 (less e) k1 i).1.1)
    one_own (rule.try_block {p = p} {b = b} h1 h2) e (rule.try_block k1 k2) =
        λ i. tree.try_expr (node p b.id b.range) env.lang_items.try_trait_from_output (below.opt_type _ _ _ _ h1 (left _ e) k1 i)
        (one_in_block h2 (less (right _ e)) k2 i).0 (one_in_block h2 (less (right _ e)) k2 i).1.0
        (one_in_block h2 (less (right _ e)) k2 i).1.1
    one_own (rule.const_block {p = p} {b = b} h1) e (rule.const_block k1) =
        λ i. tree.const_expr (node p b.id b.range) (tree.constant (tree.some_expr (tree.block_expr (one_plain h1 (less e) k1 i))))
    one_own (rule.async_block {p = p} {b = b} h1) e (rule.async_block k1) =
        λ i. tree.coroutine_expr (node p b.id b.range) coroutine.Async b.move_ (one_in_block h1 (less e) k1 i).0
        (one_in_block h1 (less e) k1 i).1.0 (one_in_block h1 (less e) k1 i).1.1
    one_own (rule.gen_block {p = p} {b = b} h1) e (rule.gen_block k1) =
        λ i. tree.coroutine_expr (node p b.id b.range) coroutine.Gen b.move_ (one_in_block h1 (less e) k1 i).0
        (one_in_block h1 (less e) k1 i).1.0 (one_in_block h1 (less e) k1 i).1.1
    one_own (rule.async_gen_block {p = p} {b = b} h1) e (rule.async_gen_block k1) =
        λ i. tree.coroutine_expr (node p b.id b.range) coroutine.AsyncGen b.move_ (one_in_block h1 (less e) k1 i).0
        (one_in_block h1 (less e) k1 i).1.0 (one_in_block h1 (less e) k1 i).1.1

    pub one_plain : {a1 : LowerCtx} {a2 : BlockExprLayer written} {x y : Block} → (h : PlainAs env a1 a2 x) → size_plain env h ≤ n
        → PlainAs env a1 a2 y → x ≡ y
    one_plain (rule.plain_block {p = p} {b = b} h1) e (rule.plain_block k1) =
        λ i. tree.block (node p b.id b.range) false None tt (one_in_block h1 (less e) k1 i).0 (one_in_block h1 (less e) k1 i).1.0
        (one_in_block h1 (less e) k1 i).1.1

    pub one_in_block : {a1 : LowerCtx} {a2 : BlockExprLayer written} {x1 y1 : Option BlockId} {x2 y2 : Stmts} {x3 y3 : OptionExpr}
        → (h : InBlockAs env a1 a2 x1 x2 x3) → size_in_block env h ≤ n → InBlockAs env a1 a2 y1 y2 y3 → Three x1 x2 x3 y1 y2 y3
    one_in_block (rule.in_block _ h) b (rule.in_block _ k) =
        λ i. (None, ((one_contents refl h (less b) k i).0, (one_contents refl h (less b) k i).1.0))
    one_in_block (rule.in_block h _) _ (rule.in_numbered k _) = presence (sym h ∙ k)
    one_in_block (rule.in_numbered h _) _ (rule.in_block k _) = presence (sym k ∙ h)
    one_in_block (rule.in_numbered {p = p} {b = x} {k = n} {m = m} e h) b (rule.in_numbered e' k) =
        let same = numbers (n, m) (sym e ∙ e') in
        let all = one_contents refl h (less b) (moved env p x (λ i. (same i).1) k) in
        λ i. (Some (same i).0, ((all i).0, (all i).1.0))

    pub one_contents : {a1 : LowerCtx} {a2 : List AstStmt} {a3 : Option AstExpr} {d d' : Defined} {x1 y1 : Stmts} {x2 y2 : OptionExpr}
        {x3 y3 : Defined}
        → d ≡ d' → (h : ContentsAs env a1 a2 a3 d x1 x2 x3) → size_contents env h ≤ n → ContentsAs env a1 a2 a3 d' y1 y2 y3
        → Three x1 x2 x3 y1 y2 y3
    one_contents same (rule.contents h1 h2) e (rule.contents k1 k2) =
        λ i. (
          append (one_stmts same h1 (less (left _ e)) k1 i).0
              (one_tail (λ j. (one_stmts same h1 (less (left _ e)) k1 j).1) h2 (less (right _ e)) k2 i).0,
          (
            (one_tail (λ j. (one_stmts same h1 (less (left _ e)) k1 j).1) h2 (less (right _ e)) k2 i).1.0,
            (one_tail (λ j. (one_stmts same h1 (less (left _ e)) k1 j).1) h2 (less (right _ e)) k2 i).1.1,
          ),
        )

    pub one_stmts : {a1 : LowerCtx} {a2 : List AstStmt} {d d' : Defined} {x1 y1 : Stmts} {x2 y2 : Defined} → d ≡ d'
        → (h : StmtsAs env a1 a2 d x1 x2) → size_stmts env h ≤ n → StmtsAs env a1 a2 d' y1 y2 → Two x1 x2 y1 y2
    one_stmts same rule.no_stmts _ rule.no_stmts = λ i. (tree.no_stmts, same i)
    one_stmts same (rule.more_stmts h1 h2) e (rule.more_stmts k1 k2) =
        λ i. (
          append (one_stmt same h1 (less (left _ e)) k1 i).0
              (one_stmts (λ j. (one_stmt same h1 (less (left _ e)) k1 j).1) h2 (less (right _ e)) k2 i).0,
          (one_stmts (λ j. (one_stmt same h1 (less (left _ e)) k1 j).1) h2 (less (right _ e)) k2 i).1,
        )

    pub one_tail : {a1 : LowerCtx} {a2 : Option AstExpr} {d d' : Defined} {x1 y1 : Stmts} {x2 y2 : OptionExpr} {x3 y3 : Defined} → d ≡ d'
        → (h : TailAs env a1 a2 d x1 x2 x3) → size_tail env h ≤ n → TailAs env a1 a2 d' y1 y2 y3 → Three x1 x2 x3 y1 y2 y3
    one_tail same rule.no_tail _ rule.no_tail = λ i. (tree.no_stmts, (tree.no_expr, same i))
    one_tail same (rule.some_tail h1) e (rule.some_tail k1) =
        λ i. ((one_value same h1 (less e) k1 i).0, ((one_value same h1 (less e) k1 i).1.0, (one_value same h1 (less e) k1 i).1.1))

    pub one_value : {a1 : LowerCtx} {a2 : Pointer} {a3 : ExprKindLayer written} {d d' : Defined} {x1 y1 : Stmts} {x2 y2 : OptionExpr}
        {x3 y3 : Defined}
        → d ≡ d' → (h : ValueAs env a1 a2 a3 d x1 x2 x3) → size_value env h ≤ n → ValueAs env a1 a2 a3 d' y1 y2 y3 → Three x1 x2 x3 y1 y2 y3
    one_value same (rule.whole_value _ h2) e (rule.whole_value _ k2) =
        λ i. (tree.no_stmts, (tree.some_expr (below.expr _ _ _ _ _ h2 e k2 i), same i))
    one_value _ (rule.whole_value h _) _ (rule.disabled_value k _) = bool_clash (sym h ∙ k)
    one_value _ (rule.whole_value h _) _ (rule.callless_value _) = bool_clash (sym h)
    one_value _ (rule.whole_value h _) _ (rule.called_value _ _) = bool_clash (sym h)
    one_value _ (rule.disabled_value h _) _ (rule.whole_value k _) = bool_clash (sym k ∙ h)
    one_value same (rule.disabled_value {s = s} {by = by} _ h2) _ (rule.disabled_value _ k2) =
        λ i. (tree.more_stmts (tree.disabled_stmt s (error_or by ((sym h2 ∙ k2) i)) tree.item_stmt) tree.no_stmts, (tree.no_expr, same i))
    one_value _ (rule.disabled_value _ h) _ (rule.callless_value k) = ok_not_err (sym k ∙ h)
    one_value _ (rule.disabled_value _ h) _ (rule.called_value k _) = ok_not_err (sym k ∙ h)
    one_value _ (rule.callless_value _) _ (rule.whole_value h _) = bool_clash (sym h)
    one_value _ (rule.callless_value h) _ (rule.disabled_value _ k) = ok_not_err (sym h ∙ k)
    one_value same (rule.callless_value _) _ (rule.callless_value _) = λ i. (tree.no_stmts, (tree.no_expr, same i))
    one_value _ (rule.called_value _ _) _ (rule.whole_value h _) = bool_clash (sym h)
    one_value _ (rule.called_value h _) _ (rule.disabled_value _ k) = ok_not_err (sym h ∙ k)
    one_value same (rule.called_value _ h2) e (rule.called_value _ k2) =
        λ i. ((one_splice same h2 (less e) k2 i).0, ((one_splice same h2 (less e) k2 i).1.0, (one_splice same h2 (less e) k2 i).1.1))

    pub one_splice : {a1 : LowerCtx} {a2 a3 : Pointer} {a4 : Option Expanding} {d d' : Defined} {x1 y1 : Stmts} {x2 y2 : OptionExpr}
        {x3 y3 : Defined}
        → d ≡ d' → (h : SpliceAs env a1 a2 a3 a4 d x1 x2 x3) → size_splice env h ≤ n → SpliceAs env a1 a2 a3 a4 d' y1 y2 y3
        → Three x1 x2 x3 y1 y2 y3
    one_splice same rule.too_deep_for_stmts _ rule.too_deep_for_stmts = λ i. (tree.no_stmts, (tree.no_expr, same i))
    one_splice same rule.not_expanded_to_stmts _ rule.not_expanded_to_stmts = λ i. (tree.no_stmts, (tree.no_expr, same i))
    one_splice same rule.not_found_for_stmts _ rule.not_found_for_stmts = λ i. (tree.no_stmts, (tree.no_expr, same i))
    one_splice same (rule.no_stmts_in_it {c = c} {f = f} {es = es} _) _ (rule.no_stmts_in_it _) =
        λ i. (tree.more_stmts (tree.call_stmt (record { call = c; file = f; eager = es })) tree.no_stmts, (tree.no_expr, same i))
    one_splice _ (rule.no_stmts_in_it h) _ (rule.spliced _ _) = bool_clash (sym h)
    one_splice _ (rule.spliced _ _) _ (rule.no_stmts_in_it h) = bool_clash (sym h)
    one_splice same (rule.spliced {s = s} {c = c} {f = f} {es = es} h1 h2) e (rule.spliced k1 k2) =
        λ i. (
          tree.more_stmts (tree.call_stmt (record { call = c; file = f; eager = es })) (one_contents same h1 (less e) k1 i).0,
          (
            (last_only h2 ∙ ((λ j. spliced_last s (one_contents same h1 (less e) k1 j).1.0) ∙ sym (last_only k2))) i,
            (one_contents same h1 (less e) k1 i).1.1,
          ),
        )

    pub one_stmt : {a1 : LowerCtx} {a2 : Pointer} {a3 : StmtKindLayer written} {d d' : Defined} {x1 y1 : Stmts} {x2 y2 : Defined} → d ≡ d'
        → (h : StmtAs env a1 a2 a3 d x1 x2) → size_stmt env h ≤ n → StmtAs env a1 a2 a3 d' y1 y2 → Two x1 x2 y1 y2
    one_stmt same (rule.enabled_let _ h2 h3 h4 h5) e (rule.enabled_let _ k2 k3 k4 k5) =
        λ i. (
          tree.more_stmts (tree.let_stmt (below.opt_pat _ _ _ _ h2 (left _ e) k2 i)
              (below.opt_type _ _ _ _ h3 (left _ (right _ e)) k3 i) (below.opt_expr _ _ _ _ h4 (left _ (right _ (right _ e))) k4 i)
              (one_let_else h5 (less (right _ (right _ (right _ e)))) k5 i)) tree.no_stmts,
          same i,
        )
    one_stmt _ (rule.enabled_let h _ _ _ _) _ (rule.disabled_let k _ _ _ _) = ok_not_err (sym h ∙ k)
    one_stmt _ (rule.disabled_let h _ _ _ _) _ (rule.enabled_let k _ _ _ _) = ok_not_err (sym k ∙ h)
    one_stmt same (rule.disabled_let {s = s} {by = by} h1 h2 h3 h4 h5) e (rule.disabled_let k1 k2 k3 k4 k5) =
        λ i. (
          tree.more_stmts (tree.disabled_stmt s (error_or by ((sym h1 ∙ k1) i))
              (tree.let_stmt (below.opt_pat _ _ _ _ h2 (left _ e) k2 i) (below.opt_type _ _ _ _ h3 (left _ (right _ e)) k3 i)
              (below.opt_expr _ _ _ _ h4 (left _ (right _ (right _ e))) k4 i)
              (one_let_else h5 (less (right _ (right _ (right _ e)))) k5 i)))
              tree.no_stmts,
          same i,
        )
    one_stmt same (rule.expr_stmt {semi = semi} h1) e (rule.expr_stmt k1) =
        λ i. (
          append (one_tail same h1 (less e) k1 i).0 (tree.more_stmts (tree.expr_stmt (one_tail same h1 (less e) k1 i).1.0 semi)
              tree.no_stmts),
          (one_tail same h1 (less e) k1 i).1.1,
        )
    one_stmt same (rule.enabled_rules {p = p} {n = n} _) _ (rule.enabled_rules _) =
        λ i. (
          tree.more_stmts (tree.macro_stmt (times (name.Text n.t) (same i))
              (env.legacy_macro p.module_id (name.Text n.t) (times (name.Text n.t) (same i)))) tree.no_stmts,
          name.Text n.t ∷ (same i),
        )
    one_stmt _ (rule.enabled_rules h) _ (rule.disabled_rules k) = ok_not_err (sym h ∙ k)
    one_stmt same (rule.nameless_rules _) _ (rule.nameless_rules _) = λ i. (tree.more_stmts (tree.macro_stmt 0 None) tree.no_stmts, same i)
    one_stmt _ (rule.nameless_rules h) _ (rule.disabled_rules k) = ok_not_err (sym h ∙ k)
    one_stmt _ (rule.disabled_rules h) _ (rule.enabled_rules k) = ok_not_err (sym k ∙ h)
    one_stmt _ (rule.disabled_rules h) _ (rule.nameless_rules k) = ok_not_err (sym k ∙ h)
    one_stmt same (rule.disabled_rules {s = s} {by = by} h1) _ (rule.disabled_rules k1) =
        λ i. (tree.more_stmts (tree.disabled_stmt s (error_or by ((sym h1 ∙ k1) i)) tree.item_stmt) tree.no_stmts, same i)
    one_stmt same (rule.enabled_def {p = p} {n = n} _) _ (rule.enabled_def _) =
        λ i. (tree.more_stmts (tree.macro_stmt 0 (def_here env p n)) tree.no_stmts, same i)
    one_stmt _ (rule.enabled_def h) _ (rule.disabled_def k) = ok_not_err (sym h ∙ k)
    one_stmt _ (rule.disabled_def h) _ (rule.enabled_def k) = ok_not_err (sym k ∙ h)
    one_stmt same (rule.disabled_def {p = p} {s = s} {n = n} {by = by} h1) _ (rule.disabled_def k1) =
        λ i. (
          tree.more_stmts (tree.disabled_stmt s (error_or by ((sym h1 ∙ k1) i)) (tree.macro_stmt 0 (def_here env p n))) tree.no_stmts,
          same i,
        )
    one_stmt same rule.item_stmt _ rule.item_stmt = λ i. (tree.more_stmts tree.item_stmt tree.no_stmts, same i)

    pub one_let_else : {a1 : LowerCtx} {a2 : Option AstLetElse} {x y : OptionBlock} → (h : LetElseAs env a1 a2 x) → size_let_else env h ≤ n
        → LetElseAs env a1 a2 y → x ≡ y
    one_let_else rule.no_let_else _ rule.no_let_else = refl
    one_let_else (rule.some_let_else h1) e (rule.some_let_else k1) = one_opt_plain h1 (less e) k1
