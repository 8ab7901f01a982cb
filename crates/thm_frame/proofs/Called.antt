-- What a macro call stands for is framed by what is asked of the call, and of that where one is entered.
use Rattle.std.proofs.Common.{◌≡◌, refl, true, ℕ, zero, suc, List, [], ◌∷◌, Option, Some, None}
use Rattle.hir_syntax.specs.declared.ast.Expr.{Expr as AstExpr}
use Rattle.hir_syntax.specs.declared.ast.Stmt.{Stmt as AstStmt}
use Rattle.hir_syntax.specs.declared.macros.Fragment.TheVariants as fragment
use Rattle.hir_syntax.specs.declared.macros.MacroCall.{MacroCall as AstMacroCall}
use Rattle.hir_store.specs.Pointers.{Pointer}
use Rattle.hir_env.specs.ResolvedTree as tree
use Rattle.hir_base.specs.declared.node.HirFileId.{HirFileId}
use Rattle.hir_syntax.specs.declared.macros.Fragment.{Fragment as AstFragment}
use Rattle.hir_env.specs.Answers.{Answers, Eager, Expanding, unresolved, no_expansion, expanded}
use Rattle.hir_env.specs.Calls.{append, around, asked_call, call_pointer, called, entered_expr, entered_pat, entered_splice, entered_type}
use Rattle.hir_env.specs.Calls.{expr_in, inside_file, nothing, pat_in, splice_in, splice_of, spliced_in, stmts_of, type_in, value_or_none}
use Rattle.hir_env.specs.Folds.{entering, read_expr, read_pat, read_stmt, read_type, read_value}
use Rattle.hir_env.specs.Layers.{Defined, Entering}
use Rattle.hir_env.specs.ResolveCtx.{site_of}
use Rattle.hir_env.specs.declared.expand.FragmentKind.{FragmentKind}
use Rattle.hir_env.specs.declared.expand.FragmentKind.TheVariants as kind
use Rattle.hir_env.specs.declared.ctx.LowerCtx.{LowerCtx}
use Rattle.thm_frame.specs.Questions.{Area, Framed, Here}
use Rattle.thm_frame.specs.Questions as question
use Rattle.thm_frame.proofs.Framing.{ask, one, still, go_on}
use Rattle.thm_frame.proofs.Motives.{AllFramed, Below}

-- how that is read which stands there, with so many calls more
abbrev pub fresh : Answers → ℕ → Entering
fresh b n = record {
  left = n;
  expr = read_expr b (entering b n);
  value = read_value b (entering b n);
  stmt = read_stmt b (entering b n);
  pat = read_pat b (entering b n);
  type_ = read_type b (entering b n);
}

module _ (a : Answers) (area : Area a) where
  call_asked : (k : FragmentKind) (c : AstMacroCall) (p : LowerCtx) (w : Here area p) → Framed area (λ b. asked_call b k c p) a
  call_asked k c p w = ask (λ b. asked_call b k c p) (question.of_expand (site_of (call_pointer p c)) c p.module_id k) w (λ b h. h.0)

  -- the file of an expansion is in the area
  abbrev Goes : Expanding → Type 0
  Goes x = (f : HirFileId) (t : Option AstFragment) (es : List Eager) → x ≡ expanded f t es → area.file f ≡ true

  goes : (k : FragmentKind) (c : AstMacroCall) (p : LowerCtx) (w : Here area p) → Goes (asked_call a k c p)
  goes k c p w f t es e = area.expansions (site_of (call_pointer p c)) c p.module_id k f t es w.0 w.1 e

  -- types

  type_in_framed : (n : ℕ) (h : AllFramed a area n) (p : LowerCtx) (w : Here area p) (x : Expanding) → Goes x
      → Framed area (λ b. type_in (fresh b n) p x) a
  type_in_framed n h p w (expanded f (Some (fragment.Type_ t)) es) g =
      one tree.some_type (h.type_ t (inside_file f n p) (g f _ es refl, w.1))
  type_in_framed n h p w _ g = still tree.no_type

  pub type_called : (n : ℕ) (h : Below a area n) (c : AstMacroCall) (p : LowerCtx) (w : Here area p) (s : Pointer)
      → Framed area (λ b. entered_type b (entering b n) c p s) a
  type_called zero h c p w s = still (tree.macro_type s tree.unentered tree.no_type)
  type_called (suc n) h c p w s = go_on (λ b x. tree.macro_type s (called (call_pointer p c) x) (type_in (fresh b n) p x))
      (call_asked kind.Type_ c p w) (one (tree.macro_type s (called (call_pointer p c) (asked_call a kind.Type_ c p)))
      (type_in_framed n h p w (asked_call a kind.Type_ c p) (goes kind.Type_ c p w)))

  -- patterns

  pat_in_framed : (n : ℕ) (h : AllFramed a area n) (p : LowerCtx) (w : Here area p) (x : Expanding) → Goes x
      → Framed area (λ b. pat_in (fresh b n) p x) a
  pat_in_framed n h p w (expanded f (Some (fragment.Pat t)) es) g =
      one tree.some_pat (h.pat t (inside_file f n p) (g f _ es refl, w.1))
  pat_in_framed n h p w _ g = still tree.no_pat

  pub pat_called : (n : ℕ) (h : Below a area n) (c : AstMacroCall) (p : LowerCtx) (w : Here area p) (s : Pointer)
      → Framed area (λ b. entered_pat b (entering b n) c p s) a
  pat_called zero h c p w s = still (tree.macro_pat s tree.unentered tree.no_pat)
  pat_called (suc n) h c p w s = go_on (λ b x. tree.macro_pat s (called (call_pointer p c) x) (pat_in (fresh b n) p x))
      (call_asked kind.Pat c p w) (one (tree.macro_pat s (called (call_pointer p c) (asked_call a kind.Pat c p)))
      (pat_in_framed n h p w (asked_call a kind.Pat c p) (goes kind.Pat c p w)))

  -- expressions

  expr_in_framed : (n : ℕ) (h : AllFramed a area n) (p : LowerCtx) (w : Here area p) (x : Expanding) → Goes x
      → Framed area (λ b. expr_in (fresh b n) p x) a
  expr_in_framed n h p w (expanded f (Some (fragment.Expr t)) es) g =
      one tree.some_expr ((h.expr t).expr (inside_file f n p) (g f _ es refl, w.1))
  expr_in_framed n h p w _ g = still tree.no_expr

  pub expr_called : (n : ℕ) (h : Below a area n) (c : AstMacroCall) (p : LowerCtx) (w : Here area p) (s : Pointer)
      → Framed area (λ b. entered_expr b (entering b n) c p s) a
  expr_called zero h c p w s = still (tree.macro_expr s tree.unentered tree.no_expr)
  expr_called (suc n) h c p w s = go_on (λ b x. around s (called (call_pointer p c) x) (expr_in (fresh b n) p x))
      (call_asked kind.Expr c p w) (one (around s (called (call_pointer p c) (asked_call a kind.Expr c p)))
      (expr_in_framed n h p w (asked_call a kind.Expr c p) (goes kind.Expr c p w)))

  -- statements

  stmts_framed : (n : ℕ) (h : AllFramed a area n) (ss : List AstStmt) (p : LowerCtx) (w : Here area p) (d : Defined)
      → Framed area (λ b. stmts_of (read_stmt b (entering b n)) (read_value b (entering b n)) ss p d) a
  stmts_framed n h [] p w d = still (record { stmts = tree.no_stmts; defined = d })
  stmts_framed n h (s ∷ ss) p w d = go_on
      (λ b r. let rest = stmts_of (read_stmt b (entering b n)) (read_value b (entering b n)) ss p r.defined in
      record { stmts = append r.stmts rest.stmts; defined = rest.defined })
      (h.stmt s p w d)
      (one (λ rest. record { stmts = append (read_stmt a (entering a n) s p d).stmts rest.stmts; defined = rest.defined })
      (stmts_framed n h ss p w (read_stmt a (entering a n) s p d).defined))

  value_framed : (n : ℕ) (h : AllFramed a area n) (e : Option AstExpr) (p : LowerCtx) (w : Here area p) (d : Defined)
      → Framed area (λ b. value_or_none (read_stmt b (entering b n)) (read_value b (entering b n)) e p d) a
  value_framed n h None p w d = still (nothing d)
  value_framed n h (Some e) p w d = (h.expr e).value p w d

  splice_framed : (n : ℕ) (h : AllFramed a area n) (ss : List AstStmt) (e : Option AstExpr) (p : LowerCtx) (w : Here area p) (d : Defined)
      → Framed area (λ b. splice_of (read_stmt b (entering b n)) (read_value b (entering b n)) ss e p d) a
  splice_framed n h ss e p w d = go_on
      (λ b r. let t = value_or_none (read_stmt b (entering b n)) (read_value b (entering b n)) e p r.defined in
      record { stmts = append r.stmts t.stmts; last = t.last; defined = t.defined })
      (stmts_framed n h ss p w d)
      (one (λ t. record {
        stmts = append (stmts_of (read_stmt a (entering a n)) (read_value a (entering a n)) ss p d).stmts t.stmts;
        last = t.last;
        defined = t.defined;
      })
      (value_framed n h e p w (stmts_of (read_stmt a (entering a n)) (read_value a (entering a n)) ss p d).defined))

  splice_in_framed : (n : ℕ) (h : AllFramed a area n) (p : LowerCtx) (w : Here area p) (s c : Pointer) (x : Expanding) (d : Defined)
      → Goes x → Framed area (λ b. splice_in (fresh b n) p s c x d) a
  splice_in_framed n h p w s c (expanded f (Some (fragment.Stmts ms)) es) d g =
      one (spliced_in s (record { call = c; file = f; eager = es }))
      (splice_framed n h ms.stmts ms.expr (inside_file f n p) (g f _ es refl, w.1) d)
  splice_in_framed n h p w s c (expanded f (Some (fragment.Expr x)) es) d g = still _
  splice_in_framed n h p w s c (expanded f (Some (fragment.Pat x)) es) d g = still _
  splice_in_framed n h p w s c (expanded f (Some (fragment.Type_ x)) es) d g = still _
  splice_in_framed n h p w s c (expanded f None es) d g = still _
  splice_in_framed n h p w s c (unresolved x) d g = still _
  splice_in_framed n h p w s c no_expansion d g = still _

  pub splice_called : (n : ℕ) (h : Below a area n) (c : AstMacroCall) (p : LowerCtx) (w : Here area p) (s : Pointer) (d : Defined)
      → Framed area (λ b. entered_splice b (entering b n) c p s d) a
  splice_called zero h c p w s d = still (nothing d)
  splice_called (suc n) h c p w s d = go_on (λ b x. splice_in (fresh b n) p s (call_pointer p c) x d)
      (call_asked kind.Stmts c p w)
      (splice_in_framed n h p w s (call_pointer p c) (asked_call a kind.Stmts c p) d (goes kind.Stmts c p w))
