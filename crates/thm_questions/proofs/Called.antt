-- What a macro call stands for is framed by what is asked of the call, and of that where one is entered.
use Rattle.std.proofs.Common.{◌≡◌, refl, ap, true, ℕ, zero, suc, List, [], ◌∷◌, ◌++◌, Option, Some, None}
use Rattle.hir_base.specs.declared.node.HirFileId.{HirFileId}
use Rattle.hir_base.specs.declared.node.NodeId.{NodeId}
use Rattle.hir_syntax.specs.declared.ast.Expr.{Expr as AstExpr}
use Rattle.hir_syntax.specs.declared.ast.Stmt.{Stmt as AstStmt}
use Rattle.hir_syntax.specs.declared.macros.Fragment.{Fragment as AstFragment}
use Rattle.hir_syntax.specs.declared.macros.Fragment.TheVariants as fragment
use Rattle.hir_syntax.specs.declared.macros.MacroCall.{MacroCall as AstMacroCall, out-MacroCall}
use Rattle.hir_store.specs.Pointers.{Pointer}
use Rattle.hir_env.specs.ResolvedTree as tree
use Rattle.hir_env.specs.Answers.{Answers, Eager, Expanding, unresolved, no_expansion, expanded}
use Rattle.hir_env.specs.Calls.{append, around, asked_call, call_pointer, called, entered_expr, entered_pat, entered_splice, entered_type}
use Rattle.hir_env.specs.Calls.{expr_in, inside_file, nothing, pat_in, splice_in, splice_of, spliced_in, stmts_of, type_in, value_or_none}
use Rattle.hir_env.specs.Folds.{entering, read_expr, read_pat, read_stmt, read_type, read_value}
use Rattle.hir_env.specs.Layers.{Defined, Entering}
use Rattle.hir_env.specs.ResolveCtx.{site_of}
use Rattle.hir_env.specs.declared.expand.FragmentKind.{FragmentKind}
use Rattle.hir_env.specs.declared.expand.FragmentKind.TheVariants as kind
use Rattle.hir_env.specs.declared.ctx.LowerCtx.{LowerCtx}
use Rattle.thm_frame.specs.Questions.{of_expand}
use Rattle.spec_fold.specs.Folds as fold
use Rattle.thm_questions.specs.Asked as asked
use Rattle.thm_questions.specs.Asked.{Entered, asking}
use Rattle.thm_questions.specs.Areas.{AllThere, NodeArea}
use Rattle.thm_questions.specs.Lists.{entered_calls}
use Rattle.thm_questions.specs.Nodes.{node_steps, nodes}
use Rattle.thm_questions.specs.Parts.{of_each, of_option}
use Rattle.thm_questions.proofs.Claims.{AllByList, Below, asked_of}
use Rattle.thm_questions.proofs.Framing.{At, all_there, also, as_listed, ask, go_on, none, of_these, one, still}

-- how that is read which stands there, with so many calls more, and what is asked of it
abbrev pub fresh : Answers → ℕ → Entering
fresh b n = record {
  left = n;
  expr = read_expr b (entering b n);
  value = read_value b (entering b n);
  stmt = read_stmt b (entering b n);
  pat = read_pat b (entering b n);
  type_ = read_type b (entering b n);
}

abbrev pub fresh_asked : Answers → ℕ → Entered
fresh_asked a n = record {
  left = n;
  expr = λ x p. (fold.fold_expr asking (asked_of a n) x).expr p;
  value = λ x p d. (fold.fold_expr asking (asked_of a n) x).value p d;
  stmt = λ x p d. fold.fold_stmt asking (asked_of a n) x p d;
  pat = λ x p. fold.fold_pat asking (asked_of a n) x p;
  type_ = λ x p. fold.fold_type asking (asked_of a n) x p;
}

abbrev id_of : AstMacroCall → NodeId
id_of c = (out-MacroCall c).id

module _ (a : Answers) (area : NodeArea a) where
  call_asked : (k : FragmentKind) (c : AstMacroCall) (p : LowerCtx)
      → At area p (id_of c ∷ []) (λ b. asked_call b k c p) (of_expand (site_of (call_pointer p c)) c p.module_id k ∷ [])
  call_asked k c p = ask (id_of c ∷ []) (λ b. asked_call b k c p) (of_expand (site_of (call_pointer p c)) c p.module_id k)
      (λ i h. (h.0, i)) (λ b h. h.0)

  -- all nodes of the file of an expansion are in the area
  abbrev Goes : LowerCtx → NodeId → Expanding → Type 0
  Goes p id x = (f : HirFileId) (t : Option AstFragment) (es : List Eager) → x ≡ expanded f t es → area.inside p.module_id ≡ true
      → AllThere area p.file_id (id ∷ []) → (ns : List NodeId) → (area.inside p.module_id ≡ true) × AllThere area f ns

  goes : (k : FragmentKind) (c : AstMacroCall) (p : LowerCtx) → Goes p (id_of c) (asked_call a k c p)
  goes k c p f t es e i h ns = (
    i,
    all_there area f
        (λ id. area.expansions (site_of (call_pointer p c)) c p.module_id k f t es id h.0 i e) ns,
  )

  -- types

  type_in_by : (n : ℕ) (h : AllByList a area n) (p : LowerCtx) (id : NodeId) (x : Expanding) → Goes p id x
      → At area p (id ∷ []) (λ b. type_in (fresh b n) p x) (asked.of_type_in a (fresh_asked a n) p x)
  type_in_by n h p id (expanded f (Some (fragment.Type_ t)) es) g =
      one tree.some_type (of_these (λ i k. g f _ es refl i k _) (h.type_ t (inside_file f n p)))
  type_in_by n h p id _ g = none tree.no_type

  pub type_called : (n : ℕ) (h : Below a area n) (c : AstMacroCall) (p : LowerCtx) (s : Pointer)
      → At area p (id_of c ∷ []) (λ b. entered_type b (entering b n) c p s) (asked.of_type_call a n (entered_calls a n) (c, tt) p)
  type_called zero h c p s = none (tree.macro_type s tree.unentered tree.no_type)
  type_called (suc n) h c p s = also (λ b x. tree.macro_type s (called (call_pointer p c) x) (type_in (fresh b n) p x))
      (call_asked kind.Type_ c p) (one (tree.macro_type s (called (call_pointer p c) (asked_call a kind.Type_ c p)))
      (type_in_by n h p (id_of c) (asked_call a kind.Type_ c p) (goes kind.Type_ c p)))

  -- patterns

  pat_in_by : (n : ℕ) (h : AllByList a area n) (p : LowerCtx) (id : NodeId) (x : Expanding) → Goes p id x
      → At area p (id ∷ []) (λ b. pat_in (fresh b n) p x) (asked.of_pat_in a (fresh_asked a n) p x)
  pat_in_by n h p id (expanded f (Some (fragment.Pat t)) es) g =
      one tree.some_pat (of_these (λ i k. g f _ es refl i k _) (h.pat t (inside_file f n p)))
  pat_in_by n h p id _ g = none tree.no_pat

  pub pat_called : (n : ℕ) (h : Below a area n) (c : AstMacroCall) (p : LowerCtx) (s : Pointer)
      → At area p (id_of c ∷ []) (λ b. entered_pat b (entering b n) c p s) (asked.of_pat_call a n (entered_calls a n) (c, tt) p)
  pat_called zero h c p s = none (tree.macro_pat s tree.unentered tree.no_pat)
  pat_called (suc n) h c p s = also (λ b x. tree.macro_pat s (called (call_pointer p c) x) (pat_in (fresh b n) p x))
      (call_asked kind.Pat c p) (one (tree.macro_pat s (called (call_pointer p c) (asked_call a kind.Pat c p)))
      (pat_in_by n h p (id_of c) (asked_call a kind.Pat c p) (goes kind.Pat c p)))

  -- expressions

  expr_in_by : (n : ℕ) (h : AllByList a area n) (p : LowerCtx) (id : NodeId) (x : Expanding) → Goes p id x
      → At area p (id ∷ []) (λ b. expr_in (fresh b n) p x) (asked.of_expr_in a (fresh_asked a n) p x)
  expr_in_by n h p id (expanded f (Some (fragment.Expr t)) es) g =
      one tree.some_expr (of_these (λ i k. g f _ es refl i k _) ((h.expr t).expr (inside_file f n p)))
  expr_in_by n h p id _ g = none tree.no_expr

  pub expr_called : (n : ℕ) (h : Below a area n) (c : AstMacroCall) (p : LowerCtx) (s : Pointer)
      → At area p (id_of c ∷ []) (λ b. entered_expr b (entering b n) c p s) (asked.of_expr_call a n (entered_calls a n) (c, tt) p)
  expr_called zero h c p s = none (tree.macro_expr s tree.unentered tree.no_expr)
  expr_called (suc n) h c p s = also (λ b x. around s (called (call_pointer p c) x) (expr_in (fresh b n) p x))
      (call_asked kind.Expr c p) (one (around s (called (call_pointer p c) (asked_call a kind.Expr c p)))
      (expr_in_by n h p (id_of c) (asked_call a kind.Expr c p) (goes kind.Expr c p)))

  -- statements

  module _ (n : ℕ) (h : AllByList a area n) where
    abbrev of_stmts : List AstStmt → List NodeId
    of_stmts ss = of_each (fold.fold_stmt nodes node_steps) ss

    abbrev of_value : Option AstExpr → List NodeId
    of_value e = of_option (fold.fold_expr nodes node_steps) e

    stmts_by : (ss : List AstStmt) (p : LowerCtx) (d : Defined)
        → At area p (of_stmts ss) (λ b. stmts_of (read_stmt b (entering b n)) (read_value b (entering b n)) ss p d)
        (asked.of_stmts a (fresh_asked a n).stmt (asked.behind a n) ss p d)
    stmts_by [] p d = still (record { stmts = tree.no_stmts; defined = d })
    stmts_by (s ∷ ss) p d = go_on
        (λ b r. let rest = stmts_of (read_stmt b (entering b n)) (read_value b (entering b n)) ss p r.defined in
        record { stmts = append r.stmts rest.stmts; defined = rest.defined })
        (h.stmt s p d)
        (one (λ rest. record { stmts = append (read_stmt a (entering a n) s p d).stmts rest.stmts; defined = rest.defined })
        (stmts_by ss p (read_stmt a (entering a n) s p d).defined))

    value_by : (e : Option AstExpr) (p : LowerCtx) (d : Defined)
        → At area p (of_value e) (λ b. value_or_none (read_stmt b (entering b n)) (read_value b (entering b n)) e p d)
        (of_option (λ e. (fresh_asked a n).value e p d) e)
    value_by None p d = still (nothing d)
    value_by (Some e) p d = (h.expr e).value p d

    left_is : (ss : List AstStmt) (p : LowerCtx) (d : Defined)
        → asked.left_off a (asked.behind a n) ss p d ≡ (stmts_of (read_stmt a (entering a n)) (read_value a (entering a n)) ss p d).defined
    left_is [] p d = refl
    left_is (s ∷ ss) p d = left_is ss p (read_stmt a (entering a n) s p d).defined

    splice_by : (ss : List AstStmt) (e : Option AstExpr) (p : LowerCtx) (d : Defined)
        → At area p (of_stmts ss ++ of_value e)
        (λ b. splice_of (read_stmt b (entering b n)) (read_value b (entering b n)) ss e p d)
        (asked.of_stmts a (fresh_asked a n).stmt (asked.behind a n) ss p d
        ++ of_option (λ e. (fresh_asked a n).value e p (asked.left_off a (asked.behind a n) ss p d)) e)
    splice_by ss e p d = let at = (stmts_of (read_stmt a (entering a n)) (read_value a (entering a n)) ss p d).defined in
        go_on
        (λ b r. let t = value_or_none (read_stmt b (entering b n)) (read_value b (entering b n)) e p r.defined in
        record { stmts = append r.stmts t.stmts; last = t.last; defined = t.defined })
        (stmts_by ss p d)
        (as_listed (ap (λ d. of_option (λ e. (fresh_asked a n).value e p d) e) (left_is ss p d))
        (one (λ t. record {
          stmts = append (stmts_of (read_stmt a (entering a n)) (read_value a (entering a n)) ss p d).stmts t.stmts;
          last = t.last;
          defined = t.defined;
        })
        (value_by e p at)))

    splice_in_by : (p : LowerCtx) (id : NodeId) (s c : Pointer) (x : Expanding) (d : Defined) → Goes p id x
        → At area p (id ∷ []) (λ b. splice_in (fresh b n) p s c x d) (asked.of_splice_in a (fresh_asked a n) p x d)
    splice_in_by p id s c (expanded f (Some (fragment.Stmts ms)) es) d g =
        one (spliced_in s (record { call = c; file = f; eager = es }))
        (of_these (λ i k. g f _ es refl i k _) (splice_by ms.stmts ms.expr (inside_file f n p) d))
    splice_in_by p id s c (expanded f (Some (fragment.Expr x)) es) d g = none _
    splice_in_by p id s c (expanded f (Some (fragment.Pat x)) es) d g = none _
    splice_in_by p id s c (expanded f (Some (fragment.Type_ x)) es) d g = none _
    splice_in_by p id s c (expanded f None es) d g = none _
    splice_in_by p id s c (unresolved x) d g = none _
    splice_in_by p id s c no_expansion d g = none _

  pub splice_called : (n : ℕ) (h : Below a area n) (c : AstMacroCall) (p : LowerCtx) (s : Pointer) (d : Defined)
      → At area p (id_of c ∷ []) (λ b. entered_splice b (entering b n) c p s d) (asked.of_splice_call a n (entered_calls a n) (c, tt) p d)
  splice_called zero h c p s d = none (nothing d)
  splice_called (suc n) h c p s d = also (λ b x. splice_in (fresh b n) p s (call_pointer p c) x d)
      (call_asked kind.Stmts c p)
      (splice_in_by n h p (id_of c) s (call_pointer p c) (asked_call a kind.Stmts c p) d (goes kind.Stmts c p))
