-- What is in statements, and in what stands behind them, counts no more than they do together.
use Rattle.std.proofs.Common.{arith, ◌≡◌, ap, refl, ℕ, suc, ◌+◌, ◌<◌, List, [], ◌∷◌, Option, Some, None}
use Rattle.std.specs.Prelude.{Result, Ok, Err}
use Rattle.hir_base.specs.declared.node.HirFileId.{HirFileId}
use Rattle.hir_syntax.specs.declared.ast.BlockExpr.{BlockExpr as AstBlockExpr}
use Rattle.hir_syntax.specs.declared.ast.ElseBranch.TheOpen.{ExprKind-F, StmtKind-F}
use Rattle.hir_syntax.specs.declared.ast.Expr.{Expr as AstExpr}
use Rattle.hir_syntax.specs.declared.ast.ExprKind.{out-ExprKind}
use Rattle.hir_syntax.specs.declared.ast.Path.{Path as AstPath}
use Rattle.hir_syntax.specs.declared.ast.Stmt.{Stmt as AstStmt}
use Rattle.hir_syntax.specs.declared.ast.StmtKind.{out-StmtKind}
use Rattle.hir_syntax.specs.declared.macros.Fragment.TheVariants as fragment
use Rattle.hir_syntax.specs.declared.macros.MacroCall.{MacroCall as AstMacroCall}
use Rattle.hir_syntax.specs.declared.macros.MacroStmts.{MacroStmts as AstMacroStmts}
use Rattle.hir_syntax.specs.declared.pats.Pat.{Pat as AstPat}
use Rattle.hir_syntax.specs.declared.types.Type_.{Type_ as AstType_}
use Rattle.hir_store.specs.Pointers.{Pointer}
use Rattle.hir_store.specs.declared.ids.CfgId.{CfgId}
use Rattle.hir_env.specs.declared.expand.FragmentKind.TheVariants as kind
use Rattle.hir_env.specs.declared.ctx.LowerCtx.{LowerCtx}
use Rattle.hir_env.specs.Answers.{Answers, Eager, expanded}
use Rattle.hir_env.specs.ResolvedTree as tree
use Rattle.hir_env.specs.ResolvedTree.{Stmt, Stmts}
use Rattle.hir_env.specs.Answering.{asked_stmt, expr_kind, stmt_at, value_kind, whole_value}
use Rattle.hir_env.specs.Calls.{append, asked_call, call_pointer, inside_file, stmts_of, value_or_none}
use Rattle.hir_env.specs.Count.{count_block, count_expr, count_option_block, count_option_expr, count_option_pat, count_option_type}
use Rattle.hir_env.specs.Count.{count_pat, count_path, count_stmt, count_stmts, count_type}
use Rattle.hir_env.specs.Layers.{Defined, ExprKindLayer, StmtKindLayer, StmtReading}
use Rattle.hir_env.specs.ResolveCtx.{ResolveCtx, ptr, site_of}
use Rattle.hir_env.specs.Whole.{resolved_expr, resolved_pat, resolved_path, resolved_plain, resolved_type, resolved_value, expr_part, into}
use Rattle.hir_env.specs.Whole.{let_else_part, pat_part, pointer_at, read_stmt, read_value, reader, type_part, written}
use Rattle.hir_env.specs.Wrapped.{AstLetElse}
use Rattle.hir_env.proofs.Levels.{expr_is_level, stmt_is_level, value_is_level}
use Rattle.hir_lower_builder.specs.Inside.{InSplice, resolved_run, count_spliced, read_at}
use Rattle.hir_lower_builder.proofs.Inside.{spliced_more, value_inside}
use Rattle.hir_lower_builder.specs.Nests.{Claims, Each, IfPresent, KidsLetElse, KidsOfValue, KidsRun, KidsStmt, KidsValue, Moved, claims_at}

count_kept_stmt : (s : Pointer) (r : Result (Unit {0}) CfgId) (x : Stmt) → count_stmt (asked_stmt s r x) ≡ count_stmt x
count_kept_stmt s (Ok _) x = refl
count_kept_stmt s (Err by) x = refl

pub count_append : (a b : Stmts) → count_stmts (append a b) ≡ count_stmts a + count_stmts b
count_append tree.no_stmts b = omega arith
count_append (tree.more_stmts s ss) b = let rest = count_append ss b in omega (arith, rest)

-- what is no call counts as an expression
whole_counts : (at : ResolveCtx) (e : AstExpr) (k : ExprKindLayer written) (d : Defined) → out-ExprKind e.kind ≡ k
    → count_spliced (whole_value (expr_kind at.answers (reader at.answers (into at)) k (ptr e.id e.range) at.place) d)
    ≡ count_expr (resolved_expr at e)
whole_counts at e k d is =
    let kind = ap (λ x. count_expr (expr_kind at.answers (reader at.answers (into at)) x (ptr e.id e.range) at.place)) is in
    let level = ap count_expr (expr_is_level at e) in
    omega (arith, kind, level)

-- what is claimed of all that counts less, wherever it is read
pub record Below (env : Answers) (C : Claims) (n : ℕ) : Type 0 where
  pub exprs : (p : LowerCtx) (e : AstExpr) → count_expr (resolved_expr (read_at env p) e) < n → C.inner p e
  pub blocks : (p : LowerCtx) (b : AstBlockExpr) → count_block (resolved_plain (read_at env p) b) < n → C.block p b
  pub types : (p : LowerCtx) (t : AstType_) → count_type (resolved_type (read_at env p) t) < n → C.type_ p t
  pub pats : (p : LowerCtx) (x : AstPat) → count_pat (resolved_pat (read_at env p) x) < n → C.pat p x
  -- whatever macros are defined where it stands
  pub splices : (p : LowerCtx) (e : AstExpr) (d : Defined) → count_spliced (resolved_value (read_at env p) d e) < n → C.splice p e

module _ (env : Answers) (C : Claims) (n : ℕ) (below : Below env C n) (p : LowerCtx) where
  abbrev at : ResolveCtx
  at = read_at env p

  expr : (o : Option AstExpr) → count_option_expr (expr_part at o) < n → IfPresent (C.inner p) o
  expr None h = tt
  expr (Some e) h = below.exprs p e h

  pat : (o : Option AstPat) → count_option_pat (pat_part at o) < n → IfPresent (C.pat p) o
  pat None h = tt
  pat (Some x) h = below.pats p x h

  type_ : (o : Option AstType_) → count_option_type (type_part at o) < n → IfPresent (C.type_ p) o
  type_ None h = tt
  type_ (Some t) h = below.types p t h

  else_block : (o : Option AstBlockExpr) (h : count_option_block (let_else_part at (Some o)) < n) → KidsLetElse (claims_at C p) p o
  else_block None h = tt
  else_block (Some b) h = below.blocks p b h

  let_else : (o : Option AstLetElse) → count_option_block (let_else_part at o) < n → IfPresent (KidsLetElse (claims_at C p) p) o
  let_else None h = tt
  let_else (Some x) h = else_block x h

  -- an expression in statement or tail place, by its kind
  of_value : (e : AstExpr) (k : ExprKindLayer written) (d : Defined) → out-ExprKind e.kind ≡ k
      → count_spliced (value_kind env (reader env (into at)) k (ptr e.id e.range) p d) < n → KidsOfValue (claims_at C p) p k e
  of_value e (ExprKind-F.MacroExpr c) d is h =
      let kind = ap (λ x. count_spliced (value_kind env (reader env (into at)) x (ptr e.id e.range) p d)) is in
      let level = ap count_spliced (value_is_level at d e) in
      below.splices p e d (omega (arith, h, kind, level))
  of_value e k d is h = let same = whole_counts at e k d is in below.exprs p e (omega (arith, h, same))

  value : (o : Option AstExpr) (d : Defined)
      → count_spliced (value_or_none (read_stmt env (into at)) (read_value env (into at)) o p d) < n
      → IfPresent (KidsValue (claims_at C p) p) o
  value None d h = tt
  value (Some e) d h =
      let same = ap count_spliced (value_is_level at d e) in
      of_value e (out-ExprKind e.kind) d refl (omega (arith, h, same))

  stmt : (s : Pointer) (k : StmtKindLayer written) (d : Defined)
      → count_stmts (stmt_at env (reader env (into at)) k p s d).stmts < n → KidsStmt (claims_at C p) p k
  stmt s (StmtKind-F.LetStmt x t e b) d h =
      let own = tree.let_stmt (pat_part at x) (type_part at t) (expr_part at e) (let_else_part at b) in
      let same = count_kept_stmt s (env.cfg (site_of s)) own in (
        pat x (omega (arith, h, same)),
        type_ t (omega (arith, h, same)),
        expr e (omega (arith, h, same)),
        let_else b (omega (arith, h, same)),
      )
  stmt s (StmtKind-F.ExprStmt e semi) d h =
      let r = value_or_none (read_stmt env (into at)) (read_value env (into at)) e p d in
      let same = count_append r.stmts (tree.more_stmts (tree.expr_stmt r.last semi) tree.no_stmts) in
      value e d (omega (arith, h, same))
  stmt s (StmtKind-F.MacroRules x) d h = tt
  stmt s (StmtKind-F.MacroDef x) d h = tt
  stmt s StmtKind-F.Item d h = tt

  abbrev read : List AstStmt → Defined → StmtReading
  read ss d = stmts_of (read_stmt env (into at)) (read_value env (into at)) ss p d

  stmts : (ss : List AstStmt) (d : Defined) → count_stmts (read ss d).stmts < n
      → Each (λ s. KidsStmt (claims_at C p) p (out-StmtKind s.kind)) ss
  stmts [] d h = tt
  stmts (s ∷ ss) d h =
      let r = read_stmt env (into at) s p d in
      let both = count_append r.stmts (read ss r.defined).stmts in
      let same = ap (λ x. count_stmts x.stmts) (stmt_is_level at d s) in (
        stmt (pointer_at at s.id s.range) (out-StmtKind s.kind) d (omega (arith, h, both, same)),
        stmts ss r.defined (omega (arith, h, both)),
      )

  -- so all of it may be handed in
  pub kids_run : (d : Defined) (ss : List AstStmt) (e : Option AstExpr) → count_spliced (resolved_run at d ss e) < n
      → KidsRun (claims_at C p) p ss e
  kids_run d ss e h =
      let r = read ss d in
      let t = value_or_none (read_stmt env (into at)) (read_value env (into at)) e p r.defined in
      let both = count_append r.stmts t.stmts in record {
        stmts = stmts ss d (omega (arith, h, both));
        tail = value e r.defined (omega (arith, h, both));
      }

-- what a call stands for in statement or tail place

-- with claims of patterns and of such calls that say no more than this
module _ (env : Answers) (C : Claims)
    (pats : (p : LowerCtx) (x : AstPat) → ((q : LowerCtx) (y : AstPath)
    → count_path (resolved_path (read_at env q) y) < count_pat (resolved_pat (read_at env p) x) → C.path q y) → C.pat p x)
    (splices : (p : LowerCtx) (e : AstExpr) → InSplice env C.inner C.block C.path C.type_ p e → C.splice p e) where
  below : (p : LowerCtx) (e : AstExpr) (can : InSplice env C.inner C.block C.path C.type_ p e) (n : ℕ)
      → n < suc (count_spliced (resolved_value (read_at env p) can.defined e)) → Below env C n
  below p e can n h = record {
    exprs = λ q x less. can.exprs q x (omega (arith, h, less));
    blocks = λ q b less. can.blocks q b (omega (arith, h, less));
    types = λ q t less. can.types q t (omega (arith, h, less));
    pats = λ q x less. pats q x (λ r y m. can.paths r y (omega (arith, h, less, m)));
    splices = λ q x d less. splices q x (record {
      defined = d;
      exprs = λ r y m. can.exprs r y (omega (arith, h, less, m));
      blocks = λ r b m. can.blocks r b (omega (arith, h, less, m));
      paths = λ r y m. can.paths r y (omega (arith, h, less, m));
      types = λ r t m. can.types r t (omega (arith, h, less, m));
    });
  }

  pub splice_nests : (p : LowerCtx) (e : AstExpr) (c : AstMacroCall) (n : ℕ) (f : HirFileId) (ms : AstMacroStmts) (es : List Eager)
      → InSplice env C.inner C.block C.path C.type_ p e → out-ExprKind e.kind ≡ ExprKind-F.MacroExpr (Some c)
      → env.cfg (site_of (pointer_at (read_at env p) e.id e.range)) ≡ Ok tt → p.left ≡ suc n
      → asked_call env kind.Stmts c p ≡ expanded f (Some (fragment.Stmts ms)) es
      → KidsRun (claims_at C (inside_file f n p)) (inside_file f n p) ms.stmts ms.expr
  splice_nests p e c n f ms es can is enabled left asked =
      let at = read_at env p in
      let d = can.defined in
      let q = inside_file f n p in
      let run = resolved_run (read_at env q) d ms.stmts ms.expr in
      let whole = ap count_spliced (value_inside at c n f left e d ms es is enabled asked) in
      let more = spliced_more (pointer_at at e.id e.range) (record { call = call_pointer p c; file = f; eager = es }) run in
      kids_run env C (suc (count_spliced run)) (below p e can (suc (count_spliced run)) (omega (arith, whole, more))) q d ms.stmts ms.expr
      (omega arith)

-- parts at another place

module _ (C D : Claims) (at : LowerCtx) (moved : Moved C D at) where
  moved_if : {A : Type 0} (K L : A → Type 0) → ((x : A) → K x → L x) → (o : Option A) → IfPresent K o → IfPresent L o
  moved_if K L each None may = tt
  moved_if K L each (Some x) may = each x may

  moved_else : (o : AstLetElse) → KidsLetElse (claims_at C at) at o → KidsLetElse D at o
  moved_else o may = moved_if (C.block at) (D.block at) (moved.block at) o may

  moved_of_value : (k : ExprKindLayer written) (e : AstExpr) → KidsOfValue (claims_at C at) at k e → KidsOfValue D at k e
  moved_of_value (ExprKind-F.MacroExpr c) e may = moved.splice at e may
  moved_of_value k e may = moved.expr e may

  moved_value : (e : AstExpr) → KidsValue (claims_at C at) at e → KidsValue D at e
  moved_value e may = moved_of_value (out-ExprKind e.kind) e may

  moved_stmt : (k : StmtKindLayer written) → KidsStmt (claims_at C at) at k → KidsStmt D at k
  moved_stmt (StmtKind-F.LetStmt x t e b) may = (
    moved_if (C.pat at) (D.pat at) (moved.pat at) x may.0,
    moved_if (C.type_ at) (D.type_ at) (moved.type_ at) t may.1,
    moved_if (C.inner at) D.expr moved.expr e may.2,
    moved_if (KidsLetElse (claims_at C at) at) (KidsLetElse D at) moved_else b may.3,
  )
  moved_stmt (StmtKind-F.ExprStmt e semi) may = moved_if (KidsValue (claims_at C at) at) (KidsValue D at) moved_value e may
  moved_stmt (StmtKind-F.MacroRules x) may = tt
  moved_stmt (StmtKind-F.MacroDef x) may = tt
  moved_stmt StmtKind-F.Item may = tt

  moved_stmts : (ss : List AstStmt) → Each (λ s. KidsStmt (claims_at C at) at (out-StmtKind s.kind)) ss
      → Each (λ s. KidsStmt D at (out-StmtKind s.kind)) ss
  moved_stmts [] may = tt
  moved_stmts (s ∷ ss) may = (moved_stmt (out-StmtKind s.kind) may.0, moved_stmts ss may.1)

  pub run_moved : (ss : List AstStmt) (e : Option AstExpr) → KidsRun (claims_at C at) at ss e → KidsRun D at ss e
  run_moved ss e may = record {
    stmts = moved_stmts ss may.stmts;
    tail = moved_if (KidsValue (claims_at C at) at) (KidsValue D at) moved_value e may.tail;
  }
