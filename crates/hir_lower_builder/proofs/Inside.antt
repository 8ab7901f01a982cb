-- What a macro call stands for counts less than the call.
use Rattle.std.proofs.Common.{arith, ◌≡◌, ◌∙◌, ap, ℕ, suc, ◌<◌, ◌≤◌, List, Option, Some, None, Ok}
use Rattle.hir_base.specs.declared.node.HirFileId.{HirFileId}
use Rattle.hir_syntax.specs.declared.ast.ElseBranch.TheOpen.{ExprKind-F}
use Rattle.hir_syntax.specs.declared.ast.Expr.{Expr as AstExpr}
use Rattle.hir_syntax.specs.declared.ast.ExprKind.{out-ExprKind}
use Rattle.hir_syntax.specs.declared.ast.Path.{Path as AstPath}
use Rattle.hir_syntax.specs.declared.macros.Fragment.TheVariants as fragment
use Rattle.hir_syntax.specs.declared.macros.MacroCall.{MacroCall as AstMacroCall}
use Rattle.hir_syntax.specs.declared.macros.MacroStmts.{MacroStmts as AstMacroStmts}
use Rattle.hir_syntax.specs.declared.pats.Pat.{Pat as AstPat}
use Rattle.hir_syntax.specs.declared.types.Type_.{Type_ as AstType_}
use Rattle.hir_store.specs.Pointers.{Pointer}
use Rattle.hir_env.specs.declared.expand.FragmentKind.TheVariants as kind
use Rattle.hir_env.specs.declared.ctx.LowerCtx.{LowerCtx}
use Rattle.hir_env.specs.Answers.{Answers, Eager, expanded}
use Rattle.hir_env.specs.ResolvedTree as tree
use Rattle.hir_env.specs.ResolvedTree.{Called, Entered, Gone, OptionExpr}
use Rattle.hir_env.specs.Answering.{asked_splice, value_kind}
use Rattle.hir_env.specs.Calls.{around, around_if, asked_call, call_pointer, called, entered_expr, entered_pat, entered_splice}
use Rattle.hir_env.specs.Calls.{entered_type, expr_in, gone_in, inside_file, pat_in, splice_in, spliced_in, spliced_last, type_in}
use Rattle.hir_env.specs.Count.{count_expr, count_option_expr, count_option_pat, count_option_type, count_pat, count_path, count_type}
use Rattle.hir_env.specs.Layers.{Defined, Entering, Spliced}
use Rattle.hir_env.specs.ResolveCtx.{ResolveCtx, ptr, site_of}
use Rattle.hir_env.specs.Whole.{resolved_expr, resolved_pat, resolved_path, resolved_type, resolved_value, entering, into, pointer_at}
use Rattle.hir_env.specs.Whole.{reader}
use Rattle.hir_env.specs.Whole.{read_expr, read_pat, read_stmt, read_type, read_value}
use Rattle.hir_env.proofs.Levels.{value_is_level}
use Rattle.hir_lower_builder.specs.Inside.{InCall, InPatCall, InTargetCall, InTypeCall, resolved_run, count_spliced, inside_call}
use Rattle.hir_lower_builder.specs.Inside.{inside_pat_call, inside_type_call, read_at}
use Rattle.hir_lower_builder.specs.Methods.{at_place}

-- how that is read which calls stand for where one of so many is entered
abbrev fresh : Answers → ℕ → Entering
fresh env n = record {
  left = n;
  expr = read_expr env (entering env n);
  value = read_value env (entering env n);
  stmt = read_stmt env (entering env n);
  pat = read_pat env (entering env n);
  type_ = read_type env (entering env n);
}

-- what is entered is read inside of the expansion

module _ (at : ResolveCtx) (c : AstMacroCall) (n : ℕ) (f : HirFileId) (left : at.place.left ≡ suc n) where
  pub expr_inside : (e : AstExpr) (es : List Eager)
      → asked_call at.answers kind.Expr c at.place ≡ expanded f (Some (fragment.Expr e)) es
      → inside_call at.answers (into at) at.place c ≡ tree.some_expr (resolved_expr (at_place at (inside_file f n at.place)) e)
  expr_inside e es asked =
      ap (λ l. inside_call at.answers (entering at.answers l) at.place c) left ∙ ap (expr_in (fresh at.answers n) at.place) asked

  pub pat_inside : (x : AstPat) (es : List Eager)
      → asked_call at.answers kind.Pat c at.place ≡ expanded f (Some (fragment.Pat x)) es
      → inside_pat_call at.answers (into at) at.place c ≡ tree.some_pat (resolved_pat (at_place at (inside_file f n at.place)) x)
  pat_inside x es asked =
      ap (λ l. inside_pat_call at.answers (entering at.answers l) at.place c) left ∙ ap (pat_in (fresh at.answers n) at.place) asked

  pub type_inside : (t : AstType_) (es : List Eager)
      → asked_call at.answers kind.Type_ c at.place ≡ expanded f (Some (fragment.Type_ t)) es
      → inside_type_call at.answers (into at) at.place c ≡ tree.some_type (resolved_type (at_place at (inside_file f n at.place)) t)
  type_inside t es asked =
      ap (λ l. inside_type_call at.answers (entering at.answers l) at.place c) left ∙ ap (type_in (fresh at.answers n) at.place) asked

  -- a call that stands for statements
  pub splice_inside : (s : Pointer) (d : Defined) (ms : AstMacroStmts) (es : List Eager)
      → asked_call at.answers kind.Stmts c at.place ≡ expanded f (Some (fragment.Stmts ms)) es
      → entered_splice at.answers (into at) c at.place s d
      ≡ spliced_in s (record { call = call_pointer at.place c; file = f; eager = es })
      (resolved_run (at_place at (inside_file f n at.place)) d ms.stmts ms.expr)
  splice_inside s d ms es asked =
      ap (λ l. entered_splice at.answers (entering at.answers l) c at.place s d) left
      ∙ ap (λ x. splice_in (fresh at.answers n) at.place s (call_pointer at.place c) x d) asked

  -- in statement or tail place, where the expression is enabled
  pub value_inside : (e : AstExpr) (d : Defined) (ms : AstMacroStmts) (es : List Eager)
      → out-ExprKind e.kind ≡ ExprKind-F.MacroExpr (Some c)
      → at.answers.cfg (site_of (pointer_at at e.id e.range)) ≡ Ok tt
      → asked_call at.answers kind.Stmts c at.place ≡ expanded f (Some (fragment.Stmts ms)) es
      → resolved_value at d e
      ≡ spliced_in (pointer_at at e.id e.range) (record { call = call_pointer at.place c; file = f; eager = es })
      (resolved_run (at_place at (inside_file f n at.place)) d ms.stmts ms.expr)
  value_inside e d ms es is enabled asked =
      let s = pointer_at at e.id e.range in
      value_is_level at d e
      ∙ ap (λ k. value_kind at.answers (reader at.answers (into at)) k (ptr e.id e.range) at.place d) is
      ∙ ap (λ r. asked_splice s r (entered_splice at.answers (into at) c at.place s d) d) enabled
      ∙ splice_inside s d ms es asked

-- a call counts more than what it stands for

around_if_more : (o : Option Gone) (s : Pointer) (c : Called) (e : OptionExpr) → suc (count_option_expr e) ≤ count_expr (around_if o s c e)
around_if_more None s c e = omega arith
around_if_more (Some why) s c e = omega arith

around_more : (s : Pointer) (c : Called) (e : OptionExpr) → suc (count_option_expr e) ≤ count_expr (around s c e)
around_more s c tree.no_expr = omega arith
around_more s c (tree.some_expr e) = around_if_more (gone_in e) s c (tree.some_expr e)

pub call_more : (env : Answers) (o : Option Entering) (p : LowerCtx) (c : AstMacroCall) (s : Pointer)
    → suc (count_option_expr (inside_call env o p c)) ≤ count_expr (entered_expr env o c p s)
call_more env None p c s = omega arith
call_more env (Some into) p c s =
    let x = asked_call env kind.Expr c p in around_more s (called (call_pointer p c) x) (expr_in into p x)

pub pat_call_more : (env : Answers) (o : Option Entering) (p : LowerCtx) (c : AstMacroCall) (s : Pointer)
    → suc (count_option_pat (inside_pat_call env o p c)) ≤ count_pat (entered_pat env o c p s)
pat_call_more env None p c s = omega arith
pat_call_more env (Some into) p c s = omega arith

pub type_call_more : (env : Answers) (o : Option Entering) (p : LowerCtx) (c : AstMacroCall) (s : Pointer)
    → suc (count_option_type (inside_type_call env o p c)) ≤ count_type (entered_type env o c p s)
type_call_more env None p c s = omega arith
type_call_more env (Some into) p c s = omega arith

last_more : (s : Pointer) (e : OptionExpr) → count_option_expr e ≤ count_option_expr (spliced_last s e)
last_more s tree.no_expr = omega arith
last_more s (tree.some_expr e) = let more = around_more s tree.spliced (tree.some_expr e) in omega (arith, more)

pub spliced_more : (s : Pointer) (c : Entered) (r : Spliced) → suc (count_spliced r) ≤ count_spliced (spliced_in s c r)
spliced_more s c r = let more = last_more s r.last in omega (arith, more)

-- so what is entered counts less

-- the pattern that a call stands for, of whatever is made of the call
pub pat_call_less : (at : ResolveCtx) (c : AstMacroCall) (n : ℕ) (f : HirFileId) (x : AstPat) (es : List Eager) (s : Pointer)
    → at.place.left ≡ suc n → asked_call at.answers kind.Pat c at.place ≡ expanded f (Some (fragment.Pat x)) es
    → count_pat (resolved_pat (at_place at (inside_file f n at.place)) x) < count_pat (entered_pat at.answers (into at) c at.place s)
pat_call_less at c n f x es s left asked =
    let inside = ap count_option_pat (pat_inside at c n f left x es asked) in
    let more = pat_call_more at.answers (into at) at.place c s in
    omega (arith, inside, more)

-- the expression that a call stands for, of whatever is made of the call
pub call_less : (at : ResolveCtx) (c : AstMacroCall) (n : ℕ) (f : HirFileId) (e : AstExpr) (es : List Eager) (s : Pointer)
    → at.place.left ≡ suc n → asked_call at.answers kind.Expr c at.place ≡ expanded f (Some (fragment.Expr e)) es
    → count_expr (resolved_expr (at_place at (inside_file f n at.place)) e) < count_expr (entered_expr at.answers (into at) c at.place s)
call_less at c n f e es s left asked =
    let inside = ap count_option_expr (expr_inside at c n f left e es asked) in
    let more = call_more at.answers (into at) at.place c s in
    omega (arith, inside, more)

-- so it may be handed in

pub call_nests : (env : Answers) (expr : LowerCtx → AstExpr → Type 0) (p : LowerCtx) (c : AstMacroCall) (n : ℕ) (f : HirFileId)
    (e : AstExpr) (es : List Eager) → InCall env expr p c → p.left ≡ suc n
    → asked_call env kind.Expr c p ≡ expanded f (Some (fragment.Expr e)) es → expr (inside_file f n p) e
call_nests env expr p c n f e es can left asked =
    let counts = ap count_option_expr (expr_inside (read_at env p) c n f left e es asked) in
    can (inside_file f n p) e (omega (arith, counts))

pub pat_call_nests : (env : Answers) (path : LowerCtx → AstPath → Type 0) (p : LowerCtx) (c : AstMacroCall) (n : ℕ) (f : HirFileId)
    (x : AstPat) (es : List Eager) → InPatCall env path p c → p.left ≡ suc n
    → asked_call env kind.Pat c p ≡ expanded f (Some (fragment.Pat x)) es
    → (q : LowerCtx) (y : AstPath)
    → count_path (resolved_path (read_at env q) y) < count_pat (resolved_pat (read_at env (inside_file f n p)) x) → path q y
pat_call_nests env path p c n f x es can left asked q y less =
    let counts = ap count_option_pat (pat_inside (read_at env p) c n f left x es asked) in can q y (omega (arith, less, counts))

pub target_call_nests : (env : Answers) (expr : LowerCtx → AstExpr → Type 0) (path : LowerCtx → AstPath → Type 0) (p : LowerCtx)
    (c : AstMacroCall) (n : ℕ) (f : HirFileId) (e : AstExpr) (es : List Eager) → InTargetCall env expr path p c → p.left ≡ suc n
    → asked_call env kind.Expr c p ≡ expanded f (Some (fragment.Expr e)) es
    → let size = count_expr (resolved_expr (read_at env (inside_file f n p)) e) in
    ((q : LowerCtx) (x : AstExpr) → count_expr (resolved_expr (read_at env q) x) ≤ size → expr q x)
    × ((q : LowerCtx) (y : AstPath) → count_path (resolved_path (read_at env q) y) < size → path q y)
target_call_nests env expr path p c n f e es can left asked =
    let counts = ap count_option_expr (expr_inside (read_at env p) c n f left e es asked) in
    (λ q x less. can.0 q x (omega (arith, less, counts)), λ q y less. can.1 q y (omega (arith, less, counts)))

pub type_call_nests : (env : Answers) (type_ : LowerCtx → AstType_ → Type 0) (p : LowerCtx) (c : AstMacroCall) (n : ℕ) (f : HirFileId)
    (t : AstType_) (es : List Eager) → InTypeCall env type_ p c → p.left ≡ suc n
    → asked_call env kind.Type_ c p ≡ expanded f (Some (fragment.Type_ t)) es → type_ (inside_file f n p) t
type_call_nests env type_ p c n f t es can left asked =
    let counts = ap count_option_type (type_inside (read_at env p) c n f left t es asked) in
    can (inside_file f n p) t (omega (arith, counts))
