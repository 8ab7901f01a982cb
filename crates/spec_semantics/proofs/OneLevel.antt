-- Small written trees, computed level by level.
use Rattle.std.proofs.Common.{◌≡◌, ◌∙◌, ap, ℕ, suc, Some, None}
use Rattle.hir_syntax.specs.declared.ast.ElseBranch.TheOpen.{ExprKind-F, PatKind-F, TypeKind-F}
use Rattle.hir_syntax.specs.declared.ast.ExprKind.{out-roll-ExprKind}
use Rattle.hir_syntax.specs.declared.ast.StmtKind.{out-roll-StmtKind}
use Rattle.hir_syntax.specs.declared.macros.MacroCall.{MacroCall as AstMacroCall, out-roll-MacroCall}
use Rattle.hir_syntax.specs.declared.pats.PatKind.{out-roll-PatKind}
use Rattle.hir_syntax.specs.declared.types.TypeKind.{out-roll-TypeKind}
use Rattle.hir_store.specs.Pointers.{Pointer}
use Rattle.hir_env.specs.declared.ctx.LowerCtx.{LowerCtx}
use Rattle.hir_env.specs.declared.expand.FragmentKind.TheVariants as kind
use Rattle.hir_env.specs.Answers.{Answers}
use Rattle.hir_env.specs.ResolveCtx.{ResolveCtx, in_file, ptr, site_of}
use Rattle.hir_env.specs.Layers.{Defined, Entering, ExprKindLayer, MacroCallLayer, Reader, Spliced, StmtKindLayer}
use Rattle.hir_env.specs.PatLayers.{PatKindLayer}
use Rattle.hir_env.specs.TypeLayers.{TypeKindLayer}
use Rattle.hir_env.specs.Answering as of
use Rattle.hir_env.specs.Calls.{around, called, expr_in, pat_in, splice_in, type_in}
use Rattle.hir_env.specs.Pats as of_pats
use Rattle.hir_env.specs.Paths as of_types
use Rattle.hir_env.specs.ResolvedTree as tree
use Rattle.hir_env.specs.ResolvedTree.{Expr, Pat, Type_}
use Rattle.hir_env.specs.Whole.{written, reader, into, resolved_expr, resolved_pat, resolved_type, resolved_value}
use Rattle.hir_env.specs.Whole.{entering, read_expr, read_value, read_stmt, read_pat, read_type}
use Rattle.hir_env.proofs.Levels.{expr_is_level, stmt_is_level, value_is_level}
use Rattle.hir_env.proofs.PatLevels.{pat_is_level}
use Rattle.hir_env.proofs.PathLevels.{type_is_level}
use Rattle.spec_data.specs.Trees.{node, no_range, type_at, pointer}
use Rattle.spec_semantics.specs.Reading.{expr_of, pat_of, stmt_of, call_of, from, place_in}

-- a call, by one level of it

module _ (env : Answers) (to : Entering) (p : LowerCtx) (c : AstMacroCall) (l : MacroCallLayer written) where
  abbrev pub pointer_of : Pointer
  pointer_of = in_file p (ptr l.id l.range)

  abbrev pub expr_by : Pointer → Expr
  expr_by s = let x = env.expand (site_of pointer_of) c p.module_id kind.Expr in around s (called pointer_of x) (expr_in to p x)

  abbrev pub pat_by : Pointer → Pat
  pat_by s = let x = env.expand (site_of pointer_of) c p.module_id kind.Pat in tree.macro_pat s (called pointer_of x) (pat_in to p x)

  abbrev pub type_by : Pointer → Type_
  type_by s = let x = env.expand (site_of pointer_of) c p.module_id kind.Type_ in tree.macro_type s (called pointer_of x) (type_in to p x)

  abbrev pub splice_by : Pointer → Defined → Spliced
  splice_by s d = splice_in to p s pointer_of (env.expand (site_of pointer_of) c p.module_id kind.Stmts) d

-- one level of a tree that is made of its parts

module _ (at : ResolveCtx) where
  abbrev rd : Reader written
  rd = reader at.answers (into at)

  pub expr_made : (n : ℕ) (k : ExprKindLayer written)
      → resolved_expr at (expr_of n k) ≡ of.expr_kind at.answers rd k (ptr (node n) no_range) at.place
  expr_made n k = expr_is_level at (expr_of n k)
      ∙ ap (λ x. of.expr_kind at.answers rd x (ptr (node n) no_range) at.place) (out-roll-ExprKind k)

  pub value_made : (n : ℕ) (k : ExprKindLayer written) (d : Defined)
      → resolved_value at d (expr_of n k) ≡ of.value_kind at.answers rd k (ptr (node n) no_range) at.place d
  value_made n k d = value_is_level at d (expr_of n k)
      ∙ ap (λ x. of.value_kind at.answers rd x (ptr (node n) no_range) at.place d) (out-roll-ExprKind k)

  pub stmt_made : (n : ℕ) (k : StmtKindLayer written) (d : Defined)
      → read_stmt at.answers (into at) (stmt_of n k) at.place d ≡ of.stmt_at at.answers rd k at.place (pointer at n) d
  stmt_made n k d = stmt_is_level at d (stmt_of n k)
      ∙ ap (λ x. of.stmt_at at.answers rd x at.place (pointer at n) d) (out-roll-StmtKind k)

  pub pat_made : (n : ℕ) (k : PatKindLayer written)
      → resolved_pat at (pat_of n k) ≡ of_pats.pat_at at.answers rd k at.place (pointer at n)
  pat_made n k = pat_is_level at (pat_of n k)
      ∙ ap (λ x. of_pats.pat_at at.answers rd x at.place (pointer at n)) (out-roll-PatKind k)

  pub type_made : (n : ℕ) (k : TypeKindLayer written)
      → resolved_type at (type_at n k) ≡ of_types.type_at at.answers rd k at.place (pointer at n)
  type_made n k = type_is_level at (type_at n k)
      ∙ ap (λ x. of_types.type_at at.answers rd x at.place (pointer at n)) (out-roll-TypeKind k)

-- calls, where one may be entered

abbrev pub entering_of : Answers → ℕ → Entering
entering_of env k = record {
  left = k;
  expr = read_expr env (entering env k);
  value = read_value env (entering env k);
  stmt = read_stmt env (entering env k);
  pat = read_pat env (entering env k);
  type_ = read_type env (entering env k);
}

-- in this file, where so many calls may be entered
abbrev pub rctx_in : Answers → LowerCtx → ℕ → ℕ → ResolveCtx
rctx_in env p f n = record { answers = env; place = place_in p f n }

module _ (env : Answers) (p : LowerCtx) (f k n c : ℕ) where
  abbrev layer : MacroCallLayer written
  layer = record { id = node c; range = no_range; path = None }

  abbrev to : Entering
  to = entering_of env k

  abbrev here : LowerCtx
  here = place_in p f (suc k)

  pub expr_called : resolved_expr (rctx_in env p f (suc k)) (expr_of n (ExprKind-F.MacroExpr (Some (call_of c))))
      ≡ of.asked (from f n) (env.cfg (site_of (from f n))) (expr_by env to here (call_of c) layer (from f n))
  expr_called = expr_made (rctx_in env p f (suc k)) n (ExprKind-F.MacroExpr (Some (call_of c)))
      ∙ ap (λ l. of.asked (from f n) (env.cfg (site_of (from f n))) (expr_by env to here (call_of c) l (from f n)))
      (out-roll-MacroCall layer)

  pub pat_called : resolved_pat (rctx_in env p f (suc k)) (pat_of n (PatKind-F.MacroPat (Some (call_of c))))
      ≡ pat_by env to here (call_of c) layer (from f n)
  pat_called = pat_made (rctx_in env p f (suc k)) n (PatKind-F.MacroPat (Some (call_of c)))
      ∙ ap (λ l. pat_by env to here (call_of c) l (from f n)) (out-roll-MacroCall layer)

  pub type_called : resolved_type (rctx_in env p f (suc k)) (type_at n (TypeKind-F.MacroType (Some (call_of c))))
      ≡ type_by env to here (call_of c) layer (from f n)
  type_called = type_made (rctx_in env p f (suc k)) n (TypeKind-F.MacroType (Some (call_of c)))
      ∙ ap (λ l. type_by env to here (call_of c) l (from f n)) (out-roll-MacroCall layer)

-- where this is the place, except for how many calls may be entered
module _ (env : Answers) (q : LowerCtx) (k n c : ℕ) where
  abbrev pub before_value : LowerCtx
  before_value = record q { left = suc k }

  abbrev own : Pointer
  own = in_file q (ptr (node n) no_range)

  abbrev by : MacroCallLayer written → Defined → Spliced
  by l d = of.asked_splice own (env.cfg (site_of own)) (splice_by env (entering_of env k) before_value (call_of c) l own d) d

  pub value_called_at : (d : Defined)
      → resolved_value (record { answers = env; place = before_value }) d (expr_of n (ExprKind-F.MacroExpr (Some (call_of c))))
      ≡ by (record { id = node c; range = no_range; path = None }) d
  value_called_at d = value_made (record { answers = env; place = before_value }) n (ExprKind-F.MacroExpr (Some (call_of c))) d
      ∙ ap (λ l. by l d) (out-roll-MacroCall (record { id = node c; range = no_range; path = None }))

module _ (env : Answers) (p : LowerCtx) (f k n c : ℕ) where
  pub value_called : (d : Defined)
      → resolved_value (rctx_in env p f (suc k)) d (expr_of n (ExprKind-F.MacroExpr (Some (call_of c))))
      ≡ by env (place_in p f 0) k n c (record { id = node c; range = no_range; path = None }) d
  value_called d = value_called_at env (place_in p f 0) k n c d
