-- What macro calls stand for where they are read, by itself, and how much it counts.
use Rattle.std.specs.Prelude.{ℕ, ◌+◌, ◌<◌, ◌≤◌, List, Option, Some, None}
use Rattle.hir_syntax.specs.declared.ast.BlockExpr.{BlockExpr as AstBlockExpr}
use Rattle.hir_syntax.specs.declared.ast.Expr.{Expr as AstExpr}
use Rattle.hir_syntax.specs.declared.ast.Path.{Path as AstPath}
use Rattle.hir_syntax.specs.declared.ast.Stmt.{Stmt as AstStmt}
use Rattle.hir_syntax.specs.declared.macros.MacroCall.{MacroCall as AstMacroCall}
use Rattle.hir_syntax.specs.declared.types.Type_.{Type_ as AstType_}
use Rattle.hir_env.specs.declared.expand.FragmentKind.TheVariants as kind
use Rattle.hir_env.specs.declared.ctx.LowerCtx.{LowerCtx}
use Rattle.hir_env.specs.Answers.{Answers}
use Rattle.hir_env.specs.ResolvedTree as tree
use Rattle.hir_env.specs.ResolvedTree.{OptionExpr, OptionPat, OptionType}
use Rattle.hir_env.specs.Calls.{asked_call, expr_in, pat_in, splice_of, type_in}
use Rattle.hir_env.specs.Count.{count_block, count_expr, count_option_expr, count_option_pat, count_option_type, count_path, count_stmts}
use Rattle.hir_env.specs.Count.{count_type}
use Rattle.hir_env.specs.Layers.{Defined, Entering, Spliced}
use Rattle.hir_env.specs.ResolveCtx.{ResolveCtx}
use Rattle.hir_env.specs.Whole.{resolved_expr, resolved_path, resolved_plain, resolved_type, resolved_value, entering, into, read_stmt}
use Rattle.hir_env.specs.Whole.{read_value}

abbrev pub read_at : Answers → LowerCtx → ResolveCtx
read_at env p = record { answers = env; place = p }

abbrev pub inside_call : Answers → Option Entering → LowerCtx → AstMacroCall → OptionExpr
inside_call env None p c = tree.no_expr
inside_call env (Some into) p c = expr_in into p (asked_call env kind.Expr c p)

abbrev pub inside_pat_call : Answers → Option Entering → LowerCtx → AstMacroCall → OptionPat
inside_pat_call env None p c = tree.no_pat
inside_pat_call env (Some into) p c = pat_in into p (asked_call env kind.Pat c p)

abbrev pub inside_type_call : Answers → Option Entering → LowerCtx → AstMacroCall → OptionType
inside_type_call env None p c = tree.no_type
inside_type_call env (Some into) p c = type_in into p (asked_call env kind.Type_ c p)

-- Where what a call stands for may be handed in, as is all that counts no more, wherever that is read.
abbrev pub InCall : Answers → (LowerCtx → AstExpr → Type 0) → LowerCtx → AstMacroCall → Type 0
InCall env expr p c = (q : LowerCtx) (e : AstExpr)
    → count_expr (resolved_expr (read_at env q) e) ≤ count_option_expr (inside_call env (entering env p.left) p c) → expr q e

abbrev pub InTypeCall : Answers → (LowerCtx → AstType_ → Type 0) → LowerCtx → AstMacroCall → Type 0
InTypeCall env type_ p c = (q : LowerCtx) (t : AstType_)
    → count_type (resolved_type (read_at env q) t) ≤ count_option_type (inside_type_call env (entering env p.left) p c) → type_ q t

-- of a pattern the paths in it
abbrev pub InPatCall : Answers → (LowerCtx → AstPath → Type 0) → LowerCtx → AstMacroCall → Type 0
InPatCall env path p c = (q : LowerCtx) (y : AstPath)
    → count_path (resolved_path (read_at env q) y) < count_option_pat (inside_pat_call env (entering env p.left) p c) → path q y

-- of the assignee expression the expressions, each of which may be a place, and the paths in it
abbrev pub InTargetCall : Answers → (LowerCtx → AstExpr → Type 0) → (LowerCtx → AstPath → Type 0) → LowerCtx → AstMacroCall → Type 0
InTargetCall env expr path p c = InCall env expr p c × ((q : LowerCtx) (y : AstPath)
    → count_path (resolved_path (read_at env q) y) < count_option_expr (inside_call env (entering env p.left) p c) → path q y)

-- statements, and what stands behind them, read here where these macros are defined already
abbrev pub resolved_run : ResolveCtx → Defined → List AstStmt → Option AstExpr → Spliced
resolved_run at d ss e = splice_of (read_stmt at.answers (into at)) (read_value at.answers (into at)) ss e at.place d

abbrev pub count_spliced : Spliced → ℕ
count_spliced r = count_stmts r.stmts + count_option_expr r.last

-- What counts less than an expression in statement or tail place may be handed in, wherever it is read. It counts the same whatever
-- macros are defined in front of it, so that this is told where some are.
pub record InSplice (env : Answers) (expr : LowerCtx → AstExpr → Type 0) (block : LowerCtx → AstBlockExpr → Type 0)
    (path : LowerCtx → AstPath → Type 0) (type_ : LowerCtx → AstType_ → Type 0) (p : LowerCtx) (e : AstExpr) : Type 0 where
  pub defined : Defined
  pub exprs : (q : LowerCtx) (x : AstExpr)
      → count_expr (resolved_expr (read_at env q) x) < count_spliced (resolved_value (read_at env p) defined e) → expr q x
  pub blocks : (q : LowerCtx) (b : AstBlockExpr)
      → count_block (resolved_plain (read_at env q) b) < count_spliced (resolved_value (read_at env p) defined e) → block q b
  pub paths : (q : LowerCtx) (y : AstPath)
      → count_path (resolved_path (read_at env q) y) < count_spliced (resolved_value (read_at env p) defined e) → path q y
  pub types : (q : LowerCtx) (t : AstType_)
      → count_type (resolved_type (read_at env q) t) < count_spliced (resolved_value (read_at env p) defined e) → type_ q t
