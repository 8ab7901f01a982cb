-- What may be handed in as a pattern, and as the assignee expression, where paths and expressions may be.
use Rattle.std.specs.Prelude.{◌<◌, ◌≤◌}
use Rattle.hir_syntax.specs.declared.ast.Expr.{Expr as AstExpr}
use Rattle.hir_syntax.specs.declared.ast.Path.{Path as AstPath}
use Rattle.hir_syntax.specs.declared.pats.Pat.{Pat as AstPat}
use Rattle.hir_env.specs.Answers.{Answers}
use Rattle.hir_env.specs.Count.{count_expr, count_pat, count_path}
use Rattle.hir_env.specs.Whole.{resolved_expr, resolved_pat, resolved_path}
use Rattle.hir_env.specs.declared.ctx.LowerCtx.{LowerCtx}
pub use Rattle.hir_lower_builder.specs.Inside.{read_at}

-- Each path that is smaller than the pattern may be handed in, wherever it is read, and so each that the pattern has, also behind calls.
abbrev pub InPat : Answers → (LowerCtx → AstPath → Type 0) → LowerCtx → AstPat → Type 0
InPat env path p x = (q : LowerCtx) (y : AstPath)
    → count_path (resolved_path (read_at env q) y) < count_pat (resolved_pat (read_at env p) x) → path q y

-- so may the assignee expression be as an expression, and each that counts no more, also behind calls
abbrev pub InTarget : Answers → (LowerCtx → AstExpr → Type 0) → (LowerCtx → AstPath → Type 0) → LowerCtx → AstExpr → Type 0
InTarget env expr path p e =
    let size = count_expr (resolved_expr (read_at env p) e) in
    ((q : LowerCtx) (x : AstExpr) → count_expr (resolved_expr (read_at env q) x) ≤ size → expr q x)
    × ((q : LowerCtx) (y : AstPath) → count_path (resolved_path (read_at env q) y) < size → path q y)
