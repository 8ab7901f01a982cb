-- What is read of a written tree is what the rules allow.
use Rattle.hir_syntax.specs.declared.ast.Expr.{Expr as AstExpr}
use Rattle.hir_syntax.specs.declared.ast.Path.{Path as AstPath, out-Path}
use Rattle.hir_syntax.specs.declared.pats.Pat.{Pat as AstPat}
use Rattle.hir_syntax.specs.declared.types.Type_.{Type_ as AstType_}
use Rattle.hir_env.specs.Answers.{Answers}
use Rattle.hir_env.specs.ResolveCtx.{ResolveCtx}
use Rattle.hir_env.specs.Whole.{resolved_expr, resolved_pat, resolved_path, resolved_type, resolved_use_tree}
use Rattle.hir_env.specs.declared.ctx.LowerCtx.{LowerCtx}
use Rattle.thm_reading.specs.Rules.{ExprAs, PathAs, PatKindAs, TypeKindAs, UseTreeAs}
use Rattle.thm_reading.specs.LowerCtx.{expr_kind, expr_node, pat_kind, pat_node, type_kind, type_node}

abbrev pub rctx : LowerCtx → Answers → ResolveCtx
rctx p a = record { answers = a; place = p }

abbrev pub TypesByRules : Type 0
TypesByRules = (a : Answers) (p : LowerCtx) (t : AstType_) → TypeKindAs a p (type_node p t) (type_kind t) (resolved_type (rctx p a) t)

abbrev pub PathsByRules : Type 0
PathsByRules = (a : Answers) (p : LowerCtx) (x : AstPath) → (let y = out-Path x in
    PathAs a p y.in_macro y.leading y.segs y.use_ (resolved_path (rctx p a) x))

-- as the use tree around another path
abbrev pub UseTreesByRules : Type 0
UseTreesByRules = (a : Answers) (p : LowerCtx) (x : AstPath) → (let y = out-Path x in
    UseTreeAs a p y.leading y.segs y.use_ (resolved_use_tree (rctx p a) x))

abbrev pub PatsByRules : Type 0
PatsByRules = (a : Answers) (p : LowerCtx) (x : AstPat) → PatKindAs a p (pat_node p x) (pat_kind x) (resolved_pat (rctx p a) x)

abbrev pub ExprsByRules : Type 0
ExprsByRules = (a : Answers) (p : LowerCtx) (e : AstExpr) → ExprAs a p (expr_node p e) (expr_kind e) (resolved_expr (rctx p a) e)
