-- What is asked by the rules is enough: who answers it alike reads the same tree, or the same outside of what is disabled.
use Rattle.std.specs.Prelude.{◌≡◌, Option, is_some}
use Rattle.hir_syntax.specs.declared.ast.Expr.{Expr as AstExpr}
use Rattle.hir_syntax.specs.declared.ast.Path.{Path as AstPath, out-Path}
use Rattle.hir_syntax.specs.declared.params.ParamList.{ParamList as AstParamList}
use Rattle.hir_syntax.specs.declared.pats.Pat.{Pat as AstPat}
use Rattle.hir_syntax.specs.declared.types.Type_.{Type_ as AstType_}
use Rattle.hir_store.specs.declared.ids.DefWithBodyId.{DefWithBodyId}
use Rattle.hir_env.specs.ResolvedTree.{Expr, Formals, OptionExpr, Pat, Path, Type_}
use Rattle.hir_env.specs.Answers.{Answers}
use Rattle.hir_env.specs.Formals.{are_bare}
use Rattle.hir_env.specs.Whole.{resolved_expr, resolved_pat, resolved_path, resolved_type}
use Rattle.hir_env.specs.declared.ctx.LowerCtx.{LowerCtx}
use Rattle.thm_frame.specs.Theorems.{BodyRead, body_at, with_limit, rctx}
use Rattle.thm_frame.specs.Questions.{AllAlike}
use Rattle.thm_reading.specs.Formals.{FormalsAs}
use Rattle.thm_reading.specs.LowerCtx.{expr_kind, expr_node, pat_kind, pat_node, type_kind, type_node}
use Rattle.thm_reading.specs.Rules.{ExprAs, OptExprAs, PathAs, PatKindAs, TypeKindAs}
use Rattle.thm_enabled.specs.Asks.{listed}
use Rattle.thm_enabled.specs.Asked.{asked_expr}
use Rattle.thm_enabled.specs.Body.{asked_body}
use Rattle.thm_enabled.specs.Pruned.{pruned, pruned_part}
use Rattle.thm_enabled.specs.Whole.{whole_expr, whole_pat_kind, whole_path, whole_type_kind}

-- The rules allow of each written part what one environment makes of it (`thm_reading`). Where another one answers alike all that is asked
-- by them, it makes the same.
abbrev pub TypesAsked : Type 0
TypesAsked = (a b : Answers) (p : LowerCtx) (t : AstType_) (x : Type_) (h : TypeKindAs a p (type_node p t) (type_kind t) x)
    → AllAlike a b (listed (whole_type_kind a h)) → x ≡ resolved_type (rctx p b) t

abbrev pub PathsAsked : Type 0
PathsAsked = (a b : Answers) (p : LowerCtx) (x : AstPath) (y : Path)
    (h : PathAs a p (out-Path x).in_macro (out-Path x).leading (out-Path x).segs (out-Path x).use_ y)
    → AllAlike a b (listed (whole_path a h)) → y ≡ resolved_path (rctx p b) x

abbrev pub PatsAsked : Type 0
PatsAsked = (a b : Answers) (p : LowerCtx) (x : AstPat) (y : Pat) (h : PatKindAs a p (pat_node p x) (pat_kind x) y)
    → AllAlike a b (listed (whole_pat_kind a h)) → y ≡ resolved_pat (rctx p b) x

abbrev pub ExprsAsked : Type 0
ExprsAsked = (a b : Answers) (p : LowerCtx) (e : AstExpr) (x : Expr) (h : ExprAs a p (expr_node p e) (expr_kind e) x)
    → AllAlike a b (listed (whole_expr a h)) → x ≡ resolved_expr (rctx p b) e

-- and where it answers alike what is asked outside of what is disabled, it makes the same outside of that
abbrev pub OutsideAsked : Type 0
OutsideAsked = (a b : Answers) (p : LowerCtx) (e : AstExpr) (x : Expr) (h : ExprAs a p (expr_node p e) (expr_kind e) x)
    → AllAlike a b (listed (asked_expr a h)) → pruned x ≡ pruned (resolved_expr (rctx p b) e)

-- of a body all that the contract of lowering it says of the environment, with what is read of it pruned
abbrev pub outside : BodyRead → BodyRead
outside r = record r { read = pruned_part r.read }

abbrev pub OutsideBodies : Type 0
OutsideBodies = (a b : Answers) (item : DefWithBodyId) (p q : LowerCtx) (ps : Option AstParamList) (e : Option AstExpr) (fs : Formals)
    (x : OptionExpr) (h : FormalsAs a (with_limit q a) (are_bare (a.container item) (is_some e)) ps fs)
    (k : OptExprAs a (with_limit p a) e x)
    → AllAlike a b (listed (asked_body a item h k))
    → outside (record { skipped = a.skip item; container = a.container item; formals = fs; read = x })
    ≡ outside (body_at b item p q ps e)
