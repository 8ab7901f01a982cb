-- What is read of a tree is framed by finitely many questions.
use Rattle.std.specs.Prelude.{◌≡◌, Bool, Option, is_some}
use Rattle.hir_syntax.specs.declared.params.ParamList.{ParamList as AstParamList}
use Rattle.hir_store.specs.declared.ids.DefWithBodyId.{DefWithBodyId}
use Rattle.hir_store.specs.declared.ids.ItemContainerId.{ItemContainerId}
use Rattle.hir_env.specs.ResolvedTree.{Formals, OptionExpr}
use Rattle.hir_env.specs.Formals.{resolved_formals, are_bare}
use Rattle.hir_syntax.specs.declared.ast.Expr.{Expr as AstExpr}
use Rattle.hir_syntax.specs.declared.ast.Path.{Path as AstPath}
use Rattle.hir_syntax.specs.declared.pats.Pat.{Pat as AstPat}
use Rattle.hir_syntax.specs.declared.types.Type_.{Type_ as AstType_}
use Rattle.hir_env.specs.Answers.{Answers}
use Rattle.hir_env.specs.ResolveCtx.{ResolveCtx}
use Rattle.hir_env.specs.Whole.{resolved_expr, resolved_pat, resolved_path, resolved_type, expr_part}
use Rattle.hir_env.specs.declared.ctx.LowerCtx.{LowerCtx}
use Rattle.thm_frame.specs.Questions.{Alike, Area, Framed, Here, InArea, Question}

-- where these are the answers
abbrev pub rctx : LowerCtx → Answers → ResolveCtx
rctx p a = record { answers = a; place = p }

abbrev pub TypesFramed : Type 0
TypesFramed = (a : Answers) (area : Area a) (p : LowerCtx) → Here area p → (t : AstType_) → Framed area (λ b. resolved_type (rctx p b) t) a

abbrev pub PathsFramed : Type 0
PathsFramed = (a : Answers) (area : Area a) (p : LowerCtx) → Here area p → (x : AstPath) → Framed area (λ b. resolved_path (rctx p b) x) a

abbrev pub PatsFramed : Type 0
PatsFramed = (a : Answers) (area : Area a) (p : LowerCtx) → Here area p → (x : AstPat) → Framed area (λ b. resolved_pat (rctx p b) x) a

abbrev pub ExprsFramed : Type 0
ExprsFramed = (a : Answers) (area : Area a) (p : LowerCtx) → Here area p → (e : AstExpr) → Framed area (λ b. resolved_expr (rctx p b) e) a

-- where as many calls may be entered as the environment says
abbrev pub with_limit : LowerCtx → Answers → LowerCtx
with_limit p b = record p { left = b.expansion_limit }

-- All that the contract of lowering a body says of the environment: whether it is skipped, what it stands in, its parameters, which are
-- read at a place of their own, and itself.
pub record BodyRead : Type 0 where
  pub skipped : Bool
  pub container : ItemContainerId
  pub formals : Formals
  pub read : OptionExpr

abbrev pub body_at : Answers → DefWithBodyId → LowerCtx → LowerCtx → Option AstParamList → Option AstExpr → BodyRead
body_at b item p q ps e = record {
  skipped = b.skip item;
  container = b.container item;
  formals = resolved_formals (rctx (with_limit q b) b) (are_bare (b.container item) (is_some e)) ps;
  read = expr_part (rctx (with_limit p b) b) e;
}

abbrev pub BodiesFramed : Type 0
BodiesFramed = (a : Answers) (area : Area a) (item : DefWithBodyId) (p q : LowerCtx) → Here area p → Here area q
    → (ps : Option AstParamList) (e : Option AstExpr) → Framed area (λ b. body_at b item p q ps e) a

-- another environment that answers whatever may be asked in the area alike
abbrev pub AgreesIn : {a : Answers} → Area a → Answers → Type 0
AgreesIn {a} area b = (q : Question) → InArea area q → Alike a b q

-- so a body reads the same there
abbrev pub BodiesKeep : Type 0
BodiesKeep = (a : Answers) (area : Area a) (b : Answers) → AgreesIn area b → (item : DefWithBodyId) (p q : LowerCtx) → Here area p
    → Here area q → (ps : Option AstParamList) (e : Option AstExpr) → body_at a item p q ps e ≡ body_at b item p q ps e
