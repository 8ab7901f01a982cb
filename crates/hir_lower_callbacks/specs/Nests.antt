-- A function value that lowers a given part.
use Rattle.std.specs.Prelude.{◌≡◌, Bool, Option}
use Rattle.std.specs.declared.alloc.Global.{Global}
use denote.Ref.{Bor, MutBor}
use Rattle.hir_syntax.specs.declared.ast.Expr.{Expr as AstExpr}
use Rattle.hir_syntax.specs.declared.ast.BlockExpr.{BlockExpr as AstBlockExpr}
use Rattle.hir_syntax.specs.declared.ast.Path.{Path as AstPath}
use Rattle.hir_syntax.specs.declared.macros.MacroCall.{MacroCall as AstMacroCall}
use Rattle.hir_syntax.specs.declared.pats.Pat.{Pat as AstPat}
use Rattle.hir_syntax.specs.declared.types.Type_.{Type_ as AstType_}
use Rattle.hir_store.specs.Stored.{Stored}
use Rattle.hir_store.specs.Range.{HasExpr, HasExprOption}
use Rattle.hir_store.specs.declared.path.GenericArgs.{GenericArgs}
use Rattle.hir_store.specs.declared.ids.ExprId.{ExprId}
use Rattle.hir_store.specs.declared.ids.TypeRefId.{TypeRefId}
use Rattle.hir_env.specs.declared.ctx.LowerCtx.{LowerCtx}
use Rattle.hir_env.specs.Answers.{Answers}
use Rattle.hir_env.specs.ResolvedTree as tree
use Rattle.hir_env.specs.ResolvedTree.{Binder}
use Rattle.hir_env.specs.Paths.{inside_constant}
use Rattle.hir_env.specs.Wrapped.{AstGenericArgList}
use Rattle.hir_env.specs.Whole.{resolved_expr, resolved_arg_list, resolved_path_as, resolved_plain, resolved_type}
use Rattle.hir_lower_builder.specs.Builder.{Builder}
use Rattle.hir_lower_builder.specs.Inside.{InCall, InPatCall, InSplice, InTargetCall, InTypeCall}
use Rattle.hir_lower_builder.specs.Lowering.{Lowering, Checked, Lowers}
use Rattle.hir_lower_builder.specs.Lower.{lower_kept, lower_inside}
use Rattle.hir_lower_builder.specs.Methods.{HasRole, HasWalk, LowersArgs, LowersType, ReadsPath}
use Rattle.hir_lower_builder.specs.Nests.{Claims, IfPresent}
use Rattle.hir_lower_pat.specs.Nested.{InPat, InTarget}
use Rattle.hir_lower_builder.specs.declared.parts.BlockRole.{BlockRole}
use Rattle.hir_lower_builder.specs.declared.walk.PathWalk.{PathWalk}
use Rattle.hir_lower_builder.specs.declared.walk.Reading.{Reading}
use Rattle.hir_lower_callbacks.specs.ResolveCtxs.{with_all_items, rctx_at}

-- what such a function requires and ensures, over an environment
abbrev pub Pre : Type 0 → Type 1
Pre E = Global → Bor E → LowerCtx → MutBor Builder → Bor AstExpr → Type 0

abbrev pub Post : Type 0 → Type 0 → Type 1
Post E A = Global → Bor E → LowerCtx → MutBor Builder → Bor AstExpr → Checked A → MutBor Builder → Type 0

abbrev pub BlockPre : Type 0 → Type 1
BlockPre E = Global → Bor E → LowerCtx → MutBor Builder → BlockRole → Bor AstBlockExpr → Type 0

abbrev pub BlockPost : Type 0 → Type 1
BlockPost E = Global → Bor E → LowerCtx → MutBor Builder → BlockRole → Bor AstBlockExpr → Checked ExprId → MutBor Builder → Type 0

abbrev pub PathPre : Type 0 → Type 1
PathPre E = Global → Bor E → LowerCtx → MutBor Builder → PathWalk → Bool → Bor AstPath → Type 0

abbrev pub PathPost : Type 0 → Type 1
PathPost E = Global → Bor E → LowerCtx → MutBor Builder → PathWalk → Bool → Bor AstPath → Checked Reading → MutBor Builder → Type 0

abbrev pub TypePre : Type 0 → Type 1
TypePre E = Global → Bor E → LowerCtx → MutBor Builder → Bor (Option Binder) → Bor AstType_ → Type 0

abbrev pub TypePost : Type 0 → Type 1
TypePost E = Global → Bor E → LowerCtx → MutBor Builder → Bor (Option Binder) → Bor AstType_ → Checked TypeRefId → MutBor Builder → Type 0

abbrev pub ArgsPre : Type 0 → Type 1
ArgsPre E = Global → Bor E → LowerCtx → MutBor Builder → Bor AstGenericArgList → Type 0

abbrev pub ArgsPost : Type 0 → Type 1
ArgsPost E = Global → Bor E → LowerCtx → MutBor Builder → Bor AstGenericArgList → Checked (Option GenericArgs) → MutBor Builder → Type 0

-- the function may be called on the expression, and then does what `node` says
pub record Handles {E A : Type 0} (Has : Stored → A → Type 0) (node : Lowering A)
    (pre : Pre E) (post : Post E A) (env : E) (p : LowerCtx) (e : AstExpr) : Type 0 where
  pub callable : (alloc : Global) (v : Bor E) (old : MutBor Builder) (b : Bor AstExpr)
      → v.now ≡ env → b.now ≡ e → pre alloc v p old b
  pub lowers : (alloc : Global) (v : Bor E) (old new : MutBor Builder) (b : Bor AstExpr) (r : Checked A)
      → v.now ≡ env → b.now ≡ e → post alloc v p old b r new → Lowers Has node old.now r new.now

pub record HandlesBlock {E : Type 0} (answers : E → Answers)
    (pre : BlockPre E) (post : BlockPost E) (env : E) (p : LowerCtx) (b : AstBlockExpr) : Type 0 where
  pub callable : (alloc : Global) (v : Bor E) (old : MutBor Builder) (role : BlockRole) (n : Bor AstBlockExpr)
      → v.now ≡ env → n.now ≡ b → HasRole old.now.stored role → pre alloc v p old role n
  pub lowers : (alloc : Global) (v : Bor E) (old new : MutBor Builder) (role : BlockRole) (n : Bor AstBlockExpr)
      (r : Checked ExprId) → v.now ≡ env → n.now ≡ b → post alloc v p old role n r new
      → Lowers HasExpr (lower_inside role (resolved_plain (rctx_at (answers env) p) b)) old.now r new.now

pub record HandlesPath {E : Type 0} (answers : E → Answers)
    (pre : PathPre E) (post : PathPost E) (env : E) (p : LowerCtx) (x : AstPath) : Type 0 where
  pub callable : (alloc : Global) (v : Bor E) (old : MutBor Builder) (walk : PathWalk) (alone : Bool) (b : Bor AstPath)
      → v.now ≡ env → b.now ≡ x → HasWalk old.now.stored walk → pre alloc v p old walk alone b
  pub reads : (alloc : Global) (v : Bor E) (old new : MutBor Builder) (walk : PathWalk) (alone : Bool) (b : Bor AstPath)
      (r : Checked Reading) → v.now ≡ env → b.now ≡ x → post alloc v p old walk alone b r new
      → ReadsPath (resolved_path_as alone (rctx_at (answers env) p) x) walk old.now r new.now

pub record HandlesType {E : Type 0} (answers : E → Answers)
    (pre : TypePre E) (post : TypePost E) (env : E) (p : LowerCtx) (t : AstType_) : Type 0 where
  pub callable : (alloc : Global) (v : Bor E) (old : MutBor Builder) (binder : Bor (Option Binder)) (b : Bor AstType_)
      → v.now ≡ env → b.now ≡ t → pre alloc v p old binder b
  pub lowers : (alloc : Global) (v : Bor E) (old new : MutBor Builder) (binder : Bor (Option Binder)) (b : Bor AstType_)
      (r : Checked TypeRefId) → v.now ≡ env → b.now ≡ t → post alloc v p old binder b r new
      → LowersType binder.now (resolved_type (rctx_at (answers env) p) t) old.now r new.now

pub record HandlesArgs {E : Type 0} (answers : E → Answers)
    (pre : ArgsPre E) (post : ArgsPost E) (env : E) (p : LowerCtx) (l : AstGenericArgList) : Type 0 where
  pub callable : (alloc : Global) (v : Bor E) (old : MutBor Builder) (b : Bor AstGenericArgList)
      → v.now ≡ env → b.now ≡ l → pre alloc v p old b
  pub lowers : (alloc : Global) (v : Bor E) (old new : MutBor Builder) (b : Bor AstGenericArgList) (r : Checked (Option GenericArgs))
      → v.now ≡ env → b.now ≡ l → post alloc v p old b r new
      → LowersArgs (tree.some_arg_list (resolved_arg_list (rctx_at (answers env) p) l)) old.now r new.now

module _ {E : Type 0} (answers : E → Answers) where
  abbrev pub HandlesExpr : Pre E → Post E (Option ExprId) → E → LowerCtx → AstExpr → Type 0
  HandlesExpr pre post env p e = Handles HasExprOption (lower_kept (resolved_expr (rctx_at (answers env) p) e)) pre post env p e

  -- the expression of a constant that is written there, where it has one
  abbrev pub HandlesConstant : Pre E → Post E (Option ExprId) → E → LowerCtx → Option AstExpr → Type 0
  HandlesConstant pre post env p o = IfPresent (HandlesExpr pre post env (inside_constant p)) o

module _ {E : Type 0} (answers : E → Answers) where
  abbrev pub HandlesPat : PathPre E → PathPost E → E → LowerCtx → AstPat → Type 0
  HandlesPat pre post env = InPat (with_all_items (answers env)) (HandlesPath answers pre post env)

  abbrev pub HandlesTarget : Pre E → Post E (Option ExprId) → PathPre E → PathPost E → E → LowerCtx → AstExpr → Type 0
  HandlesTarget pre post path_pre path_post env =
      InTarget (with_all_items (answers env)) (HandlesExpr answers pre post env) (HandlesPath answers path_pre path_post env)

-- of macro calls
module _ {E : Type 0} (answers : E → Answers) where
  abbrev pub HandlesPatCall : PathPre E → PathPost E → E → LowerCtx → AstMacroCall → Type 0
  HandlesPatCall pre post env = InPatCall (with_all_items (answers env)) (HandlesPath answers pre post env)

  abbrev pub HandlesTargetCall : Pre E → Post E (Option ExprId) → PathPre E → PathPost E → E → LowerCtx → AstMacroCall → Type 0
  HandlesTargetCall pre post path_pre path_post env =
      InTargetCall (with_all_items (answers env)) (HandlesExpr answers pre post env) (HandlesPath answers path_pre path_post env)

  abbrev pub HandlesTypeCall : TypePre E → TypePost E → E → LowerCtx → AstMacroCall → Type 0
  HandlesTypeCall pre post env = InTypeCall (with_all_items (answers env)) (HandlesType answers pre post env)

  abbrev pub HandlesCall : Pre E → Post E (Option ExprId) → E → LowerCtx → AstMacroCall → Type 0
  HandlesCall pre post env = InCall (with_all_items (answers env)) (HandlesExpr answers pre post env)

  abbrev pub HandlesSplice : Pre E → Post E (Option ExprId) → BlockPre E → BlockPost E → PathPre E → PathPost E → TypePre E → TypePost E
      → E → LowerCtx → AstExpr → Type 0
  HandlesSplice pre post block_pre block_post path_pre path_post type_pre type_post env =
      InSplice (with_all_items (answers env)) (HandlesExpr answers pre post env) (HandlesBlock answers block_pre block_post env)
      (HandlesPath answers path_pre path_post env) (HandlesType answers type_pre type_post env)

-- what may be handed in to functions of which this is so, at a place
module _ {E : Type 0} (answers : E → Answers) (pre : Pre E) (post : Post E (Option ExprId)) (block_pre : BlockPre E)
    (block_post : BlockPost E) (path_pre : PathPre E) (path_post : PathPost E) (type_pre : TypePre E) (type_post : TypePost E)
    (args_pre : ArgsPre E) (args_post : ArgsPost E) (env : E) where
  abbrev pub Handled : LowerCtx → Claims
  Handled p = record {
    expr = HandlesExpr answers pre post env p;
    inner = HandlesExpr answers pre post env;
    block = HandlesBlock answers block_pre block_post env;
    path = HandlesPath answers path_pre path_post env;
    type_ = HandlesType answers type_pre type_post env;
    args = HandlesArgs answers args_pre args_post env;
    constant = HandlesConstant answers pre post env;
    pat = HandlesPat answers path_pre path_post env;
    target = HandlesTarget answers pre post path_pre path_post env;
    call = HandlesCall answers pre post env;
    pat_call = HandlesPatCall answers path_pre path_post env;
    target_call = HandlesTargetCall answers pre post path_pre path_post env;
    type_call = HandlesTypeCall answers type_pre type_post env;
    splice = HandlesSplice answers pre post block_pre block_post path_pre path_post type_pre type_post env;
  }
