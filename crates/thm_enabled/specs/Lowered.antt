-- Lowering doesn't look inside of what is disabled, so what is asked there doesn't matter to it.
use Rattle.std.specs.Prelude.{◌≡◌, Bool, true, List, [], ◌∷◌, Option, Some, is_some}
use Rattle.hir_syntax.specs.declared.ast.BlockExpr.{BlockExpr as AstBlockExpr, out-BlockExpr}
use Rattle.hir_syntax.specs.declared.ast.Expr.{Expr as AstExpr}
use Rattle.hir_syntax.specs.declared.ast.Name.{Name as AstName}
use Rattle.hir_syntax.specs.declared.ast.Path.{Path as AstPath, out-Path}
use Rattle.hir_syntax.specs.declared.params.ParamList.{ParamList as AstParamList}
use Rattle.hir_syntax.specs.declared.params.SelfParam.{SelfParam as AstSelfParam}
use Rattle.hir_syntax.specs.declared.pats.Pat.{Pat as AstPat}
use Rattle.hir_syntax.specs.declared.types.Param.{Param as AstParam, out-Param}
use Rattle.hir_syntax.specs.declared.types.Type_.{Type_ as AstType_}
use Rattle.hir_store.specs.Pointers.{Pointer}
use Rattle.hir_store.specs.declared.hir.CoroutineKind.{CoroutineKind}
use Rattle.hir_store.specs.declared.ids.CfgId.{CfgId}
use Rattle.hir_store.specs.declared.ids.DefWithBodyId.{DefWithBodyId}
use Rattle.hir_store.specs.declared.ids.ItemContainerId.{ItemContainerId}
use Rattle.hir_env.specs.ResolvedTree as tree
use Rattle.hir_env.specs.ResolvedTree.{Binder, Expr, Field, Formals, Guard, OptionBlock, OptionExpr, OptionPat, OptionType, Params, Path}
use Rattle.hir_env.specs.ResolvedTree.{Type_}
use Rattle.hir_env.specs.Answers.{Answers}
use Rattle.hir_env.specs.Formals.{are_bare}
use Rattle.hir_env.specs.Layers.{Defined, ExprKindLayer, written}
use Rattle.hir_env.specs.Whole.{resolved_expr, resolved_path, resolved_type}
use Rattle.hir_env.specs.Wrapped.{AstGuard, AstLetElse}
use Rattle.hir_env.specs.declared.ctx.LowerCtx.{LowerCtx}
use Rattle.thm_frame.specs.Theorems.{BodyRead, body_at, with_limit, rctx}
use Rattle.thm_frame.specs.Questions.{AllAlike, of_cfg}
use Rattle.thm_reading.specs.Formals as formal
use Rattle.thm_reading.specs.Formals.{FormalsAs}
use Rattle.thm_reading.specs.LowerCtx.{IsDisabled, block_node, expr_kind, expr_node, node, param_node, site, type_kind, type_node}
use Rattle.thm_reading.specs.Rules as rule
use Rattle.thm_reading.specs.Rules.{ExprAs, ExprKindAs, FieldPartAs, GuardAs, LetElseAs, OptExprAs, OptPatAs, OptTypeAs, OwnAs}
use Rattle.thm_reading.specs.Rules.{ParamsAs, PathAs, TypeKindAs}
use Rattle.thm_reading.specs.Shapes.{is_call}
use Rattle.thm_enabled.specs.Asked.{asked_arm, asked_expr, asked_field, asked_for_body, asked_params, asked_stmt, asked_value}
use Rattle.thm_enabled.specs.Asks.{listed}
use Rattle.thm_enabled.specs.Body.{asked_body, asked_formal, asked_self}
use Rattle.thm_enabled.specs.Pruned.{pruned, pruned_part}
use Rattle.thm_enabled.specs.Whole.{whole_path, whole_type_kind}
use Rattle.hir_lower_builder.specs.Lower.{ExprSteps, lower, lower_part, lower_path, lower_type}
use Rattle.thm_body_result.specs.Formals.{lower_body}

-- It makes of a tree what it makes of the pruned one.
abbrev pub ExprsPruned : Type 0
ExprsPruned = (e : Expr) → lower (pruned e) ≡ lower e

abbrev pub PartsPruned : Type 0
PartsPruned = (e : OptionExpr) → lower_part (pruned_part e) ≡ lower_part e

-- Of what is disabled the list has the condition alone: of an expression, a call that stands for statements, a `let`, a definition of a
-- macro, a field, an arm, the body of a `for`, a parameter of a body, its `self`, and a parameter of a closure, behind which the others
-- follow.
abbrev pub OfDisabledExprs : Type 0
OfDisabledExprs = (a : Answers) (p : LowerCtx) (s : Pointer) (k : ExprKindLayer written) (x : Expr) (by : CfgId) (is : IsDisabled a s by)
    (h : ExprKindAs a p s k x) → listed (asked_expr a (rule.disabled {s = s} is h)) ≡ of_cfg (site s) ∷ []

abbrev pub OfDisabledLets : Type 0
OfDisabledLets = (a : Answers) (p : LowerCtx) (s : Pointer) (q : Option AstPat) (t : Option AstType_) (e : Option AstExpr)
    (b : Option AstLetElse) (d : Defined) (x : OptionPat) (y : OptionType) (z : OptionExpr) (v : OptionBlock) (by : CfgId)
    (is : IsDisabled a s by) (h : OptPatAs a p q x) (k : OptTypeAs a p t y) (l : OptExprAs a p e z) (m : LetElseAs a p b v)
    → listed (asked_stmt a (rule.disabled_let {s = s} {d = d} is h k l m)) ≡ of_cfg (site s) ∷ []

abbrev pub OfDisabledFields : Type 0
OfDisabledFields = (a : Answers) (p : LowerCtx) (s : Pointer) (n : Option AstName) (e : Option AstExpr) (x : Field) (by : CfgId)
    (is : IsDisabled a s by) (h : FieldPartAs a p s n e x)
    → listed (asked_field a (rule.disabled_field {s = s} is h)) ≡ of_cfg (site s) ∷ []

abbrev pub OfDisabledArms : Type 0
OfDisabledArms = (a : Answers) (p : LowerCtx) (s : Pointer) (q : Option AstPat) (g : Option AstGuard) (e : Option AstExpr) (x : OptionPat)
    (y : Guard) (z : OptionExpr) (by : CfgId) (is : IsDisabled a s by) (h : OptPatAs a p q x) (k : GuardAs a p g y)
    (l : OptExprAs a p e z) → listed (asked_arm a (rule.disabled_arm {s = s} is h k l)) ≡ of_cfg (site s) ∷ []

abbrev pub OfDisabledDefinitions : Type 0
OfDisabledDefinitions = (a : Answers) (p : LowerCtx) (s : Pointer) (n : Option AstName) (d : Defined) (by : CfgId) (is : IsDisabled a s by)
    → listed (asked_stmt a (rule.disabled_def {p = p} {s = s} {n = n} {d = d} is)) ≡ of_cfg (site s) ∷ []

abbrev pub OfDisabledRules : Type 0
OfDisabledRules = (a : Answers) (p : LowerCtx) (s : Pointer) (n : Option AstName) (d : Defined) (by : CfgId) (is : IsDisabled a s by)
    → listed (asked_stmt a (rule.disabled_rules {p = p} {s = s} {n = n} {d = d} is)) ≡ of_cfg (site s) ∷ []

abbrev pub OfDisabledValues : Type 0
OfDisabledValues = (a : Answers) (p : LowerCtx) (s : Pointer) (k : ExprKindLayer written) (d : Defined) (by : CfgId)
    (call : is_call k ≡ true) (is : IsDisabled a s by)
    → listed (asked_value a (rule.disabled_value {p = p} {s = s} {k = k} {d = d} call is)) ≡ of_cfg (site s) ∷ []

abbrev pub OfDisabledSelves : Type 0
OfDisabledSelves = (a : Answers) (p : LowerCtx) (x : AstSelfParam) (by : CfgId) (is : IsDisabled a (node p x.id x.range) by)
    → listed (asked_self a (formal.disabled_self {p = p} {x = x} is)) ≡ of_cfg (site (node p x.id x.range)) ∷ []

abbrev pub OfDisabledFormals : Type 0
OfDisabledFormals = (a : Answers) (p : LowerCtx) (bare : Bool) (x : AstParam) (by : CfgId) (is : IsDisabled a (param_node p x) by)
    → listed (asked_formal a (formal.disabled_formal {p = p} {bare = bare} {x = x} is)) ≡ of_cfg (site (param_node p x)) ∷ []

abbrev pub OfDisabledBodies : Type 0
OfDisabledBodies = (a : Answers) (p : LowerCtx) (b : AstBlockExpr) (x : Expr) (by : CfgId) (is : IsDisabled a (block_node p b) by)
    (h : OwnAs a p (out-BlockExpr b).mod_ (out-BlockExpr b) x)
    → listed (asked_for_body a (rule.disabled_body {p = p} {b = b} is h)) ≡ of_cfg (site (block_node p b)) ∷ []

abbrev pub OfDisabledParams : Type 0
OfDisabledParams =
    (a : Answers) (p : LowerCtx) (x : AstParam) (xs : List AstParam) (q : OptionPat) (t : OptionType) (ys : Params) (by : CfgId)
    (is : IsDisabled a (param_node p x) by) (h : OptPatAs a p (out-Param x).pat q) (k : OptTypeAs a p (out-Param x).ty t)
    (l : ParamsAs a p (Some xs) ys) → listed (asked_params a (rule.disabled_param {p = p} {x = x} is h k l))
    ≡ of_cfg (site (param_node p x)) ∷ listed (asked_params a l)

-- It makes the same of what is read with the answers of two environments that answer alike what is asked: of types and paths all of it, and
-- of expressions outside of what is disabled.
abbrev pub TypesKept : Type 0
TypesKept = (a b : Answers) (p : LowerCtx) (t : AstType_) (x : Type_) (h : TypeKindAs a p (type_node p t) (type_kind t) x)
    → AllAlike a b (listed (whole_type_kind a h)) → (binder : Option Binder) → lower_type binder x
    ≡ lower_type binder (resolved_type (rctx p b) t)

abbrev pub PathsKept : Type 0
PathsKept = (a b : Answers) (p : LowerCtx) (x : AstPath) (y : Path)
    (h : PathAs a p (out-Path x).in_macro (out-Path x).leading (out-Path x).segs (out-Path x).use_ y)
    → AllAlike a b (listed (whole_path a h)) → lower_path (tree.some_path y) ≡ lower_path (tree.some_path (resolved_path (rctx p b) x))

abbrev pub ExprsKept : Type 0
ExprsKept = (a b : Answers) (p : LowerCtx) (e : AstExpr) (x : Expr) (h : ExprAs a p (expr_node p e) (expr_kind e) x)
    → AllAlike a b (listed (asked_expr a h)) → lower x ≡ lower (resolved_expr (rctx p b) e)

-- All that the description of a body says of the environment: whether it is skipped, what it stands in, its parameters, and the steps of
-- what is read of it.
pub record BodySteps : Type 0 where
  pub skipped : Bool
  pub container : ItemContainerId
  pub formals : Formals
  pub steps : ExprSteps

abbrev pub steps_of : BodyRead → BodySteps
steps_of r = record { skipped = r.skipped; container = r.container; formals = r.formals; steps = lower_part r.read }

abbrev pub BodiesKept : Type 0
BodiesKept = (a b : Answers) (item : DefWithBodyId) (p q : LowerCtx) (ps : Option AstParamList) (e : Option AstExpr) (fs : Formals)
    (x : OptionExpr) (h : FormalsAs a (with_limit q a) (are_bare (a.container item) (is_some e)) ps fs)
    (k : OptExprAs a (with_limit p a) e x)
    → AllAlike a b (listed (asked_body a item h k))
    → steps_of (record { skipped = a.skip item; container = a.container item; formals = fs; read = x }) ≡ steps_of (body_at b item p q ps e)

-- and so are all steps that lower the body with its parameters
abbrev pub BodiesLowered : Type 0
BodiesLowered = (a b : Answers) (item : DefWithBodyId) (p q : LowerCtx) (ps : Option AstParamList) (e : Option AstExpr) (fs : Formals)
    (x : OptionExpr) (h : FormalsAs a (with_limit q a) (are_bare (a.container item) (is_some e)) ps fs)
    (k : OptExprAs a (with_limit p a) e x)
    → AllAlike a b (listed (asked_body a item h k)) → (kind : Option CoroutineKind) → (let r = body_at b item p q ps e in
    lower_body kind (a.skip item) fs x ≡ lower_body kind r.skipped r.formals r.read)
