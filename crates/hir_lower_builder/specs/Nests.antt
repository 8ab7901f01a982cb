-- The parts of one level of a tree.
use Rattle.std.specs.Prelude.{◌≡◌, ℕ, suc, codes, bytes_eq, Bool, true, false, List, Option, Some, None, Ok}
use Rattle.hir_base.specs.declared.node.HirFileId.{HirFileId}
use Rattle.hir_syntax.specs.declared.ast.Path.{Path as AstPath}
use Rattle.hir_syntax.specs.declared.ast.SegmentKind.{SegmentKind}
use Rattle.hir_syntax.specs.declared.ast.SegmentKind.TheVariants as kind
use Rattle.hir_syntax.specs.declared.ast.Name.{Name as AstName}
use Rattle.hir_syntax.specs.declared.ast.PathSegment.{PathSegment as AstSegment, out-PathSegment}
use Rattle.hir_syntax.specs.declared.types.BoundKind.{BoundKind}
use Rattle.hir_syntax.specs.declared.types.BoundKind.TheVariants as bound
use Rattle.hir_syntax.specs.declared.types.Type_.{Type_ as AstType_}
use Rattle.hir_syntax.specs.declared.types.Param.{Param as AstParam, out-Param}
use Rattle.hir_syntax.specs.declared.types.PathType.{PathType as AstPathType, out-PathType}
use Rattle.hir_syntax.specs.declared.types.TypeBound.{TypeBound as AstTypeBound, out-TypeBound}
use Rattle.hir_syntax.specs.declared.types.AssocTypeArg.{out-AssocTypeArg}
use Rattle.hir_syntax.specs.declared.types.GenericArg.{out-GenericArg}
use Rattle.hir_syntax.specs.declared.ast.ElseBranch.TheOpen.{GenericArg-F, TypeKind-F}
use Rattle.hir_syntax.specs.declared.ast.Expr.{Expr as AstExpr}
use Rattle.hir_syntax.specs.declared.ast.BlockExpr.{BlockExpr as AstBlockExpr, out-BlockExpr}
use Rattle.hir_syntax.specs.declared.ast.BlockModifier.{BlockModifier}
use Rattle.hir_syntax.specs.declared.ast.BlockModifier.TheVariants as modifier
use Rattle.hir_syntax.specs.declared.ast.RecordExprField.{RecordExprField as AstField, out-RecordExprField}
use Rattle.hir_syntax.specs.declared.ast.RecordExprFieldList.{out-RecordExprFieldList}
use Rattle.hir_syntax.specs.declared.ast.ExprKind.{out-ExprKind}
use Rattle.hir_syntax.specs.declared.ast.StmtKind.{out-StmtKind}
use Rattle.hir_syntax.specs.declared.ast.ElseBranch.{out-ElseBranch}
use Rattle.hir_syntax.specs.declared.ast.ElseBranch.TheOpen.{ElseBranch-F, ExprKind-F, StmtKind-F, PatKind-F}
use Rattle.hir_syntax.specs.declared.branches.MatchArm.{MatchArm as AstMatchArm, out-MatchArm}
use Rattle.hir_syntax.specs.declared.ast.Stmt.{Stmt as AstStmt}
use Rattle.hir_syntax.specs.declared.macros.MacroCall.{MacroCall as AstMacroCall}
use Rattle.hir_syntax.specs.declared.macros.MacroStmts.{MacroStmts as AstMacroStmts}
use Rattle.hir_syntax.specs.declared.macros.Fragment.TheVariants as fragment
use Rattle.hir_syntax.specs.declared.pats.Pat.{Pat as AstPat}
use Rattle.hir_syntax.specs.declared.pats.PatKind.{out-PatKind}
use Rattle.hir_syntax.specs.declared.pats.RecordPatField.{RecordPatField as AstPatField, out-RecordPatField}
pub use Rattle.hir_lower_scope.specs.Each.{Each, IfPresent}
use Rattle.hir_store.specs.declared.hir.CoroutineKind.TheVariants as coroutine
use Rattle.hir_env.specs.declared.expand.FragmentKind.TheVariants as fragment_kind
use Rattle.hir_env.specs.declared.ctx.LowerCtx.{LowerCtx}
use Rattle.hir_env.specs.Answers.{Eager, expanded}
use Rattle.hir_env.specs.Calls.{asked_call, inside_file}
use Rattle.hir_env.specs.Layers.{ElseBranchLayer, ExprKindLayer, StmtKindLayer, BlockExprLayer}
use Rattle.hir_env.specs.Layers.{RecordExprFieldLayer, RecordExprFieldListLayer, MatchArmLayer}
use Rattle.hir_env.specs.PatLayers.{PatKindLayer}
use Rattle.hir_env.specs.ResolveCtx.{ResolveCtx, site_of}
use Rattle.hir_env.specs.Wrapped.{AstConstArg, AstGuard, AstLetElse, AstRetType, AstTypeArg, AstParenArgs, AstGenericArgList}
use Rattle.hir_env.specs.Whole.{pointer_at, written}
use Rattle.hir_env.specs.Paths.{inside_closure, inside_const_block, inside_constant, inside_coroutine, inside_impl, inside_projection}
use Rattle.hir_env.specs.Paths.{outside_impl}
use Rattle.hir_env.specs.TypeLayers.{GenericArgLayer, TypeKindLayer, AssocTypeArgLayer, ParamLayer}
use Rattle.hir_env.specs.TypeLayers.{PathLayer, PathSegmentLayer, TypeBoundLayer}

-- what is claimed of the parts of each group, each of which may be read at another place than what it stands in
pub record Claims : Type 1 where
  -- of an expression, read where it stands, and at another place
  pub expr : AstExpr → Type 0
  pub inner : LowerCtx → AstExpr → Type 0
  pub block : LowerCtx → AstBlockExpr → Type 0
  pub path : LowerCtx → AstPath → Type 0
  pub type_ : LowerCtx → AstType_ → Type 0
  pub args : LowerCtx → AstGenericArgList → Type 0
  -- of the constant that is written there with this expression
  pub constant : LowerCtx → Option AstExpr → Type 0
  -- of a pattern, and of the assignee expression, wherever they are read
  pub pat : LowerCtx → AstPat → Type 0
  pub target : LowerCtx → AstExpr → Type 0
  -- of a macro call that is read there, as an expression, as a pattern, as the assignee expression or its callee, and as a type
  pub call : LowerCtx → AstMacroCall → Type 0
  pub pat_call : LowerCtx → AstMacroCall → Type 0
  pub target_call : LowerCtx → AstMacroCall → Type 0
  pub type_call : LowerCtx → AstMacroCall → Type 0
  -- of a call in statement or tail place, by the whole expression: where a condition disables that, the call isn't entered
  pub splice : LowerCtx → AstExpr → Type 0

-- the same of parts that stand at another place
abbrev pub claims_at : Claims → LowerCtx → Claims
claims_at C at = record C { expr = C.inner at }

-- what may be handed in may be so, too, where the parts stand at that place
pub record Moved (C D : Claims) (at : LowerCtx) : Type 0 where
  pub expr : (e : AstExpr) → C.inner at e → D.expr e
  pub inner : (q : LowerCtx) (e : AstExpr) → C.inner q e → D.inner q e
  pub block : (q : LowerCtx) (b : AstBlockExpr) → C.block q b → D.block q b
  pub path : (q : LowerCtx) (x : AstPath) → C.path q x → D.path q x
  pub type_ : (q : LowerCtx) (t : AstType_) → C.type_ q t → D.type_ q t
  pub args : (q : LowerCtx) (l : AstGenericArgList) → C.args q l → D.args q l
  pub constant : (q : LowerCtx) (o : Option AstExpr) → C.constant q o → D.constant q o
  pub pat : (q : LowerCtx) (x : AstPat) → C.pat q x → D.pat q x
  pub target : (q : LowerCtx) (e : AstExpr) → C.target q e → D.target q e
  pub call : (q : LowerCtx) (c : AstMacroCall) → C.call q c → D.call q c
  pub pat_call : (q : LowerCtx) (c : AstMacroCall) → C.pat_call q c → D.pat_call q c
  pub target_call : (q : LowerCtx) (c : AstMacroCall) → C.target_call q c → D.target_call q c
  pub type_call : (q : LowerCtx) (c : AstMacroCall) → C.type_call q c → D.type_call q c
  pub splice : (q : LowerCtx) (e : AstExpr) → C.splice q e → D.splice q e

-- a constant that is absent has no expression
abbrev pub const_expr : Option AstConstArg → Option AstExpr
const_expr None = None
const_expr (Some x) = x

-- nothing where it isn't read
abbrev pub Unless : Bool → Type 0 → Type 0
Unless true K = Unit {0}
Unless false K = K

-- of a side of a range, which has a path at most
module _ (path : AstPath → Type 0) where
  abbrev pub KidsSide : PatKindLayer written → Type 0
  KidsSide (PatKind-F.PathPat x) = IfPresent path x
  KidsSide _ = Unit {0}

  abbrev pub KidsSidePart : Option AstPat → Type 0
  KidsSidePart p = IfPresent (λ x. KidsSide (out-PatKind x.kind)) p

-- of the fields of a record pattern
abbrev pub KidsPatFields : (AstPat → Type 0) → List AstPatField → Type 0
KidsPatFields pattern fs = Each (λ f. IfPresent pattern (out-RecordPatField f).pat) fs

-- of the parts of a pattern, of what is claimed of patterns, of paths and of calls
module _ (pattern : AstPat → Type 0) (path : AstPath → Type 0) (call : AstMacroCall → Type 0) where
  abbrev pub KidsOfPat : PatKindLayer written → Type 0
  KidsOfPat (PatKind-F.IdentPat n is_ref is_mut p) = IfPresent pattern p
  KidsOfPat (PatKind-F.TupleStructPat x comma ps) = IfPresent path x × Each pattern ps
  KidsOfPat (PatKind-F.TuplePat comma ps) = Each pattern ps
  KidsOfPat (PatKind-F.RefPat is_mut p) = IfPresent pattern p
  KidsOfPat (PatKind-F.PathPat x) = IfPresent path x
  KidsOfPat (PatKind-F.OrPat ps) = Each pattern ps
  KidsOfPat (PatKind-F.ParenPat p) = IfPresent pattern p
  KidsOfPat (PatKind-F.BoxPat p) = IfPresent pattern p
  KidsOfPat (PatKind-F.DerefPat p) = IfPresent pattern p
  KidsOfPat (PatKind-F.RecordPat x fs dots) = IfPresent path x × KidsPatFields pattern fs
  KidsOfPat (PatKind-F.SlicePat before p after) = Each pattern before × IfPresent pattern p × Each pattern after
  KidsOfPat (PatKind-F.RangePat op low high) = KidsSidePart path low × KidsSidePart path high
  KidsOfPat (PatKind-F.MacroPat c) = IfPresent call c
  KidsOfPat _ = Unit {0}

abbrev pub KidsPat : Claims → LowerCtx → PatKindLayer written → Type 0
KidsPat C at k = KidsOfPat (C.pat at) (C.path at) (C.pat_call at) k

-- Of the parts of the assignee expression. A callee is one, though a path at most is read of it, behind whatever calls.
module _ (C : Claims) (at : LowerCtx) where
  abbrev pub KidsTargetFields : RecordExprFieldListLayer written → Type 0
  KidsTargetFields x = Each (λ f. IfPresent (C.target at) (out-RecordExprField f).expr) x.fields

  abbrev pub KidsTarget : ExprKindLayer written → Type 0
  KidsTarget (ExprKind-F.ParenExpr e) = IfPresent (C.target at) e
  KidsTarget (ExprKind-F.TupleExpr comma es) = Each (C.target at) es
  KidsTarget (ExprKind-F.ArrayExpr es) = Each (C.target at) es
  KidsTarget (ExprKind-F.CallExpr f es) = IfPresent (C.target at) f × IfPresent (Each (C.target at)) es
  KidsTarget (ExprKind-F.PathExpr x) = IfPresent (C.path at) x
  KidsTarget (ExprKind-F.RecordExpr x l) = IfPresent (C.path at) x × IfPresent (λ r. KidsTargetFields (out-RecordExprFieldList r)) l
  KidsTarget (ExprKind-F.MacroExpr c) = IfPresent (C.target_call at) c
  KidsTarget _ = Unit {0}

-- What may be handed in may be gone into, and the assignee expression may be a place that is read here. What a call stands for may be one
-- where that is read: there the parts are read, once they are moved.
module _ {Self : Type 0} (can : Self → Claims) where
  abbrev pub PatsNest : Type 0
  PatsNest = (it : Self) (at : LowerCtx) (p : AstPat) → (can it).pat at p → KidsPat (can it) at (out-PatKind p.kind)

  abbrev pub TargetsNest : Type 0
  TargetsNest = (it : Self) (at : LowerCtx) (e : AstExpr) → (can it).target at e → KidsTarget (can it) at (out-ExprKind e.kind)

  abbrev pub TargetsArePlaces : (Self → ResolveCtx) → Type 0
  TargetsArePlaces rctx = (it : Self) (e : AstExpr) → (can it).target (rctx it).place e → (can it).expr e

abbrev pub KidsGuard : Claims → AstGuard → Type 0
KidsGuard C g = IfPresent C.expr g

-- of what is read at this place
module _ (C : Claims) (at : LowerCtx) where
  -- of an `else` behind a `let`
  abbrev pub KidsLetElse : AstLetElse → Type 0
  KidsLetElse e = IfPresent (C.block at) e

  abbrev pub KidsElse : ElseBranchLayer written → Type 0
  KidsElse (ElseBranch-F.ElseBlock b) = C.block at b
  KidsElse (ElseBranch-F.ElseIf e) = C.expr e

  -- the value of a field without a name isn't read
  abbrev pub KidsField : RecordExprFieldLayer written → Type 0
  KidsField x = IfPresent (λ n. IfPresent C.expr x.expr) x.name

  abbrev pub KidsFields : List AstField → Type 0
  KidsFields fs = Each (λ x. KidsField (out-RecordExprField x)) fs

  abbrev pub KidsRecord : RecordExprFieldListLayer written → Type 0
  KidsRecord x = KidsFields x.fields × IfPresent C.expr x.spread

  abbrev pub KidsArm : MatchArmLayer written → Type 0
  KidsArm a = IfPresent (C.pat at) a.pat × IfPresent C.expr a.expr × IfPresent (KidsGuard C) a.guard

  abbrev pub KidsArms : List AstMatchArm → Type 0
  KidsArms as' = Each (λ a. KidsArm (out-MatchArm a)) as'

  -- of a block that is read as an expression; the type of a `try` is read outside of it
  abbrev pub KidsBody : AstBlockExpr → Type 0
  KidsBody b = by (out-BlockExpr b).mod_
    where
      by : Option BlockModifier → Type 0
      by (Some modifier.Try) = C.block at b × IfPresent (C.type_ at) (out-BlockExpr b).ty
      by (Some modifier.Const) = C.block (inside_const_block at) b
      by (Some modifier.Async) = C.block (inside_coroutine coroutine.Async at) b
      by (Some modifier.Gen) = C.block (inside_coroutine coroutine.Gen at) b
      by (Some modifier.AsyncGen) = C.block (inside_coroutine coroutine.AsyncGen at) b
      by _ = C.block at b

  abbrev pub KidsRet : AstRetType → Type 0
  KidsRet x = IfPresent (C.type_ at) x

  -- of a parameter of a closure
  abbrev pub KidsClosureParam : ParamLayer written → Type 0
  KidsClosureParam x = IfPresent (C.pat at) x.pat × IfPresent (C.type_ at) x.ty

  abbrev pub KidsClosureParams : List AstParam → Type 0
  KidsClosureParams ps = Each (λ x. KidsClosureParam (out-Param x)) ps

  abbrev pub KidsExpr : ExprKindLayer written → Type 0
  KidsExpr (ExprKind-F.IfExpr c t e) = IfPresent C.expr c × IfPresent (C.block at) t × IfPresent (λ x. KidsElse (out-ElseBranch x)) e
  KidsExpr (ExprKind-F.BlockExpr b) = KidsBody b
  KidsExpr (ExprKind-F.LoopExpr l b) = IfPresent (C.block at) b
  KidsExpr (ExprKind-F.WhileExpr l c b) = IfPresent C.expr c × IfPresent (C.block at) b
  KidsExpr (ExprKind-F.ForExpr l p h b) = IfPresent (C.pat at) p × IfPresent C.expr h × IfPresent KidsBody b
  KidsExpr (ExprKind-F.TryExpr e) = IfPresent C.expr e
  KidsExpr (ExprKind-F.PathExpr x) = IfPresent (C.path at) x
  KidsExpr (ExprKind-F.CallExpr f es) = IfPresent C.expr f × IfPresent (Each C.expr) es
  KidsExpr (ExprKind-F.BreakExpr l e) = IfPresent C.expr e
  KidsExpr (ExprKind-F.ParenExpr e) = IfPresent C.expr e
  KidsExpr (ExprKind-F.MethodCallExpr e n as' es) = IfPresent C.expr e × IfPresent (C.args at) as' × IfPresent (Each C.expr) es
  KidsExpr (ExprKind-F.FieldExpr e n) = IfPresent C.expr e
  KidsExpr (ExprKind-F.PrefixExpr o e) = IfPresent C.expr e
  KidsExpr (ExprKind-F.BinExpr o a b) = IfPresent C.expr a × IfPresent C.expr b × IfPresent (C.target at) a
  KidsExpr (ExprKind-F.IndexExpr a b) = IfPresent C.expr a × IfPresent C.expr b
  KidsExpr (ExprKind-F.RefExpr r m e) = IfPresent C.expr e
  KidsExpr (ExprKind-F.TupleExpr comma es) = Each C.expr es
  KidsExpr (ExprKind-F.ArrayExpr es) = Each C.expr es
  KidsExpr (ExprKind-F.RepeatExpr e n) = IfPresent C.expr e × C.constant at n
  KidsExpr (ExprKind-F.ClosureExpr ps r e is_async is_gen moves is_static) =
      IfPresent KidsClosureParams ps × IfPresent KidsRet r × IfPresent (C.inner (inside_closure is_async at)) e
  KidsExpr (ExprKind-F.ReturnExpr e) = IfPresent C.expr e
  KidsExpr (ExprKind-F.BecomeExpr e) = IfPresent C.expr e
  KidsExpr (ExprKind-F.YieldExpr e) = IfPresent C.expr e
  KidsExpr (ExprKind-F.YeetExpr e) = IfPresent C.expr e
  KidsExpr (ExprKind-F.AwaitExpr e) = IfPresent C.expr e
  KidsExpr (ExprKind-F.CastExpr e t) = IfPresent C.expr e × IfPresent (C.type_ at) t
  KidsExpr (ExprKind-F.RecordExpr x l) = IfPresent (C.path at) x × IfPresent (λ r. KidsRecord (out-RecordExprFieldList r)) l
  KidsExpr (ExprKind-F.OffsetOfExpr t ns) = IfPresent (C.type_ at) t
  KidsExpr (ExprKind-F.LetExpr p e) = IfPresent (C.pat at) p × IfPresent C.expr e
  KidsExpr (ExprKind-F.MatchExpr e as') = IfPresent C.expr e × IfPresent KidsArms as'
  KidsExpr (ExprKind-F.RangeExpr o a b) = IfPresent C.expr a × IfPresent C.expr b
  KidsExpr (ExprKind-F.MacroExpr c) = IfPresent (C.call at) c
  KidsExpr _ = Unit {0}

  -- of an expression of this kind in statement or tail place
  abbrev pub KidsOfValue : ExprKindLayer written → AstExpr → Type 0
  KidsOfValue (ExprKind-F.MacroExpr c) e = C.splice at e
  KidsOfValue _ e = C.expr e

  abbrev pub KidsValue : AstExpr → Type 0
  KidsValue e = KidsOfValue (out-ExprKind e.kind) e

  abbrev pub KidsStmt : StmtKindLayer written → Type 0
  KidsStmt (StmtKind-F.LetStmt p t e b) =
      IfPresent (C.pat at) p × IfPresent (C.type_ at) t × IfPresent C.expr e × IfPresent KidsLetElse b
  KidsStmt (StmtKind-F.ExprStmt e semi) = IfPresent KidsValue e
  KidsStmt (StmtKind-F.MacroRules n) = Unit {0}
  KidsStmt (StmtKind-F.MacroDef n) = Unit {0}
  KidsStmt StmtKind-F.Item = Unit {0}

  -- of statements, and of what stands behind them
  pub record KidsRun (ss : List AstStmt) (e : Option AstExpr) : Type 0 where
    pub stmts : Each (λ s. KidsStmt (out-StmtKind s.kind)) ss
    pub tail : IfPresent KidsValue e

  abbrev pub KidsBlock : BlockExprLayer written → Type 0
  KidsBlock b = KidsRun b.stmts b.tail

  -- types and paths; nothing is claimed of what isn't read

  abbrev pub KidsTypeArg : AstTypeArg → Type 0
  KidsTypeArg x = IfPresent (C.type_ at) x

  -- the type of a variadic parameter isn't read
  abbrev pub KidsParam : ParamLayer written → Type 0
  KidsParam x = Unless x.variadic (IfPresent (C.type_ at) x.ty)

  abbrev pub KidsTrait : AstPathType → Type 0
  KidsTrait t = IfPresent (C.path at) (out-PathType t).path

  abbrev pub KidsBound : TypeBoundLayer written → Type 0
  KidsBound b = by b.b b.ty
    where
      by : Option BoundKind → Option AstPathType → Type 0
      by (Some bound.Path) (Some t) = KidsTrait t
      by _ t = Unit {0}

  abbrev pub KidsBounds : List AstTypeBound → Type 0
  KidsBounds bs = Each (λ b. KidsBound (out-TypeBound b)) bs

module _ (C : Claims) (at : LowerCtx) where
  pub record KidsBinding (a : AssocTypeArgLayer written) : Type 0 where
    pub args : IfPresent (C.args at) a.generics
    pub type_ : IfPresent (C.type_ at) a.ty
    pub bounds : KidsBounds C at a.bounds

module _ (C : Claims) (at : LowerCtx) where
  -- a binding with a parameter list, and one without a name, isn't read
  abbrev pub KidsAssoc : AssocTypeArgLayer written → Type 0
  KidsAssoc a = Unless a.params (IfPresent (λ n. KidsBinding C (outside_impl at) a) a.name)

  -- the bounds of an `impl` inside of another one aren't read
  abbrev pub KidsImpl : List AstTypeBound → Type 0
  KidsImpl bs = Unless at.in_impl (KidsBounds C (inside_impl at) bs)

  abbrev pub KidsType : TypeKindLayer written → Type 0
  KidsType (TypeKind-F.ParenType t) = IfPresent (C.type_ at) t
  KidsType (TypeKind-F.SliceType t) = IfPresent (C.type_ at) t
  KidsType (TypeKind-F.ArrayType t c) = C.constant at (const_expr c) × IfPresent (C.type_ at) t
  KidsType (TypeKind-F.TupleType ts) = Each (C.type_ at) ts
  KidsType (TypeKind-F.PathType x) = IfPresent (C.path at) x
  KidsType (TypeKind-F.PtrType m t) = IfPresent (C.type_ at) t
  KidsType (TypeKind-F.RefType l m t) = IfPresent (C.type_ at) t
  KidsType (TypeKind-F.FnPtrType is_unsafe text ps r) =
      IfPresent (Each (λ x. KidsParam C at (out-Param x))) ps × IfPresent (KidsRet C at) r
  KidsType (TypeKind-F.ForType b t) = IfPresent (C.type_ at) t
  KidsType (TypeKind-F.ImplTraitType bs) = KidsImpl bs
  KidsType (TypeKind-F.DynTraitType bs) = KidsBounds C at bs
  KidsType (TypeKind-F.PatternType t p) = IfPresent (C.type_ at) t × IfPresent (C.pat (inside_constant at)) p
  KidsType (TypeKind-F.MacroType c) = IfPresent (C.type_call at) c
  KidsType TypeKind-F.NeverType = Unit {0}
  KidsType TypeKind-F.InferType = Unit {0}

  abbrev pub KidsArg : GenericArgLayer written → Type 0
  KidsArg (GenericArg-F.TypeArg x) = KidsTypeArg C at x
  KidsArg (GenericArg-F.AssocTypeArg x) = KidsAssoc (out-AssocTypeArg x)
  KidsArg (GenericArg-F.LifetimeArg x) = Unit {0}
  KidsArg (GenericArg-F.ConstArg x) = C.constant at x

  abbrev pub KidsArgs : AstGenericArgList → Type 0
  KidsArgs l = Each (λ a. KidsArg (out-GenericArg a)) l

  -- what `(A) -> C` has; an output without `(A)` isn't read
  abbrev pub KidsParens : Option AstParenArgs → Option AstRetType → Type 0
  KidsParens None r = Unit {0}
  KidsParens (Some x) r = Each (KidsTypeArg C at) x × IfPresent (KidsRet C at) r

  abbrev pub KidsSegmentArgs : PathSegmentLayer written → Type 0
  KidsSegmentArgs s = IfPresent (C.args at) s.generics × KidsParens s.parens s.ret

  -- a name's, where it isn't `$crate`
  abbrev pub KidsName : Option AstName → PathSegmentLayer written → Type 0
  KidsName None s = Unit {0}
  KidsName (Some n) s = Unless (bytes_eq n.t (codes "$crate")) (KidsSegmentArgs s)

  abbrev pub KidsQualified : Option AstType_ → Option AstPathType → Type 0
  KidsQualified None t = Unit {0}
  KidsQualified (Some x) t = C.type_ (inside_projection at) x × IfPresent (KidsTrait C (inside_projection at)) t

  abbrev pub KidsSegment : PathSegmentLayer written → Type 0
  KidsSegment s = by s.seg
    where
      by : Option SegmentKind → Type 0
      by (Some kind.Name) = KidsName s.name s
      by (Some kind.Qualified) = KidsQualified s.ty s.trait_
      by _ = Unit {0}

  abbrev pub KidsPresent : Option AstSegment → Type 0
  KidsPresent s = IfPresent (λ x. KidsSegment (out-PathSegment x)) s

  abbrev pub KidsSegments : List (Option AstSegment) → Type 0
  KidsSegments ss = Each KidsPresent ss

  abbrev pub KidsPath : PathLayer written → Type 0
  KidsPath x = KidsSegments x.segs × IfPresent (C.path at) x.use_

-- what a call stands for may be handed in where the call is entered
module _ {Self : Type 0} (can : Self → Claims) (rctx : Self → ResolveCtx) where
  abbrev pub CallsNest : Type 0
  CallsNest = (it : Self) (c : AstMacroCall) (n : ℕ) (f : HirFileId) (e : AstExpr) (es : List Eager)
      → (can it).call (rctx it).place c → (rctx it).place.left ≡ suc n
      → asked_call (rctx it).answers fragment_kind.Expr c (rctx it).place ≡ expanded f (Some (fragment.Expr e)) es
      → (can it).inner (inside_file f n (rctx it).place) e

  abbrev pub PatCallsNest : Type 0
  PatCallsNest = (it : Self) (c : AstMacroCall) (n : ℕ) (f : HirFileId) (x : AstPat) (es : List Eager)
      → (can it).pat_call (rctx it).place c → (rctx it).place.left ≡ suc n
      → asked_call (rctx it).answers fragment_kind.Pat c (rctx it).place ≡ expanded f (Some (fragment.Pat x)) es
      → (can it).pat (inside_file f n (rctx it).place) x

  abbrev pub TargetCallsNest : Type 0
  TargetCallsNest = (it : Self) (c : AstMacroCall) (n : ℕ) (f : HirFileId) (e : AstExpr) (es : List Eager)
      → (can it).target_call (rctx it).place c → (rctx it).place.left ≡ suc n
      → asked_call (rctx it).answers fragment_kind.Expr c (rctx it).place ≡ expanded f (Some (fragment.Expr e)) es
      → (can it).target (inside_file f n (rctx it).place) e

  abbrev pub TypeCallsNest : Type 0
  TypeCallsNest = (it : Self) (c : AstMacroCall) (n : ℕ) (f : HirFileId) (t : AstType_) (es : List Eager)
      → (can it).type_call (rctx it).place c → (rctx it).place.left ≡ suc n
      → asked_call (rctx it).answers fragment_kind.Type_ c (rctx it).place ≡ expanded f (Some (fragment.Type_ t)) es
      → (can it).type_ (inside_file f n (rctx it).place) t

  -- of one in statement or tail place, where the expression is enabled, the statements and what stands behind them
  abbrev pub SplicesNest : Type 0
  SplicesNest = (it : Self) (e : AstExpr) (c : AstMacroCall) (n : ℕ) (f : HirFileId) (ms : AstMacroStmts) (es : List Eager)
      → (can it).splice (rctx it).place e → out-ExprKind e.kind ≡ ExprKind-F.MacroExpr (Some c)
      → (rctx it).answers.cfg (site_of (pointer_at (rctx it) e.id e.range)) ≡ Ok tt → (rctx it).place.left ≡ suc n
      → asked_call (rctx it).answers fragment_kind.Stmts c (rctx it).place ≡ expanded f (Some (fragment.Stmts ms)) es
      → let at = inside_file f n (rctx it).place in KidsRun (claims_at (can it) at) at ms.stmts ms.expr
