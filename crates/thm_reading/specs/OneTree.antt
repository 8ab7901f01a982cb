-- The rules allow one tree alone, of each written part, wherever it stands. With what is read as the rules allow, they allow just that.
use Rattle.std.specs.Prelude.{◌≡◌, Bool, List, Option, None}
use Rattle.hir_base.specs.declared.op.RangeOp.{RangeOp}
use Rattle.hir_syntax.specs.declared.ast.BlockModifier.{BlockModifier}
use Rattle.hir_syntax.specs.declared.ast.Path.{Path as AstPath}
use Rattle.hir_syntax.specs.declared.ast.PathSegment.{PathSegment as AstPathSegment}
use Rattle.hir_syntax.specs.declared.params.ParamList.{ParamList as AstParamList}
use Rattle.hir_syntax.specs.declared.types.TypeBound.{TypeBound as AstTypeBound}
use Rattle.hir_store.specs.Pointers.{Pointer}
use Rattle.hir_env.specs.ResolvedTree.{OptionExpr, OptionPat, Pat, Pats, Stmts}
use Rattle.hir_env.specs.Answers.{Answers}
use Rattle.hir_env.specs.Layers.{BlockExprLayer, Defined, ExprKindLayer, StmtKindLayer, written}
use Rattle.hir_env.specs.PatLayers.{PatKindLayer}
use Rattle.hir_env.specs.TypeLayers.{GenericArgLayer, TypeKindLayer}
use Rattle.hir_env.specs.declared.lang.LangItems.{LangItems}
use Rattle.hir_env.specs.declared.ctx.LowerCtx.{LowerCtx}
use Rattle.thm_reading.specs.Decided.{ElementAs, ForItemsAs, OptBareAs, OptTypePatAs, QuestionItemsAs, RangeAs, SideAs}
use Rattle.thm_reading.specs.Formals.{FormalsAs}
use Rattle.thm_reading.specs.Rules.{ArgAs, BoundsAs, ExprAs, OwnAs}
use Rattle.thm_reading.specs.Rules.{PatKindAs, PathAs, PlainAs, StmtAs, TypeKindAs, UseTreeAs, ValueAs}
use Rattle.thm_reading.specs.Targets.{OptTargetAs}

-- at most one thing is such
abbrev pub AtMostOne : {A : Type 0} → (A → Type 0) → Type 0
AtMostOne {A} F = (x y : A) → F x → F y → x ≡ y

abbrev pub OneType : Type 0
OneType = (a : Answers) (p : LowerCtx) (s : Pointer) (k : TypeKindLayer written) → AtMostOne (TypeKindAs a p s k)

abbrev pub OnePath : Type 0
OnePath = (a : Answers) (p : LowerCtx) (in_macro leading : Bool) (ss : List (Option AstPathSegment)) (u : Option AstPath)
    → AtMostOne (PathAs a p in_macro leading ss u)

abbrev pub OneUseTree : Type 0
OneUseTree = (a : Answers) (p : LowerCtx) (leading : Bool) (ss : List (Option AstPathSegment)) (u : Option AstPath)
    → AtMostOne (UseTreeAs a p leading ss u)

abbrev pub OneArg : Type 0
OneArg = (a : Answers) (p : LowerCtx) (k : GenericArgLayer written) → AtMostOne (ArgAs a p k)

abbrev pub OneBounds : Type 0
OneBounds = (a : Answers) (p : LowerCtx) (bs : List AstTypeBound) → AtMostOne (BoundsAs a p bs)

abbrev pub OnePat : Type 0
OnePat = (a : Answers) (p : LowerCtx) (s : Pointer) (k : PatKindLayer written) → AtMostOne (PatKindAs a p s k)

abbrev pub OneExpr : Type 0
OneExpr = (a : Answers) (p : LowerCtx) (s : Pointer) (k : ExprKindLayer written) → AtMostOne (ExprAs a p s k)

-- an expression as a statement or behind the statements, where some macros are defined before
abbrev pub OneValue : Type 0
OneValue = (a : Answers) (p : LowerCtx) (s : Pointer) (k : ExprKindLayer written) (d : Defined)
    → AtMostOne {A = Stmts × (OptionExpr × Defined)} (λ x. ValueAs a p s k d x.0 x.1.0 x.1.1)

abbrev pub OneBlock : Type 0
OneBlock = (a : Answers) (p : LowerCtx) (m : Option BlockModifier) (b : BlockExprLayer written) → AtMostOne (OwnAs a p m b)

-- where only a block may stand
abbrev pub OnePlainBlock : Type 0
OnePlainBlock = (a : Answers) (p : LowerCtx) (b : BlockExprLayer written) → AtMostOne (PlainAs a p b)

abbrev pub OneStmt : Type 0
OneStmt = (a : Answers) (p : LowerCtx) (s : Pointer) (k : StmtKindLayer written) (d : Defined)
    → AtMostOne {A = Stmts × Defined} (λ x. StmtAs a p s k d x.0 x.1)

-- the parameters of a body
abbrev pub OneFormals : Type 0
OneFormals = (a : Answers) (p : LowerCtx) (bare : Bool) (x : Option AstParamList) → AtMostOne (FormalsAs a p bare x)

-- what is decided on the resolved tree

abbrev pub OneSide : Type 0
OneSide = (q : OptionPat) → AtMostOne (SideAs q)

abbrev pub OneElement : Type 0
OneElement = (q : Pat) (qs : Pats) → AtMostOne (ElementAs q qs)

abbrev pub OneTypePat : Type 0
OneTypePat = (items : LangItems) (q : OptionPat) → AtMostOne (OptTypePatAs items q)

abbrev pub OneBarePat : Type 0
OneBarePat = (q : OptionPat) → AtMostOne (OptBareAs q)

abbrev pub OneRange : Type 0
OneRange = (items : LangItems) (is_new : Bool) (o : Option RangeOp) (has_start has_end : Bool)
    → AtMostOne (RangeAs items is_new o has_start has_end)

abbrev pub OneForItems : Type 0
OneForItems = (items : LangItems) → AtMostOne (ForItemsAs items)

abbrev pub OneQuestionItems : Type 0
OneQuestionItems = (items : LangItems) → AtMostOne (QuestionItemsAs items)

abbrev pub OneTarget : Type 0
OneTarget = (a : Answers) (p : LowerCtx) (e : OptionExpr) → AtMostOne (OptTargetAs a p None e)
