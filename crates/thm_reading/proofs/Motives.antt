-- What is claimed of each part of a tree: that what is read of it is what the rules allow.
use Rattle.std.proofs.Common.{◌≡◌, ℕ, zero, suc, true, List, ◌∷◌, Some}
use Rattle.hir_base.specs.declared.node.AstPtr.{AstPtr}
use Rattle.hir_syntax.specs.declared.ast.ElseBranch.{ElseBranch as AstElseBranch, out-ElseBranch}
use Rattle.hir_syntax.specs.declared.ast.ExprKind.{ExprKind as AstExprKind, out-ExprKind}
use Rattle.hir_syntax.specs.declared.ast.StmtKind.{StmtKind as AstStmtKind, out-StmtKind}
use Rattle.hir_syntax.specs.declared.pats.PatKind.{PatKind as AstPatKind, out-PatKind}
use Rattle.hir_syntax.specs.declared.types.GenericArg.{GenericArg as AstGenericArg, out-GenericArg}
use Rattle.hir_syntax.specs.declared.types.TypeKind.{TypeKind as AstTypeKind, out-TypeKind}
use Rattle.hir_syntax.specs.declared.ast.BlockExpr.{BlockExpr as AstBlockExpr, out-BlockExpr}
use Rattle.hir_syntax.specs.declared.ast.Expr.{Expr as AstExpr}
use Rattle.hir_syntax.specs.declared.ast.Path.{Path as AstPath, out-Path}
use Rattle.hir_syntax.specs.declared.ast.PathSegment.{PathSegment as AstPathSegment, out-PathSegment}
use Rattle.hir_syntax.specs.declared.ast.RecordExprField.{RecordExprField as AstRecordExprField, out-RecordExprField}
use Rattle.hir_syntax.specs.declared.ast.RecordExprFieldList.{RecordExprFieldList as AstRecordExprFieldList, out-RecordExprFieldList}
use Rattle.hir_syntax.specs.declared.ast.Stmt.{Stmt as AstStmt, out-Stmt}
use Rattle.hir_syntax.specs.declared.branches.MatchArm.{MatchArm as AstMatchArm, out-MatchArm}
use Rattle.hir_syntax.specs.declared.macros.MacroCall.{MacroCall as AstMacroCall}
use Rattle.hir_syntax.specs.declared.pats.Pat.{Pat as AstPat}
use Rattle.hir_syntax.specs.declared.pats.RecordPatField.{RecordPatField as AstRecordPatField, out-RecordPatField}
use Rattle.hir_syntax.specs.declared.types.AssocTypeArg.{AssocTypeArg as AstAssocTypeArg, out-AssocTypeArg}
use Rattle.hir_syntax.specs.declared.types.Param.{Param as AstParam, out-Param}
use Rattle.hir_syntax.specs.declared.types.PathType.{PathType as AstPathType, out-PathType}
use Rattle.hir_syntax.specs.declared.types.TypeBound.{TypeBound as AstTypeBound, out-TypeBound}
use Rattle.hir_syntax.specs.declared.types.Type_.{Type_ as AstType_}
use Rattle.hir_env.specs.ResolvedTree.{OptionPat, Params, more_params, some_expr}
use Rattle.hir_env.specs.Answers.{Answers}
use Rattle.hir_env.specs.Layers.{Defined, Sorts}
use Rattle.hir_env.specs.ResolveCtx.{in_file}
use Rattle.hir_env.specs.TypePats.{name_given}
use Rattle.hir_env.specs.declared.ctx.LowerCtx.{LowerCtx}
use Rattle.hir_env.specs.Folds.{entering, fold_else_branch, fold_expr_kind, fold_stmt_kind, fold_block, fold_expr, fold_field, fold_record}
use Rattle.hir_env.specs.Folds.{fold_stmt, fold_arm, fold_pat_field}
use Rattle.hir_env.specs.Folds.{fold_pat_kind, fold_generic_arg, fold_type_kind, fold_path, fold_segment}
use Rattle.hir_env.specs.Folds.{fold_pat, fold_assoc_type_arg, fold_param, fold_path_type, fold_type_bound, fold_type}
use Rattle.thm_reading.specs.Rules.{ArmAs, ElseKindAs, ExprAs, FieldAs, FieldsAs, ForBodyAs, OwnAs, ParamsAs, PatFieldAs, PlainAs, SpreadAs}
use Rattle.thm_reading.specs.Rules.{StmtAs, ValueAs}
use Rattle.thm_reading.specs.Rules.{ArgAs, BindingAs, BoundAs, OptPathAs, OptPatAs, OptTypeAs, PatKindAs, PathAs, SegmentAs, TypeKindAs}
use Rattle.thm_reading.specs.Rules.{UseTreeAs}
use Rattle.thm_reading.specs.LowerCtx.{expr_kind, expr_node, node, pat_kind, pat_node, type_kind, type_node}

-- where so many calls may be entered
abbrev pub at : ℕ → LowerCtx → LowerCtx
at n p = record p { left = n }

module _ (a : Answers) (n : ℕ) where
  abbrev pub OfTypeKind : AstTypeKind → Type 0
  OfTypeKind x = (s : AstPtr) (p : LowerCtx)
      → TypeKindAs a (at n p) (in_file (at n p) s) (out-TypeKind x) (fold_type_kind a (entering a n) x s (at n p))

  abbrev pub OfType : AstType_ → Type 0
  OfType x = (p : LowerCtx) → TypeKindAs a (at n p) (type_node (at n p) x) (type_kind x) (fold_type a (entering a n) x (at n p))

  -- by itself, and as the use tree around another path
  pub record OfPath (x : AstPath) : Type 0 where
    pub alone : (p : LowerCtx) → PathAs a (at n p) (out-Path x).in_macro (out-Path x).leading (out-Path x).segs (out-Path x).use_
        ((fold_path a (entering a n) x).alone (at n p))
    pub use_tree : (p : LowerCtx) → UseTreeAs a (at n p) (out-Path x).leading (out-Path x).segs (out-Path x).use_
        ((fold_path a (entering a n) x).use_tree (at n p))

  abbrev pub OfSegment : AstPathSegment → Type 0
  OfSegment x = (p : LowerCtx) → SegmentAs a (at n p) (out-PathSegment x).seg (out-PathSegment x).name (out-PathSegment x).generics
      (out-PathSegment x).parens (out-PathSegment x).ret (out-PathSegment x).rtn (out-PathSegment x).ty (out-PathSegment x).trait_
      (fold_segment a (entering a n) x (at n p))

  abbrev pub OfArg : AstGenericArg → Type 0
  OfArg x = (p : LowerCtx) → ArgAs a (at n p) (out-GenericArg x) (fold_generic_arg a (entering a n) x (at n p))

  abbrev pub OfAssocArg : AstAssocTypeArg → Type 0
  OfAssocArg x = (p : LowerCtx) → BindingAs a (at n p) (out-AssocTypeArg x).params (out-AssocTypeArg x).name
      (out-AssocTypeArg x).generics (out-AssocTypeArg x).rtn (out-AssocTypeArg x).ty (out-AssocTypeArg x).bounds
      (fold_assoc_type_arg a (entering a n) x (at n p))

  abbrev pub OfBound : AstTypeBound → Type 0
  OfBound x = (p : LowerCtx) → BoundAs a (at n p) (out-TypeBound x).b (out-TypeBound x).ty (out-TypeBound x).maybe
      (out-TypeBound x).binder (out-TypeBound x).lifetime (out-TypeBound x).uses (fold_type_bound a (entering a n) x (at n p))

  pub record TraitAs (p : LowerCtx) (x : AstPathType) : Type 0 where
    pub pointer : (fold_path_type a (entering a n) x p).pointer ≡ node p (out-PathType x).id (out-PathType x).range
    pub path : OptPathAs a p (out-PathType x).path (fold_path_type a (entering a n) x p).path

  abbrev pub OfPathType : AstPathType → Type 0
  OfPathType x = (p : LowerCtx) → TraitAs (at n p) x

  pub record ParamAs (p : LowerCtx) (x : AstParam) : Type 0 where
    pub variadic : (fold_param a (entering a n) x p).variadic ≡ (out-Param x).variadic
    pub pat : OptionPat
    pub name : (fold_param a (entering a n) x p).name ≡ name_given pat
    pub pat_as : OptPatAs a p (out-Param x).pat pat
    pub ty : OptTypeAs a p (out-Param x).ty (fold_param a (entering a n) x p).ty
    pub own : (xs : List AstParam) (ys : Params) → ParamsAs a p (Some xs) ys
        → ParamsAs a p (Some (x ∷ xs)) (more_params (fold_param a (entering a n) x p).own ys)

  abbrev pub OfParam : AstParam → Type 0
  OfParam x = (p : LowerCtx) → ParamAs (at n p) x

  abbrev pub OfPatKind : AstPatKind → Type 0
  OfPatKind x = (s : AstPtr) (p : LowerCtx)
      → PatKindAs a (at n p) (in_file (at n p) s) (out-PatKind x) (fold_pat_kind a (entering a n) x s (at n p))

  abbrev pub OfPat : AstPat → Type 0
  OfPat x = (p : LowerCtx) → PatKindAs a (at n p) (pat_node (at n p) x) (pat_kind x) (fold_pat a (entering a n) x (at n p))

  abbrev pub OfPatField : AstRecordPatField → Type 0
  OfPatField x = (p : LowerCtx) → PatFieldAs a (at n p) (node (at n p) (out-RecordPatField x).id (out-RecordPatField x).range)
      (out-RecordPatField x).name (out-RecordPatField x).pat (fold_pat_field a (entering a n) x (at n p))

  abbrev pub OfElse : AstElseBranch → Type 0
  OfElse x = (p : LowerCtx) → ElseKindAs a (at n p) (out-ElseBranch x) (fold_else_branch a (entering a n) x (at n p))

  pub record OfKind (x : AstExprKind) : Type 0 where
    pub expr : (s : AstPtr) (p : LowerCtx)
        → ExprAs a (at n p) (in_file (at n p) s) (out-ExprKind x) ((fold_expr_kind a (entering a n) x).expr s (at n p))
    pub value : (s : AstPtr) (p : LowerCtx) (d : Defined) → (let r = (fold_expr_kind a (entering a n) x).value s (at n p) d in
        ValueAs a (at n p) (in_file (at n p) s) (out-ExprKind x) d r.stmts r.last r.defined)

  pub record OfExpr (x : AstExpr) : Type 0 where
    pub expr : (p : LowerCtx) → ExprAs a (at n p) (expr_node (at n p) x) (expr_kind x) ((fold_expr a (entering a n) x).expr (at n p))
    pub value : (p : LowerCtx) (d : Defined) → (let r = (fold_expr a (entering a n) x).value (at n p) d in
        ValueAs a (at n p) (expr_node (at n p) x) (expr_kind x) d r.stmts r.last r.defined)

  abbrev pub OfStmtKind : AstStmtKind → Type 0
  OfStmtKind x = (s : AstPtr) (p : LowerCtx) (d : Defined) → (let r = fold_stmt_kind a (entering a n) x s (at n p) d in
      StmtAs a (at n p) (in_file (at n p) s) (out-StmtKind x) d r.stmts r.defined)

  abbrev pub OfStmt : AstStmt → Type 0
  OfStmt x = (p : LowerCtx) (d : Defined) → (let r = fold_stmt a (entering a n) x (at n p) d in
      StmtAs a (at n p) (node (at n p) (out-Stmt x).id (out-Stmt x).range) (out-StmtKind (out-Stmt x).kind) d r.stmts r.defined)

  pub record OfBlock (x : AstBlockExpr) : Type 0 where
    pub plain : (p : LowerCtx) → PlainAs a (at n p) (out-BlockExpr x) ((fold_block a (entering a n) x).plain (at n p))
    pub own : (p : LowerCtx) → OwnAs a (at n p) (out-BlockExpr x).mod_ (out-BlockExpr x) ((fold_block a (entering a n) x).own (at n p))
    pub asked : (p : LowerCtx) → ForBodyAs a (at n p) (Some x) (some_expr ((fold_block a (entering a n) x).asked (at n p)))

  abbrev pub OfField : AstRecordExprField → Type 0
  OfField x = (p : LowerCtx) → FieldAs a (at n p) (node (at n p) (out-RecordExprField x).id (out-RecordExprField x).range)
      (out-RecordExprField x).name (out-RecordExprField x).expr (fold_field a (entering a n) x (at n p))

  pub record RecordAs (p : LowerCtx) (x : AstRecordExprFieldList) : Type 0 where
    pub head : (fold_record a (entering a n) x p).head ≡ record { has_list = true; has_dots = (out-RecordExprFieldList x).dotdot }
    pub fields : FieldsAs a p (out-RecordExprFieldList x).fields (fold_record a (entering a n) x p).fields
    pub spread : SpreadAs a p (out-RecordExprFieldList x).spread (out-RecordExprFieldList x).dotdot
        (fold_record a (entering a n) x p).spread

  abbrev pub OfRecord : AstRecordExprFieldList → Type 0
  OfRecord x = (p : LowerCtx) → RecordAs (at n p) x

  abbrev pub OfArm : AstMatchArm → Type 0
  OfArm x = (p : LowerCtx) → ArmAs a (at n p) (node (at n p) (out-MatchArm x).id (out-MatchArm x).range) (out-MatchArm x).pat
      (out-MatchArm x).guard (out-MatchArm x).expr (fold_arm a (entering a n) x (at n p))

  abbrev pub OfCall : AstMacroCall → Type 0
  OfCall x = Unit {0}

  -- each part with its claim
  abbrev pub claimed : Sorts
  claimed = record {
    ElseBranch = (x : AstElseBranch) × OfElse x;
    ExprKind = (x : AstExprKind) × OfKind x;
    StmtKind = (x : AstStmtKind) × OfStmtKind x;
    PatKind = (x : AstPatKind) × OfPatKind x;
    GenericArg = (x : AstGenericArg) × OfArg x;
    TypeKind = (x : AstTypeKind) × OfTypeKind x;
    BlockExpr = (x : AstBlockExpr) × OfBlock x;
    Expr = (x : AstExpr) × OfExpr x;
    Path = (x : AstPath) × OfPath x;
    PathSegment = (x : AstPathSegment) × OfSegment x;
    RecordExprField = (x : AstRecordExprField) × OfField x;
    RecordExprFieldList = (x : AstRecordExprFieldList) × OfRecord x;
    Stmt = (x : AstStmt) × OfStmt x;
    MatchArm = (x : AstMatchArm) × OfArm x;
    MacroCall = AstMacroCall × Unit {0};
    Pat = (x : AstPat) × OfPat x;
    RecordPatField = (x : AstRecordPatField) × OfPatField x;
    AssocTypeArg = (x : AstAssocTypeArg) × OfAssocArg x;
    Param = (x : AstParam) × OfParam x;
    PathType = (x : AstPathType) × OfPathType x;
    TypeBound = (x : AstTypeBound) × OfBound x;
    Type_ = (x : AstType_) × OfType x;
  }

  -- so it is of all that a call may stand for
  pub record AllByRules : Type 0 where
    pub expr : (x : AstExpr) → OfExpr x
    pub stmt : (x : AstStmt) → OfStmt x
    pub pat : (x : AstPat) → OfPat x
    pub type_ : (x : AstType_) → OfType x

-- and where one may be entered, of what calls in it stand for
abbrev pub Below : Answers → ℕ → Type 0
Below a zero = Unit {0}
Below a (suc n) = AllByRules a n
