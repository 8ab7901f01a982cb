-- What is claimed of each part of a tree: that what is read of it is framed.
use Rattle.std.proofs.Common.{ℕ, zero, suc}
use Rattle.hir_base.specs.declared.node.AstPtr.{AstPtr}
use Rattle.hir_syntax.specs.declared.ast.ElseBranch.{ElseBranch as AstElseBranch}
use Rattle.hir_syntax.specs.declared.ast.ExprKind.{ExprKind as AstExprKind}
use Rattle.hir_syntax.specs.declared.ast.StmtKind.{StmtKind as AstStmtKind}
use Rattle.hir_syntax.specs.declared.pats.PatKind.{PatKind as AstPatKind}
use Rattle.hir_syntax.specs.declared.types.GenericArg.{GenericArg as AstGenericArg}
use Rattle.hir_syntax.specs.declared.types.TypeKind.{TypeKind as AstTypeKind}
use Rattle.hir_syntax.specs.declared.ast.BlockExpr.{BlockExpr as AstBlockExpr}
use Rattle.hir_syntax.specs.declared.ast.Expr.{Expr as AstExpr}
use Rattle.hir_syntax.specs.declared.ast.Path.{Path as AstPath}
use Rattle.hir_syntax.specs.declared.ast.PathSegment.{PathSegment as AstPathSegment}
use Rattle.hir_syntax.specs.declared.ast.RecordExprField.{RecordExprField as AstRecordExprField}
use Rattle.hir_syntax.specs.declared.ast.RecordExprFieldList.{RecordExprFieldList as AstRecordExprFieldList}
use Rattle.hir_syntax.specs.declared.ast.Stmt.{Stmt as AstStmt}
use Rattle.hir_syntax.specs.declared.branches.MatchArm.{MatchArm as AstMatchArm}
use Rattle.hir_syntax.specs.declared.macros.MacroCall.{MacroCall as AstMacroCall}
use Rattle.hir_syntax.specs.declared.pats.Pat.{Pat as AstPat}
use Rattle.hir_syntax.specs.declared.pats.RecordPatField.{RecordPatField as AstRecordPatField}
use Rattle.hir_syntax.specs.declared.types.AssocTypeArg.{AssocTypeArg as AstAssocTypeArg}
use Rattle.hir_syntax.specs.declared.types.Param.{Param as AstParam}
use Rattle.hir_syntax.specs.declared.types.PathType.{PathType as AstPathType}
use Rattle.hir_syntax.specs.declared.types.TypeBound.{TypeBound as AstTypeBound}
use Rattle.hir_syntax.specs.declared.types.Type_.{Type_ as AstType_}
use Rattle.hir_env.specs.Answers.{Answers}
use Rattle.hir_env.specs.Layers.{Defined, Sorts}
use Rattle.hir_env.specs.declared.ctx.LowerCtx.{LowerCtx}
use Rattle.hir_env.specs.Folds.{entering}
use Rattle.hir_env.specs.Folds.{fold_else_branch, fold_expr_kind, fold_stmt_kind, fold_pat_kind, fold_generic_arg, fold_type_kind}
use Rattle.hir_env.specs.Folds.{fold_block, fold_expr, fold_path, fold_segment, fold_field}
use Rattle.hir_env.specs.Folds.{fold_record, fold_stmt, fold_arm, fold_pat, fold_pat_field, fold_assoc_type_arg, fold_param}
use Rattle.hir_env.specs.Folds.{fold_path_type, fold_type_bound, fold_type}
use Rattle.thm_frame.specs.Questions.{Area, Framed, Here}

-- where so many calls may be entered
module _ (a : Answers) (area : Area a) (n : ℕ) where
  abbrev pub OfElse : AstElseBranch → Type 0
  OfElse x = (p : LowerCtx) (w : Here area p) → Framed area (λ b. fold_else_branch b (entering b n) x p) a

  pub record OfKind (x : AstExprKind) : Type 0 where
    pub expr : (s : AstPtr) (p : LowerCtx) (w : Here area p) → Framed area (λ b. (fold_expr_kind b (entering b n) x).expr s p) a
    pub value : (s : AstPtr) (p : LowerCtx) (w : Here area p) (d : Defined)
        → Framed area (λ b. (fold_expr_kind b (entering b n) x).value s p d) a

  abbrev pub OfStmtKind : AstStmtKind → Type 0
  OfStmtKind x = (s : AstPtr) (p : LowerCtx) (w : Here area p) (d : Defined) → Framed area (λ b. fold_stmt_kind b (entering b n) x s p d) a

  abbrev pub OfPatKind : AstPatKind → Type 0
  OfPatKind x = (s : AstPtr) (p : LowerCtx) (w : Here area p) → Framed area (λ b. fold_pat_kind b (entering b n) x s p) a

  abbrev pub OfArg : AstGenericArg → Type 0
  OfArg x = (p : LowerCtx) (w : Here area p) → Framed area (λ b. fold_generic_arg b (entering b n) x p) a

  abbrev pub OfTypeKind : AstTypeKind → Type 0
  OfTypeKind x = (s : AstPtr) (p : LowerCtx) (w : Here area p) → Framed area (λ b. fold_type_kind b (entering b n) x s p) a

  pub record OfBlock (x : AstBlockExpr) : Type 0 where
    pub plain : (p : LowerCtx) (w : Here area p) → Framed area (λ b. (fold_block b (entering b n) x).plain p) a
    pub own : (p : LowerCtx) (w : Here area p) → Framed area (λ b. (fold_block b (entering b n) x).own p) a
    pub asked : (p : LowerCtx) (w : Here area p) → Framed area (λ b. (fold_block b (entering b n) x).asked p) a

  pub record OfExpr (x : AstExpr) : Type 0 where
    pub expr : (p : LowerCtx) (w : Here area p) → Framed area (λ b. (fold_expr b (entering b n) x).expr p) a
    pub value : (p : LowerCtx) (w : Here area p) (d : Defined) → Framed area (λ b. (fold_expr b (entering b n) x).value p d) a

  pub record OfPath (x : AstPath) : Type 0 where
    pub alone : (p : LowerCtx) (w : Here area p) → Framed area (λ b. (fold_path b (entering b n) x).alone p) a
    pub use_tree : (p : LowerCtx) (w : Here area p) → Framed area (λ b. (fold_path b (entering b n) x).use_tree p) a

  abbrev pub OfSegment : AstPathSegment → Type 0
  OfSegment x = (p : LowerCtx) (w : Here area p) → Framed area (λ b. fold_segment b (entering b n) x p) a

  abbrev pub OfField : AstRecordExprField → Type 0
  OfField x = (p : LowerCtx) (w : Here area p) → Framed area (λ b. fold_field b (entering b n) x p) a

  abbrev pub OfRecord : AstRecordExprFieldList → Type 0
  OfRecord x = (p : LowerCtx) (w : Here area p) → Framed area (λ b. fold_record b (entering b n) x p) a

  abbrev pub OfStmt : AstStmt → Type 0
  OfStmt x = (p : LowerCtx) (w : Here area p) (d : Defined) → Framed area (λ b. fold_stmt b (entering b n) x p d) a

  abbrev pub OfArm : AstMatchArm → Type 0
  OfArm x = (p : LowerCtx) (w : Here area p) → Framed area (λ b. fold_arm b (entering b n) x p) a

  abbrev pub OfCall : AstMacroCall → Type 0
  OfCall x = Unit {0}

  abbrev pub OfPat : AstPat → Type 0
  OfPat x = (p : LowerCtx) (w : Here area p) → Framed area (λ b. fold_pat b (entering b n) x p) a

  abbrev pub OfPatField : AstRecordPatField → Type 0
  OfPatField x = (p : LowerCtx) (w : Here area p) → Framed area (λ b. fold_pat_field b (entering b n) x p) a

  abbrev pub OfAssocArg : AstAssocTypeArg → Type 0
  OfAssocArg x = (p : LowerCtx) (w : Here area p) → Framed area (λ b. fold_assoc_type_arg b (entering b n) x p) a

  abbrev pub OfParam : AstParam → Type 0
  OfParam x = (p : LowerCtx) (w : Here area p) → Framed area (λ b. fold_param b (entering b n) x p) a

  abbrev pub OfPathType : AstPathType → Type 0
  OfPathType x = (p : LowerCtx) (w : Here area p) → Framed area (λ b. fold_path_type b (entering b n) x p) a

  abbrev pub OfBound : AstTypeBound → Type 0
  OfBound x = (p : LowerCtx) (w : Here area p) → Framed area (λ b. fold_type_bound b (entering b n) x p) a

  abbrev pub OfType : AstType_ → Type 0
  OfType x = (p : LowerCtx) (w : Here area p) → Framed area (λ b. fold_type b (entering b n) x p) a

  -- each part with its claim
  abbrev pub claimed : Sorts
  claimed = record {
    ElseBranch = (x : AstElseBranch) × OfElse x;
    ExprKind = (x : AstExprKind) × OfKind x;
    StmtKind = (x : AstStmtKind) × OfStmtKind x;
    PatKind = (x : AstPatKind) × OfPatKind x;
    GenericArg = (x : AstGenericArg) × OfArg x;
    TypeKind = (x : AstTypeKind) × OfTypeKind x;
    BlockExpr = (x : AstBlockExpr) × OfBlock x;
    Expr = (x : AstExpr) × OfExpr x;
    Path = (x : AstPath) × OfPath x;
    PathSegment = (x : AstPathSegment) × OfSegment x;
    RecordExprField = (x : AstRecordExprField) × OfField x;
    RecordExprFieldList = (x : AstRecordExprFieldList) × OfRecord x;
    Stmt = (x : AstStmt) × OfStmt x;
    MatchArm = (x : AstMatchArm) × OfArm x;
    MacroCall = (x : AstMacroCall) × OfCall x;
    Pat = (x : AstPat) × OfPat x;
    RecordPatField = (x : AstRecordPatField) × OfPatField x;
    AssocTypeArg = (x : AstAssocTypeArg) × OfAssocArg x;
    Param = (x : AstParam) × OfParam x;
    PathType = (x : AstPathType) × OfPathType x;
    TypeBound = (x : AstTypeBound) × OfBound x;
    Type_ = (x : AstType_) × OfType x;
  }

  -- so it is of all that a call may stand for
  pub record AllFramed : Type 0 where
    pub expr : (x : AstExpr) → OfExpr x
    pub stmt : (x : AstStmt) → OfStmt x
    pub pat : (x : AstPat) → OfPat x
    pub type_ : (x : AstType_) → OfType x

-- and where one may be entered, of what calls in it stand for
abbrev pub Below : (a : Answers) → Area a → ℕ → Type 0
Below a area zero = Unit {0}
Below a area (suc n) = AllFramed a area n
