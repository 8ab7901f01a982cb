-- What is claimed of the written parts of each sort.
use Rattle.hir_syntax.specs.declared.ast.ElseBranch.{ElseBranch as AstElseBranch}
use Rattle.hir_syntax.specs.declared.ast.ExprKind.{ExprKind as AstExprKind}
use Rattle.hir_syntax.specs.declared.ast.StmtKind.{StmtKind as AstStmtKind}
use Rattle.hir_syntax.specs.declared.pats.PatKind.{PatKind as AstPatKind}
use Rattle.hir_syntax.specs.declared.types.GenericArg.{GenericArg as AstGenericArg}
use Rattle.hir_syntax.specs.declared.types.TypeKind.{TypeKind as AstTypeKind}
use Rattle.hir_syntax.specs.declared.ast.BlockExpr.{BlockExpr as AstBlockExpr}
use Rattle.hir_syntax.specs.declared.ast.Expr.{Expr as AstExpr}
use Rattle.hir_syntax.specs.declared.ast.Path.{Path as AstPath}
use Rattle.hir_syntax.specs.declared.ast.PathSegment.{PathSegment as AstPathSegment}
use Rattle.hir_syntax.specs.declared.ast.RecordExprField.{RecordExprField as AstRecordExprField}
use Rattle.hir_syntax.specs.declared.ast.RecordExprFieldList.{RecordExprFieldList as AstRecordExprFieldList}
use Rattle.hir_syntax.specs.declared.ast.Stmt.{Stmt as AstStmt}
use Rattle.hir_syntax.specs.declared.branches.MatchArm.{MatchArm as AstMatchArm}
use Rattle.hir_syntax.specs.declared.macros.MacroCall.{MacroCall as AstMacroCall}
use Rattle.hir_syntax.specs.declared.pats.Pat.{Pat as AstPat}
use Rattle.hir_syntax.specs.declared.pats.RecordPatField.{RecordPatField as AstRecordPatField}
use Rattle.hir_syntax.specs.declared.types.AssocTypeArg.{AssocTypeArg as AstAssocTypeArg}
use Rattle.hir_syntax.specs.declared.types.Param.{Param as AstParam}
use Rattle.hir_syntax.specs.declared.types.PathType.{PathType as AstPathType}
use Rattle.hir_syntax.specs.declared.types.TypeBound.{TypeBound as AstTypeBound}
use Rattle.hir_syntax.specs.declared.types.Type_.{Type_ as AstType_}
use Rattle.hir_env.specs.Layers.{Sorts}

pub record Claims : Type 1 where
  pub ElseBranch : AstElseBranch → Type 0
  pub ExprKind : AstExprKind → Type 0
  pub StmtKind : AstStmtKind → Type 0
  pub PatKind : AstPatKind → Type 0
  pub GenericArg : AstGenericArg → Type 0
  pub TypeKind : AstTypeKind → Type 0
  pub BlockExpr : AstBlockExpr → Type 0
  pub Expr : AstExpr → Type 0
  pub Path : AstPath → Type 0
  pub PathSegment : AstPathSegment → Type 0
  pub RecordExprField : AstRecordExprField → Type 0
  pub RecordExprFieldList : AstRecordExprFieldList → Type 0
  pub Stmt : AstStmt → Type 0
  pub MatchArm : AstMatchArm → Type 0
  pub MacroCall : AstMacroCall → Type 0
  pub Pat : AstPat → Type 0
  pub RecordPatField : AstRecordPatField → Type 0
  pub AssocTypeArg : AstAssocTypeArg → Type 0
  pub Param : AstParam → Type 0
  pub PathType : AstPathType → Type 0
  pub TypeBound : AstTypeBound → Type 0
  pub Type_ : AstType_ → Type 0

-- each part with its claim
abbrev pub claimed : Claims → Sorts
claimed C = record {
  ElseBranch = (x : AstElseBranch) × C.ElseBranch x;
  ExprKind = (x : AstExprKind) × C.ExprKind x;
  StmtKind = (x : AstStmtKind) × C.StmtKind x;
  PatKind = (x : AstPatKind) × C.PatKind x;
  GenericArg = (x : AstGenericArg) × C.GenericArg x;
  TypeKind = (x : AstTypeKind) × C.TypeKind x;
  BlockExpr = (x : AstBlockExpr) × C.BlockExpr x;
  Expr = (x : AstExpr) × C.Expr x;
  Path = (x : AstPath) × C.Path x;
  PathSegment = (x : AstPathSegment) × C.PathSegment x;
  RecordExprField = (x : AstRecordExprField) × C.RecordExprField x;
  RecordExprFieldList = (x : AstRecordExprFieldList) × C.RecordExprFieldList x;
  Stmt = (x : AstStmt) × C.Stmt x;
  MatchArm = (x : AstMatchArm) × C.MatchArm x;
  MacroCall = (x : AstMacroCall) × C.MacroCall x;
  Pat = (x : AstPat) × C.Pat x;
  RecordPatField = (x : AstRecordPatField) × C.RecordPatField x;
  AssocTypeArg = (x : AstAssocTypeArg) × C.AssocTypeArg x;
  Param = (x : AstParam) × C.Param x;
  PathType = (x : AstPathType) × C.PathType x;
  TypeBound = (x : AstTypeBound) × C.TypeBound x;
  Type_ = (x : AstType_) × C.Type_ x;
}
