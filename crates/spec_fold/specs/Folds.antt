-- A function of written trees, by one step for each sort, which is given each part with what is made of it.
use Rattle.hir_syntax.specs.declared.ast.ElseBranch.{ElseBranch as AstElseBranch}
use Rattle.hir_syntax.specs.declared.ast.ExprKind.{ExprKind as AstExprKind}
use Rattle.hir_syntax.specs.declared.ast.StmtKind.{StmtKind as AstStmtKind}
use Rattle.hir_syntax.specs.declared.pats.PatKind.{PatKind as AstPatKind}
use Rattle.hir_syntax.specs.declared.types.GenericArg.{GenericArg as AstGenericArg}
use Rattle.hir_syntax.specs.declared.types.TypeKind.{TypeKind as AstTypeKind}
use Rattle.hir_syntax.specs.declared.ast.BlockExpr.{BlockExpr as AstBlockExpr}
use Rattle.hir_syntax.specs.declared.ast.Expr.{Expr as AstExpr}
use Rattle.hir_syntax.specs.declared.ast.Path.{Path as AstPath}
use Rattle.hir_syntax.specs.declared.ast.PathSegment.{PathSegment as AstPathSegment}
use Rattle.hir_syntax.specs.declared.ast.RecordExprField.{RecordExprField as AstRecordExprField}
use Rattle.hir_syntax.specs.declared.ast.RecordExprFieldList.{RecordExprFieldList as AstRecordExprFieldList}
use Rattle.hir_syntax.specs.declared.ast.Stmt.{Stmt as AstStmt}
use Rattle.hir_syntax.specs.declared.branches.MatchArm.{MatchArm as AstMatchArm}
use Rattle.hir_syntax.specs.declared.macros.MacroCall.{MacroCall as AstMacroCall}
use Rattle.hir_syntax.specs.declared.pats.Pat.{Pat as AstPat}
use Rattle.hir_syntax.specs.declared.pats.RecordPatField.{RecordPatField as AstRecordPatField}
use Rattle.hir_syntax.specs.declared.types.AssocTypeArg.{AssocTypeArg as AstAssocTypeArg}
use Rattle.hir_syntax.specs.declared.types.Param.{Param as AstParam}
use Rattle.hir_syntax.specs.declared.types.PathType.{PathType as AstPathType}
use Rattle.hir_syntax.specs.declared.types.TypeBound.{TypeBound as AstTypeBound}
use Rattle.hir_syntax.specs.declared.types.Type_.{Type_ as AstType_}
use Rattle.hir_syntax.specs.declared.ast.ElseBranch.TheFolds as folds
use Rattle.hir_env.specs.Layers.{ElseBranchLayer, ExprKindLayer, StmtKindLayer, BlockExprLayer, ExprLayer, RecordExprFieldLayer}
use Rattle.hir_env.specs.Layers.{RecordExprFieldListLayer, StmtLayer, MatchArmLayer, MacroCallLayer, Sorts}
use Rattle.hir_env.specs.TypeLayers.{GenericArgLayer, TypeKindLayer, PathLayer, PathSegmentLayer, AssocTypeArgLayer, ParamLayer}
use Rattle.hir_env.specs.TypeLayers.{PathTypeLayer, TypeBoundLayer, Type_Layer}
use Rattle.hir_env.specs.PatLayers.{PatKindLayer, PatLayer, RecordPatFieldLayer}

-- each part with what is made of it
abbrev pub with_made : Sorts → Sorts
with_made R = record {
  ElseBranch = AstElseBranch × R.ElseBranch;
  ExprKind = AstExprKind × R.ExprKind;
  StmtKind = AstStmtKind × R.StmtKind;
  PatKind = AstPatKind × R.PatKind;
  GenericArg = AstGenericArg × R.GenericArg;
  TypeKind = AstTypeKind × R.TypeKind;
  BlockExpr = AstBlockExpr × R.BlockExpr;
  Expr = AstExpr × R.Expr;
  Path = AstPath × R.Path;
  PathSegment = AstPathSegment × R.PathSegment;
  RecordExprField = AstRecordExprField × R.RecordExprField;
  RecordExprFieldList = AstRecordExprFieldList × R.RecordExprFieldList;
  Stmt = AstStmt × R.Stmt;
  MatchArm = AstMatchArm × R.MatchArm;
  MacroCall = AstMacroCall × R.MacroCall;
  Pat = AstPat × R.Pat;
  RecordPatField = AstRecordPatField × R.RecordPatField;
  AssocTypeArg = AstAssocTypeArg × R.AssocTypeArg;
  Param = AstParam × R.Param;
  PathType = AstPathType × R.PathType;
  TypeBound = AstTypeBound × R.TypeBound;
  Type_ = AstType_ × R.Type_;
}

-- what is made of each sort
pub record Steps (R : Sorts) : Type 0 where
  pub else_branch : ElseBranchLayer (with_made R) → R.ElseBranch
  pub expr_kind : ExprKindLayer (with_made R) → R.ExprKind
  pub stmt_kind : StmtKindLayer (with_made R) → R.StmtKind
  pub pat_kind : PatKindLayer (with_made R) → R.PatKind
  pub generic_arg : GenericArgLayer (with_made R) → R.GenericArg
  pub type_kind : TypeKindLayer (with_made R) → R.TypeKind
  pub block : BlockExprLayer (with_made R) → R.BlockExpr
  pub expr : ExprLayer (with_made R) → R.Expr
  pub path : PathLayer (with_made R) → R.Path
  pub segment : PathSegmentLayer (with_made R) → R.PathSegment
  pub field : RecordExprFieldLayer (with_made R) → R.RecordExprField
  pub field_list : RecordExprFieldListLayer (with_made R) → R.RecordExprFieldList
  pub stmt : StmtLayer (with_made R) → R.Stmt
  pub arm : MatchArmLayer (with_made R) → R.MatchArm
  pub call : MacroCallLayer (with_made R) → R.MacroCall
  pub pat : PatLayer (with_made R) → R.Pat
  pub pat_field : RecordPatFieldLayer (with_made R) → R.RecordPatField
  pub assoc_type_arg : AssocTypeArgLayer (with_made R) → R.AssocTypeArg
  pub param : ParamLayer (with_made R) → R.Param
  pub path_type : PathTypeLayer (with_made R) → R.PathType
  pub type_bound : TypeBoundLayer (with_made R) → R.TypeBound
  pub type : Type_Layer (with_made R) → R.Type_

module _ (R : Sorts) (step : Steps R) where
  unfoldable pub fold_else_branch : AstElseBranch → R.ElseBranch
  fold_else_branch = folds.para-ElseBranch
      R.ElseBranch R.ExprKind R.StmtKind R.PatKind R.GenericArg R.TypeKind R.BlockExpr R.Expr R.Path R.PathSegment R.RecordExprField
      R.RecordExprFieldList R.Stmt R.MatchArm R.MacroCall R.Pat R.RecordPatField R.AssocTypeArg R.Param R.PathType R.TypeBound R.Type_
      step.else_branch step.expr_kind step.stmt_kind step.pat_kind step.generic_arg step.type_kind step.block step.expr step.path
      step.segment step.field step.field_list step.stmt step.arm step.call step.pat step.pat_field step.assoc_type_arg step.param
      step.path_type step.type_bound step.type

  unfoldable pub fold_expr_kind : AstExprKind → R.ExprKind
  fold_expr_kind = folds.para-ExprKind
      R.ElseBranch R.ExprKind R.StmtKind R.PatKind R.GenericArg R.TypeKind R.BlockExpr R.Expr R.Path R.PathSegment R.RecordExprField
      R.RecordExprFieldList R.Stmt R.MatchArm R.MacroCall R.Pat R.RecordPatField R.AssocTypeArg R.Param R.PathType R.TypeBound R.Type_
      step.else_branch step.expr_kind step.stmt_kind step.pat_kind step.generic_arg step.type_kind step.block step.expr step.path
      step.segment step.field step.field_list step.stmt step.arm step.call step.pat step.pat_field step.assoc_type_arg step.param
      step.path_type step.type_bound step.type

  unfoldable pub fold_stmt_kind : AstStmtKind → R.StmtKind
  fold_stmt_kind = folds.para-StmtKind
      R.ElseBranch R.ExprKind R.StmtKind R.PatKind R.GenericArg R.TypeKind R.BlockExpr R.Expr R.Path R.PathSegment R.RecordExprField
      R.RecordExprFieldList R.Stmt R.MatchArm R.MacroCall R.Pat R.RecordPatField R.AssocTypeArg R.Param R.PathType R.TypeBound R.Type_
      step.else_branch step.expr_kind step.stmt_kind step.pat_kind step.generic_arg step.type_kind step.block step.expr step.path
      step.segment step.field step.field_list step.stmt step.arm step.call step.pat step.pat_field step.assoc_type_arg step.param
      step.path_type step.type_bound step.type

  unfoldable pub fold_pat_kind : AstPatKind → R.PatKind
  fold_pat_kind = folds.para-PatKind
      R.ElseBranch R.ExprKind R.StmtKind R.PatKind R.GenericArg R.TypeKind R.BlockExpr R.Expr R.Path R.PathSegment R.RecordExprField
      R.RecordExprFieldList R.Stmt R.MatchArm R.MacroCall R.Pat R.RecordPatField R.AssocTypeArg R.Param R.PathType R.TypeBound R.Type_
      step.else_branch step.expr_kind step.stmt_kind step.pat_kind step.generic_arg step.type_kind step.block step.expr step.path
      step.segment step.field step.field_list step.stmt step.arm step.call step.pat step.pat_field step.assoc_type_arg step.param
      step.path_type step.type_bound step.type

  unfoldable pub fold_generic_arg : AstGenericArg → R.GenericArg
  fold_generic_arg = folds.para-GenericArg
      R.ElseBranch R.ExprKind R.StmtKind R.PatKind R.GenericArg R.TypeKind R.BlockExpr R.Expr R.Path R.PathSegment R.RecordExprField
      R.RecordExprFieldList R.Stmt R.MatchArm R.MacroCall R.Pat R.RecordPatField R.AssocTypeArg R.Param R.PathType R.TypeBound R.Type_
      step.else_branch step.expr_kind step.stmt_kind step.pat_kind step.generic_arg step.type_kind step.block step.expr step.path
      step.segment step.field step.field_list step.stmt step.arm step.call step.pat step.pat_field step.assoc_type_arg step.param
      step.path_type step.type_bound step.type

  unfoldable pub fold_type_kind : AstTypeKind → R.TypeKind
  fold_type_kind = folds.para-TypeKind
      R.ElseBranch R.ExprKind R.StmtKind R.PatKind R.GenericArg R.TypeKind R.BlockExpr R.Expr R.Path R.PathSegment R.RecordExprField
      R.RecordExprFieldList R.Stmt R.MatchArm R.MacroCall R.Pat R.RecordPatField R.AssocTypeArg R.Param R.PathType R.TypeBound R.Type_
      step.else_branch step.expr_kind step.stmt_kind step.pat_kind step.generic_arg step.type_kind step.block step.expr step.path
      step.segment step.field step.field_list step.stmt step.arm step.call step.pat step.pat_field step.assoc_type_arg step.param
      step.path_type step.type_bound step.type

  unfoldable pub fold_block : AstBlockExpr → R.BlockExpr
  fold_block = folds.para-BlockExpr
      R.ElseBranch R.ExprKind R.StmtKind R.PatKind R.GenericArg R.TypeKind R.BlockExpr R.Expr R.Path R.PathSegment R.RecordExprField
      R.RecordExprFieldList R.Stmt R.MatchArm R.MacroCall R.Pat R.RecordPatField R.AssocTypeArg R.Param R.PathType R.TypeBound R.Type_
      step.else_branch step.expr_kind step.stmt_kind step.pat_kind step.generic_arg step.type_kind step.block step.expr step.path
      step.segment step.field step.field_list step.stmt step.arm step.call step.pat step.pat_field step.assoc_type_arg step.param
      step.path_type step.type_bound step.type

  unfoldable pub fold_expr : AstExpr → R.Expr
  fold_expr = folds.para-Expr
      R.ElseBranch R.ExprKind R.StmtKind R.PatKind R.GenericArg R.TypeKind R.BlockExpr R.Expr R.Path R.PathSegment R.RecordExprField
      R.RecordExprFieldList R.Stmt R.MatchArm R.MacroCall R.Pat R.RecordPatField R.AssocTypeArg R.Param R.PathType R.TypeBound R.Type_
      step.else_branch step.expr_kind step.stmt_kind step.pat_kind step.generic_arg step.type_kind step.block step.expr step.path
      step.segment step.field step.field_list step.stmt step.arm step.call step.pat step.pat_field step.assoc_type_arg step.param
      step.path_type step.type_bound step.type

  unfoldable pub fold_path : AstPath → R.Path
  fold_path = folds.para-Path
      R.ElseBranch R.ExprKind R.StmtKind R.PatKind R.GenericArg R.TypeKind R.BlockExpr R.Expr R.Path R.PathSegment R.RecordExprField
      R.RecordExprFieldList R.Stmt R.MatchArm R.MacroCall R.Pat R.RecordPatField R.AssocTypeArg R.Param R.PathType R.TypeBound R.Type_
      step.else_branch step.expr_kind step.stmt_kind step.pat_kind step.generic_arg step.type_kind step.block step.expr step.path
      step.segment step.field step.field_list step.stmt step.arm step.call step.pat step.pat_field step.assoc_type_arg step.param
      step.path_type step.type_bound step.type

  unfoldable pub fold_segment : AstPathSegment → R.PathSegment
  fold_segment = folds.para-PathSegment
      R.ElseBranch R.ExprKind R.StmtKind R.PatKind R.GenericArg R.TypeKind R.BlockExpr R.Expr R.Path R.PathSegment R.RecordExprField
      R.RecordExprFieldList R.Stmt R.MatchArm R.MacroCall R.Pat R.RecordPatField R.AssocTypeArg R.Param R.PathType R.TypeBound R.Type_
      step.else_branch step.expr_kind step.stmt_kind step.pat_kind step.generic_arg step.type_kind step.block step.expr step.path
      step.segment step.field step.field_list step.stmt step.arm step.call step.pat step.pat_field step.assoc_type_arg step.param
      step.path_type step.type_bound step.type

  unfoldable pub fold_field : AstRecordExprField → R.RecordExprField
  fold_field = folds.para-RecordExprField
      R.ElseBranch R.ExprKind R.StmtKind R.PatKind R.GenericArg R.TypeKind R.BlockExpr R.Expr R.Path R.PathSegment R.RecordExprField
      R.RecordExprFieldList R.Stmt R.MatchArm R.MacroCall R.Pat R.RecordPatField R.AssocTypeArg R.Param R.PathType R.TypeBound R.Type_
      step.else_branch step.expr_kind step.stmt_kind step.pat_kind step.generic_arg step.type_kind step.block step.expr step.path
      step.segment step.field step.field_list step.stmt step.arm step.call step.pat step.pat_field step.assoc_type_arg step.param
      step.path_type step.type_bound step.type

  unfoldable pub fold_field_list : AstRecordExprFieldList → R.RecordExprFieldList
  fold_field_list = folds.para-RecordExprFieldList
      R.ElseBranch R.ExprKind R.StmtKind R.PatKind R.GenericArg R.TypeKind R.BlockExpr R.Expr R.Path R.PathSegment R.RecordExprField
      R.RecordExprFieldList R.Stmt R.MatchArm R.MacroCall R.Pat R.RecordPatField R.AssocTypeArg R.Param R.PathType R.TypeBound R.Type_
      step.else_branch step.expr_kind step.stmt_kind step.pat_kind step.generic_arg step.type_kind step.block step.expr step.path
      step.segment step.field step.field_list step.stmt step.arm step.call step.pat step.pat_field step.assoc_type_arg step.param
      step.path_type step.type_bound step.type

  unfoldable pub fold_stmt : AstStmt → R.Stmt
  fold_stmt = folds.para-Stmt
      R.ElseBranch R.ExprKind R.StmtKind R.PatKind R.GenericArg R.TypeKind R.BlockExpr R.Expr R.Path R.PathSegment R.RecordExprField
      R.RecordExprFieldList R.Stmt R.MatchArm R.MacroCall R.Pat R.RecordPatField R.AssocTypeArg R.Param R.PathType R.TypeBound R.Type_
      step.else_branch step.expr_kind step.stmt_kind step.pat_kind step.generic_arg step.type_kind step.block step.expr step.path
      step.segment step.field step.field_list step.stmt step.arm step.call step.pat step.pat_field step.assoc_type_arg step.param
      step.path_type step.type_bound step.type

  unfoldable pub fold_arm : AstMatchArm → R.MatchArm
  fold_arm = folds.para-MatchArm
      R.ElseBranch R.ExprKind R.StmtKind R.PatKind R.GenericArg R.TypeKind R.BlockExpr R.Expr R.Path R.PathSegment R.RecordExprField
      R.RecordExprFieldList R.Stmt R.MatchArm R.MacroCall R.Pat R.RecordPatField R.AssocTypeArg R.Param R.PathType R.TypeBound R.Type_
      step.else_branch step.expr_kind step.stmt_kind step.pat_kind step.generic_arg step.type_kind step.block step.expr step.path
      step.segment step.field step.field_list step.stmt step.arm step.call step.pat step.pat_field step.assoc_type_arg step.param
      step.path_type step.type_bound step.type

  unfoldable pub fold_call : AstMacroCall → R.MacroCall
  fold_call = folds.para-MacroCall
      R.ElseBranch R.ExprKind R.StmtKind R.PatKind R.GenericArg R.TypeKind R.BlockExpr R.Expr R.Path R.PathSegment R.RecordExprField
      R.RecordExprFieldList R.Stmt R.MatchArm R.MacroCall R.Pat R.RecordPatField R.AssocTypeArg R.Param R.PathType R.TypeBound R.Type_
      step.else_branch step.expr_kind step.stmt_kind step.pat_kind step.generic_arg step.type_kind step.block step.expr step.path
      step.segment step.field step.field_list step.stmt step.arm step.call step.pat step.pat_field step.assoc_type_arg step.param
      step.path_type step.type_bound step.type

  unfoldable pub fold_pat : AstPat → R.Pat
  fold_pat = folds.para-Pat
      R.ElseBranch R.ExprKind R.StmtKind R.PatKind R.GenericArg R.TypeKind R.BlockExpr R.Expr R.Path R.PathSegment R.RecordExprField
      R.RecordExprFieldList R.Stmt R.MatchArm R.MacroCall R.Pat R.RecordPatField R.AssocTypeArg R.Param R.PathType R.TypeBound R.Type_
      step.else_branch step.expr_kind step.stmt_kind step.pat_kind step.generic_arg step.type_kind step.block step.expr step.path
      step.segment step.field step.field_list step.stmt step.arm step.call step.pat step.pat_field step.assoc_type_arg step.param
      step.path_type step.type_bound step.type

  unfoldable pub fold_pat_field : AstRecordPatField → R.RecordPatField
  fold_pat_field = folds.para-RecordPatField
      R.ElseBranch R.ExprKind R.StmtKind R.PatKind R.GenericArg R.TypeKind R.BlockExpr R.Expr R.Path R.PathSegment R.RecordExprField
      R.RecordExprFieldList R.Stmt R.MatchArm R.MacroCall R.Pat R.RecordPatField R.AssocTypeArg R.Param R.PathType R.TypeBound R.Type_
      step.else_branch step.expr_kind step.stmt_kind step.pat_kind step.generic_arg step.type_kind step.block step.expr step.path
      step.segment step.field step.field_list step.stmt step.arm step.call step.pat step.pat_field step.assoc_type_arg step.param
      step.path_type step.type_bound step.type

  unfoldable pub fold_assoc_type_arg : AstAssocTypeArg → R.AssocTypeArg
  fold_assoc_type_arg = folds.para-AssocTypeArg
      R.ElseBranch R.ExprKind R.StmtKind R.PatKind R.GenericArg R.TypeKind R.BlockExpr R.Expr R.Path R.PathSegment R.RecordExprField
      R.RecordExprFieldList R.Stmt R.MatchArm R.MacroCall R.Pat R.RecordPatField R.AssocTypeArg R.Param R.PathType R.TypeBound R.Type_
      step.else_branch step.expr_kind step.stmt_kind step.pat_kind step.generic_arg step.type_kind step.block step.expr step.path
      step.segment step.field step.field_list step.stmt step.arm step.call step.pat step.pat_field step.assoc_type_arg step.param
      step.path_type step.type_bound step.type

  unfoldable pub fold_param : AstParam → R.Param
  fold_param = folds.para-Param
      R.ElseBranch R.ExprKind R.StmtKind R.PatKind R.GenericArg R.TypeKind R.BlockExpr R.Expr R.Path R.PathSegment R.RecordExprField
      R.RecordExprFieldList R.Stmt R.MatchArm R.MacroCall R.Pat R.RecordPatField R.AssocTypeArg R.Param R.PathType R.TypeBound R.Type_
      step.else_branch step.expr_kind step.stmt_kind step.pat_kind step.generic_arg step.type_kind step.block step.expr step.path
      step.segment step.field step.field_list step.stmt step.arm step.call step.pat step.pat_field step.assoc_type_arg step.param
      step.path_type step.type_bound step.type

  unfoldable pub fold_path_type : AstPathType → R.PathType
  fold_path_type = folds.para-PathType
      R.ElseBranch R.ExprKind R.StmtKind R.PatKind R.GenericArg R.TypeKind R.BlockExpr R.Expr R.Path R.PathSegment R.RecordExprField
      R.RecordExprFieldList R.Stmt R.MatchArm R.MacroCall R.Pat R.RecordPatField R.AssocTypeArg R.Param R.PathType R.TypeBound R.Type_
      step.else_branch step.expr_kind step.stmt_kind step.pat_kind step.generic_arg step.type_kind step.block step.expr step.path
      step.segment step.field step.field_list step.stmt step.arm step.call step.pat step.pat_field step.assoc_type_arg step.param
      step.path_type step.type_bound step.type

  unfoldable pub fold_type_bound : AstTypeBound → R.TypeBound
  fold_type_bound = folds.para-TypeBound
      R.ElseBranch R.ExprKind R.StmtKind R.PatKind R.GenericArg R.TypeKind R.BlockExpr R.Expr R.Path R.PathSegment R.RecordExprField
      R.RecordExprFieldList R.Stmt R.MatchArm R.MacroCall R.Pat R.RecordPatField R.AssocTypeArg R.Param R.PathType R.TypeBound R.Type_
      step.else_branch step.expr_kind step.stmt_kind step.pat_kind step.generic_arg step.type_kind step.block step.expr step.path
      step.segment step.field step.field_list step.stmt step.arm step.call step.pat step.pat_field step.assoc_type_arg step.param
      step.path_type step.type_bound step.type

  unfoldable pub fold_type : AstType_ → R.Type_
  fold_type = folds.para-Type_
      R.ElseBranch R.ExprKind R.StmtKind R.PatKind R.GenericArg R.TypeKind R.BlockExpr R.Expr R.Path R.PathSegment R.RecordExprField
      R.RecordExprFieldList R.Stmt R.MatchArm R.MacroCall R.Pat R.RecordPatField R.AssocTypeArg R.Param R.PathType R.TypeBound R.Type_
      step.else_branch step.expr_kind step.stmt_kind step.pat_kind step.generic_arg step.type_kind step.block step.expr step.path
      step.segment step.field step.field_list step.stmt step.arm step.call step.pat step.pat_field step.assoc_type_arg step.param
      step.path_type step.type_bound step.type
