-- Induction over written trees: what is claimed of each tree, where it is of each one whose parts it is claimed of.
use Rattle.std.proofs.Common.{◌≡◌, subst}
use Rattle.hir_syntax.specs.declared.ast.ElseBranch.{roll-ElseBranch}
use Rattle.hir_syntax.specs.declared.ast.ExprKind.{roll-ExprKind}
use Rattle.hir_syntax.specs.declared.ast.StmtKind.{roll-StmtKind}
use Rattle.hir_syntax.specs.declared.pats.PatKind.{roll-PatKind}
use Rattle.hir_syntax.specs.declared.types.GenericArg.{roll-GenericArg}
use Rattle.hir_syntax.specs.declared.types.TypeKind.{roll-TypeKind}
use Rattle.hir_syntax.specs.declared.ast.BlockExpr.{roll-BlockExpr}
use Rattle.hir_syntax.specs.declared.ast.Expr.{Expr as AstExpr, roll-Expr}
use Rattle.hir_syntax.specs.declared.ast.Path.{Path as AstPath, roll-Path}
use Rattle.hir_syntax.specs.declared.ast.PathSegment.{PathSegment as AstPathSegment, roll-PathSegment}
use Rattle.hir_syntax.specs.declared.ast.RecordExprField.{roll-RecordExprField}
use Rattle.hir_syntax.specs.declared.ast.RecordExprFieldList.{roll-RecordExprFieldList}
use Rattle.hir_syntax.specs.declared.ast.Stmt.{Stmt as AstStmt, roll-Stmt}
use Rattle.hir_syntax.specs.declared.branches.MatchArm.{roll-MatchArm}
use Rattle.hir_syntax.specs.declared.macros.MacroCall.{roll-MacroCall}
use Rattle.hir_syntax.specs.declared.pats.Pat.{Pat as AstPat, roll-Pat}
use Rattle.hir_syntax.specs.declared.pats.RecordPatField.{roll-RecordPatField}
use Rattle.hir_syntax.specs.declared.types.AssocTypeArg.{roll-AssocTypeArg}
use Rattle.hir_syntax.specs.declared.types.Param.{roll-Param}
use Rattle.hir_syntax.specs.declared.types.PathType.{roll-PathType}
use Rattle.hir_syntax.specs.declared.types.TypeBound.{TypeBound as AstTypeBound, roll-TypeBound}
use Rattle.hir_syntax.specs.declared.types.Type_.{Type_ as AstType_, roll-Type_}
use Rattle.hir_syntax.specs.declared.ast.ElseBranch.TheFolds as folds
use Rattle.hir_env.specs.Layers.{ElseBranchLayer, ExprKindLayer, StmtKindLayer, BlockExprLayer, ExprLayer, RecordExprFieldLayer}
use Rattle.hir_env.specs.Layers.{RecordExprFieldListLayer, StmtLayer, MatchArmLayer, MacroCallLayer, written}
use Rattle.hir_env.specs.TypeLayers.{GenericArgLayer, TypeKindLayer, PathLayer, PathSegmentLayer, AssocTypeArgLayer, ParamLayer}
use Rattle.hir_env.specs.TypeLayers.{PathTypeLayer, TypeBoundLayer, Type_Layer}
use Rattle.hir_env.specs.PatLayers.{PatKindLayer, PatLayer, RecordPatFieldLayer}
use Rattle.spec_fold.specs.Claims.{Claims, claimed}
use Rattle.spec_fold.proofs.Maps.{drop_claims, map_else_branch, map_expr_kind, map_stmt_kind, map_pat_kind, map_generic_arg, map_type_kind}
use Rattle.spec_fold.proofs.Maps.{map_block, map_expr, map_path, map_segment, map_field, map_field_list, map_stmt, map_arm, map_call}
use Rattle.spec_fold.proofs.Maps.{map_pat, map_pat_field, map_assoc_type_arg, map_param, map_path_type, map_type_bound, map_type}

pub record Steps (C : Claims) : Type 0 where
  pub else_branch : (y : ElseBranchLayer (claimed C)) → C.ElseBranch (roll-ElseBranch (map_else_branch (drop_claims C) y))
  pub expr_kind : (y : ExprKindLayer (claimed C)) → C.ExprKind (roll-ExprKind (map_expr_kind (drop_claims C) y))
  pub stmt_kind : (y : StmtKindLayer (claimed C)) → C.StmtKind (roll-StmtKind (map_stmt_kind (drop_claims C) y))
  pub pat_kind : (y : PatKindLayer (claimed C)) → C.PatKind (roll-PatKind (map_pat_kind (drop_claims C) y))
  pub generic_arg : (y : GenericArgLayer (claimed C)) → C.GenericArg (roll-GenericArg (map_generic_arg (drop_claims C) y))
  pub type_kind : (y : TypeKindLayer (claimed C)) → C.TypeKind (roll-TypeKind (map_type_kind (drop_claims C) y))
  pub block : (y : BlockExprLayer (claimed C)) → C.BlockExpr (roll-BlockExpr (map_block (drop_claims C) y))
  pub expr : (y : ExprLayer (claimed C)) → C.Expr (roll-Expr (map_expr (drop_claims C) y))
  pub path : (y : PathLayer (claimed C)) → C.Path (roll-Path (map_path (drop_claims C) y))
  pub segment : (y : PathSegmentLayer (claimed C)) → C.PathSegment (roll-PathSegment (map_segment (drop_claims C) y))
  pub field : (y : RecordExprFieldLayer (claimed C)) → C.RecordExprField (roll-RecordExprField (map_field (drop_claims C) y))
  pub field_list : (y : RecordExprFieldListLayer (claimed C))
      → C.RecordExprFieldList (roll-RecordExprFieldList (map_field_list (drop_claims C) y))
  pub stmt : (y : StmtLayer (claimed C)) → C.Stmt (roll-Stmt (map_stmt (drop_claims C) y))
  pub arm : (y : MatchArmLayer (claimed C)) → C.MatchArm (roll-MatchArm (map_arm (drop_claims C) y))
  pub call : (y : MacroCallLayer (claimed C)) → C.MacroCall (roll-MacroCall (map_call (drop_claims C) y))
  pub pat : (y : PatLayer (claimed C)) → C.Pat (roll-Pat (map_pat (drop_claims C) y))
  pub pat_field : (y : RecordPatFieldLayer (claimed C)) → C.RecordPatField (roll-RecordPatField (map_pat_field (drop_claims C) y))
  pub assoc_type_arg : (y : AssocTypeArgLayer (claimed C)) → C.AssocTypeArg (roll-AssocTypeArg (map_assoc_type_arg (drop_claims C) y))
  pub param : (y : ParamLayer (claimed C)) → C.Param (roll-Param (map_param (drop_claims C) y))
  pub path_type : (y : PathTypeLayer (claimed C)) → C.PathType (roll-PathType (map_path_type (drop_claims C) y))
  pub type_bound : (y : TypeBoundLayer (claimed C)) → C.TypeBound (roll-TypeBound (map_type_bound (drop_claims C) y))
  pub type : (y : Type_Layer (claimed C)) → C.Type_ (roll-Type_ (map_type (drop_claims C) y))

module _ (C : Claims) (step : Steps C) where
  step_else_branch : (x : ElseBranchLayer written) (y : ElseBranchLayer (claimed C)) → map_else_branch (drop_claims C) y ≡ x
      → C.ElseBranch (roll-ElseBranch x)
  step_else_branch x y is = subst (λ z. C.ElseBranch (roll-ElseBranch z)) is (step.else_branch y)

  step_expr_kind : (x : ExprKindLayer written) (y : ExprKindLayer (claimed C)) → map_expr_kind (drop_claims C) y ≡ x
      → C.ExprKind (roll-ExprKind x)
  step_expr_kind x y is = subst (λ z. C.ExprKind (roll-ExprKind z)) is (step.expr_kind y)

  step_stmt_kind : (x : StmtKindLayer written) (y : StmtKindLayer (claimed C)) → map_stmt_kind (drop_claims C) y ≡ x
      → C.StmtKind (roll-StmtKind x)
  step_stmt_kind x y is = subst (λ z. C.StmtKind (roll-StmtKind z)) is (step.stmt_kind y)

  step_pat_kind : (x : PatKindLayer written) (y : PatKindLayer (claimed C)) → map_pat_kind (drop_claims C) y ≡ x
      → C.PatKind (roll-PatKind x)
  step_pat_kind x y is = subst (λ z. C.PatKind (roll-PatKind z)) is (step.pat_kind y)

  step_generic_arg : (x : GenericArgLayer written) (y : GenericArgLayer (claimed C)) → map_generic_arg (drop_claims C) y ≡ x
      → C.GenericArg (roll-GenericArg x)
  step_generic_arg x y is = subst (λ z. C.GenericArg (roll-GenericArg z)) is (step.generic_arg y)

  step_type_kind : (x : TypeKindLayer written) (y : TypeKindLayer (claimed C)) → map_type_kind (drop_claims C) y ≡ x
      → C.TypeKind (roll-TypeKind x)
  step_type_kind x y is = subst (λ z. C.TypeKind (roll-TypeKind z)) is (step.type_kind y)

  step_block : (x : BlockExprLayer written) (y : BlockExprLayer (claimed C)) → map_block (drop_claims C) y ≡ x
      → C.BlockExpr (roll-BlockExpr x)
  step_block x y is = subst (λ z. C.BlockExpr (roll-BlockExpr z)) is (step.block y)

  step_expr : (x : ExprLayer written) (y : ExprLayer (claimed C)) → map_expr (drop_claims C) y ≡ x
      → C.Expr (roll-Expr x)
  step_expr x y is = subst (λ z. C.Expr (roll-Expr z)) is (step.expr y)

  step_path : (x : PathLayer written) (y : PathLayer (claimed C)) → map_path (drop_claims C) y ≡ x
      → C.Path (roll-Path x)
  step_path x y is = subst (λ z. C.Path (roll-Path z)) is (step.path y)

  step_segment : (x : PathSegmentLayer written) (y : PathSegmentLayer (claimed C)) → map_segment (drop_claims C) y ≡ x
      → C.PathSegment (roll-PathSegment x)
  step_segment x y is = subst (λ z. C.PathSegment (roll-PathSegment z)) is (step.segment y)

  step_field : (x : RecordExprFieldLayer written) (y : RecordExprFieldLayer (claimed C)) → map_field (drop_claims C) y ≡ x
      → C.RecordExprField (roll-RecordExprField x)
  step_field x y is = subst (λ z. C.RecordExprField (roll-RecordExprField z)) is (step.field y)

  step_field_list : (x : RecordExprFieldListLayer written) (y : RecordExprFieldListLayer (claimed C)) → map_field_list (drop_claims C) y ≡ x
      → C.RecordExprFieldList (roll-RecordExprFieldList x)
  step_field_list x y is = subst (λ z. C.RecordExprFieldList (roll-RecordExprFieldList z)) is (step.field_list y)

  step_stmt : (x : StmtLayer written) (y : StmtLayer (claimed C)) → map_stmt (drop_claims C) y ≡ x
      → C.Stmt (roll-Stmt x)
  step_stmt x y is = subst (λ z. C.Stmt (roll-Stmt z)) is (step.stmt y)

  step_arm : (x : MatchArmLayer written) (y : MatchArmLayer (claimed C)) → map_arm (drop_claims C) y ≡ x
      → C.MatchArm (roll-MatchArm x)
  step_arm x y is = subst (λ z. C.MatchArm (roll-MatchArm z)) is (step.arm y)

  step_call : (x : MacroCallLayer written) (y : MacroCallLayer (claimed C)) → map_call (drop_claims C) y ≡ x
      → C.MacroCall (roll-MacroCall x)
  step_call x y is = subst (λ z. C.MacroCall (roll-MacroCall z)) is (step.call y)

  step_pat : (x : PatLayer written) (y : PatLayer (claimed C)) → map_pat (drop_claims C) y ≡ x
      → C.Pat (roll-Pat x)
  step_pat x y is = subst (λ z. C.Pat (roll-Pat z)) is (step.pat y)

  step_pat_field : (x : RecordPatFieldLayer written) (y : RecordPatFieldLayer (claimed C)) → map_pat_field (drop_claims C) y ≡ x
      → C.RecordPatField (roll-RecordPatField x)
  step_pat_field x y is = subst (λ z. C.RecordPatField (roll-RecordPatField z)) is (step.pat_field y)

  step_assoc_type_arg : (x : AssocTypeArgLayer written) (y : AssocTypeArgLayer (claimed C)) → map_assoc_type_arg (drop_claims C) y ≡ x
      → C.AssocTypeArg (roll-AssocTypeArg x)
  step_assoc_type_arg x y is = subst (λ z. C.AssocTypeArg (roll-AssocTypeArg z)) is (step.assoc_type_arg y)

  step_param : (x : ParamLayer written) (y : ParamLayer (claimed C)) → map_param (drop_claims C) y ≡ x
      → C.Param (roll-Param x)
  step_param x y is = subst (λ z. C.Param (roll-Param z)) is (step.param y)

  step_path_type : (x : PathTypeLayer written) (y : PathTypeLayer (claimed C)) → map_path_type (drop_claims C) y ≡ x
      → C.PathType (roll-PathType x)
  step_path_type x y is = subst (λ z. C.PathType (roll-PathType z)) is (step.path_type y)

  step_type_bound : (x : TypeBoundLayer written) (y : TypeBoundLayer (claimed C)) → map_type_bound (drop_claims C) y ≡ x
      → C.TypeBound (roll-TypeBound x)
  step_type_bound x y is = subst (λ z. C.TypeBound (roll-TypeBound z)) is (step.type_bound y)

  step_type : (x : Type_Layer written) (y : Type_Layer (claimed C)) → map_type (drop_claims C) y ≡ x
      → C.Type_ (roll-Type_ x)
  step_type x y is = subst (λ z. C.Type_ (roll-Type_ z)) is (step.type y)

  pub each_expr : (x : AstExpr) → C.Expr x
  each_expr = folds.ind-Expr
      C.ElseBranch C.ExprKind C.StmtKind C.PatKind C.GenericArg C.TypeKind C.BlockExpr C.Expr C.Path C.PathSegment C.RecordExprField
      C.RecordExprFieldList C.Stmt C.MatchArm C.MacroCall C.Pat C.RecordPatField C.AssocTypeArg C.Param C.PathType C.TypeBound C.Type_
      step_else_branch step_expr_kind step_stmt_kind step_pat_kind step_generic_arg step_type_kind step_block step_expr step_path
      step_segment step_field step_field_list step_stmt step_arm step_call step_pat step_pat_field step_assoc_type_arg step_param
      step_path_type step_type_bound step_type

  pub each_stmt : (x : AstStmt) → C.Stmt x
  each_stmt = folds.ind-Stmt
      C.ElseBranch C.ExprKind C.StmtKind C.PatKind C.GenericArg C.TypeKind C.BlockExpr C.Expr C.Path C.PathSegment C.RecordExprField
      C.RecordExprFieldList C.Stmt C.MatchArm C.MacroCall C.Pat C.RecordPatField C.AssocTypeArg C.Param C.PathType C.TypeBound C.Type_
      step_else_branch step_expr_kind step_stmt_kind step_pat_kind step_generic_arg step_type_kind step_block step_expr step_path
      step_segment step_field step_field_list step_stmt step_arm step_call step_pat step_pat_field step_assoc_type_arg step_param
      step_path_type step_type_bound step_type

  pub each_pat : (x : AstPat) → C.Pat x
  each_pat = folds.ind-Pat
      C.ElseBranch C.ExprKind C.StmtKind C.PatKind C.GenericArg C.TypeKind C.BlockExpr C.Expr C.Path C.PathSegment C.RecordExprField
      C.RecordExprFieldList C.Stmt C.MatchArm C.MacroCall C.Pat C.RecordPatField C.AssocTypeArg C.Param C.PathType C.TypeBound C.Type_
      step_else_branch step_expr_kind step_stmt_kind step_pat_kind step_generic_arg step_type_kind step_block step_expr step_path
      step_segment step_field step_field_list step_stmt step_arm step_call step_pat step_pat_field step_assoc_type_arg step_param
      step_path_type step_type_bound step_type

  pub each_type : (x : AstType_) → C.Type_ x
  each_type = folds.ind-Type_
      C.ElseBranch C.ExprKind C.StmtKind C.PatKind C.GenericArg C.TypeKind C.BlockExpr C.Expr C.Path C.PathSegment C.RecordExprField
      C.RecordExprFieldList C.Stmt C.MatchArm C.MacroCall C.Pat C.RecordPatField C.AssocTypeArg C.Param C.PathType C.TypeBound C.Type_
      step_else_branch step_expr_kind step_stmt_kind step_pat_kind step_generic_arg step_type_kind step_block step_expr step_path
      step_segment step_field step_field_list step_stmt step_arm step_call step_pat step_pat_field step_assoc_type_arg step_param
      step_path_type step_type_bound step_type

  pub each_path : (x : AstPath) → C.Path x
  each_path = folds.ind-Path
      C.ElseBranch C.ExprKind C.StmtKind C.PatKind C.GenericArg C.TypeKind C.BlockExpr C.Expr C.Path C.PathSegment C.RecordExprField
      C.RecordExprFieldList C.Stmt C.MatchArm C.MacroCall C.Pat C.RecordPatField C.AssocTypeArg C.Param C.PathType C.TypeBound C.Type_
      step_else_branch step_expr_kind step_stmt_kind step_pat_kind step_generic_arg step_type_kind step_block step_expr step_path
      step_segment step_field step_field_list step_stmt step_arm step_call step_pat step_pat_field step_assoc_type_arg step_param
      step_path_type step_type_bound step_type

  pub each_segment : (x : AstPathSegment) → C.PathSegment x
  each_segment = folds.ind-PathSegment
      C.ElseBranch C.ExprKind C.StmtKind C.PatKind C.GenericArg C.TypeKind C.BlockExpr C.Expr C.Path C.PathSegment C.RecordExprField
      C.RecordExprFieldList C.Stmt C.MatchArm C.MacroCall C.Pat C.RecordPatField C.AssocTypeArg C.Param C.PathType C.TypeBound C.Type_
      step_else_branch step_expr_kind step_stmt_kind step_pat_kind step_generic_arg step_type_kind step_block step_expr step_path
      step_segment step_field step_field_list step_stmt step_arm step_call step_pat step_pat_field step_assoc_type_arg step_param
      step_path_type step_type_bound step_type

  pub each_type_bound : (x : AstTypeBound) → C.TypeBound x
  each_type_bound = folds.ind-TypeBound
      C.ElseBranch C.ExprKind C.StmtKind C.PatKind C.GenericArg C.TypeKind C.BlockExpr C.Expr C.Path C.PathSegment C.RecordExprField
      C.RecordExprFieldList C.Stmt C.MatchArm C.MacroCall C.Pat C.RecordPatField C.AssocTypeArg C.Param C.PathType C.TypeBound C.Type_
      step_else_branch step_expr_kind step_stmt_kind step_pat_kind step_generic_arg step_type_kind step_block step_expr step_path
      step_segment step_field step_field_list step_stmt step_arm step_call step_pat step_pat_field step_assoc_type_arg step_param
      step_path_type step_type_bound step_type
