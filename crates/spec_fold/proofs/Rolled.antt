-- What is made of a tree is one step over what is made of its parts.
use Rattle.std.proofs.Common.{◌≡◌}
use Rattle.hir_syntax.specs.declared.ast.ElseBranch.{roll-ElseBranch}
use Rattle.hir_syntax.specs.declared.ast.ExprKind.{roll-ExprKind}
use Rattle.hir_syntax.specs.declared.ast.StmtKind.{roll-StmtKind}
use Rattle.hir_syntax.specs.declared.pats.PatKind.{roll-PatKind}
use Rattle.hir_syntax.specs.declared.types.GenericArg.{roll-GenericArg}
use Rattle.hir_syntax.specs.declared.types.TypeKind.{roll-TypeKind}
use Rattle.hir_syntax.specs.declared.ast.BlockExpr.{roll-BlockExpr}
use Rattle.hir_syntax.specs.declared.ast.Expr.{roll-Expr}
use Rattle.hir_syntax.specs.declared.ast.Path.{roll-Path}
use Rattle.hir_syntax.specs.declared.ast.PathSegment.{roll-PathSegment}
use Rattle.hir_syntax.specs.declared.ast.RecordExprField.{roll-RecordExprField}
use Rattle.hir_syntax.specs.declared.ast.RecordExprFieldList.{roll-RecordExprFieldList}
use Rattle.hir_syntax.specs.declared.ast.Stmt.{roll-Stmt}
use Rattle.hir_syntax.specs.declared.branches.MatchArm.{roll-MatchArm}
use Rattle.hir_syntax.specs.declared.macros.MacroCall.{roll-MacroCall}
use Rattle.hir_syntax.specs.declared.pats.Pat.{roll-Pat}
use Rattle.hir_syntax.specs.declared.pats.RecordPatField.{roll-RecordPatField}
use Rattle.hir_syntax.specs.declared.types.AssocTypeArg.{roll-AssocTypeArg}
use Rattle.hir_syntax.specs.declared.types.Param.{roll-Param}
use Rattle.hir_syntax.specs.declared.types.PathType.{roll-PathType}
use Rattle.hir_syntax.specs.declared.types.TypeBound.{roll-TypeBound}
use Rattle.hir_syntax.specs.declared.types.Type_.{roll-Type_}
use Rattle.hir_syntax.specs.declared.ast.ElseBranch.TheFolds as folds
use Rattle.hir_env.specs.Layers.{ElseBranchLayer, ExprKindLayer, StmtKindLayer, BlockExprLayer, ExprLayer, RecordExprFieldLayer}
use Rattle.hir_env.specs.Layers.{RecordExprFieldListLayer, StmtLayer, MatchArmLayer, MacroCallLayer, Sorts, written}
use Rattle.hir_env.specs.TypeLayers.{GenericArgLayer, TypeKindLayer, PathLayer, PathSegmentLayer, AssocTypeArgLayer, ParamLayer}
use Rattle.hir_env.specs.TypeLayers.{PathTypeLayer, TypeBoundLayer, Type_Layer}
use Rattle.hir_env.specs.PatLayers.{PatKindLayer, PatLayer, RecordPatFieldLayer}
use Rattle.spec_fold.specs.Folds.{Steps, fold_else_branch, fold_expr_kind, fold_stmt_kind, fold_pat_kind, fold_generic_arg, fold_type_kind}
use Rattle.spec_fold.specs.Folds.{fold_block, fold_expr, fold_path, fold_segment, fold_field, fold_field_list, fold_stmt, fold_arm}
use Rattle.spec_fold.specs.Folds.{fold_call, fold_pat, fold_pat_field, fold_assoc_type_arg, fold_param, fold_path_type, fold_type_bound}
use Rattle.spec_fold.specs.Folds.{fold_type}
use Rattle.spec_fold.proofs.Maps.{making, map_else_branch, map_expr_kind, map_stmt_kind, map_pat_kind, map_generic_arg, map_type_kind}
use Rattle.spec_fold.proofs.Maps.{map_block, map_expr, map_path, map_segment, map_field, map_field_list, map_stmt, map_arm, map_call}
use Rattle.spec_fold.proofs.Maps.{map_pat, map_pat_field, map_assoc_type_arg, map_param, map_path_type, map_type_bound, map_type}

module _ (R : Sorts) (step : Steps R) where
  pub rolled_else_branch : (x : ElseBranchLayer written)
      → fold_else_branch R step (roll-ElseBranch x) ≡ step.else_branch (map_else_branch (making R step) x)
  unfolding fold_else_branch fold_expr_kind fold_stmt_kind fold_pat_kind fold_generic_arg fold_type_kind fold_block fold_expr fold_path
      fold_segment fold_field fold_field_list fold_stmt fold_arm fold_call fold_pat fold_pat_field fold_assoc_type_arg fold_param
      fold_path_type fold_type_bound fold_type
  rolled_else_branch x = folds.para-roll-ElseBranch
      R.ElseBranch R.ExprKind R.StmtKind R.PatKind R.GenericArg R.TypeKind R.BlockExpr R.Expr R.Path R.PathSegment R.RecordExprField
      R.RecordExprFieldList R.Stmt R.MatchArm R.MacroCall R.Pat R.RecordPatField R.AssocTypeArg R.Param R.PathType R.TypeBound R.Type_
      step.else_branch step.expr_kind step.stmt_kind step.pat_kind step.generic_arg step.type_kind step.block step.expr step.path
      step.segment step.field step.field_list step.stmt step.arm step.call step.pat step.pat_field step.assoc_type_arg step.param
      step.path_type step.type_bound step.type x

  pub rolled_expr_kind : (x : ExprKindLayer written)
      → fold_expr_kind R step (roll-ExprKind x) ≡ step.expr_kind (map_expr_kind (making R step) x)
  unfolding fold_else_branch fold_expr_kind fold_stmt_kind fold_pat_kind fold_generic_arg fold_type_kind fold_block fold_expr fold_path
      fold_segment fold_field fold_field_list fold_stmt fold_arm fold_call fold_pat fold_pat_field fold_assoc_type_arg fold_param
      fold_path_type fold_type_bound fold_type
  rolled_expr_kind x = folds.para-roll-ExprKind
      R.ElseBranch R.ExprKind R.StmtKind R.PatKind R.GenericArg R.TypeKind R.BlockExpr R.Expr R.Path R.PathSegment R.RecordExprField
      R.RecordExprFieldList R.Stmt R.MatchArm R.MacroCall R.Pat R.RecordPatField R.AssocTypeArg R.Param R.PathType R.TypeBound R.Type_
      step.else_branch step.expr_kind step.stmt_kind step.pat_kind step.generic_arg step.type_kind step.block step.expr step.path
      step.segment step.field step.field_list step.stmt step.arm step.call step.pat step.pat_field step.assoc_type_arg step.param
      step.path_type step.type_bound step.type x

  pub rolled_stmt_kind : (x : StmtKindLayer written)
      → fold_stmt_kind R step (roll-StmtKind x) ≡ step.stmt_kind (map_stmt_kind (making R step) x)
  unfolding fold_else_branch fold_expr_kind fold_stmt_kind fold_pat_kind fold_generic_arg fold_type_kind fold_block fold_expr fold_path
      fold_segment fold_field fold_field_list fold_stmt fold_arm fold_call fold_pat fold_pat_field fold_assoc_type_arg fold_param
      fold_path_type fold_type_bound fold_type
  rolled_stmt_kind x = folds.para-roll-StmtKind
      R.ElseBranch R.ExprKind R.StmtKind R.PatKind R.GenericArg R.TypeKind R.BlockExpr R.Expr R.Path R.PathSegment R.RecordExprField
      R.RecordExprFieldList R.Stmt R.MatchArm R.MacroCall R.Pat R.RecordPatField R.AssocTypeArg R.Param R.PathType R.TypeBound R.Type_
      step.else_branch step.expr_kind step.stmt_kind step.pat_kind step.generic_arg step.type_kind step.block step.expr step.path
      step.segment step.field step.field_list step.stmt step.arm step.call step.pat step.pat_field step.assoc_type_arg step.param
      step.path_type step.type_bound step.type x

  pub rolled_pat_kind : (x : PatKindLayer written)
      → fold_pat_kind R step (roll-PatKind x) ≡ step.pat_kind (map_pat_kind (making R step) x)
  unfolding fold_else_branch fold_expr_kind fold_stmt_kind fold_pat_kind fold_generic_arg fold_type_kind fold_block fold_expr fold_path
      fold_segment fold_field fold_field_list fold_stmt fold_arm fold_call fold_pat fold_pat_field fold_assoc_type_arg fold_param
      fold_path_type fold_type_bound fold_type
  rolled_pat_kind x = folds.para-roll-PatKind
      R.ElseBranch R.ExprKind R.StmtKind R.PatKind R.GenericArg R.TypeKind R.BlockExpr R.Expr R.Path R.PathSegment R.RecordExprField
      R.RecordExprFieldList R.Stmt R.MatchArm R.MacroCall R.Pat R.RecordPatField R.AssocTypeArg R.Param R.PathType R.TypeBound R.Type_
      step.else_branch step.expr_kind step.stmt_kind step.pat_kind step.generic_arg step.type_kind step.block step.expr step.path
      step.segment step.field step.field_list step.stmt step.arm step.call step.pat step.pat_field step.assoc_type_arg step.param
      step.path_type step.type_bound step.type x

  pub rolled_generic_arg : (x : GenericArgLayer written)
      → fold_generic_arg R step (roll-GenericArg x) ≡ step.generic_arg (map_generic_arg (making R step) x)
  unfolding fold_else_branch fold_expr_kind fold_stmt_kind fold_pat_kind fold_generic_arg fold_type_kind fold_block fold_expr fold_path
      fold_segment fold_field fold_field_list fold_stmt fold_arm fold_call fold_pat fold_pat_field fold_assoc_type_arg fold_param
      fold_path_type fold_type_bound fold_type
  rolled_generic_arg x = folds.para-roll-GenericArg
      R.ElseBranch R.ExprKind R.StmtKind R.PatKind R.GenericArg R.TypeKind R.BlockExpr R.Expr R.Path R.PathSegment R.RecordExprField
      R.RecordExprFieldList R.Stmt R.MatchArm R.MacroCall R.Pat R.RecordPatField R.AssocTypeArg R.Param R.PathType R.TypeBound R.Type_
      step.else_branch step.expr_kind step.stmt_kind step.pat_kind step.generic_arg step.type_kind step.block step.expr step.path
      step.segment step.field step.field_list step.stmt step.arm step.call step.pat step.pat_field step.assoc_type_arg step.param
      step.path_type step.type_bound step.type x

  pub rolled_type_kind : (x : TypeKindLayer written)
      → fold_type_kind R step (roll-TypeKind x) ≡ step.type_kind (map_type_kind (making R step) x)
  unfolding fold_else_branch fold_expr_kind fold_stmt_kind fold_pat_kind fold_generic_arg fold_type_kind fold_block fold_expr fold_path
      fold_segment fold_field fold_field_list fold_stmt fold_arm fold_call fold_pat fold_pat_field fold_assoc_type_arg fold_param
      fold_path_type fold_type_bound fold_type
  rolled_type_kind x = folds.para-roll-TypeKind
      R.ElseBranch R.ExprKind R.StmtKind R.PatKind R.GenericArg R.TypeKind R.BlockExpr R.Expr R.Path R.PathSegment R.RecordExprField
      R.RecordExprFieldList R.Stmt R.MatchArm R.MacroCall R.Pat R.RecordPatField R.AssocTypeArg R.Param R.PathType R.TypeBound R.Type_
      step.else_branch step.expr_kind step.stmt_kind step.pat_kind step.generic_arg step.type_kind step.block step.expr step.path
      step.segment step.field step.field_list step.stmt step.arm step.call step.pat step.pat_field step.assoc_type_arg step.param
      step.path_type step.type_bound step.type x

  pub rolled_block : (x : BlockExprLayer written)
      → fold_block R step (roll-BlockExpr x) ≡ step.block (map_block (making R step) x)
  unfolding fold_else_branch fold_expr_kind fold_stmt_kind fold_pat_kind fold_generic_arg fold_type_kind fold_block fold_expr fold_path
      fold_segment fold_field fold_field_list fold_stmt fold_arm fold_call fold_pat fold_pat_field fold_assoc_type_arg fold_param
      fold_path_type fold_type_bound fold_type
  rolled_block x = folds.para-roll-BlockExpr
      R.ElseBranch R.ExprKind R.StmtKind R.PatKind R.GenericArg R.TypeKind R.BlockExpr R.Expr R.Path R.PathSegment R.RecordExprField
      R.RecordExprFieldList R.Stmt R.MatchArm R.MacroCall R.Pat R.RecordPatField R.AssocTypeArg R.Param R.PathType R.TypeBound R.Type_
      step.else_branch step.expr_kind step.stmt_kind step.pat_kind step.generic_arg step.type_kind step.block step.expr step.path
      step.segment step.field step.field_list step.stmt step.arm step.call step.pat step.pat_field step.assoc_type_arg step.param
      step.path_type step.type_bound step.type x

  pub rolled_expr : (x : ExprLayer written)
      → fold_expr R step (roll-Expr x) ≡ step.expr (map_expr (making R step) x)
  unfolding fold_else_branch fold_expr_kind fold_stmt_kind fold_pat_kind fold_generic_arg fold_type_kind fold_block fold_expr fold_path
      fold_segment fold_field fold_field_list fold_stmt fold_arm fold_call fold_pat fold_pat_field fold_assoc_type_arg fold_param
      fold_path_type fold_type_bound fold_type
  rolled_expr x = folds.para-roll-Expr
      R.ElseBranch R.ExprKind R.StmtKind R.PatKind R.GenericArg R.TypeKind R.BlockExpr R.Expr R.Path R.PathSegment R.RecordExprField
      R.RecordExprFieldList R.Stmt R.MatchArm R.MacroCall R.Pat R.RecordPatField R.AssocTypeArg R.Param R.PathType R.TypeBound R.Type_
      step.else_branch step.expr_kind step.stmt_kind step.pat_kind step.generic_arg step.type_kind step.block step.expr step.path
      step.segment step.field step.field_list step.stmt step.arm step.call step.pat step.pat_field step.assoc_type_arg step.param
      step.path_type step.type_bound step.type x

  pub rolled_path : (x : PathLayer written)
      → fold_path R step (roll-Path x) ≡ step.path (map_path (making R step) x)
  unfolding fold_else_branch fold_expr_kind fold_stmt_kind fold_pat_kind fold_generic_arg fold_type_kind fold_block fold_expr fold_path
      fold_segment fold_field fold_field_list fold_stmt fold_arm fold_call fold_pat fold_pat_field fold_assoc_type_arg fold_param
      fold_path_type fold_type_bound fold_type
  rolled_path x = folds.para-roll-Path
      R.ElseBranch R.ExprKind R.StmtKind R.PatKind R.GenericArg R.TypeKind R.BlockExpr R.Expr R.Path R.PathSegment R.RecordExprField
      R.RecordExprFieldList R.Stmt R.MatchArm R.MacroCall R.Pat R.RecordPatField R.AssocTypeArg R.Param R.PathType R.TypeBound R.Type_
      step.else_branch step.expr_kind step.stmt_kind step.pat_kind step.generic_arg step.type_kind step.block step.expr step.path
      step.segment step.field step.field_list step.stmt step.arm step.call step.pat step.pat_field step.assoc_type_arg step.param
      step.path_type step.type_bound step.type x

  pub rolled_segment : (x : PathSegmentLayer written)
      → fold_segment R step (roll-PathSegment x) ≡ step.segment (map_segment (making R step) x)
  unfolding fold_else_branch fold_expr_kind fold_stmt_kind fold_pat_kind fold_generic_arg fold_type_kind fold_block fold_expr fold_path
      fold_segment fold_field fold_field_list fold_stmt fold_arm fold_call fold_pat fold_pat_field fold_assoc_type_arg fold_param
      fold_path_type fold_type_bound fold_type
  rolled_segment x = folds.para-roll-PathSegment
      R.ElseBranch R.ExprKind R.StmtKind R.PatKind R.GenericArg R.TypeKind R.BlockExpr R.Expr R.Path R.PathSegment R.RecordExprField
      R.RecordExprFieldList R.Stmt R.MatchArm R.MacroCall R.Pat R.RecordPatField R.AssocTypeArg R.Param R.PathType R.TypeBound R.Type_
      step.else_branch step.expr_kind step.stmt_kind step.pat_kind step.generic_arg step.type_kind step.block step.expr step.path
      step.segment step.field step.field_list step.stmt step.arm step.call step.pat step.pat_field step.assoc_type_arg step.param
      step.path_type step.type_bound step.type x

  pub rolled_field : (x : RecordExprFieldLayer written)
      → fold_field R step (roll-RecordExprField x) ≡ step.field (map_field (making R step) x)
  unfolding fold_else_branch fold_expr_kind fold_stmt_kind fold_pat_kind fold_generic_arg fold_type_kind fold_block fold_expr fold_path
      fold_segment fold_field fold_field_list fold_stmt fold_arm fold_call fold_pat fold_pat_field fold_assoc_type_arg fold_param
      fold_path_type fold_type_bound fold_type
  rolled_field x = folds.para-roll-RecordExprField
      R.ElseBranch R.ExprKind R.StmtKind R.PatKind R.GenericArg R.TypeKind R.BlockExpr R.Expr R.Path R.PathSegment R.RecordExprField
      R.RecordExprFieldList R.Stmt R.MatchArm R.MacroCall R.Pat R.RecordPatField R.AssocTypeArg R.Param R.PathType R.TypeBound R.Type_
      step.else_branch step.expr_kind step.stmt_kind step.pat_kind step.generic_arg step.type_kind step.block step.expr step.path
      step.segment step.field step.field_list step.stmt step.arm step.call step.pat step.pat_field step.assoc_type_arg step.param
      step.path_type step.type_bound step.type x

  pub rolled_field_list : (x : RecordExprFieldListLayer written)
      → fold_field_list R step (roll-RecordExprFieldList x) ≡ step.field_list (map_field_list (making R step) x)
  unfolding fold_else_branch fold_expr_kind fold_stmt_kind fold_pat_kind fold_generic_arg fold_type_kind fold_block fold_expr fold_path
      fold_segment fold_field fold_field_list fold_stmt fold_arm fold_call fold_pat fold_pat_field fold_assoc_type_arg fold_param
      fold_path_type fold_type_bound fold_type
  rolled_field_list x = folds.para-roll-RecordExprFieldList
      R.ElseBranch R.ExprKind R.StmtKind R.PatKind R.GenericArg R.TypeKind R.BlockExpr R.Expr R.Path R.PathSegment R.RecordExprField
      R.RecordExprFieldList R.Stmt R.MatchArm R.MacroCall R.Pat R.RecordPatField R.AssocTypeArg R.Param R.PathType R.TypeBound R.Type_
      step.else_branch step.expr_kind step.stmt_kind step.pat_kind step.generic_arg step.type_kind step.block step.expr step.path
      step.segment step.field step.field_list step.stmt step.arm step.call step.pat step.pat_field step.assoc_type_arg step.param
      step.path_type step.type_bound step.type x

  pub rolled_stmt : (x : StmtLayer written)
      → fold_stmt R step (roll-Stmt x) ≡ step.stmt (map_stmt (making R step) x)
  unfolding fold_else_branch fold_expr_kind fold_stmt_kind fold_pat_kind fold_generic_arg fold_type_kind fold_block fold_expr fold_path
      fold_segment fold_field fold_field_list fold_stmt fold_arm fold_call fold_pat fold_pat_field fold_assoc_type_arg fold_param
      fold_path_type fold_type_bound fold_type
  rolled_stmt x = folds.para-roll-Stmt
      R.ElseBranch R.ExprKind R.StmtKind R.PatKind R.GenericArg R.TypeKind R.BlockExpr R.Expr R.Path R.PathSegment R.RecordExprField
      R.RecordExprFieldList R.Stmt R.MatchArm R.MacroCall R.Pat R.RecordPatField R.AssocTypeArg R.Param R.PathType R.TypeBound R.Type_
      step.else_branch step.expr_kind step.stmt_kind step.pat_kind step.generic_arg step.type_kind step.block step.expr step.path
      step.segment step.field step.field_list step.stmt step.arm step.call step.pat step.pat_field step.assoc_type_arg step.param
      step.path_type step.type_bound step.type x

  pub rolled_arm : (x : MatchArmLayer written)
      → fold_arm R step (roll-MatchArm x) ≡ step.arm (map_arm (making R step) x)
  unfolding fold_else_branch fold_expr_kind fold_stmt_kind fold_pat_kind fold_generic_arg fold_type_kind fold_block fold_expr fold_path
      fold_segment fold_field fold_field_list fold_stmt fold_arm fold_call fold_pat fold_pat_field fold_assoc_type_arg fold_param
      fold_path_type fold_type_bound fold_type
  rolled_arm x = folds.para-roll-MatchArm
      R.ElseBranch R.ExprKind R.StmtKind R.PatKind R.GenericArg R.TypeKind R.BlockExpr R.Expr R.Path R.PathSegment R.RecordExprField
      R.RecordExprFieldList R.Stmt R.MatchArm R.MacroCall R.Pat R.RecordPatField R.AssocTypeArg R.Param R.PathType R.TypeBound R.Type_
      step.else_branch step.expr_kind step.stmt_kind step.pat_kind step.generic_arg step.type_kind step.block step.expr step.path
      step.segment step.field step.field_list step.stmt step.arm step.call step.pat step.pat_field step.assoc_type_arg step.param
      step.path_type step.type_bound step.type x

  pub rolled_call : (x : MacroCallLayer written)
      → fold_call R step (roll-MacroCall x) ≡ step.call (map_call (making R step) x)
  unfolding fold_else_branch fold_expr_kind fold_stmt_kind fold_pat_kind fold_generic_arg fold_type_kind fold_block fold_expr fold_path
      fold_segment fold_field fold_field_list fold_stmt fold_arm fold_call fold_pat fold_pat_field fold_assoc_type_arg fold_param
      fold_path_type fold_type_bound fold_type
  rolled_call x = folds.para-roll-MacroCall
      R.ElseBranch R.ExprKind R.StmtKind R.PatKind R.GenericArg R.TypeKind R.BlockExpr R.Expr R.Path R.PathSegment R.RecordExprField
      R.RecordExprFieldList R.Stmt R.MatchArm R.MacroCall R.Pat R.RecordPatField R.AssocTypeArg R.Param R.PathType R.TypeBound R.Type_
      step.else_branch step.expr_kind step.stmt_kind step.pat_kind step.generic_arg step.type_kind step.block step.expr step.path
      step.segment step.field step.field_list step.stmt step.arm step.call step.pat step.pat_field step.assoc_type_arg step.param
      step.path_type step.type_bound step.type x

  pub rolled_pat : (x : PatLayer written)
      → fold_pat R step (roll-Pat x) ≡ step.pat (map_pat (making R step) x)
  unfolding fold_else_branch fold_expr_kind fold_stmt_kind fold_pat_kind fold_generic_arg fold_type_kind fold_block fold_expr fold_path
      fold_segment fold_field fold_field_list fold_stmt fold_arm fold_call fold_pat fold_pat_field fold_assoc_type_arg fold_param
      fold_path_type fold_type_bound fold_type
  rolled_pat x = folds.para-roll-Pat
      R.ElseBranch R.ExprKind R.StmtKind R.PatKind R.GenericArg R.TypeKind R.BlockExpr R.Expr R.Path R.PathSegment R.RecordExprField
      R.RecordExprFieldList R.Stmt R.MatchArm R.MacroCall R.Pat R.RecordPatField R.AssocTypeArg R.Param R.PathType R.TypeBound R.Type_
      step.else_branch step.expr_kind step.stmt_kind step.pat_kind step.generic_arg step.type_kind step.block step.expr step.path
      step.segment step.field step.field_list step.stmt step.arm step.call step.pat step.pat_field step.assoc_type_arg step.param
      step.path_type step.type_bound step.type x

  pub rolled_pat_field : (x : RecordPatFieldLayer written)
      → fold_pat_field R step (roll-RecordPatField x) ≡ step.pat_field (map_pat_field (making R step) x)
  unfolding fold_else_branch fold_expr_kind fold_stmt_kind fold_pat_kind fold_generic_arg fold_type_kind fold_block fold_expr fold_path
      fold_segment fold_field fold_field_list fold_stmt fold_arm fold_call fold_pat fold_pat_field fold_assoc_type_arg fold_param
      fold_path_type fold_type_bound fold_type
  rolled_pat_field x = folds.para-roll-RecordPatField
      R.ElseBranch R.ExprKind R.StmtKind R.PatKind R.GenericArg R.TypeKind R.BlockExpr R.Expr R.Path R.PathSegment R.RecordExprField
      R.RecordExprFieldList R.Stmt R.MatchArm R.MacroCall R.Pat R.RecordPatField R.AssocTypeArg R.Param R.PathType R.TypeBound R.Type_
      step.else_branch step.expr_kind step.stmt_kind step.pat_kind step.generic_arg step.type_kind step.block step.expr step.path
      step.segment step.field step.field_list step.stmt step.arm step.call step.pat step.pat_field step.assoc_type_arg step.param
      step.path_type step.type_bound step.type x

  pub rolled_assoc_type_arg : (x : AssocTypeArgLayer written)
      → fold_assoc_type_arg R step (roll-AssocTypeArg x) ≡ step.assoc_type_arg (map_assoc_type_arg (making R step) x)
  unfolding fold_else_branch fold_expr_kind fold_stmt_kind fold_pat_kind fold_generic_arg fold_type_kind fold_block fold_expr fold_path
      fold_segment fold_field fold_field_list fold_stmt fold_arm fold_call fold_pat fold_pat_field fold_assoc_type_arg fold_param
      fold_path_type fold_type_bound fold_type
  rolled_assoc_type_arg x = folds.para-roll-AssocTypeArg
      R.ElseBranch R.ExprKind R.StmtKind R.PatKind R.GenericArg R.TypeKind R.BlockExpr R.Expr R.Path R.PathSegment R.RecordExprField
      R.RecordExprFieldList R.Stmt R.MatchArm R.MacroCall R.Pat R.RecordPatField R.AssocTypeArg R.Param R.PathType R.TypeBound R.Type_
      step.else_branch step.expr_kind step.stmt_kind step.pat_kind step.generic_arg step.type_kind step.block step.expr step.path
      step.segment step.field step.field_list step.stmt step.arm step.call step.pat step.pat_field step.assoc_type_arg step.param
      step.path_type step.type_bound step.type x

  pub rolled_param : (x : ParamLayer written)
      → fold_param R step (roll-Param x) ≡ step.param (map_param (making R step) x)
  unfolding fold_else_branch fold_expr_kind fold_stmt_kind fold_pat_kind fold_generic_arg fold_type_kind fold_block fold_expr fold_path
      fold_segment fold_field fold_field_list fold_stmt fold_arm fold_call fold_pat fold_pat_field fold_assoc_type_arg fold_param
      fold_path_type fold_type_bound fold_type
  rolled_param x = folds.para-roll-Param
      R.ElseBranch R.ExprKind R.StmtKind R.PatKind R.GenericArg R.TypeKind R.BlockExpr R.Expr R.Path R.PathSegment R.RecordExprField
      R.RecordExprFieldList R.Stmt R.MatchArm R.MacroCall R.Pat R.RecordPatField R.AssocTypeArg R.Param R.PathType R.TypeBound R.Type_
      step.else_branch step.expr_kind step.stmt_kind step.pat_kind step.generic_arg step.type_kind step.block step.expr step.path
      step.segment step.field step.field_list step.stmt step.arm step.call step.pat step.pat_field step.assoc_type_arg step.param
      step.path_type step.type_bound step.type x

  pub rolled_path_type : (x : PathTypeLayer written)
      → fold_path_type R step (roll-PathType x) ≡ step.path_type (map_path_type (making R step) x)
  unfolding fold_else_branch fold_expr_kind fold_stmt_kind fold_pat_kind fold_generic_arg fold_type_kind fold_block fold_expr fold_path
      fold_segment fold_field fold_field_list fold_stmt fold_arm fold_call fold_pat fold_pat_field fold_assoc_type_arg fold_param
      fold_path_type fold_type_bound fold_type
  rolled_path_type x = folds.para-roll-PathType
      R.ElseBranch R.ExprKind R.StmtKind R.PatKind R.GenericArg R.TypeKind R.BlockExpr R.Expr R.Path R.PathSegment R.RecordExprField
      R.RecordExprFieldList R.Stmt R.MatchArm R.MacroCall R.Pat R.RecordPatField R.AssocTypeArg R.Param R.PathType R.TypeBound R.Type_
      step.else_branch step.expr_kind step.stmt_kind step.pat_kind step.generic_arg step.type_kind step.block step.expr step.path
      step.segment step.field step.field_list step.stmt step.arm step.call step.pat step.pat_field step.assoc_type_arg step.param
      step.path_type step.type_bound step.type x

  pub rolled_type_bound : (x : TypeBoundLayer written)
      → fold_type_bound R step (roll-TypeBound x) ≡ step.type_bound (map_type_bound (making R step) x)
  unfolding fold_else_branch fold_expr_kind fold_stmt_kind fold_pat_kind fold_generic_arg fold_type_kind fold_block fold_expr fold_path
      fold_segment fold_field fold_field_list fold_stmt fold_arm fold_call fold_pat fold_pat_field fold_assoc_type_arg fold_param
      fold_path_type fold_type_bound fold_type
  rolled_type_bound x = folds.para-roll-TypeBound
      R.ElseBranch R.ExprKind R.StmtKind R.PatKind R.GenericArg R.TypeKind R.BlockExpr R.Expr R.Path R.PathSegment R.RecordExprField
      R.RecordExprFieldList R.Stmt R.MatchArm R.MacroCall R.Pat R.RecordPatField R.AssocTypeArg R.Param R.PathType R.TypeBound R.Type_
      step.else_branch step.expr_kind step.stmt_kind step.pat_kind step.generic_arg step.type_kind step.block step.expr step.path
      step.segment step.field step.field_list step.stmt step.arm step.call step.pat step.pat_field step.assoc_type_arg step.param
      step.path_type step.type_bound step.type x

  pub rolled_type : (x : Type_Layer written)
      → fold_type R step (roll-Type_ x) ≡ step.type (map_type (making R step) x)
  unfolding fold_else_branch fold_expr_kind fold_stmt_kind fold_pat_kind fold_generic_arg fold_type_kind fold_block fold_expr fold_path
      fold_segment fold_field fold_field_list fold_stmt fold_arm fold_call fold_pat fold_pat_field fold_assoc_type_arg fold_param
      fold_path_type fold_type_bound fold_type
  rolled_type x = folds.para-roll-Type_
      R.ElseBranch R.ExprKind R.StmtKind R.PatKind R.GenericArg R.TypeKind R.BlockExpr R.Expr R.Path R.PathSegment R.RecordExprField
      R.RecordExprFieldList R.Stmt R.MatchArm R.MacroCall R.Pat R.RecordPatField R.AssocTypeArg R.Param R.PathType R.TypeBound R.Type_
      step.else_branch step.expr_kind step.stmt_kind step.pat_kind step.generic_arg step.type_kind step.block step.expr step.path
      step.segment step.field step.field_list step.stmt step.arm step.call step.pat step.pat_field step.assoc_type_arg step.param
      step.path_type step.type_bound step.type x
