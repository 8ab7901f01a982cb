-- One level of a tree with other parts: with what is made of them, and without what is claimed of them.
use Rattle.hir_syntax.specs.declared.ast.ElseBranch.TheFolds as folds
use Rattle.hir_env.specs.Layers.{ElseBranchLayer, ExprKindLayer, StmtKindLayer, BlockExprLayer, ExprLayer, RecordExprFieldLayer}
use Rattle.hir_env.specs.Layers.{RecordExprFieldListLayer, StmtLayer, MatchArmLayer, MacroCallLayer, Sorts, written}
use Rattle.hir_env.specs.TypeLayers.{GenericArgLayer, TypeKindLayer, PathLayer, PathSegmentLayer, AssocTypeArgLayer, ParamLayer}
use Rattle.hir_env.specs.TypeLayers.{PathTypeLayer, TypeBoundLayer, Type_Layer}
use Rattle.hir_env.specs.PatLayers.{PatKindLayer, PatLayer, RecordPatFieldLayer}
use Rattle.hir_env.proofs.Mapped.{beside}
use Rattle.spec_fold.specs.Claims.{Claims, claimed}
use Rattle.spec_fold.specs.Folds.{Steps, with_made, fold_else_branch, fold_expr_kind, fold_stmt_kind, fold_pat_kind, fold_generic_arg}
use Rattle.spec_fold.specs.Folds.{fold_type_kind, fold_block, fold_expr, fold_path, fold_segment, fold_field, fold_field_list, fold_stmt}
use Rattle.spec_fold.specs.Folds.{fold_arm, fold_call, fold_pat, fold_pat_field, fold_assoc_type_arg, fold_param, fold_path_type}
use Rattle.spec_fold.specs.Folds.{fold_type_bound, fold_type}

-- for each part another one
pub record Maps (A B : Sorts) : Type 0 where
  pub else_branch : A.ElseBranch → B.ElseBranch
  pub expr_kind : A.ExprKind → B.ExprKind
  pub stmt_kind : A.StmtKind → B.StmtKind
  pub pat_kind : A.PatKind → B.PatKind
  pub generic_arg : A.GenericArg → B.GenericArg
  pub type_kind : A.TypeKind → B.TypeKind
  pub block : A.BlockExpr → B.BlockExpr
  pub expr : A.Expr → B.Expr
  pub path : A.Path → B.Path
  pub segment : A.PathSegment → B.PathSegment
  pub field : A.RecordExprField → B.RecordExprField
  pub field_list : A.RecordExprFieldList → B.RecordExprFieldList
  pub stmt : A.Stmt → B.Stmt
  pub arm : A.MatchArm → B.MatchArm
  pub call : A.MacroCall → B.MacroCall
  pub pat : A.Pat → B.Pat
  pub pat_field : A.RecordPatField → B.RecordPatField
  pub assoc_type_arg : A.AssocTypeArg → B.AssocTypeArg
  pub param : A.Param → B.Param
  pub path_type : A.PathType → B.PathType
  pub type_bound : A.TypeBound → B.TypeBound
  pub type : A.Type_ → B.Type_

module _ {A B : Sorts} (f : Maps A B) where
  abbrev pub map_else_branch : ElseBranchLayer A → ElseBranchLayer B
  map_else_branch = folds.map-ElseBranch
      A.ElseBranch A.ExprKind A.StmtKind A.PatKind A.GenericArg A.TypeKind A.BlockExpr A.Expr A.Path A.PathSegment A.RecordExprField
      A.RecordExprFieldList A.Stmt A.MatchArm A.MacroCall A.Pat A.RecordPatField A.AssocTypeArg A.Param A.PathType A.TypeBound A.Type_
      B.ElseBranch B.ExprKind B.StmtKind B.PatKind B.GenericArg B.TypeKind B.BlockExpr B.Expr B.Path B.PathSegment B.RecordExprField
      B.RecordExprFieldList B.Stmt B.MatchArm B.MacroCall B.Pat B.RecordPatField B.AssocTypeArg B.Param B.PathType B.TypeBound B.Type_
      f.else_branch f.expr_kind f.stmt_kind f.pat_kind f.generic_arg f.type_kind f.block f.expr f.path f.segment f.field f.field_list
      f.stmt f.arm f.call f.pat f.pat_field f.assoc_type_arg f.param f.path_type f.type_bound f.type

  abbrev pub map_expr_kind : ExprKindLayer A → ExprKindLayer B
  map_expr_kind = folds.map-ExprKind
      A.ElseBranch A.ExprKind A.StmtKind A.PatKind A.GenericArg A.TypeKind A.BlockExpr A.Expr A.Path A.PathSegment A.RecordExprField
      A.RecordExprFieldList A.Stmt A.MatchArm A.MacroCall A.Pat A.RecordPatField A.AssocTypeArg A.Param A.PathType A.TypeBound A.Type_
      B.ElseBranch B.ExprKind B.StmtKind B.PatKind B.GenericArg B.TypeKind B.BlockExpr B.Expr B.Path B.PathSegment B.RecordExprField
      B.RecordExprFieldList B.Stmt B.MatchArm B.MacroCall B.Pat B.RecordPatField B.AssocTypeArg B.Param B.PathType B.TypeBound B.Type_
      f.else_branch f.expr_kind f.stmt_kind f.pat_kind f.generic_arg f.type_kind f.block f.expr f.path f.segment f.field f.field_list
      f.stmt f.arm f.call f.pat f.pat_field f.assoc_type_arg f.param f.path_type f.type_bound f.type

  abbrev pub map_stmt_kind : StmtKindLayer A → StmtKindLayer B
  map_stmt_kind = folds.map-StmtKind
      A.ElseBranch A.ExprKind A.StmtKind A.PatKind A.GenericArg A.TypeKind A.BlockExpr A.Expr A.Path A.PathSegment A.RecordExprField
      A.RecordExprFieldList A.Stmt A.MatchArm A.MacroCall A.Pat A.RecordPatField A.AssocTypeArg A.Param A.PathType A.TypeBound A.Type_
      B.ElseBranch B.ExprKind B.StmtKind B.PatKind B.GenericArg B.TypeKind B.BlockExpr B.Expr B.Path B.PathSegment B.RecordExprField
      B.RecordExprFieldList B.Stmt B.MatchArm B.MacroCall B.Pat B.RecordPatField B.AssocTypeArg B.Param B.PathType B.TypeBound B.Type_
      f.else_branch f.expr_kind f.stmt_kind f.pat_kind f.generic_arg f.type_kind f.block f.expr f.path f.segment f.field f.field_list
      f.stmt f.arm f.call f.pat f.pat_field f.assoc_type_arg f.param f.path_type f.type_bound f.type

  abbrev pub map_pat_kind : PatKindLayer A → PatKindLayer B
  map_pat_kind = folds.map-PatKind
      A.ElseBranch A.ExprKind A.StmtKind A.PatKind A.GenericArg A.TypeKind A.BlockExpr A.Expr A.Path A.PathSegment A.RecordExprField
      A.RecordExprFieldList A.Stmt A.MatchArm A.MacroCall A.Pat A.RecordPatField A.AssocTypeArg A.Param A.PathType A.TypeBound A.Type_
      B.ElseBranch B.ExprKind B.StmtKind B.PatKind B.GenericArg B.TypeKind B.BlockExpr B.Expr B.Path B.PathSegment B.RecordExprField
      B.RecordExprFieldList B.Stmt B.MatchArm B.MacroCall B.Pat B.RecordPatField B.AssocTypeArg B.Param B.PathType B.TypeBound B.Type_
      f.else_branch f.expr_kind f.stmt_kind f.pat_kind f.generic_arg f.type_kind f.block f.expr f.path f.segment f.field f.field_list
      f.stmt f.arm f.call f.pat f.pat_field f.assoc_type_arg f.param f.path_type f.type_bound f.type

  abbrev pub map_generic_arg : GenericArgLayer A → GenericArgLayer B
  map_generic_arg = folds.map-GenericArg
      A.ElseBranch A.ExprKind A.StmtKind A.PatKind A.GenericArg A.TypeKind A.BlockExpr A.Expr A.Path A.PathSegment A.RecordExprField
      A.RecordExprFieldList A.Stmt A.MatchArm A.MacroCall A.Pat A.RecordPatField A.AssocTypeArg A.Param A.PathType A.TypeBound A.Type_
      B.ElseBranch B.ExprKind B.StmtKind B.PatKind B.GenericArg B.TypeKind B.BlockExpr B.Expr B.Path B.PathSegment B.RecordExprField
      B.RecordExprFieldList B.Stmt B.MatchArm B.MacroCall B.Pat B.RecordPatField B.AssocTypeArg B.Param B.PathType B.TypeBound B.Type_
      f.else_branch f.expr_kind f.stmt_kind f.pat_kind f.generic_arg f.type_kind f.block f.expr f.path f.segment f.field f.field_list
      f.stmt f.arm f.call f.pat f.pat_field f.assoc_type_arg f.param f.path_type f.type_bound f.type

  abbrev pub map_type_kind : TypeKindLayer A → TypeKindLayer B
  map_type_kind = folds.map-TypeKind
      A.ElseBranch A.ExprKind A.StmtKind A.PatKind A.GenericArg A.TypeKind A.BlockExpr A.Expr A.Path A.PathSegment A.RecordExprField
      A.RecordExprFieldList A.Stmt A.MatchArm A.MacroCall A.Pat A.RecordPatField A.AssocTypeArg A.Param A.PathType A.TypeBound A.Type_
      B.ElseBranch B.ExprKind B.StmtKind B.PatKind B.GenericArg B.TypeKind B.BlockExpr B.Expr B.Path B.PathSegment B.RecordExprField
      B.RecordExprFieldList B.Stmt B.MatchArm B.MacroCall B.Pat B.RecordPatField B.AssocTypeArg B.Param B.PathType B.TypeBound B.Type_
      f.else_branch f.expr_kind f.stmt_kind f.pat_kind f.generic_arg f.type_kind f.block f.expr f.path f.segment f.field f.field_list
      f.stmt f.arm f.call f.pat f.pat_field f.assoc_type_arg f.param f.path_type f.type_bound f.type

  abbrev pub map_block : BlockExprLayer A → BlockExprLayer B
  map_block = folds.map-BlockExpr
      A.ElseBranch A.ExprKind A.StmtKind A.PatKind A.GenericArg A.TypeKind A.BlockExpr A.Expr A.Path A.PathSegment A.RecordExprField
      A.RecordExprFieldList A.Stmt A.MatchArm A.MacroCall A.Pat A.RecordPatField A.AssocTypeArg A.Param A.PathType A.TypeBound A.Type_
      B.ElseBranch B.ExprKind B.StmtKind B.PatKind B.GenericArg B.TypeKind B.BlockExpr B.Expr B.Path B.PathSegment B.RecordExprField
      B.RecordExprFieldList B.Stmt B.MatchArm B.MacroCall B.Pat B.RecordPatField B.AssocTypeArg B.Param B.PathType B.TypeBound B.Type_
      f.else_branch f.expr_kind f.stmt_kind f.pat_kind f.generic_arg f.type_kind f.block f.expr f.path f.segment f.field f.field_list
      f.stmt f.arm f.call f.pat f.pat_field f.assoc_type_arg f.param f.path_type f.type_bound f.type

  abbrev pub map_expr : ExprLayer A → ExprLayer B
  map_expr = folds.map-Expr
      A.ElseBranch A.ExprKind A.StmtKind A.PatKind A.GenericArg A.TypeKind A.BlockExpr A.Expr A.Path A.PathSegment A.RecordExprField
      A.RecordExprFieldList A.Stmt A.MatchArm A.MacroCall A.Pat A.RecordPatField A.AssocTypeArg A.Param A.PathType A.TypeBound A.Type_
      B.ElseBranch B.ExprKind B.StmtKind B.PatKind B.GenericArg B.TypeKind B.BlockExpr B.Expr B.Path B.PathSegment B.RecordExprField
      B.RecordExprFieldList B.Stmt B.MatchArm B.MacroCall B.Pat B.RecordPatField B.AssocTypeArg B.Param B.PathType B.TypeBound B.Type_
      f.else_branch f.expr_kind f.stmt_kind f.pat_kind f.generic_arg f.type_kind f.block f.expr f.path f.segment f.field f.field_list
      f.stmt f.arm f.call f.pat f.pat_field f.assoc_type_arg f.param f.path_type f.type_bound f.type

  abbrev pub map_path : PathLayer A → PathLayer B
  map_path = folds.map-Path
      A.ElseBranch A.ExprKind A.StmtKind A.PatKind A.GenericArg A.TypeKind A.BlockExpr A.Expr A.Path A.PathSegment A.RecordExprField
      A.RecordExprFieldList A.Stmt A.MatchArm A.MacroCall A.Pat A.RecordPatField A.AssocTypeArg A.Param A.PathType A.TypeBound A.Type_
      B.ElseBranch B.ExprKind B.StmtKind B.PatKind B.GenericArg B.TypeKind B.BlockExpr B.Expr B.Path B.PathSegment B.RecordExprField
      B.RecordExprFieldList B.Stmt B.MatchArm B.MacroCall B.Pat B.RecordPatField B.AssocTypeArg B.Param B.PathType B.TypeBound B.Type_
      f.else_branch f.expr_kind f.stmt_kind f.pat_kind f.generic_arg f.type_kind f.block f.expr f.path f.segment f.field f.field_list
      f.stmt f.arm f.call f.pat f.pat_field f.assoc_type_arg f.param f.path_type f.type_bound f.type

  abbrev pub map_segment : PathSegmentLayer A → PathSegmentLayer B
  map_segment = folds.map-PathSegment
      A.ElseBranch A.ExprKind A.StmtKind A.PatKind A.GenericArg A.TypeKind A.BlockExpr A.Expr A.Path A.PathSegment A.RecordExprField
      A.RecordExprFieldList A.Stmt A.MatchArm A.MacroCall A.Pat A.RecordPatField A.AssocTypeArg A.Param A.PathType A.TypeBound A.Type_
      B.ElseBranch B.ExprKind B.StmtKind B.PatKind B.GenericArg B.TypeKind B.BlockExpr B.Expr B.Path B.PathSegment B.RecordExprField
      B.RecordExprFieldList B.Stmt B.MatchArm B.MacroCall B.Pat B.RecordPatField B.AssocTypeArg B.Param B.PathType B.TypeBound B.Type_
      f.else_branch f.expr_kind f.stmt_kind f.pat_kind f.generic_arg f.type_kind f.block f.expr f.path f.segment f.field f.field_list
      f.stmt f.arm f.call f.pat f.pat_field f.assoc_type_arg f.param f.path_type f.type_bound f.type

  abbrev pub map_field : RecordExprFieldLayer A → RecordExprFieldLayer B
  map_field = folds.map-RecordExprField
      A.ElseBranch A.ExprKind A.StmtKind A.PatKind A.GenericArg A.TypeKind A.BlockExpr A.Expr A.Path A.PathSegment A.RecordExprField
      A.RecordExprFieldList A.Stmt A.MatchArm A.MacroCall A.Pat A.RecordPatField A.AssocTypeArg A.Param A.PathType A.TypeBound A.Type_
      B.ElseBranch B.ExprKind B.StmtKind B.PatKind B.GenericArg B.TypeKind B.BlockExpr B.Expr B.Path B.PathSegment B.RecordExprField
      B.RecordExprFieldList B.Stmt B.MatchArm B.MacroCall B.Pat B.RecordPatField B.AssocTypeArg B.Param B.PathType B.TypeBound B.Type_
      f.else_branch f.expr_kind f.stmt_kind f.pat_kind f.generic_arg f.type_kind f.block f.expr f.path f.segment f.field f.field_list
      f.stmt f.arm f.call f.pat f.pat_field f.assoc_type_arg f.param f.path_type f.type_bound f.type

  abbrev pub map_field_list : RecordExprFieldListLayer A → RecordExprFieldListLayer B
  map_field_list = folds.map-RecordExprFieldList
      A.ElseBranch A.ExprKind A.StmtKind A.PatKind A.GenericArg A.TypeKind A.BlockExpr A.Expr A.Path A.PathSegment A.RecordExprField
      A.RecordExprFieldList A.Stmt A.MatchArm A.MacroCall A.Pat A.RecordPatField A.AssocTypeArg A.Param A.PathType A.TypeBound A.Type_
      B.ElseBranch B.ExprKind B.StmtKind B.PatKind B.GenericArg B.TypeKind B.BlockExpr B.Expr B.Path B.PathSegment B.RecordExprField
      B.RecordExprFieldList B.Stmt B.MatchArm B.MacroCall B.Pat B.RecordPatField B.AssocTypeArg B.Param B.PathType B.TypeBound B.Type_
      f.else_branch f.expr_kind f.stmt_kind f.pat_kind f.generic_arg f.type_kind f.block f.expr f.path f.segment f.field f.field_list
      f.stmt f.arm f.call f.pat f.pat_field f.assoc_type_arg f.param f.path_type f.type_bound f.type

  abbrev pub map_stmt : StmtLayer A → StmtLayer B
  map_stmt = folds.map-Stmt
      A.ElseBranch A.ExprKind A.StmtKind A.PatKind A.GenericArg A.TypeKind A.BlockExpr A.Expr A.Path A.PathSegment A.RecordExprField
      A.RecordExprFieldList A.Stmt A.MatchArm A.MacroCall A.Pat A.RecordPatField A.AssocTypeArg A.Param A.PathType A.TypeBound A.Type_
      B.ElseBranch B.ExprKind B.StmtKind B.PatKind B.GenericArg B.TypeKind B.BlockExpr B.Expr B.Path B.PathSegment B.RecordExprField
      B.RecordExprFieldList B.Stmt B.MatchArm B.MacroCall B.Pat B.RecordPatField B.AssocTypeArg B.Param B.PathType B.TypeBound B.Type_
      f.else_branch f.expr_kind f.stmt_kind f.pat_kind f.generic_arg f.type_kind f.block f.expr f.path f.segment f.field f.field_list
      f.stmt f.arm f.call f.pat f.pat_field f.assoc_type_arg f.param f.path_type f.type_bound f.type

  abbrev pub map_arm : MatchArmLayer A → MatchArmLayer B
  map_arm = folds.map-MatchArm
      A.ElseBranch A.ExprKind A.StmtKind A.PatKind A.GenericArg A.TypeKind A.BlockExpr A.Expr A.Path A.PathSegment A.RecordExprField
      A.RecordExprFieldList A.Stmt A.MatchArm A.MacroCall A.Pat A.RecordPatField A.AssocTypeArg A.Param A.PathType A.TypeBound A.Type_
      B.ElseBranch B.ExprKind B.StmtKind B.PatKind B.GenericArg B.TypeKind B.BlockExpr B.Expr B.Path B.PathSegment B.RecordExprField
      B.RecordExprFieldList B.Stmt B.MatchArm B.MacroCall B.Pat B.RecordPatField B.AssocTypeArg B.Param B.PathType B.TypeBound B.Type_
      f.else_branch f.expr_kind f.stmt_kind f.pat_kind f.generic_arg f.type_kind f.block f.expr f.path f.segment f.field f.field_list
      f.stmt f.arm f.call f.pat f.pat_field f.assoc_type_arg f.param f.path_type f.type_bound f.type

  abbrev pub map_call : MacroCallLayer A → MacroCallLayer B
  map_call = folds.map-MacroCall
      A.ElseBranch A.ExprKind A.StmtKind A.PatKind A.GenericArg A.TypeKind A.BlockExpr A.Expr A.Path A.PathSegment A.RecordExprField
      A.RecordExprFieldList A.Stmt A.MatchArm A.MacroCall A.Pat A.RecordPatField A.AssocTypeArg A.Param A.PathType A.TypeBound A.Type_
      B.ElseBranch B.ExprKind B.StmtKind B.PatKind B.GenericArg B.TypeKind B.BlockExpr B.Expr B.Path B.PathSegment B.RecordExprField
      B.RecordExprFieldList B.Stmt B.MatchArm B.MacroCall B.Pat B.RecordPatField B.AssocTypeArg B.Param B.PathType B.TypeBound B.Type_
      f.else_branch f.expr_kind f.stmt_kind f.pat_kind f.generic_arg f.type_kind f.block f.expr f.path f.segment f.field f.field_list
      f.stmt f.arm f.call f.pat f.pat_field f.assoc_type_arg f.param f.path_type f.type_bound f.type

  abbrev pub map_pat : PatLayer A → PatLayer B
  map_pat = folds.map-Pat
      A.ElseBranch A.ExprKind A.StmtKind A.PatKind A.GenericArg A.TypeKind A.BlockExpr A.Expr A.Path A.PathSegment A.RecordExprField
      A.RecordExprFieldList A.Stmt A.MatchArm A.MacroCall A.Pat A.RecordPatField A.AssocTypeArg A.Param A.PathType A.TypeBound A.Type_
      B.ElseBranch B.ExprKind B.StmtKind B.PatKind B.GenericArg B.TypeKind B.BlockExpr B.Expr B.Path B.PathSegment B.RecordExprField
      B.RecordExprFieldList B.Stmt B.MatchArm B.MacroCall B.Pat B.RecordPatField B.AssocTypeArg B.Param B.PathType B.TypeBound B.Type_
      f.else_branch f.expr_kind f.stmt_kind f.pat_kind f.generic_arg f.type_kind f.block f.expr f.path f.segment f.field f.field_list
      f.stmt f.arm f.call f.pat f.pat_field f.assoc_type_arg f.param f.path_type f.type_bound f.type

  abbrev pub map_pat_field : RecordPatFieldLayer A → RecordPatFieldLayer B
  map_pat_field = folds.map-RecordPatField
      A.ElseBranch A.ExprKind A.StmtKind A.PatKind A.GenericArg A.TypeKind A.BlockExpr A.Expr A.Path A.PathSegment A.RecordExprField
      A.RecordExprFieldList A.Stmt A.MatchArm A.MacroCall A.Pat A.RecordPatField A.AssocTypeArg A.Param A.PathType A.TypeBound A.Type_
      B.ElseBranch B.ExprKind B.StmtKind B.PatKind B.GenericArg B.TypeKind B.BlockExpr B.Expr B.Path B.PathSegment B.RecordExprField
      B.RecordExprFieldList B.Stmt B.MatchArm B.MacroCall B.Pat B.RecordPatField B.AssocTypeArg B.Param B.PathType B.TypeBound B.Type_
      f.else_branch f.expr_kind f.stmt_kind f.pat_kind f.generic_arg f.type_kind f.block f.expr f.path f.segment f.field f.field_list
      f.stmt f.arm f.call f.pat f.pat_field f.assoc_type_arg f.param f.path_type f.type_bound f.type

  abbrev pub map_assoc_type_arg : AssocTypeArgLayer A → AssocTypeArgLayer B
  map_assoc_type_arg = folds.map-AssocTypeArg
      A.ElseBranch A.ExprKind A.StmtKind A.PatKind A.GenericArg A.TypeKind A.BlockExpr A.Expr A.Path A.PathSegment A.RecordExprField
      A.RecordExprFieldList A.Stmt A.MatchArm A.MacroCall A.Pat A.RecordPatField A.AssocTypeArg A.Param A.PathType A.TypeBound A.Type_
      B.ElseBranch B.ExprKind B.StmtKind B.PatKind B.GenericArg B.TypeKind B.BlockExpr B.Expr B.Path B.PathSegment B.RecordExprField
      B.RecordExprFieldList B.Stmt B.MatchArm B.MacroCall B.Pat B.RecordPatField B.AssocTypeArg B.Param B.PathType B.TypeBound B.Type_
      f.else_branch f.expr_kind f.stmt_kind f.pat_kind f.generic_arg f.type_kind f.block f.expr f.path f.segment f.field f.field_list
      f.stmt f.arm f.call f.pat f.pat_field f.assoc_type_arg f.param f.path_type f.type_bound f.type

  abbrev pub map_param : ParamLayer A → ParamLayer B
  map_param = folds.map-Param
      A.ElseBranch A.ExprKind A.StmtKind A.PatKind A.GenericArg A.TypeKind A.BlockExpr A.Expr A.Path A.PathSegment A.RecordExprField
      A.RecordExprFieldList A.Stmt A.MatchArm A.MacroCall A.Pat A.RecordPatField A.AssocTypeArg A.Param A.PathType A.TypeBound A.Type_
      B.ElseBranch B.ExprKind B.StmtKind B.PatKind B.GenericArg B.TypeKind B.BlockExpr B.Expr B.Path B.PathSegment B.RecordExprField
      B.RecordExprFieldList B.Stmt B.MatchArm B.MacroCall B.Pat B.RecordPatField B.AssocTypeArg B.Param B.PathType B.TypeBound B.Type_
      f.else_branch f.expr_kind f.stmt_kind f.pat_kind f.generic_arg f.type_kind f.block f.expr f.path f.segment f.field f.field_list
      f.stmt f.arm f.call f.pat f.pat_field f.assoc_type_arg f.param f.path_type f.type_bound f.type

  abbrev pub map_path_type : PathTypeLayer A → PathTypeLayer B
  map_path_type = folds.map-PathType
      A.ElseBranch A.ExprKind A.StmtKind A.PatKind A.GenericArg A.TypeKind A.BlockExpr A.Expr A.Path A.PathSegment A.RecordExprField
      A.RecordExprFieldList A.Stmt A.MatchArm A.MacroCall A.Pat A.RecordPatField A.AssocTypeArg A.Param A.PathType A.TypeBound A.Type_
      B.ElseBranch B.ExprKind B.StmtKind B.PatKind B.GenericArg B.TypeKind B.BlockExpr B.Expr B.Path B.PathSegment B.RecordExprField
      B.RecordExprFieldList B.Stmt B.MatchArm B.MacroCall B.Pat B.RecordPatField B.AssocTypeArg B.Param B.PathType B.TypeBound B.Type_
      f.else_branch f.expr_kind f.stmt_kind f.pat_kind f.generic_arg f.type_kind f.block f.expr f.path f.segment f.field f.field_list
      f.stmt f.arm f.call f.pat f.pat_field f.assoc_type_arg f.param f.path_type f.type_bound f.type

  abbrev pub map_type_bound : TypeBoundLayer A → TypeBoundLayer B
  map_type_bound = folds.map-TypeBound
      A.ElseBranch A.ExprKind A.StmtKind A.PatKind A.GenericArg A.TypeKind A.BlockExpr A.Expr A.Path A.PathSegment A.RecordExprField
      A.RecordExprFieldList A.Stmt A.MatchArm A.MacroCall A.Pat A.RecordPatField A.AssocTypeArg A.Param A.PathType A.TypeBound A.Type_
      B.ElseBranch B.ExprKind B.StmtKind B.PatKind B.GenericArg B.TypeKind B.BlockExpr B.Expr B.Path B.PathSegment B.RecordExprField
      B.RecordExprFieldList B.Stmt B.MatchArm B.MacroCall B.Pat B.RecordPatField B.AssocTypeArg B.Param B.PathType B.TypeBound B.Type_
      f.else_branch f.expr_kind f.stmt_kind f.pat_kind f.generic_arg f.type_kind f.block f.expr f.path f.segment f.field f.field_list
      f.stmt f.arm f.call f.pat f.pat_field f.assoc_type_arg f.param f.path_type f.type_bound f.type

  abbrev pub map_type : Type_Layer A → Type_Layer B
  map_type = folds.map-Type_
      A.ElseBranch A.ExprKind A.StmtKind A.PatKind A.GenericArg A.TypeKind A.BlockExpr A.Expr A.Path A.PathSegment A.RecordExprField
      A.RecordExprFieldList A.Stmt A.MatchArm A.MacroCall A.Pat A.RecordPatField A.AssocTypeArg A.Param A.PathType A.TypeBound A.Type_
      B.ElseBranch B.ExprKind B.StmtKind B.PatKind B.GenericArg B.TypeKind B.BlockExpr B.Expr B.Path B.PathSegment B.RecordExprField
      B.RecordExprFieldList B.Stmt B.MatchArm B.MacroCall B.Pat B.RecordPatField B.AssocTypeArg B.Param B.PathType B.TypeBound B.Type_
      f.else_branch f.expr_kind f.stmt_kind f.pat_kind f.generic_arg f.type_kind f.block f.expr f.path f.segment f.field f.field_list
      f.stmt f.arm f.call f.pat f.pat_field f.assoc_type_arg f.param f.path_type f.type_bound f.type

-- with what is made of it
abbrev pub making : (R : Sorts) → Steps R → Maps written (with_made R)
making R step = record {
  else_branch = beside (fold_else_branch R step);
  expr_kind = beside (fold_expr_kind R step);
  stmt_kind = beside (fold_stmt_kind R step);
  pat_kind = beside (fold_pat_kind R step);
  generic_arg = beside (fold_generic_arg R step);
  type_kind = beside (fold_type_kind R step);
  block = beside (fold_block R step);
  expr = beside (fold_expr R step);
  path = beside (fold_path R step);
  segment = beside (fold_segment R step);
  field = beside (fold_field R step);
  field_list = beside (fold_field_list R step);
  stmt = beside (fold_stmt R step);
  arm = beside (fold_arm R step);
  call = beside (fold_call R step);
  pat = beside (fold_pat R step);
  pat_field = beside (fold_pat_field R step);
  assoc_type_arg = beside (fold_assoc_type_arg R step);
  param = beside (fold_param R step);
  path_type = beside (fold_path_type R step);
  type_bound = beside (fold_type_bound R step);
  type = beside (fold_type R step);
}

-- without what is claimed of it
abbrev pub drop_claims : (C : Claims) → Maps (claimed C) written
drop_claims C = record {
  else_branch = λ e. e.0;
  expr_kind = λ e. e.0;
  stmt_kind = λ e. e.0;
  pat_kind = λ e. e.0;
  generic_arg = λ e. e.0;
  type_kind = λ e. e.0;
  block = λ e. e.0;
  expr = λ e. e.0;
  path = λ e. e.0;
  segment = λ e. e.0;
  field = λ e. e.0;
  field_list = λ e. e.0;
  stmt = λ e. e.0;
  arm = λ e. e.0;
  call = λ e. e.0;
  pat = λ e. e.0;
  pat_field = λ e. e.0;
  assoc_type_arg = λ e. e.0;
  param = λ e. e.0;
  path_type = λ e. e.0;
  type_bound = λ e. e.0;
  type = λ e. e.0;
}
