-- One level of a tree, each of whose parts has its claim beside it, without the claims.
use Rattle.hir_syntax.specs.declared.ast.ElseBranch.TheFolds as folds
use Rattle.std.proofs.Common.{ℕ}
use Rattle.hir_env.specs.Answers.{Answers}
use Rattle.hir_env.specs.Layers.{ElseBranchLayer, ExprKindLayer, StmtKindLayer, BlockExprLayer, ExprLayer, Sorts, StmtLayer}
use Rattle.hir_env.specs.Layers.{RecordExprFieldLayer, RecordExprFieldListLayer, MatchArmLayer, written}
use Rattle.hir_env.specs.TypeLayers.{GenericArgLayer, TypeKindLayer, PathLayer, PathSegmentLayer, AssocTypeArgLayer}
use Rattle.hir_env.specs.TypeLayers.{ParamLayer, PathTypeLayer, TypeBoundLayer, Type_Layer}
use Rattle.hir_env.specs.PatLayers.{PatKindLayer, PatLayer, RecordPatFieldLayer}
use Rattle.thm_reading.proofs.Motives.{claimed}

module _ (a : Answers) (n : ℕ) where
  abbrev to : Sorts
  to = claimed a n

  abbrev pub bare_else : ElseBranchLayer to → ElseBranchLayer written
  bare_else = folds.map-ElseBranch
      to.ElseBranch to.ExprKind to.StmtKind to.PatKind to.GenericArg to.TypeKind to.BlockExpr to.Expr to.Path to.PathSegment
      to.RecordExprField to.RecordExprFieldList to.Stmt to.MatchArm to.MacroCall to.Pat to.RecordPatField to.AssocTypeArg to.Param
      to.PathType to.TypeBound to.Type_
      written.ElseBranch written.ExprKind written.StmtKind written.PatKind written.GenericArg written.TypeKind written.BlockExpr
      written.Expr written.Path written.PathSegment written.RecordExprField written.RecordExprFieldList written.Stmt written.MatchArm
      written.MacroCall written.Pat written.RecordPatField written.AssocTypeArg written.Param written.PathType written.TypeBound
      written.Type_
      (λ e. e.0) (λ e. e.0) (λ e. e.0) (λ e. e.0) (λ e. e.0) (λ e. e.0) (λ e. e.0) (λ e. e.0) (λ e. e.0) (λ e. e.0) (λ e. e.0) (λ e. e.0)
      (λ e. e.0) (λ e. e.0) (λ e. e.0) (λ e. e.0) (λ e. e.0) (λ e. e.0) (λ e. e.0) (λ e. e.0) (λ e. e.0) (λ e. e.0)

  abbrev pub bare_kind : ExprKindLayer to → ExprKindLayer written
  bare_kind = folds.map-ExprKind
      to.ElseBranch to.ExprKind to.StmtKind to.PatKind to.GenericArg to.TypeKind to.BlockExpr to.Expr to.Path to.PathSegment
      to.RecordExprField to.RecordExprFieldList to.Stmt to.MatchArm to.MacroCall to.Pat to.RecordPatField to.AssocTypeArg to.Param
      to.PathType to.TypeBound to.Type_
      written.ElseBranch written.ExprKind written.StmtKind written.PatKind written.GenericArg written.TypeKind written.BlockExpr
      written.Expr written.Path written.PathSegment written.RecordExprField written.RecordExprFieldList written.Stmt written.MatchArm
      written.MacroCall written.Pat written.RecordPatField written.AssocTypeArg written.Param written.PathType written.TypeBound
      written.Type_
      (λ e. e.0) (λ e. e.0) (λ e. e.0) (λ e. e.0) (λ e. e.0) (λ e. e.0) (λ e. e.0) (λ e. e.0) (λ e. e.0) (λ e. e.0) (λ e. e.0) (λ e. e.0)
      (λ e. e.0) (λ e. e.0) (λ e. e.0) (λ e. e.0) (λ e. e.0) (λ e. e.0) (λ e. e.0) (λ e. e.0) (λ e. e.0) (λ e. e.0)

  abbrev pub bare_stmt_kind : StmtKindLayer to → StmtKindLayer written
  bare_stmt_kind = folds.map-StmtKind
      to.ElseBranch to.ExprKind to.StmtKind to.PatKind to.GenericArg to.TypeKind to.BlockExpr to.Expr to.Path to.PathSegment
      to.RecordExprField to.RecordExprFieldList to.Stmt to.MatchArm to.MacroCall to.Pat to.RecordPatField to.AssocTypeArg to.Param
      to.PathType to.TypeBound to.Type_
      written.ElseBranch written.ExprKind written.StmtKind written.PatKind written.GenericArg written.TypeKind written.BlockExpr
      written.Expr written.Path written.PathSegment written.RecordExprField written.RecordExprFieldList written.Stmt written.MatchArm
      written.MacroCall written.Pat written.RecordPatField written.AssocTypeArg written.Param written.PathType written.TypeBound
      written.Type_
      (λ e. e.0) (λ e. e.0) (λ e. e.0) (λ e. e.0) (λ e. e.0) (λ e. e.0) (λ e. e.0) (λ e. e.0) (λ e. e.0) (λ e. e.0) (λ e. e.0) (λ e. e.0)
      (λ e. e.0) (λ e. e.0) (λ e. e.0) (λ e. e.0) (λ e. e.0) (λ e. e.0) (λ e. e.0) (λ e. e.0) (λ e. e.0) (λ e. e.0)

  abbrev pub bare_pat_kind : PatKindLayer to → PatKindLayer written
  bare_pat_kind = folds.map-PatKind
      to.ElseBranch to.ExprKind to.StmtKind to.PatKind to.GenericArg to.TypeKind to.BlockExpr to.Expr to.Path to.PathSegment
      to.RecordExprField to.RecordExprFieldList to.Stmt to.MatchArm to.MacroCall to.Pat to.RecordPatField to.AssocTypeArg to.Param
      to.PathType to.TypeBound to.Type_
      written.ElseBranch written.ExprKind written.StmtKind written.PatKind written.GenericArg written.TypeKind written.BlockExpr
      written.Expr written.Path written.PathSegment written.RecordExprField written.RecordExprFieldList written.Stmt written.MatchArm
      written.MacroCall written.Pat written.RecordPatField written.AssocTypeArg written.Param written.PathType written.TypeBound
      written.Type_
      (λ e. e.0) (λ e. e.0) (λ e. e.0) (λ e. e.0) (λ e. e.0) (λ e. e.0) (λ e. e.0) (λ e. e.0) (λ e. e.0) (λ e. e.0) (λ e. e.0) (λ e. e.0)
      (λ e. e.0) (λ e. e.0) (λ e. e.0) (λ e. e.0) (λ e. e.0) (λ e. e.0) (λ e. e.0) (λ e. e.0) (λ e. e.0) (λ e. e.0)

  abbrev pub bare_generic_arg : GenericArgLayer to → GenericArgLayer written
  bare_generic_arg = folds.map-GenericArg
      to.ElseBranch to.ExprKind to.StmtKind to.PatKind to.GenericArg to.TypeKind to.BlockExpr to.Expr to.Path to.PathSegment
      to.RecordExprField to.RecordExprFieldList to.Stmt to.MatchArm to.MacroCall to.Pat to.RecordPatField to.AssocTypeArg to.Param
      to.PathType to.TypeBound to.Type_
      written.ElseBranch written.ExprKind written.StmtKind written.PatKind written.GenericArg written.TypeKind written.BlockExpr
      written.Expr written.Path written.PathSegment written.RecordExprField written.RecordExprFieldList written.Stmt written.MatchArm
      written.MacroCall written.Pat written.RecordPatField written.AssocTypeArg written.Param written.PathType written.TypeBound
      written.Type_
      (λ e. e.0) (λ e. e.0) (λ e. e.0) (λ e. e.0) (λ e. e.0) (λ e. e.0) (λ e. e.0) (λ e. e.0) (λ e. e.0) (λ e. e.0) (λ e. e.0) (λ e. e.0)
      (λ e. e.0) (λ e. e.0) (λ e. e.0) (λ e. e.0) (λ e. e.0) (λ e. e.0) (λ e. e.0) (λ e. e.0) (λ e. e.0) (λ e. e.0)

  abbrev pub bare_type_kind : TypeKindLayer to → TypeKindLayer written
  bare_type_kind = folds.map-TypeKind
      to.ElseBranch to.ExprKind to.StmtKind to.PatKind to.GenericArg to.TypeKind to.BlockExpr to.Expr to.Path to.PathSegment
      to.RecordExprField to.RecordExprFieldList to.Stmt to.MatchArm to.MacroCall to.Pat to.RecordPatField to.AssocTypeArg to.Param
      to.PathType to.TypeBound to.Type_
      written.ElseBranch written.ExprKind written.StmtKind written.PatKind written.GenericArg written.TypeKind written.BlockExpr
      written.Expr written.Path written.PathSegment written.RecordExprField written.RecordExprFieldList written.Stmt written.MatchArm
      written.MacroCall written.Pat written.RecordPatField written.AssocTypeArg written.Param written.PathType written.TypeBound
      written.Type_
      (λ e. e.0) (λ e. e.0) (λ e. e.0) (λ e. e.0) (λ e. e.0) (λ e. e.0) (λ e. e.0) (λ e. e.0) (λ e. e.0) (λ e. e.0) (λ e. e.0) (λ e. e.0)
      (λ e. e.0) (λ e. e.0) (λ e. e.0) (λ e. e.0) (λ e. e.0) (λ e. e.0) (λ e. e.0) (λ e. e.0) (λ e. e.0) (λ e. e.0)

  abbrev pub bare_block : BlockExprLayer to → BlockExprLayer written
  bare_block = folds.map-BlockExpr
      to.ElseBranch to.ExprKind to.StmtKind to.PatKind to.GenericArg to.TypeKind to.BlockExpr to.Expr to.Path to.PathSegment
      to.RecordExprField to.RecordExprFieldList to.Stmt to.MatchArm to.MacroCall to.Pat to.RecordPatField to.AssocTypeArg to.Param
      to.PathType to.TypeBound to.Type_
      written.ElseBranch written.ExprKind written.StmtKind written.PatKind written.GenericArg written.TypeKind written.BlockExpr
      written.Expr written.Path written.PathSegment written.RecordExprField written.RecordExprFieldList written.Stmt written.MatchArm
      written.MacroCall written.Pat written.RecordPatField written.AssocTypeArg written.Param written.PathType written.TypeBound
      written.Type_
      (λ e. e.0) (λ e. e.0) (λ e. e.0) (λ e. e.0) (λ e. e.0) (λ e. e.0) (λ e. e.0) (λ e. e.0) (λ e. e.0) (λ e. e.0) (λ e. e.0) (λ e. e.0)
      (λ e. e.0) (λ e. e.0) (λ e. e.0) (λ e. e.0) (λ e. e.0) (λ e. e.0) (λ e. e.0) (λ e. e.0) (λ e. e.0) (λ e. e.0)

  abbrev pub bare_expr : ExprLayer to → ExprLayer written
  bare_expr = folds.map-Expr
      to.ElseBranch to.ExprKind to.StmtKind to.PatKind to.GenericArg to.TypeKind to.BlockExpr to.Expr to.Path to.PathSegment
      to.RecordExprField to.RecordExprFieldList to.Stmt to.MatchArm to.MacroCall to.Pat to.RecordPatField to.AssocTypeArg to.Param
      to.PathType to.TypeBound to.Type_
      written.ElseBranch written.ExprKind written.StmtKind written.PatKind written.GenericArg written.TypeKind written.BlockExpr
      written.Expr written.Path written.PathSegment written.RecordExprField written.RecordExprFieldList written.Stmt written.MatchArm
      written.MacroCall written.Pat written.RecordPatField written.AssocTypeArg written.Param written.PathType written.TypeBound
      written.Type_
      (λ e. e.0) (λ e. e.0) (λ e. e.0) (λ e. e.0) (λ e. e.0) (λ e. e.0) (λ e. e.0) (λ e. e.0) (λ e. e.0) (λ e. e.0) (λ e. e.0) (λ e. e.0)
      (λ e. e.0) (λ e. e.0) (λ e. e.0) (λ e. e.0) (λ e. e.0) (λ e. e.0) (λ e. e.0) (λ e. e.0) (λ e. e.0) (λ e. e.0)

  abbrev pub bare_path : PathLayer to → PathLayer written
  bare_path = folds.map-Path
      to.ElseBranch to.ExprKind to.StmtKind to.PatKind to.GenericArg to.TypeKind to.BlockExpr to.Expr to.Path to.PathSegment
      to.RecordExprField to.RecordExprFieldList to.Stmt to.MatchArm to.MacroCall to.Pat to.RecordPatField to.AssocTypeArg to.Param
      to.PathType to.TypeBound to.Type_
      written.ElseBranch written.ExprKind written.StmtKind written.PatKind written.GenericArg written.TypeKind written.BlockExpr
      written.Expr written.Path written.PathSegment written.RecordExprField written.RecordExprFieldList written.Stmt written.MatchArm
      written.MacroCall written.Pat written.RecordPatField written.AssocTypeArg written.Param written.PathType written.TypeBound
      written.Type_
      (λ e. e.0) (λ e. e.0) (λ e. e.0) (λ e. e.0) (λ e. e.0) (λ e. e.0) (λ e. e.0) (λ e. e.0) (λ e. e.0) (λ e. e.0) (λ e. e.0) (λ e. e.0)
      (λ e. e.0) (λ e. e.0) (λ e. e.0) (λ e. e.0) (λ e. e.0) (λ e. e.0) (λ e. e.0) (λ e. e.0) (λ e. e.0) (λ e. e.0)

  abbrev pub bare_segment : PathSegmentLayer to → PathSegmentLayer written
  bare_segment = folds.map-PathSegment
      to.ElseBranch to.ExprKind to.StmtKind to.PatKind to.GenericArg to.TypeKind to.BlockExpr to.Expr to.Path to.PathSegment
      to.RecordExprField to.RecordExprFieldList to.Stmt to.MatchArm to.MacroCall to.Pat to.RecordPatField to.AssocTypeArg to.Param
      to.PathType to.TypeBound to.Type_
      written.ElseBranch written.ExprKind written.StmtKind written.PatKind written.GenericArg written.TypeKind written.BlockExpr
      written.Expr written.Path written.PathSegment written.RecordExprField written.RecordExprFieldList written.Stmt written.MatchArm
      written.MacroCall written.Pat written.RecordPatField written.AssocTypeArg written.Param written.PathType written.TypeBound
      written.Type_
      (λ e. e.0) (λ e. e.0) (λ e. e.0) (λ e. e.0) (λ e. e.0) (λ e. e.0) (λ e. e.0) (λ e. e.0) (λ e. e.0) (λ e. e.0) (λ e. e.0) (λ e. e.0)
      (λ e. e.0) (λ e. e.0) (λ e. e.0) (λ e. e.0) (λ e. e.0) (λ e. e.0) (λ e. e.0) (λ e. e.0) (λ e. e.0) (λ e. e.0)

  abbrev pub bare_field : RecordExprFieldLayer to → RecordExprFieldLayer written
  bare_field = folds.map-RecordExprField
      to.ElseBranch to.ExprKind to.StmtKind to.PatKind to.GenericArg to.TypeKind to.BlockExpr to.Expr to.Path to.PathSegment
      to.RecordExprField to.RecordExprFieldList to.Stmt to.MatchArm to.MacroCall to.Pat to.RecordPatField to.AssocTypeArg to.Param
      to.PathType to.TypeBound to.Type_
      written.ElseBranch written.ExprKind written.StmtKind written.PatKind written.GenericArg written.TypeKind written.BlockExpr
      written.Expr written.Path written.PathSegment written.RecordExprField written.RecordExprFieldList written.Stmt written.MatchArm
      written.MacroCall written.Pat written.RecordPatField written.AssocTypeArg written.Param written.PathType written.TypeBound
      written.Type_
      (λ e. e.0) (λ e. e.0) (λ e. e.0) (λ e. e.0) (λ e. e.0) (λ e. e.0) (λ e. e.0) (λ e. e.0) (λ e. e.0) (λ e. e.0) (λ e. e.0) (λ e. e.0)
      (λ e. e.0) (λ e. e.0) (λ e. e.0) (λ e. e.0) (λ e. e.0) (λ e. e.0) (λ e. e.0) (λ e. e.0) (λ e. e.0) (λ e. e.0)

  abbrev pub bare_record : RecordExprFieldListLayer to → RecordExprFieldListLayer written
  bare_record = folds.map-RecordExprFieldList
      to.ElseBranch to.ExprKind to.StmtKind to.PatKind to.GenericArg to.TypeKind to.BlockExpr to.Expr to.Path to.PathSegment
      to.RecordExprField to.RecordExprFieldList to.Stmt to.MatchArm to.MacroCall to.Pat to.RecordPatField to.AssocTypeArg to.Param
      to.PathType to.TypeBound to.Type_
      written.ElseBranch written.ExprKind written.StmtKind written.PatKind written.GenericArg written.TypeKind written.BlockExpr
      written.Expr written.Path written.PathSegment written.RecordExprField written.RecordExprFieldList written.Stmt written.MatchArm
      written.MacroCall written.Pat written.RecordPatField written.AssocTypeArg written.Param written.PathType written.TypeBound
      written.Type_
      (λ e. e.0) (λ e. e.0) (λ e. e.0) (λ e. e.0) (λ e. e.0) (λ e. e.0) (λ e. e.0) (λ e. e.0) (λ e. e.0) (λ e. e.0) (λ e. e.0) (λ e. e.0)
      (λ e. e.0) (λ e. e.0) (λ e. e.0) (λ e. e.0) (λ e. e.0) (λ e. e.0) (λ e. e.0) (λ e. e.0) (λ e. e.0) (λ e. e.0)

  abbrev pub bare_stmt : StmtLayer to → StmtLayer written
  bare_stmt = folds.map-Stmt
      to.ElseBranch to.ExprKind to.StmtKind to.PatKind to.GenericArg to.TypeKind to.BlockExpr to.Expr to.Path to.PathSegment
      to.RecordExprField to.RecordExprFieldList to.Stmt to.MatchArm to.MacroCall to.Pat to.RecordPatField to.AssocTypeArg to.Param
      to.PathType to.TypeBound to.Type_
      written.ElseBranch written.ExprKind written.StmtKind written.PatKind written.GenericArg written.TypeKind written.BlockExpr
      written.Expr written.Path written.PathSegment written.RecordExprField written.RecordExprFieldList written.Stmt written.MatchArm
      written.MacroCall written.Pat written.RecordPatField written.AssocTypeArg written.Param written.PathType written.TypeBound
      written.Type_
      (λ e. e.0) (λ e. e.0) (λ e. e.0) (λ e. e.0) (λ e. e.0) (λ e. e.0) (λ e. e.0) (λ e. e.0) (λ e. e.0) (λ e. e.0) (λ e. e.0) (λ e. e.0)
      (λ e. e.0) (λ e. e.0) (λ e. e.0) (λ e. e.0) (λ e. e.0) (λ e. e.0) (λ e. e.0) (λ e. e.0) (λ e. e.0) (λ e. e.0)

  abbrev pub bare_arm : MatchArmLayer to → MatchArmLayer written
  bare_arm = folds.map-MatchArm
      to.ElseBranch to.ExprKind to.StmtKind to.PatKind to.GenericArg to.TypeKind to.BlockExpr to.Expr to.Path to.PathSegment
      to.RecordExprField to.RecordExprFieldList to.Stmt to.MatchArm to.MacroCall to.Pat to.RecordPatField to.AssocTypeArg to.Param
      to.PathType to.TypeBound to.Type_
      written.ElseBranch written.ExprKind written.StmtKind written.PatKind written.GenericArg written.TypeKind written.BlockExpr
      written.Expr written.Path written.PathSegment written.RecordExprField written.RecordExprFieldList written.Stmt written.MatchArm
      written.MacroCall written.Pat written.RecordPatField written.AssocTypeArg written.Param written.PathType written.TypeBound
      written.Type_
      (λ e. e.0) (λ e. e.0) (λ e. e.0) (λ e. e.0) (λ e. e.0) (λ e. e.0) (λ e. e.0) (λ e. e.0) (λ e. e.0) (λ e. e.0) (λ e. e.0) (λ e. e.0)
      (λ e. e.0) (λ e. e.0) (λ e. e.0) (λ e. e.0) (λ e. e.0) (λ e. e.0) (λ e. e.0) (λ e. e.0) (λ e. e.0) (λ e. e.0)

  abbrev pub bare_pat : PatLayer to → PatLayer written
  bare_pat = folds.map-Pat
      to.ElseBranch to.ExprKind to.StmtKind to.PatKind to.GenericArg to.TypeKind to.BlockExpr to.Expr to.Path to.PathSegment
      to.RecordExprField to.RecordExprFieldList to.Stmt to.MatchArm to.MacroCall to.Pat to.RecordPatField to.AssocTypeArg to.Param
      to.PathType to.TypeBound to.Type_
      written.ElseBranch written.ExprKind written.StmtKind written.PatKind written.GenericArg written.TypeKind written.BlockExpr
      written.Expr written.Path written.PathSegment written.RecordExprField written.RecordExprFieldList written.Stmt written.MatchArm
      written.MacroCall written.Pat written.RecordPatField written.AssocTypeArg written.Param written.PathType written.TypeBound
      written.Type_
      (λ e. e.0) (λ e. e.0) (λ e. e.0) (λ e. e.0) (λ e. e.0) (λ e. e.0) (λ e. e.0) (λ e. e.0) (λ e. e.0) (λ e. e.0) (λ e. e.0) (λ e. e.0)
      (λ e. e.0) (λ e. e.0) (λ e. e.0) (λ e. e.0) (λ e. e.0) (λ e. e.0) (λ e. e.0) (λ e. e.0) (λ e. e.0) (λ e. e.0)

  abbrev pub bare_pat_field : RecordPatFieldLayer to → RecordPatFieldLayer written
  bare_pat_field = folds.map-RecordPatField
      to.ElseBranch to.ExprKind to.StmtKind to.PatKind to.GenericArg to.TypeKind to.BlockExpr to.Expr to.Path to.PathSegment
      to.RecordExprField to.RecordExprFieldList to.Stmt to.MatchArm to.MacroCall to.Pat to.RecordPatField to.AssocTypeArg to.Param
      to.PathType to.TypeBound to.Type_
      written.ElseBranch written.ExprKind written.StmtKind written.PatKind written.GenericArg written.TypeKind written.BlockExpr
      written.Expr written.Path written.PathSegment written.RecordExprField written.RecordExprFieldList written.Stmt written.MatchArm
      written.MacroCall written.Pat written.RecordPatField written.AssocTypeArg written.Param written.PathType written.TypeBound
      written.Type_
      (λ e. e.0) (λ e. e.0) (λ e. e.0) (λ e. e.0) (λ e. e.0) (λ e. e.0) (λ e. e.0) (λ e. e.0) (λ e. e.0) (λ e. e.0) (λ e. e.0) (λ e. e.0)
      (λ e. e.0) (λ e. e.0) (λ e. e.0) (λ e. e.0) (λ e. e.0) (λ e. e.0) (λ e. e.0) (λ e. e.0) (λ e. e.0) (λ e. e.0)

  abbrev pub bare_assoc_type_arg : AssocTypeArgLayer to → AssocTypeArgLayer written
  bare_assoc_type_arg = folds.map-AssocTypeArg
      to.ElseBranch to.ExprKind to.StmtKind to.PatKind to.GenericArg to.TypeKind to.BlockExpr to.Expr to.Path to.PathSegment
      to.RecordExprField to.RecordExprFieldList to.Stmt to.MatchArm to.MacroCall to.Pat to.RecordPatField to.AssocTypeArg to.Param
      to.PathType to.TypeBound to.Type_
      written.ElseBranch written.ExprKind written.StmtKind written.PatKind written.GenericArg written.TypeKind written.BlockExpr
      written.Expr written.Path written.PathSegment written.RecordExprField written.RecordExprFieldList written.Stmt written.MatchArm
      written.MacroCall written.Pat written.RecordPatField written.AssocTypeArg written.Param written.PathType written.TypeBound
      written.Type_
      (λ e. e.0) (λ e. e.0) (λ e. e.0) (λ e. e.0) (λ e. e.0) (λ e. e.0) (λ e. e.0) (λ e. e.0) (λ e. e.0) (λ e. e.0) (λ e. e.0) (λ e. e.0)
      (λ e. e.0) (λ e. e.0) (λ e. e.0) (λ e. e.0) (λ e. e.0) (λ e. e.0) (λ e. e.0) (λ e. e.0) (λ e. e.0) (λ e. e.0)

  abbrev pub bare_param : ParamLayer to → ParamLayer written
  bare_param = folds.map-Param
      to.ElseBranch to.ExprKind to.StmtKind to.PatKind to.GenericArg to.TypeKind to.BlockExpr to.Expr to.Path to.PathSegment
      to.RecordExprField to.RecordExprFieldList to.Stmt to.MatchArm to.MacroCall to.Pat to.RecordPatField to.AssocTypeArg to.Param
      to.PathType to.TypeBound to.Type_
      written.ElseBranch written.ExprKind written.StmtKind written.PatKind written.GenericArg written.TypeKind written.BlockExpr
      written.Expr written.Path written.PathSegment written.RecordExprField written.RecordExprFieldList written.Stmt written.MatchArm
      written.MacroCall written.Pat written.RecordPatField written.AssocTypeArg written.Param written.PathType written.TypeBound
      written.Type_
      (λ e. e.0) (λ e. e.0) (λ e. e.0) (λ e. e.0) (λ e. e.0) (λ e. e.0) (λ e. e.0) (λ e. e.0) (λ e. e.0) (λ e. e.0) (λ e. e.0) (λ e. e.0)
      (λ e. e.0) (λ e. e.0) (λ e. e.0) (λ e. e.0) (λ e. e.0) (λ e. e.0) (λ e. e.0) (λ e. e.0) (λ e. e.0) (λ e. e.0)

  abbrev pub bare_path_type : PathTypeLayer to → PathTypeLayer written
  bare_path_type = folds.map-PathType
      to.ElseBranch to.ExprKind to.StmtKind to.PatKind to.GenericArg to.TypeKind to.BlockExpr to.Expr to.Path to.PathSegment
      to.RecordExprField to.RecordExprFieldList to.Stmt to.MatchArm to.MacroCall to.Pat to.RecordPatField to.AssocTypeArg to.Param
      to.PathType to.TypeBound to.Type_
      written.ElseBranch written.ExprKind written.StmtKind written.PatKind written.GenericArg written.TypeKind written.BlockExpr
      written.Expr written.Path written.PathSegment written.RecordExprField written.RecordExprFieldList written.Stmt written.MatchArm
      written.MacroCall written.Pat written.RecordPatField written.AssocTypeArg written.Param written.PathType written.TypeBound
      written.Type_
      (λ e. e.0) (λ e. e.0) (λ e. e.0) (λ e. e.0) (λ e. e.0) (λ e. e.0) (λ e. e.0) (λ e. e.0) (λ e. e.0) (λ e. e.0) (λ e. e.0) (λ e. e.0)
      (λ e. e.0) (λ e. e.0) (λ e. e.0) (λ e. e.0) (λ e. e.0) (λ e. e.0) (λ e. e.0) (λ e. e.0) (λ e. e.0) (λ e. e.0)

  abbrev pub bare_type_bound : TypeBoundLayer to → TypeBoundLayer written
  bare_type_bound = folds.map-TypeBound
      to.ElseBranch to.ExprKind to.StmtKind to.PatKind to.GenericArg to.TypeKind to.BlockExpr to.Expr to.Path to.PathSegment
      to.RecordExprField to.RecordExprFieldList to.Stmt to.MatchArm to.MacroCall to.Pat to.RecordPatField to.AssocTypeArg to.Param
      to.PathType to.TypeBound to.Type_
      written.ElseBranch written.ExprKind written.StmtKind written.PatKind written.GenericArg written.TypeKind written.BlockExpr
      written.Expr written.Path written.PathSegment written.RecordExprField written.RecordExprFieldList written.Stmt written.MatchArm
      written.MacroCall written.Pat written.RecordPatField written.AssocTypeArg written.Param written.PathType written.TypeBound
      written.Type_
      (λ e. e.0) (λ e. e.0) (λ e. e.0) (λ e. e.0) (λ e. e.0) (λ e. e.0) (λ e. e.0) (λ e. e.0) (λ e. e.0) (λ e. e.0) (λ e. e.0) (λ e. e.0)
      (λ e. e.0) (λ e. e.0) (λ e. e.0) (λ e. e.0) (λ e. e.0) (λ e. e.0) (λ e. e.0) (λ e. e.0) (λ e. e.0) (λ e. e.0)

  abbrev pub bare_type : Type_Layer to → Type_Layer written
  bare_type = folds.map-Type_
      to.ElseBranch to.ExprKind to.StmtKind to.PatKind to.GenericArg to.TypeKind to.BlockExpr to.Expr to.Path to.PathSegment
      to.RecordExprField to.RecordExprFieldList to.Stmt to.MatchArm to.MacroCall to.Pat to.RecordPatField to.AssocTypeArg to.Param
      to.PathType to.TypeBound to.Type_
      written.ElseBranch written.ExprKind written.StmtKind written.PatKind written.GenericArg written.TypeKind written.BlockExpr
      written.Expr written.Path written.PathSegment written.RecordExprField written.RecordExprFieldList written.Stmt written.MatchArm
      written.MacroCall written.Pat written.RecordPatField written.AssocTypeArg written.Param written.PathType written.TypeBound
      written.Type_
      (λ e. e.0) (λ e. e.0) (λ e. e.0) (λ e. e.0) (λ e. e.0) (λ e. e.0) (λ e. e.0) (λ e. e.0) (λ e. e.0) (λ e. e.0) (λ e. e.0) (λ e. e.0)
      (λ e. e.0) (λ e. e.0) (λ e. e.0) (λ e. e.0) (λ e. e.0) (λ e. e.0) (λ e. e.0) (λ e. e.0) (λ e. e.0) (λ e. e.0)
