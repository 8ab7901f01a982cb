-- How a fold passes on what stands in one level.
use Rattle.std.proofs.Common.{false, Option, None, List}
use Rattle.hir_syntax.specs.declared.ast.ElseBranch.TheFolds as folds
use Rattle.hir_base.specs.formers.seq.Seq as seq
use mathlib.Core.Former.{this}
use Rattle.hir_env.specs.Answers.{Answers}
use Rattle.hir_env.specs.Layers.{ElseBranchLayer, ExprKindLayer, StmtKindLayer, BlockExprLayer}
use Rattle.hir_env.specs.Layers.{RecordExprFieldLayer, RecordExprFieldListLayer, MatchArmLayer, paired}
use Rattle.hir_env.specs.TypeLayers.{GenericArgLayer, TypeKindLayer, PathLayer, PathSegmentLayer, AssocTypeArgLayer}
use Rattle.hir_env.specs.TypeLayers.{ParamLayer, PathTypeLayer}
use Rattle.hir_env.specs.TypeLayers.{TypeBoundLayer}
use Rattle.hir_env.specs.PatLayers.{PatKindLayer, RecordPatFieldLayer}
use Rattle.hir_env.specs.Layers.{Entering, written}
use Rattle.hir_env.specs.Folds.{fold_else_branch, fold_expr_kind, fold_stmt_kind, fold_pat_kind, fold_generic_arg, fold_type_kind}
use Rattle.hir_env.specs.Folds.{fold_block, fold_expr, fold_path, fold_segment, fold_field}
use Rattle.hir_env.specs.Folds.{fold_record, fold_stmt, fold_arm, fold_call, fold_pat, fold_pat_field, fold_assoc_type_arg, fold_param}
use Rattle.hir_env.specs.Folds.{fold_path_type, fold_type_bound, fold_type}

abbrev pub optional : {A B : Type 0} → (A → B) → Option A → Option B
optional {A} {B} h x = (folds.map-Param
    (Unit {0}) (Unit {0}) (Unit {0}) (Unit {0}) (Unit {0}) (Unit {0}) (Unit {0}) (Unit {0}) (Unit {0}) (Unit {0}) (Unit {0})
    (Unit {0}) (Unit {0}) (Unit {0}) (Unit {0}) (Unit {0}) (Unit {0}) (Unit {0}) (Unit {0}) (Unit {0}) (Unit {0}) A
    (Unit {0}) (Unit {0}) (Unit {0}) (Unit {0}) (Unit {0}) (Unit {0}) (Unit {0}) (Unit {0}) (Unit {0}) (Unit {0}) (Unit {0})
    (Unit {0}) (Unit {0}) (Unit {0}) (Unit {0}) (Unit {0}) (Unit {0}) (Unit {0}) (Unit {0}) (Unit {0}) (Unit {0}) B
    (λ x. x) (λ x. x) (λ x. x) (λ x. x) (λ x. x) (λ x. x) (λ x. x) (λ x. x) (λ x. x) (λ x. x) (λ x. x) (λ x. x) (λ x. x) (λ x. x)
    (λ x. x) (λ x. x) (λ x. x) (λ x. x) (λ x. x) (λ x. x) (λ x. x) h
    (record { id = record { 0 = 0 }; range = record { start = 0; end = 0 }; pat = None; ty = x; variadic = false })).ty

abbrev pub map_list : {A B : Type 0} → (A → B) → List A → List B
map_list {A} {B} h xs = (seq.the_former (this {0})).map A B h xs

abbrev pub listed_options : {A B : Type 0} → (A → B) → List (Option A) → List (Option B)
listed_options {A} {B} h xs = (folds.map-Path
    (Unit {0}) (Unit {0}) (Unit {0}) (Unit {0}) (Unit {0}) (Unit {0}) (Unit {0}) (Unit {0}) (Unit {0}) A (Unit {0}) (Unit {0})
    (Unit {0}) (Unit {0}) (Unit {0}) (Unit {0}) (Unit {0}) (Unit {0}) (Unit {0}) (Unit {0}) (Unit {0}) (Unit {0})
    (Unit {0}) (Unit {0}) (Unit {0}) (Unit {0}) (Unit {0}) (Unit {0}) (Unit {0}) (Unit {0}) (Unit {0}) B (Unit {0}) (Unit {0})
    (Unit {0}) (Unit {0}) (Unit {0}) (Unit {0}) (Unit {0}) (Unit {0}) (Unit {0}) (Unit {0}) (Unit {0}) (Unit {0})
    (λ x. x) (λ x. x) (λ x. x) (λ x. x) (λ x. x) (λ x. x) (λ x. x) (λ x. x) (λ x. x) h (λ x. x) (λ x. x) (λ x. x) (λ x. x) (λ x. x)
    (λ x. x) (λ x. x) (λ x. x) (λ x. x) (λ x. x) (λ x. x) (λ x. x)
    (record {
      id = record { 0 = 0 };
      range = record { start = 0; end = 0 };
      leading = false;
      in_macro = false;
      use_ = None;
      segs = xs;
    })).segs

-- with its reading
abbrev pub beside : {A B : Type 0} → (A → B) → A → A × B
beside h x = (x, h x)

module _ (env : Answers) (into : Option Entering) where
  abbrev pub mapped_else : ElseBranchLayer written → ElseBranchLayer paired
  mapped_else = folds.map-ElseBranch
      written.ElseBranch written.ExprKind written.StmtKind written.PatKind written.GenericArg written.TypeKind written.BlockExpr
      written.Expr written.Path written.PathSegment written.RecordExprField written.RecordExprFieldList written.Stmt
      written.MatchArm written.MacroCall written.Pat written.RecordPatField written.AssocTypeArg written.Param written.PathType
      written.TypeBound written.Type_
      paired.ElseBranch paired.ExprKind paired.StmtKind paired.PatKind paired.GenericArg paired.TypeKind paired.BlockExpr
      paired.Expr paired.Path paired.PathSegment paired.RecordExprField paired.RecordExprFieldList paired.Stmt paired.MatchArm
      paired.MacroCall paired.Pat paired.RecordPatField paired.AssocTypeArg paired.Param paired.PathType paired.TypeBound
      paired.Type_
      (beside (fold_else_branch env into)) (beside (fold_expr_kind env into)) (beside (fold_stmt_kind env into))
      (beside (fold_pat_kind env into)) (beside (fold_generic_arg env into)) (beside (fold_type_kind env into))
      (beside (fold_block env into)) (beside (fold_expr env into)) (beside (fold_path env into)) (beside (fold_segment env into))
      (beside (fold_field env into)) (beside (fold_record env into)) (beside (fold_stmt env into)) (beside (fold_arm env into))
      (beside (fold_call env into)) (beside (fold_pat env into)) (beside (fold_pat_field env into))
      (beside (fold_assoc_type_arg env into)) (beside (fold_param env into)) (beside (fold_path_type env into))
      (beside (fold_type_bound env into)) (beside (fold_type env into))

  abbrev pub mapped_kind : ExprKindLayer written → ExprKindLayer paired
  mapped_kind = folds.map-ExprKind
      written.ElseBranch written.ExprKind written.StmtKind written.PatKind written.GenericArg written.TypeKind written.BlockExpr
      written.Expr written.Path written.PathSegment written.RecordExprField written.RecordExprFieldList written.Stmt
      written.MatchArm written.MacroCall written.Pat written.RecordPatField written.AssocTypeArg written.Param written.PathType
      written.TypeBound written.Type_
      paired.ElseBranch paired.ExprKind paired.StmtKind paired.PatKind paired.GenericArg paired.TypeKind paired.BlockExpr
      paired.Expr paired.Path paired.PathSegment paired.RecordExprField paired.RecordExprFieldList paired.Stmt paired.MatchArm
      paired.MacroCall paired.Pat paired.RecordPatField paired.AssocTypeArg paired.Param paired.PathType paired.TypeBound
      paired.Type_
      (beside (fold_else_branch env into)) (beside (fold_expr_kind env into)) (beside (fold_stmt_kind env into))
      (beside (fold_pat_kind env into)) (beside (fold_generic_arg env into)) (beside (fold_type_kind env into))
      (beside (fold_block env into)) (beside (fold_expr env into)) (beside (fold_path env into)) (beside (fold_segment env into))
      (beside (fold_field env into)) (beside (fold_record env into)) (beside (fold_stmt env into)) (beside (fold_arm env into))
      (beside (fold_call env into)) (beside (fold_pat env into)) (beside (fold_pat_field env into))
      (beside (fold_assoc_type_arg env into)) (beside (fold_param env into)) (beside (fold_path_type env into))
      (beside (fold_type_bound env into)) (beside (fold_type env into))

  abbrev pub mapped_stmt_kind : StmtKindLayer written → StmtKindLayer paired
  mapped_stmt_kind = folds.map-StmtKind
      written.ElseBranch written.ExprKind written.StmtKind written.PatKind written.GenericArg written.TypeKind written.BlockExpr
      written.Expr written.Path written.PathSegment written.RecordExprField written.RecordExprFieldList written.Stmt
      written.MatchArm written.MacroCall written.Pat written.RecordPatField written.AssocTypeArg written.Param written.PathType
      written.TypeBound written.Type_
      paired.ElseBranch paired.ExprKind paired.StmtKind paired.PatKind paired.GenericArg paired.TypeKind paired.BlockExpr
      paired.Expr paired.Path paired.PathSegment paired.RecordExprField paired.RecordExprFieldList paired.Stmt paired.MatchArm
      paired.MacroCall paired.Pat paired.RecordPatField paired.AssocTypeArg paired.Param paired.PathType paired.TypeBound
      paired.Type_
      (beside (fold_else_branch env into)) (beside (fold_expr_kind env into)) (beside (fold_stmt_kind env into))
      (beside (fold_pat_kind env into)) (beside (fold_generic_arg env into)) (beside (fold_type_kind env into))
      (beside (fold_block env into)) (beside (fold_expr env into)) (beside (fold_path env into)) (beside (fold_segment env into))
      (beside (fold_field env into)) (beside (fold_record env into)) (beside (fold_stmt env into)) (beside (fold_arm env into))
      (beside (fold_call env into)) (beside (fold_pat env into)) (beside (fold_pat_field env into))
      (beside (fold_assoc_type_arg env into)) (beside (fold_param env into)) (beside (fold_path_type env into))
      (beside (fold_type_bound env into)) (beside (fold_type env into))

  abbrev pub mapped_pat_kind : PatKindLayer written → PatKindLayer paired
  mapped_pat_kind = folds.map-PatKind
      written.ElseBranch written.ExprKind written.StmtKind written.PatKind written.GenericArg written.TypeKind written.BlockExpr
      written.Expr written.Path written.PathSegment written.RecordExprField written.RecordExprFieldList written.Stmt
      written.MatchArm written.MacroCall written.Pat written.RecordPatField written.AssocTypeArg written.Param written.PathType
      written.TypeBound written.Type_
      paired.ElseBranch paired.ExprKind paired.StmtKind paired.PatKind paired.GenericArg paired.TypeKind paired.BlockExpr
      paired.Expr paired.Path paired.PathSegment paired.RecordExprField paired.RecordExprFieldList paired.Stmt paired.MatchArm
      paired.MacroCall paired.Pat paired.RecordPatField paired.AssocTypeArg paired.Param paired.PathType paired.TypeBound
      paired.Type_
      (beside (fold_else_branch env into)) (beside (fold_expr_kind env into)) (beside (fold_stmt_kind env into))
      (beside (fold_pat_kind env into)) (beside (fold_generic_arg env into)) (beside (fold_type_kind env into))
      (beside (fold_block env into)) (beside (fold_expr env into)) (beside (fold_path env into)) (beside (fold_segment env into))
      (beside (fold_field env into)) (beside (fold_record env into)) (beside (fold_stmt env into)) (beside (fold_arm env into))
      (beside (fold_call env into)) (beside (fold_pat env into)) (beside (fold_pat_field env into))
      (beside (fold_assoc_type_arg env into)) (beside (fold_param env into)) (beside (fold_path_type env into))
      (beside (fold_type_bound env into)) (beside (fold_type env into))

  abbrev pub mapped_generic_arg : GenericArgLayer written → GenericArgLayer paired
  mapped_generic_arg = folds.map-GenericArg
      written.ElseBranch written.ExprKind written.StmtKind written.PatKind written.GenericArg written.TypeKind written.BlockExpr
      written.Expr written.Path written.PathSegment written.RecordExprField written.RecordExprFieldList written.Stmt
      written.MatchArm written.MacroCall written.Pat written.RecordPatField written.AssocTypeArg written.Param written.PathType
      written.TypeBound written.Type_
      paired.ElseBranch paired.ExprKind paired.StmtKind paired.PatKind paired.GenericArg paired.TypeKind paired.BlockExpr
      paired.Expr paired.Path paired.PathSegment paired.RecordExprField paired.RecordExprFieldList paired.Stmt paired.MatchArm
      paired.MacroCall paired.Pat paired.RecordPatField paired.AssocTypeArg paired.Param paired.PathType paired.TypeBound
      paired.Type_
      (beside (fold_else_branch env into)) (beside (fold_expr_kind env into)) (beside (fold_stmt_kind env into))
      (beside (fold_pat_kind env into)) (beside (fold_generic_arg env into)) (beside (fold_type_kind env into))
      (beside (fold_block env into)) (beside (fold_expr env into)) (beside (fold_path env into)) (beside (fold_segment env into))
      (beside (fold_field env into)) (beside (fold_record env into)) (beside (fold_stmt env into)) (beside (fold_arm env into))
      (beside (fold_call env into)) (beside (fold_pat env into)) (beside (fold_pat_field env into))
      (beside (fold_assoc_type_arg env into)) (beside (fold_param env into)) (beside (fold_path_type env into))
      (beside (fold_type_bound env into)) (beside (fold_type env into))

  abbrev pub mapped_type_kind : TypeKindLayer written → TypeKindLayer paired
  mapped_type_kind = folds.map-TypeKind
      written.ElseBranch written.ExprKind written.StmtKind written.PatKind written.GenericArg written.TypeKind written.BlockExpr
      written.Expr written.Path written.PathSegment written.RecordExprField written.RecordExprFieldList written.Stmt
      written.MatchArm written.MacroCall written.Pat written.RecordPatField written.AssocTypeArg written.Param written.PathType
      written.TypeBound written.Type_
      paired.ElseBranch paired.ExprKind paired.StmtKind paired.PatKind paired.GenericArg paired.TypeKind paired.BlockExpr
      paired.Expr paired.Path paired.PathSegment paired.RecordExprField paired.RecordExprFieldList paired.Stmt paired.MatchArm
      paired.MacroCall paired.Pat paired.RecordPatField paired.AssocTypeArg paired.Param paired.PathType paired.TypeBound
      paired.Type_
      (beside (fold_else_branch env into)) (beside (fold_expr_kind env into)) (beside (fold_stmt_kind env into))
      (beside (fold_pat_kind env into)) (beside (fold_generic_arg env into)) (beside (fold_type_kind env into))
      (beside (fold_block env into)) (beside (fold_expr env into)) (beside (fold_path env into)) (beside (fold_segment env into))
      (beside (fold_field env into)) (beside (fold_record env into)) (beside (fold_stmt env into)) (beside (fold_arm env into))
      (beside (fold_call env into)) (beside (fold_pat env into)) (beside (fold_pat_field env into))
      (beside (fold_assoc_type_arg env into)) (beside (fold_param env into)) (beside (fold_path_type env into))
      (beside (fold_type_bound env into)) (beside (fold_type env into))

  abbrev pub mapped_block : BlockExprLayer written → BlockExprLayer paired
  mapped_block = folds.map-BlockExpr
      written.ElseBranch written.ExprKind written.StmtKind written.PatKind written.GenericArg written.TypeKind written.BlockExpr
      written.Expr written.Path written.PathSegment written.RecordExprField written.RecordExprFieldList written.Stmt
      written.MatchArm written.MacroCall written.Pat written.RecordPatField written.AssocTypeArg written.Param written.PathType
      written.TypeBound written.Type_
      paired.ElseBranch paired.ExprKind paired.StmtKind paired.PatKind paired.GenericArg paired.TypeKind paired.BlockExpr
      paired.Expr paired.Path paired.PathSegment paired.RecordExprField paired.RecordExprFieldList paired.Stmt paired.MatchArm
      paired.MacroCall paired.Pat paired.RecordPatField paired.AssocTypeArg paired.Param paired.PathType paired.TypeBound
      paired.Type_
      (beside (fold_else_branch env into)) (beside (fold_expr_kind env into)) (beside (fold_stmt_kind env into))
      (beside (fold_pat_kind env into)) (beside (fold_generic_arg env into)) (beside (fold_type_kind env into))
      (beside (fold_block env into)) (beside (fold_expr env into)) (beside (fold_path env into)) (beside (fold_segment env into))
      (beside (fold_field env into)) (beside (fold_record env into)) (beside (fold_stmt env into)) (beside (fold_arm env into))
      (beside (fold_call env into)) (beside (fold_pat env into)) (beside (fold_pat_field env into))
      (beside (fold_assoc_type_arg env into)) (beside (fold_param env into)) (beside (fold_path_type env into))
      (beside (fold_type_bound env into)) (beside (fold_type env into))

  abbrev pub mapped_path : PathLayer written → PathLayer paired
  mapped_path = folds.map-Path
      written.ElseBranch written.ExprKind written.StmtKind written.PatKind written.GenericArg written.TypeKind written.BlockExpr
      written.Expr written.Path written.PathSegment written.RecordExprField written.RecordExprFieldList written.Stmt
      written.MatchArm written.MacroCall written.Pat written.RecordPatField written.AssocTypeArg written.Param written.PathType
      written.TypeBound written.Type_
      paired.ElseBranch paired.ExprKind paired.StmtKind paired.PatKind paired.GenericArg paired.TypeKind paired.BlockExpr
      paired.Expr paired.Path paired.PathSegment paired.RecordExprField paired.RecordExprFieldList paired.Stmt paired.MatchArm
      paired.MacroCall paired.Pat paired.RecordPatField paired.AssocTypeArg paired.Param paired.PathType paired.TypeBound
      paired.Type_
      (beside (fold_else_branch env into)) (beside (fold_expr_kind env into)) (beside (fold_stmt_kind env into))
      (beside (fold_pat_kind env into)) (beside (fold_generic_arg env into)) (beside (fold_type_kind env into))
      (beside (fold_block env into)) (beside (fold_expr env into)) (beside (fold_path env into)) (beside (fold_segment env into))
      (beside (fold_field env into)) (beside (fold_record env into)) (beside (fold_stmt env into)) (beside (fold_arm env into))
      (beside (fold_call env into)) (beside (fold_pat env into)) (beside (fold_pat_field env into))
      (beside (fold_assoc_type_arg env into)) (beside (fold_param env into)) (beside (fold_path_type env into))
      (beside (fold_type_bound env into)) (beside (fold_type env into))

  abbrev pub mapped_segment : PathSegmentLayer written → PathSegmentLayer paired
  mapped_segment = folds.map-PathSegment
      written.ElseBranch written.ExprKind written.StmtKind written.PatKind written.GenericArg written.TypeKind written.BlockExpr
      written.Expr written.Path written.PathSegment written.RecordExprField written.RecordExprFieldList written.Stmt
      written.MatchArm written.MacroCall written.Pat written.RecordPatField written.AssocTypeArg written.Param written.PathType
      written.TypeBound written.Type_
      paired.ElseBranch paired.ExprKind paired.StmtKind paired.PatKind paired.GenericArg paired.TypeKind paired.BlockExpr
      paired.Expr paired.Path paired.PathSegment paired.RecordExprField paired.RecordExprFieldList paired.Stmt paired.MatchArm
      paired.MacroCall paired.Pat paired.RecordPatField paired.AssocTypeArg paired.Param paired.PathType paired.TypeBound
      paired.Type_
      (beside (fold_else_branch env into)) (beside (fold_expr_kind env into)) (beside (fold_stmt_kind env into))
      (beside (fold_pat_kind env into)) (beside (fold_generic_arg env into)) (beside (fold_type_kind env into))
      (beside (fold_block env into)) (beside (fold_expr env into)) (beside (fold_path env into)) (beside (fold_segment env into))
      (beside (fold_field env into)) (beside (fold_record env into)) (beside (fold_stmt env into)) (beside (fold_arm env into))
      (beside (fold_call env into)) (beside (fold_pat env into)) (beside (fold_pat_field env into))
      (beside (fold_assoc_type_arg env into)) (beside (fold_param env into)) (beside (fold_path_type env into))
      (beside (fold_type_bound env into)) (beside (fold_type env into))

  abbrev pub mapped_field : RecordExprFieldLayer written → RecordExprFieldLayer paired
  mapped_field = folds.map-RecordExprField
      written.ElseBranch written.ExprKind written.StmtKind written.PatKind written.GenericArg written.TypeKind written.BlockExpr
      written.Expr written.Path written.PathSegment written.RecordExprField written.RecordExprFieldList written.Stmt
      written.MatchArm written.MacroCall written.Pat written.RecordPatField written.AssocTypeArg written.Param written.PathType
      written.TypeBound written.Type_
      paired.ElseBranch paired.ExprKind paired.StmtKind paired.PatKind paired.GenericArg paired.TypeKind paired.BlockExpr
      paired.Expr paired.Path paired.PathSegment paired.RecordExprField paired.RecordExprFieldList paired.Stmt paired.MatchArm
      paired.MacroCall paired.Pat paired.RecordPatField paired.AssocTypeArg paired.Param paired.PathType paired.TypeBound
      paired.Type_
      (beside (fold_else_branch env into)) (beside (fold_expr_kind env into)) (beside (fold_stmt_kind env into))
      (beside (fold_pat_kind env into)) (beside (fold_generic_arg env into)) (beside (fold_type_kind env into))
      (beside (fold_block env into)) (beside (fold_expr env into)) (beside (fold_path env into)) (beside (fold_segment env into))
      (beside (fold_field env into)) (beside (fold_record env into)) (beside (fold_stmt env into)) (beside (fold_arm env into))
      (beside (fold_call env into)) (beside (fold_pat env into)) (beside (fold_pat_field env into))
      (beside (fold_assoc_type_arg env into)) (beside (fold_param env into)) (beside (fold_path_type env into))
      (beside (fold_type_bound env into)) (beside (fold_type env into))

  abbrev pub mapped_record : RecordExprFieldListLayer written → RecordExprFieldListLayer paired
  mapped_record = folds.map-RecordExprFieldList
      written.ElseBranch written.ExprKind written.StmtKind written.PatKind written.GenericArg written.TypeKind written.BlockExpr
      written.Expr written.Path written.PathSegment written.RecordExprField written.RecordExprFieldList written.Stmt
      written.MatchArm written.MacroCall written.Pat written.RecordPatField written.AssocTypeArg written.Param written.PathType
      written.TypeBound written.Type_
      paired.ElseBranch paired.ExprKind paired.StmtKind paired.PatKind paired.GenericArg paired.TypeKind paired.BlockExpr
      paired.Expr paired.Path paired.PathSegment paired.RecordExprField paired.RecordExprFieldList paired.Stmt paired.MatchArm
      paired.MacroCall paired.Pat paired.RecordPatField paired.AssocTypeArg paired.Param paired.PathType paired.TypeBound
      paired.Type_
      (beside (fold_else_branch env into)) (beside (fold_expr_kind env into)) (beside (fold_stmt_kind env into))
      (beside (fold_pat_kind env into)) (beside (fold_generic_arg env into)) (beside (fold_type_kind env into))
      (beside (fold_block env into)) (beside (fold_expr env into)) (beside (fold_path env into)) (beside (fold_segment env into))
      (beside (fold_field env into)) (beside (fold_record env into)) (beside (fold_stmt env into)) (beside (fold_arm env into))
      (beside (fold_call env into)) (beside (fold_pat env into)) (beside (fold_pat_field env into))
      (beside (fold_assoc_type_arg env into)) (beside (fold_param env into)) (beside (fold_path_type env into))
      (beside (fold_type_bound env into)) (beside (fold_type env into))

  abbrev pub mapped_arm : MatchArmLayer written → MatchArmLayer paired
  mapped_arm = folds.map-MatchArm
      written.ElseBranch written.ExprKind written.StmtKind written.PatKind written.GenericArg written.TypeKind written.BlockExpr
      written.Expr written.Path written.PathSegment written.RecordExprField written.RecordExprFieldList written.Stmt
      written.MatchArm written.MacroCall written.Pat written.RecordPatField written.AssocTypeArg written.Param written.PathType
      written.TypeBound written.Type_
      paired.ElseBranch paired.ExprKind paired.StmtKind paired.PatKind paired.GenericArg paired.TypeKind paired.BlockExpr
      paired.Expr paired.Path paired.PathSegment paired.RecordExprField paired.RecordExprFieldList paired.Stmt paired.MatchArm
      paired.MacroCall paired.Pat paired.RecordPatField paired.AssocTypeArg paired.Param paired.PathType paired.TypeBound
      paired.Type_
      (beside (fold_else_branch env into)) (beside (fold_expr_kind env into)) (beside (fold_stmt_kind env into))
      (beside (fold_pat_kind env into)) (beside (fold_generic_arg env into)) (beside (fold_type_kind env into))
      (beside (fold_block env into)) (beside (fold_expr env into)) (beside (fold_path env into)) (beside (fold_segment env into))
      (beside (fold_field env into)) (beside (fold_record env into)) (beside (fold_stmt env into)) (beside (fold_arm env into))
      (beside (fold_call env into)) (beside (fold_pat env into)) (beside (fold_pat_field env into))
      (beside (fold_assoc_type_arg env into)) (beside (fold_param env into)) (beside (fold_path_type env into))
      (beside (fold_type_bound env into)) (beside (fold_type env into))

  abbrev pub mapped_pat_field : RecordPatFieldLayer written → RecordPatFieldLayer paired
  mapped_pat_field = folds.map-RecordPatField
      written.ElseBranch written.ExprKind written.StmtKind written.PatKind written.GenericArg written.TypeKind written.BlockExpr
      written.Expr written.Path written.PathSegment written.RecordExprField written.RecordExprFieldList written.Stmt
      written.MatchArm written.MacroCall written.Pat written.RecordPatField written.AssocTypeArg written.Param written.PathType
      written.TypeBound written.Type_
      paired.ElseBranch paired.ExprKind paired.StmtKind paired.PatKind paired.GenericArg paired.TypeKind paired.BlockExpr
      paired.Expr paired.Path paired.PathSegment paired.RecordExprField paired.RecordExprFieldList paired.Stmt paired.MatchArm
      paired.MacroCall paired.Pat paired.RecordPatField paired.AssocTypeArg paired.Param paired.PathType paired.TypeBound
      paired.Type_
      (beside (fold_else_branch env into)) (beside (fold_expr_kind env into)) (beside (fold_stmt_kind env into))
      (beside (fold_pat_kind env into)) (beside (fold_generic_arg env into)) (beside (fold_type_kind env into))
      (beside (fold_block env into)) (beside (fold_expr env into)) (beside (fold_path env into)) (beside (fold_segment env into))
      (beside (fold_field env into)) (beside (fold_record env into)) (beside (fold_stmt env into)) (beside (fold_arm env into))
      (beside (fold_call env into)) (beside (fold_pat env into)) (beside (fold_pat_field env into))
      (beside (fold_assoc_type_arg env into)) (beside (fold_param env into)) (beside (fold_path_type env into))
      (beside (fold_type_bound env into)) (beside (fold_type env into))

  abbrev pub mapped_assoc_type_arg : AssocTypeArgLayer written → AssocTypeArgLayer paired
  mapped_assoc_type_arg = folds.map-AssocTypeArg
      written.ElseBranch written.ExprKind written.StmtKind written.PatKind written.GenericArg written.TypeKind written.BlockExpr
      written.Expr written.Path written.PathSegment written.RecordExprField written.RecordExprFieldList written.Stmt
      written.MatchArm written.MacroCall written.Pat written.RecordPatField written.AssocTypeArg written.Param written.PathType
      written.TypeBound written.Type_
      paired.ElseBranch paired.ExprKind paired.StmtKind paired.PatKind paired.GenericArg paired.TypeKind paired.BlockExpr
      paired.Expr paired.Path paired.PathSegment paired.RecordExprField paired.RecordExprFieldList paired.Stmt paired.MatchArm
      paired.MacroCall paired.Pat paired.RecordPatField paired.AssocTypeArg paired.Param paired.PathType paired.TypeBound
      paired.Type_
      (beside (fold_else_branch env into)) (beside (fold_expr_kind env into)) (beside (fold_stmt_kind env into))
      (beside (fold_pat_kind env into)) (beside (fold_generic_arg env into)) (beside (fold_type_kind env into))
      (beside (fold_block env into)) (beside (fold_expr env into)) (beside (fold_path env into)) (beside (fold_segment env into))
      (beside (fold_field env into)) (beside (fold_record env into)) (beside (fold_stmt env into)) (beside (fold_arm env into))
      (beside (fold_call env into)) (beside (fold_pat env into)) (beside (fold_pat_field env into))
      (beside (fold_assoc_type_arg env into)) (beside (fold_param env into)) (beside (fold_path_type env into))
      (beside (fold_type_bound env into)) (beside (fold_type env into))

  abbrev pub mapped_param : ParamLayer written → ParamLayer paired
  mapped_param = folds.map-Param
      written.ElseBranch written.ExprKind written.StmtKind written.PatKind written.GenericArg written.TypeKind written.BlockExpr
      written.Expr written.Path written.PathSegment written.RecordExprField written.RecordExprFieldList written.Stmt
      written.MatchArm written.MacroCall written.Pat written.RecordPatField written.AssocTypeArg written.Param written.PathType
      written.TypeBound written.Type_
      paired.ElseBranch paired.ExprKind paired.StmtKind paired.PatKind paired.GenericArg paired.TypeKind paired.BlockExpr
      paired.Expr paired.Path paired.PathSegment paired.RecordExprField paired.RecordExprFieldList paired.Stmt paired.MatchArm
      paired.MacroCall paired.Pat paired.RecordPatField paired.AssocTypeArg paired.Param paired.PathType paired.TypeBound
      paired.Type_
      (beside (fold_else_branch env into)) (beside (fold_expr_kind env into)) (beside (fold_stmt_kind env into))
      (beside (fold_pat_kind env into)) (beside (fold_generic_arg env into)) (beside (fold_type_kind env into))
      (beside (fold_block env into)) (beside (fold_expr env into)) (beside (fold_path env into)) (beside (fold_segment env into))
      (beside (fold_field env into)) (beside (fold_record env into)) (beside (fold_stmt env into)) (beside (fold_arm env into))
      (beside (fold_call env into)) (beside (fold_pat env into)) (beside (fold_pat_field env into))
      (beside (fold_assoc_type_arg env into)) (beside (fold_param env into)) (beside (fold_path_type env into))
      (beside (fold_type_bound env into)) (beside (fold_type env into))

  abbrev pub mapped_path_type : PathTypeLayer written → PathTypeLayer paired
  mapped_path_type = folds.map-PathType
      written.ElseBranch written.ExprKind written.StmtKind written.PatKind written.GenericArg written.TypeKind written.BlockExpr
      written.Expr written.Path written.PathSegment written.RecordExprField written.RecordExprFieldList written.Stmt
      written.MatchArm written.MacroCall written.Pat written.RecordPatField written.AssocTypeArg written.Param written.PathType
      written.TypeBound written.Type_
      paired.ElseBranch paired.ExprKind paired.StmtKind paired.PatKind paired.GenericArg paired.TypeKind paired.BlockExpr
      paired.Expr paired.Path paired.PathSegment paired.RecordExprField paired.RecordExprFieldList paired.Stmt paired.MatchArm
      paired.MacroCall paired.Pat paired.RecordPatField paired.AssocTypeArg paired.Param paired.PathType paired.TypeBound
      paired.Type_
      (beside (fold_else_branch env into)) (beside (fold_expr_kind env into)) (beside (fold_stmt_kind env into))
      (beside (fold_pat_kind env into)) (beside (fold_generic_arg env into)) (beside (fold_type_kind env into))
      (beside (fold_block env into)) (beside (fold_expr env into)) (beside (fold_path env into)) (beside (fold_segment env into))
      (beside (fold_field env into)) (beside (fold_record env into)) (beside (fold_stmt env into)) (beside (fold_arm env into))
      (beside (fold_call env into)) (beside (fold_pat env into)) (beside (fold_pat_field env into))
      (beside (fold_assoc_type_arg env into)) (beside (fold_param env into)) (beside (fold_path_type env into))
      (beside (fold_type_bound env into)) (beside (fold_type env into))

  abbrev pub mapped_type_bound : TypeBoundLayer written → TypeBoundLayer paired
  mapped_type_bound = folds.map-TypeBound
      written.ElseBranch written.ExprKind written.StmtKind written.PatKind written.GenericArg written.TypeKind written.BlockExpr
      written.Expr written.Path written.PathSegment written.RecordExprField written.RecordExprFieldList written.Stmt
      written.MatchArm written.MacroCall written.Pat written.RecordPatField written.AssocTypeArg written.Param written.PathType
      written.TypeBound written.Type_
      paired.ElseBranch paired.ExprKind paired.StmtKind paired.PatKind paired.GenericArg paired.TypeKind paired.BlockExpr
      paired.Expr paired.Path paired.PathSegment paired.RecordExprField paired.RecordExprFieldList paired.Stmt paired.MatchArm
      paired.MacroCall paired.Pat paired.RecordPatField paired.AssocTypeArg paired.Param paired.PathType paired.TypeBound
      paired.Type_
      (beside (fold_else_branch env into)) (beside (fold_expr_kind env into)) (beside (fold_stmt_kind env into))
      (beside (fold_pat_kind env into)) (beside (fold_generic_arg env into)) (beside (fold_type_kind env into))
      (beside (fold_block env into)) (beside (fold_expr env into)) (beside (fold_path env into)) (beside (fold_segment env into))
      (beside (fold_field env into)) (beside (fold_record env into)) (beside (fold_stmt env into)) (beside (fold_arm env into))
      (beside (fold_call env into)) (beside (fold_pat env into)) (beside (fold_pat_field env into))
      (beside (fold_assoc_type_arg env into)) (beside (fold_param env into)) (beside (fold_path_type env into))
      (beside (fold_type_bound env into)) (beside (fold_type env into))
