-- What is read of a type or a path is one step over what is read of its parts.
use Rattle.std.proofs.Common.{◌≡◌, ◌∙◌, ap, sym, Option}
use Rattle.hir_syntax.specs.declared.ast.ElseBranch.TheFolds as folds
use Rattle.hir_env.specs.Answers.{Answers}
use Rattle.hir_env.specs.ResolveCtx.{ptr}
use Rattle.hir_env.specs.Layers.{readings, itself}
use Rattle.hir_env.specs.Answering as of
use Rattle.hir_env.specs.Paths as of_types
use Rattle.hir_env.specs.Pats as of_pats
use Rattle.hir_env.proofs.Mapped.{mapped_generic_arg, mapped_type_kind, mapped_path, mapped_segment, mapped_assoc_type_arg}
use Rattle.hir_env.proofs.Mapped.{mapped_param, mapped_path_type}
use Rattle.hir_env.proofs.Mapped.{mapped_type_bound}
use Rattle.hir_env.specs.Layers.{Entering}
use Rattle.hir_env.specs.Folds.{fold_else_branch, fold_expr_kind, fold_stmt_kind, fold_pat_kind, fold_generic_arg, fold_type_kind}
use Rattle.hir_env.specs.Folds.{fold_block, fold_expr, fold_path, fold_segment, fold_field}
use Rattle.hir_env.specs.Folds.{fold_record, fold_stmt, fold_arm, fold_call, fold_pat, fold_pat_field, fold_assoc_type_arg, fold_param}
use Rattle.hir_env.specs.Folds.{fold_path_type, fold_type_bound, fold_type}
use Rattle.hir_syntax.specs.declared.types.GenericArg.{GenericArg as AstGenericArg, out-GenericArg, roll-out-GenericArg}
use Rattle.hir_syntax.specs.declared.types.TypeKind.{TypeKind as AstTypeKind, out-TypeKind, roll-out-TypeKind}
use Rattle.hir_syntax.specs.declared.ast.Path.{Path as AstPath, out-Path, roll-out-Path}
use Rattle.hir_syntax.specs.declared.ast.PathSegment.{PathSegment as AstPathSegment, out-PathSegment, roll-out-PathSegment}
use Rattle.hir_syntax.specs.declared.types.AssocTypeArg.{AssocTypeArg as AstAssocTypeArg, out-AssocTypeArg, roll-out-AssocTypeArg}
use Rattle.hir_syntax.specs.declared.types.Param.{Param as AstParam, out-Param, roll-out-Param}
use Rattle.hir_syntax.specs.declared.types.PathType.{PathType as AstPathType, out-PathType, roll-out-PathType}
use Rattle.hir_syntax.specs.declared.types.TypeBound.{TypeBound as AstTypeBound, out-TypeBound, roll-out-TypeBound}
use Rattle.hir_syntax.specs.declared.types.Type_.{Type_ as AstType_, out-Type_, roll-out-Type_}

module _ (env : Answers) (into : Option Entering) where
  pub opened_generic_arg : (x : AstGenericArg) → fold_generic_arg env into x
      ≡ of_types.generic_arg_step env (itself into) (mapped_generic_arg env into (out-GenericArg x))
  unfolding fold_else_branch fold_expr_kind fold_stmt_kind fold_pat_kind fold_generic_arg fold_type_kind fold_block fold_expr
      fold_path fold_segment fold_field fold_record fold_stmt fold_arm fold_call fold_pat fold_pat_field fold_assoc_type_arg
      fold_param fold_path_type fold_type_bound fold_type
  opened_generic_arg x = sym (ap (fold_generic_arg env into) (roll-out-GenericArg x)) ∙ folds.para-roll-GenericArg
      readings.ElseBranch readings.ExprKind readings.StmtKind readings.PatKind readings.GenericArg readings.TypeKind
      readings.BlockExpr readings.Expr readings.Path readings.PathSegment readings.RecordExprField readings.RecordExprFieldList
      readings.Stmt readings.MatchArm readings.MacroCall readings.Pat readings.RecordPatField readings.AssocTypeArg readings.Param
      readings.PathType readings.TypeBound readings.Type_
      (of.else_branch env (itself into)) (of.kind_step env (itself into)) (of.stmt_kind env (itself into))
      (of_pats.pat_kind_step env (itself into)) (of_types.generic_arg_step env (itself into))
      (of_types.type_kind_step env (itself into)) (of.block_step env (itself into)) (of.expr_step env (itself into))
      (of_types.path_reading env (itself into)) (of_types.segment_step env (itself into)) (of.field_step env (itself into))
      (of.record_step env (itself into)) (of.stmt_step env (itself into)) (of.arm_step env (itself into))
      (of.call_step env (itself into)) (of_pats.pat_step env (itself into)) (of_pats.pat_field_step env (itself into))
      (of_types.assoc_type_arg_step env (itself into)) (of_types.param_step env (itself into))
      (of_types.path_type_step env (itself into)) (of_types.type_bound_step env (itself into))
      (of_types.type_step env (itself into))
      (out-GenericArg x)

  pub opened_type_kind : (x : AstTypeKind) → fold_type_kind env into x
      ≡ of_types.type_kind_step env (itself into) (mapped_type_kind env into (out-TypeKind x))
  unfolding fold_else_branch fold_expr_kind fold_stmt_kind fold_pat_kind fold_generic_arg fold_type_kind fold_block fold_expr
      fold_path fold_segment fold_field fold_record fold_stmt fold_arm fold_call fold_pat fold_pat_field fold_assoc_type_arg
      fold_param fold_path_type fold_type_bound fold_type
  opened_type_kind x = sym (ap (fold_type_kind env into) (roll-out-TypeKind x)) ∙ folds.para-roll-TypeKind
      readings.ElseBranch readings.ExprKind readings.StmtKind readings.PatKind readings.GenericArg readings.TypeKind
      readings.BlockExpr readings.Expr readings.Path readings.PathSegment readings.RecordExprField readings.RecordExprFieldList
      readings.Stmt readings.MatchArm readings.MacroCall readings.Pat readings.RecordPatField readings.AssocTypeArg readings.Param
      readings.PathType readings.TypeBound readings.Type_
      (of.else_branch env (itself into)) (of.kind_step env (itself into)) (of.stmt_kind env (itself into))
      (of_pats.pat_kind_step env (itself into)) (of_types.generic_arg_step env (itself into))
      (of_types.type_kind_step env (itself into)) (of.block_step env (itself into)) (of.expr_step env (itself into))
      (of_types.path_reading env (itself into)) (of_types.segment_step env (itself into)) (of.field_step env (itself into))
      (of.record_step env (itself into)) (of.stmt_step env (itself into)) (of.arm_step env (itself into))
      (of.call_step env (itself into)) (of_pats.pat_step env (itself into)) (of_pats.pat_field_step env (itself into))
      (of_types.assoc_type_arg_step env (itself into)) (of_types.param_step env (itself into))
      (of_types.path_type_step env (itself into)) (of_types.type_bound_step env (itself into))
      (of_types.type_step env (itself into))
      (out-TypeKind x)

  pub opened_path : (x : AstPath) → fold_path env into x
      ≡ of_types.path_reading env (itself into) (mapped_path env into (out-Path x))
  unfolding fold_else_branch fold_expr_kind fold_stmt_kind fold_pat_kind fold_generic_arg fold_type_kind fold_block fold_expr
      fold_path fold_segment fold_field fold_record fold_stmt fold_arm fold_call fold_pat fold_pat_field fold_assoc_type_arg
      fold_param fold_path_type fold_type_bound fold_type
  opened_path x = sym (ap (fold_path env into) (roll-out-Path x)) ∙ folds.para-roll-Path
      readings.ElseBranch readings.ExprKind readings.StmtKind readings.PatKind readings.GenericArg readings.TypeKind
      readings.BlockExpr readings.Expr readings.Path readings.PathSegment readings.RecordExprField readings.RecordExprFieldList
      readings.Stmt readings.MatchArm readings.MacroCall readings.Pat readings.RecordPatField readings.AssocTypeArg readings.Param
      readings.PathType readings.TypeBound readings.Type_
      (of.else_branch env (itself into)) (of.kind_step env (itself into)) (of.stmt_kind env (itself into))
      (of_pats.pat_kind_step env (itself into)) (of_types.generic_arg_step env (itself into))
      (of_types.type_kind_step env (itself into)) (of.block_step env (itself into)) (of.expr_step env (itself into))
      (of_types.path_reading env (itself into)) (of_types.segment_step env (itself into)) (of.field_step env (itself into))
      (of.record_step env (itself into)) (of.stmt_step env (itself into)) (of.arm_step env (itself into))
      (of.call_step env (itself into)) (of_pats.pat_step env (itself into)) (of_pats.pat_field_step env (itself into))
      (of_types.assoc_type_arg_step env (itself into)) (of_types.param_step env (itself into))
      (of_types.path_type_step env (itself into)) (of_types.type_bound_step env (itself into))
      (of_types.type_step env (itself into))
      (out-Path x)

  pub opened_segment : (x : AstPathSegment) → fold_segment env into x
      ≡ of_types.segment_step env (itself into) (mapped_segment env into (out-PathSegment x))
  unfolding fold_else_branch fold_expr_kind fold_stmt_kind fold_pat_kind fold_generic_arg fold_type_kind fold_block fold_expr
      fold_path fold_segment fold_field fold_record fold_stmt fold_arm fold_call fold_pat fold_pat_field fold_assoc_type_arg
      fold_param fold_path_type fold_type_bound fold_type
  opened_segment x = sym (ap (fold_segment env into) (roll-out-PathSegment x)) ∙ folds.para-roll-PathSegment
      readings.ElseBranch readings.ExprKind readings.StmtKind readings.PatKind readings.GenericArg readings.TypeKind
      readings.BlockExpr readings.Expr readings.Path readings.PathSegment readings.RecordExprField readings.RecordExprFieldList
      readings.Stmt readings.MatchArm readings.MacroCall readings.Pat readings.RecordPatField readings.AssocTypeArg readings.Param
      readings.PathType readings.TypeBound readings.Type_
      (of.else_branch env (itself into)) (of.kind_step env (itself into)) (of.stmt_kind env (itself into))
      (of_pats.pat_kind_step env (itself into)) (of_types.generic_arg_step env (itself into))
      (of_types.type_kind_step env (itself into)) (of.block_step env (itself into)) (of.expr_step env (itself into))
      (of_types.path_reading env (itself into)) (of_types.segment_step env (itself into)) (of.field_step env (itself into))
      (of.record_step env (itself into)) (of.stmt_step env (itself into)) (of.arm_step env (itself into))
      (of.call_step env (itself into)) (of_pats.pat_step env (itself into)) (of_pats.pat_field_step env (itself into))
      (of_types.assoc_type_arg_step env (itself into)) (of_types.param_step env (itself into))
      (of_types.path_type_step env (itself into)) (of_types.type_bound_step env (itself into))
      (of_types.type_step env (itself into))
      (out-PathSegment x)

  pub opened_assoc_type_arg : (x : AstAssocTypeArg) → fold_assoc_type_arg env into x
      ≡ of_types.assoc_type_arg_step env (itself into) (mapped_assoc_type_arg env into (out-AssocTypeArg x))
  unfolding fold_else_branch fold_expr_kind fold_stmt_kind fold_pat_kind fold_generic_arg fold_type_kind fold_block fold_expr
      fold_path fold_segment fold_field fold_record fold_stmt fold_arm fold_call fold_pat fold_pat_field fold_assoc_type_arg
      fold_param fold_path_type fold_type_bound fold_type
  opened_assoc_type_arg x = sym (ap (fold_assoc_type_arg env into) (roll-out-AssocTypeArg x)) ∙ folds.para-roll-AssocTypeArg
      readings.ElseBranch readings.ExprKind readings.StmtKind readings.PatKind readings.GenericArg readings.TypeKind
      readings.BlockExpr readings.Expr readings.Path readings.PathSegment readings.RecordExprField readings.RecordExprFieldList
      readings.Stmt readings.MatchArm readings.MacroCall readings.Pat readings.RecordPatField readings.AssocTypeArg readings.Param
      readings.PathType readings.TypeBound readings.Type_
      (of.else_branch env (itself into)) (of.kind_step env (itself into)) (of.stmt_kind env (itself into))
      (of_pats.pat_kind_step env (itself into)) (of_types.generic_arg_step env (itself into))
      (of_types.type_kind_step env (itself into)) (of.block_step env (itself into)) (of.expr_step env (itself into))
      (of_types.path_reading env (itself into)) (of_types.segment_step env (itself into)) (of.field_step env (itself into))
      (of.record_step env (itself into)) (of.stmt_step env (itself into)) (of.arm_step env (itself into))
      (of.call_step env (itself into)) (of_pats.pat_step env (itself into)) (of_pats.pat_field_step env (itself into))
      (of_types.assoc_type_arg_step env (itself into)) (of_types.param_step env (itself into))
      (of_types.path_type_step env (itself into)) (of_types.type_bound_step env (itself into))
      (of_types.type_step env (itself into))
      (out-AssocTypeArg x)

  pub opened_param : (x : AstParam) → fold_param env into x
      ≡ of_types.param_step env (itself into) (mapped_param env into (out-Param x))
  unfolding fold_else_branch fold_expr_kind fold_stmt_kind fold_pat_kind fold_generic_arg fold_type_kind fold_block fold_expr
      fold_path fold_segment fold_field fold_record fold_stmt fold_arm fold_call fold_pat fold_pat_field fold_assoc_type_arg
      fold_param fold_path_type fold_type_bound fold_type
  opened_param x = sym (ap (fold_param env into) (roll-out-Param x)) ∙ folds.para-roll-Param
      readings.ElseBranch readings.ExprKind readings.StmtKind readings.PatKind readings.GenericArg readings.TypeKind
      readings.BlockExpr readings.Expr readings.Path readings.PathSegment readings.RecordExprField readings.RecordExprFieldList
      readings.Stmt readings.MatchArm readings.MacroCall readings.Pat readings.RecordPatField readings.AssocTypeArg readings.Param
      readings.PathType readings.TypeBound readings.Type_
      (of.else_branch env (itself into)) (of.kind_step env (itself into)) (of.stmt_kind env (itself into))
      (of_pats.pat_kind_step env (itself into)) (of_types.generic_arg_step env (itself into))
      (of_types.type_kind_step env (itself into)) (of.block_step env (itself into)) (of.expr_step env (itself into))
      (of_types.path_reading env (itself into)) (of_types.segment_step env (itself into)) (of.field_step env (itself into))
      (of.record_step env (itself into)) (of.stmt_step env (itself into)) (of.arm_step env (itself into))
      (of.call_step env (itself into)) (of_pats.pat_step env (itself into)) (of_pats.pat_field_step env (itself into))
      (of_types.assoc_type_arg_step env (itself into)) (of_types.param_step env (itself into))
      (of_types.path_type_step env (itself into)) (of_types.type_bound_step env (itself into))
      (of_types.type_step env (itself into))
      (out-Param x)

  pub opened_path_type : (x : AstPathType) → fold_path_type env into x
      ≡ of_types.path_type_step env (itself into) (mapped_path_type env into (out-PathType x))
  unfolding fold_else_branch fold_expr_kind fold_stmt_kind fold_pat_kind fold_generic_arg fold_type_kind fold_block fold_expr
      fold_path fold_segment fold_field fold_record fold_stmt fold_arm fold_call fold_pat fold_pat_field fold_assoc_type_arg
      fold_param fold_path_type fold_type_bound fold_type
  opened_path_type x = sym (ap (fold_path_type env into) (roll-out-PathType x)) ∙ folds.para-roll-PathType
      readings.ElseBranch readings.ExprKind readings.StmtKind readings.PatKind readings.GenericArg readings.TypeKind
      readings.BlockExpr readings.Expr readings.Path readings.PathSegment readings.RecordExprField readings.RecordExprFieldList
      readings.Stmt readings.MatchArm readings.MacroCall readings.Pat readings.RecordPatField readings.AssocTypeArg readings.Param
      readings.PathType readings.TypeBound readings.Type_
      (of.else_branch env (itself into)) (of.kind_step env (itself into)) (of.stmt_kind env (itself into))
      (of_pats.pat_kind_step env (itself into)) (of_types.generic_arg_step env (itself into))
      (of_types.type_kind_step env (itself into)) (of.block_step env (itself into)) (of.expr_step env (itself into))
      (of_types.path_reading env (itself into)) (of_types.segment_step env (itself into)) (of.field_step env (itself into))
      (of.record_step env (itself into)) (of.stmt_step env (itself into)) (of.arm_step env (itself into))
      (of.call_step env (itself into)) (of_pats.pat_step env (itself into)) (of_pats.pat_field_step env (itself into))
      (of_types.assoc_type_arg_step env (itself into)) (of_types.param_step env (itself into))
      (of_types.path_type_step env (itself into)) (of_types.type_bound_step env (itself into))
      (of_types.type_step env (itself into))
      (out-PathType x)

  pub opened_type_bound : (x : AstTypeBound) → fold_type_bound env into x
      ≡ of_types.type_bound_step env (itself into) (mapped_type_bound env into (out-TypeBound x))
  unfolding fold_else_branch fold_expr_kind fold_stmt_kind fold_pat_kind fold_generic_arg fold_type_kind fold_block fold_expr
      fold_path fold_segment fold_field fold_record fold_stmt fold_arm fold_call fold_pat fold_pat_field fold_assoc_type_arg
      fold_param fold_path_type fold_type_bound fold_type
  opened_type_bound x = sym (ap (fold_type_bound env into) (roll-out-TypeBound x)) ∙ folds.para-roll-TypeBound
      readings.ElseBranch readings.ExprKind readings.StmtKind readings.PatKind readings.GenericArg readings.TypeKind
      readings.BlockExpr readings.Expr readings.Path readings.PathSegment readings.RecordExprField readings.RecordExprFieldList
      readings.Stmt readings.MatchArm readings.MacroCall readings.Pat readings.RecordPatField readings.AssocTypeArg readings.Param
      readings.PathType readings.TypeBound readings.Type_
      (of.else_branch env (itself into)) (of.kind_step env (itself into)) (of.stmt_kind env (itself into))
      (of_pats.pat_kind_step env (itself into)) (of_types.generic_arg_step env (itself into))
      (of_types.type_kind_step env (itself into)) (of.block_step env (itself into)) (of.expr_step env (itself into))
      (of_types.path_reading env (itself into)) (of_types.segment_step env (itself into)) (of.field_step env (itself into))
      (of.record_step env (itself into)) (of.stmt_step env (itself into)) (of.arm_step env (itself into))
      (of.call_step env (itself into)) (of_pats.pat_step env (itself into)) (of_pats.pat_field_step env (itself into))
      (of_types.assoc_type_arg_step env (itself into)) (of_types.param_step env (itself into))
      (of_types.path_type_step env (itself into)) (of_types.type_bound_step env (itself into))
      (of_types.type_step env (itself into))
      (out-TypeBound x)

  pub opened_type : (x : AstType_) → fold_type env into x
      ≡ fold_type_kind env into x.kind (ptr x.id x.range)
  unfolding fold_else_branch fold_expr_kind fold_stmt_kind fold_pat_kind fold_generic_arg fold_type_kind fold_block fold_expr
      fold_path fold_segment fold_field fold_record fold_stmt fold_arm fold_call fold_pat fold_pat_field fold_assoc_type_arg
      fold_param fold_path_type fold_type_bound fold_type
  opened_type x = sym (ap (fold_type env into) (roll-out-Type_ x)) ∙ folds.para-roll-Type_
      readings.ElseBranch readings.ExprKind readings.StmtKind readings.PatKind readings.GenericArg readings.TypeKind
      readings.BlockExpr readings.Expr readings.Path readings.PathSegment readings.RecordExprField readings.RecordExprFieldList
      readings.Stmt readings.MatchArm readings.MacroCall readings.Pat readings.RecordPatField readings.AssocTypeArg readings.Param
      readings.PathType readings.TypeBound readings.Type_
      (of.else_branch env (itself into)) (of.kind_step env (itself into)) (of.stmt_kind env (itself into))
      (of_pats.pat_kind_step env (itself into)) (of_types.generic_arg_step env (itself into))
      (of_types.type_kind_step env (itself into)) (of.block_step env (itself into)) (of.expr_step env (itself into))
      (of_types.path_reading env (itself into)) (of_types.segment_step env (itself into)) (of.field_step env (itself into))
      (of.record_step env (itself into)) (of.stmt_step env (itself into)) (of.arm_step env (itself into))
      (of.call_step env (itself into)) (of_pats.pat_step env (itself into)) (of_pats.pat_field_step env (itself into))
      (of_types.assoc_type_arg_step env (itself into)) (of_types.param_step env (itself into))
      (of_types.path_type_step env (itself into)) (of_types.type_bound_step env (itself into))
      (of_types.type_step env (itself into))
      (out-Type_ x)
