-- What is read of an expression or a pattern is one step over what is read of its parts.
use Rattle.std.proofs.Common.{◌≡◌, ◌∙◌, ap, sym, Option}
use Rattle.hir_syntax.specs.declared.ast.ElseBranch.TheFolds as folds
use Rattle.hir_env.specs.Answers.{Answers}
use Rattle.hir_env.specs.ResolveCtx.{ptr}
use Rattle.hir_env.specs.Layers.{readings, itself}
use Rattle.hir_env.specs.Answering as of
use Rattle.hir_env.specs.Paths as of_types
use Rattle.hir_env.specs.Pats as of_pats
use Rattle.hir_env.proofs.Mapped.{mapped_else, mapped_kind, mapped_stmt_kind, mapped_pat_kind, mapped_block}
use Rattle.hir_env.proofs.Mapped.{mapped_field, mapped_record, mapped_arm, mapped_pat_field}
use Rattle.hir_env.specs.Layers.{Entering}
use Rattle.hir_env.specs.Folds.{fold_else_branch, fold_expr_kind, fold_stmt_kind, fold_pat_kind, fold_generic_arg, fold_type_kind}
use Rattle.hir_env.specs.Folds.{fold_block, fold_expr, fold_path, fold_segment, fold_field}
use Rattle.hir_env.specs.Folds.{fold_record, fold_stmt, fold_arm, fold_call, fold_pat, fold_pat_field, fold_assoc_type_arg, fold_param}
use Rattle.hir_env.specs.Folds.{fold_path_type, fold_type_bound, fold_type}
use Rattle.hir_syntax.specs.declared.ast.ElseBranch.{ElseBranch as AstElseBranch, out-ElseBranch, roll-out-ElseBranch}
use Rattle.hir_syntax.specs.declared.ast.ExprKind.{ExprKind as AstExprKind, out-ExprKind, roll-out-ExprKind}
use Rattle.hir_syntax.specs.declared.ast.StmtKind.{StmtKind as AstStmtKind, out-StmtKind, roll-out-StmtKind}
use Rattle.hir_syntax.specs.declared.pats.PatKind.{PatKind as AstPatKind, out-PatKind, roll-out-PatKind}
use Rattle.hir_syntax.specs.declared.ast.BlockExpr.{BlockExpr as AstBlockExpr, out-BlockExpr, roll-out-BlockExpr}
use Rattle.hir_syntax.specs.declared.ast.Expr.{Expr as AstExpr, out-Expr, roll-out-Expr}
use Rattle.hir_syntax.specs.declared.ast.RecordExprField.{RecordExprField as AstRecordExprField, out-RecordExprField}
use Rattle.hir_syntax.specs.declared.ast.RecordExprField.{roll-out-RecordExprField}
use Rattle.hir_syntax.specs.declared.ast.RecordExprFieldList.{RecordExprFieldList as AstRecordExprFieldList, out-RecordExprFieldList}
use Rattle.hir_syntax.specs.declared.ast.RecordExprFieldList.{roll-out-RecordExprFieldList}
use Rattle.hir_syntax.specs.declared.ast.Stmt.{Stmt as AstStmt, out-Stmt, roll-out-Stmt}
use Rattle.hir_syntax.specs.declared.branches.MatchArm.{MatchArm as AstMatchArm, out-MatchArm, roll-out-MatchArm}
use Rattle.hir_syntax.specs.declared.pats.Pat.{Pat as AstPat, out-Pat, roll-out-Pat}
use Rattle.hir_syntax.specs.declared.pats.RecordPatField.{RecordPatField as AstRecordPatField, out-RecordPatField, roll-out-RecordPatField}

module _ (env : Answers) (into : Option Entering) where
  pub opened_else_branch : (x : AstElseBranch) → fold_else_branch env into x
      ≡ of.else_branch env (itself into) (mapped_else env into (out-ElseBranch x))
  unfolding fold_else_branch fold_expr_kind fold_stmt_kind fold_pat_kind fold_generic_arg fold_type_kind fold_block fold_expr
      fold_path fold_segment fold_field fold_record fold_stmt fold_arm fold_call fold_pat fold_pat_field fold_assoc_type_arg
      fold_param fold_path_type fold_type_bound fold_type
  opened_else_branch x = sym (ap (fold_else_branch env into) (roll-out-ElseBranch x)) ∙ folds.para-roll-ElseBranch
      readings.ElseBranch readings.ExprKind readings.StmtKind readings.PatKind readings.GenericArg readings.TypeKind
      readings.BlockExpr readings.Expr readings.Path readings.PathSegment readings.RecordExprField readings.RecordExprFieldList
      readings.Stmt readings.MatchArm readings.MacroCall readings.Pat readings.RecordPatField readings.AssocTypeArg readings.Param
      readings.PathType readings.TypeBound readings.Type_
      (of.else_branch env (itself into)) (of.kind_step env (itself into)) (of.stmt_kind env (itself into))
      (of_pats.pat_kind_step env (itself into)) (of_types.generic_arg_step env (itself into))
      (of_types.type_kind_step env (itself into)) (of.block_step env (itself into)) (of.expr_step env (itself into))
      (of_types.path_reading env (itself into)) (of_types.segment_step env (itself into)) (of.field_step env (itself into))
      (of.record_step env (itself into)) (of.stmt_step env (itself into)) (of.arm_step env (itself into))
      (of.call_step env (itself into)) (of_pats.pat_step env (itself into)) (of_pats.pat_field_step env (itself into))
      (of_types.assoc_type_arg_step env (itself into)) (of_types.param_step env (itself into))
      (of_types.path_type_step env (itself into)) (of_types.type_bound_step env (itself into))
      (of_types.type_step env (itself into))
      (out-ElseBranch x)

  pub opened_expr_kind : (x : AstExprKind) → fold_expr_kind env into x
      ≡ of.kind_step env (itself into) (mapped_kind env into (out-ExprKind x))
  unfolding fold_else_branch fold_expr_kind fold_stmt_kind fold_pat_kind fold_generic_arg fold_type_kind fold_block fold_expr
      fold_path fold_segment fold_field fold_record fold_stmt fold_arm fold_call fold_pat fold_pat_field fold_assoc_type_arg
      fold_param fold_path_type fold_type_bound fold_type
  opened_expr_kind x = sym (ap (fold_expr_kind env into) (roll-out-ExprKind x)) ∙ folds.para-roll-ExprKind
      readings.ElseBranch readings.ExprKind readings.StmtKind readings.PatKind readings.GenericArg readings.TypeKind
      readings.BlockExpr readings.Expr readings.Path readings.PathSegment readings.RecordExprField readings.RecordExprFieldList
      readings.Stmt readings.MatchArm readings.MacroCall readings.Pat readings.RecordPatField readings.AssocTypeArg readings.Param
      readings.PathType readings.TypeBound readings.Type_
      (of.else_branch env (itself into)) (of.kind_step env (itself into)) (of.stmt_kind env (itself into))
      (of_pats.pat_kind_step env (itself into)) (of_types.generic_arg_step env (itself into))
      (of_types.type_kind_step env (itself into)) (of.block_step env (itself into)) (of.expr_step env (itself into))
      (of_types.path_reading env (itself into)) (of_types.segment_step env (itself into)) (of.field_step env (itself into))
      (of.record_step env (itself into)) (of.stmt_step env (itself into)) (of.arm_step env (itself into))
      (of.call_step env (itself into)) (of_pats.pat_step env (itself into)) (of_pats.pat_field_step env (itself into))
      (of_types.assoc_type_arg_step env (itself into)) (of_types.param_step env (itself into))
      (of_types.path_type_step env (itself into)) (of_types.type_bound_step env (itself into))
      (of_types.type_step env (itself into))
      (out-ExprKind x)

  pub opened_stmt_kind : (x : AstStmtKind) → fold_stmt_kind env into x
      ≡ of.stmt_kind env (itself into) (mapped_stmt_kind env into (out-StmtKind x))
  unfolding fold_else_branch fold_expr_kind fold_stmt_kind fold_pat_kind fold_generic_arg fold_type_kind fold_block fold_expr
      fold_path fold_segment fold_field fold_record fold_stmt fold_arm fold_call fold_pat fold_pat_field fold_assoc_type_arg
      fold_param fold_path_type fold_type_bound fold_type
  opened_stmt_kind x = sym (ap (fold_stmt_kind env into) (roll-out-StmtKind x)) ∙ folds.para-roll-StmtKind
      readings.ElseBranch readings.ExprKind readings.StmtKind readings.PatKind readings.GenericArg readings.TypeKind
      readings.BlockExpr readings.Expr readings.Path readings.PathSegment readings.RecordExprField readings.RecordExprFieldList
      readings.Stmt readings.MatchArm readings.MacroCall readings.Pat readings.RecordPatField readings.AssocTypeArg readings.Param
      readings.PathType readings.TypeBound readings.Type_
      (of.else_branch env (itself into)) (of.kind_step env (itself into)) (of.stmt_kind env (itself into))
      (of_pats.pat_kind_step env (itself into)) (of_types.generic_arg_step env (itself into))
      (of_types.type_kind_step env (itself into)) (of.block_step env (itself into)) (of.expr_step env (itself into))
      (of_types.path_reading env (itself into)) (of_types.segment_step env (itself into)) (of.field_step env (itself into))
      (of.record_step env (itself into)) (of.stmt_step env (itself into)) (of.arm_step env (itself into))
      (of.call_step env (itself into)) (of_pats.pat_step env (itself into)) (of_pats.pat_field_step env (itself into))
      (of_types.assoc_type_arg_step env (itself into)) (of_types.param_step env (itself into))
      (of_types.path_type_step env (itself into)) (of_types.type_bound_step env (itself into))
      (of_types.type_step env (itself into))
      (out-StmtKind x)

  pub opened_pat_kind : (x : AstPatKind) → fold_pat_kind env into x
      ≡ of_pats.pat_kind_step env (itself into) (mapped_pat_kind env into (out-PatKind x))
  unfolding fold_else_branch fold_expr_kind fold_stmt_kind fold_pat_kind fold_generic_arg fold_type_kind fold_block fold_expr
      fold_path fold_segment fold_field fold_record fold_stmt fold_arm fold_call fold_pat fold_pat_field fold_assoc_type_arg
      fold_param fold_path_type fold_type_bound fold_type
  opened_pat_kind x = sym (ap (fold_pat_kind env into) (roll-out-PatKind x)) ∙ folds.para-roll-PatKind
      readings.ElseBranch readings.ExprKind readings.StmtKind readings.PatKind readings.GenericArg readings.TypeKind
      readings.BlockExpr readings.Expr readings.Path readings.PathSegment readings.RecordExprField readings.RecordExprFieldList
      readings.Stmt readings.MatchArm readings.MacroCall readings.Pat readings.RecordPatField readings.AssocTypeArg readings.Param
      readings.PathType readings.TypeBound readings.Type_
      (of.else_branch env (itself into)) (of.kind_step env (itself into)) (of.stmt_kind env (itself into))
      (of_pats.pat_kind_step env (itself into)) (of_types.generic_arg_step env (itself into))
      (of_types.type_kind_step env (itself into)) (of.block_step env (itself into)) (of.expr_step env (itself into))
      (of_types.path_reading env (itself into)) (of_types.segment_step env (itself into)) (of.field_step env (itself into))
      (of.record_step env (itself into)) (of.stmt_step env (itself into)) (of.arm_step env (itself into))
      (of.call_step env (itself into)) (of_pats.pat_step env (itself into)) (of_pats.pat_field_step env (itself into))
      (of_types.assoc_type_arg_step env (itself into)) (of_types.param_step env (itself into))
      (of_types.path_type_step env (itself into)) (of_types.type_bound_step env (itself into))
      (of_types.type_step env (itself into))
      (out-PatKind x)

  pub opened_block : (x : AstBlockExpr) → fold_block env into x
      ≡ of.block_step env (itself into) (mapped_block env into (out-BlockExpr x))
  unfolding fold_else_branch fold_expr_kind fold_stmt_kind fold_pat_kind fold_generic_arg fold_type_kind fold_block fold_expr
      fold_path fold_segment fold_field fold_record fold_stmt fold_arm fold_call fold_pat fold_pat_field fold_assoc_type_arg
      fold_param fold_path_type fold_type_bound fold_type
  opened_block x = sym (ap (fold_block env into) (roll-out-BlockExpr x)) ∙ folds.para-roll-BlockExpr
      readings.ElseBranch readings.ExprKind readings.StmtKind readings.PatKind readings.GenericArg readings.TypeKind
      readings.BlockExpr readings.Expr readings.Path readings.PathSegment readings.RecordExprField readings.RecordExprFieldList
      readings.Stmt readings.MatchArm readings.MacroCall readings.Pat readings.RecordPatField readings.AssocTypeArg readings.Param
      readings.PathType readings.TypeBound readings.Type_
      (of.else_branch env (itself into)) (of.kind_step env (itself into)) (of.stmt_kind env (itself into))
      (of_pats.pat_kind_step env (itself into)) (of_types.generic_arg_step env (itself into))
      (of_types.type_kind_step env (itself into)) (of.block_step env (itself into)) (of.expr_step env (itself into))
      (of_types.path_reading env (itself into)) (of_types.segment_step env (itself into)) (of.field_step env (itself into))
      (of.record_step env (itself into)) (of.stmt_step env (itself into)) (of.arm_step env (itself into))
      (of.call_step env (itself into)) (of_pats.pat_step env (itself into)) (of_pats.pat_field_step env (itself into))
      (of_types.assoc_type_arg_step env (itself into)) (of_types.param_step env (itself into))
      (of_types.path_type_step env (itself into)) (of_types.type_bound_step env (itself into))
      (of_types.type_step env (itself into))
      (out-BlockExpr x)

  pub opened_expr : (x : AstExpr) → fold_expr env into x
      ≡ record {
        expr = (fold_expr_kind env into x.kind).expr (ptr x.id x.range);
        value = (fold_expr_kind env into x.kind).value (ptr x.id x.range);
      }
  unfolding fold_else_branch fold_expr_kind fold_stmt_kind fold_pat_kind fold_generic_arg fold_type_kind fold_block fold_expr
      fold_path fold_segment fold_field fold_record fold_stmt fold_arm fold_call fold_pat fold_pat_field fold_assoc_type_arg
      fold_param fold_path_type fold_type_bound fold_type
  opened_expr x = sym (ap (fold_expr env into) (roll-out-Expr x)) ∙ folds.para-roll-Expr
      readings.ElseBranch readings.ExprKind readings.StmtKind readings.PatKind readings.GenericArg readings.TypeKind
      readings.BlockExpr readings.Expr readings.Path readings.PathSegment readings.RecordExprField readings.RecordExprFieldList
      readings.Stmt readings.MatchArm readings.MacroCall readings.Pat readings.RecordPatField readings.AssocTypeArg readings.Param
      readings.PathType readings.TypeBound readings.Type_
      (of.else_branch env (itself into)) (of.kind_step env (itself into)) (of.stmt_kind env (itself into))
      (of_pats.pat_kind_step env (itself into)) (of_types.generic_arg_step env (itself into))
      (of_types.type_kind_step env (itself into)) (of.block_step env (itself into)) (of.expr_step env (itself into))
      (of_types.path_reading env (itself into)) (of_types.segment_step env (itself into)) (of.field_step env (itself into))
      (of.record_step env (itself into)) (of.stmt_step env (itself into)) (of.arm_step env (itself into))
      (of.call_step env (itself into)) (of_pats.pat_step env (itself into)) (of_pats.pat_field_step env (itself into))
      (of_types.assoc_type_arg_step env (itself into)) (of_types.param_step env (itself into))
      (of_types.path_type_step env (itself into)) (of_types.type_bound_step env (itself into))
      (of_types.type_step env (itself into))
      (out-Expr x)

  pub opened_field : (x : AstRecordExprField) → fold_field env into x
      ≡ of.field_step env (itself into) (mapped_field env into (out-RecordExprField x))
  unfolding fold_else_branch fold_expr_kind fold_stmt_kind fold_pat_kind fold_generic_arg fold_type_kind fold_block fold_expr
      fold_path fold_segment fold_field fold_record fold_stmt fold_arm fold_call fold_pat fold_pat_field fold_assoc_type_arg
      fold_param fold_path_type fold_type_bound fold_type
  opened_field x = sym (ap (fold_field env into) (roll-out-RecordExprField x)) ∙ folds.para-roll-RecordExprField
      readings.ElseBranch readings.ExprKind readings.StmtKind readings.PatKind readings.GenericArg readings.TypeKind
      readings.BlockExpr readings.Expr readings.Path readings.PathSegment readings.RecordExprField readings.RecordExprFieldList
      readings.Stmt readings.MatchArm readings.MacroCall readings.Pat readings.RecordPatField readings.AssocTypeArg readings.Param
      readings.PathType readings.TypeBound readings.Type_
      (of.else_branch env (itself into)) (of.kind_step env (itself into)) (of.stmt_kind env (itself into))
      (of_pats.pat_kind_step env (itself into)) (of_types.generic_arg_step env (itself into))
      (of_types.type_kind_step env (itself into)) (of.block_step env (itself into)) (of.expr_step env (itself into))
      (of_types.path_reading env (itself into)) (of_types.segment_step env (itself into)) (of.field_step env (itself into))
      (of.record_step env (itself into)) (of.stmt_step env (itself into)) (of.arm_step env (itself into))
      (of.call_step env (itself into)) (of_pats.pat_step env (itself into)) (of_pats.pat_field_step env (itself into))
      (of_types.assoc_type_arg_step env (itself into)) (of_types.param_step env (itself into))
      (of_types.path_type_step env (itself into)) (of_types.type_bound_step env (itself into))
      (of_types.type_step env (itself into))
      (out-RecordExprField x)

  pub opened_record : (x : AstRecordExprFieldList) → fold_record env into x
      ≡ of.record_step env (itself into) (mapped_record env into (out-RecordExprFieldList x))
  unfolding fold_else_branch fold_expr_kind fold_stmt_kind fold_pat_kind fold_generic_arg fold_type_kind fold_block fold_expr
      fold_path fold_segment fold_field fold_record fold_stmt fold_arm fold_call fold_pat fold_pat_field fold_assoc_type_arg
      fold_param fold_path_type fold_type_bound fold_type
  opened_record x = sym (ap (fold_record env into) (roll-out-RecordExprFieldList x)) ∙ folds.para-roll-RecordExprFieldList
      readings.ElseBranch readings.ExprKind readings.StmtKind readings.PatKind readings.GenericArg readings.TypeKind
      readings.BlockExpr readings.Expr readings.Path readings.PathSegment readings.RecordExprField readings.RecordExprFieldList
      readings.Stmt readings.MatchArm readings.MacroCall readings.Pat readings.RecordPatField readings.AssocTypeArg readings.Param
      readings.PathType readings.TypeBound readings.Type_
      (of.else_branch env (itself into)) (of.kind_step env (itself into)) (of.stmt_kind env (itself into))
      (of_pats.pat_kind_step env (itself into)) (of_types.generic_arg_step env (itself into))
      (of_types.type_kind_step env (itself into)) (of.block_step env (itself into)) (of.expr_step env (itself into))
      (of_types.path_reading env (itself into)) (of_types.segment_step env (itself into)) (of.field_step env (itself into))
      (of.record_step env (itself into)) (of.stmt_step env (itself into)) (of.arm_step env (itself into))
      (of.call_step env (itself into)) (of_pats.pat_step env (itself into)) (of_pats.pat_field_step env (itself into))
      (of_types.assoc_type_arg_step env (itself into)) (of_types.param_step env (itself into))
      (of_types.path_type_step env (itself into)) (of_types.type_bound_step env (itself into))
      (of_types.type_step env (itself into))
      (out-RecordExprFieldList x)

  pub opened_stmt : (x : AstStmt) → fold_stmt env into x
      ≡ fold_stmt_kind env into x.kind (ptr x.id x.range)
  unfolding fold_else_branch fold_expr_kind fold_stmt_kind fold_pat_kind fold_generic_arg fold_type_kind fold_block fold_expr
      fold_path fold_segment fold_field fold_record fold_stmt fold_arm fold_call fold_pat fold_pat_field fold_assoc_type_arg
      fold_param fold_path_type fold_type_bound fold_type
  opened_stmt x = sym (ap (fold_stmt env into) (roll-out-Stmt x)) ∙ folds.para-roll-Stmt
      readings.ElseBranch readings.ExprKind readings.StmtKind readings.PatKind readings.GenericArg readings.TypeKind
      readings.BlockExpr readings.Expr readings.Path readings.PathSegment readings.RecordExprField readings.RecordExprFieldList
      readings.Stmt readings.MatchArm readings.MacroCall readings.Pat readings.RecordPatField readings.AssocTypeArg readings.Param
      readings.PathType readings.TypeBound readings.Type_
      (of.else_branch env (itself into)) (of.kind_step env (itself into)) (of.stmt_kind env (itself into))
      (of_pats.pat_kind_step env (itself into)) (of_types.generic_arg_step env (itself into))
      (of_types.type_kind_step env (itself into)) (of.block_step env (itself into)) (of.expr_step env (itself into))
      (of_types.path_reading env (itself into)) (of_types.segment_step env (itself into)) (of.field_step env (itself into))
      (of.record_step env (itself into)) (of.stmt_step env (itself into)) (of.arm_step env (itself into))
      (of.call_step env (itself into)) (of_pats.pat_step env (itself into)) (of_pats.pat_field_step env (itself into))
      (of_types.assoc_type_arg_step env (itself into)) (of_types.param_step env (itself into))
      (of_types.path_type_step env (itself into)) (of_types.type_bound_step env (itself into))
      (of_types.type_step env (itself into))
      (out-Stmt x)

  pub opened_arm : (x : AstMatchArm) → fold_arm env into x
      ≡ of.arm_step env (itself into) (mapped_arm env into (out-MatchArm x))
  unfolding fold_else_branch fold_expr_kind fold_stmt_kind fold_pat_kind fold_generic_arg fold_type_kind fold_block fold_expr
      fold_path fold_segment fold_field fold_record fold_stmt fold_arm fold_call fold_pat fold_pat_field fold_assoc_type_arg
      fold_param fold_path_type fold_type_bound fold_type
  opened_arm x = sym (ap (fold_arm env into) (roll-out-MatchArm x)) ∙ folds.para-roll-MatchArm
      readings.ElseBranch readings.ExprKind readings.StmtKind readings.PatKind readings.GenericArg readings.TypeKind
      readings.BlockExpr readings.Expr readings.Path readings.PathSegment readings.RecordExprField readings.RecordExprFieldList
      readings.Stmt readings.MatchArm readings.MacroCall readings.Pat readings.RecordPatField readings.AssocTypeArg readings.Param
      readings.PathType readings.TypeBound readings.Type_
      (of.else_branch env (itself into)) (of.kind_step env (itself into)) (of.stmt_kind env (itself into))
      (of_pats.pat_kind_step env (itself into)) (of_types.generic_arg_step env (itself into))
      (of_types.type_kind_step env (itself into)) (of.block_step env (itself into)) (of.expr_step env (itself into))
      (of_types.path_reading env (itself into)) (of_types.segment_step env (itself into)) (of.field_step env (itself into))
      (of.record_step env (itself into)) (of.stmt_step env (itself into)) (of.arm_step env (itself into))
      (of.call_step env (itself into)) (of_pats.pat_step env (itself into)) (of_pats.pat_field_step env (itself into))
      (of_types.assoc_type_arg_step env (itself into)) (of_types.param_step env (itself into))
      (of_types.path_type_step env (itself into)) (of_types.type_bound_step env (itself into))
      (of_types.type_step env (itself into))
      (out-MatchArm x)

  pub opened_pat : (x : AstPat) → fold_pat env into x
      ≡ fold_pat_kind env into x.kind (ptr x.id x.range)
  unfolding fold_else_branch fold_expr_kind fold_stmt_kind fold_pat_kind fold_generic_arg fold_type_kind fold_block fold_expr
      fold_path fold_segment fold_field fold_record fold_stmt fold_arm fold_call fold_pat fold_pat_field fold_assoc_type_arg
      fold_param fold_path_type fold_type_bound fold_type
  opened_pat x = sym (ap (fold_pat env into) (roll-out-Pat x)) ∙ folds.para-roll-Pat
      readings.ElseBranch readings.ExprKind readings.StmtKind readings.PatKind readings.GenericArg readings.TypeKind
      readings.BlockExpr readings.Expr readings.Path readings.PathSegment readings.RecordExprField readings.RecordExprFieldList
      readings.Stmt readings.MatchArm readings.MacroCall readings.Pat readings.RecordPatField readings.AssocTypeArg readings.Param
      readings.PathType readings.TypeBound readings.Type_
      (of.else_branch env (itself into)) (of.kind_step env (itself into)) (of.stmt_kind env (itself into))
      (of_pats.pat_kind_step env (itself into)) (of_types.generic_arg_step env (itself into))
      (of_types.type_kind_step env (itself into)) (of.block_step env (itself into)) (of.expr_step env (itself into))
      (of_types.path_reading env (itself into)) (of_types.segment_step env (itself into)) (of.field_step env (itself into))
      (of.record_step env (itself into)) (of.stmt_step env (itself into)) (of.arm_step env (itself into))
      (of.call_step env (itself into)) (of_pats.pat_step env (itself into)) (of_pats.pat_field_step env (itself into))
      (of_types.assoc_type_arg_step env (itself into)) (of_types.param_step env (itself into))
      (of_types.path_type_step env (itself into)) (of_types.type_bound_step env (itself into))
      (of_types.type_step env (itself into))
      (out-Pat x)

  pub opened_pat_field : (x : AstRecordPatField) → fold_pat_field env into x
      ≡ of_pats.pat_field_step env (itself into) (mapped_pat_field env into (out-RecordPatField x))
  unfolding fold_else_branch fold_expr_kind fold_stmt_kind fold_pat_kind fold_generic_arg fold_type_kind fold_block fold_expr
      fold_path fold_segment fold_field fold_record fold_stmt fold_arm fold_call fold_pat fold_pat_field fold_assoc_type_arg
      fold_param fold_path_type fold_type_bound fold_type
  opened_pat_field x = sym (ap (fold_pat_field env into) (roll-out-RecordPatField x)) ∙ folds.para-roll-RecordPatField
      readings.ElseBranch readings.ExprKind readings.StmtKind readings.PatKind readings.GenericArg readings.TypeKind
      readings.BlockExpr readings.Expr readings.Path readings.PathSegment readings.RecordExprField readings.RecordExprFieldList
      readings.Stmt readings.MatchArm readings.MacroCall readings.Pat readings.RecordPatField readings.AssocTypeArg readings.Param
      readings.PathType readings.TypeBound readings.Type_
      (of.else_branch env (itself into)) (of.kind_step env (itself into)) (of.stmt_kind env (itself into))
      (of_pats.pat_kind_step env (itself into)) (of_types.generic_arg_step env (itself into))
      (of_types.type_kind_step env (itself into)) (of.block_step env (itself into)) (of.expr_step env (itself into))
      (of_types.path_reading env (itself into)) (of_types.segment_step env (itself into)) (of.field_step env (itself into))
      (of.record_step env (itself into)) (of.stmt_step env (itself into)) (of.arm_step env (itself into))
      (of.call_step env (itself into)) (of_pats.pat_step env (itself into)) (of_pats.pat_field_step env (itself into))
      (of_types.assoc_type_arg_step env (itself into)) (of_types.param_step env (itself into))
      (of_types.path_type_step env (itself into)) (of_types.type_bound_step env (itself into))
      (of_types.type_step env (itself into))
      (out-RecordPatField x)
