-- A whole tree with the answers written into it, by one fold, in which each step sees what is written too.
use Rattle.std.specs.Prelude.{ℕ, zero, suc, Option, Some, None}
use Rattle.hir_syntax.specs.declared.ast.ElseBranch.{ElseBranch as AstElseBranch}
use Rattle.hir_syntax.specs.declared.ast.ExprKind.{ExprKind as AstExprKind}
use Rattle.hir_syntax.specs.declared.ast.StmtKind.{StmtKind as AstStmtKind}
use Rattle.hir_syntax.specs.declared.pats.PatKind.{PatKind as AstPatKind}
use Rattle.hir_syntax.specs.declared.types.GenericArg.{GenericArg as AstGenericArg}
use Rattle.hir_syntax.specs.declared.types.TypeKind.{TypeKind as AstTypeKind}
use Rattle.hir_syntax.specs.declared.ast.BlockExpr.{BlockExpr as AstBlockExpr}
use Rattle.hir_syntax.specs.declared.ast.Expr.{Expr as AstExpr}
use Rattle.hir_syntax.specs.declared.ast.Path.{Path as AstPath}
use Rattle.hir_syntax.specs.declared.ast.PathSegment.{PathSegment as AstPathSegment, out-PathSegment}
use Rattle.hir_syntax.specs.declared.ast.RecordExprField.{RecordExprField as AstRecordExprField}
use Rattle.hir_syntax.specs.declared.ast.RecordExprFieldList.{RecordExprFieldList as AstRecordExprFieldList}
use Rattle.hir_syntax.specs.declared.ast.Stmt.{Stmt as AstStmt}
use Rattle.hir_syntax.specs.declared.branches.MatchArm.{MatchArm as AstMatchArm}
use Rattle.hir_syntax.specs.declared.pats.Pat.{Pat as AstPat}
use Rattle.hir_syntax.specs.declared.pats.RecordPatField.{RecordPatField as AstRecordPatField}
use Rattle.hir_syntax.specs.declared.types.AssocTypeArg.{AssocTypeArg as AstAssocTypeArg}
use Rattle.hir_syntax.specs.declared.types.Param.{Param as AstParam}
use Rattle.hir_syntax.specs.declared.types.PathType.{PathType as AstPathType}
use Rattle.hir_syntax.specs.declared.types.TypeBound.{TypeBound as AstTypeBound}
use Rattle.hir_syntax.specs.declared.types.Type_.{Type_ as AstType_}
use Rattle.hir_syntax.specs.declared.macros.MacroCall.{MacroCall as AstMacroCall}
use Rattle.hir_syntax.specs.declared.ast.ElseBranch.TheFolds as folds
use Rattle.hir_base.specs.declared.node.AstPtr.{AstPtr}
use Rattle.hir_env.specs.declared.ctx.LowerCtx.{LowerCtx}
use Rattle.hir_env.specs.Wrapped.{AstConstArg, AstGuard, AstLetElse, AstRetType, AstTypeArg, AstParenArgs, AstGenericArgList}
use Rattle.hir_env.specs.Answers.{Answers}
use Rattle.hir_env.specs.Layers.{BlockReading, StmtReading, RecordReading, ParamReading, PathReading, PathTypeReading, Reader, readings}
use Rattle.hir_env.specs.Layers.{itself, Defined, Entering, ExprReading, KindReading, Spliced}
pub use Rattle.hir_env.specs.Layers.{written}
use Rattle.hir_env.specs.Answering.{constant_step, guard_step, let_else_step}
use Rattle.hir_env.specs.Answering.{else_branch, kind_step, call_step, stmt_kind, block_step, expr_step, field_step}
use Rattle.hir_env.specs.Answering.{record_step, stmt_step, arm_step}
use Rattle.hir_env.specs.Paths.{ret_type_step, type_arg_step, paren_args_step, generic_arg_list_step}
use Rattle.hir_env.specs.Paths.{generic_arg_step, type_kind_step, path_reading, segment_step, assoc_type_arg_step}
use Rattle.hir_env.specs.Paths.{param_step, path_type_step}
use Rattle.hir_env.specs.Paths.{type_bound_step, type_step}
use Rattle.hir_env.specs.Pats.{pat_kind_step, pat_step, pat_field_step}
use Rattle.hir_env.specs.ResolvedTree.{Type_, OptionType, Parts, Path, Segment, Args, Arg, Bound, Constant, Expr, OptionExpr, Field}
use Rattle.hir_env.specs.ResolvedTree.{OptionBlock, Arm, Pat, PatField}

module _ (env : Answers) (into : Option Entering) where
  unfoldable pub fold_else_branch : AstElseBranch → LowerCtx → Expr
  fold_else_branch = folds.para-ElseBranch
      readings.ElseBranch readings.ExprKind readings.StmtKind readings.PatKind readings.GenericArg readings.TypeKind
      readings.BlockExpr readings.Expr readings.Path readings.PathSegment readings.RecordExprField readings.RecordExprFieldList
      readings.Stmt readings.MatchArm readings.MacroCall readings.Pat readings.RecordPatField readings.AssocTypeArg readings.Param
      readings.PathType readings.TypeBound readings.Type_
      (else_branch env (itself into)) (kind_step env (itself into)) (stmt_kind env (itself into)) (pat_kind_step env (itself into))
      (generic_arg_step env (itself into)) (type_kind_step env (itself into)) (block_step env (itself into))
      (expr_step env (itself into)) (path_reading env (itself into)) (segment_step env (itself into)) (field_step env (itself into))
      (record_step env (itself into)) (stmt_step env (itself into)) (arm_step env (itself into)) (call_step env (itself into))
      (pat_step env (itself into)) (pat_field_step env (itself into)) (assoc_type_arg_step env (itself into))
      (param_step env (itself into)) (path_type_step env (itself into)) (type_bound_step env (itself into))
      (type_step env (itself into))

  unfoldable pub fold_expr_kind : AstExprKind → KindReading
  fold_expr_kind = folds.para-ExprKind
      readings.ElseBranch readings.ExprKind readings.StmtKind readings.PatKind readings.GenericArg readings.TypeKind
      readings.BlockExpr readings.Expr readings.Path readings.PathSegment readings.RecordExprField readings.RecordExprFieldList
      readings.Stmt readings.MatchArm readings.MacroCall readings.Pat readings.RecordPatField readings.AssocTypeArg readings.Param
      readings.PathType readings.TypeBound readings.Type_
      (else_branch env (itself into)) (kind_step env (itself into)) (stmt_kind env (itself into)) (pat_kind_step env (itself into))
      (generic_arg_step env (itself into)) (type_kind_step env (itself into)) (block_step env (itself into))
      (expr_step env (itself into)) (path_reading env (itself into)) (segment_step env (itself into)) (field_step env (itself into))
      (record_step env (itself into)) (stmt_step env (itself into)) (arm_step env (itself into)) (call_step env (itself into))
      (pat_step env (itself into)) (pat_field_step env (itself into)) (assoc_type_arg_step env (itself into))
      (param_step env (itself into)) (path_type_step env (itself into)) (type_bound_step env (itself into))
      (type_step env (itself into))

  unfoldable pub fold_stmt_kind : AstStmtKind → AstPtr → LowerCtx → Defined → StmtReading
  fold_stmt_kind = folds.para-StmtKind
      readings.ElseBranch readings.ExprKind readings.StmtKind readings.PatKind readings.GenericArg readings.TypeKind
      readings.BlockExpr readings.Expr readings.Path readings.PathSegment readings.RecordExprField readings.RecordExprFieldList
      readings.Stmt readings.MatchArm readings.MacroCall readings.Pat readings.RecordPatField readings.AssocTypeArg readings.Param
      readings.PathType readings.TypeBound readings.Type_
      (else_branch env (itself into)) (kind_step env (itself into)) (stmt_kind env (itself into)) (pat_kind_step env (itself into))
      (generic_arg_step env (itself into)) (type_kind_step env (itself into)) (block_step env (itself into))
      (expr_step env (itself into)) (path_reading env (itself into)) (segment_step env (itself into)) (field_step env (itself into))
      (record_step env (itself into)) (stmt_step env (itself into)) (arm_step env (itself into)) (call_step env (itself into))
      (pat_step env (itself into)) (pat_field_step env (itself into)) (assoc_type_arg_step env (itself into))
      (param_step env (itself into)) (path_type_step env (itself into)) (type_bound_step env (itself into))
      (type_step env (itself into))

  unfoldable pub fold_pat_kind : AstPatKind → AstPtr → LowerCtx → Pat
  fold_pat_kind = folds.para-PatKind
      readings.ElseBranch readings.ExprKind readings.StmtKind readings.PatKind readings.GenericArg readings.TypeKind
      readings.BlockExpr readings.Expr readings.Path readings.PathSegment readings.RecordExprField readings.RecordExprFieldList
      readings.Stmt readings.MatchArm readings.MacroCall readings.Pat readings.RecordPatField readings.AssocTypeArg readings.Param
      readings.PathType readings.TypeBound readings.Type_
      (else_branch env (itself into)) (kind_step env (itself into)) (stmt_kind env (itself into)) (pat_kind_step env (itself into))
      (generic_arg_step env (itself into)) (type_kind_step env (itself into)) (block_step env (itself into))
      (expr_step env (itself into)) (path_reading env (itself into)) (segment_step env (itself into)) (field_step env (itself into))
      (record_step env (itself into)) (stmt_step env (itself into)) (arm_step env (itself into)) (call_step env (itself into))
      (pat_step env (itself into)) (pat_field_step env (itself into)) (assoc_type_arg_step env (itself into))
      (param_step env (itself into)) (path_type_step env (itself into)) (type_bound_step env (itself into))
      (type_step env (itself into))

  unfoldable pub fold_generic_arg : AstGenericArg → LowerCtx → Arg
  fold_generic_arg = folds.para-GenericArg
      readings.ElseBranch readings.ExprKind readings.StmtKind readings.PatKind readings.GenericArg readings.TypeKind
      readings.BlockExpr readings.Expr readings.Path readings.PathSegment readings.RecordExprField readings.RecordExprFieldList
      readings.Stmt readings.MatchArm readings.MacroCall readings.Pat readings.RecordPatField readings.AssocTypeArg readings.Param
      readings.PathType readings.TypeBound readings.Type_
      (else_branch env (itself into)) (kind_step env (itself into)) (stmt_kind env (itself into)) (pat_kind_step env (itself into))
      (generic_arg_step env (itself into)) (type_kind_step env (itself into)) (block_step env (itself into))
      (expr_step env (itself into)) (path_reading env (itself into)) (segment_step env (itself into)) (field_step env (itself into))
      (record_step env (itself into)) (stmt_step env (itself into)) (arm_step env (itself into)) (call_step env (itself into))
      (pat_step env (itself into)) (pat_field_step env (itself into)) (assoc_type_arg_step env (itself into))
      (param_step env (itself into)) (path_type_step env (itself into)) (type_bound_step env (itself into))
      (type_step env (itself into))

  unfoldable pub fold_type_kind : AstTypeKind → AstPtr → LowerCtx → Type_
  fold_type_kind = folds.para-TypeKind
      readings.ElseBranch readings.ExprKind readings.StmtKind readings.PatKind readings.GenericArg readings.TypeKind
      readings.BlockExpr readings.Expr readings.Path readings.PathSegment readings.RecordExprField readings.RecordExprFieldList
      readings.Stmt readings.MatchArm readings.MacroCall readings.Pat readings.RecordPatField readings.AssocTypeArg readings.Param
      readings.PathType readings.TypeBound readings.Type_
      (else_branch env (itself into)) (kind_step env (itself into)) (stmt_kind env (itself into)) (pat_kind_step env (itself into))
      (generic_arg_step env (itself into)) (type_kind_step env (itself into)) (block_step env (itself into))
      (expr_step env (itself into)) (path_reading env (itself into)) (segment_step env (itself into)) (field_step env (itself into))
      (record_step env (itself into)) (stmt_step env (itself into)) (arm_step env (itself into)) (call_step env (itself into))
      (pat_step env (itself into)) (pat_field_step env (itself into)) (assoc_type_arg_step env (itself into))
      (param_step env (itself into)) (path_type_step env (itself into)) (type_bound_step env (itself into))
      (type_step env (itself into))

  unfoldable pub fold_block : AstBlockExpr → BlockReading
  fold_block = folds.para-BlockExpr
      readings.ElseBranch readings.ExprKind readings.StmtKind readings.PatKind readings.GenericArg readings.TypeKind
      readings.BlockExpr readings.Expr readings.Path readings.PathSegment readings.RecordExprField readings.RecordExprFieldList
      readings.Stmt readings.MatchArm readings.MacroCall readings.Pat readings.RecordPatField readings.AssocTypeArg readings.Param
      readings.PathType readings.TypeBound readings.Type_
      (else_branch env (itself into)) (kind_step env (itself into)) (stmt_kind env (itself into)) (pat_kind_step env (itself into))
      (generic_arg_step env (itself into)) (type_kind_step env (itself into)) (block_step env (itself into))
      (expr_step env (itself into)) (path_reading env (itself into)) (segment_step env (itself into)) (field_step env (itself into))
      (record_step env (itself into)) (stmt_step env (itself into)) (arm_step env (itself into)) (call_step env (itself into))
      (pat_step env (itself into)) (pat_field_step env (itself into)) (assoc_type_arg_step env (itself into))
      (param_step env (itself into)) (path_type_step env (itself into)) (type_bound_step env (itself into))
      (type_step env (itself into))

  unfoldable pub fold_expr : AstExpr → ExprReading
  fold_expr = folds.para-Expr
      readings.ElseBranch readings.ExprKind readings.StmtKind readings.PatKind readings.GenericArg readings.TypeKind
      readings.BlockExpr readings.Expr readings.Path readings.PathSegment readings.RecordExprField readings.RecordExprFieldList
      readings.Stmt readings.MatchArm readings.MacroCall readings.Pat readings.RecordPatField readings.AssocTypeArg readings.Param
      readings.PathType readings.TypeBound readings.Type_
      (else_branch env (itself into)) (kind_step env (itself into)) (stmt_kind env (itself into)) (pat_kind_step env (itself into))
      (generic_arg_step env (itself into)) (type_kind_step env (itself into)) (block_step env (itself into))
      (expr_step env (itself into)) (path_reading env (itself into)) (segment_step env (itself into)) (field_step env (itself into))
      (record_step env (itself into)) (stmt_step env (itself into)) (arm_step env (itself into)) (call_step env (itself into))
      (pat_step env (itself into)) (pat_field_step env (itself into)) (assoc_type_arg_step env (itself into))
      (param_step env (itself into)) (path_type_step env (itself into)) (type_bound_step env (itself into))
      (type_step env (itself into))

  unfoldable pub fold_path : AstPath → PathReading
  fold_path = folds.para-Path
      readings.ElseBranch readings.ExprKind readings.StmtKind readings.PatKind readings.GenericArg readings.TypeKind
      readings.BlockExpr readings.Expr readings.Path readings.PathSegment readings.RecordExprField readings.RecordExprFieldList
      readings.Stmt readings.MatchArm readings.MacroCall readings.Pat readings.RecordPatField readings.AssocTypeArg readings.Param
      readings.PathType readings.TypeBound readings.Type_
      (else_branch env (itself into)) (kind_step env (itself into)) (stmt_kind env (itself into)) (pat_kind_step env (itself into))
      (generic_arg_step env (itself into)) (type_kind_step env (itself into)) (block_step env (itself into))
      (expr_step env (itself into)) (path_reading env (itself into)) (segment_step env (itself into)) (field_step env (itself into))
      (record_step env (itself into)) (stmt_step env (itself into)) (arm_step env (itself into)) (call_step env (itself into))
      (pat_step env (itself into)) (pat_field_step env (itself into)) (assoc_type_arg_step env (itself into))
      (param_step env (itself into)) (path_type_step env (itself into)) (type_bound_step env (itself into))
      (type_step env (itself into))

  unfoldable pub fold_segment : AstPathSegment → LowerCtx → Segment
  fold_segment = folds.para-PathSegment
      readings.ElseBranch readings.ExprKind readings.StmtKind readings.PatKind readings.GenericArg readings.TypeKind
      readings.BlockExpr readings.Expr readings.Path readings.PathSegment readings.RecordExprField readings.RecordExprFieldList
      readings.Stmt readings.MatchArm readings.MacroCall readings.Pat readings.RecordPatField readings.AssocTypeArg readings.Param
      readings.PathType readings.TypeBound readings.Type_
      (else_branch env (itself into)) (kind_step env (itself into)) (stmt_kind env (itself into)) (pat_kind_step env (itself into))
      (generic_arg_step env (itself into)) (type_kind_step env (itself into)) (block_step env (itself into))
      (expr_step env (itself into)) (path_reading env (itself into)) (segment_step env (itself into)) (field_step env (itself into))
      (record_step env (itself into)) (stmt_step env (itself into)) (arm_step env (itself into)) (call_step env (itself into))
      (pat_step env (itself into)) (pat_field_step env (itself into)) (assoc_type_arg_step env (itself into))
      (param_step env (itself into)) (path_type_step env (itself into)) (type_bound_step env (itself into))
      (type_step env (itself into))

  unfoldable pub fold_field : AstRecordExprField → LowerCtx → Field
  fold_field = folds.para-RecordExprField
      readings.ElseBranch readings.ExprKind readings.StmtKind readings.PatKind readings.GenericArg readings.TypeKind
      readings.BlockExpr readings.Expr readings.Path readings.PathSegment readings.RecordExprField readings.RecordExprFieldList
      readings.Stmt readings.MatchArm readings.MacroCall readings.Pat readings.RecordPatField readings.AssocTypeArg readings.Param
      readings.PathType readings.TypeBound readings.Type_
      (else_branch env (itself into)) (kind_step env (itself into)) (stmt_kind env (itself into)) (pat_kind_step env (itself into))
      (generic_arg_step env (itself into)) (type_kind_step env (itself into)) (block_step env (itself into))
      (expr_step env (itself into)) (path_reading env (itself into)) (segment_step env (itself into)) (field_step env (itself into))
      (record_step env (itself into)) (stmt_step env (itself into)) (arm_step env (itself into)) (call_step env (itself into))
      (pat_step env (itself into)) (pat_field_step env (itself into)) (assoc_type_arg_step env (itself into))
      (param_step env (itself into)) (path_type_step env (itself into)) (type_bound_step env (itself into))
      (type_step env (itself into))

  unfoldable pub fold_record : AstRecordExprFieldList → LowerCtx → RecordReading
  fold_record = folds.para-RecordExprFieldList
      readings.ElseBranch readings.ExprKind readings.StmtKind readings.PatKind readings.GenericArg readings.TypeKind
      readings.BlockExpr readings.Expr readings.Path readings.PathSegment readings.RecordExprField readings.RecordExprFieldList
      readings.Stmt readings.MatchArm readings.MacroCall readings.Pat readings.RecordPatField readings.AssocTypeArg readings.Param
      readings.PathType readings.TypeBound readings.Type_
      (else_branch env (itself into)) (kind_step env (itself into)) (stmt_kind env (itself into)) (pat_kind_step env (itself into))
      (generic_arg_step env (itself into)) (type_kind_step env (itself into)) (block_step env (itself into))
      (expr_step env (itself into)) (path_reading env (itself into)) (segment_step env (itself into)) (field_step env (itself into))
      (record_step env (itself into)) (stmt_step env (itself into)) (arm_step env (itself into)) (call_step env (itself into))
      (pat_step env (itself into)) (pat_field_step env (itself into)) (assoc_type_arg_step env (itself into))
      (param_step env (itself into)) (path_type_step env (itself into)) (type_bound_step env (itself into))
      (type_step env (itself into))

  unfoldable pub fold_stmt : AstStmt → LowerCtx → Defined → StmtReading
  fold_stmt = folds.para-Stmt
      readings.ElseBranch readings.ExprKind readings.StmtKind readings.PatKind readings.GenericArg readings.TypeKind
      readings.BlockExpr readings.Expr readings.Path readings.PathSegment readings.RecordExprField readings.RecordExprFieldList
      readings.Stmt readings.MatchArm readings.MacroCall readings.Pat readings.RecordPatField readings.AssocTypeArg readings.Param
      readings.PathType readings.TypeBound readings.Type_
      (else_branch env (itself into)) (kind_step env (itself into)) (stmt_kind env (itself into)) (pat_kind_step env (itself into))
      (generic_arg_step env (itself into)) (type_kind_step env (itself into)) (block_step env (itself into))
      (expr_step env (itself into)) (path_reading env (itself into)) (segment_step env (itself into)) (field_step env (itself into))
      (record_step env (itself into)) (stmt_step env (itself into)) (arm_step env (itself into)) (call_step env (itself into))
      (pat_step env (itself into)) (pat_field_step env (itself into)) (assoc_type_arg_step env (itself into))
      (param_step env (itself into)) (path_type_step env (itself into)) (type_bound_step env (itself into))
      (type_step env (itself into))

  unfoldable pub fold_arm : AstMatchArm → LowerCtx → Arm
  fold_arm = folds.para-MatchArm
      readings.ElseBranch readings.ExprKind readings.StmtKind readings.PatKind readings.GenericArg readings.TypeKind
      readings.BlockExpr readings.Expr readings.Path readings.PathSegment readings.RecordExprField readings.RecordExprFieldList
      readings.Stmt readings.MatchArm readings.MacroCall readings.Pat readings.RecordPatField readings.AssocTypeArg readings.Param
      readings.PathType readings.TypeBound readings.Type_
      (else_branch env (itself into)) (kind_step env (itself into)) (stmt_kind env (itself into)) (pat_kind_step env (itself into))
      (generic_arg_step env (itself into)) (type_kind_step env (itself into)) (block_step env (itself into))
      (expr_step env (itself into)) (path_reading env (itself into)) (segment_step env (itself into)) (field_step env (itself into))
      (record_step env (itself into)) (stmt_step env (itself into)) (arm_step env (itself into)) (call_step env (itself into))
      (pat_step env (itself into)) (pat_field_step env (itself into)) (assoc_type_arg_step env (itself into))
      (param_step env (itself into)) (path_type_step env (itself into)) (type_bound_step env (itself into))
      (type_step env (itself into))

  unfoldable pub fold_call : AstMacroCall → Unit {0}
  fold_call = folds.para-MacroCall
      readings.ElseBranch readings.ExprKind readings.StmtKind readings.PatKind readings.GenericArg readings.TypeKind
      readings.BlockExpr readings.Expr readings.Path readings.PathSegment readings.RecordExprField readings.RecordExprFieldList
      readings.Stmt readings.MatchArm readings.MacroCall readings.Pat readings.RecordPatField readings.AssocTypeArg readings.Param
      readings.PathType readings.TypeBound readings.Type_
      (else_branch env (itself into)) (kind_step env (itself into)) (stmt_kind env (itself into)) (pat_kind_step env (itself into))
      (generic_arg_step env (itself into)) (type_kind_step env (itself into)) (block_step env (itself into))
      (expr_step env (itself into)) (path_reading env (itself into)) (segment_step env (itself into)) (field_step env (itself into))
      (record_step env (itself into)) (stmt_step env (itself into)) (arm_step env (itself into)) (call_step env (itself into))
      (pat_step env (itself into)) (pat_field_step env (itself into)) (assoc_type_arg_step env (itself into))
      (param_step env (itself into)) (path_type_step env (itself into)) (type_bound_step env (itself into))
      (type_step env (itself into))

  unfoldable pub fold_pat : AstPat → LowerCtx → Pat
  fold_pat = folds.para-Pat
      readings.ElseBranch readings.ExprKind readings.StmtKind readings.PatKind readings.GenericArg readings.TypeKind
      readings.BlockExpr readings.Expr readings.Path readings.PathSegment readings.RecordExprField readings.RecordExprFieldList
      readings.Stmt readings.MatchArm readings.MacroCall readings.Pat readings.RecordPatField readings.AssocTypeArg readings.Param
      readings.PathType readings.TypeBound readings.Type_
      (else_branch env (itself into)) (kind_step env (itself into)) (stmt_kind env (itself into)) (pat_kind_step env (itself into))
      (generic_arg_step env (itself into)) (type_kind_step env (itself into)) (block_step env (itself into))
      (expr_step env (itself into)) (path_reading env (itself into)) (segment_step env (itself into)) (field_step env (itself into))
      (record_step env (itself into)) (stmt_step env (itself into)) (arm_step env (itself into)) (call_step env (itself into))
      (pat_step env (itself into)) (pat_field_step env (itself into)) (assoc_type_arg_step env (itself into))
      (param_step env (itself into)) (path_type_step env (itself into)) (type_bound_step env (itself into))
      (type_step env (itself into))

  unfoldable pub fold_pat_field : AstRecordPatField → LowerCtx → PatField
  fold_pat_field = folds.para-RecordPatField
      readings.ElseBranch readings.ExprKind readings.StmtKind readings.PatKind readings.GenericArg readings.TypeKind
      readings.BlockExpr readings.Expr readings.Path readings.PathSegment readings.RecordExprField readings.RecordExprFieldList
      readings.Stmt readings.MatchArm readings.MacroCall readings.Pat readings.RecordPatField readings.AssocTypeArg readings.Param
      readings.PathType readings.TypeBound readings.Type_
      (else_branch env (itself into)) (kind_step env (itself into)) (stmt_kind env (itself into)) (pat_kind_step env (itself into))
      (generic_arg_step env (itself into)) (type_kind_step env (itself into)) (block_step env (itself into))
      (expr_step env (itself into)) (path_reading env (itself into)) (segment_step env (itself into)) (field_step env (itself into))
      (record_step env (itself into)) (stmt_step env (itself into)) (arm_step env (itself into)) (call_step env (itself into))
      (pat_step env (itself into)) (pat_field_step env (itself into)) (assoc_type_arg_step env (itself into))
      (param_step env (itself into)) (path_type_step env (itself into)) (type_bound_step env (itself into))
      (type_step env (itself into))

  unfoldable pub fold_assoc_type_arg : AstAssocTypeArg → LowerCtx → Arg
  fold_assoc_type_arg = folds.para-AssocTypeArg
      readings.ElseBranch readings.ExprKind readings.StmtKind readings.PatKind readings.GenericArg readings.TypeKind
      readings.BlockExpr readings.Expr readings.Path readings.PathSegment readings.RecordExprField readings.RecordExprFieldList
      readings.Stmt readings.MatchArm readings.MacroCall readings.Pat readings.RecordPatField readings.AssocTypeArg readings.Param
      readings.PathType readings.TypeBound readings.Type_
      (else_branch env (itself into)) (kind_step env (itself into)) (stmt_kind env (itself into)) (pat_kind_step env (itself into))
      (generic_arg_step env (itself into)) (type_kind_step env (itself into)) (block_step env (itself into))
      (expr_step env (itself into)) (path_reading env (itself into)) (segment_step env (itself into)) (field_step env (itself into))
      (record_step env (itself into)) (stmt_step env (itself into)) (arm_step env (itself into)) (call_step env (itself into))
      (pat_step env (itself into)) (pat_field_step env (itself into)) (assoc_type_arg_step env (itself into))
      (param_step env (itself into)) (path_type_step env (itself into)) (type_bound_step env (itself into))
      (type_step env (itself into))

  unfoldable pub fold_param : AstParam → LowerCtx → ParamReading
  fold_param = folds.para-Param
      readings.ElseBranch readings.ExprKind readings.StmtKind readings.PatKind readings.GenericArg readings.TypeKind
      readings.BlockExpr readings.Expr readings.Path readings.PathSegment readings.RecordExprField readings.RecordExprFieldList
      readings.Stmt readings.MatchArm readings.MacroCall readings.Pat readings.RecordPatField readings.AssocTypeArg readings.Param
      readings.PathType readings.TypeBound readings.Type_
      (else_branch env (itself into)) (kind_step env (itself into)) (stmt_kind env (itself into)) (pat_kind_step env (itself into))
      (generic_arg_step env (itself into)) (type_kind_step env (itself into)) (block_step env (itself into))
      (expr_step env (itself into)) (path_reading env (itself into)) (segment_step env (itself into)) (field_step env (itself into))
      (record_step env (itself into)) (stmt_step env (itself into)) (arm_step env (itself into)) (call_step env (itself into))
      (pat_step env (itself into)) (pat_field_step env (itself into)) (assoc_type_arg_step env (itself into))
      (param_step env (itself into)) (path_type_step env (itself into)) (type_bound_step env (itself into))
      (type_step env (itself into))

  unfoldable pub fold_path_type : AstPathType → LowerCtx → PathTypeReading
  fold_path_type = folds.para-PathType
      readings.ElseBranch readings.ExprKind readings.StmtKind readings.PatKind readings.GenericArg readings.TypeKind
      readings.BlockExpr readings.Expr readings.Path readings.PathSegment readings.RecordExprField readings.RecordExprFieldList
      readings.Stmt readings.MatchArm readings.MacroCall readings.Pat readings.RecordPatField readings.AssocTypeArg readings.Param
      readings.PathType readings.TypeBound readings.Type_
      (else_branch env (itself into)) (kind_step env (itself into)) (stmt_kind env (itself into)) (pat_kind_step env (itself into))
      (generic_arg_step env (itself into)) (type_kind_step env (itself into)) (block_step env (itself into))
      (expr_step env (itself into)) (path_reading env (itself into)) (segment_step env (itself into)) (field_step env (itself into))
      (record_step env (itself into)) (stmt_step env (itself into)) (arm_step env (itself into)) (call_step env (itself into))
      (pat_step env (itself into)) (pat_field_step env (itself into)) (assoc_type_arg_step env (itself into))
      (param_step env (itself into)) (path_type_step env (itself into)) (type_bound_step env (itself into))
      (type_step env (itself into))

  unfoldable pub fold_type_bound : AstTypeBound → LowerCtx → Bound
  fold_type_bound = folds.para-TypeBound
      readings.ElseBranch readings.ExprKind readings.StmtKind readings.PatKind readings.GenericArg readings.TypeKind
      readings.BlockExpr readings.Expr readings.Path readings.PathSegment readings.RecordExprField readings.RecordExprFieldList
      readings.Stmt readings.MatchArm readings.MacroCall readings.Pat readings.RecordPatField readings.AssocTypeArg readings.Param
      readings.PathType readings.TypeBound readings.Type_
      (else_branch env (itself into)) (kind_step env (itself into)) (stmt_kind env (itself into)) (pat_kind_step env (itself into))
      (generic_arg_step env (itself into)) (type_kind_step env (itself into)) (block_step env (itself into))
      (expr_step env (itself into)) (path_reading env (itself into)) (segment_step env (itself into)) (field_step env (itself into))
      (record_step env (itself into)) (stmt_step env (itself into)) (arm_step env (itself into)) (call_step env (itself into))
      (pat_step env (itself into)) (pat_field_step env (itself into)) (assoc_type_arg_step env (itself into))
      (param_step env (itself into)) (path_type_step env (itself into)) (type_bound_step env (itself into))
      (type_step env (itself into))

  unfoldable pub fold_type : AstType_ → LowerCtx → Type_
  fold_type = folds.para-Type_
      readings.ElseBranch readings.ExprKind readings.StmtKind readings.PatKind readings.GenericArg readings.TypeKind
      readings.BlockExpr readings.Expr readings.Path readings.PathSegment readings.RecordExprField readings.RecordExprFieldList
      readings.Stmt readings.MatchArm readings.MacroCall readings.Pat readings.RecordPatField readings.AssocTypeArg readings.Param
      readings.PathType readings.TypeBound readings.Type_
      (else_branch env (itself into)) (kind_step env (itself into)) (stmt_kind env (itself into)) (pat_kind_step env (itself into))
      (generic_arg_step env (itself into)) (type_kind_step env (itself into)) (block_step env (itself into))
      (expr_step env (itself into)) (path_reading env (itself into)) (segment_step env (itself into)) (field_step env (itself into))
      (record_step env (itself into)) (stmt_step env (itself into)) (arm_step env (itself into)) (call_step env (itself into))
      (pat_step env (itself into)) (pat_field_step env (itself into)) (assoc_type_arg_step env (itself into))
      (param_step env (itself into)) (path_type_step env (itself into)) (type_bound_step env (itself into))
      (type_step env (itself into))

  abbrev pub read_else_branch : AstElseBranch → LowerCtx → Expr
  read_else_branch = fold_else_branch

  abbrev pub read_expr_kind : AstExprKind → AstPtr → LowerCtx → Expr
  read_expr_kind e = (fold_expr_kind e).expr

  abbrev pub read_stmt_kind : AstStmtKind → AstPtr → LowerCtx → Defined → StmtReading
  read_stmt_kind = fold_stmt_kind

  abbrev pub read_pat_kind : AstPatKind → AstPtr → LowerCtx → Pat
  read_pat_kind = fold_pat_kind

  abbrev pub read_generic_arg : AstGenericArg → LowerCtx → Arg
  read_generic_arg = fold_generic_arg

  abbrev pub read_type_kind : AstTypeKind → AstPtr → LowerCtx → Type_
  read_type_kind = fold_type_kind

  abbrev pub read_block : AstBlockExpr → BlockReading
  read_block = fold_block

  abbrev pub read_expr : AstExpr → LowerCtx → Expr
  read_expr e = (fold_expr e).expr

  abbrev pub read_path : AstPath → LowerCtx → Path
  read_path x = (fold_path x).alone

  abbrev pub read_use_tree : AstPath → LowerCtx → Path
  read_use_tree x = (fold_path x).use_tree

  abbrev pub read_segment : AstPathSegment → LowerCtx → Segment
  read_segment = fold_segment

  abbrev pub read_field : AstRecordExprField → LowerCtx → Field
  read_field = fold_field

  abbrev pub read_record : AstRecordExprFieldList → LowerCtx → RecordReading
  read_record = fold_record

  abbrev pub read_stmt : AstStmt → LowerCtx → Defined → StmtReading
  read_stmt = fold_stmt

  abbrev pub read_arm : AstMatchArm → LowerCtx → Arm
  read_arm = fold_arm

  abbrev pub read_pat : AstPat → LowerCtx → Pat
  read_pat = fold_pat

  abbrev pub read_pat_field : AstRecordPatField → LowerCtx → PatField
  read_pat_field = fold_pat_field

  abbrev pub read_assoc_type_arg : AstAssocTypeArg → LowerCtx → Arg
  read_assoc_type_arg = fold_assoc_type_arg

  abbrev pub read_param : AstParam → LowerCtx → ParamReading
  read_param = fold_param

  abbrev pub read_path_type : AstPathType → LowerCtx → PathTypeReading
  read_path_type = fold_path_type

  abbrev pub read_type_bound : AstTypeBound → LowerCtx → Bound
  read_type_bound = fold_type_bound

  abbrev pub read_type : AstType_ → LowerCtx → Type_
  read_type = fold_type

  abbrev pub read_value_kind : AstExprKind → AstPtr → LowerCtx → Defined → Spliced
  read_value_kind e = (fold_expr_kind e).value

  -- in statement or tail place
  abbrev pub read_value : AstExpr → LowerCtx → Defined → Spliced
  read_value e = (fold_expr e).value

  abbrev pub reader : Reader written
  reader = record {
    into = into;
    else_branch = read_else_branch;
    expr_kind = read_expr_kind;
    stmt_kind = read_stmt_kind;
    pat_kind = read_pat_kind;
    generic_arg = read_generic_arg;
    type_kind = read_type_kind;
    block_expr = read_block;
    expr = read_expr;
    path = read_path;
    use_tree = read_use_tree;
    segment = read_segment;
    segment_node = λ s. (out-PathSegment s).id;
    field = read_field;
    field_list = read_record;
    stmt = read_stmt;
    arm = read_arm;
    macro_call = λ c. c;
    pat = read_pat;
    pat_field = read_pat_field;
    assoc_type_arg = read_assoc_type_arg;
    param = read_param;
    path_type = read_path_type;
    type_bound = read_type_bound;
    type_ = read_type;
    value_kind = read_value_kind;
    value = read_value;
  }

  -- the parts that are no nodes of their own
  abbrev pub read_constant : AstConstArg → LowerCtx → Constant
  read_constant = constant_step env reader

  abbrev pub read_guard : AstGuard → LowerCtx → OptionExpr
  read_guard = guard_step env reader

  abbrev pub read_let_else : AstLetElse → LowerCtx → OptionBlock
  read_let_else = let_else_step env reader

  abbrev pub read_ret_type : AstRetType → LowerCtx → OptionType
  read_ret_type = ret_type_step env reader

  abbrev pub read_type_arg : AstTypeArg → LowerCtx → OptionType
  read_type_arg = type_arg_step env reader

  abbrev pub read_paren_args : AstParenArgs → LowerCtx → Parts
  read_paren_args = paren_args_step env reader

  abbrev pub read_generic_arg_list : AstGenericArgList → LowerCtx → Args
  read_generic_arg_list = generic_arg_list_step env reader

-- how that is read which calls stand for, where so many may be entered one in the other
abbrev pub entering : Answers → ℕ → Option Entering
entering env zero = None
entering env (suc n) = Some (record {
  left = n;
  expr = read_expr env (entering env n);
  value = read_value env (entering env n);
  stmt = read_stmt env (entering env n);
  pat = read_pat env (entering env n);
  type_ = read_type env (entering env n);
})
