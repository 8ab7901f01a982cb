-- What is read of a tree is framed: by induction, a line for each sort.
use Rattle.std.proofs.Common.{◌≡◌, ◌∙◌, sym, ℕ, zero, suc}
use Rattle.hir_syntax.specs.declared.ast.ElseBranch.TheFolds as folds
use Rattle.hir_syntax.specs.declared.ast.ElseBranch.{roll-ElseBranch, out-roll-ElseBranch}
use Rattle.hir_syntax.specs.declared.ast.ExprKind.{roll-ExprKind, out-roll-ExprKind}
use Rattle.hir_syntax.specs.declared.ast.StmtKind.{roll-StmtKind, out-roll-StmtKind}
use Rattle.hir_syntax.specs.declared.pats.PatKind.{roll-PatKind, out-roll-PatKind}
use Rattle.hir_syntax.specs.declared.types.GenericArg.{roll-GenericArg, out-roll-GenericArg}
use Rattle.hir_syntax.specs.declared.types.TypeKind.{roll-TypeKind, out-roll-TypeKind}
use Rattle.hir_syntax.specs.declared.ast.BlockExpr.{roll-BlockExpr, out-roll-BlockExpr}
use Rattle.hir_syntax.specs.declared.ast.Expr.{Expr as AstExpr, roll-Expr, out-roll-Expr}
use Rattle.hir_syntax.specs.declared.ast.Path.{Path as AstPath, roll-Path, out-roll-Path}
use Rattle.hir_syntax.specs.declared.ast.PathSegment.{PathSegment as AstPathSegment, roll-PathSegment, out-roll-PathSegment}
use Rattle.hir_syntax.specs.declared.ast.RecordExprField.{roll-RecordExprField, out-roll-RecordExprField}
use Rattle.hir_syntax.specs.declared.ast.RecordExprFieldList.{roll-RecordExprFieldList, out-roll-RecordExprFieldList}
use Rattle.hir_syntax.specs.declared.ast.Stmt.{Stmt as AstStmt, roll-Stmt, out-roll-Stmt}
use Rattle.hir_syntax.specs.declared.branches.MatchArm.{roll-MatchArm, out-roll-MatchArm}
use Rattle.hir_syntax.specs.declared.pats.Pat.{Pat as AstPat, roll-Pat, out-roll-Pat}
use Rattle.hir_syntax.specs.declared.pats.RecordPatField.{roll-RecordPatField, out-roll-RecordPatField}
use Rattle.hir_syntax.specs.declared.types.AssocTypeArg.{roll-AssocTypeArg, out-roll-AssocTypeArg}
use Rattle.hir_syntax.specs.declared.types.Param.{roll-Param, out-roll-Param}
use Rattle.hir_syntax.specs.declared.types.PathType.{roll-PathType, out-roll-PathType}
use Rattle.hir_syntax.specs.declared.types.TypeBound.{TypeBound as AstTypeBound, roll-TypeBound, out-roll-TypeBound}
use Rattle.hir_syntax.specs.declared.types.Type_.{Type_ as AstType_, roll-Type_, out-roll-Type_}
use Rattle.hir_env.specs.Answering as of
use Rattle.hir_env.specs.Answers.{Answers}
use Rattle.hir_env.specs.Folds.{entering}
use Rattle.hir_env.specs.Folds.{fold_expr_kind, fold_stmt_kind, fold_pat_kind, fold_type_kind}
use Rattle.hir_env.specs.Layers.{ElseBranchLayer, ExprKindLayer, StmtKindLayer, BlockExprLayer, ExprLayer, StmtLayer}
use Rattle.hir_env.specs.Layers.{RecordExprFieldLayer, RecordExprFieldListLayer, MatchArmLayer, itself, written}
use Rattle.hir_env.specs.Paths as of_types
use Rattle.hir_env.specs.Pats as of_pats
use Rattle.hir_env.specs.PatLayers.{PatKindLayer, PatLayer, RecordPatFieldLayer}
use Rattle.hir_env.specs.ResolveCtx.{ptr}
use Rattle.hir_env.specs.TypeLayers.{GenericArgLayer, TypeKindLayer, PathLayer, PathSegmentLayer, AssocTypeArgLayer}
use Rattle.hir_env.specs.TypeLayers.{ParamLayer, PathTypeLayer, TypeBoundLayer, Type_Layer}
use Rattle.hir_env.proofs.Mapped.{mapped_else, mapped_kind, mapped_stmt_kind, mapped_pat_kind, mapped_block}
use Rattle.hir_env.proofs.Mapped.{mapped_field, mapped_record, mapped_arm, mapped_pat_field}
use Rattle.hir_env.proofs.Mapped.{mapped_generic_arg, mapped_type_kind, mapped_path, mapped_segment, mapped_assoc_type_arg, mapped_param}
use Rattle.hir_env.proofs.Mapped.{mapped_path_type, mapped_type_bound}
use Rattle.hir_env.proofs.Opened.{opened_else_branch, opened_expr_kind, opened_stmt_kind, opened_pat_kind, opened_block, opened_expr}
use Rattle.hir_env.proofs.Opened.{opened_field, opened_record, opened_stmt, opened_arm, opened_pat, opened_pat_field}
use Rattle.hir_env.proofs.OpenedTypes.{opened_generic_arg, opened_type_kind, opened_path, opened_segment, opened_assoc_type_arg}
use Rattle.hir_env.proofs.OpenedTypes.{opened_param, opened_path_type, opened_type_bound, opened_type}
use Rattle.thm_frame.proofs.Bare.{bare_else, bare_kind, bare_stmt_kind, bare_pat_kind, bare_generic_arg, bare_type_kind, bare_block}
use Rattle.thm_frame.proofs.Bare.{bare_expr, bare_path, bare_segment, bare_field, bare_record, bare_stmt, bare_arm, bare_pat}
use Rattle.thm_frame.proofs.Bare.{bare_pat_field, bare_assoc_type_arg, bare_param, bare_path_type, bare_type_bound, bare_type}
use Rattle.thm_frame.proofs.ExprForms.{arm_framed, asked_block_framed, else_level_framed, field_framed, kind_framed, own_block_framed}
use Rattle.thm_frame.proofs.ExprForms.{plain_block_framed, record_level_framed, stmt_kind_framed, value_kind_framed}
use Rattle.thm_frame.proofs.Framing.{as_made}
use Rattle.thm_frame.proofs.Motives.{OfElse, OfKind, OfStmtKind, OfPatKind, OfArg, OfTypeKind, OfBlock, OfExpr, OfPath, OfSegment, OfField}
use Rattle.thm_frame.proofs.Motives.{OfRecord, OfStmt, OfArm, OfCall, OfPat, OfPatField, OfAssocArg, OfParam, OfPathType, OfBound, OfType}
use Rattle.thm_frame.proofs.Motives.{AllFramed, Below, claimed}
use Rattle.thm_frame.specs.Questions.{Area}
use Rattle.thm_frame.proofs.PatForms.{pat_field_framed, pat_kind_framed}
use Rattle.thm_frame.proofs.TypeForms.{arg_framed, assoc_arg_framed, bound_framed, param_framed, path_level_framed, path_type_level_framed}
use Rattle.thm_frame.proofs.TypeForms.{plain_path_framed}
use Rattle.thm_frame.proofs.TypeForms.{segment_framed, type_kind_framed}

module _ (a : Answers) (area : Area a) (n : ℕ) (below : Below a area n) where
  else_step : (x : ElseBranchLayer written) (y : ElseBranchLayer (claimed a area n)) → bare_else a area n y ≡ x
      → OfElse a area n (roll-ElseBranch x)
  else_step x y is p w = as_made
      (λ b. (λ j. opened_else_branch b (entering b n) (roll-ElseBranch x) j p)
      ∙ (λ j. of.else_branch b (itself (entering b n)) (mapped_else b (entering b n) ((out-roll-ElseBranch x ∙ sym is) j)) p))
      (else_level_framed a area n below y p w)

  kind_step : (x : ExprKindLayer written) (y : ExprKindLayer (claimed a area n)) → bare_kind a area n y ≡ x
      → OfKind a area n (roll-ExprKind x)
  kind_step x y is = record {
    expr = λ s p w. as_made
        (λ b. (λ j. (opened_expr_kind b (entering b n) (roll-ExprKind x) j).expr s p)
        ∙ (λ j. of.expr_kind b (itself (entering b n)) (mapped_kind b (entering b n) ((out-roll-ExprKind x ∙ sym is) j)) s p))
        (kind_framed a area n below y s p w);
    value = λ s p w d. as_made
        (λ b. (λ j. (opened_expr_kind b (entering b n) (roll-ExprKind x) j).value s p d)
        ∙ (λ j. of.value_kind b (itself (entering b n)) (mapped_kind b (entering b n) ((out-roll-ExprKind x ∙ sym is) j)) s p d))
        (value_kind_framed a area n below y s p w d);
  }

  stmt_kind_step : (x : StmtKindLayer written) (y : StmtKindLayer (claimed a area n)) → bare_stmt_kind a area n y ≡ x
      → OfStmtKind a area n (roll-StmtKind x)
  stmt_kind_step x y is s p w d = as_made
      (λ b. (λ j. opened_stmt_kind b (entering b n) (roll-StmtKind x) j s p d)
      ∙ (λ j. of.stmt_kind b (itself (entering b n)) (mapped_stmt_kind b (entering b n) ((out-roll-StmtKind x ∙ sym is) j)) s p d))
      (stmt_kind_framed a area n below y s p w d)

  pat_kind_step : (x : PatKindLayer written) (y : PatKindLayer (claimed a area n)) → bare_pat_kind a area n y ≡ x
      → OfPatKind a area n (roll-PatKind x)
  pat_kind_step x y is s p w = as_made
      (λ b. (λ j. opened_pat_kind b (entering b n) (roll-PatKind x) j s p)
      ∙ (λ j. of_pats.pat_kind_step b (itself (entering b n)) (mapped_pat_kind b (entering b n) ((out-roll-PatKind x ∙ sym is) j)) s p))
      (pat_kind_framed a area n below y s p w)

  generic_arg_step : (x : GenericArgLayer written) (y : GenericArgLayer (claimed a area n)) → bare_generic_arg a area n y ≡ x
      → OfArg a area n (roll-GenericArg x)
  generic_arg_step x y is p w = as_made
      (λ b. (λ j. opened_generic_arg b (entering b n) (roll-GenericArg x) j p)
      ∙ (λ j. of_types.generic_arg_step b (itself (entering b n))
      (mapped_generic_arg b (entering b n) ((out-roll-GenericArg x ∙ sym is) j)) p))
      (arg_framed a area n below y p w)

  type_kind_step : (x : TypeKindLayer written) (y : TypeKindLayer (claimed a area n)) → bare_type_kind a area n y ≡ x
      → OfTypeKind a area n (roll-TypeKind x)
  type_kind_step x y is s p w = as_made
      (λ b. (λ j. opened_type_kind b (entering b n) (roll-TypeKind x) j s p)
      ∙ (λ j. of_types.type_kind_step b (itself (entering b n)) (mapped_type_kind b (entering b n) ((out-roll-TypeKind x ∙ sym is) j)) s p))
      (type_kind_framed a area n below y s p w)

  block_step : (x : BlockExprLayer written) (y : BlockExprLayer (claimed a area n)) → bare_block a area n y ≡ x
      → OfBlock a area n (roll-BlockExpr x)
  block_step x y is = record {
    plain = λ p w. as_made
        (λ b. (λ j. (opened_block b (entering b n) (roll-BlockExpr x) j).plain p)
        ∙ (λ j. (of.block_step b (itself (entering b n)) (mapped_block b (entering b n) ((out-roll-BlockExpr x ∙ sym is) j))).plain p))
        (plain_block_framed a area n below y p w);
    own = λ p w. as_made
        (λ b. (λ j. (opened_block b (entering b n) (roll-BlockExpr x) j).own p)
        ∙ (λ j. (of.block_step b (itself (entering b n)) (mapped_block b (entering b n) ((out-roll-BlockExpr x ∙ sym is) j))).own p))
        (own_block_framed a area n below y p w);
    asked = λ p w. as_made
        (λ b. (λ j. (opened_block b (entering b n) (roll-BlockExpr x) j).asked p)
        ∙ (λ j. (of.block_step b (itself (entering b n)) (mapped_block b (entering b n) ((out-roll-BlockExpr x ∙ sym is) j))).asked p))
        (asked_block_framed a area n below y p w);
  }

  expr_step : (x : ExprLayer written) (y : ExprLayer (claimed a area n)) → bare_expr a area n y ≡ x → OfExpr a area n (roll-Expr x)
  expr_step x y is = record {
    expr = λ p w. as_made
        (λ b. (λ j. (opened_expr b (entering b n) (roll-Expr x) j).expr p)
        ∙ (λ j. let z = ((out-roll-Expr x ∙ sym is) j) in (fold_expr_kind b (entering b n) z.kind).expr (ptr z.id z.range) p))
        (y.kind.1.expr (ptr y.id y.range) p w);
    value = λ p w d. as_made
        (λ b. (λ j. (opened_expr b (entering b n) (roll-Expr x) j).value p d)
        ∙ (λ j. let z = ((out-roll-Expr x ∙ sym is) j) in (fold_expr_kind b (entering b n) z.kind).value (ptr z.id z.range) p d))
        (y.kind.1.value (ptr y.id y.range) p w d);
  }

  path_step : (x : PathLayer written) (y : PathLayer (claimed a area n)) → bare_path a area n y ≡ x → OfPath a area n (roll-Path x)
  path_step x y is = record {
    alone = λ p w. as_made
        (λ b. (λ j. (opened_path b (entering b n) (roll-Path x) j).alone p)
        ∙ (λ j. of_types.path_step b (itself (entering b n)) (mapped_path b (entering b n) ((out-roll-Path x ∙ sym is) j)) p))
        (path_level_framed a area n below y p w);
    use_tree = λ p w. as_made
        (λ b. (λ j. (opened_path b (entering b n) (roll-Path x) j).use_tree p)
        ∙ (λ j. of_types.plain_path b (itself (entering b n)) (mapped_path b (entering b n) ((out-roll-Path x ∙ sym is) j)) p))
        (plain_path_framed a area n below y p w);
  }

  segment_step : (x : PathSegmentLayer written) (y : PathSegmentLayer (claimed a area n)) → bare_segment a area n y ≡ x
      → OfSegment a area n (roll-PathSegment x)
  segment_step x y is p w = as_made
      (λ b. (λ j. opened_segment b (entering b n) (roll-PathSegment x) j p)
      ∙ (λ j. of_types.segment_step b (itself (entering b n)) (mapped_segment b (entering b n) ((out-roll-PathSegment x ∙ sym is) j)) p))
      (segment_framed a area n below y p w)

  field_step : (x : RecordExprFieldLayer written) (y : RecordExprFieldLayer (claimed a area n)) → bare_field a area n y ≡ x
      → OfField a area n (roll-RecordExprField x)
  field_step x y is p w = as_made
      (λ b. (λ j. opened_field b (entering b n) (roll-RecordExprField x) j p)
      ∙ (λ j. of.field_step b (itself (entering b n)) (mapped_field b (entering b n) ((out-roll-RecordExprField x ∙ sym is) j)) p))
      (field_framed a area n below y p w)

  record_step : (x : RecordExprFieldListLayer written) (y : RecordExprFieldListLayer (claimed a area n)) → bare_record a area n y ≡ x
      → OfRecord a area n (roll-RecordExprFieldList x)
  record_step x y is p w = as_made
      (λ b. (λ j. opened_record b (entering b n) (roll-RecordExprFieldList x) j p)
      ∙ (λ j. of.record_step b (itself (entering b n)) (mapped_record b (entering b n) ((out-roll-RecordExprFieldList x ∙ sym is) j)) p))
      (record_level_framed a area n below y p w)

  stmt_step : (x : StmtLayer written) (y : StmtLayer (claimed a area n)) → bare_stmt a area n y ≡ x → OfStmt a area n (roll-Stmt x)
  stmt_step x y is p w d = as_made
      (λ b. (λ j. opened_stmt b (entering b n) (roll-Stmt x) j p d)
      ∙ (λ j. let z = ((out-roll-Stmt x ∙ sym is) j) in fold_stmt_kind b (entering b n) z.kind (ptr z.id z.range) p d))
      (y.kind.1 (ptr y.id y.range) p w d)

  arm_step : (x : MatchArmLayer written) (y : MatchArmLayer (claimed a area n)) → bare_arm a area n y ≡ x → OfArm a area n (roll-MatchArm x)
  arm_step x y is p w = as_made
      (λ b. (λ j. opened_arm b (entering b n) (roll-MatchArm x) j p)
      ∙ (λ j. of.arm_step b (itself (entering b n)) (mapped_arm b (entering b n) ((out-roll-MatchArm x ∙ sym is) j)) p))
      (arm_framed a area n below y p w)

  pat_step : (x : PatLayer written) (y : PatLayer (claimed a area n)) → bare_pat a area n y ≡ x → OfPat a area n (roll-Pat x)
  pat_step x y is p w = as_made
      (λ b. (λ j. opened_pat b (entering b n) (roll-Pat x) j p)
      ∙ (λ j. let z = ((out-roll-Pat x ∙ sym is) j) in fold_pat_kind b (entering b n) z.kind (ptr z.id z.range) p))
      (y.kind.1 (ptr y.id y.range) p w)

  pat_field_step : (x : RecordPatFieldLayer written) (y : RecordPatFieldLayer (claimed a area n)) → bare_pat_field a area n y ≡ x
      → OfPatField a area n (roll-RecordPatField x)
  pat_field_step x y is p w = as_made
      (λ b. (λ j. opened_pat_field b (entering b n) (roll-RecordPatField x) j p)
      ∙ (λ j. of_pats.pat_field_step b (itself (entering b n))
      (mapped_pat_field b (entering b n) ((out-roll-RecordPatField x ∙ sym is) j)) p))
      (pat_field_framed a area n below y p w)

  assoc_type_arg_step : (x : AssocTypeArgLayer written) (y : AssocTypeArgLayer (claimed a area n)) → bare_assoc_type_arg a area n y ≡ x
      → OfAssocArg a area n (roll-AssocTypeArg x)
  assoc_type_arg_step x y is p w = as_made
      (λ b. (λ j. opened_assoc_type_arg b (entering b n) (roll-AssocTypeArg x) j p)
      ∙ (λ j. of_types.assoc_type_arg_step b (itself (entering b n))
      (mapped_assoc_type_arg b (entering b n) ((out-roll-AssocTypeArg x ∙ sym is) j)) p))
      (assoc_arg_framed a area n below y p w)

  param_step : (x : ParamLayer written) (y : ParamLayer (claimed a area n)) → bare_param a area n y ≡ x → OfParam a area n (roll-Param x)
  param_step x y is p w = as_made
      (λ b. (λ j. opened_param b (entering b n) (roll-Param x) j p)
      ∙ (λ j. of_types.param_step b (itself (entering b n)) (mapped_param b (entering b n) ((out-roll-Param x ∙ sym is) j)) p))
      (param_framed a area n below y p w)

  path_type_step : (x : PathTypeLayer written) (y : PathTypeLayer (claimed a area n)) → bare_path_type a area n y ≡ x
      → OfPathType a area n (roll-PathType x)
  path_type_step x y is p w = as_made
      (λ b. (λ j. opened_path_type b (entering b n) (roll-PathType x) j p)
      ∙ (λ j. of_types.path_type_step b (itself (entering b n)) (mapped_path_type b (entering b n) ((out-roll-PathType x ∙ sym is) j)) p))
      (path_type_level_framed a area n below y p w)

  type_bound_step : (x : TypeBoundLayer written) (y : TypeBoundLayer (claimed a area n)) → bare_type_bound a area n y ≡ x
      → OfBound a area n (roll-TypeBound x)
  type_bound_step x y is p w = as_made
      (λ b. (λ j. opened_type_bound b (entering b n) (roll-TypeBound x) j p)
      ∙ (λ j. of_types.type_bound_step b (itself (entering b n))
      (mapped_type_bound b (entering b n) ((out-roll-TypeBound x ∙ sym is) j)) p))
      (bound_framed a area n below y p w)

  type_step : (x : Type_Layer written) (y : Type_Layer (claimed a area n)) → bare_type a area n y ≡ x → OfType a area n (roll-Type_ x)
  type_step x y is p w = as_made
      (λ b. (λ j. opened_type b (entering b n) (roll-Type_ x) j p)
      ∙ (λ j. let z = ((out-roll-Type_ x ∙ sym is) j) in fold_type_kind b (entering b n) z.kind (ptr z.id z.range) p))
      (y.kind.1 (ptr y.id y.range) p w)

  pub of_expr : (x : AstExpr) → OfExpr a area n x
  of_expr = folds.ind-Expr
      (OfElse a area n) (OfKind a area n) (OfStmtKind a area n) (OfPatKind a area n) (OfArg a area n) (OfTypeKind a area n)
      (OfBlock a area n) (OfExpr a area n) (OfPath a area n)
      (OfSegment a area n) (OfField a area n) (OfRecord a area n) (OfStmt a area n) (OfArm a area n) (OfCall a area n) (OfPat a area n)
      (OfPatField a area n) (OfAssocArg a area n)
      (OfParam a area n) (OfPathType a area n) (OfBound a area n) (OfType a area n)
      else_step kind_step stmt_kind_step pat_kind_step generic_arg_step type_kind_step block_step expr_step path_step segment_step
      field_step record_step stmt_step arm_step (λ x y is. tt) pat_step pat_field_step assoc_type_arg_step param_step path_type_step
      type_bound_step type_step

  pub of_stmt : (x : AstStmt) → OfStmt a area n x
  of_stmt = folds.ind-Stmt
      (OfElse a area n) (OfKind a area n) (OfStmtKind a area n) (OfPatKind a area n) (OfArg a area n) (OfTypeKind a area n)
      (OfBlock a area n) (OfExpr a area n) (OfPath a area n)
      (OfSegment a area n) (OfField a area n) (OfRecord a area n) (OfStmt a area n) (OfArm a area n) (OfCall a area n) (OfPat a area n)
      (OfPatField a area n) (OfAssocArg a area n)
      (OfParam a area n) (OfPathType a area n) (OfBound a area n) (OfType a area n)
      else_step kind_step stmt_kind_step pat_kind_step generic_arg_step type_kind_step block_step expr_step path_step segment_step
      field_step record_step stmt_step arm_step (λ x y is. tt) pat_step pat_field_step assoc_type_arg_step param_step path_type_step
      type_bound_step type_step

  pub of_pat : (x : AstPat) → OfPat a area n x
  of_pat = folds.ind-Pat
      (OfElse a area n) (OfKind a area n) (OfStmtKind a area n) (OfPatKind a area n) (OfArg a area n) (OfTypeKind a area n)
      (OfBlock a area n) (OfExpr a area n) (OfPath a area n)
      (OfSegment a area n) (OfField a area n) (OfRecord a area n) (OfStmt a area n) (OfArm a area n) (OfCall a area n) (OfPat a area n)
      (OfPatField a area n) (OfAssocArg a area n)
      (OfParam a area n) (OfPathType a area n) (OfBound a area n) (OfType a area n)
      else_step kind_step stmt_kind_step pat_kind_step generic_arg_step type_kind_step block_step expr_step path_step segment_step
      field_step record_step stmt_step arm_step (λ x y is. tt) pat_step pat_field_step assoc_type_arg_step param_step path_type_step
      type_bound_step type_step

  pub of_type : (x : AstType_) → OfType a area n x
  of_type = folds.ind-Type_
      (OfElse a area n) (OfKind a area n) (OfStmtKind a area n) (OfPatKind a area n) (OfArg a area n) (OfTypeKind a area n)
      (OfBlock a area n) (OfExpr a area n) (OfPath a area n)
      (OfSegment a area n) (OfField a area n) (OfRecord a area n) (OfStmt a area n) (OfArm a area n) (OfCall a area n) (OfPat a area n)
      (OfPatField a area n) (OfAssocArg a area n)
      (OfParam a area n) (OfPathType a area n) (OfBound a area n) (OfType a area n)
      else_step kind_step stmt_kind_step pat_kind_step generic_arg_step type_kind_step block_step expr_step path_step segment_step
      field_step record_step stmt_step arm_step (λ x y is. tt) pat_step pat_field_step assoc_type_arg_step param_step path_type_step
      type_bound_step type_step

  pub of_bound : (x : AstTypeBound) → OfBound a area n x
  of_bound = folds.ind-TypeBound
      (OfElse a area n) (OfKind a area n) (OfStmtKind a area n) (OfPatKind a area n) (OfArg a area n) (OfTypeKind a area n)
      (OfBlock a area n) (OfExpr a area n) (OfPath a area n)
      (OfSegment a area n) (OfField a area n) (OfRecord a area n) (OfStmt a area n) (OfArm a area n) (OfCall a area n) (OfPat a area n)
      (OfPatField a area n) (OfAssocArg a area n)
      (OfParam a area n) (OfPathType a area n) (OfBound a area n) (OfType a area n)
      else_step kind_step stmt_kind_step pat_kind_step generic_arg_step type_kind_step block_step expr_step path_step segment_step
      field_step record_step stmt_step arm_step (λ x y is. tt) pat_step pat_field_step assoc_type_arg_step param_step path_type_step
      type_bound_step type_step

  pub of_path : (x : AstPath) → OfPath a area n x
  of_path = folds.ind-Path
      (OfElse a area n) (OfKind a area n) (OfStmtKind a area n) (OfPatKind a area n) (OfArg a area n) (OfTypeKind a area n)
      (OfBlock a area n) (OfExpr a area n) (OfPath a area n)
      (OfSegment a area n) (OfField a area n) (OfRecord a area n) (OfStmt a area n) (OfArm a area n) (OfCall a area n) (OfPat a area n)
      (OfPatField a area n) (OfAssocArg a area n)
      (OfParam a area n) (OfPathType a area n) (OfBound a area n) (OfType a area n)
      else_step kind_step stmt_kind_step pat_kind_step generic_arg_step type_kind_step block_step expr_step path_step segment_step
      field_step record_step stmt_step arm_step (λ x y is. tt) pat_step pat_field_step assoc_type_arg_step param_step path_type_step
      type_bound_step type_step

  pub of_segment : (x : AstPathSegment) → OfSegment a area n x
  of_segment = folds.ind-PathSegment
      (OfElse a area n) (OfKind a area n) (OfStmtKind a area n) (OfPatKind a area n) (OfArg a area n) (OfTypeKind a area n)
      (OfBlock a area n) (OfExpr a area n) (OfPath a area n)
      (OfSegment a area n) (OfField a area n) (OfRecord a area n) (OfStmt a area n) (OfArm a area n) (OfCall a area n) (OfPat a area n)
      (OfPatField a area n) (OfAssocArg a area n)
      (OfParam a area n) (OfPathType a area n) (OfBound a area n) (OfType a area n)
      else_step kind_step stmt_kind_step pat_kind_step generic_arg_step type_kind_step block_step expr_step path_step segment_step
      field_step record_step stmt_step arm_step (λ x y is. tt) pat_step pat_field_step assoc_type_arg_step param_step path_type_step
      type_bound_step type_step

  all_framed : AllFramed a area n
  all_framed = record { expr = of_expr; stmt = of_stmt; pat = of_pat; type_ = of_type }

pub below : (a : Answers) (area : Area a) (n : ℕ) → Below a area n
below a area zero = tt
below a area (suc n) = all_framed a area n (below a area n)
