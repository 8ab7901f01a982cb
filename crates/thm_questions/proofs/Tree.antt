-- What is read of a tree is framed by its list, which is about its nodes: by induction, a line for each sort.
use Rattle.std.proofs.Common.{◌≡◌, ◌∙◌, refl, ℕ, zero, suc, List, ◌++◌, Bool, Option}
use Rattle.hir_syntax.specs.declared.ast.ElseBranch.{roll-ElseBranch, out-roll-ElseBranch}
use Rattle.hir_syntax.specs.declared.ast.ExprKind.{roll-ExprKind, out-roll-ExprKind}
use Rattle.hir_syntax.specs.declared.ast.StmtKind.{roll-StmtKind, out-roll-StmtKind}
use Rattle.hir_syntax.specs.declared.pats.PatKind.{roll-PatKind, out-roll-PatKind}
use Rattle.hir_syntax.specs.declared.types.GenericArg.{roll-GenericArg, out-roll-GenericArg}
use Rattle.hir_syntax.specs.declared.types.TypeKind.{roll-TypeKind, out-roll-TypeKind}
use Rattle.hir_syntax.specs.declared.ast.BlockExpr.{roll-BlockExpr, out-roll-BlockExpr}
use Rattle.hir_syntax.specs.declared.ast.Expr.{Expr as AstExpr, roll-Expr, out-roll-Expr}
use Rattle.hir_syntax.specs.declared.ast.Path.{Path as AstPath, roll-Path, out-roll-Path}
use Rattle.hir_syntax.specs.declared.ast.PathSegment.{PathSegment as AstPathSegment, roll-PathSegment, out-roll-PathSegment}
use Rattle.hir_syntax.specs.declared.ast.RecordExprField.{roll-RecordExprField, out-roll-RecordExprField}
use Rattle.hir_syntax.specs.declared.ast.RecordExprFieldList.{roll-RecordExprFieldList, out-roll-RecordExprFieldList}
use Rattle.hir_syntax.specs.declared.ast.Stmt.{Stmt as AstStmt, roll-Stmt, out-roll-Stmt}
use Rattle.hir_syntax.specs.declared.branches.MatchArm.{roll-MatchArm, out-roll-MatchArm}
use Rattle.hir_syntax.specs.declared.pats.Pat.{Pat as AstPat, roll-Pat, out-roll-Pat}
use Rattle.hir_syntax.specs.declared.pats.RecordPatField.{roll-RecordPatField, out-roll-RecordPatField}
use Rattle.hir_syntax.specs.declared.types.AssocTypeArg.{roll-AssocTypeArg, out-roll-AssocTypeArg}
use Rattle.hir_syntax.specs.declared.types.Param.{roll-Param, out-roll-Param}
use Rattle.hir_syntax.specs.declared.types.PathType.{roll-PathType, out-roll-PathType}
use Rattle.hir_syntax.specs.declared.types.TypeBound.{TypeBound as AstTypeBound, roll-TypeBound, out-roll-TypeBound}
use Rattle.hir_syntax.specs.declared.types.Type_.{Type_ as AstType_, roll-Type_, out-roll-Type_}
use Rattle.hir_env.specs.ResolvedTree as tree
use Rattle.hir_env.specs.ResolvedTree.{Path}
use Rattle.hir_env.specs.Answering as of
use Rattle.hir_env.specs.Answers.{Answers}
use Rattle.hir_env.specs.Folds as read
use Rattle.hir_env.specs.Folds.{entering}
use Rattle.hir_env.specs.Layers.{ElseBranchLayer, ExprKindLayer, StmtKindLayer, BlockExprLayer, ExprLayer, RecordExprFieldLayer}
use Rattle.hir_env.specs.Layers.{RecordExprFieldListLayer, StmtLayer, MatchArmLayer, itself, written}
use Rattle.hir_env.specs.TypeLayers.{GenericArgLayer, TypeKindLayer, PathLayer, PathSegmentLayer, AssocTypeArgLayer, ParamLayer}
use Rattle.hir_env.specs.TypeLayers.{PathTypeLayer, TypeBoundLayer, Type_Layer}
use Rattle.hir_env.specs.PatLayers.{PatKindLayer, PatLayer, RecordPatFieldLayer}
use Rattle.hir_env.specs.Paths as of_types
use Rattle.hir_env.specs.Pats as of_pats
use Rattle.hir_env.specs.ResolveCtx.{ptr}
use Rattle.hir_env.specs.declared.ctx.LowerCtx.{LowerCtx}
use Rattle.hir_env.proofs.Mapped.{beside, mapped_else, mapped_kind, mapped_stmt_kind, mapped_pat_kind, mapped_generic_arg}
use Rattle.hir_env.proofs.Mapped.{mapped_type_kind, mapped_block, mapped_path, mapped_segment, mapped_field, mapped_record, mapped_arm}
use Rattle.hir_env.proofs.Mapped.{mapped_pat_field, mapped_assoc_type_arg, mapped_param, mapped_path_type, mapped_type_bound}
use Rattle.hir_env.proofs.Opened.{opened_else_branch, opened_expr_kind, opened_stmt_kind, opened_pat_kind, opened_block, opened_expr}
use Rattle.hir_env.proofs.Opened.{opened_field, opened_record, opened_stmt, opened_arm, opened_pat, opened_pat_field}
use Rattle.hir_env.proofs.OpenedTypes.{opened_generic_arg, opened_type_kind, opened_path, opened_segment, opened_assoc_type_arg}
use Rattle.hir_env.proofs.OpenedTypes.{opened_param, opened_path_type, opened_type_bound, opened_type}
use Rattle.spec_fold.proofs.Maps.{Maps, drop_claims, map_else_branch, map_expr_kind, map_stmt_kind, map_pat_kind, map_generic_arg}
use Rattle.spec_fold.proofs.Maps.{map_type_kind, map_block, map_expr, map_path, map_segment, map_field, map_field_list, map_stmt, map_arm}
use Rattle.spec_fold.proofs.Maps.{map_pat, map_pat_field, map_assoc_type_arg, map_param, map_path_type, map_type_bound, map_type}
use Rattle.spec_fold.proofs.Rolled.{rolled_else_branch, rolled_expr_kind, rolled_stmt_kind, rolled_pat_kind, rolled_generic_arg}
use Rattle.spec_fold.proofs.Rolled.{rolled_type_kind, rolled_block, rolled_expr, rolled_path, rolled_segment, rolled_field}
use Rattle.spec_fold.proofs.Rolled.{rolled_field_list, rolled_stmt, rolled_arm, rolled_pat, rolled_pat_field, rolled_assoc_type_arg}
use Rattle.spec_fold.proofs.Rolled.{rolled_param, rolled_path_type, rolled_type_bound, rolled_type}
use Rattle.spec_fold.proofs.Induction.{Steps, each_expr, each_path, each_pat, each_segment, each_stmt, each_type, each_type_bound}
use Rattle.thm_questions.specs.Asked as asked
use Rattle.thm_questions.specs.Asked.{asking}
use Rattle.thm_questions.specs.Areas.{NodeArea}
use Rattle.thm_questions.specs.Lists.{entered_calls}
use Rattle.thm_questions.specs.Nodes.{node_steps, nodes}
use Rattle.thm_questions.proofs.Claims.{AllByList, Below, asked_of, claimed, claims, in_asked, opt, opts, OfElse, OfKind, OfStmtKind}
use Rattle.thm_questions.proofs.Claims.{OfPatKind, OfArg, OfTypeKind, OfBlock, OfExpr, OfPath, OfSegment, OfField, OfRecord, OfStmt}
use Rattle.thm_questions.proofs.Claims.{OfArm, OfPat, OfPatField, OfAssocArg, OfParam, OfPathType, OfBound, OfType}
use Rattle.thm_questions.proofs.ExprForms.{arm_by, asked_block_by, else_level_by, field_by, kind_by, own_block_by, plain_block_by}
use Rattle.thm_questions.proofs.ExprForms.{record_level_by, stmt_kind_by, value_kind_by}
use Rattle.thm_questions.proofs.Framing.{as_made}
use Rattle.thm_questions.proofs.PatForms.{pat_field_by, pat_kind_by}
use Rattle.thm_questions.proofs.TypeForms.{arg_by, assoc_arg_by, bound_by, param_by, path_level_by, path_type_level_by, plain_path_by}
use Rattle.thm_questions.proofs.TypeForms.{segment_level_by, type_kind_by}

-- an alias that is found changes no name of the path
alias_is : (a : Answers) (p : LowerCtx) (f : Option (List Bool)) (x : Path)
    → asked.of_alias_at a p (of_types.with_alias f x) ≡ asked.of_alias_at a p x
alias_is a p f (tree.path alias leading first rest use_) = refl

module _ (a : Answers) (area : NodeArea a) (n : ℕ) (below : Below a area n) where
  abbrev bare : Maps (claimed a area n) written
  bare = drop_claims (claims a area n)

  else_branch_step : (y : ElseBranchLayer (claimed a area n)) → OfElse a area n (roll-ElseBranch (map_else_branch bare y))
  else_branch_step y p = let x = map_else_branch bare y in as_made
      (λ b. (λ j. opened_else_branch b (entering b n) (roll-ElseBranch x) j p)
      ∙ (λ j. of.else_branch b (itself (entering b n)) (mapped_else b (entering b n) (out-roll-ElseBranch x j)) p))
      (rolled_else_branch nodes node_steps x) (λ j. rolled_else_branch asking (asked_of a n) x j p) (else_level_by a area n below y p)

  expr_kind_step : (y : ExprKindLayer (claimed a area n)) → OfKind a area n (roll-ExprKind (map_expr_kind bare y))
  expr_kind_step y = let x = map_expr_kind bare y in record {
    expr = λ s p. as_made
        (λ b. (λ j. (opened_expr_kind b (entering b n) (roll-ExprKind x) j).expr s p)
        ∙ (λ j. of.expr_kind b (itself (entering b n)) (mapped_kind b (entering b n) (out-roll-ExprKind x j)) s p))
        (λ j. rolled_expr_kind nodes node_steps x j s.node) (λ j. (rolled_expr_kind asking (asked_of a n) x j).expr s p)
        (kind_by a area n below y s p);
    value = λ s p d. as_made
        (λ b. (λ j. (opened_expr_kind b (entering b n) (roll-ExprKind x) j).value s p d)
        ∙ (λ j. of.value_kind b (itself (entering b n)) (mapped_kind b (entering b n) (out-roll-ExprKind x j)) s p d))
        (λ j. rolled_expr_kind nodes node_steps x j s.node) (λ j. (rolled_expr_kind asking (asked_of a n) x j).value s p d)
        (value_kind_by a area n below y s p d);
  }

  stmt_kind_step : (y : StmtKindLayer (claimed a area n)) → OfStmtKind a area n (roll-StmtKind (map_stmt_kind bare y))
  stmt_kind_step y s p d = let x = map_stmt_kind bare y in as_made
      (λ b. (λ j. opened_stmt_kind b (entering b n) (roll-StmtKind x) j s p d)
      ∙ (λ j. of.stmt_kind b (itself (entering b n)) (mapped_stmt_kind b (entering b n) (out-roll-StmtKind x j)) s p d))
      (λ j. rolled_stmt_kind nodes node_steps x j s.node) (λ j. rolled_stmt_kind asking (asked_of a n) x j s p d)
      (stmt_kind_by a area n below y s p d)

  pat_kind_step : (y : PatKindLayer (claimed a area n)) → OfPatKind a area n (roll-PatKind (map_pat_kind bare y))
  pat_kind_step y s p = let x = map_pat_kind bare y in as_made
      (λ b. (λ j. opened_pat_kind b (entering b n) (roll-PatKind x) j s p)
      ∙ (λ j. of_pats.pat_kind_step b (itself (entering b n)) (mapped_pat_kind b (entering b n) (out-roll-PatKind x j)) s p))
      (rolled_pat_kind nodes node_steps x) (λ j. rolled_pat_kind asking (asked_of a n) x j p) (pat_kind_by a area n below y s p)

  generic_arg_step : (y : GenericArgLayer (claimed a area n)) → OfArg a area n (roll-GenericArg (map_generic_arg bare y))
  generic_arg_step y p = let x = map_generic_arg bare y in as_made
      (λ b. (λ j. opened_generic_arg b (entering b n) (roll-GenericArg x) j p)
      ∙ (λ j. of_types.generic_arg_step b (itself (entering b n)) (mapped_generic_arg b (entering b n) (out-roll-GenericArg x j)) p))
      (rolled_generic_arg nodes node_steps x) (λ j. rolled_generic_arg asking (asked_of a n) x j p) (arg_by a area n below y p)

  type_kind_step : (y : TypeKindLayer (claimed a area n)) → OfTypeKind a area n (roll-TypeKind (map_type_kind bare y))
  type_kind_step y s p = let x = map_type_kind bare y in as_made
      (λ b. (λ j. opened_type_kind b (entering b n) (roll-TypeKind x) j s p)
      ∙ (λ j. of_types.type_kind_step b (itself (entering b n)) (mapped_type_kind b (entering b n) (out-roll-TypeKind x j)) s p))
      (rolled_type_kind nodes node_steps x) (λ j. rolled_type_kind asking (asked_of a n) x j p) (type_kind_by a area n below y s p)

  block_step : (y : BlockExprLayer (claimed a area n)) → OfBlock a area n (roll-BlockExpr (map_block bare y))
  block_step y = let x = map_block bare y in record {
    plain = λ p. as_made
        (λ b. (λ j. (opened_block b (entering b n) (roll-BlockExpr x) j).plain p)
        ∙ (λ j. (of.block_step b (itself (entering b n)) (mapped_block b (entering b n) (out-roll-BlockExpr x j))).plain p))
        (rolled_block nodes node_steps x) (λ j. (rolled_block asking (asked_of a n) x j).plain p) (plain_block_by a area n below y p);
    own = λ p. as_made
        (λ b. (λ j. (opened_block b (entering b n) (roll-BlockExpr x) j).own p)
        ∙ (λ j. (of.block_step b (itself (entering b n)) (mapped_block b (entering b n) (out-roll-BlockExpr x j))).own p))
        (rolled_block nodes node_steps x) (λ j. (rolled_block asking (asked_of a n) x j).own p) (own_block_by a area n below y p);
    asked = λ p. as_made
        (λ b. (λ j. (opened_block b (entering b n) (roll-BlockExpr x) j).asked p)
        ∙ (λ j. (of.block_step b (itself (entering b n)) (mapped_block b (entering b n) (out-roll-BlockExpr x j))).asked p))
        (rolled_block nodes node_steps x) (λ j. (rolled_block asking (asked_of a n) x j).asked p) (asked_block_by a area n below y p);
  }

  expr_step : (y : ExprLayer (claimed a area n)) → OfExpr a area n (roll-Expr (map_expr bare y))
  expr_step y = let x = map_expr bare y in record {
    expr = λ p. as_made
        (λ b. (λ j. (opened_expr b (entering b n) (roll-Expr x) j).expr p)
        ∙ (λ j. let z = out-roll-Expr x j in (read.fold_expr_kind b (entering b n) z.kind).expr (ptr z.id z.range) p))
        (rolled_expr nodes node_steps x) (λ j. (rolled_expr asking (asked_of a n) x j).expr p) (y.kind.1.expr (ptr y.id y.range) p);
    value = λ p d. as_made
        (λ b. (λ j. (opened_expr b (entering b n) (roll-Expr x) j).value p d)
        ∙ (λ j. let z = out-roll-Expr x j in (read.fold_expr_kind b (entering b n) z.kind).value (ptr z.id z.range) p d))
        (rolled_expr nodes node_steps x) (λ j. (rolled_expr asking (asked_of a n) x j).value p d) (y.kind.1.value (ptr y.id y.range) p d);
  }

  -- what is asked of an alias, by the path that is read here, and by the same before an alias is put in
  alias_here : (p : LowerCtx) (y : PathLayer (claimed a area n))
      → asked.of_alias_at a p (read.read_path a (entering a n) (roll-Path (map_path bare y)) p)
      ≡ asked.of_alias_at a p (of_types.called_path a (itself (entering a n)) y.in_macro y.leading
      (opts (beside (read.fold_segment a (entering a n))) y.segs) (opt (beside (read.fold_path a (entering a n))) y.use_) p
      (of_types.plain_path a (itself (entering a n)) (mapped_path a (entering a n) (map_path bare y)) p))
  alias_here p y = let x = map_path bare y in
      let found = of_types.called_path a (itself (entering a n)) y.in_macro y.leading
      (opts (beside (read.fold_segment a (entering a n))) y.segs) (opt (beside (read.fold_path a (entering a n))) y.use_) p
      (of_types.plain_path a (itself (entering a n)) (mapped_path a (entering a n) x) p) in
      (λ j. asked.of_alias_at a p ((opened_path a (entering a n) (roll-Path x) j).alone p))
      ∙ ((λ j. asked.of_alias_at a p
      (of_types.path_step a (itself (entering a n)) (mapped_path a (entering a n) (out-roll-Path x j)) p))
      ∙ alias_is a p (of_types.alias_at a p found) found)

  path_step : (y : PathLayer (claimed a area n)) → OfPath a area n (roll-Path (map_path bare y))
  path_step y = let x = map_path bare y in record {
    alone = λ p. as_made
        (λ b. (λ j. (opened_path b (entering b n) (roll-Path x) j).alone p)
        ∙ (λ j. of_types.path_step b (itself (entering b n)) (mapped_path b (entering b n) (out-roll-Path x j)) p))
        (rolled_path nodes node_steps x)
        ((λ j. (rolled_path asking (asked_of a n) x j).alone (roll-Path x) p)
        ∙ (λ k. (asked.plain_asked a n (entered_calls a n) (map_path (in_asked a n) x) p
        ++ asked.of_local a y.in_macro (opts (in_asked a n).segment y.segs) (opt (in_asked a n).path y.use_) p) ++ alias_here p y k))
        (path_level_by a area n below y p);
    use_tree = λ p. as_made
        (λ b. (λ j. (opened_path b (entering b n) (roll-Path x) j).use_tree p)
        ∙ (λ j. of_types.plain_path b (itself (entering b n)) (mapped_path b (entering b n) (out-roll-Path x j)) p))
        (rolled_path nodes node_steps x) (λ j. (rolled_path asking (asked_of a n) x j).use_tree p) (plain_path_by a area n below y p);
  }

  segment_step : (y : PathSegmentLayer (claimed a area n)) → OfSegment a area n (roll-PathSegment (map_segment bare y))
  segment_step y p = let x = map_segment bare y in as_made
      (λ b. (λ j. opened_segment b (entering b n) (roll-PathSegment x) j p)
      ∙ (λ j. of_types.segment_step b (itself (entering b n)) (mapped_segment b (entering b n) (out-roll-PathSegment x j)) p))
      (rolled_segment nodes node_steps x) (λ j. rolled_segment asking (asked_of a n) x j p) (segment_level_by a area n below y p)

  field_step : (y : RecordExprFieldLayer (claimed a area n)) → OfField a area n (roll-RecordExprField (map_field bare y))
  field_step y p = let x = map_field bare y in as_made
      (λ b. (λ j. opened_field b (entering b n) (roll-RecordExprField x) j p)
      ∙ (λ j. of.field_step b (itself (entering b n)) (mapped_field b (entering b n) (out-roll-RecordExprField x j)) p))
      (rolled_field nodes node_steps x) (λ j. rolled_field asking (asked_of a n) x j p) (field_by a area n below y p)

  field_list_step : (y : RecordExprFieldListLayer (claimed a area n))
      → OfRecord a area n (roll-RecordExprFieldList (map_field_list bare y))
  field_list_step y p = let x = map_field_list bare y in as_made
      (λ b. (λ j. opened_record b (entering b n) (roll-RecordExprFieldList x) j p)
      ∙ (λ j. of.record_step b (itself (entering b n)) (mapped_record b (entering b n) (out-roll-RecordExprFieldList x j)) p))
      (rolled_field_list nodes node_steps x) (λ j. rolled_field_list asking (asked_of a n) x j p) (record_level_by a area n below y p)

  stmt_step : (y : StmtLayer (claimed a area n)) → OfStmt a area n (roll-Stmt (map_stmt bare y))
  stmt_step y p d = let x = map_stmt bare y in as_made
      (λ b. (λ j. opened_stmt b (entering b n) (roll-Stmt x) j p d)
      ∙ (λ j. let z = out-roll-Stmt x j in read.fold_stmt_kind b (entering b n) z.kind (ptr z.id z.range) p d))
      (rolled_stmt nodes node_steps x) (λ j. rolled_stmt asking (asked_of a n) x j p d) (y.kind.1 (ptr y.id y.range) p d)

  arm_step : (y : MatchArmLayer (claimed a area n)) → OfArm a area n (roll-MatchArm (map_arm bare y))
  arm_step y p = let x = map_arm bare y in as_made
      (λ b. (λ j. opened_arm b (entering b n) (roll-MatchArm x) j p)
      ∙ (λ j. of.arm_step b (itself (entering b n)) (mapped_arm b (entering b n) (out-roll-MatchArm x j)) p))
      (rolled_arm nodes node_steps x) (λ j. rolled_arm asking (asked_of a n) x j p) (arm_by a area n below y p)

  pat_step : (y : PatLayer (claimed a area n)) → OfPat a area n (roll-Pat (map_pat bare y))
  pat_step y p = let x = map_pat bare y in as_made
      (λ b. (λ j. opened_pat b (entering b n) (roll-Pat x) j p)
      ∙ (λ j. let z = out-roll-Pat x j in read.fold_pat_kind b (entering b n) z.kind (ptr z.id z.range) p))
      (rolled_pat nodes node_steps x) (λ j. rolled_pat asking (asked_of a n) x j p) (y.kind.1 (ptr y.id y.range) p)

  pat_field_step : (y : RecordPatFieldLayer (claimed a area n)) → OfPatField a area n (roll-RecordPatField (map_pat_field bare y))
  pat_field_step y p = let x = map_pat_field bare y in as_made
      (λ b. (λ j. opened_pat_field b (entering b n) (roll-RecordPatField x) j p)
      ∙ (λ j. of_pats.pat_field_step b (itself (entering b n)) (mapped_pat_field b (entering b n) (out-roll-RecordPatField x j)) p))
      (rolled_pat_field nodes node_steps x) (λ j. rolled_pat_field asking (asked_of a n) x j p) (pat_field_by a area n below y p)

  assoc_type_arg_step : (y : AssocTypeArgLayer (claimed a area n)) → OfAssocArg a area n (roll-AssocTypeArg (map_assoc_type_arg bare y))
  assoc_type_arg_step y p = let x = map_assoc_type_arg bare y in as_made
      (λ b. (λ j. opened_assoc_type_arg b (entering b n) (roll-AssocTypeArg x) j p)
      ∙ (λ j. of_types.assoc_type_arg_step b (itself (entering b n))
      (mapped_assoc_type_arg b (entering b n) (out-roll-AssocTypeArg x j)) p))
      (rolled_assoc_type_arg nodes node_steps x) (λ j. rolled_assoc_type_arg asking (asked_of a n) x j p) (assoc_arg_by a area n below y p)

  param_step : (y : ParamLayer (claimed a area n)) → OfParam a area n (roll-Param (map_param bare y))
  param_step y p = let x = map_param bare y in as_made
      (λ b. (λ j. opened_param b (entering b n) (roll-Param x) j p)
      ∙ (λ j. of_types.param_step b (itself (entering b n)) (mapped_param b (entering b n) (out-roll-Param x j)) p))
      (rolled_param nodes node_steps x) (λ j. rolled_param asking (asked_of a n) x j p) (param_by a area n below y p)

  path_type_step : (y : PathTypeLayer (claimed a area n)) → OfPathType a area n (roll-PathType (map_path_type bare y))
  path_type_step y p = let x = map_path_type bare y in as_made
      (λ b. (λ j. opened_path_type b (entering b n) (roll-PathType x) j p)
      ∙ (λ j. of_types.path_type_step b (itself (entering b n)) (mapped_path_type b (entering b n) (out-roll-PathType x j)) p))
      (rolled_path_type nodes node_steps x) (λ j. rolled_path_type asking (asked_of a n) x j p) (path_type_level_by a area n below y p)

  type_bound_step : (y : TypeBoundLayer (claimed a area n)) → OfBound a area n (roll-TypeBound (map_type_bound bare y))
  type_bound_step y p = let x = map_type_bound bare y in as_made
      (λ b. (λ j. opened_type_bound b (entering b n) (roll-TypeBound x) j p)
      ∙ (λ j. of_types.type_bound_step b (itself (entering b n)) (mapped_type_bound b (entering b n) (out-roll-TypeBound x j)) p))
      (rolled_type_bound nodes node_steps x) (λ j. rolled_type_bound asking (asked_of a n) x j p) (bound_by a area n below y p)

  type_step : (y : Type_Layer (claimed a area n)) → OfType a area n (roll-Type_ (map_type bare y))
  type_step y p = let x = map_type bare y in as_made
      (λ b. (λ j. opened_type b (entering b n) (roll-Type_ x) j p)
      ∙ (λ j. let z = out-roll-Type_ x j in read.fold_type_kind b (entering b n) z.kind (ptr z.id z.range) p))
      (rolled_type nodes node_steps x) (λ j. rolled_type asking (asked_of a n) x j p) (y.kind.1 (ptr y.id y.range) p)

  steps : Steps (claims a area n)
  steps = record {
    else_branch = else_branch_step;
    expr_kind = expr_kind_step;
    stmt_kind = stmt_kind_step;
    pat_kind = pat_kind_step;
    generic_arg = generic_arg_step;
    type_kind = type_kind_step;
    block = block_step;
    expr = expr_step;
    path = path_step;
    segment = segment_step;
    field = field_step;
    field_list = field_list_step;
    stmt = stmt_step;
    arm = arm_step;
    call = λ y. tt;
    pat = pat_step;
    pat_field = pat_field_step;
    assoc_type_arg = assoc_type_arg_step;
    param = param_step;
    path_type = path_type_step;
    type_bound = type_bound_step;
    type = type_step;
  }

  pub of_expr : (x : AstExpr) → OfExpr a area n x
  of_expr = each_expr (claims a area n) steps

  pub of_stmt : (x : AstStmt) → OfStmt a area n x
  of_stmt = each_stmt (claims a area n) steps

  pub of_pat : (x : AstPat) → OfPat a area n x
  of_pat = each_pat (claims a area n) steps

  pub of_type : (x : AstType_) → OfType a area n x
  of_type = each_type (claims a area n) steps

  pub of_path : (x : AstPath) → OfPath a area n x
  of_path = each_path (claims a area n) steps

  pub of_segment : (x : AstPathSegment) → OfSegment a area n x
  of_segment = each_segment (claims a area n) steps

  pub of_bound : (x : AstTypeBound) → OfBound a area n x
  of_bound = each_type_bound (claims a area n) steps

  all_by_list : AllByList a area n
  all_by_list = record { expr = of_expr; stmt = of_stmt; pat = of_pat; type_ = of_type }

pub below : (a : Answers) (area : NodeArea a) (n : ℕ) → Below a area n
below a area zero = tt
below a area (suc n) = all_by_list a area n (below a area n)
