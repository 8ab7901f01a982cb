-- What is read of a tree is what the rules allow: by induction, a line for each sort.
use Rattle.std.proofs.Common.{◌≡◌, ◌∙◌, refl, sym, subst, ℕ, zero, suc, true}
use mathlib.Core.Path.{subst₂}
use Rattle.hir_syntax.specs.declared.ast.ElseBranch.TheFolds as folds
use Rattle.hir_syntax.specs.declared.ast.ElseBranch.{roll-ElseBranch, out-roll-ElseBranch}
use Rattle.hir_syntax.specs.declared.ast.ExprKind.{out-ExprKind, roll-ExprKind, out-roll-ExprKind}
use Rattle.hir_syntax.specs.declared.ast.StmtKind.{out-StmtKind, roll-StmtKind, out-roll-StmtKind}
use Rattle.hir_syntax.specs.declared.ast.BlockExpr.{BlockExpr as AstBlockExpr, out-BlockExpr, roll-BlockExpr, out-roll-BlockExpr}
use Rattle.hir_syntax.specs.declared.ast.Expr.{Expr as AstExpr, roll-Expr, out-roll-Expr}
use Rattle.hir_syntax.specs.declared.ast.RecordExprField.{roll-RecordExprField, out-roll-RecordExprField}
use Rattle.hir_syntax.specs.declared.ast.RecordExprFieldList.{roll-RecordExprFieldList, out-roll-RecordExprFieldList}
use Rattle.hir_syntax.specs.declared.ast.Stmt.{Stmt as AstStmt, roll-Stmt, out-roll-Stmt}
use Rattle.hir_syntax.specs.declared.branches.MatchArm.{roll-MatchArm, out-roll-MatchArm}
use Rattle.hir_syntax.specs.declared.pats.RecordPatField.{roll-RecordPatField, out-roll-RecordPatField}
use Rattle.hir_syntax.specs.declared.pats.PatKind.{out-PatKind, roll-PatKind, out-roll-PatKind}
use Rattle.hir_syntax.specs.declared.types.GenericArg.{roll-GenericArg, out-roll-GenericArg}
use Rattle.hir_syntax.specs.declared.types.TypeKind.{roll-TypeKind, out-TypeKind, out-roll-TypeKind}
use Rattle.hir_syntax.specs.declared.ast.Path.{Path as AstPath, roll-Path, out-roll-Path}
use Rattle.hir_syntax.specs.declared.ast.PathSegment.{roll-PathSegment, out-roll-PathSegment}
use Rattle.hir_syntax.specs.declared.pats.Pat.{Pat as AstPat, roll-Pat, out-roll-Pat}
use Rattle.hir_syntax.specs.declared.types.AssocTypeArg.{roll-AssocTypeArg, out-roll-AssocTypeArg}
use Rattle.hir_syntax.specs.declared.types.Param.{Param as AstParam, out-Param, roll-Param, out-roll-Param}
use Rattle.hir_syntax.specs.declared.types.PathType.{roll-PathType, out-roll-PathType}
use Rattle.hir_syntax.specs.declared.types.TypeBound.{TypeBound as AstTypeBound, roll-TypeBound, out-roll-TypeBound}
use Rattle.hir_syntax.specs.declared.types.Type_.{Type_ as AstType_, roll-Type_, out-roll-Type_}
use Rattle.hir_env.specs.Answers.{Answers}
use Rattle.hir_env.specs.Folds.{entering, fold_expr_kind, fold_type, fold_pat, fold_pat_kind, fold_stmt_kind, fold_type_kind}
use Rattle.hir_env.specs.Answering as of_exprs
use Rattle.hir_env.specs.Layers.{ElseBranchLayer, ExprKindLayer, StmtKindLayer, BlockExprLayer, ExprLayer, StmtLayer, RecordExprFieldLayer}
use Rattle.hir_env.specs.Layers.{RecordExprFieldListLayer, MatchArmLayer}
use Rattle.std.proofs.Common.{List, ◌∷◌, Some, Result, Ok, Err}
use Rattle.hir_store.specs.Pointers.{Pointer}
use Rattle.hir_store.specs.declared.ids.CfgId.{CfgId}
use Rattle.hir_env.specs.ResolvedTree as tree
use Rattle.hir_env.specs.ResolvedTree.{OptionPat, OptionType, Params}
use Rattle.hir_env.specs.PatLayers.{RecordPatFieldLayer}
use Rattle.hir_env.proofs.Mapped.{mapped_arm, mapped_block, mapped_else, mapped_field, mapped_kind, mapped_pat_field, mapped_record}
use Rattle.hir_env.proofs.Mapped.{mapped_stmt_kind}
use Rattle.hir_env.proofs.Opened.{opened_arm, opened_block, opened_else_branch, opened_expr, opened_expr_kind, opened_field}
use Rattle.hir_env.proofs.Opened.{opened_pat_field, opened_record, opened_stmt, opened_stmt_kind}
use Rattle.hir_env.specs.Layers.{itself, written}
use Rattle.hir_env.specs.Paths as of
use Rattle.hir_env.specs.Paths.{pat_or_none}
use Rattle.hir_env.proofs.Mapped.{beside, optional}
use Rattle.hir_env.specs.Pats as of_pats
use Rattle.hir_env.specs.PatLayers.{PatKindLayer, PatLayer}
use Rattle.hir_env.specs.ResolveCtx.{in_file, ptr}
use Rattle.hir_env.specs.TypeLayers.{GenericArgLayer, TypeKindLayer, PathLayer, PathSegmentLayer, AssocTypeArgLayer}
use Rattle.hir_env.specs.TypeLayers.{ParamLayer, PathTypeLayer, TypeBoundLayer, Type_Layer}
use Rattle.hir_env.specs.declared.ctx.LowerCtx.{LowerCtx}
use Rattle.hir_env.proofs.Mapped.{mapped_pat_kind}
use Rattle.hir_env.proofs.Mapped.{mapped_generic_arg, mapped_type_kind, mapped_path, mapped_segment, mapped_assoc_type_arg, mapped_param}
use Rattle.hir_env.proofs.Mapped.{mapped_path_type, mapped_type_bound}
use Rattle.hir_env.proofs.Opened.{opened_pat_kind, opened_pat}
use Rattle.hir_env.proofs.OpenedTypes.{opened_generic_arg, opened_type_kind, opened_path, opened_segment, opened_assoc_type_arg}
use Rattle.hir_env.proofs.OpenedTypes.{opened_param, opened_path_type, opened_type_bound, opened_type}
use Rattle.thm_reading.specs.Rules as rule
use Rattle.thm_reading.specs.Rules.{ArmAs, ElseKindAs, ExprAs, FieldAs, ForBodyAs, OptPatAs, OptTypeAs, OwnAs, ParamsAs, PatFieldAs}
use Rattle.thm_reading.specs.Rules.{PlainAs}
use Rattle.thm_reading.specs.Rules.{StmtAs, ValueAs}
use Rattle.thm_reading.specs.Rules.{ArgAs, BindingAs, BoundAs, PathAs, PatKindAs, SegmentAs, TypeKindAs, UseTreeAs}
use Rattle.thm_reading.specs.LowerCtx.{node, site}
use Rattle.thm_reading.proofs.Bare.{bare_arm, bare_block, bare_else, bare_expr, bare_field, bare_kind, bare_pat_field, bare_record}
use Rattle.thm_reading.proofs.Bare.{bare_stmt, bare_stmt_kind}
use Rattle.thm_reading.proofs.Bare.{bare_pat_kind, bare_generic_arg, bare_type_kind}
use Rattle.thm_reading.proofs.Bare.{bare_path, bare_segment, bare_pat, bare_assoc_type_arg, bare_param, bare_path_type, bare_type_bound}
use Rattle.thm_reading.proofs.Bare.{bare_type}
use Rattle.thm_reading.proofs.Motives.{OfArm, OfBlock, OfCall, OfElse, OfExpr, OfField, OfKind, OfPatField, OfRecord, OfStmt, OfStmtKind}
use Rattle.thm_reading.proofs.Motives.{OfPatKind, OfArg, OfTypeKind, OfPath, OfSegment, OfPat, OfAssocArg, OfParam, OfPathType, OfBound}
use Rattle.thm_reading.proofs.Motives.{OfType}
use Rattle.thm_reading.proofs.Motives.{AllByRules, Below, at, claimed}
use Rattle.thm_reading.proofs.Parts.{fields_part, pat_part, path_part, spread_part, type_part}
use Rattle.thm_reading.proofs.PatForms.{pat_field_level, pat_kind_level}
use Rattle.thm_reading.proofs.ExprForms.{arm_level, else_level, field_level, kind_level, own_level, plain_level, stmt_level, value_level}
use Rattle.thm_reading.proofs.TypeForms.{type_kind_level, path_level, use_tree_level, segment_level, arg_level, assoc_arg_level}
use Rattle.thm_reading.proofs.TypeForms.{bound_level}

module _ (a : Answers) (n : ℕ) (below : Below a n) where
  type_kind_step : (x : TypeKindLayer written) (y : TypeKindLayer (claimed a n)) → bare_type_kind a n y ≡ x
      → OfTypeKind a n (roll-TypeKind x)
  type_kind_step x y is s p = let e = out-roll-TypeKind x ∙ sym is in
      subst₂ (TypeKindAs a (at n p) (in_file (at n p) s)) (sym e)
      (sym ((λ j. opened_type_kind a (entering a n) (roll-TypeKind x) j s (at n p))
      ∙ (λ j. of.type_kind_step a (itself (entering a n)) (mapped_type_kind a (entering a n) (e j)) s (at n p))))
      (type_kind_level a n below y s p)

  type_step : (x : Type_Layer written) (y : Type_Layer (claimed a n)) → bare_type a n y ≡ x → OfType a n (roll-Type_ x)
  type_step x y is p = let e = out-roll-Type_ x ∙ sym is in
      subst₂ (λ z w. TypeKindAs a (at n p) (node (at n p) z.id z.range) (out-TypeKind z.kind) w) (sym e)
      (sym ((λ j. opened_type a (entering a n) (roll-Type_ x) j (at n p))
      ∙ (λ j. let z = e j in fold_type_kind a (entering a n) z.kind (ptr z.id z.range) (at n p))))
      (y.kind.1 (ptr y.id y.range) p)

  path_step : (x : PathLayer written) (y : PathLayer (claimed a n)) → bare_path a n y ≡ x → OfPath a n (roll-Path x)
  path_step x y is = let e = out-roll-Path x ∙ sym is in
      let same = opened_path a (entering a n) (roll-Path x) ∙
      (λ j. of.path_reading a (itself (entering a n)) (mapped_path a (entering a n) (e j))) in
      record {
        alone = λ p. subst₂ (λ z w. PathAs a (at n p) z.in_macro z.leading z.segs z.use_ (w.alone (at n p))) (sym e) (sym same)
            (path_level a n below y p);
        use_tree = λ p. subst₂ (λ z w. UseTreeAs a (at n p) z.leading z.segs z.use_ (w.use_tree (at n p))) (sym e) (sym same)
            (use_tree_level a n below y p);
      }

  segment_step : (x : PathSegmentLayer written) (y : PathSegmentLayer (claimed a n)) → bare_segment a n y ≡ x
      → OfSegment a n (roll-PathSegment x)
  segment_step x y is p = let e = out-roll-PathSegment x ∙ sym is in
      subst₂ (λ s w. SegmentAs a (at n p) s.seg s.name s.generics s.parens s.ret s.rtn s.ty s.trait_ w) (sym e)
      (sym ((λ j. opened_segment a (entering a n) (roll-PathSegment x) j (at n p))
      ∙ (λ j. of.segment_step a (itself (entering a n)) (mapped_segment a (entering a n) (e j)) (at n p))))
      (segment_level a n below y p)

  generic_arg_step : (x : GenericArgLayer written) (y : GenericArgLayer (claimed a n)) → bare_generic_arg a n y ≡ x
      → OfArg a n (roll-GenericArg x)
  generic_arg_step x y is p = let e = out-roll-GenericArg x ∙ sym is in
      subst₂ (ArgAs a (at n p)) (sym e)
      (sym ((λ j. opened_generic_arg a (entering a n) (roll-GenericArg x) j (at n p))
      ∙ (λ j. of.generic_arg_step a (itself (entering a n)) (mapped_generic_arg a (entering a n) (e j)) (at n p))))
      (arg_level a n below y p)

  assoc_type_arg_step : (x : AssocTypeArgLayer written) (y : AssocTypeArgLayer (claimed a n)) → bare_assoc_type_arg a n y ≡ x
      → OfAssocArg a n (roll-AssocTypeArg x)
  assoc_type_arg_step x y is p = let e = out-roll-AssocTypeArg x ∙ sym is in
      subst₂ (λ b w. BindingAs a (at n p) b.params b.name b.generics b.rtn b.ty b.bounds w) (sym e)
      (sym ((λ j. opened_assoc_type_arg a (entering a n) (roll-AssocTypeArg x) j (at n p))
      ∙ (λ j. of.assoc_type_arg_step a (itself (entering a n)) (mapped_assoc_type_arg a (entering a n) (e j)) (at n p))))
      (assoc_arg_level a n below y p)

  type_bound_step : (x : TypeBoundLayer written) (y : TypeBoundLayer (claimed a n)) → bare_type_bound a n y ≡ x
      → OfBound a n (roll-TypeBound x)
  type_bound_step x y is p = let e = out-roll-TypeBound x ∙ sym is in
      subst₂ (λ b w. BoundAs a (at n p) b.b b.ty b.maybe b.binder b.lifetime b.uses w) (sym e)
      (sym ((λ j. opened_type_bound a (entering a n) (roll-TypeBound x) j (at n p))
      ∙ (λ j. of.type_bound_step a (itself (entering a n)) (mapped_type_bound a (entering a n) (e j)) (at n p))))
      (bound_level a n below y p)

  path_type_step : (x : PathTypeLayer written) (y : PathTypeLayer (claimed a n)) → bare_path_type a n y ≡ x
      → OfPathType a n (roll-PathType x)
  path_type_step x y is p = let e = out-roll-PathType x ∙ sym is in
      let same = (λ j. opened_path_type a (entering a n) (roll-PathType x) j (at n p))
      ∙ (λ j. of.path_type_step a (itself (entering a n)) (mapped_path_type a (entering a n) (e j)) (at n p)) in
      record {
        pointer = subst₂ (λ z w. w.pointer ≡ node (at n p) z.id z.range) (sym e) (sym same) refl;
        path = subst₂ (λ z w. rule.OptPathAs a (at n p) z.path w.path) (sym e) (sym same) (path_part a n y.path p);
      }

  param_by : (x : AstParam) (p : LowerCtx) (r : Result (Unit {0}) CfgId) → a.cfg (site (node p (out-Param x).id (out-Param x).range)) ≡ r
      → {s : Pointer} → node p (out-Param x).id (out-Param x).range ≡ s → {q : OptionPat} {t : OptionType}
      → OptPatAs a (at n p) (out-Param x).pat q → OptTypeAs a (at n p) (out-Param x).ty t → {xs : List AstParam} {ys : Params}
      → ParamsAs a (at n p) (Some xs) ys → ParamsAs a (at n p) (Some (x ∷ xs)) (tree.more_params (of.asked_param s r (tree.param q t)) ys)
  param_by x p (Ok u) is same hq ht h = rule.enabled_param is hq ht h
  param_by x p (Err by) is same {q = q} {t = t} hq ht {xs = xs} {ys = ys} h =
      subst (λ s. ParamsAs a (at n p) (Some (x ∷ xs)) (tree.more_params (tree.disabled_param s by (tree.param q t)) ys)) same
      (rule.disabled_param is hq ht h)

  param_step : (x : ParamLayer written) (y : ParamLayer (claimed a n)) → bare_param a n y ≡ x → OfParam a n (roll-Param x)
  param_step x y is p = let e = out-roll-Param x ∙ sym is in
      let t = of.type_or_none (λ y. y.1) (optional (beside (fold_type a (entering a n))) (optional (λ e. e.0) y.ty)) (at n p) in
      let q = pat_or_none (λ y. y.1) (optional (beside (fold_pat a (entering a n))) (optional (λ e. e.0) y.pat)) (at n p) in
      let same = (λ j. opened_param a (entering a n) (roll-Param x) j (at n p))
      ∙ (λ j. of.param_step a (itself (entering a n)) (mapped_param a (entering a n) (e j)) (at n p)) in
      record {
        variadic = subst₂ (λ z w. w.variadic ≡ z.variadic) (sym e) (sym same) refl;
        pat = q;
        name = λ j. (same j).name;
        pat_as = subst (λ z. rule.OptPatAs a (at n p) z.pat q) (sym e) (pat_part a n y.pat p);
        ty = subst₂ (λ z w. rule.OptTypeAs a (at n p) z.ty w.ty) (sym e) (sym same) (type_part a n y.ty p);
        own = λ xs ys h. subst (λ w. ParamsAs a (at n p) (Some (roll-Param x ∷ xs)) (tree.more_params w.own ys)) (sym same)
            (param_by (roll-Param x) p (a.cfg (site (node p y.id y.range)))
            (λ j. a.cfg (site (node p (e j).id (e j).range)))
            (λ j. node p (e j).id (e j).range)
            (subst (λ z. OptPatAs a (at n p) z.pat q) (sym e) (pat_part a n y.pat p))
            (subst (λ z. OptTypeAs a (at n p) z.ty t) (sym e) (type_part a n y.ty p)) h);
      }

  pat_kind_step : (x : PatKindLayer written) (y : PatKindLayer (claimed a n)) → bare_pat_kind a n y ≡ x → OfPatKind a n (roll-PatKind x)
  pat_kind_step x y is s p = let e = out-roll-PatKind x ∙ sym is in
      subst₂ (PatKindAs a (at n p) (in_file (at n p) s)) (sym e)
      (sym ((λ j. opened_pat_kind a (entering a n) (roll-PatKind x) j s (at n p))
      ∙ (λ j. of_pats.pat_kind_step a (itself (entering a n)) (mapped_pat_kind a (entering a n) (e j)) s (at n p))))
      (pat_kind_level a n below y s p)

  else_step : (x : ElseBranchLayer written) (y : ElseBranchLayer (claimed a n)) → bare_else a n y ≡ x → OfElse a n (roll-ElseBranch x)
  else_step x y is p = let e = out-roll-ElseBranch x ∙ sym is in
      subst₂ (ElseKindAs a (at n p)) (sym e)
      (sym ((λ j. opened_else_branch a (entering a n) (roll-ElseBranch x) j (at n p))
      ∙ (λ j. of_exprs.else_branch a (itself (entering a n)) (mapped_else a (entering a n) (e j)) (at n p))))
      (else_level a n below y p)

  stmt_kind_step : (x : StmtKindLayer written) (y : StmtKindLayer (claimed a n)) → bare_stmt_kind a n y ≡ x
      → OfStmtKind a n (roll-StmtKind x)
  stmt_kind_step x y is s p d = let e = out-roll-StmtKind x ∙ sym is in
      subst₂ (λ z w. StmtAs a (at n p) (in_file (at n p) s) z d w.stmts w.defined) (sym e)
      (sym ((λ j. opened_stmt_kind a (entering a n) (roll-StmtKind x) j s (at n p) d)
      ∙ (λ j. of_exprs.stmt_kind a (itself (entering a n)) (mapped_stmt_kind a (entering a n) (e j)) s (at n p) d)))
      (stmt_level a n below y s p d)

  field_step : (x : RecordExprFieldLayer written) (y : RecordExprFieldLayer (claimed a n)) → bare_field a n y ≡ x
      → OfField a n (roll-RecordExprField x)
  field_step x y is p = let e = out-roll-RecordExprField x ∙ sym is in
      subst₂ (λ z w. FieldAs a (at n p) (node (at n p) z.id z.range) z.name z.expr w) (sym e)
      (sym ((λ j. opened_field a (entering a n) (roll-RecordExprField x) j (at n p))
      ∙ (λ j. of_exprs.field_step a (itself (entering a n)) (mapped_field a (entering a n) (e j)) (at n p))))
      (field_level a n below y p)

  arm_step : (x : MatchArmLayer written) (y : MatchArmLayer (claimed a n)) → bare_arm a n y ≡ x → OfArm a n (roll-MatchArm x)
  arm_step x y is p = let e = out-roll-MatchArm x ∙ sym is in
      subst₂ (λ z w. ArmAs a (at n p) (node (at n p) z.id z.range) z.pat z.guard z.expr w) (sym e)
      (sym ((λ j. opened_arm a (entering a n) (roll-MatchArm x) j (at n p))
      ∙ (λ j. of_exprs.arm_step a (itself (entering a n)) (mapped_arm a (entering a n) (e j)) (at n p))))
      (arm_level a n below y p)

  pat_field_step : (x : RecordPatFieldLayer written) (y : RecordPatFieldLayer (claimed a n)) → bare_pat_field a n y ≡ x
      → OfPatField a n (roll-RecordPatField x)
  pat_field_step x y is p = let e = out-roll-RecordPatField x ∙ sym is in
      subst₂ (λ z w. PatFieldAs a (at n p) (node (at n p) z.id z.range) z.name z.pat w) (sym e)
      (sym ((λ j. opened_pat_field a (entering a n) (roll-RecordPatField x) j (at n p))
      ∙ (λ j. of_pats.pat_field_step a (itself (entering a n)) (mapped_pat_field a (entering a n) (e j)) (at n p))))
      (pat_field_level a n below y p)

  pat_step : (x : PatLayer written) (y : PatLayer (claimed a n)) → bare_pat a n y ≡ x → OfPat a n (roll-Pat x)
  pat_step x y is p = let e = out-roll-Pat x ∙ sym is in
      subst₂ (λ z w. PatKindAs a (at n p) (node (at n p) z.id z.range) (out-PatKind z.kind) w) (sym e)
      (sym ((λ j. opened_pat a (entering a n) (roll-Pat x) j (at n p))
      ∙ (λ j. let z = e j in fold_pat_kind a (entering a n) z.kind (ptr z.id z.range) (at n p))))
      (y.kind.1 (ptr y.id y.range) p)

  stmt_step : (x : StmtLayer written) (y : StmtLayer (claimed a n)) → bare_stmt a n y ≡ x → OfStmt a n (roll-Stmt x)
  stmt_step x y is p d = let e = out-roll-Stmt x ∙ sym is in
      subst₂ (λ z w. StmtAs a (at n p) (node (at n p) z.id z.range) (out-StmtKind z.kind) d w.stmts w.defined) (sym e)
      (sym ((λ j. opened_stmt a (entering a n) (roll-Stmt x) j (at n p) d)
      ∙ (λ j. let z = e j in fold_stmt_kind a (entering a n) z.kind (ptr z.id z.range) (at n p) d)))
      (y.kind.1 (ptr y.id y.range) p d)

  kind_step : (x : ExprKindLayer written) (y : ExprKindLayer (claimed a n)) → bare_kind a n y ≡ x → OfKind a n (roll-ExprKind x)
  kind_step x y is = let e = out-roll-ExprKind x ∙ sym is in
      let same = opened_expr_kind a (entering a n) (roll-ExprKind x) ∙
      (λ j. of_exprs.kind_step a (itself (entering a n)) (mapped_kind a (entering a n) (e j))) in
      record {
        expr = λ s p. subst₂ (λ z w. ExprAs a (at n p) (in_file (at n p) s) z (w.expr s (at n p))) (sym e) (sym same)
            (kind_level a n below y s p);
        value = λ s p d. subst₂ (λ z w. let r = w.value s (at n p) d in
            ValueAs a (at n p) (in_file (at n p) s) z d r.stmts r.last r.defined) (sym e) (sym same) (value_level a n below y s p d);
      }

  expr_step : (x : ExprLayer written) (y : ExprLayer (claimed a n)) → bare_expr a n y ≡ x → OfExpr a n (roll-Expr x)
  expr_step x y is = let e = out-roll-Expr x ∙ sym is in record {
    expr = λ p. subst₂ (λ z w. ExprAs a (at n p) (node (at n p) z.id z.range) (out-ExprKind z.kind) w) (sym e)
        (sym ((λ j. (opened_expr a (entering a n) (roll-Expr x) j).expr (at n p))
        ∙ (λ j. let z = e j in (fold_expr_kind a (entering a n) z.kind).expr (ptr z.id z.range) (at n p))))
        (y.kind.1.expr (ptr y.id y.range) p);
    value = λ p d. subst₂ (λ z r. ValueAs a (at n p) (node (at n p) z.id z.range) (out-ExprKind z.kind) d r.stmts r.last r.defined) (sym e)
        (sym ((λ j. (opened_expr a (entering a n) (roll-Expr x) j).value (at n p) d)
        ∙ (λ j. let z = e j in (fold_expr_kind a (entering a n) z.kind).value (ptr z.id z.range) (at n p) d)))
        (y.kind.1.value (ptr y.id y.range) p d);
  }

  body_by : (x : AstBlockExpr) (p : LowerCtx) (r : Result (Unit {0}) CfgId)
      → a.cfg (site (node p (out-BlockExpr x).id (out-BlockExpr x).range)) ≡ r
      → {s : Pointer} → node p (out-BlockExpr x).id (out-BlockExpr x).range ≡ s → {z : tree.Expr}
      → OwnAs a (at n p) (out-BlockExpr x).mod_ (out-BlockExpr x) z → ForBodyAs a (at n p) (Some x) (tree.some_expr (of_exprs.asked s r z))
  body_by x p (Ok u) is same h = rule.enabled_body is h
  body_by x p (Err by) is same {z = z} h =
      subst (λ s. ForBodyAs a (at n p) (Some x) (tree.some_expr (of_exprs.asked s (Err by) z))) same (rule.disabled_body is h)

  block_step : (x : BlockExprLayer written) (y : BlockExprLayer (claimed a n)) → bare_block a n y ≡ x → OfBlock a n (roll-BlockExpr x)
  block_step x y is = let e = out-roll-BlockExpr x ∙ sym is in
      let same = opened_block a (entering a n) (roll-BlockExpr x) ∙
      (λ j. of_exprs.block_step a (itself (entering a n)) (mapped_block a (entering a n) (e j))) in
      record {
        plain = λ p. subst₂ (λ z w. PlainAs a (at n p) z (w.plain (at n p))) (sym e) (sym same) (plain_level a n below y p);
        own = λ p. subst₂ (λ z w. OwnAs a (at n p) z.mod_ z (w.own (at n p))) (sym e) (sym same) (own_level a n below y p);
        asked = λ p. subst (λ w. ForBodyAs a (at n p) (Some (roll-BlockExpr x)) (tree.some_expr (w.asked (at n p)))) (sym same)
            (body_by (roll-BlockExpr x) p (a.cfg (site (node p y.id y.range))) (λ j. a.cfg (site (node p (e j).id (e j).range)))
            (λ j. node p (e j).id (e j).range) (subst (λ z. OwnAs a (at n p) z.mod_ z
            ((of_exprs.block_step a (itself (entering a n)) (mapped_block a (entering a n) (bare_block a n y))).own (at n p)))
            (sym e) (own_level a n below y p)));
      }

  record_step : (x : RecordExprFieldListLayer written) (y : RecordExprFieldListLayer (claimed a n)) → bare_record a n y ≡ x
      → OfRecord a n (roll-RecordExprFieldList x)
  record_step x y is p = let e = out-roll-RecordExprFieldList x ∙ sym is in
      let same = (λ j. opened_record a (entering a n) (roll-RecordExprFieldList x) j (at n p))
      ∙ (λ j. of_exprs.record_step a (itself (entering a n)) (mapped_record a (entering a n) (e j)) (at n p)) in
      record {
        head = subst₂ (λ z w. w.head ≡ record { has_list = true; has_dots = z.dotdot }) (sym e) (sym same) refl;
        fields = subst₂ (λ z w. rule.FieldsAs a (at n p) z.fields w.fields) (sym e) (sym same) (fields_part a n y.fields p);
        spread = subst₂ (λ z w. rule.SpreadAs a (at n p) z.spread z.dotdot w.spread) (sym e) (sym same)
            (spread_part a n y.spread y.dotdot p);
      }

  pub of_expr : (x : AstExpr) → OfExpr a n x
  of_expr = folds.ind-Expr
      (OfElse a n) (OfKind a n) (OfStmtKind a n) (OfPatKind a n) (OfArg a n) (OfTypeKind a n) (OfBlock a n) (OfExpr a n) (OfPath a n)
      (OfSegment a n) (OfField a n) (OfRecord a n) (OfStmt a n) (OfArm a n) (OfCall a n) (OfPat a n) (OfPatField a n) (OfAssocArg a n)
      (OfParam a n) (OfPathType a n) (OfBound a n) (OfType a n)
      else_step kind_step stmt_kind_step pat_kind_step generic_arg_step type_kind_step block_step expr_step path_step segment_step
      field_step record_step stmt_step arm_step (λ x y is. tt) pat_step pat_field_step assoc_type_arg_step param_step path_type_step
      type_bound_step type_step

  pub of_stmt : (x : AstStmt) → OfStmt a n x
  of_stmt = folds.ind-Stmt
      (OfElse a n) (OfKind a n) (OfStmtKind a n) (OfPatKind a n) (OfArg a n) (OfTypeKind a n) (OfBlock a n) (OfExpr a n) (OfPath a n)
      (OfSegment a n) (OfField a n) (OfRecord a n) (OfStmt a n) (OfArm a n) (OfCall a n) (OfPat a n) (OfPatField a n) (OfAssocArg a n)
      (OfParam a n) (OfPathType a n) (OfBound a n) (OfType a n)
      else_step kind_step stmt_kind_step pat_kind_step generic_arg_step type_kind_step block_step expr_step path_step segment_step
      field_step record_step stmt_step arm_step (λ x y is. tt) pat_step pat_field_step assoc_type_arg_step param_step path_type_step
      type_bound_step type_step

  pub of_pat : (x : AstPat) → OfPat a n x
  of_pat = folds.ind-Pat
      (OfElse a n) (OfKind a n) (OfStmtKind a n) (OfPatKind a n) (OfArg a n) (OfTypeKind a n) (OfBlock a n) (OfExpr a n) (OfPath a n)
      (OfSegment a n) (OfField a n) (OfRecord a n) (OfStmt a n) (OfArm a n) (OfCall a n) (OfPat a n) (OfPatField a n) (OfAssocArg a n)
      (OfParam a n) (OfPathType a n) (OfBound a n) (OfType a n)
      else_step kind_step stmt_kind_step pat_kind_step generic_arg_step type_kind_step block_step expr_step path_step segment_step
      field_step record_step stmt_step arm_step (λ x y is. tt) pat_step pat_field_step assoc_type_arg_step param_step path_type_step
      type_bound_step type_step

  pub of_type : (x : AstType_) → OfType a n x
  of_type = folds.ind-Type_
      (OfElse a n) (OfKind a n) (OfStmtKind a n) (OfPatKind a n) (OfArg a n) (OfTypeKind a n) (OfBlock a n) (OfExpr a n) (OfPath a n)
      (OfSegment a n) (OfField a n) (OfRecord a n) (OfStmt a n) (OfArm a n) (OfCall a n) (OfPat a n) (OfPatField a n) (OfAssocArg a n)
      (OfParam a n) (OfPathType a n) (OfBound a n) (OfType a n)
      else_step kind_step stmt_kind_step pat_kind_step generic_arg_step type_kind_step block_step expr_step path_step segment_step
      field_step record_step stmt_step arm_step (λ x y is. tt) pat_step pat_field_step assoc_type_arg_step param_step path_type_step
      type_bound_step type_step

  pub of_path : (x : AstPath) → OfPath a n x
  of_path = folds.ind-Path
      (OfElse a n) (OfKind a n) (OfStmtKind a n) (OfPatKind a n) (OfArg a n) (OfTypeKind a n) (OfBlock a n) (OfExpr a n) (OfPath a n)
      (OfSegment a n) (OfField a n) (OfRecord a n) (OfStmt a n) (OfArm a n) (OfCall a n) (OfPat a n) (OfPatField a n) (OfAssocArg a n)
      (OfParam a n) (OfPathType a n) (OfBound a n) (OfType a n)
      else_step kind_step stmt_kind_step pat_kind_step generic_arg_step type_kind_step block_step expr_step path_step segment_step
      field_step record_step stmt_step arm_step (λ x y is. tt) pat_step pat_field_step assoc_type_arg_step param_step path_type_step
      type_bound_step type_step

  pub of_bound : (x : AstTypeBound) → OfBound a n x
  of_bound = folds.ind-TypeBound
      (OfElse a n) (OfKind a n) (OfStmtKind a n) (OfPatKind a n) (OfArg a n) (OfTypeKind a n) (OfBlock a n) (OfExpr a n) (OfPath a n)
      (OfSegment a n) (OfField a n) (OfRecord a n) (OfStmt a n) (OfArm a n) (OfCall a n) (OfPat a n) (OfPatField a n) (OfAssocArg a n)
      (OfParam a n) (OfPathType a n) (OfBound a n) (OfType a n)
      else_step kind_step stmt_kind_step pat_kind_step generic_arg_step type_kind_step block_step expr_step path_step segment_step
      field_step record_step stmt_step arm_step (λ x y is. tt) pat_step pat_field_step assoc_type_arg_step param_step path_type_step
      type_bound_step type_step

  all_by_rules : AllByRules a n
  all_by_rules = record { expr = of_expr; stmt = of_stmt; pat = of_pat; type_ = of_type }

pub below : (a : Answers) (n : ℕ) → Below a n
below a zero = tt
below a (suc n) = all_by_rules a n (below a n)
