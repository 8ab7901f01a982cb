-- What the rules allow by the answers of one environment they allow by those of another one, where all that is asked is answered alike.
use Rattle.std.proofs.Common.{◌∙◌, sym, subst, List, ◌∷◌, Bool, true, false, Option, Some, None}
use Rattle.std.specs.Prelude.{is_some}
use Rattle.hir_syntax.specs.declared.ast.Expr.{Expr as AstExpr}
use Rattle.hir_syntax.specs.declared.ast.Lifetime.{Lifetime as AstLifetime}
use Rattle.hir_syntax.specs.declared.ast.Name.{Name as AstName}
use Rattle.hir_syntax.specs.declared.ast.Path.{Path as AstPath}
use Rattle.hir_syntax.specs.declared.ast.PathSegment.{PathSegment as AstPathSegment}
use Rattle.hir_syntax.specs.declared.ast.SegmentKind.{SegmentKind}
use Rattle.hir_syntax.specs.declared.pats.Pat.{Pat as AstPat}
use Rattle.hir_syntax.specs.declared.pats.RecordPatField.{RecordPatField as AstRecordPatField}
use Rattle.hir_syntax.specs.declared.types.BoundKind.{BoundKind}
use Rattle.hir_syntax.specs.declared.types.ForBinder.{ForBinder as AstForBinder}
use Rattle.hir_syntax.specs.declared.types.GenericArg.{GenericArg as AstGenericArg}
use Rattle.hir_syntax.specs.declared.types.Param.{Param as AstParam}
use Rattle.hir_syntax.specs.declared.types.PathType.{PathType as AstPathType}
use Rattle.hir_syntax.specs.declared.types.Type_.{Type_ as AstType_}
use Rattle.hir_syntax.specs.declared.types.TypeBound.{TypeBound as AstTypeBound}
use Rattle.hir_syntax.specs.declared.types.UseArg.{UseArg as AstUseArg}
use Rattle.hir_syntax.specs.declared.ast.BlockExpr.{BlockExpr as AstBlockExpr}
use Rattle.hir_syntax.specs.declared.ast.BlockModifier.{BlockModifier}
use Rattle.hir_syntax.specs.declared.ast.ElseBranch.{ElseBranch as AstElseBranch}
use Rattle.hir_syntax.specs.declared.ast.RecordExprField.{RecordExprField as AstRecordExprField}
use Rattle.hir_syntax.specs.declared.ast.Stmt.{Stmt as AstStmt}
use Rattle.hir_syntax.specs.declared.branches.MatchArm.{MatchArm as AstMatchArm}
use Rattle.hir_store.specs.declared.ids.BlockId.{BlockId}
use Rattle.hir_env.specs.ResolvedTree.{Arm, Arms, Block, Exprs, Field, Fields, Guard, OptionBlock, Params, Spread, Stmts, Arg, Args, Bound}
use Rattle.hir_env.specs.ResolvedTree.{Bounds, Constant, Expr, OptionArgs, OptionExpr, OptionParens, OptionPat, OptionPath, OptionType}
use Rattle.hir_env.specs.ResolvedTree.{Parts}
use Rattle.hir_env.specs.ResolvedTree.{Pat, PatField, PatFields, Pats, Path, Segment, Segments, Type_}
use Rattle.hir_env.specs.Answers.{Expanding}
use Rattle.hir_env.specs.Layers.{BlockExprLayer, Defined, ElseBranchLayer, ExprKindLayer, StmtKindLayer, written}
use Rattle.hir_env.specs.Wrapped.{AstGuard, AstLetElse, AstConstArg, AstRetType, AstTypeArg, AstParenArgs, AstGenericArgList}
use Rattle.hir_store.specs.Pointers.{Pointer}
use Rattle.hir_store.specs.declared.name.Name.{Name}
use Rattle.hir_env.specs.PatLayers.{PatKindLayer}
use Rattle.hir_env.specs.TypeLayers.{GenericArgLayer, TypeKindLayer}
use Rattle.hir_env.specs.declared.ctx.LowerCtx.{LowerCtx}
use Rattle.thm_reading.specs.Rules as rule
use Rattle.thm_reading.specs.Rules.{OptExprAs, LenAs, OptTypeAs, TypesAs, PartsAs, AnswerAs, FnParamsAs, TypeKindAs, OptPathAs, PathAs}
use Rattle.thm_reading.specs.Rules.{OptUseTreeAs, UseTreeAs, FirstAs, SegmentsAs, OptSegmentAs, SegmentAs, ParensAs, ArgListAs, ArgsAs}
use Rattle.thm_reading.specs.Rules.{ArgAs, BindingAs, BoundsAs, BoundAs, OptPatAs, PatsAs, PatKindAs, PatFieldsAs, PatFieldAs, PatPartAs}
use Rattle.thm_reading.specs.Rules.{ParamsAs, ExprAs, ExprsAs, OptExprsAs, ElseAs, ElseKindAs, OptPlainAs, ForBodyAs, ExprKindAs, FieldsAs}
use Rattle.thm_reading.specs.Rules.{FieldAs, FieldPartAs, SpreadAs, ArmsAs, ArmAs, GuardAs, OwnAs, PlainAs, InBlockAs, ContentsAs, StmtsAs}
use Rattle.thm_reading.specs.Rules.{TailAs, ValueAs, SpliceAs, StmtAs, LetElseAs}
use Rattle.hir_env.specs.Answers.{Answers}
use Rattle.hir_base.specs.declared.op.BinaryOp.TheVariants as op
use Rattle.hir_syntax.specs.declared.ast.BlockModifier.TheVariants as modifier
use Rattle.hir_syntax.specs.declared.ast.ElseBranch.TheOpen.{TypeKind-F, PatKind-F, ExprKind-F, StmtKind-F}
use Rattle.hir_syntax.specs.declared.ast.SegmentKind.TheVariants as kind
use Rattle.hir_store.specs.declared.name.Name.TheVariants as name
use Rattle.hir_env.specs.ResolvedTree as tree
use Rattle.hir_env.specs.Answering.{truth}
use Rattle.hir_env.specs.Calls.{times}
use Rattle.hir_env.specs.declared.expand.FragmentKind.TheVariants as fragments
use Rattle.thm_reading.specs.LowerCtx.{CallAs, call_node, its_expr, its_pat, its_type, node, within}
use Rattle.thm_enabled.specs.Whole.{whole_opt_expr, whole_len, whole_opt_type, whole_types, whole_parts, whole_answer, whole_fn_params}
use Rattle.thm_enabled.specs.Whole.{whole_type_kind, whole_opt_path, whole_path}
use Rattle.thm_enabled.specs.Whole.{whole_opt_use_tree, whole_use_tree, whole_first, whole_segments}
use Rattle.thm_enabled.specs.Whole.{whole_opt_segment, whole_segment, whole_parens, whole_arg_list, whole_args, whole_arg, whole_binding}
use Rattle.thm_enabled.specs.Whole.{whole_bounds, whole_bound, whole_opt_pat, whole_pats, whole_pat_kind, whole_pat_fields, whole_pat_field}
use Rattle.thm_enabled.specs.Whole.{whole_pat_part, whole_params, whole_expr, whole_exprs, whole_opt_exprs, whole_else, whole_else_kind}
use Rattle.thm_enabled.specs.Whole.{whole_opt_plain, whole_for_body, whole_expr_kind}
use Rattle.thm_enabled.specs.Whole.{whole_fields, whole_field, whole_field_part, whole_spread}
use Rattle.thm_enabled.specs.Whole.{whole_arms, whole_arm, whole_guard, whole_own, whole_plain, whole_in_block, whole_contents}
use Rattle.thm_enabled.specs.Whole.{whole_stmts, whole_tail, whole_value, whole_splice, whole_stmt, whole_let_else}
use Rattle.thm_enabled.specs.Own.{names}
use Rattle.thm_enabled.proofs.Agreed.{Agree}
use Rattle.thm_enabled.proofs.Same.{alias_same, call_same, def_same, for_same, jump_same, label_same, local_root_same, name_same}
use Rattle.thm_enabled.proofs.Same.{number_same}
use Rattle.thm_enabled.proofs.Same.{question_same, range_same, root_same, type_pat_same, value_same}
use Rattle.thm_enabled.proofs.Targets.{moved_target}

module _ (env other : Answers) where
  mutual
    pub kept_opt_expr : {a1 : LowerCtx} {a2 : Option AstExpr} {a3 : OptionExpr} → (h : OptExprAs env a1 a2 a3) → Agree env other
        (whole_opt_expr env h) → OptExprAs other a1 a2 a3
    kept_opt_expr rule.no_expr _ = rule.no_expr
    kept_opt_expr (rule.some_expr h1) g = rule.some_expr (kept_expr h1 g)

    kept_len : {a1 : LowerCtx} {a2 : Option AstConstArg} {a3 : Constant} → (h : LenAs env a1 a2 a3) → Agree env other (whole_len env h)
        → LenAs other a1 a2 a3
    kept_len rule.no_len _ = rule.no_len
    kept_len (rule.some_len h1) g = rule.some_len (kept_opt_expr h1 g)

    pub kept_opt_type : {a1 : LowerCtx} {a2 : Option AstType_} {a3 : OptionType} → (h : OptTypeAs env a1 a2 a3) → Agree env other
        (whole_opt_type env h) → OptTypeAs other a1 a2 a3
    kept_opt_type rule.no_type _ = rule.no_type
    kept_opt_type (rule.some_type h1) g = rule.some_type (kept_type_kind h1 g)

    kept_types : {a1 : LowerCtx} {a2 : List AstType_} {a3 : Parts} → (h : TypesAs env a1 a2 a3) → Agree env other (whole_types env h)
        → TypesAs other a1 a2 a3
    kept_types rule.no_types _ = rule.no_types
    kept_types (rule.more_types h1 h2) g = rule.more_types (kept_opt_type h1 g.0) (kept_types h2 g.1)

    kept_parts : {a1 : LowerCtx} {a2 : List AstTypeArg} {a3 : Parts} → (h : PartsAs env a1 a2 a3) → Agree env other (whole_parts env h)
        → PartsAs other a1 a2 a3
    kept_parts rule.no_parts _ = rule.no_parts
    kept_parts (rule.more_parts h1 h2) g = rule.more_parts (kept_opt_type h1 g.0) (kept_parts h2 g.1)

    pub kept_answer : {a1 : LowerCtx} {a2 : Option AstRetType} {a3 : OptionType} → (h : AnswerAs env a1 a2 a3) → Agree env other
        (whole_answer env h) → AnswerAs other a1 a2 a3
    kept_answer rule.no_answer _ = rule.no_answer
    kept_answer (rule.answer_type h1) g = rule.answer_type (kept_opt_type h1 g)

    kept_fn_params : {a1 : LowerCtx} {a2 : List AstParam} {a3 : List (Option Name)} {a4 : Parts} → (h : FnParamsAs env a1 a2 a3 a4)
        → Agree env other (whole_fn_params env h) → FnParamsAs other a1 a2 a3 a4
    kept_fn_params rule.no_params _ = rule.no_params
    kept_fn_params (rule.variadic_param h1 h2) g = rule.variadic_param h1 (kept_fn_params h2 g)
    kept_fn_params (rule.fn_param h1 h2 h3 h4) g = rule.fn_param h1 (kept_opt_pat h2 g.0) (kept_opt_type h3 g.1.0) (kept_fn_params h4 g.1.1)

    pub kept_type_kind : {a1 : LowerCtx} {a2 : Pointer} {a3 : TypeKindLayer written} {a4 : Type_} → (h : TypeKindAs env a1 a2 a3 a4)
        → Agree env other (whole_type_kind env h) → TypeKindAs other a1 a2 a3 a4
    kept_type_kind (rule.paren_type h1) g = rule.paren_type (kept_opt_type h1 g)
    kept_type_kind (rule.slice_type h1) g = rule.slice_type (kept_opt_type h1 g)
    kept_type_kind (rule.array_type h1 h2) g = rule.array_type (kept_opt_type h1 g.0) (kept_len h2 g.1)
    kept_type_kind (rule.tuple_type h1) g = rule.tuple_type (kept_types h1 g)
    kept_type_kind (rule.path_type h1) g = rule.path_type (kept_opt_path h1 g)
    kept_type_kind (rule.ptr_type h1) g = rule.ptr_type (kept_opt_type h1 g)
    kept_type_kind (rule.ref_type h1) g = rule.ref_type (kept_opt_type h1 g)
    kept_type_kind (rule.fn_type h1 h2) g = rule.fn_type (kept_fn_params h1 g.0) (kept_answer h2 g.1)
    kept_type_kind (rule.fn_without_list h1) g = rule.fn_without_list (kept_answer h1 g)
    kept_type_kind (rule.for_type h1) g = rule.for_type (kept_opt_type h1 g)
    kept_type_kind (rule.impl_type h1 h2) g = rule.impl_type h1 (kept_bounds h2 g)
    kept_type_kind (rule.impl_in_impl h1) _ = rule.impl_in_impl h1
    kept_type_kind (rule.dyn_type h1) g = rule.dyn_type (kept_bounds h1 g)
    kept_type_kind (rule.pattern_type {p = p} {s = s} {t = t} {q = q} {x = x} {y = y} h1 h2) g =
        subst (λ z. TypeKindAs other p s (TypeKind-F.PatternType t q) (tree.pattern_type s x y z)) (sym (type_pat_same env other y g.0))
        (rule.pattern_type (kept_opt_type h1 g.1.0) (kept_opt_pat h2 g.1.1))
    kept_type_kind rule.never_type _ = rule.never_type
    kept_type_kind rule.infer_type _ = rule.infer_type
    kept_type_kind rule.callless_type _ = rule.callless_type
    kept_type_kind (rule.called_type {p = p} {c = c} {y = y} {x = x} h1 h2) g =
        rule.called_type (subst (λ w. CallAs (call_node p c) w y) (call_same env other p c fragments.Type_ g.0) h1) (subst
        (λ w. OptTypeAs other (within w p) (its_type w) x) (call_same env other p c fragments.Type_ g.0) (kept_opt_type h2 g.1))

    pub kept_opt_path : {a1 : LowerCtx} {a2 : Option AstPath} {a3 : OptionPath} → (h : OptPathAs env a1 a2 a3) → Agree env other
        (whole_opt_path env h) → OptPathAs other a1 a2 a3
    kept_opt_path rule.no_path _ = rule.no_path
    kept_opt_path (rule.some_path h1) g = rule.some_path (kept_path h1 g)

    pub kept_path : {a1 : LowerCtx} {a2 a3 : Bool} {a4 : List (Option AstPathSegment)} {a5 : Option AstPath} {a6 : Path} →
        (h : PathAs env a1 a2 a3 a4 a5 a6) → Agree env other (whole_path env h) → PathAs other a1 a2 a3 a4 a5 a6
    kept_path (rule.path {p = p} {leading = leading} {f = f} {r = r} {u = u} h1 h2 h3 h4) g =
        rule.path h1 (kept_first h2 g.1.0) (kept_opt_use_tree h3 g.1.1) (h4 ∙ alias_same env other p p.lifetimes (names
        (tree.path None leading f r u)) g.0)
    kept_path (rule.broken_path {p = p} h1 h2) g =
        rule.broken_path h1 (h2 ∙ alias_same env other p p.lifetimes (names
        (tree.path None false tree.broken_segment tree.no_segments tree.no_path)) g)
    kept_path (rule.root_path {p = p} {leading = leading} {s = s} {f = f} {r = r} {u = u} h1 h2 h3 h4) g =
        rule.root_path h1 (kept_first h2 g.1) (h3 ∙ local_root_same env other p s (tree.path None leading f r tree.no_path) g.0.0)
        (h4 ∙ alias_same env other p p.lifetimes (names (tree.path None leading f r u)) g.0.1)

    kept_opt_use_tree : {a1 : LowerCtx} {a2 : Option AstPath} {a3 : OptionPath} → (h : OptUseTreeAs env a1 a2 a3) → Agree env other
        (whole_opt_use_tree env h) → OptUseTreeAs other a1 a2 a3
    kept_opt_use_tree rule.no_use_tree _ = rule.no_use_tree
    kept_opt_use_tree (rule.some_use_tree h1) g = rule.some_use_tree (kept_use_tree h1 g)

    pub kept_use_tree : {a1 : LowerCtx} {a2 : Bool} {a3 : List (Option AstPathSegment)} {a4 : Option AstPath} {a5 : Path} →
        (h : UseTreeAs env a1 a2 a3 a4 a5) → Agree env other (whole_use_tree env h) → UseTreeAs other a1 a2 a3 a4 a5
    kept_use_tree (rule.use_tree h1 h2) g = rule.use_tree (kept_first h1 g.0) (kept_opt_use_tree h2 g.1)

    kept_first : {a1 : LowerCtx} {a2 : List (Option AstPathSegment)} {a3 : Segment} {a4 : Segments} → (h : FirstAs env a1 a2 a3 a4)
        → Agree env other (whole_first env h) → FirstAs other a1 a2 a3 a4
    kept_first rule.none_first _ = rule.none_first
    kept_first (rule.some_first h1 h2) g = rule.some_first (kept_opt_segment h1 g.0) (kept_segments h2 g.1)

    kept_segments : {a1 : LowerCtx} {a2 : List (Option AstPathSegment)} {a3 : Segments} → (h : SegmentsAs env a1 a2 a3) → Agree env other
        (whole_segments env h) → SegmentsAs other a1 a2 a3
    kept_segments rule.no_segments _ = rule.no_segments
    kept_segments (rule.more_segments h1 h2) g = rule.more_segments (kept_opt_segment h1 g.0) (kept_segments h2 g.1)

    kept_opt_segment : {a1 : LowerCtx} {a2 : Option AstPathSegment} {a3 : Segment} → (h : OptSegmentAs env a1 a2 a3) → Agree env other
        (whole_opt_segment env h) → OptSegmentAs other a1 a2 a3
    kept_opt_segment rule.absent_segment _ = rule.absent_segment
    kept_opt_segment (rule.some_segment h1) g = rule.some_segment (kept_segment h1 g)

    kept_segment : {a1 : LowerCtx} {a2 : Option SegmentKind} {a3 : Option AstName} {a4 : Option AstGenericArgList}
        {a5 : Option AstParenArgs}
        {a6 : Option AstRetType} {a7 : Bool} {a8 : Option AstType_} {a9 : Option AstPathType} {a10 : Segment} →
        (h : SegmentAs env a1 a2 a3 a4 a5 a6 a7 a8 a9 a10) → Agree env other (whole_segment env h)
        → SegmentAs other a1 a2 a3 a4 a5 a6 a7 a8 a9 a10
    kept_segment rule.kindless _ = rule.kindless
    kept_segment rule.nameless _ = rule.nameless
    kept_segment (rule.named h1 h2 h3) g = rule.named h1 (kept_arg_list h2 g.0) (kept_parens h3 g.1)
    kept_segment (rule.dollar_crate {p = p} {n = n} {g = gs} {a = a} {r = r} {d = d} {t = t} {x = x} h1) g =
        subst (λ z. SegmentAs other p (Some kind.Name) (Some n) gs a r d t x (tree.dollar_crate_segment z)) (sym
        (root_same env other p n.id g)) (rule.dollar_crate h1)
    kept_segment rule.self _ = rule.self
    kept_segment rule.crate _ = rule.crate
    kept_segment rule.super _ = rule.super
    kept_segment rule.self_type _ = rule.self_type
    kept_segment rule.untyped _ = rule.untyped
    kept_segment (rule.of_type h1) g = rule.of_type (kept_opt_type h1 g)
    kept_segment (rule.of_trait h1 h2) g = rule.of_trait (kept_opt_type h1 g.0) (kept_opt_path h2 g.1)

    kept_parens : {a1 : LowerCtx} {a2 : Option AstParenArgs} {a3 : Option AstRetType} {a4 : OptionParens} → (h : ParensAs env a1 a2 a3 a4)
        → Agree env other (whole_parens env h) → ParensAs other a1 a2 a3 a4
    kept_parens rule.no_parens _ = rule.no_parens
    kept_parens (rule.without_answer h1) g = rule.without_answer (kept_parts h1 g)
    kept_parens (rule.with_answer h1 h2) g = rule.with_answer (kept_parts h1 g.0) (kept_opt_type h2 g.1)

    pub kept_arg_list : {a1 : LowerCtx} {a2 : Option AstGenericArgList} {a3 : OptionArgs} → (h : ArgListAs env a1 a2 a3) → Agree env other
        (whole_arg_list env h) → ArgListAs other a1 a2 a3
    kept_arg_list rule.no_list _ = rule.no_list
    kept_arg_list (rule.some_list h1) g = rule.some_list (kept_args h1 g)

    kept_args : {a1 : LowerCtx} {a2 : List AstGenericArg} {a3 : Args} → (h : ArgsAs env a1 a2 a3) → Agree env other (whole_args env h)
        → ArgsAs other a1 a2 a3
    kept_args rule.no_args _ = rule.no_args
    kept_args (rule.more_args h1 h2) g = rule.more_args (kept_arg h1 g.0) (kept_args h2 g.1)

    kept_arg : {a1 : LowerCtx} {a2 : GenericArgLayer written} {a3 : Arg} → (h : ArgAs env a1 a2 a3) → Agree env other (whole_arg env h)
        → ArgAs other a1 a2 a3
    kept_arg (rule.type_arg h1) g = rule.type_arg (kept_opt_type h1 g)
    kept_arg (rule.lifetime_arg h1) _ = rule.lifetime_arg h1
    kept_arg (rule.lacking_lifetime h1) _ = rule.lacking_lifetime h1
    kept_arg (rule.const_arg h1) g = rule.const_arg (kept_opt_expr h1 g)
    kept_arg (rule.assoc_arg h1) g = rule.assoc_arg (kept_binding h1 g)

    kept_binding : {a1 : LowerCtx} {a2 : Bool} {a3 : Option AstName} {a4 : Option AstGenericArgList} {a5 : Bool} {a6 : Option AstType_}
        {a7 : List AstTypeBound} {a8 : Arg} → (h : BindingAs env a1 a2 a3 a4 a5 a6 a7 a8) → Agree env other (whole_binding env h)
        → BindingAs other a1 a2 a3 a4 a5 a6 a7 a8
    kept_binding rule.with_list _ = rule.with_list
    kept_binding rule.unnamed _ = rule.unnamed
    kept_binding (rule.binding h1 h2 h3) g = rule.binding (kept_arg_list h1 g.0) (kept_opt_type h2 g.1.0) (kept_bounds h3 g.1.1)

    kept_bounds : {a1 : LowerCtx} {a2 : List AstTypeBound} {a3 : Bounds} → (h : BoundsAs env a1 a2 a3) → Agree env other
        (whole_bounds env h) → BoundsAs other a1 a2 a3
    kept_bounds rule.no_bounds _ = rule.no_bounds
    kept_bounds (rule.more_bounds h1 h2) g = rule.more_bounds (kept_bound h1 g.0) (kept_bounds h2 g.1)

    kept_bound : {a1 : LowerCtx} {a2 : Option BoundKind} {a3 : Option AstPathType} {a4 : Bool} {a5 : Option AstForBinder}
        {a6 : Option AstLifetime} {a7 : List AstUseArg} {a8 : Bound} → (h : BoundAs env a1 a2 a3 a4 a5 a6 a7 a8)
        → Agree env other (whole_bound env h) → BoundAs other a1 a2 a3 a4 a5 a6 a7 a8
    kept_bound (rule.path_bound h1) g = rule.path_bound (kept_opt_path h1 g)
    kept_bound rule.lifetime_bound _ = rule.lifetime_bound
    kept_bound rule.use_bound _ = rule.use_bound
    kept_bound rule.kindless_bound _ = rule.kindless_bound
    kept_bound rule.pathless_bound _ = rule.pathless_bound
    kept_bound rule.lacking_bound _ = rule.lacking_bound

    pub kept_opt_pat : {a1 : LowerCtx} {a2 : Option AstPat} {a3 : OptionPat} → (h : OptPatAs env a1 a2 a3) → Agree env other
        (whole_opt_pat env h) → OptPatAs other a1 a2 a3
    kept_opt_pat rule.no_pat _ = rule.no_pat
    kept_opt_pat (rule.some_pat h1) g = rule.some_pat (kept_pat_kind h1 g)

    kept_pats : {a1 : LowerCtx} {a2 : List AstPat} {a3 : Pats} → (h : PatsAs env a1 a2 a3) → Agree env other (whole_pats env h)
        → PatsAs other a1 a2 a3
    kept_pats rule.no_pats _ = rule.no_pats
    kept_pats (rule.more_pats h1 h2) g = rule.more_pats (kept_pat_kind h1 g.0) (kept_pats h2 g.1)

    pub kept_pat_kind : {a1 : LowerCtx} {a2 : Pointer} {a3 : PatKindLayer written} {a4 : Pat} → (h : PatKindAs env a1 a2 a3 a4)
        → Agree env other (whole_pat_kind env h) → PatKindAs other a1 a2 a3 a4
    kept_pat_kind (rule.value_pat {p = p} {n = n} h1 h2) g =
        rule.value_pat (sym (value_same env other p n g.0) ∙ h1) (h2 ∙ name_same env other p n false false g.1)
    kept_pat_kind (rule.plain_pat {p = p} {n = n} h1 h2) g =
        rule.plain_pat (sym (value_same env other p n g.0) ∙ h1) (h2 ∙ name_same env other p n false false g.1)
    kept_pat_kind (rule.ref_pat_of {p = p} {n = n} {m = m} h1 h2) g =
        rule.ref_pat_of (h1 ∙ name_same env other p n true m g.0) (kept_opt_pat h2 g.1)
    kept_pat_kind (rule.mut_pat {p = p} {n = n} h1 h2) g = rule.mut_pat (h1 ∙ name_same env other p n false true g.0) (kept_opt_pat h2 g.1)
    kept_pat_kind (rule.sub_pat {p = p} {n = n} h1 h2) g = rule.sub_pat (h1 ∙ name_same env other p n false false g.0) (kept_opt_pat h2 g.1)
    kept_pat_kind (rule.tuple_struct_pat h1 h2) g = rule.tuple_struct_pat (kept_opt_path h1 g.0) (kept_pats h2 g.1)
    kept_pat_kind (rule.tuple_pat h1) g = rule.tuple_pat (kept_pats h1 g)
    kept_pat_kind (rule.ref_pat h1) g = rule.ref_pat (kept_opt_pat h1 g)
    kept_pat_kind (rule.path_pat h1) g = rule.path_pat (kept_opt_path h1 g)
    kept_pat_kind (rule.or_pat h1) g = rule.or_pat (kept_pats h1 g)
    kept_pat_kind (rule.paren_pat h1) g = rule.paren_pat (kept_opt_pat h1 g)
    kept_pat_kind (rule.box_pat h1) g = rule.box_pat (kept_opt_pat h1 g)
    kept_pat_kind (rule.deref_pat h1) g = rule.deref_pat (kept_opt_pat h1 g)
    kept_pat_kind (rule.record_pat h1 h2) g = rule.record_pat (kept_opt_path h1 g.0) (kept_pat_fields h2 g.1)
    kept_pat_kind (rule.slice_pat h1 h2 h3) g = rule.slice_pat (kept_pats h1 g.0) (kept_opt_pat h2 g.1.0) (kept_pats h3 g.1.1)
    kept_pat_kind rule.lacking_literal _ = rule.lacking_literal
    kept_pat_kind (rule.literal_pat h1) _ = rule.literal_pat h1
    kept_pat_kind (rule.broken_literal h1) _ = rule.broken_literal h1
    kept_pat_kind (rule.range_pat h1 h2) g = rule.range_pat (kept_opt_pat h1 g.0) (kept_opt_pat h2 g.1)
    kept_pat_kind (rule.cfg_pat {p = p} {s = s} {c = c}) g =
        subst (λ z. PatKindAs other p s (PatKind-F.CfgPredPat c) (tree.literal_pat s None
        (record { minus = false; literal = truth z }))) (sym g) rule.cfg_pat
    kept_pat_kind rule.callless_pat _ = rule.callless_pat
    kept_pat_kind (rule.called_pat {p = p} {c = c} {y = y} {x = x} h1 h2) g =
        rule.called_pat (subst (λ w. CallAs (call_node p c) w y) (call_same env other p c fragments.Pat g.0) h1) (subst
        (λ w. OptPatAs other (within w p) (its_pat w) x) (call_same env other p c fragments.Pat g.0) (kept_opt_pat h2 g.1))
    kept_pat_kind rule.wild_pat _ = rule.wild_pat
    kept_pat_kind rule.rest_pat _ = rule.rest_pat
    kept_pat_kind rule.not_null_pat _ = rule.not_null_pat
    kept_pat_kind rule.const_block_pat _ = rule.const_block_pat

    kept_pat_fields : {a1 : LowerCtx} {a2 : List AstRecordPatField} {a3 : PatFields} → (h : PatFieldsAs env a1 a2 a3) → Agree env other
        (whole_pat_fields env h) → PatFieldsAs other a1 a2 a3
    kept_pat_fields rule.no_pat_fields _ = rule.no_pat_fields
    kept_pat_fields (rule.more_pat_fields h1 h2) g = rule.more_pat_fields (kept_pat_field h1 g.0) (kept_pat_fields h2 g.1)

    kept_pat_field : {a1 : LowerCtx} {a2 : Pointer} {a3 : Option AstName} {a4 : Option AstPat} {a5 : PatField} →
        (h : PatFieldAs env a1 a2 a3 a4 a5) → Agree env other (whole_pat_field env h) → PatFieldAs other a1 a2 a3 a4 a5
    kept_pat_field (rule.enabled_pat_field h1 h2) g = rule.enabled_pat_field (sym g.0 ∙ h1) (kept_pat_part h2 g.1)
    kept_pat_field (rule.disabled_pat_field h1 h2) g = rule.disabled_pat_field (sym g.0 ∙ h1) (kept_pat_part h2 g.1)

    kept_pat_part : {a1 : LowerCtx} {a2 : Pointer} {a3 : Option AstName} {a4 : Option AstPat} {a5 : PatField} →
        (h : PatPartAs env a1 a2 a3 a4 a5) → Agree env other (whole_pat_part env h) → PatPartAs other a1 a2 a3 a4 a5
    kept_pat_part rule.partless_pat_field _ = rule.partless_pat_field
    kept_pat_part (rule.pat_field h1) g = rule.pat_field (kept_pat_kind h1 g)

    kept_params : {a1 : LowerCtx} {a2 : Option (List AstParam)} {a3 : Params} → (h : ParamsAs env a1 a2 a3) → Agree env other
        (whole_params env h) → ParamsAs other a1 a2 a3
    kept_params rule.without_params _ = rule.without_params
    kept_params rule.last_param _ = rule.last_param
    kept_params (rule.enabled_param h1 h2 h3 h4) g =
        rule.enabled_param (sym g.0 ∙ h1) (kept_opt_pat h2 g.1.0) (kept_opt_type h3 g.1.1.0) (kept_params h4 g.1.1.1)
    kept_params (rule.disabled_param h1 h2 h3 h4) g =
        rule.disabled_param (sym g.0 ∙ h1) (kept_opt_pat h2 g.1.0) (kept_opt_type h3 g.1.1.0) (kept_params h4 g.1.1.1)

    pub kept_expr : {a1 : LowerCtx} {a2 : Pointer} {a3 : ExprKindLayer written} {a4 : Expr} → (h : ExprAs env a1 a2 a3 a4) → Agree env other
        (whole_expr env h) → ExprAs other a1 a2 a3 a4
    kept_expr (rule.enabled h1 h2) g = rule.enabled (sym g.0 ∙ h1) (kept_expr_kind h2 g.1)
    kept_expr (rule.disabled h1 h2) g = rule.disabled (sym g.0 ∙ h1) (kept_expr_kind h2 g.1)

    kept_exprs : {a1 : LowerCtx} {a2 : List AstExpr} {a3 : Exprs} → (h : ExprsAs env a1 a2 a3) → Agree env other (whole_exprs env h)
        → ExprsAs other a1 a2 a3
    kept_exprs rule.no_exprs _ = rule.no_exprs
    kept_exprs (rule.more_exprs h1 h2) g = rule.more_exprs (kept_expr h1 g.0) (kept_exprs h2 g.1)

    kept_opt_exprs : {a1 : LowerCtx} {a2 : Option (List AstExpr)} {a3 : Exprs} → (h : OptExprsAs env a1 a2 a3) → Agree env other
        (whole_opt_exprs env h) → OptExprsAs other a1 a2 a3
    kept_opt_exprs rule.without_exprs _ = rule.without_exprs
    kept_opt_exprs (rule.with_exprs h1) g = rule.with_exprs (kept_exprs h1 g)

    kept_else : {a1 : LowerCtx} {a2 : Option AstElseBranch} {a3 : OptionExpr} → (h : ElseAs env a1 a2 a3) → Agree env other
        (whole_else env h) → ElseAs other a1 a2 a3
    kept_else rule.no_else _ = rule.no_else
    kept_else (rule.some_else h1) g = rule.some_else (kept_else_kind h1 g)

    kept_else_kind : {a1 : LowerCtx} {a2 : ElseBranchLayer written} {a3 : Expr} → (h : ElseKindAs env a1 a2 a3) → Agree env other
        (whole_else_kind env h) → ElseKindAs other a1 a2 a3
    kept_else_kind (rule.else_block h1) g = rule.else_block (kept_plain h1 g)
    kept_else_kind (rule.else_if h1) g = rule.else_if (kept_expr h1 g)

    kept_opt_plain : {a1 : LowerCtx} {a2 : Option AstBlockExpr} {a3 : OptionBlock} → (h : OptPlainAs env a1 a2 a3) → Agree env other
        (whole_opt_plain env h) → OptPlainAs other a1 a2 a3
    kept_opt_plain rule.no_block _ = rule.no_block
    kept_opt_plain (rule.some_block h1) g = rule.some_block (kept_plain h1 g)

    kept_for_body : {a1 : LowerCtx} {a2 : Option AstBlockExpr} {a3 : OptionExpr} → (h : ForBodyAs env a1 a2 a3) → Agree env other
        (whole_for_body env h) → ForBodyAs other a1 a2 a3
    kept_for_body rule.no_body _ = rule.no_body
    kept_for_body (rule.enabled_body h1 h2) g = rule.enabled_body (sym g.0 ∙ h1) (kept_own h2 g.1)
    kept_for_body (rule.disabled_body h1 h2) g = rule.disabled_body (sym g.0 ∙ h1) (kept_own h2 g.1)

    kept_expr_kind : {a1 : LowerCtx} {a2 : Pointer} {a3 : ExprKindLayer written} {a4 : Expr} → (h : ExprKindAs env a1 a2 a3 a4)
        → Agree env other (whole_expr_kind env h) → ExprKindAs other a1 a2 a3 a4
    kept_expr_kind (rule.if_expr h1 h2 h3) g = rule.if_expr (kept_opt_expr h1 g.0) (kept_opt_plain h2 g.1.0) (kept_else h3 g.1.1)
    kept_expr_kind (rule.block_expr h1) g = rule.block_expr (kept_own h1 g)
    kept_expr_kind (rule.loop_expr {p = p} {l = l} h1 h2) g = rule.loop_expr (h1 ∙ label_same env other p l g.0) (kept_opt_plain h2 g.1)
    kept_expr_kind (rule.while_expr {p = p} {l = l} h1 h2 h3) g =
        rule.while_expr (h1 ∙ label_same env other p l g.0) (kept_opt_expr h2 g.1.0) (kept_opt_plain h3 g.1.1)
    kept_expr_kind (rule.for_expr {p = p} {l = l} h1 h2 h3 h4 h5) g =
        rule.for_expr (sym (for_same env other g.0.0) ∙ h1) (h2 ∙ label_same env other p l g.0.1) (kept_opt_pat h3 g.1.0)
        (kept_opt_expr h4 g.1.1.0) (kept_for_body h5 g.1.1.1)
    kept_expr_kind (rule.itemless_for h1) g = rule.itemless_for (sym (for_same env other g) ∙ h1)
    kept_expr_kind (rule.question_expr h1 h2) g = rule.question_expr (sym (question_same env other g.0) ∙ h1) (kept_opt_expr h2 g.1)
    kept_expr_kind (rule.itemless_question h1) g = rule.itemless_question (sym (question_same env other g) ∙ h1)
    kept_expr_kind (rule.call_expr h1 h2) g = rule.call_expr (kept_opt_expr h1 g.0) (kept_opt_exprs h2 g.1)
    kept_expr_kind (rule.path_expr {p = p} {s = s} {x = x} {y = y} h1) g =
        subst (λ z. ExprKindAs other p s (ExprKind-F.PathExpr x) (tree.path_expr s y z)) (sym g.0) (rule.path_expr (kept_opt_path h1 g.1))
    kept_expr_kind (rule.continue_expr {p = p} {s = s} {l = l}) g =
        subst (λ z. ExprKindAs other p s (ExprKind-F.ContinueExpr l) (tree.continue_expr s z)) (sym
        (jump_same env other p l g)) rule.continue_expr
    kept_expr_kind (rule.break_expr {p = p} {s = s} {l = l} {e = e} {x = x} h1) g =
        subst (λ z. ExprKindAs other p s (ExprKind-F.BreakExpr l e) (tree.break_expr s z x)) (sym (jump_same env other p l g.0))
        (rule.break_expr (kept_opt_expr h1 g.1))
    kept_expr_kind (rule.paren_expr h1) g = rule.paren_expr (kept_opt_expr h1 g)
    kept_expr_kind rule.literal_expr _ = rule.literal_expr
    kept_expr_kind (rule.method_call_expr h1 h2 h3) g =
        rule.method_call_expr (kept_opt_expr h1 g.0) (kept_opt_exprs h2 g.1.0) (kept_arg_list h3 g.1.1)
    kept_expr_kind (rule.field_expr h1) g = rule.field_expr (kept_opt_expr h1 g)
    kept_expr_kind (rule.prefix_expr h1) g = rule.prefix_expr (kept_opt_expr h1 g)
    kept_expr_kind (rule.nameless_expr h1) g = rule.nameless_expr (kept_opt_expr h1 g)
    kept_expr_kind (rule.logic_expr h1 h2) g = rule.logic_expr (kept_opt_expr h1 g.0) (kept_opt_expr h2 g.1)
    kept_expr_kind (rule.assign_expr {p = p} {x = x} {t = t} h1 h h2) g =
        rule.assign_expr (kept_opt_expr h1 g.1.0) (moved_target env other p x t g.0 h) (kept_opt_expr h2 g.1.1)
    kept_expr_kind (rule.operator_expr h1 h2 h3) g = rule.operator_expr h1 (kept_opt_expr h2 g.0) (kept_opt_expr h3 g.1)
    kept_expr_kind (rule.index_expr h1 h2) g = rule.index_expr (kept_opt_expr h1 g.0) (kept_opt_expr h2 g.1)
    kept_expr_kind (rule.ref_expr h1) g = rule.ref_expr (kept_opt_expr h1 g)
    kept_expr_kind (rule.tuple_expr h1) g = rule.tuple_expr (kept_exprs h1 g)
    kept_expr_kind (rule.array_expr h1) g = rule.array_expr (kept_exprs h1 g)
    kept_expr_kind (rule.repeat_expr h1 h2) g = rule.repeat_expr (kept_opt_expr h1 g.0) (kept_opt_expr h2 g.1)
    kept_expr_kind (rule.closure_expr h1 h2 h3) g = rule.closure_expr (kept_params h1 g.0) (kept_answer h2 g.1.0) (kept_opt_expr h3 g.1.1)
    kept_expr_kind (rule.gen_closure h1 h2 h3) g = rule.gen_closure (kept_params h1 g.0) (kept_answer h2 g.1.0) (kept_opt_expr h3 g.1.1)
    kept_expr_kind (rule.async_closure h1 h2 h3) g = rule.async_closure (kept_params h1 g.0) (kept_answer h2 g.1.0) (kept_opt_expr h3 g.1.1)
    kept_expr_kind (rule.async_gen_closure h1 h2 h3) g =
        rule.async_gen_closure (kept_params h1 g.0) (kept_answer h2 g.1.0) (kept_opt_expr h3 g.1.1)
    kept_expr_kind (rule.return_expr h1) g = rule.return_expr (kept_opt_expr h1 g)
    kept_expr_kind (rule.yeet_expr h1) g = rule.yeet_expr (kept_opt_expr h1 g)
    kept_expr_kind (rule.become_expr h1) g = rule.become_expr (kept_opt_expr h1 g)
    kept_expr_kind (rule.yield_expr h1) g = rule.yield_expr (kept_opt_expr h1 g)
    kept_expr_kind (rule.await_expr h1) g = rule.await_expr (kept_opt_expr h1 g)
    kept_expr_kind (rule.cast_expr h1 h2) g = rule.cast_expr (kept_opt_expr h1 g.0) (kept_opt_type h2 g.1)
    kept_expr_kind (rule.record_expr h1 h2 h3) g = rule.record_expr (kept_opt_path h1 g.0) (kept_fields h2 g.1.0) (kept_spread h3 g.1.1)
    kept_expr_kind (rule.record_without_list h1) g = rule.record_without_list (kept_opt_path h1 g)
    kept_expr_kind (rule.offset_of_expr h1) g = rule.offset_of_expr (kept_opt_type h1 g)
    kept_expr_kind (rule.cfg_expr {p = p} {s = s} {c = c}) g =
        subst (λ z. ExprKindAs other p s (ExprKind-F.CfgPredExpr c) (tree.literal_expr s (truth z))) (sym g) rule.cfg_expr
    kept_expr_kind (rule.let_expr h1 h2) g = rule.let_expr (kept_opt_pat h1 g.0) (kept_opt_expr h2 g.1)
    kept_expr_kind (rule.match_expr h1 h2) g = rule.match_expr (kept_opt_expr h1 g.0) (kept_arms h2 g.1)
    kept_expr_kind (rule.match_without_arms h1) g = rule.match_without_arms (kept_opt_expr h1 g)
    kept_expr_kind (rule.range_expr {p = p} {s = s} {o = o} {a = a} {b = b} {x = x} {y = y} h1 h2) g =
        subst (λ z. ExprKindAs other p s (ExprKind-F.RangeExpr o a b) (tree.range_expr s z x y)) (sym (range_same env other p o
        (is_some a) (is_some b) g.0)) (rule.range_expr (kept_opt_expr h1 g.1.0) (kept_opt_expr h2 g.1.1))
    kept_expr_kind rule.underscore_expr _ = rule.underscore_expr
    kept_expr_kind rule.include_bytes_expr _ = rule.include_bytes_expr
    kept_expr_kind rule.asm_expr _ = rule.asm_expr
    kept_expr_kind rule.format_args_expr _ = rule.format_args_expr
    kept_expr_kind rule.callless_expr _ = rule.callless_expr
    kept_expr_kind (rule.called_expr {p = p} {c = c} {y = y} {x = x} h1 h2 h3) g =
        rule.called_expr (subst (λ w. CallAs (call_node p c) w y) (call_same env other p c fragments.Expr g.0) h1) (subst
        (λ w. OptExprAs other (within w p) (its_expr w) x) (call_same env other p c fragments.Expr g.0) (kept_opt_expr h2 g.1)) h3

    kept_fields : {a1 : LowerCtx} {a2 : List AstRecordExprField} {a3 : Fields} → (h : FieldsAs env a1 a2 a3) → Agree env other
        (whole_fields env h) → FieldsAs other a1 a2 a3
    kept_fields rule.no_fields _ = rule.no_fields
    kept_fields (rule.more_fields h1 h2) g = rule.more_fields (kept_field h1 g.0) (kept_fields h2 g.1)

    kept_field : {a1 : LowerCtx} {a2 : Pointer} {a3 : Option AstName} {a4 : Option AstExpr} {a5 : Field} → (h : FieldAs env a1 a2 a3 a4 a5)
        → Agree env other (whole_field env h) → FieldAs other a1 a2 a3 a4 a5
    kept_field (rule.enabled_field h1 h2) g = rule.enabled_field (sym g.0 ∙ h1) (kept_field_part h2 g.1)
    kept_field (rule.disabled_field h1 h2) g = rule.disabled_field (sym g.0 ∙ h1) (kept_field_part h2 g.1)

    kept_field_part : {a1 : LowerCtx} {a2 : Pointer} {a3 : Option AstName} {a4 : Option AstExpr} {a5 : Field} →
        (h : FieldPartAs env a1 a2 a3 a4 a5) → Agree env other (whole_field_part env h) → FieldPartAs other a1 a2 a3 a4 a5
    kept_field_part (rule.nameless_field h1) g = rule.nameless_field (kept_opt_expr h1 g)
    kept_field_part (rule.named_field h1) g = rule.named_field (kept_opt_expr h1 g)

    kept_spread : {a1 : LowerCtx} {a2 : Option AstExpr} {a3 : Bool} {a4 : Spread} → (h : SpreadAs env a1 a2 a3 a4) → Agree env other
        (whole_spread env h) → SpreadAs other a1 a2 a3 a4
    kept_spread (rule.spread_of h1) g = rule.spread_of (kept_expr h1 g)
    kept_spread rule.field_defaults _ = rule.field_defaults
    kept_spread rule.no_spread _ = rule.no_spread

    kept_arms : {a1 : LowerCtx} {a2 : List AstMatchArm} {a3 : Arms} → (h : ArmsAs env a1 a2 a3) → Agree env other (whole_arms env h)
        → ArmsAs other a1 a2 a3
    kept_arms rule.no_arms _ = rule.no_arms
    kept_arms (rule.more_arms h1 h2) g = rule.more_arms (kept_arm h1 g.0) (kept_arms h2 g.1)

    kept_arm : {a1 : LowerCtx} {a2 : Pointer} {a3 : Option AstPat} {a4 : Option AstGuard} {a5 : Option AstExpr} {a6 : Arm} →
        (h : ArmAs env a1 a2 a3 a4 a5 a6) → Agree env other (whole_arm env h) → ArmAs other a1 a2 a3 a4 a5 a6
    kept_arm (rule.enabled_arm h1 h2 h3 h4) g =
        rule.enabled_arm (sym g.0 ∙ h1) (kept_opt_pat h2 g.1.0) (kept_guard h3 g.1.1.0) (kept_opt_expr h4 g.1.1.1)
    kept_arm (rule.disabled_arm h1 h2 h3 h4) g =
        rule.disabled_arm (sym g.0 ∙ h1) (kept_opt_pat h2 g.1.0) (kept_guard h3 g.1.1.0) (kept_opt_expr h4 g.1.1.1)

    kept_guard : {a1 : LowerCtx} {a2 : Option AstGuard} {a3 : Guard} → (h : GuardAs env a1 a2 a3) → Agree env other (whole_guard env h)
        → GuardAs other a1 a2 a3
    kept_guard rule.no_guard _ = rule.no_guard
    kept_guard (rule.some_guard h1) g = rule.some_guard (kept_opt_expr h1 g)

    kept_own : {a1 : LowerCtx} {a2 : Option BlockModifier} {a3 : BlockExprLayer written} {a4 : Expr} → (h : OwnAs env a1 a2 a3 a4)
        → Agree env other (whole_own env h) → OwnAs other a1 a2 a3 a4
    kept_own (rule.labelled {p = p} {b = b} h1 h2) g = rule.labelled (h1 ∙ label_same env other p b.label g.0) (kept_in_block h2 g.1)
    kept_own (rule.unsafe_block h1) g = rule.unsafe_block (kept_in_block h1 g)
    kept_own (rule.try_block {p = p} {b = b} {t = t} {k = k} {ss = ss} {e = e} h1 h2) g =
        subst (λ z. OwnAs other p (Some modifier.Try) b (tree.try_expr (node p b.id b.range) z t k ss e)) (sym g.0) (rule.try_block
        (kept_opt_type h1 g.1.0) (kept_in_block h2 g.1.1))
    kept_own (rule.const_block h1) g = rule.const_block (kept_plain h1 g)
    kept_own (rule.async_block h1) g = rule.async_block (kept_in_block h1 g)
    kept_own (rule.gen_block h1) g = rule.gen_block (kept_in_block h1 g)
    kept_own (rule.async_gen_block h1) g = rule.async_gen_block (kept_in_block h1 g)

    kept_plain : {a1 : LowerCtx} {a2 : BlockExprLayer written} {a3 : Block} → (h : PlainAs env a1 a2 a3) → Agree env other
        (whole_plain env h) → PlainAs other a1 a2 a3
    kept_plain (rule.plain_block h1) g = rule.plain_block (kept_in_block h1 g)

    kept_in_block : {a1 : LowerCtx} {a2 : BlockExprLayer written} {a3 : Option BlockId} {a4 : Stmts} {a5 : OptionExpr} →
        (h : InBlockAs env a1 a2 a3 a4 a5) → Agree env other (whole_in_block env h) → InBlockAs other a1 a2 a3 a4 a5
    kept_in_block (rule.in_block {p = p} {b = b} h1 h2) g =
        rule.in_block (sym (number_same env other p b.id g.0) ∙ h1) (kept_contents h2 g.1)
    kept_in_block (rule.in_numbered {p = p} {b = b} h1 h2) g =
        rule.in_numbered (sym (number_same env other p b.id g.0) ∙ h1) (kept_contents h2 g.1)

    kept_contents : {a1 : LowerCtx} {a2 : List AstStmt} {a3 : Option AstExpr} {a4 : Defined} {a5 : Stmts} {a6 : OptionExpr} {a7 : Defined} →
        (h : ContentsAs env a1 a2 a3 a4 a5 a6 a7) → Agree env other (whole_contents env h) → ContentsAs other a1 a2 a3 a4 a5 a6 a7
    kept_contents (rule.contents h1 h2) g = rule.contents (kept_stmts h1 g.0) (kept_tail h2 g.1)

    kept_stmts : {a1 : LowerCtx} {a2 : List AstStmt} {a3 : Defined} {a4 : Stmts} {a5 : Defined} → (h : StmtsAs env a1 a2 a3 a4 a5)
        → Agree env other (whole_stmts env h) → StmtsAs other a1 a2 a3 a4 a5
    kept_stmts rule.no_stmts _ = rule.no_stmts
    kept_stmts (rule.more_stmts h1 h2) g = rule.more_stmts (kept_stmt h1 g.0) (kept_stmts h2 g.1)

    kept_tail : {a1 : LowerCtx} {a2 : Option AstExpr} {a3 : Defined} {a4 : Stmts} {a5 : OptionExpr} {a6 : Defined} →
        (h : TailAs env a1 a2 a3 a4 a5 a6) → Agree env other (whole_tail env h) → TailAs other a1 a2 a3 a4 a5 a6
    kept_tail rule.no_tail _ = rule.no_tail
    kept_tail (rule.some_tail h1) g = rule.some_tail (kept_value h1 g)

    kept_value : {a1 : LowerCtx} {a2 : Pointer} {a3 : ExprKindLayer written} {a4 : Defined} {a5 : Stmts} {a6 : OptionExpr} {a7 : Defined} →
        (h : ValueAs env a1 a2 a3 a4 a5 a6 a7) → Agree env other (whole_value env h) → ValueAs other a1 a2 a3 a4 a5 a6 a7
    kept_value (rule.whole_value h1 h2) g = rule.whole_value h1 (kept_expr h2 g)
    kept_value (rule.disabled_value h1 h2) g = rule.disabled_value h1 (sym g ∙ h2)
    kept_value (rule.callless_value h1) g = rule.callless_value (sym g ∙ h1)
    kept_value (rule.called_value {p = p} {s = s} {c = c} {d = d} {xs = xs} {x = x} {d1 = d1} h1 h2) g =
        rule.called_value (sym g.0.0 ∙ h1) (subst (λ w. SpliceAs other p s (call_node p c) w d xs x d1)
        (call_same env other p c fragments.Stmts g.0.1) (kept_splice h2 g.1))

    kept_splice : {a1 : LowerCtx} {a2 a3 : Pointer} {a4 : Option Expanding} {a5 : Defined} {a6 : Stmts} {a7 : OptionExpr} {a8 : Defined} →
        (h : SpliceAs env a1 a2 a3 a4 a5 a6 a7 a8) → Agree env other (whole_splice env h) → SpliceAs other a1 a2 a3 a4 a5 a6 a7 a8
    kept_splice rule.too_deep_for_stmts _ = rule.too_deep_for_stmts
    kept_splice rule.not_expanded_to_stmts _ = rule.not_expanded_to_stmts
    kept_splice rule.not_found_for_stmts _ = rule.not_found_for_stmts
    kept_splice (rule.no_stmts_in_it h1) _ = rule.no_stmts_in_it h1
    kept_splice (rule.spliced h1 h2) g = rule.spliced (kept_contents h1 g) h2

    kept_stmt : {a1 : LowerCtx} {a2 : Pointer} {a3 : StmtKindLayer written} {a4 : Defined} {a5 : Stmts} {a6 : Defined} →
        (h : StmtAs env a1 a2 a3 a4 a5 a6) → Agree env other (whole_stmt env h) → StmtAs other a1 a2 a3 a4 a5 a6
    kept_stmt (rule.enabled_let h1 h2 h3 h4 h5) g =
        rule.enabled_let (sym g.0 ∙ h1) (kept_opt_pat h2 g.1.0) (kept_opt_type h3 g.1.1.0) (kept_opt_expr h4 g.1.1.1.0)
        (kept_let_else h5 g.1.1.1.1)
    kept_stmt (rule.disabled_let h1 h2 h3 h4 h5) g =
        rule.disabled_let (sym g.0 ∙ h1) (kept_opt_pat h2 g.1.0) (kept_opt_type h3 g.1.1.0) (kept_opt_expr h4 g.1.1.1.0)
        (kept_let_else h5 g.1.1.1.1)
    kept_stmt (rule.expr_stmt h1) g = rule.expr_stmt (kept_tail h1 g)
    kept_stmt (rule.enabled_rules {p = p} {s = s} {n = n} {d = d} h1) g =
        subst (λ z. StmtAs other p s (StmtKind-F.MacroRules (Some n)) d (tree.more_stmts (tree.macro_stmt (times
        (name.Text n.t) d) z) tree.no_stmts) (name.Text n.t ∷ d)) (sym g.1) (rule.enabled_rules (sym g.0 ∙ h1))
    kept_stmt (rule.nameless_rules h1) g = rule.nameless_rules (sym g ∙ h1)
    kept_stmt (rule.disabled_rules h1) g = rule.disabled_rules (sym g ∙ h1)
    kept_stmt (rule.enabled_def {p = p} {s = s} {n = n} {d = d} h1) g =
        subst (λ z. StmtAs other p s (StmtKind-F.MacroDef n) d (tree.more_stmts (tree.macro_stmt 0 z) tree.no_stmts) d) (sym
        (def_same env other p n g.1)) (rule.enabled_def (sym g.0 ∙ h1))
    kept_stmt (rule.disabled_def {p = p} {s = s} {n = n} {d = d} {by = by} h1) g =
        subst (λ z. StmtAs other p s (StmtKind-F.MacroDef n) d (tree.more_stmts (tree.disabled_stmt s by
        (tree.macro_stmt 0 z)) tree.no_stmts) d) (sym (def_same env other p n g.1)) (rule.disabled_def (sym g.0 ∙ h1))
    kept_stmt rule.item_stmt _ = rule.item_stmt

    kept_let_else : {a1 : LowerCtx} {a2 : Option AstLetElse} {a3 : OptionBlock} → (h : LetElseAs env a1 a2 a3) → Agree env other
        (whole_let_else env h) → LetElseAs other a1 a2 a3
    kept_let_else rule.no_let_else _ = rule.no_let_else
    kept_let_else (rule.some_let_else h1) g = rule.some_let_else (kept_opt_plain h1 g)
