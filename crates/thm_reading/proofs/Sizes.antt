-- How many rules it takes to allow a tree.
use Rattle.std.proofs.Common.{◌+◌, ℕ, zero, suc}
use Rattle.std.specs.Prelude.{List, Bool, Option}
use Rattle.hir_syntax.specs.declared.ast.Expr.{Expr as AstExpr}
use Rattle.hir_syntax.specs.declared.ast.Lifetime.{Lifetime as AstLifetime}
use Rattle.hir_syntax.specs.declared.ast.Name.{Name as AstName}
use Rattle.hir_syntax.specs.declared.ast.Path.{Path as AstPath}
use Rattle.hir_syntax.specs.declared.ast.PathSegment.{PathSegment as AstPathSegment}
use Rattle.hir_syntax.specs.declared.ast.SegmentKind.{SegmentKind}
use Rattle.hir_syntax.specs.declared.pats.Pat.{Pat as AstPat}
use Rattle.hir_syntax.specs.declared.pats.RecordPatField.{RecordPatField as AstRecordPatField}
use Rattle.hir_syntax.specs.declared.types.BoundKind.{BoundKind}
use Rattle.hir_syntax.specs.declared.types.ForBinder.{ForBinder as AstForBinder}
use Rattle.hir_syntax.specs.declared.types.GenericArg.{GenericArg as AstGenericArg}
use Rattle.hir_syntax.specs.declared.types.Param.{Param as AstParam}
use Rattle.hir_syntax.specs.declared.types.PathType.{PathType as AstPathType}
use Rattle.hir_syntax.specs.declared.types.Type_.{Type_ as AstType_}
use Rattle.hir_syntax.specs.declared.types.TypeBound.{TypeBound as AstTypeBound}
use Rattle.hir_syntax.specs.declared.types.UseArg.{UseArg as AstUseArg}
use Rattle.hir_syntax.specs.declared.ast.BlockExpr.{BlockExpr as AstBlockExpr}
use Rattle.hir_syntax.specs.declared.ast.BlockModifier.{BlockModifier}
use Rattle.hir_syntax.specs.declared.ast.ElseBranch.{ElseBranch as AstElseBranch}
use Rattle.hir_syntax.specs.declared.ast.RecordExprField.{RecordExprField as AstRecordExprField}
use Rattle.hir_syntax.specs.declared.ast.Stmt.{Stmt as AstStmt}
use Rattle.hir_syntax.specs.declared.branches.MatchArm.{MatchArm as AstMatchArm}
use Rattle.hir_store.specs.declared.ids.BlockId.{BlockId}
use Rattle.hir_env.specs.ResolvedTree.{Arm, Arms, Block, Exprs, Field, Fields, Guard, OptionBlock, Params, Spread, Stmts, Arg, Args, Bound}
use Rattle.hir_env.specs.ResolvedTree.{Bounds, Constant, Expr, OptionArgs, OptionExpr, OptionParens, OptionPat, OptionPath, OptionType}
use Rattle.hir_env.specs.ResolvedTree.{Parts}
use Rattle.hir_env.specs.ResolvedTree.{Pat, PatField, PatFields, Pats, Path, Segment, Segments, Type_}
use Rattle.hir_env.specs.Answers.{Expanding}
use Rattle.hir_env.specs.Layers.{BlockExprLayer, Defined, ElseBranchLayer, ExprKindLayer, StmtKindLayer, written}
use Rattle.hir_env.specs.Wrapped.{AstGuard, AstLetElse, AstConstArg, AstRetType, AstTypeArg, AstParenArgs, AstGenericArgList}
use Rattle.hir_store.specs.Pointers.{Pointer}
use Rattle.hir_store.specs.declared.name.Name.{Name}
use Rattle.hir_env.specs.PatLayers.{PatKindLayer}
use Rattle.hir_env.specs.TypeLayers.{GenericArgLayer, TypeKindLayer}
use Rattle.hir_env.specs.declared.ctx.LowerCtx.{LowerCtx}
use Rattle.thm_reading.specs.Rules as rule
use Rattle.thm_reading.specs.Rules.{OptExprAs, LenAs, OptTypeAs, TypesAs, PartsAs, AnswerAs, FnParamsAs, TypeKindAs, OptPathAs, PathAs}
use Rattle.thm_reading.specs.Rules.{OptUseTreeAs, UseTreeAs, FirstAs, SegmentsAs, OptSegmentAs, SegmentAs, ParensAs, ArgListAs, ArgsAs}
use Rattle.thm_reading.specs.Rules.{ArgAs, BindingAs, BoundsAs, BoundAs, OptPatAs, PatsAs, PatKindAs, PatFieldsAs, PatFieldAs, PatPartAs}
use Rattle.thm_reading.specs.Rules.{ParamsAs, ExprAs, ExprsAs, OptExprsAs, ElseAs, ElseKindAs, OptPlainAs, ForBodyAs, ExprKindAs, FieldsAs}
use Rattle.thm_reading.specs.Rules.{FieldAs, FieldPartAs, SpreadAs, ArmsAs, ArmAs, GuardAs, OwnAs, PlainAs, InBlockAs, ContentsAs, StmtsAs}
use Rattle.thm_reading.specs.Rules.{TailAs, ValueAs, SpliceAs, StmtAs, LetElseAs}
use Rattle.hir_env.specs.Answers.{Answers}

module _ (env : Answers) where
  abbrev mutual
    pub size_opt_expr : {a1 : LowerCtx} {a2 : Option AstExpr} {a3 : OptionExpr} → OptExprAs env a1 a2 a3 → ℕ
    size_opt_expr rule.no_expr = zero
    size_opt_expr (rule.some_expr h1) = suc (size_expr h1)

    pub size_len : {a1 : LowerCtx} {a2 : Option AstConstArg} {a3 : Constant} → LenAs env a1 a2 a3 → ℕ
    size_len rule.no_len = zero
    size_len (rule.some_len h1) = suc (size_opt_expr h1)

    pub size_opt_type : {a1 : LowerCtx} {a2 : Option AstType_} {a3 : OptionType} → OptTypeAs env a1 a2 a3 → ℕ
    size_opt_type rule.no_type = zero
    size_opt_type (rule.some_type h1) = suc (size_type_kind h1)

    pub size_types : {a1 : LowerCtx} {a2 : List AstType_} {a3 : Parts} → TypesAs env a1 a2 a3 → ℕ
    size_types rule.no_types = zero
    size_types (rule.more_types h1 h2) = suc (size_opt_type h1 + (size_types h2))

    pub size_parts : {a1 : LowerCtx} {a2 : List AstTypeArg} {a3 : Parts} → PartsAs env a1 a2 a3 → ℕ
    size_parts rule.no_parts = zero
    size_parts (rule.more_parts h1 h2) = suc (size_opt_type h1 + (size_parts h2))

    pub size_answer : {a1 : LowerCtx} {a2 : Option AstRetType} {a3 : OptionType} → AnswerAs env a1 a2 a3 → ℕ
    size_answer rule.no_answer = zero
    size_answer (rule.answer_type h1) = suc (size_opt_type h1)

    pub size_fn_params : {a1 : LowerCtx} {a2 : List AstParam} {a3 : List (Option Name)} {a4 : Parts} → FnParamsAs env a1 a2 a3 a4 → ℕ
    size_fn_params rule.no_params = zero
    size_fn_params (rule.variadic_param _ h2) = suc (size_fn_params h2)
    size_fn_params (rule.fn_param _ h2 h3 h4) = suc (size_opt_pat h2 + (size_opt_type h3 + (size_fn_params h4)))

    pub size_type_kind : {a1 : LowerCtx} {a2 : Pointer} {a3 : TypeKindLayer written} {a4 : Type_} → TypeKindAs env a1 a2 a3 a4 → ℕ
    size_type_kind (rule.paren_type h1) = suc (size_opt_type h1)
    size_type_kind (rule.slice_type h1) = suc (size_opt_type h1)
    size_type_kind (rule.array_type h1 h2) = suc (size_opt_type h1 + (size_len h2))
    size_type_kind (rule.tuple_type h1) = suc (size_types h1)
    size_type_kind (rule.path_type h1) = suc (size_opt_path h1)
    size_type_kind (rule.ptr_type h1) = suc (size_opt_type h1)
    size_type_kind (rule.ref_type h1) = suc (size_opt_type h1)
    size_type_kind (rule.fn_type h1 h2) = suc (size_fn_params h1 + (size_answer h2))
    size_type_kind (rule.fn_without_list h1) = suc (size_answer h1)
    size_type_kind (rule.for_type h1) = suc (size_opt_type h1)
    size_type_kind (rule.impl_type _ h2) = suc (size_bounds h2)
    size_type_kind (rule.impl_in_impl _) = zero
    size_type_kind (rule.dyn_type h1) = suc (size_bounds h1)
    size_type_kind (rule.pattern_type h1 h2) = suc (size_opt_type h1 + (size_opt_pat h2))
    size_type_kind rule.never_type = zero
    size_type_kind rule.infer_type = zero
    size_type_kind rule.callless_type = zero
    size_type_kind (rule.called_type _ h2) = suc (size_opt_type h2)

    pub size_opt_path : {a1 : LowerCtx} {a2 : Option AstPath} {a3 : OptionPath} → OptPathAs env a1 a2 a3 → ℕ
    size_opt_path rule.no_path = zero
    size_opt_path (rule.some_path h1) = suc (size_path h1)

    pub size_path : {a1 : LowerCtx} {a2 a3 : Bool} {a4 : List (Option AstPathSegment)} {a5 : Option AstPath} {a6 : Path}
        → PathAs env a1 a2 a3 a4 a5 a6 → ℕ
    size_path (rule.path _ h2 h3 _) = suc (size_first h2 + (size_opt_use_tree h3))
    size_path (rule.broken_path _ _) = zero
    size_path (rule.root_path _ h2 _ _) = suc (size_first h2)

    pub size_opt_use_tree : {a1 : LowerCtx} {a2 : Option AstPath} {a3 : OptionPath} → OptUseTreeAs env a1 a2 a3 → ℕ
    size_opt_use_tree rule.no_use_tree = zero
    size_opt_use_tree (rule.some_use_tree h1) = suc (size_use_tree h1)

    pub size_use_tree : {a1 : LowerCtx} {a2 : Bool} {a3 : List (Option AstPathSegment)} {a4 : Option AstPath} {a5 : Path}
        → UseTreeAs env a1 a2 a3 a4 a5 → ℕ
    size_use_tree (rule.use_tree h1 h2) = suc (size_first h1 + (size_opt_use_tree h2))

    pub size_first : {a1 : LowerCtx} {a2 : List (Option AstPathSegment)} {a3 : Segment} {a4 : Segments} → FirstAs env a1 a2 a3 a4 → ℕ
    size_first rule.none_first = zero
    size_first (rule.some_first h1 h2) = suc (size_opt_segment h1 + (size_segments h2))

    pub size_segments : {a1 : LowerCtx} {a2 : List (Option AstPathSegment)} {a3 : Segments} → SegmentsAs env a1 a2 a3 → ℕ
    size_segments rule.no_segments = zero
    size_segments (rule.more_segments h1 h2) = suc (size_opt_segment h1 + (size_segments h2))

    pub size_opt_segment : {a1 : LowerCtx} {a2 : Option AstPathSegment} {a3 : Segment} → OptSegmentAs env a1 a2 a3 → ℕ
    size_opt_segment rule.absent_segment = zero
    size_opt_segment (rule.some_segment h1) = suc (size_segment h1)

    pub size_segment : {a1 : LowerCtx} {a2 : Option SegmentKind} {a3 : Option AstName} {a4 : Option AstGenericArgList}
        {a5 : Option AstParenArgs} {a6 : Option AstRetType} {a7 : Bool} {a8 : Option AstType_} {a9 : Option AstPathType} {a10 : Segment}
        → SegmentAs env a1 a2 a3 a4 a5 a6 a7 a8 a9 a10 → ℕ
    size_segment rule.kindless = zero
    size_segment rule.nameless = zero
    size_segment (rule.named _ h2 h3) = suc (size_arg_list h2 + (size_parens h3))
    size_segment (rule.dollar_crate _) = zero
    size_segment rule.self = zero
    size_segment rule.crate = zero
    size_segment rule.super = zero
    size_segment rule.self_type = zero
    size_segment rule.untyped = zero
    size_segment (rule.of_type h1) = suc (size_opt_type h1)
    size_segment (rule.of_trait h1 h2) = suc (size_opt_type h1 + (size_opt_path h2))

    pub size_parens : {a1 : LowerCtx} {a2 : Option AstParenArgs} {a3 : Option AstRetType} {a4 : OptionParens} → ParensAs env a1 a2 a3 a4 → ℕ
    size_parens rule.no_parens = zero
    size_parens (rule.without_answer h1) = suc (size_parts h1)
    size_parens (rule.with_answer h1 h2) = suc (size_parts h1 + (size_opt_type h2))

    pub size_arg_list : {a1 : LowerCtx} {a2 : Option AstGenericArgList} {a3 : OptionArgs} → ArgListAs env a1 a2 a3 → ℕ
    size_arg_list rule.no_list = zero
    size_arg_list (rule.some_list h1) = suc (size_args h1)

    pub size_args : {a1 : LowerCtx} {a2 : List AstGenericArg} {a3 : Args} → ArgsAs env a1 a2 a3 → ℕ
    size_args rule.no_args = zero
    size_args (rule.more_args h1 h2) = suc (size_arg h1 + (size_args h2))

    pub size_arg : {a1 : LowerCtx} {a2 : GenericArgLayer written} {a3 : Arg} → ArgAs env a1 a2 a3 → ℕ
    size_arg (rule.type_arg h1) = suc (size_opt_type h1)
    size_arg (rule.lifetime_arg _) = zero
    size_arg (rule.lacking_lifetime _) = zero
    size_arg (rule.const_arg h1) = suc (size_opt_expr h1)
    size_arg (rule.assoc_arg h1) = suc (size_binding h1)

    pub size_binding : {a1 : LowerCtx} {a2 : Bool} {a3 : Option AstName} {a4 : Option AstGenericArgList} {a5 : Bool} {a6 : Option AstType_}
        {a7 : List AstTypeBound} {a8 : Arg}
        → BindingAs env a1 a2 a3 a4 a5 a6 a7 a8 → ℕ
    size_binding rule.with_list = zero
    size_binding rule.unnamed = zero
    size_binding (rule.binding h1 h2 h3) = suc (size_arg_list h1 + (size_opt_type h2 + (size_bounds h3)))

    pub size_bounds : {a1 : LowerCtx} {a2 : List AstTypeBound} {a3 : Bounds} → BoundsAs env a1 a2 a3 → ℕ
    size_bounds rule.no_bounds = zero
    size_bounds (rule.more_bounds h1 h2) = suc (size_bound h1 + (size_bounds h2))

    pub size_bound : {a1 : LowerCtx} {a2 : Option BoundKind} {a3 : Option AstPathType} {a4 : Bool} {a5 : Option AstForBinder}
        {a6 : Option AstLifetime} {a7 : List AstUseArg} {a8 : Bound}
        → BoundAs env a1 a2 a3 a4 a5 a6 a7 a8 → ℕ
    size_bound (rule.path_bound h1) = suc (size_opt_path h1)
    size_bound rule.lifetime_bound = zero
    size_bound rule.use_bound = zero
    size_bound rule.kindless_bound = zero
    size_bound rule.pathless_bound = zero
    size_bound rule.lacking_bound = zero

    pub size_opt_pat : {a1 : LowerCtx} {a2 : Option AstPat} {a3 : OptionPat} → OptPatAs env a1 a2 a3 → ℕ
    size_opt_pat rule.no_pat = zero
    size_opt_pat (rule.some_pat h1) = suc (size_pat_kind h1)

    pub size_pats : {a1 : LowerCtx} {a2 : List AstPat} {a3 : Pats} → PatsAs env a1 a2 a3 → ℕ
    size_pats rule.no_pats = zero
    size_pats (rule.more_pats h1 h2) = suc (size_pat_kind h1 + (size_pats h2))

    pub size_pat_kind : {a1 : LowerCtx} {a2 : Pointer} {a3 : PatKindLayer written} {a4 : Pat} → PatKindAs env a1 a2 a3 a4 → ℕ
    size_pat_kind (rule.value_pat _ _) = zero
    size_pat_kind (rule.plain_pat _ _) = zero
    size_pat_kind (rule.ref_pat_of _ h2) = suc (size_opt_pat h2)
    size_pat_kind (rule.mut_pat _ h2) = suc (size_opt_pat h2)
    size_pat_kind (rule.sub_pat _ h2) = suc (size_opt_pat h2)
    size_pat_kind (rule.tuple_struct_pat h1 h2) = suc (size_opt_path h1 + (size_pats h2))
    size_pat_kind (rule.tuple_pat h1) = suc (size_pats h1)
    size_pat_kind (rule.ref_pat h1) = suc (size_opt_pat h1)
    size_pat_kind (rule.path_pat h1) = suc (size_opt_path h1)
    size_pat_kind (rule.or_pat h1) = suc (size_pats h1)
    size_pat_kind (rule.paren_pat h1) = suc (size_opt_pat h1)
    size_pat_kind (rule.box_pat h1) = suc (size_opt_pat h1)
    size_pat_kind (rule.deref_pat h1) = suc (size_opt_pat h1)
    size_pat_kind (rule.record_pat h1 h2) = suc (size_opt_path h1 + (size_pat_fields h2))
    size_pat_kind (rule.slice_pat h1 h2 h3) = suc (size_pats h1 + (size_opt_pat h2 + (size_pats h3)))
    size_pat_kind rule.lacking_literal = zero
    size_pat_kind (rule.literal_pat _) = zero
    size_pat_kind (rule.broken_literal _) = zero
    size_pat_kind (rule.range_pat h1 h2) = suc (size_opt_pat h1 + (size_opt_pat h2))
    size_pat_kind rule.cfg_pat = zero
    size_pat_kind rule.callless_pat = zero
    size_pat_kind (rule.called_pat _ h2) = suc (size_opt_pat h2)
    size_pat_kind rule.wild_pat = zero
    size_pat_kind rule.rest_pat = zero
    size_pat_kind rule.not_null_pat = zero
    size_pat_kind rule.const_block_pat = zero

    pub size_pat_fields : {a1 : LowerCtx} {a2 : List AstRecordPatField} {a3 : PatFields} → PatFieldsAs env a1 a2 a3 → ℕ
    size_pat_fields rule.no_pat_fields = zero
    size_pat_fields (rule.more_pat_fields h1 h2) = suc (size_pat_field h1 + (size_pat_fields h2))

    pub size_pat_field : {a1 : LowerCtx} {a2 : Pointer} {a3 : Option AstName} {a4 : Option AstPat} {a5 : PatField}
        → PatFieldAs env a1 a2 a3 a4 a5 → ℕ
    size_pat_field (rule.enabled_pat_field _ h2) = suc (size_pat_part h2)
    size_pat_field (rule.disabled_pat_field _ h2) = suc (size_pat_part h2)

    pub size_pat_part : {a1 : LowerCtx} {a2 : Pointer} {a3 : Option AstName} {a4 : Option AstPat} {a5 : PatField}
        → PatPartAs env a1 a2 a3 a4 a5 → ℕ
    size_pat_part rule.partless_pat_field = zero
    size_pat_part (rule.pat_field h1) = suc (size_pat_kind h1)

    pub size_params : {a1 : LowerCtx} {a2 : Option (List AstParam)} {a3 : Params} → ParamsAs env a1 a2 a3 → ℕ
    size_params rule.without_params = zero
    size_params rule.last_param = zero
    size_params (rule.enabled_param _ h2 h3 h4) = suc (size_opt_pat h2 + (size_opt_type h3 + (size_params h4)))
    size_params (rule.disabled_param _ h2 h3 h4) = suc (size_opt_pat h2 + (size_opt_type h3 + (size_params h4)))

    pub size_expr : {a1 : LowerCtx} {a2 : Pointer} {a3 : ExprKindLayer written} {a4 : Expr} → ExprAs env a1 a2 a3 a4 → ℕ
    size_expr (rule.enabled _ h2) = suc (size_expr_kind h2)
    size_expr (rule.disabled _ h2) = suc (size_expr_kind h2)

    pub size_exprs : {a1 : LowerCtx} {a2 : List AstExpr} {a3 : Exprs} → ExprsAs env a1 a2 a3 → ℕ
    size_exprs rule.no_exprs = zero
    size_exprs (rule.more_exprs h1 h2) = suc (size_expr h1 + (size_exprs h2))

    pub size_opt_exprs : {a1 : LowerCtx} {a2 : Option (List AstExpr)} {a3 : Exprs} → OptExprsAs env a1 a2 a3 → ℕ
    size_opt_exprs rule.without_exprs = zero
    size_opt_exprs (rule.with_exprs h1) = suc (size_exprs h1)

    pub size_else : {a1 : LowerCtx} {a2 : Option AstElseBranch} {a3 : OptionExpr} → ElseAs env a1 a2 a3 → ℕ
    size_else rule.no_else = zero
    size_else (rule.some_else h1) = suc (size_else_kind h1)

    pub size_else_kind : {a1 : LowerCtx} {a2 : ElseBranchLayer written} {a3 : Expr} → ElseKindAs env a1 a2 a3 → ℕ
    size_else_kind (rule.else_block h1) = suc (size_plain h1)
    size_else_kind (rule.else_if h1) = suc (size_expr h1)

    pub size_opt_plain : {a1 : LowerCtx} {a2 : Option AstBlockExpr} {a3 : OptionBlock} → OptPlainAs env a1 a2 a3 → ℕ
    size_opt_plain rule.no_block = zero
    size_opt_plain (rule.some_block h1) = suc (size_plain h1)

    pub size_for_body : {a1 : LowerCtx} {a2 : Option AstBlockExpr} {a3 : OptionExpr} → ForBodyAs env a1 a2 a3 → ℕ
    size_for_body rule.no_body = zero
    size_for_body (rule.enabled_body _ h2) = suc (size_own h2)
    size_for_body (rule.disabled_body _ h2) = suc (size_own h2)

    pub size_expr_kind : {a1 : LowerCtx} {a2 : Pointer} {a3 : ExprKindLayer written} {a4 : Expr} → ExprKindAs env a1 a2 a3 a4 → ℕ
    size_expr_kind (rule.if_expr h1 h2 h3) = suc (size_opt_expr h1 + (size_opt_plain h2 + (size_else h3)))
    size_expr_kind (rule.block_expr h1) = suc (size_own h1)
    size_expr_kind (rule.loop_expr _ h2) = suc (size_opt_plain h2)
    size_expr_kind (rule.while_expr _ h2 h3) = suc (size_opt_expr h2 + (size_opt_plain h3))
    size_expr_kind (rule.for_expr _ _ h3 h4 h5) = suc (size_opt_pat h3 + (size_opt_expr h4 + (size_for_body h5)))
    size_expr_kind (rule.itemless_for _) = zero
    size_expr_kind (rule.question_expr _ h2) = suc (size_opt_expr h2)
    size_expr_kind (rule.itemless_question _) = zero
    size_expr_kind (rule.call_expr h1 h2) = suc (size_opt_expr h1 + (size_opt_exprs h2))
    size_expr_kind (rule.path_expr h1) = suc (size_opt_path h1)
    size_expr_kind rule.continue_expr = zero
    size_expr_kind (rule.break_expr h1) = suc (size_opt_expr h1)
    size_expr_kind (rule.paren_expr h1) = suc (size_opt_expr h1)
    size_expr_kind rule.literal_expr = zero
    size_expr_kind (rule.method_call_expr h1 h2 h3) = suc (size_opt_expr h1 + (size_opt_exprs h2 + (size_arg_list h3)))
    size_expr_kind (rule.field_expr h1) = suc (size_opt_expr h1)
    size_expr_kind (rule.prefix_expr h1) = suc (size_opt_expr h1)
    size_expr_kind (rule.nameless_expr h1) = suc (size_opt_expr h1)
    size_expr_kind (rule.logic_expr h1 h2) = suc (size_opt_expr h1 + (size_opt_expr h2))
    size_expr_kind (rule.assign_expr h1 t h2) = suc (size_opt_expr h1 + (size_opt_expr h2))
    size_expr_kind (rule.operator_expr _ h2 h3) = suc (size_opt_expr h2 + (size_opt_expr h3))
    size_expr_kind (rule.index_expr h1 h2) = suc (size_opt_expr h1 + (size_opt_expr h2))
    size_expr_kind (rule.ref_expr h1) = suc (size_opt_expr h1)
    size_expr_kind (rule.tuple_expr h1) = suc (size_exprs h1)
    size_expr_kind (rule.array_expr h1) = suc (size_exprs h1)
    size_expr_kind (rule.repeat_expr h1 h2) = suc (size_opt_expr h1 + (size_opt_expr h2))
    size_expr_kind (rule.closure_expr h1 h2 h3) = suc (size_params h1 + (size_answer h2 + (size_opt_expr h3)))
    size_expr_kind (rule.gen_closure h1 h2 h3) = suc (size_params h1 + (size_answer h2 + (size_opt_expr h3)))
    size_expr_kind (rule.async_closure h1 h2 h3) = suc (size_params h1 + (size_answer h2 + (size_opt_expr h3)))
    size_expr_kind (rule.async_gen_closure h1 h2 h3) = suc (size_params h1 + (size_answer h2 + (size_opt_expr h3)))
    size_expr_kind (rule.return_expr h1) = suc (size_opt_expr h1)
    size_expr_kind (rule.yeet_expr h1) = suc (size_opt_expr h1)
    size_expr_kind (rule.become_expr h1) = suc (size_opt_expr h1)
    size_expr_kind (rule.yield_expr h1) = suc (size_opt_expr h1)
    size_expr_kind (rule.await_expr h1) = suc (size_opt_expr h1)
    size_expr_kind (rule.cast_expr h1 h2) = suc (size_opt_expr h1 + (size_opt_type h2))
    size_expr_kind (rule.record_expr h1 h2 h3) = suc (size_opt_path h1 + (size_fields h2 + (size_spread h3)))
    size_expr_kind (rule.record_without_list h1) = suc (size_opt_path h1)
    size_expr_kind (rule.offset_of_expr h1) = suc (size_opt_type h1)
    size_expr_kind rule.cfg_expr = zero
    size_expr_kind (rule.let_expr h1 h2) = suc (size_opt_pat h1 + (size_opt_expr h2))
    size_expr_kind (rule.match_expr h1 h2) = suc (size_opt_expr h1 + (size_arms h2))
    size_expr_kind (rule.match_without_arms h1) = suc (size_opt_expr h1)
    size_expr_kind (rule.range_expr h1 h2) = suc (size_opt_expr h1 + (size_opt_expr h2))
    size_expr_kind rule.underscore_expr = zero
    size_expr_kind rule.include_bytes_expr = zero
    size_expr_kind rule.asm_expr = zero
    size_expr_kind rule.format_args_expr = zero
    size_expr_kind rule.callless_expr = zero
    size_expr_kind (rule.called_expr _ h2 _) = suc (size_opt_expr h2)

    pub size_fields : {a1 : LowerCtx} {a2 : List AstRecordExprField} {a3 : Fields} → FieldsAs env a1 a2 a3 → ℕ
    size_fields rule.no_fields = zero
    size_fields (rule.more_fields h1 h2) = suc (size_field h1 + (size_fields h2))

    pub size_field : {a1 : LowerCtx} {a2 : Pointer} {a3 : Option AstName} {a4 : Option AstExpr} {a5 : Field} → FieldAs env a1 a2 a3 a4 a5
        → ℕ
    size_field (rule.enabled_field _ h2) = suc (size_field_part h2)
    size_field (rule.disabled_field _ h2) = suc (size_field_part h2)

    pub size_field_part : {a1 : LowerCtx} {a2 : Pointer} {a3 : Option AstName} {a4 : Option AstExpr} {a5 : Field}
        → FieldPartAs env a1 a2 a3 a4 a5 → ℕ
    size_field_part (rule.nameless_field h1) = suc (size_opt_expr h1)
    size_field_part (rule.named_field h1) = suc (size_opt_expr h1)

    pub size_spread : {a1 : LowerCtx} {a2 : Option AstExpr} {a3 : Bool} {a4 : Spread} → SpreadAs env a1 a2 a3 a4 → ℕ
    size_spread (rule.spread_of h1) = suc (size_expr h1)
    size_spread rule.field_defaults = zero
    size_spread rule.no_spread = zero

    pub size_arms : {a1 : LowerCtx} {a2 : List AstMatchArm} {a3 : Arms} → ArmsAs env a1 a2 a3 → ℕ
    size_arms rule.no_arms = zero
    size_arms (rule.more_arms h1 h2) = suc (size_arm h1 + (size_arms h2))

    pub size_arm : {a1 : LowerCtx} {a2 : Pointer} {a3 : Option AstPat} {a4 : Option AstGuard} {a5 : Option AstExpr} {a6 : Arm}
        → ArmAs env a1 a2 a3 a4 a5 a6 → ℕ
    size_arm (rule.enabled_arm _ h2 h3 h4) = suc (size_opt_pat h2 + (size_guard h3 + (size_opt_expr h4)))
    size_arm (rule.disabled_arm _ h2 h3 h4) = suc (size_opt_pat h2 + (size_guard h3 + (size_opt_expr h4)))

    pub size_guard : {a1 : LowerCtx} {a2 : Option AstGuard} {a3 : Guard} → GuardAs env a1 a2 a3 → ℕ
    size_guard rule.no_guard = zero
    size_guard (rule.some_guard h1) = suc (size_opt_expr h1)

    pub size_own : {a1 : LowerCtx} {a2 : Option BlockModifier} {a3 : BlockExprLayer written} {a4 : Expr} → OwnAs env a1 a2 a3 a4 → ℕ
    size_own (rule.labelled _ h2) = suc (size_in_block h2)
    size_own (rule.unsafe_block h1) = suc (size_in_block h1)
    size_own (rule.try_block h1 h2) = suc (size_opt_type h1 + (size_in_block h2))
    size_own (rule.const_block h1) = suc (size_plain h1)
    size_own (rule.async_block h1) = suc (size_in_block h1)
    size_own (rule.gen_block h1) = suc (size_in_block h1)
    size_own (rule.async_gen_block h1) = suc (size_in_block h1)

    pub size_plain : {a1 : LowerCtx} {a2 : BlockExprLayer written} {a3 : Block} → PlainAs env a1 a2 a3 → ℕ
    size_plain (rule.plain_block h1) = suc (size_in_block h1)

    pub size_in_block : {a1 : LowerCtx} {a2 : BlockExprLayer written} {a3 : Option BlockId} {a4 : Stmts} {a5 : OptionExpr}
        → InBlockAs env a1 a2 a3 a4 a5 → ℕ
    size_in_block (rule.in_block _ h2) = suc (size_contents h2)
    size_in_block (rule.in_numbered _ h2) = suc (size_contents h2)

    pub size_contents : {a1 : LowerCtx} {a2 : List AstStmt} {a3 : Option AstExpr} {a4 : Defined} {a5 : Stmts} {a6 : OptionExpr}
        {a7 : Defined}
        → ContentsAs env a1 a2 a3 a4 a5 a6 a7 → ℕ
    size_contents (rule.contents h1 h2) = suc (size_stmts h1 + (size_tail h2))

    pub size_stmts : {a1 : LowerCtx} {a2 : List AstStmt} {a3 : Defined} {a4 : Stmts} {a5 : Defined} → StmtsAs env a1 a2 a3 a4 a5 → ℕ
    size_stmts rule.no_stmts = zero
    size_stmts (rule.more_stmts h1 h2) = suc (size_stmt h1 + (size_stmts h2))

    pub size_tail : {a1 : LowerCtx} {a2 : Option AstExpr} {a3 : Defined} {a4 : Stmts} {a5 : OptionExpr} {a6 : Defined}
        → TailAs env a1 a2 a3 a4 a5 a6 → ℕ
    size_tail rule.no_tail = zero
    size_tail (rule.some_tail h1) = suc (size_value h1)

    pub size_value : {a1 : LowerCtx} {a2 : Pointer} {a3 : ExprKindLayer written} {a4 : Defined} {a5 : Stmts} {a6 : OptionExpr}
        {a7 : Defined}
        → ValueAs env a1 a2 a3 a4 a5 a6 a7 → ℕ
    size_value (rule.whole_value _ h2) = suc (size_expr h2)
    size_value (rule.disabled_value _ _) = zero
    size_value (rule.callless_value _) = zero
    size_value (rule.called_value _ h2) = suc (size_splice h2)

    pub size_splice : {a1 : LowerCtx} {a2 a3 : Pointer} {a4 : Option Expanding} {a5 : Defined} {a6 : Stmts} {a7 : OptionExpr} {a8 : Defined}
        → SpliceAs env a1 a2 a3 a4 a5 a6 a7 a8 → ℕ
    size_splice rule.too_deep_for_stmts = zero
    size_splice rule.not_expanded_to_stmts = zero
    size_splice rule.not_found_for_stmts = zero
    size_splice (rule.no_stmts_in_it _) = zero
    size_splice (rule.spliced h1 _) = suc (size_contents h1)

    pub size_stmt : {a1 : LowerCtx} {a2 : Pointer} {a3 : StmtKindLayer written} {a4 : Defined} {a5 : Stmts} {a6 : Defined}
        → StmtAs env a1 a2 a3 a4 a5 a6 → ℕ
    size_stmt (rule.enabled_let _ h2 h3 h4 h5) = suc (size_opt_pat h2 + (size_opt_type h3 + (size_opt_expr h4 + (size_let_else h5))))
    size_stmt (rule.disabled_let _ h2 h3 h4 h5) = suc (size_opt_pat h2 + (size_opt_type h3 + (size_opt_expr h4 + (size_let_else h5))))
    size_stmt (rule.expr_stmt h1) = suc (size_tail h1)
    size_stmt (rule.enabled_rules _) = zero
    size_stmt (rule.nameless_rules _) = zero
    size_stmt (rule.disabled_rules _) = zero
    size_stmt (rule.enabled_def _) = zero
    size_stmt (rule.disabled_def _) = zero
    size_stmt rule.item_stmt = zero

    pub size_let_else : {a1 : LowerCtx} {a2 : Option AstLetElse} {a3 : OptionBlock} → LetElseAs env a1 a2 a3 → ℕ
    size_let_else rule.no_let_else = zero
    size_let_else (rule.some_let_else h1) = suc (size_opt_plain h1)
