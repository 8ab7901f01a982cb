-- All that is asked of a tree, also inside of what a condition disables, by the rules that it is read by.
use Rattle.std.specs.Prelude.{List, Bool, false, Option, None, is_some}
use Rattle.hir_syntax.specs.declared.ast.Expr.{Expr as AstExpr}
use Rattle.hir_syntax.specs.declared.ast.Lifetime.{Lifetime as AstLifetime}
use Rattle.hir_syntax.specs.declared.ast.Name.{Name as AstName}
use Rattle.hir_syntax.specs.declared.ast.Path.{Path as AstPath}
use Rattle.hir_syntax.specs.declared.ast.PathSegment.{PathSegment as AstPathSegment}
use Rattle.hir_syntax.specs.declared.ast.SegmentKind.{SegmentKind}
use Rattle.hir_syntax.specs.declared.pats.Pat.{Pat as AstPat}
use Rattle.hir_syntax.specs.declared.pats.RecordPatField.{RecordPatField as AstRecordPatField}
use Rattle.hir_syntax.specs.declared.types.BoundKind.{BoundKind}
use Rattle.hir_syntax.specs.declared.types.ForBinder.{ForBinder as AstForBinder}
use Rattle.hir_syntax.specs.declared.types.GenericArg.{GenericArg as AstGenericArg}
use Rattle.hir_syntax.specs.declared.types.Param.{Param as AstParam}
use Rattle.hir_syntax.specs.declared.types.PathType.{PathType as AstPathType}
use Rattle.hir_syntax.specs.declared.types.Type_.{Type_ as AstType_}
use Rattle.hir_syntax.specs.declared.types.TypeBound.{TypeBound as AstTypeBound}
use Rattle.hir_syntax.specs.declared.types.UseArg.{UseArg as AstUseArg}
use Rattle.hir_syntax.specs.declared.ast.BlockExpr.{BlockExpr as AstBlockExpr}
use Rattle.hir_syntax.specs.declared.ast.BlockModifier.{BlockModifier}
use Rattle.hir_syntax.specs.declared.ast.ElseBranch.{ElseBranch as AstElseBranch}
use Rattle.hir_syntax.specs.declared.ast.RecordExprField.{RecordExprField as AstRecordExprField}
use Rattle.hir_syntax.specs.declared.ast.Stmt.{Stmt as AstStmt}
use Rattle.hir_syntax.specs.declared.branches.MatchArm.{MatchArm as AstMatchArm}
use Rattle.hir_store.specs.declared.ids.BlockId.{BlockId}
use Rattle.hir_env.specs.ResolvedTree.{Arm, Arms, Block, Exprs, Field, Fields, Guard, OptionBlock, Params, Spread, Stmts, Arg, Args, Bound}
use Rattle.hir_env.specs.ResolvedTree.{Bounds, Constant, Expr, OptionArgs, OptionExpr, OptionParens, OptionPat, OptionPath, OptionType}
use Rattle.hir_env.specs.ResolvedTree.{Parts}
use Rattle.hir_env.specs.ResolvedTree.{Pat, PatField, PatFields, Pats, Path, Segment, Segments, Type_}
use Rattle.hir_env.specs.Answers.{Expanding}
use Rattle.hir_env.specs.Layers.{BlockExprLayer, Defined, ElseBranchLayer, ExprKindLayer, StmtKindLayer, written}
use Rattle.hir_env.specs.Wrapped.{AstGuard, AstLetElse, AstConstArg, AstRetType, AstTypeArg, AstParenArgs, AstGenericArgList}
use Rattle.hir_store.specs.Pointers.{Pointer}
use Rattle.hir_store.specs.declared.name.Name.{Name}
use Rattle.hir_env.specs.PatLayers.{PatKindLayer}
use Rattle.hir_env.specs.TypeLayers.{GenericArgLayer, TypeKindLayer}
use Rattle.hir_env.specs.declared.ctx.LowerCtx.{LowerCtx}
use Rattle.thm_reading.specs.Rules as rule
use Rattle.thm_reading.specs.Rules.{OptExprAs, LenAs, OptTypeAs, TypesAs, PartsAs, AnswerAs, FnParamsAs, TypeKindAs, OptPathAs, PathAs}
use Rattle.thm_reading.specs.Rules.{OptUseTreeAs, UseTreeAs, FirstAs, SegmentsAs, OptSegmentAs, SegmentAs, ParensAs, ArgListAs, ArgsAs}
use Rattle.thm_reading.specs.Rules.{ArgAs, BindingAs, BoundsAs, BoundAs, OptPatAs, PatsAs, PatKindAs, PatFieldsAs, PatFieldAs, PatPartAs}
use Rattle.thm_reading.specs.Rules.{ParamsAs, ExprAs, ExprsAs, OptExprsAs, ElseAs, ElseKindAs, OptPlainAs, ForBodyAs, ExprKindAs, FieldsAs}
use Rattle.thm_reading.specs.Rules.{FieldAs, FieldPartAs, SpreadAs, ArmsAs, ArmAs, GuardAs, OwnAs, PlainAs, InBlockAs, ContentsAs, StmtsAs}
use Rattle.thm_reading.specs.Rules.{TailAs, ValueAs, SpliceAs, StmtAs, LetElseAs}
use Rattle.hir_env.specs.Answers.{Answers}
use Rattle.hir_env.specs.ResolvedTree as tree
use Rattle.hir_env.specs.declared.expand.FragmentKind.TheVariants as fragments
use Rattle.thm_frame.specs.Items as item
use Rattle.thm_frame.specs.Questions as question
use Rattle.thm_reading.specs.LowerCtx.{block_node, param_node, site}
use Rattle.thm_enabled.specs.Asks.{Asks, nothing, ask, both}
use Rattle.thm_enabled.specs.Own.{alias_asked, call_asked, cfg_asked, def_asked, for_asked, jump_asked, label_asked}
use Rattle.thm_enabled.specs.Own.{local_root_asked, name_asked, names, number_asked, question_asked, range_asked, root_asked, rules_asked}
use Rattle.thm_enabled.specs.Own.{target_asked, type_pat_asked, value_asked}

module _ (env : Answers) where
  abbrev mutual
    pub whole_opt_expr : {a1 : LowerCtx} {a2 : Option AstExpr} {a3 : OptionExpr} → OptExprAs env a1 a2 a3 → Asks
    whole_opt_expr rule.no_expr = nothing
    whole_opt_expr (rule.some_expr h1) = whole_expr h1

    pub whole_len : {a1 : LowerCtx} {a2 : Option AstConstArg} {a3 : Constant} → LenAs env a1 a2 a3 → Asks
    whole_len rule.no_len = nothing
    whole_len (rule.some_len h1) = whole_opt_expr h1

    pub whole_opt_type : {a1 : LowerCtx} {a2 : Option AstType_} {a3 : OptionType} → OptTypeAs env a1 a2 a3 → Asks
    whole_opt_type rule.no_type = nothing
    whole_opt_type (rule.some_type h1) = whole_type_kind h1

    pub whole_types : {a1 : LowerCtx} {a2 : List AstType_} {a3 : Parts} → TypesAs env a1 a2 a3 → Asks
    whole_types rule.no_types = nothing
    whole_types (rule.more_types h1 h2) = both (whole_opt_type h1) (whole_types h2)

    pub whole_parts : {a1 : LowerCtx} {a2 : List AstTypeArg} {a3 : Parts} → PartsAs env a1 a2 a3 → Asks
    whole_parts rule.no_parts = nothing
    whole_parts (rule.more_parts h1 h2) = both (whole_opt_type h1) (whole_parts h2)

    pub whole_answer : {a1 : LowerCtx} {a2 : Option AstRetType} {a3 : OptionType} → AnswerAs env a1 a2 a3 → Asks
    whole_answer rule.no_answer = nothing
    whole_answer (rule.answer_type h1) = whole_opt_type h1

    pub whole_fn_params : {a1 : LowerCtx} {a2 : List AstParam} {a3 : List (Option Name)} {a4 : Parts} → FnParamsAs env a1 a2 a3 a4 → Asks
    whole_fn_params rule.no_params = nothing
    whole_fn_params (rule.variadic_param _ h2) = whole_fn_params h2
    whole_fn_params (rule.fn_param _ h2 h3 h4) = both (whole_opt_pat h2) (both (whole_opt_type h3) (whole_fn_params h4))

    pub whole_type_kind : {a1 : LowerCtx} {a2 : Pointer} {a3 : TypeKindLayer written} {a4 : Type_} → TypeKindAs env a1 a2 a3 a4 → Asks
    whole_type_kind (rule.paren_type h1) = whole_opt_type h1
    whole_type_kind (rule.slice_type h1) = whole_opt_type h1
    whole_type_kind (rule.array_type h1 h2) = both (whole_opt_type h1) (whole_len h2)
    whole_type_kind (rule.tuple_type h1) = whole_types h1
    whole_type_kind (rule.path_type h1) = whole_opt_path h1
    whole_type_kind (rule.ptr_type h1) = whole_opt_type h1
    whole_type_kind (rule.ref_type h1) = whole_opt_type h1
    whole_type_kind (rule.fn_type h1 h2) = both (whole_fn_params h1) (whole_answer h2)
    whole_type_kind (rule.fn_without_list h1) = whole_answer h1
    whole_type_kind (rule.for_type h1) = whole_opt_type h1
    whole_type_kind (rule.impl_type _ h2) = whole_bounds h2
    whole_type_kind (rule.impl_in_impl _) = nothing
    whole_type_kind (rule.dyn_type h1) = whole_bounds h1
    whole_type_kind (rule.pattern_type {y = y} h1 h2) = both (type_pat_asked y) (both (whole_opt_type h1) (whole_opt_pat h2))
    whole_type_kind rule.never_type = nothing
    whole_type_kind rule.infer_type = nothing
    whole_type_kind rule.callless_type = nothing
    whole_type_kind (rule.called_type {p = p} {c = c} _ h2) = both (call_asked p c fragments.Type_) (whole_opt_type h2)

    pub whole_opt_path : {a1 : LowerCtx} {a2 : Option AstPath} {a3 : OptionPath} → OptPathAs env a1 a2 a3 → Asks
    whole_opt_path rule.no_path = nothing
    whole_opt_path (rule.some_path h1) = whole_path h1

    pub whole_path : {a1 : LowerCtx} {a2 a3 : Bool} {a4 : List (Option AstPathSegment)} {a5 : Option AstPath} {a6 : Path}
        → PathAs env a1 a2 a3 a4 a5 a6 → Asks
    whole_path (rule.path {p = p} {leading = leading} {f = f} {r = r} {u = u} _ h2 h3 _) = both (alias_asked env p p.lifetimes (names
        (tree.path None leading f r u))) (both (whole_first h2) (whole_opt_use_tree h3))
    whole_path (rule.broken_path {p = p} _ _) = alias_asked env p p.lifetimes (names
        (tree.path None false tree.broken_segment tree.no_segments tree.no_path))
    whole_path (rule.root_path {p = p} {leading = leading} {s = s} {f = f} {r = r} {u = u} _ h2 _ _) = both (both
        (local_root_asked env p s) (alias_asked env p p.lifetimes (names (tree.path None leading f r u)))) (whole_first h2)

    pub whole_opt_use_tree : {a1 : LowerCtx} {a2 : Option AstPath} {a3 : OptionPath} → OptUseTreeAs env a1 a2 a3 → Asks
    whole_opt_use_tree rule.no_use_tree = nothing
    whole_opt_use_tree (rule.some_use_tree h1) = whole_use_tree h1

    pub whole_use_tree : {a1 : LowerCtx} {a2 : Bool} {a3 : List (Option AstPathSegment)} {a4 : Option AstPath} {a5 : Path}
        → UseTreeAs env a1 a2 a3 a4 a5 → Asks
    whole_use_tree (rule.use_tree h1 h2) = both (whole_first h1) (whole_opt_use_tree h2)

    pub whole_first : {a1 : LowerCtx} {a2 : List (Option AstPathSegment)} {a3 : Segment} {a4 : Segments} → FirstAs env a1 a2 a3 a4 → Asks
    whole_first rule.none_first = nothing
    whole_first (rule.some_first h1 h2) = both (whole_opt_segment h1) (whole_segments h2)

    pub whole_segments : {a1 : LowerCtx} {a2 : List (Option AstPathSegment)} {a3 : Segments} → SegmentsAs env a1 a2 a3 → Asks
    whole_segments rule.no_segments = nothing
    whole_segments (rule.more_segments h1 h2) = both (whole_opt_segment h1) (whole_segments h2)

    pub whole_opt_segment : {a1 : LowerCtx} {a2 : Option AstPathSegment} {a3 : Segment} → OptSegmentAs env a1 a2 a3 → Asks
    whole_opt_segment rule.absent_segment = nothing
    whole_opt_segment (rule.some_segment h1) = whole_segment h1

    pub whole_segment : {a1 : LowerCtx} {a2 : Option SegmentKind} {a3 : Option AstName} {a4 : Option AstGenericArgList}
        {a5 : Option AstParenArgs} {a6 : Option AstRetType} {a7 : Bool} {a8 : Option AstType_} {a9 : Option AstPathType} {a10 : Segment}
        → SegmentAs env a1 a2 a3 a4 a5 a6 a7 a8 a9 a10 → Asks
    whole_segment rule.kindless = nothing
    whole_segment rule.nameless = nothing
    whole_segment (rule.named _ h2 h3) = both (whole_arg_list h2) (whole_parens h3)
    whole_segment (rule.dollar_crate {p = p} {n = n} _) = root_asked env p n.id
    whole_segment rule.self = nothing
    whole_segment rule.crate = nothing
    whole_segment rule.super = nothing
    whole_segment rule.self_type = nothing
    whole_segment rule.untyped = nothing
    whole_segment (rule.of_type h1) = whole_opt_type h1
    whole_segment (rule.of_trait h1 h2) = both (whole_opt_type h1) (whole_opt_path h2)

    pub whole_parens : {a1 : LowerCtx} {a2 : Option AstParenArgs} {a3 : Option AstRetType} {a4 : OptionParens} → ParensAs env a1 a2 a3 a4
        → Asks
    whole_parens rule.no_parens = nothing
    whole_parens (rule.without_answer h1) = whole_parts h1
    whole_parens (rule.with_answer h1 h2) = both (whole_parts h1) (whole_opt_type h2)

    pub whole_arg_list : {a1 : LowerCtx} {a2 : Option AstGenericArgList} {a3 : OptionArgs} → ArgListAs env a1 a2 a3 → Asks
    whole_arg_list rule.no_list = nothing
    whole_arg_list (rule.some_list h1) = whole_args h1

    pub whole_args : {a1 : LowerCtx} {a2 : List AstGenericArg} {a3 : Args} → ArgsAs env a1 a2 a3 → Asks
    whole_args rule.no_args = nothing
    whole_args (rule.more_args h1 h2) = both (whole_arg h1) (whole_args h2)

    pub whole_arg : {a1 : LowerCtx} {a2 : GenericArgLayer written} {a3 : Arg} → ArgAs env a1 a2 a3 → Asks
    whole_arg (rule.type_arg h1) = whole_opt_type h1
    whole_arg (rule.lifetime_arg _) = nothing
    whole_arg (rule.lacking_lifetime _) = nothing
    whole_arg (rule.const_arg h1) = whole_opt_expr h1
    whole_arg (rule.assoc_arg h1) = whole_binding h1

    pub whole_binding : {a1 : LowerCtx} {a2 : Bool} {a3 : Option AstName} {a4 : Option AstGenericArgList} {a5 : Bool} {a6 : Option AstType_}
        {a7 : List AstTypeBound} {a8 : Arg} → BindingAs env a1 a2 a3 a4 a5 a6 a7 a8 → Asks
    whole_binding rule.with_list = nothing
    whole_binding rule.unnamed = nothing
    whole_binding (rule.binding h1 h2 h3) = both (whole_arg_list h1) (both (whole_opt_type h2) (whole_bounds h3))

    pub whole_bounds : {a1 : LowerCtx} {a2 : List AstTypeBound} {a3 : Bounds} → BoundsAs env a1 a2 a3 → Asks
    whole_bounds rule.no_bounds = nothing
    whole_bounds (rule.more_bounds h1 h2) = both (whole_bound h1) (whole_bounds h2)

    pub whole_bound : {a1 : LowerCtx} {a2 : Option BoundKind} {a3 : Option AstPathType} {a4 : Bool} {a5 : Option AstForBinder}
        {a6 : Option AstLifetime} {a7 : List AstUseArg} {a8 : Bound} → BoundAs env a1 a2 a3 a4 a5 a6 a7 a8 → Asks
    whole_bound (rule.path_bound h1) = whole_opt_path h1
    whole_bound rule.lifetime_bound = nothing
    whole_bound rule.use_bound = nothing
    whole_bound rule.kindless_bound = nothing
    whole_bound rule.pathless_bound = nothing
    whole_bound rule.lacking_bound = nothing

    pub whole_opt_pat : {a1 : LowerCtx} {a2 : Option AstPat} {a3 : OptionPat} → OptPatAs env a1 a2 a3 → Asks
    whole_opt_pat rule.no_pat = nothing
    whole_opt_pat (rule.some_pat h1) = whole_pat_kind h1

    pub whole_pats : {a1 : LowerCtx} {a2 : List AstPat} {a3 : Pats} → PatsAs env a1 a2 a3 → Asks
    whole_pats rule.no_pats = nothing
    whole_pats (rule.more_pats h1 h2) = both (whole_pat_kind h1) (whole_pats h2)

    pub whole_pat_kind : {a1 : LowerCtx} {a2 : Pointer} {a3 : PatKindLayer written} {a4 : Pat} → PatKindAs env a1 a2 a3 a4 → Asks
    whole_pat_kind (rule.value_pat {p = p} {n = n} _ _) = both (value_asked p n) (name_asked p n)
    whole_pat_kind (rule.plain_pat {p = p} {n = n} _ _) = both (value_asked p n) (name_asked p n)
    whole_pat_kind (rule.ref_pat_of {p = p} {n = n} _ h2) = both (name_asked p n) (whole_opt_pat h2)
    whole_pat_kind (rule.mut_pat {p = p} {n = n} _ h2) = both (name_asked p n) (whole_opt_pat h2)
    whole_pat_kind (rule.sub_pat {p = p} {n = n} _ h2) = both (name_asked p n) (whole_opt_pat h2)
    whole_pat_kind (rule.tuple_struct_pat h1 h2) = both (whole_opt_path h1) (whole_pats h2)
    whole_pat_kind (rule.tuple_pat h1) = whole_pats h1
    whole_pat_kind (rule.ref_pat h1) = whole_opt_pat h1
    whole_pat_kind (rule.path_pat h1) = whole_opt_path h1
    whole_pat_kind (rule.or_pat h1) = whole_pats h1
    whole_pat_kind (rule.paren_pat h1) = whole_opt_pat h1
    whole_pat_kind (rule.box_pat h1) = whole_opt_pat h1
    whole_pat_kind (rule.deref_pat h1) = whole_opt_pat h1
    whole_pat_kind (rule.record_pat h1 h2) = both (whole_opt_path h1) (whole_pat_fields h2)
    whole_pat_kind (rule.slice_pat h1 h2 h3) = both (whole_pats h1) (both (whole_opt_pat h2) (whole_pats h3))
    whole_pat_kind rule.lacking_literal = nothing
    whole_pat_kind (rule.literal_pat _) = nothing
    whole_pat_kind (rule.broken_literal _) = nothing
    whole_pat_kind (rule.range_pat h1 h2) = both (whole_opt_pat h1) (whole_opt_pat h2)
    whole_pat_kind (rule.cfg_pat {c = c}) = ask (question.of_cfg_pred c)
    whole_pat_kind rule.callless_pat = nothing
    whole_pat_kind (rule.called_pat {p = p} {c = c} _ h2) = both (call_asked p c fragments.Pat) (whole_opt_pat h2)
    whole_pat_kind rule.wild_pat = nothing
    whole_pat_kind rule.rest_pat = nothing
    whole_pat_kind rule.not_null_pat = nothing
    whole_pat_kind rule.const_block_pat = nothing

    pub whole_pat_fields : {a1 : LowerCtx} {a2 : List AstRecordPatField} {a3 : PatFields} → PatFieldsAs env a1 a2 a3 → Asks
    whole_pat_fields rule.no_pat_fields = nothing
    whole_pat_fields (rule.more_pat_fields h1 h2) = both (whole_pat_field h1) (whole_pat_fields h2)

    pub whole_pat_field : {a1 : LowerCtx} {a2 : Pointer} {a3 : Option AstName} {a4 : Option AstPat} {a5 : PatField}
        → PatFieldAs env a1 a2 a3 a4 a5 → Asks
    whole_pat_field (rule.enabled_pat_field {s = s} _ h2) = both (cfg_asked s) (whole_pat_part h2)
    whole_pat_field (rule.disabled_pat_field {s = s} _ h2) = both (cfg_asked s) (whole_pat_part h2)

    pub whole_pat_part : {a1 : LowerCtx} {a2 : Pointer} {a3 : Option AstName} {a4 : Option AstPat} {a5 : PatField}
        → PatPartAs env a1 a2 a3 a4 a5 → Asks
    whole_pat_part rule.partless_pat_field = nothing
    whole_pat_part (rule.pat_field h1) = whole_pat_kind h1

    pub whole_params : {a1 : LowerCtx} {a2 : Option (List AstParam)} {a3 : Params} → ParamsAs env a1 a2 a3 → Asks
    whole_params rule.without_params = nothing
    whole_params rule.last_param = nothing
    whole_params (rule.enabled_param {p = p} {x = x} _ h2 h3 h4) = both (cfg_asked (param_node p x)) (both (whole_opt_pat h2) (both
        (whole_opt_type h3) (whole_params h4)))
    whole_params (rule.disabled_param {p = p} {x = x} _ h2 h3 h4) = both (cfg_asked (param_node p x)) (both (whole_opt_pat h2) (both
        (whole_opt_type h3) (whole_params h4)))

    pub whole_expr : {a1 : LowerCtx} {a2 : Pointer} {a3 : ExprKindLayer written} {a4 : Expr} → ExprAs env a1 a2 a3 a4 → Asks
    whole_expr (rule.enabled {s = s} _ h2) = both (cfg_asked s) (whole_expr_kind h2)
    whole_expr (rule.disabled {s = s} _ h2) = both (cfg_asked s) (whole_expr_kind h2)

    pub whole_exprs : {a1 : LowerCtx} {a2 : List AstExpr} {a3 : Exprs} → ExprsAs env a1 a2 a3 → Asks
    whole_exprs rule.no_exprs = nothing
    whole_exprs (rule.more_exprs h1 h2) = both (whole_expr h1) (whole_exprs h2)

    pub whole_opt_exprs : {a1 : LowerCtx} {a2 : Option (List AstExpr)} {a3 : Exprs} → OptExprsAs env a1 a2 a3 → Asks
    whole_opt_exprs rule.without_exprs = nothing
    whole_opt_exprs (rule.with_exprs h1) = whole_exprs h1

    pub whole_else : {a1 : LowerCtx} {a2 : Option AstElseBranch} {a3 : OptionExpr} → ElseAs env a1 a2 a3 → Asks
    whole_else rule.no_else = nothing
    whole_else (rule.some_else h1) = whole_else_kind h1

    pub whole_else_kind : {a1 : LowerCtx} {a2 : ElseBranchLayer written} {a3 : Expr} → ElseKindAs env a1 a2 a3 → Asks
    whole_else_kind (rule.else_block h1) = whole_plain h1
    whole_else_kind (rule.else_if h1) = whole_expr h1

    pub whole_opt_plain : {a1 : LowerCtx} {a2 : Option AstBlockExpr} {a3 : OptionBlock} → OptPlainAs env a1 a2 a3 → Asks
    whole_opt_plain rule.no_block = nothing
    whole_opt_plain (rule.some_block h1) = whole_plain h1

    pub whole_for_body : {a1 : LowerCtx} {a2 : Option AstBlockExpr} {a3 : OptionExpr} → ForBodyAs env a1 a2 a3 → Asks
    whole_for_body rule.no_body = nothing
    whole_for_body (rule.enabled_body {p = p} {b = b} _ h2) = both (cfg_asked (block_node p b)) (whole_own h2)
    whole_for_body (rule.disabled_body {p = p} {b = b} _ h2) = both (cfg_asked (block_node p b)) (whole_own h2)

    pub whole_expr_kind : {a1 : LowerCtx} {a2 : Pointer} {a3 : ExprKindLayer written} {a4 : Expr} → ExprKindAs env a1 a2 a3 a4 → Asks
    whole_expr_kind (rule.if_expr h1 h2 h3) = both (whole_opt_expr h1) (both (whole_opt_plain h2) (whole_else h3))
    whole_expr_kind (rule.block_expr h1) = whole_own h1
    whole_expr_kind (rule.loop_expr {p = p} {l = l} _ h2) = both (label_asked p l) (whole_opt_plain h2)
    whole_expr_kind (rule.while_expr {p = p} {l = l} _ h2 h3) = both (label_asked p l) (both (whole_opt_expr h2) (whole_opt_plain h3))
    whole_expr_kind (rule.for_expr {p = p} {l = l} _ _ h3 h4 h5) = both (both for_asked (label_asked p l)) (both (whole_opt_pat h3) (both
        (whole_opt_expr h4) (whole_for_body h5)))
    whole_expr_kind (rule.itemless_for _) = for_asked
    whole_expr_kind (rule.question_expr _ h2) = both question_asked (whole_opt_expr h2)
    whole_expr_kind (rule.itemless_question _) = question_asked
    whole_expr_kind (rule.call_expr h1 h2) = both (whole_opt_expr h1) (whole_opt_exprs h2)
    whole_expr_kind (rule.path_expr {s = s} h1) = both (ask (question.of_hygiene (site s))) (whole_opt_path h1)
    whole_expr_kind (rule.continue_expr {p = p} {l = l}) = jump_asked p l
    whole_expr_kind (rule.break_expr {p = p} {l = l} h1) = both (jump_asked p l) (whole_opt_expr h1)
    whole_expr_kind (rule.paren_expr h1) = whole_opt_expr h1
    whole_expr_kind rule.literal_expr = nothing
    whole_expr_kind (rule.method_call_expr h1 h2 h3) = both (whole_opt_expr h1) (both (whole_opt_exprs h2) (whole_arg_list h3))
    whole_expr_kind (rule.field_expr h1) = whole_opt_expr h1
    whole_expr_kind (rule.prefix_expr h1) = whole_opt_expr h1
    whole_expr_kind (rule.nameless_expr h1) = whole_opt_expr h1
    whole_expr_kind (rule.logic_expr h1 h2) = both (whole_opt_expr h1) (whole_opt_expr h2)
    whole_expr_kind (rule.assign_expr {p = p} {x = x} h1 _ h2) = both (target_asked p x) (both (whole_opt_expr h1) (whole_opt_expr h2))
    whole_expr_kind (rule.operator_expr _ h2 h3) = both (whole_opt_expr h2) (whole_opt_expr h3)
    whole_expr_kind (rule.index_expr h1 h2) = both (whole_opt_expr h1) (whole_opt_expr h2)
    whole_expr_kind (rule.ref_expr h1) = whole_opt_expr h1
    whole_expr_kind (rule.tuple_expr h1) = whole_exprs h1
    whole_expr_kind (rule.array_expr h1) = whole_exprs h1
    whole_expr_kind (rule.repeat_expr h1 h2) = both (whole_opt_expr h1) (whole_opt_expr h2)
    whole_expr_kind (rule.closure_expr h1 h2 h3) = both (whole_params h1) (both (whole_answer h2) (whole_opt_expr h3))
    whole_expr_kind (rule.gen_closure h1 h2 h3) = both (whole_params h1) (both (whole_answer h2) (whole_opt_expr h3))
    whole_expr_kind (rule.async_closure h1 h2 h3) = both (whole_params h1) (both (whole_answer h2) (whole_opt_expr h3))
    whole_expr_kind (rule.async_gen_closure h1 h2 h3) = both (whole_params h1) (both (whole_answer h2) (whole_opt_expr h3))
    whole_expr_kind (rule.return_expr h1) = whole_opt_expr h1
    whole_expr_kind (rule.yeet_expr h1) = whole_opt_expr h1
    whole_expr_kind (rule.become_expr h1) = whole_opt_expr h1
    whole_expr_kind (rule.yield_expr h1) = whole_opt_expr h1
    whole_expr_kind (rule.await_expr h1) = whole_opt_expr h1
    whole_expr_kind (rule.cast_expr h1 h2) = both (whole_opt_expr h1) (whole_opt_type h2)
    whole_expr_kind (rule.record_expr h1 h2 h3) = both (whole_opt_path h1) (both (whole_fields h2) (whole_spread h3))
    whole_expr_kind (rule.record_without_list h1) = whole_opt_path h1
    whole_expr_kind (rule.offset_of_expr h1) = whole_opt_type h1
    whole_expr_kind (rule.cfg_expr {c = c}) = ask (question.of_cfg_pred c)
    whole_expr_kind (rule.let_expr h1 h2) = both (whole_opt_pat h1) (whole_opt_expr h2)
    whole_expr_kind (rule.match_expr h1 h2) = both (whole_opt_expr h1) (whole_arms h2)
    whole_expr_kind (rule.match_without_arms h1) = whole_opt_expr h1
    whole_expr_kind (rule.range_expr {p = p} {o = o} {a = a} {b = b} h1 h2) = both (range_asked env p o (is_some a) (is_some b)) (both
        (whole_opt_expr h1) (whole_opt_expr h2))
    whole_expr_kind rule.underscore_expr = nothing
    whole_expr_kind rule.include_bytes_expr = nothing
    whole_expr_kind rule.asm_expr = nothing
    whole_expr_kind rule.format_args_expr = nothing
    whole_expr_kind rule.callless_expr = nothing
    whole_expr_kind (rule.called_expr {p = p} {c = c} _ h2 _) = both (call_asked p c fragments.Expr) (whole_opt_expr h2)

    pub whole_fields : {a1 : LowerCtx} {a2 : List AstRecordExprField} {a3 : Fields} → FieldsAs env a1 a2 a3 → Asks
    whole_fields rule.no_fields = nothing
    whole_fields (rule.more_fields h1 h2) = both (whole_field h1) (whole_fields h2)

    pub whole_field : {a1 : LowerCtx} {a2 : Pointer} {a3 : Option AstName} {a4 : Option AstExpr} {a5 : Field} → FieldAs env a1 a2 a3 a4 a5
        → Asks
    whole_field (rule.enabled_field {s = s} _ h2) = both (cfg_asked s) (whole_field_part h2)
    whole_field (rule.disabled_field {s = s} _ h2) = both (cfg_asked s) (whole_field_part h2)

    pub whole_field_part : {a1 : LowerCtx} {a2 : Pointer} {a3 : Option AstName} {a4 : Option AstExpr} {a5 : Field}
        → FieldPartAs env a1 a2 a3 a4 a5 → Asks
    whole_field_part (rule.nameless_field h1) = whole_opt_expr h1
    whole_field_part (rule.named_field h1) = whole_opt_expr h1

    pub whole_spread : {a1 : LowerCtx} {a2 : Option AstExpr} {a3 : Bool} {a4 : Spread} → SpreadAs env a1 a2 a3 a4 → Asks
    whole_spread (rule.spread_of h1) = whole_expr h1
    whole_spread rule.field_defaults = nothing
    whole_spread rule.no_spread = nothing

    pub whole_arms : {a1 : LowerCtx} {a2 : List AstMatchArm} {a3 : Arms} → ArmsAs env a1 a2 a3 → Asks
    whole_arms rule.no_arms = nothing
    whole_arms (rule.more_arms h1 h2) = both (whole_arm h1) (whole_arms h2)

    pub whole_arm : {a1 : LowerCtx} {a2 : Pointer} {a3 : Option AstPat} {a4 : Option AstGuard} {a5 : Option AstExpr} {a6 : Arm}
        → ArmAs env a1 a2 a3 a4 a5 a6 → Asks
    whole_arm (rule.enabled_arm {s = s} _ h2 h3 h4) = both (cfg_asked s) (both (whole_opt_pat h2) (both (whole_guard h3)
        (whole_opt_expr h4)))
    whole_arm (rule.disabled_arm {s = s} _ h2 h3 h4) = both (cfg_asked s) (both (whole_opt_pat h2) (both (whole_guard h3)
        (whole_opt_expr h4)))

    pub whole_guard : {a1 : LowerCtx} {a2 : Option AstGuard} {a3 : Guard} → GuardAs env a1 a2 a3 → Asks
    whole_guard rule.no_guard = nothing
    whole_guard (rule.some_guard h1) = whole_opt_expr h1

    pub whole_own : {a1 : LowerCtx} {a2 : Option BlockModifier} {a3 : BlockExprLayer written} {a4 : Expr} → OwnAs env a1 a2 a3 a4 → Asks
    whole_own (rule.labelled {p = p} {b = b} _ h2) = both (label_asked p b.label) (whole_in_block h2)
    whole_own (rule.unsafe_block h1) = whole_in_block h1
    whole_own (rule.try_block h1 h2) = both (ask (question.of_lang_item item.try_trait_from_output)) (both (whole_opt_type h1)
        (whole_in_block h2))
    whole_own (rule.const_block h1) = whole_plain h1
    whole_own (rule.async_block h1) = whole_in_block h1
    whole_own (rule.gen_block h1) = whole_in_block h1
    whole_own (rule.async_gen_block h1) = whole_in_block h1

    pub whole_plain : {a1 : LowerCtx} {a2 : BlockExprLayer written} {a3 : Block} → PlainAs env a1 a2 a3 → Asks
    whole_plain (rule.plain_block h1) = whole_in_block h1

    pub whole_in_block : {a1 : LowerCtx} {a2 : BlockExprLayer written} {a3 : Option BlockId} {a4 : Stmts} {a5 : OptionExpr}
        → InBlockAs env a1 a2 a3 a4 a5 → Asks
    whole_in_block (rule.in_block {p = p} {b = b} _ h2) = both (number_asked p b.id) (whole_contents h2)
    whole_in_block (rule.in_numbered {p = p} {b = b} _ h2) = both (number_asked p b.id) (whole_contents h2)

    pub whole_contents : {a1 : LowerCtx} {a2 : List AstStmt} {a3 : Option AstExpr} {a4 : Defined} {a5 : Stmts} {a6 : OptionExpr}
        {a7 : Defined} → ContentsAs env a1 a2 a3 a4 a5 a6 a7 → Asks
    whole_contents (rule.contents h1 h2) = both (whole_stmts h1) (whole_tail h2)

    pub whole_stmts : {a1 : LowerCtx} {a2 : List AstStmt} {a3 : Defined} {a4 : Stmts} {a5 : Defined} → StmtsAs env a1 a2 a3 a4 a5 → Asks
    whole_stmts rule.no_stmts = nothing
    whole_stmts (rule.more_stmts h1 h2) = both (whole_stmt h1) (whole_stmts h2)

    pub whole_tail : {a1 : LowerCtx} {a2 : Option AstExpr} {a3 : Defined} {a4 : Stmts} {a5 : OptionExpr} {a6 : Defined}
        → TailAs env a1 a2 a3 a4 a5 a6 → Asks
    whole_tail rule.no_tail = nothing
    whole_tail (rule.some_tail h1) = whole_value h1

    pub whole_value : {a1 : LowerCtx} {a2 : Pointer} {a3 : ExprKindLayer written} {a4 : Defined} {a5 : Stmts} {a6 : OptionExpr}
        {a7 : Defined} → ValueAs env a1 a2 a3 a4 a5 a6 a7 → Asks
    whole_value (rule.whole_value _ h2) = whole_expr h2
    whole_value (rule.disabled_value {s = s} _ _) = cfg_asked s
    whole_value (rule.callless_value {s = s} _) = cfg_asked s
    whole_value (rule.called_value {p = p} {s = s} {c = c} _ h2) = both (both (cfg_asked s) (call_asked p c fragments.Stmts))
        (whole_splice h2)

    pub whole_splice : {a1 : LowerCtx} {a2 a3 : Pointer} {a4 : Option Expanding} {a5 : Defined} {a6 : Stmts} {a7 : OptionExpr}
        {a8 : Defined}
        → SpliceAs env a1 a2 a3 a4 a5 a6 a7 a8 → Asks
    whole_splice rule.too_deep_for_stmts = nothing
    whole_splice rule.not_expanded_to_stmts = nothing
    whole_splice rule.not_found_for_stmts = nothing
    whole_splice (rule.no_stmts_in_it _) = nothing
    whole_splice (rule.spliced h1 _) = whole_contents h1

    pub whole_stmt : {a1 : LowerCtx} {a2 : Pointer} {a3 : StmtKindLayer written} {a4 : Defined} {a5 : Stmts} {a6 : Defined}
        → StmtAs env a1 a2 a3 a4 a5 a6 → Asks
    whole_stmt (rule.enabled_let {s = s} _ h2 h3 h4 h5) = both (cfg_asked s) (both (whole_opt_pat h2) (both (whole_opt_type h3) (both
        (whole_opt_expr h4) (whole_let_else h5))))
    whole_stmt (rule.disabled_let {s = s} _ h2 h3 h4 h5) = both (cfg_asked s) (both (whole_opt_pat h2) (both (whole_opt_type h3) (both
        (whole_opt_expr h4) (whole_let_else h5))))
    whole_stmt (rule.expr_stmt h1) = whole_tail h1
    whole_stmt (rule.enabled_rules {p = p} {s = s} {n = n} {d = d} _) = both (cfg_asked s) (rules_asked p n d)
    whole_stmt (rule.nameless_rules {s = s} _) = cfg_asked s
    whole_stmt (rule.disabled_rules {s = s} _) = cfg_asked s
    whole_stmt (rule.enabled_def {p = p} {s = s} {n = n} _) = both (cfg_asked s) (def_asked p n)
    whole_stmt (rule.disabled_def {p = p} {s = s} {n = n} _) = both (cfg_asked s) (def_asked p n)
    whole_stmt rule.item_stmt = nothing

    pub whole_let_else : {a1 : LowerCtx} {a2 : Option AstLetElse} {a3 : OptionBlock} → LetElseAs env a1 a2 a3 → Asks
    whole_let_else rule.no_let_else = nothing
    whole_let_else (rule.some_let_else h1) = whole_opt_plain h1
