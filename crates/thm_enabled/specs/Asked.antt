-- What is asked of a tree outside of what a condition disables: of a disabled part that condition alone. Nothing is left out in types,
-- paths and patterns, and on the left of an assignment, where conditions aren't asked for.
use Rattle.std.specs.Prelude.{List, Bool, Option, is_some}
use Rattle.hir_syntax.specs.declared.ast.Expr.{Expr as AstExpr}
use Rattle.hir_syntax.specs.declared.ast.Name.{Name as AstName}
use Rattle.hir_syntax.specs.declared.pats.Pat.{Pat as AstPat}
use Rattle.hir_syntax.specs.declared.types.Param.{Param as AstParam}
use Rattle.hir_syntax.specs.declared.ast.BlockExpr.{BlockExpr as AstBlockExpr}
use Rattle.hir_syntax.specs.declared.ast.BlockModifier.{BlockModifier}
use Rattle.hir_syntax.specs.declared.ast.ElseBranch.{ElseBranch as AstElseBranch}
use Rattle.hir_syntax.specs.declared.ast.RecordExprField.{RecordExprField as AstRecordExprField}
use Rattle.hir_syntax.specs.declared.ast.Stmt.{Stmt as AstStmt}
use Rattle.hir_syntax.specs.declared.branches.MatchArm.{MatchArm as AstMatchArm}
use Rattle.hir_store.specs.declared.ids.BlockId.{BlockId}
use Rattle.hir_env.specs.ResolvedTree.{Arm, Arms, Block, Exprs, Field, Fields, Guard, OptionBlock, Params, Spread, Stmts}
use Rattle.hir_env.specs.ResolvedTree.{Expr, OptionExpr}
use Rattle.hir_env.specs.Answers.{Expanding}
use Rattle.hir_env.specs.Layers.{BlockExprLayer, Defined, ElseBranchLayer, ExprKindLayer, StmtKindLayer, written}
use Rattle.hir_env.specs.Wrapped.{AstGuard, AstLetElse}
use Rattle.hir_store.specs.Pointers.{Pointer}
use Rattle.hir_env.specs.declared.ctx.LowerCtx.{LowerCtx}
use Rattle.thm_reading.specs.Rules as rule
use Rattle.thm_reading.specs.Rules.{OptExprAs}
use Rattle.thm_reading.specs.Rules.{ParamsAs, ExprAs, ExprsAs, OptExprsAs, ElseAs, ElseKindAs, OptPlainAs, ForBodyAs, ExprKindAs, FieldsAs}
use Rattle.thm_reading.specs.Rules.{FieldAs, FieldPartAs, SpreadAs, ArmsAs, ArmAs, GuardAs, OwnAs, PlainAs, InBlockAs, ContentsAs, StmtsAs}
use Rattle.thm_reading.specs.Rules.{TailAs, ValueAs, SpliceAs, StmtAs, LetElseAs}
use Rattle.hir_env.specs.Answers.{Answers}
use Rattle.hir_env.specs.declared.expand.FragmentKind.TheVariants as fragments
use Rattle.thm_frame.specs.Items as item
use Rattle.thm_frame.specs.Questions as question
use Rattle.thm_reading.specs.LowerCtx.{block_node, param_node, site}
use Rattle.thm_enabled.specs.Asks.{Asks, nothing, ask, both}
use Rattle.thm_enabled.specs.Own.{call_asked, cfg_asked, def_asked, for_asked, jump_asked, label_asked}
use Rattle.thm_enabled.specs.Own.{number_asked, question_asked, range_asked, rules_asked}
use Rattle.thm_enabled.specs.Own.{target_asked}
use Rattle.thm_enabled.specs.Whole.{whole_opt_expr, whole_opt_type, whole_opt_pat, whole_opt_path, whole_answer, whole_arg_list}

module _ (env : Answers) where
  abbrev mutual
    pub asked_opt_expr : {a1 : LowerCtx} {a2 : Option AstExpr} {a3 : OptionExpr} → OptExprAs env a1 a2 a3 → Asks
    asked_opt_expr rule.no_expr = nothing
    asked_opt_expr (rule.some_expr h1) = asked_expr h1

    pub asked_params : {a1 : LowerCtx} {a2 : Option (List AstParam)} {a3 : Params} → ParamsAs env a1 a2 a3 → Asks
    asked_params rule.without_params = nothing
    asked_params rule.last_param = nothing
    asked_params (rule.enabled_param {p = p} {x = x} _ h2 h3 h4) = both (cfg_asked (param_node p x)) (both (whole_opt_pat env h2) (both
        (whole_opt_type env h3) (asked_params h4)))
    asked_params (rule.disabled_param {p = p} {x = x} _ _ _ h4) = both (cfg_asked (param_node p x)) (asked_params h4)

    pub asked_expr : {a1 : LowerCtx} {a2 : Pointer} {a3 : ExprKindLayer written} {a4 : Expr} → ExprAs env a1 a2 a3 a4 → Asks
    asked_expr (rule.enabled {s = s} _ h2) = both (cfg_asked s) (asked_expr_kind h2)
    asked_expr (rule.disabled {s = s} _ _) = cfg_asked s

    pub asked_exprs : {a1 : LowerCtx} {a2 : List AstExpr} {a3 : Exprs} → ExprsAs env a1 a2 a3 → Asks
    asked_exprs rule.no_exprs = nothing
    asked_exprs (rule.more_exprs h1 h2) = both (asked_expr h1) (asked_exprs h2)

    pub asked_opt_exprs : {a1 : LowerCtx} {a2 : Option (List AstExpr)} {a3 : Exprs} → OptExprsAs env a1 a2 a3 → Asks
    asked_opt_exprs rule.without_exprs = nothing
    asked_opt_exprs (rule.with_exprs h1) = asked_exprs h1

    pub asked_else : {a1 : LowerCtx} {a2 : Option AstElseBranch} {a3 : OptionExpr} → ElseAs env a1 a2 a3 → Asks
    asked_else rule.no_else = nothing
    asked_else (rule.some_else h1) = asked_else_kind h1

    pub asked_else_kind : {a1 : LowerCtx} {a2 : ElseBranchLayer written} {a3 : Expr} → ElseKindAs env a1 a2 a3 → Asks
    asked_else_kind (rule.else_block h1) = asked_plain h1
    asked_else_kind (rule.else_if h1) = asked_expr h1

    pub asked_opt_plain : {a1 : LowerCtx} {a2 : Option AstBlockExpr} {a3 : OptionBlock} → OptPlainAs env a1 a2 a3 → Asks
    asked_opt_plain rule.no_block = nothing
    asked_opt_plain (rule.some_block h1) = asked_plain h1

    pub asked_for_body : {a1 : LowerCtx} {a2 : Option AstBlockExpr} {a3 : OptionExpr} → ForBodyAs env a1 a2 a3 → Asks
    asked_for_body rule.no_body = nothing
    asked_for_body (rule.enabled_body {p = p} {b = b} _ h2) = both (cfg_asked (block_node p b)) (asked_own h2)
    asked_for_body (rule.disabled_body {p = p} {b = b} _ _) = cfg_asked (block_node p b)

    pub asked_expr_kind : {a1 : LowerCtx} {a2 : Pointer} {a3 : ExprKindLayer written} {a4 : Expr} → ExprKindAs env a1 a2 a3 a4 → Asks
    asked_expr_kind (rule.if_expr h1 h2 h3) = both (asked_opt_expr h1) (both (asked_opt_plain h2) (asked_else h3))
    asked_expr_kind (rule.block_expr h1) = asked_own h1
    asked_expr_kind (rule.loop_expr {p = p} {l = l} _ h2) = both (label_asked p l) (asked_opt_plain h2)
    asked_expr_kind (rule.while_expr {p = p} {l = l} _ h2 h3) = both (label_asked p l) (both (asked_opt_expr h2) (asked_opt_plain h3))
    asked_expr_kind (rule.for_expr {p = p} {l = l} _ _ h3 h4 h5) = both (both for_asked (label_asked p l)) (both (whole_opt_pat env h3)
        (both (asked_opt_expr h4) (asked_for_body h5)))
    asked_expr_kind (rule.itemless_for _) = for_asked
    asked_expr_kind (rule.question_expr _ h2) = both question_asked (asked_opt_expr h2)
    asked_expr_kind (rule.itemless_question _) = question_asked
    asked_expr_kind (rule.call_expr h1 h2) = both (asked_opt_expr h1) (asked_opt_exprs h2)
    asked_expr_kind (rule.path_expr {s = s} h1) = both (ask (question.of_hygiene (site s))) (whole_opt_path env h1)
    asked_expr_kind (rule.continue_expr {p = p} {l = l}) = jump_asked p l
    asked_expr_kind (rule.break_expr {p = p} {l = l} h1) = both (jump_asked p l) (asked_opt_expr h1)
    asked_expr_kind (rule.paren_expr h1) = asked_opt_expr h1
    asked_expr_kind rule.literal_expr = nothing
    asked_expr_kind (rule.method_call_expr h1 h2 h3) = both (asked_opt_expr h1) (both (asked_opt_exprs h2) (whole_arg_list env h3))
    asked_expr_kind (rule.field_expr h1) = asked_opt_expr h1
    asked_expr_kind (rule.prefix_expr h1) = asked_opt_expr h1
    asked_expr_kind (rule.nameless_expr h1) = asked_opt_expr h1
    asked_expr_kind (rule.logic_expr h1 h2) = both (asked_opt_expr h1) (asked_opt_expr h2)
    asked_expr_kind (rule.assign_expr {p = p} {x = x} h1 _ h2) = both (target_asked p x) (both (whole_opt_expr env h1) (asked_opt_expr h2))
    asked_expr_kind (rule.operator_expr _ h2 h3) = both (asked_opt_expr h2) (asked_opt_expr h3)
    asked_expr_kind (rule.index_expr h1 h2) = both (asked_opt_expr h1) (asked_opt_expr h2)
    asked_expr_kind (rule.ref_expr h1) = asked_opt_expr h1
    asked_expr_kind (rule.tuple_expr h1) = asked_exprs h1
    asked_expr_kind (rule.array_expr h1) = asked_exprs h1
    asked_expr_kind (rule.repeat_expr h1 h2) = both (asked_opt_expr h1) (asked_opt_expr h2)
    asked_expr_kind (rule.closure_expr h1 h2 h3) = both (asked_params h1) (both (whole_answer env h2) (asked_opt_expr h3))
    asked_expr_kind (rule.gen_closure h1 h2 h3) = both (asked_params h1) (both (whole_answer env h2) (asked_opt_expr h3))
    asked_expr_kind (rule.async_closure h1 h2 h3) = both (asked_params h1) (both (whole_answer env h2) (asked_opt_expr h3))
    asked_expr_kind (rule.async_gen_closure h1 h2 h3) = both (asked_params h1) (both (whole_answer env h2) (asked_opt_expr h3))
    asked_expr_kind (rule.return_expr h1) = asked_opt_expr h1
    asked_expr_kind (rule.yeet_expr h1) = asked_opt_expr h1
    asked_expr_kind (rule.become_expr h1) = asked_opt_expr h1
    asked_expr_kind (rule.yield_expr h1) = asked_opt_expr h1
    asked_expr_kind (rule.await_expr h1) = asked_opt_expr h1
    asked_expr_kind (rule.cast_expr h1 h2) = both (asked_opt_expr h1) (whole_opt_type env h2)
    asked_expr_kind (rule.record_expr h1 h2 h3) = both (whole_opt_path env h1) (both (asked_fields h2) (asked_spread h3))
    asked_expr_kind (rule.record_without_list h1) = whole_opt_path env h1
    asked_expr_kind (rule.offset_of_expr h1) = whole_opt_type env h1
    asked_expr_kind (rule.cfg_expr {c = c}) = ask (question.of_cfg_pred c)
    asked_expr_kind (rule.let_expr h1 h2) = both (whole_opt_pat env h1) (asked_opt_expr h2)
    asked_expr_kind (rule.match_expr h1 h2) = both (asked_opt_expr h1) (asked_arms h2)
    asked_expr_kind (rule.match_without_arms h1) = asked_opt_expr h1
    asked_expr_kind (rule.range_expr {p = p} {o = o} {a = a} {b = b} h1 h2) = both (range_asked env p o (is_some a) (is_some b)) (both
        (asked_opt_expr h1) (asked_opt_expr h2))
    asked_expr_kind rule.underscore_expr = nothing
    asked_expr_kind rule.include_bytes_expr = nothing
    asked_expr_kind rule.asm_expr = nothing
    asked_expr_kind rule.format_args_expr = nothing
    asked_expr_kind rule.callless_expr = nothing
    asked_expr_kind (rule.called_expr {p = p} {c = c} _ h2 _) = both (call_asked p c fragments.Expr) (asked_opt_expr h2)

    pub asked_fields : {a1 : LowerCtx} {a2 : List AstRecordExprField} {a3 : Fields} → FieldsAs env a1 a2 a3 → Asks
    asked_fields rule.no_fields = nothing
    asked_fields (rule.more_fields h1 h2) = both (asked_field h1) (asked_fields h2)

    pub asked_field : {a1 : LowerCtx} {a2 : Pointer} {a3 : Option AstName} {a4 : Option AstExpr} {a5 : Field} → FieldAs env a1 a2 a3 a4 a5
        → Asks
    asked_field (rule.enabled_field {s = s} _ h2) = both (cfg_asked s) (asked_field_part h2)
    asked_field (rule.disabled_field {s = s} _ _) = cfg_asked s

    pub asked_field_part : {a1 : LowerCtx} {a2 : Pointer} {a3 : Option AstName} {a4 : Option AstExpr} {a5 : Field}
        → FieldPartAs env a1 a2 a3 a4 a5 → Asks
    asked_field_part (rule.nameless_field h1) = asked_opt_expr h1
    asked_field_part (rule.named_field h1) = asked_opt_expr h1

    pub asked_spread : {a1 : LowerCtx} {a2 : Option AstExpr} {a3 : Bool} {a4 : Spread} → SpreadAs env a1 a2 a3 a4 → Asks
    asked_spread (rule.spread_of h1) = asked_expr h1
    asked_spread rule.field_defaults = nothing
    asked_spread rule.no_spread = nothing

    pub asked_arms : {a1 : LowerCtx} {a2 : List AstMatchArm} {a3 : Arms} → ArmsAs env a1 a2 a3 → Asks
    asked_arms rule.no_arms = nothing
    asked_arms (rule.more_arms h1 h2) = both (asked_arm h1) (asked_arms h2)

    pub asked_arm : {a1 : LowerCtx} {a2 : Pointer} {a3 : Option AstPat} {a4 : Option AstGuard} {a5 : Option AstExpr} {a6 : Arm}
        → ArmAs env a1 a2 a3 a4 a5 a6 → Asks
    asked_arm (rule.enabled_arm {s = s} _ h2 h3 h4) = both (cfg_asked s) (both (whole_opt_pat env h2) (both (asked_guard h3)
        (asked_opt_expr h4)))
    asked_arm (rule.disabled_arm {s = s} _ _ _ _) = cfg_asked s

    pub asked_guard : {a1 : LowerCtx} {a2 : Option AstGuard} {a3 : Guard} → GuardAs env a1 a2 a3 → Asks
    asked_guard rule.no_guard = nothing
    asked_guard (rule.some_guard h1) = asked_opt_expr h1

    pub asked_own : {a1 : LowerCtx} {a2 : Option BlockModifier} {a3 : BlockExprLayer written} {a4 : Expr} → OwnAs env a1 a2 a3 a4 → Asks
    asked_own (rule.labelled {p = p} {b = b} _ h2) = both (label_asked p b.label) (asked_in_block h2)
    asked_own (rule.unsafe_block h1) = asked_in_block h1
    asked_own (rule.try_block h1 h2) = both (ask (question.of_lang_item item.try_trait_from_output)) (both (whole_opt_type env h1)
        (asked_in_block h2))
    asked_own (rule.const_block h1) = asked_plain h1
    asked_own (rule.async_block h1) = asked_in_block h1
    asked_own (rule.gen_block h1) = asked_in_block h1
    asked_own (rule.async_gen_block h1) = asked_in_block h1

    pub asked_plain : {a1 : LowerCtx} {a2 : BlockExprLayer written} {a3 : Block} → PlainAs env a1 a2 a3 → Asks
    asked_plain (rule.plain_block h1) = asked_in_block h1

    pub asked_in_block : {a1 : LowerCtx} {a2 : BlockExprLayer written} {a3 : Option BlockId} {a4 : Stmts} {a5 : OptionExpr}
        → InBlockAs env a1 a2 a3 a4 a5 → Asks
    asked_in_block (rule.in_block {p = p} {b = b} _ h2) = both (number_asked p b.id) (asked_contents h2)
    asked_in_block (rule.in_numbered {p = p} {b = b} _ h2) = both (number_asked p b.id) (asked_contents h2)

    pub asked_contents : {a1 : LowerCtx} {a2 : List AstStmt} {a3 : Option AstExpr} {a4 : Defined} {a5 : Stmts} {a6 : OptionExpr}
        {a7 : Defined} → ContentsAs env a1 a2 a3 a4 a5 a6 a7 → Asks
    asked_contents (rule.contents h1 h2) = both (asked_stmts h1) (asked_tail h2)

    pub asked_stmts : {a1 : LowerCtx} {a2 : List AstStmt} {a3 : Defined} {a4 : Stmts} {a5 : Defined} → StmtsAs env a1 a2 a3 a4 a5 → Asks
    asked_stmts rule.no_stmts = nothing
    asked_stmts (rule.more_stmts h1 h2) = both (asked_stmt h1) (asked_stmts h2)

    pub asked_tail : {a1 : LowerCtx} {a2 : Option AstExpr} {a3 : Defined} {a4 : Stmts} {a5 : OptionExpr} {a6 : Defined}
        → TailAs env a1 a2 a3 a4 a5 a6 → Asks
    asked_tail rule.no_tail = nothing
    asked_tail (rule.some_tail h1) = asked_value h1

    pub asked_value : {a1 : LowerCtx} {a2 : Pointer} {a3 : ExprKindLayer written} {a4 : Defined} {a5 : Stmts} {a6 : OptionExpr}
        {a7 : Defined} → ValueAs env a1 a2 a3 a4 a5 a6 a7 → Asks
    asked_value (rule.whole_value _ h2) = asked_expr h2
    asked_value (rule.disabled_value {s = s} _ _) = cfg_asked s
    asked_value (rule.callless_value {s = s} _) = cfg_asked s
    asked_value (rule.called_value {p = p} {s = s} {c = c} _ h2) = both (both (cfg_asked s) (call_asked p c fragments.Stmts))
        (asked_splice h2)

    pub asked_splice : {a1 : LowerCtx} {a2 a3 : Pointer} {a4 : Option Expanding} {a5 : Defined} {a6 : Stmts} {a7 : OptionExpr}
        {a8 : Defined}
        → SpliceAs env a1 a2 a3 a4 a5 a6 a7 a8 → Asks
    asked_splice rule.too_deep_for_stmts = nothing
    asked_splice rule.not_expanded_to_stmts = nothing
    asked_splice rule.not_found_for_stmts = nothing
    asked_splice (rule.no_stmts_in_it _) = nothing
    asked_splice (rule.spliced h1 _) = asked_contents h1

    pub asked_stmt : {a1 : LowerCtx} {a2 : Pointer} {a3 : StmtKindLayer written} {a4 : Defined} {a5 : Stmts} {a6 : Defined}
        → StmtAs env a1 a2 a3 a4 a5 a6 → Asks
    asked_stmt (rule.enabled_let {s = s} _ h2 h3 h4 h5) = both (cfg_asked s) (both (whole_opt_pat env h2) (both (whole_opt_type env h3)
        (both (asked_opt_expr h4) (asked_let_else h5))))
    asked_stmt (rule.disabled_let {s = s} _ _ _ _ _) = cfg_asked s
    asked_stmt (rule.expr_stmt h1) = asked_tail h1
    asked_stmt (rule.enabled_rules {p = p} {s = s} {n = n} {d = d} _) = both (cfg_asked s) (rules_asked p n d)
    asked_stmt (rule.nameless_rules {s = s} _) = cfg_asked s
    asked_stmt (rule.disabled_rules {s = s} _) = cfg_asked s
    asked_stmt (rule.enabled_def {p = p} {s = s} {n = n} _) = both (cfg_asked s) (def_asked p n)
    asked_stmt (rule.disabled_def {s = s} _) = cfg_asked s
    asked_stmt rule.item_stmt = nothing

    pub asked_let_else : {a1 : LowerCtx} {a2 : Option AstLetElse} {a3 : OptionBlock} → LetElseAs env a1 a2 a3 → Asks
    asked_let_else rule.no_let_else = nothing
    asked_let_else (rule.some_let_else h1) = asked_opt_plain h1
