-- What the rules allow by the answers of one environment they allow by those of another one except for what is disabled, where all that is
-- asked outside of that is answered alike.
use Rattle.std.proofs.Common.{◌∙◌, refl, sym, subst, List, [], Bool, true, false, Option, Some, None}
use Rattle.std.specs.Prelude.{is_some}
use Rattle.hir_syntax.specs.declared.ast.Expr.{Expr as AstExpr}
use Rattle.hir_syntax.specs.declared.ast.Name.{Name as AstName}
use Rattle.hir_syntax.specs.declared.pats.Pat.{Pat as AstPat}
use Rattle.hir_syntax.specs.declared.types.Param.{Param as AstParam}
use Rattle.hir_syntax.specs.declared.ast.BlockExpr.{BlockExpr as AstBlockExpr}
use Rattle.hir_syntax.specs.declared.ast.BlockModifier.{BlockModifier}
use Rattle.hir_syntax.specs.declared.ast.ElseBranch.{ElseBranch as AstElseBranch}
use Rattle.hir_syntax.specs.declared.ast.RecordExprField.{RecordExprField as AstRecordExprField}
use Rattle.hir_syntax.specs.declared.ast.Stmt.{Stmt as AstStmt}
use Rattle.hir_syntax.specs.declared.branches.MatchArm.{MatchArm as AstMatchArm}
use Rattle.hir_store.specs.declared.ids.BlockId.{BlockId}
use Rattle.hir_env.specs.ResolvedTree.{Arm, Arms, Block, Exprs, Field, Fields, Guard, OptionBlock, Params, Spread, Stmts}
use Rattle.hir_env.specs.ResolvedTree.{Expr, OptionExpr}
use Rattle.hir_env.specs.Answers.{Expanding}
use Rattle.hir_env.specs.Layers.{BlockExprLayer, Defined, ElseBranchLayer, ExprKindLayer, StmtKindLayer, written}
use Rattle.hir_env.specs.Wrapped.{AstGuard, AstLetElse}
use Rattle.hir_store.specs.Pointers.{Pointer}
use Rattle.hir_env.specs.declared.ctx.LowerCtx.{LowerCtx}
use Rattle.thm_reading.specs.Rules as rule
use Rattle.thm_reading.specs.Rules.{OptExprAs}
use Rattle.thm_reading.specs.Rules.{ParamsAs, ExprAs, ExprsAs, OptExprsAs, ElseAs, ElseKindAs, OptPlainAs, ForBodyAs, ExprKindAs, FieldsAs}
use Rattle.thm_reading.specs.Rules.{FieldAs, FieldPartAs, SpreadAs, ArmsAs, ArmAs, GuardAs, OwnAs, PlainAs, InBlockAs, ContentsAs, StmtsAs}
use Rattle.thm_reading.specs.Rules.{TailAs, ValueAs, SpliceAs, StmtAs, LetElseAs}
use Rattle.hir_env.specs.Answers.{Answers}
use Rattle.hir_syntax.specs.declared.ast.RecordExprFieldList.{out-RecordExprFieldList}
use Rattle.hir_syntax.specs.declared.types.Param.{out-Param}
use Rattle.hir_store.specs.declared.hir.CoroutineKind.TheVariants as coroutine
use Rattle.hir_store.specs.declared.name.Name.TheVariants as name
use Rattle.hir_env.specs.ResolvedTree as tree
use Rattle.hir_env.specs.Answering.{name_or_missing, rawness, truth}
use Rattle.hir_env.specs.Calls.{append, times}
use Rattle.hir_env.specs.Paths.{mutability}
use Rattle.hir_env.specs.declared.expand.FragmentKind.TheVariants as fragments
use Rattle.thm_reading.specs.LowerCtx.{CallAs, block_node, call_node, its_expr, node, param_node, within}
use Rattle.thm_enabled.specs.Asked.{asked_opt_expr, asked_params, asked_expr, asked_exprs, asked_opt_exprs, asked_else, asked_else_kind}
use Rattle.thm_enabled.specs.Asked.{asked_opt_plain, asked_for_body, asked_expr_kind}
use Rattle.thm_enabled.specs.Asked.{asked_fields, asked_field, asked_field_part, asked_spread}
use Rattle.thm_enabled.specs.Asked.{asked_arms, asked_arm, asked_guard, asked_own, asked_plain, asked_in_block, asked_contents}
use Rattle.thm_enabled.specs.Asked.{asked_stmts, asked_tail, asked_value, asked_splice, asked_stmt, asked_let_else}
use Rattle.thm_enabled.specs.Pruned.{pruned, pruned_arm, pruned_arms, pruned_block, pruned_block_part, pruned_each, pruned_field}
use Rattle.thm_enabled.specs.Pruned.{pruned_fields, pruned_guard, pruned_params, pruned_part, pruned_spread, pruned_stmts}
use Rattle.thm_enabled.proofs.Agreed.{Agree}
use Rattle.thm_enabled.proofs.Allowed.{Allowed, ByRules, expr_in, field_in, guard_in, inside, let_else_in, own_in, pat_in, type_in}
use Rattle.thm_enabled.proofs.Kept.{kept_answer, kept_arg_list, kept_opt_expr, kept_opt_pat, kept_opt_path, kept_opt_type}
use Rattle.thm_enabled.proofs.Same.{call_same, def_same, for_same, jump_same, label_same, number_same, question_same, range_same}
use Rattle.thm_enabled.proofs.Targets.{moved_target}
use Rattle.thm_enabled.proofs.Trees.{Moved, append_pruned, around_moved, both_pruned, last_moved, own_pointers, pointers, to}

module _ (laws : ByRules) (env other : Answers) where
  mutual
    pub moved_opt_expr : {a1 : LowerCtx} {a2 : Option AstExpr} {a3 : OptionExpr} → (h : OptExprAs env a1 a2 a3) → Agree env other
        (asked_opt_expr env h) → Moved pruned_part (OptExprAs other a1 a2) a3
    moved_opt_expr rule.no_expr _ = to _ rule.no_expr refl
    moved_opt_expr (rule.some_expr {p = p} {e = e} h1) g =
        let m1 = moved_expr h1 g (inside laws other p e) in
        to _ (rule.some_expr m1.by) (λ i. tree.some_expr (m1.same i))

    moved_params : {a1 : LowerCtx} {a2 : Option (List AstParam)} {a3 : Params} → (h : ParamsAs env a1 a2 a3) → Agree env other
        (asked_params env h) → Moved pruned_params (ParamsAs other a1 a2) a3
    moved_params rule.without_params _ = to _ rule.without_params refl
    moved_params rule.last_param _ = to _ rule.last_param refl
    moved_params (rule.enabled_param {q = q} {t = t} h1 h2 h3 h4) g =
        let m4 = moved_params h4 g.1.1.1 in
        to _ (rule.enabled_param (sym g.0 ∙ h1) (kept_opt_pat env other h2 g.1.0) (kept_opt_type env other h3 g.1.1.0) m4.by)
        (λ i. tree.more_params (tree.param q t) (m4.same i))
    moved_params (rule.disabled_param {p = p} {x = x} {by = by} h1 _ _ h4) g =
        let m4 = moved_params h4 g.1 in
        to _ (rule.disabled_param (sym g.0 ∙ h1) (pat_in laws other p (out-Param x).pat).by (type_in laws other p
        (out-Param x).ty).by m4.by) (λ i. tree.more_params (tree.disabled_param (param_node p x) by
        (tree.param tree.no_pat tree.no_type)) (m4.same i))

    pub moved_expr : {a1 : LowerCtx} {a2 : Pointer} {a3 : ExprKindLayer written} {a4 : Expr} → (h : ExprAs env a1 a2 a3 a4)
        → Agree env other (asked_expr env h) → Allowed (ExprKindAs other a1 a2 a3) → Moved pruned (ExprAs other a1 a2 a3) a4
    moved_expr (rule.enabled h1 h2) g _ = let m2 = moved_expr_kind h2 g.1 in to _ (rule.enabled (sym g.0 ∙ h1) m2.by) m2.same
    moved_expr (rule.disabled {s = s} {by = by} h1 h2) g y =
        to _ (rule.disabled (sym g ∙ h1) y.by) (λ i. tree.disabled_expr (record { entered = []; condition = Some (s, by) })
        (tree.leaf_expr (pointers env other h2 y.by i) tree.left_out))

    moved_exprs : {a1 : LowerCtx} {a2 : List AstExpr} {a3 : Exprs} → (h : ExprsAs env a1 a2 a3) → Agree env other (asked_exprs env h)
        → Moved pruned_each (ExprsAs other a1 a2) a3
    moved_exprs rule.no_exprs _ = to _ rule.no_exprs refl
    moved_exprs (rule.more_exprs {p = p} {e = e} h1 h2) g =
        let m1 = moved_expr h1 g.0 (inside laws other p e) in
        let m2 = moved_exprs h2 g.1 in
        to _ (rule.more_exprs m1.by m2.by) (λ i. tree.more_exprs (m1.same i) (m2.same i))

    moved_opt_exprs : {a1 : LowerCtx} {a2 : Option (List AstExpr)} {a3 : Exprs} → (h : OptExprsAs env a1 a2 a3) → Agree env other
        (asked_opt_exprs env h) → Moved pruned_each (OptExprsAs other a1 a2) a3
    moved_opt_exprs rule.without_exprs _ = to _ rule.without_exprs refl
    moved_opt_exprs (rule.with_exprs h1) g = let m1 = moved_exprs h1 g in to _ (rule.with_exprs m1.by) m1.same

    moved_else : {a1 : LowerCtx} {a2 : Option AstElseBranch} {a3 : OptionExpr} → (h : ElseAs env a1 a2 a3) → Agree env other
        (asked_else env h) → Moved pruned_part (ElseAs other a1 a2) a3
    moved_else rule.no_else _ = to _ rule.no_else refl
    moved_else (rule.some_else h1) g = let m1 = moved_else_kind h1 g in to _ (rule.some_else m1.by) (λ i. tree.some_expr (m1.same i))

    moved_else_kind : {a1 : LowerCtx} {a2 : ElseBranchLayer written} {a3 : Expr} → (h : ElseKindAs env a1 a2 a3) → Agree env other
        (asked_else_kind env h) → Moved pruned (ElseKindAs other a1 a2) a3
    moved_else_kind (rule.else_block h1) g =
        let m1 = moved_plain h1 g in
        to _ (rule.else_block m1.by) (λ i. tree.block_expr (m1.same i))
    moved_else_kind (rule.else_if {p = p} {e = e} h1) g =
        let m1 = moved_expr h1 g (inside laws other p e) in
        to _ (rule.else_if m1.by) m1.same

    moved_opt_plain : {a1 : LowerCtx} {a2 : Option AstBlockExpr} {a3 : OptionBlock} → (h : OptPlainAs env a1 a2 a3) → Agree env other
        (asked_opt_plain env h) → Moved pruned_block_part (OptPlainAs other a1 a2) a3
    moved_opt_plain rule.no_block _ = to _ rule.no_block refl
    moved_opt_plain (rule.some_block h1) g =
        let m1 = moved_plain h1 g in
        to _ (rule.some_block m1.by) (λ i. tree.some_block (m1.same i))

    moved_for_body : {a1 : LowerCtx} {a2 : Option AstBlockExpr} {a3 : OptionExpr} → (h : ForBodyAs env a1 a2 a3) → Agree env other
        (asked_for_body env h) → Moved pruned_part (ForBodyAs other a1 a2) a3
    moved_for_body rule.no_body _ = to _ rule.no_body refl
    moved_for_body (rule.enabled_body h1 h2) g =
        let m2 = moved_own h2 g.1 in
        to _ (rule.enabled_body (sym g.0 ∙ h1) m2.by) (λ i. tree.some_expr (m2.same i))
    moved_for_body (rule.disabled_body {p = p} {b = b} {by = by} h1 h2) g =
        let y = own_in laws other p b in
        to _ (rule.disabled_body (sym g ∙ h1) y.by) (λ i. tree.some_expr (tree.disabled_expr (record {
          entered = [];
          condition = Some
              (block_node p b, by);
        }) (tree.leaf_expr (own_pointers env other h2 y.by i) tree.left_out)))

    moved_expr_kind : {a1 : LowerCtx} {a2 : Pointer} {a3 : ExprKindLayer written} {a4 : Expr} → (h : ExprKindAs env a1 a2 a3 a4)
        → Agree env other (asked_expr_kind env h) → Moved pruned (ExprKindAs other a1 a2 a3) a4
    moved_expr_kind (rule.if_expr {s = s} h1 h2 h3) g =
        let m1 = moved_opt_expr h1 g.0 in
        let m2 = moved_opt_plain h2 g.1.0 in
        let m3 = moved_else h3 g.1.1 in
        to _ (rule.if_expr m1.by m2.by m3.by) (λ i. tree.if_expr s (m1.same i) (m2.same i) (m3.same i))
    moved_expr_kind (rule.block_expr h1) g = let m1 = moved_own h1 g in to _ (rule.block_expr m1.by) m1.same
    moved_expr_kind (rule.loop_expr {p = p} {s = s} {l = l} {m = m} {w = w} h1 h2) g =
        let m2 = moved_opt_plain h2 g.1 in
        to _ (rule.loop_expr {w = w} (h1 ∙ label_same env other p l g.0) m2.by) (λ i. tree.loop_expr s m w (m2.same i))
    moved_expr_kind (rule.while_expr {p = p} {s = s} {l = l} {m = m} {w = w} h1 h2 h3) g =
        let m2 = moved_opt_expr h2 g.1.0 in
        let m3 = moved_opt_plain h3 g.1.1 in
        to _ (rule.while_expr {w = w} (h1 ∙ label_same env other p l g.0) m2.by m3.by) (λ i. tree.while_expr s m w (m2.same i) (m3.same i))
    moved_expr_kind (rule.for_expr {p = p} {s = s} {l = l} {is = is} {m = m} {w = w} {x = x} h1 h2 h3 h4 h5) g =
        let m4 = moved_opt_expr h4 g.1.1.0 in
        let m5 = moved_for_body h5 g.1.1.1 in
        to _ (rule.for_expr {w = w} (sym (for_same env other g.0.0) ∙ h1) (h2 ∙ label_same env other p l g.0.1)
        (kept_opt_pat env other h3 g.1.0) m4.by m5.by) (λ i. tree.for_expr s is m w x (m4.same i) (m5.same i))
    moved_expr_kind (rule.itemless_for h1) g = to _ (rule.itemless_for (sym (for_same env other g) ∙ h1)) refl
    moved_expr_kind (rule.question_expr {s = s} {is = is} h1 h2) g =
        let m2 = moved_opt_expr h2 g.1 in
        to _ (rule.question_expr (sym (question_same env other g.0) ∙ h1) m2.by) (λ i. tree.question_expr s is (m2.same i))
    moved_expr_kind (rule.itemless_question h1) g = to _ (rule.itemless_question (sym (question_same env other g) ∙ h1)) refl
    moved_expr_kind (rule.call_expr {s = s} {es = es} h1 h2) g =
        let m1 = moved_opt_expr h1 g.0 in
        let m2 = moved_opt_exprs h2 g.1 in
        to _ (rule.call_expr m1.by m2.by) (λ i. tree.call_expr s (m1.same i) (is_some es) (m2.same i))
    moved_expr_kind (rule.path_expr {s = s} {y = y} h1) g =
        to _ (rule.path_expr (kept_opt_path env other h1 g.1)) (λ i. tree.path_expr s y (g.0 i))
    moved_expr_kind (rule.continue_expr {p = p} {s = s} {l = l}) g =
        to _ rule.continue_expr (λ i. tree.continue_expr s (jump_same env other p l g i))
    moved_expr_kind (rule.break_expr {p = p} {s = s} {l = l} h1) g =
        let m1 = moved_opt_expr h1 g.1 in
        to _ (rule.break_expr m1.by) (λ i. tree.break_expr s (jump_same env other p l g.0 i) (m1.same i))
    moved_expr_kind (rule.paren_expr {s = s} h1) g =
        let m1 = moved_opt_expr h1 g in
        to _ (rule.paren_expr m1.by) (λ i. tree.paren_expr s (m1.same i))
    moved_expr_kind rule.literal_expr _ = to _ rule.literal_expr refl
    moved_expr_kind (rule.method_call_expr {s = s} {n = n} {gs = gs} h1 h2 h3) g =
        let m1 = moved_opt_expr h1 g.0 in
        let m2 = moved_opt_exprs h2 g.1.0 in
        to _ (rule.method_call_expr m1.by m2.by (kept_arg_list env other h3 g.1.1)) (λ i. tree.method_call_expr s (m1.same i)
        (name_or_missing n) (m2.same i) gs)
    moved_expr_kind (rule.field_expr {s = s} {n = n} h1) g =
        let m1 = moved_opt_expr h1 g in
        to _ (rule.field_expr m1.by) (λ i. tree.unary_expr s (tree.field_of (name_or_missing n)) (m1.same i))
    moved_expr_kind (rule.prefix_expr {s = s} {o = o} h1) g =
        let m1 = moved_opt_expr h1 g in
        to _ (rule.prefix_expr m1.by) (λ i. tree.unary_expr s (tree.prefix_of o) (m1.same i))
    moved_expr_kind (rule.nameless_expr {s = s} h1) g =
        let m1 = moved_opt_expr h1 g in
        to _ (rule.nameless_expr m1.by) (λ i. tree.nameless_expr s (m1.same i))
    moved_expr_kind (rule.logic_expr {s = s} {o = o} h1 h2) g =
        let m1 = moved_opt_expr h1 g.0 in
        let m2 = moved_opt_expr h2 g.1 in
        to _ (rule.logic_expr m1.by m2.by) (λ i. tree.lazy_expr s o (m1.same i) (m2.same i))
    moved_expr_kind (rule.assign_expr {p = p} {s = s} {x = x} {t = t} h1 h h2) g =
        let m2 = moved_opt_expr h2 g.1.1 in
        to _ (rule.assign_expr (kept_opt_expr env other h1 g.1.0) (moved_target env other p x t g.0 h) m2.by)
        (λ i. tree.assign_expr s x t (m2.same i))
    moved_expr_kind (rule.operator_expr {s = s} {o = o} h1 h2 h3) g =
        let m2 = moved_opt_expr h2 g.0 in
        let m3 = moved_opt_expr h3 g.1 in
        to _ (rule.operator_expr h1 m2.by m3.by) (λ i. tree.binary_expr s (tree.operator o) (m2.same i) (m3.same i))
    moved_expr_kind (rule.index_expr {s = s} h1 h2) g =
        let m1 = moved_opt_expr h1 g.0 in
        let m2 = moved_opt_expr h2 g.1 in
        to _ (rule.index_expr m1.by m2.by) (λ i. tree.binary_expr s tree.index_of (m1.same i) (m2.same i))
    moved_expr_kind (rule.ref_expr {s = s} {r = r} {m = m} h1) g =
        let m1 = moved_opt_expr h1 g in
        to _ (rule.ref_expr m1.by) (λ i. tree.unary_expr s (tree.reference_to (rawness r) (mutability m)) (m1.same i))
    moved_expr_kind (rule.tuple_expr {s = s} {c = c} h1) g =
        let m1 = moved_exprs h1 g in
        to _ (rule.tuple_expr m1.by) (λ i. tree.list_expr s (tree.tuple_of c) (m1.same i))
    moved_expr_kind (rule.array_expr {s = s} h1) g =
        let m1 = moved_exprs h1 g in
        to _ (rule.array_expr m1.by) (λ i. tree.list_expr s tree.array_of (m1.same i))
    moved_expr_kind (rule.repeat_expr {s = s} h1 h2) g =
        let m1 = moved_opt_expr h1 g.0 in
        let m2 = moved_opt_expr h2 g.1 in
        to _ (rule.repeat_expr m1.by m2.by) (λ i. tree.repeat_expr s (m1.same i) (tree.constant (m2.same i)))
    moved_expr_kind (rule.closure_expr {s = s} {m = m} {t = t} {y = y} h1 h2 h3) g =
        let m1 = moved_params h1 g.0 in
        let m3 = moved_opt_expr h3 g.1.1 in
        to _ (rule.closure_expr m1.by (kept_answer env other h2 g.1.0) m3.by) (λ i. tree.closure_expr s m t (m1.same i) y (m3.same i))
    moved_expr_kind (rule.gen_closure {s = s} {m = m} {y = y} h1 h2 h3) g =
        let m1 = moved_params h1 g.0 in
        let m3 = moved_opt_expr h3 g.1.1 in
        to _ (rule.gen_closure m1.by (kept_answer env other h2 g.1.0) m3.by) (λ i. tree.coroutine_closure_expr s coroutine.Gen m
        (m1.same i) y (m3.same i))
    moved_expr_kind (rule.async_closure {s = s} {m = m} {y = y} h1 h2 h3) g =
        let m1 = moved_params h1 g.0 in
        let m3 = moved_opt_expr h3 g.1.1 in
        to _ (rule.async_closure m1.by (kept_answer env other h2 g.1.0) m3.by) (λ i. tree.coroutine_closure_expr s coroutine.Async m
        (m1.same i) y (m3.same i))
    moved_expr_kind (rule.async_gen_closure {s = s} {m = m} {y = y} h1 h2 h3) g =
        let m1 = moved_params h1 g.0 in
        let m3 = moved_opt_expr h3 g.1.1 in
        to _ (rule.async_gen_closure m1.by (kept_answer env other h2 g.1.0) m3.by)
        (λ i. tree.coroutine_closure_expr s coroutine.AsyncGen m (m1.same i) y (m3.same i))
    moved_expr_kind (rule.return_expr {s = s} h1) g =
        let m1 = moved_opt_expr h1 g in
        to _ (rule.return_expr m1.by) (λ i. tree.leaving_expr s tree.returning (m1.same i))
    moved_expr_kind (rule.yeet_expr {s = s} h1) g =
        let m1 = moved_opt_expr h1 g in
        to _ (rule.yeet_expr m1.by) (λ i. tree.leaving_expr s tree.yeeting (m1.same i))
    moved_expr_kind (rule.become_expr {s = s} h1) g =
        let m1 = moved_opt_expr h1 g in
        to _ (rule.become_expr m1.by) (λ i. tree.become_expr s (m1.same i))
    moved_expr_kind (rule.yield_expr {s = s} h1) g =
        let m1 = moved_opt_expr h1 g in
        to _ (rule.yield_expr m1.by) (λ i. tree.yield_expr s (m1.same i))
    moved_expr_kind (rule.await_expr {p = p} {s = s} h1) g =
        let m1 = moved_opt_expr h1 g in
        to _ (rule.await_expr m1.by) (λ i. tree.await_expr s p.await_location (m1.same i))
    moved_expr_kind (rule.cast_expr {s = s} {y = y} h1 h2) g =
        let m1 = moved_opt_expr h1 g.0 in
        to _ (rule.cast_expr m1.by (kept_opt_type env other h2 g.1)) (λ i. tree.cast_expr s (m1.same i) y)
    moved_expr_kind (rule.record_expr {s = s} {l = l} {y = y} h1 h2 h3) g =
        let m2 = moved_fields h2 g.1.0 in
        let m3 = moved_spread h3 g.1.1 in
        to _ (rule.record_expr (kept_opt_path env other h1 g.0) m2.by m3.by) (λ i. tree.record_expr s y
        (record { has_list = true; has_dots = (out-RecordExprFieldList l).dotdot }) (m2.same i) (m3.same i))
    moved_expr_kind (rule.record_without_list h1) g = to _ (rule.record_without_list (kept_opt_path env other h1 g)) refl
    moved_expr_kind (rule.offset_of_expr h1) g = to _ (rule.offset_of_expr (kept_opt_type env other h1 g)) refl
    moved_expr_kind (rule.cfg_expr {s = s}) g = to _ rule.cfg_expr (λ i. tree.literal_expr s (truth (g i)))
    moved_expr_kind (rule.let_expr {s = s} {x = x} h1 h2) g =
        let m2 = moved_opt_expr h2 g.1 in
        to _ (rule.let_expr (kept_opt_pat env other h1 g.0) m2.by) (λ i. tree.let_expr s x (m2.same i))
    moved_expr_kind (rule.match_expr {s = s} h1 h2) g =
        let m1 = moved_opt_expr h1 g.0 in
        let m2 = moved_arms h2 g.1 in
        to _ (rule.match_expr m1.by m2.by) (λ i. tree.match_expr s (m1.same i) (m2.same i))
    moved_expr_kind (rule.match_without_arms {s = s} h1) g =
        let m1 = moved_opt_expr h1 g in
        to _ (rule.match_without_arms m1.by) (λ i. tree.match_expr s (m1.same i) tree.no_arms)
    moved_expr_kind (rule.range_expr {p = p} {s = s} {o = o} {a = a} {b = b} h1 h2) g =
        let m1 = moved_opt_expr h1 g.1.0 in
        let m2 = moved_opt_expr h2 g.1.1 in
        to _ (rule.range_expr m1.by m2.by) (λ i. tree.range_expr s (range_same env other p o (is_some a) (is_some b) g.0 i) (m1.same i)
        (m2.same i))
    moved_expr_kind rule.underscore_expr _ = to _ rule.underscore_expr refl
    moved_expr_kind rule.include_bytes_expr _ = to _ rule.include_bytes_expr refl
    moved_expr_kind rule.asm_expr _ = to _ rule.asm_expr refl
    moved_expr_kind rule.format_args_expr _ = to _ rule.format_args_expr refl
    moved_expr_kind rule.callless_expr _ = to _ rule.callless_expr refl
    moved_expr_kind (rule.called_expr {p = p} {c = c} {y = y} {x = x} h1 h2 h3) g =
        let e = call_same env other p c fragments.Expr g.0 in
        let m2 = moved_opt_expr h2 g.1 in
        let z = around_moved m2.tree h3 m2.same in
        to _ (rule.called_expr (subst (λ w. CallAs (call_node p c) w y) e h1) (subst (λ w. OptExprAs other (within w p)
        (its_expr w) m2.tree) e m2.by) z.by) z.same

    moved_fields : {a1 : LowerCtx} {a2 : List AstRecordExprField} {a3 : Fields} → (h : FieldsAs env a1 a2 a3) → Agree env other
        (asked_fields env h) → Moved pruned_fields (FieldsAs other a1 a2) a3
    moved_fields rule.no_fields _ = to _ rule.no_fields refl
    moved_fields (rule.more_fields h1 h2) g =
        let m1 = moved_field h1 g.0 in
        let m2 = moved_fields h2 g.1 in
        to _ (rule.more_fields m1.by m2.by) (λ i. tree.more_fields (m1.same i) (m2.same i))

    moved_field : {a1 : LowerCtx} {a2 : Pointer} {a3 : Option AstName} {a4 : Option AstExpr} {a5 : Field} →
        (h : FieldAs env a1 a2 a3 a4 a5) → Agree env other (asked_field env h) → Moved pruned_field (FieldAs other a1 a2 a3 a4) a5
    moved_field (rule.enabled_field h1 h2) g =
        let m2 = moved_field_part h2 g.1 in
        to _ (rule.enabled_field (sym g.0 ∙ h1) m2.by) m2.same
    moved_field (rule.disabled_field {p = p} {s = s} {n = n} {e = e} h1 _) g =
        to _ (rule.disabled_field (sym g ∙ h1) (field_in laws other p s n e).by) refl

    moved_field_part : {a1 : LowerCtx} {a2 : Pointer} {a3 : Option AstName} {a4 : Option AstExpr} {a5 : Field} →
        (h : FieldPartAs env a1 a2 a3 a4 a5) → Agree env other (asked_field_part env h) → Moved pruned_field
        (FieldPartAs other a1 a2 a3 a4) a5
    moved_field_part (rule.nameless_field {s = s} h1) g =
        let m1 = moved_opt_expr h1 g in
        to _ (rule.nameless_field m1.by) (λ i. tree.nameless_field s (m1.same i))
    moved_field_part (rule.named_field {s = s} {n = n} h1) g =
        let m1 = moved_opt_expr h1 g in
        to _ (rule.named_field m1.by) (λ i. tree.named_field s (name.Text n.t) (m1.same i))

    moved_spread : {a1 : LowerCtx} {a2 : Option AstExpr} {a3 : Bool} {a4 : Spread} → (h : SpreadAs env a1 a2 a3 a4) → Agree env other
        (asked_spread env h) → Moved pruned_spread (SpreadAs other a1 a2 a3) a4
    moved_spread (rule.spread_of {p = p} {e = e} h1) g =
        let m1 = moved_expr h1 g (inside laws other p e) in
        to _ (rule.spread_of m1.by) (λ i. tree.spread_of (m1.same i))
    moved_spread rule.field_defaults _ = to _ rule.field_defaults refl
    moved_spread rule.no_spread _ = to _ rule.no_spread refl

    moved_arms : {a1 : LowerCtx} {a2 : List AstMatchArm} {a3 : Arms} → (h : ArmsAs env a1 a2 a3) → Agree env other (asked_arms env h)
        → Moved pruned_arms (ArmsAs other a1 a2) a3
    moved_arms rule.no_arms _ = to _ rule.no_arms refl
    moved_arms (rule.more_arms h1 h2) g =
        let m1 = moved_arm h1 g.0 in
        let m2 = moved_arms h2 g.1 in
        to _ (rule.more_arms m1.by m2.by) (λ i. tree.more_arms (m1.same i) (m2.same i))

    moved_arm : {a1 : LowerCtx} {a2 : Pointer} {a3 : Option AstPat} {a4 : Option AstGuard} {a5 : Option AstExpr} {a6 : Arm} →
        (h : ArmAs env a1 a2 a3 a4 a5 a6) → Agree env other (asked_arm env h) → Moved pruned_arm (ArmAs other a1 a2 a3 a4 a5) a6
    moved_arm (rule.enabled_arm {x = x} h1 h2 h3 h4) g =
        let m3 = moved_guard h3 g.1.1.0 in
        let m4 = moved_opt_expr h4 g.1.1.1 in
        to _ (rule.enabled_arm (sym g.0 ∙ h1) (kept_opt_pat env other h2 g.1.0) m3.by m4.by) (λ i. tree.arm x (m4.same i) (m3.same i))
    moved_arm (rule.disabled_arm {p = p} {q = q} {g = gu} {e = e} h1 _ _ _) g =
        to _ (rule.disabled_arm (sym g ∙ h1) (pat_in laws other p q).by (guard_in laws other p gu).by (expr_in laws other p e).by) refl

    moved_guard : {a1 : LowerCtx} {a2 : Option AstGuard} {a3 : Guard} → (h : GuardAs env a1 a2 a3) → Agree env other (asked_guard env h)
        → Moved pruned_guard (GuardAs other a1 a2) a3
    moved_guard rule.no_guard _ = to _ rule.no_guard refl
    moved_guard (rule.some_guard h1) g = let m1 = moved_opt_expr h1 g in to _ (rule.some_guard m1.by) (λ i. tree.guard (m1.same i))

    moved_own : {a1 : LowerCtx} {a2 : Option BlockModifier} {a3 : BlockExprLayer written} {a4 : Expr} → (h : OwnAs env a1 a2 a3 a4)
        → Agree env other (asked_own env h) → Moved pruned (OwnAs other a1 a2 a3) a4
    moved_own (rule.labelled {p = p} {b = b} {m = m} {w = w} {k = k} h1 h2) g =
        let m2 = moved_in_block h2 g.1 in
        to _ (rule.labelled {w = w} (h1 ∙ label_same env other p b.label g.0) m2.by) (λ i. tree.block_expr (tree.block
        (node p b.id b.range) false m w k (m2.same i).0 (m2.same i).1))
    moved_own (rule.unsafe_block {p = p} {b = b} {k = k} h1) g =
        let m1 = moved_in_block h1 g in
        to _ (rule.unsafe_block m1.by) (λ i. tree.block_expr (tree.block (node p b.id b.range) true None tt k (m1.same i).0 (m1.same i).1))
    moved_own (rule.try_block {p = p} {b = b} {t = t} {k = k} h1 h2) g =
        let m2 = moved_in_block h2 g.1.1 in
        to _ (rule.try_block (kept_opt_type env other h1 g.1.0) m2.by) (λ i. tree.try_expr (node p b.id b.range) (g.0 i) t k
        (m2.same i).0 (m2.same i).1)
    moved_own (rule.const_block {p = p} {b = b} h1) g =
        let m1 = moved_plain h1 g in
        to _ (rule.const_block m1.by) (λ i. tree.const_expr (node p b.id b.range) (tree.constant (tree.some_expr (tree.block_expr
        (m1.same i)))))
    moved_own (rule.async_block {p = p} {b = b} {k = k} h1) g =
        let m1 = moved_in_block h1 g in
        to _ (rule.async_block m1.by) (λ i. tree.coroutine_expr (node p b.id b.range) coroutine.Async b.move_ k (m1.same i).0 (m1.same i).1)
    moved_own (rule.gen_block {p = p} {b = b} {k = k} h1) g =
        let m1 = moved_in_block h1 g in
        to _ (rule.gen_block m1.by) (λ i. tree.coroutine_expr (node p b.id b.range) coroutine.Gen b.move_ k (m1.same i).0 (m1.same i).1)
    moved_own (rule.async_gen_block {p = p} {b = b} {k = k} h1) g =
        let m1 = moved_in_block h1 g in
        to _ (rule.async_gen_block m1.by) (λ i. tree.coroutine_expr (node p b.id b.range) coroutine.AsyncGen b.move_ k (m1.same i).0
        (m1.same i).1)

    moved_plain : {a1 : LowerCtx} {a2 : BlockExprLayer written} {a3 : Block} → (h : PlainAs env a1 a2 a3) → Agree env other
        (asked_plain env h) → Moved pruned_block (PlainAs other a1 a2) a3
    moved_plain (rule.plain_block {p = p} {b = b} {k = k} h1) g =
        let m1 = moved_in_block h1 g in
        to _ (rule.plain_block m1.by) (λ i. tree.block (node p b.id b.range) false None tt k (m1.same i).0 (m1.same i).1)

    moved_in_block : {a1 : LowerCtx} {a2 : BlockExprLayer written} {a3 : Option BlockId} {a4 : Stmts} {a5 : OptionExpr} →
        (h : InBlockAs env a1 a2 a3 a4 a5) → Agree env other (asked_in_block env h) → Moved both_pruned
        (λ y. InBlockAs other a1 a2 a3 y.0 y.1) (a4, a5)
    moved_in_block (rule.in_block {p = p} {b = b} h1 h2) g =
        let m2 = moved_contents h2 g.1 in
        to m2.tree (rule.in_block (sym (number_same env other p b.id g.0) ∙ h1) m2.by) m2.same
    moved_in_block (rule.in_numbered {p = p} {b = b} h1 h2) g =
        let m2 = moved_contents h2 g.1 in
        to m2.tree (rule.in_numbered (sym (number_same env other p b.id g.0) ∙ h1) m2.by) m2.same

    moved_contents : {a1 : LowerCtx} {a2 : List AstStmt} {a3 : Option AstExpr} {a4 : Defined} {a5 : Stmts} {a6 : OptionExpr} {a7 : Defined}
        → (h : ContentsAs env a1 a2 a3 a4 a5 a6 a7) → Agree env other (asked_contents env h) → Moved both_pruned
        (λ y. ContentsAs other a1 a2 a3 a4 y.0 y.1 a7) (a5, a6)
    moved_contents (rule.contents {xs = xs} {ys = ys} h1 h2) g =
        let m1 = moved_stmts h1 g.0 in
        let m2 = moved_tail h2 g.1 in
        to (append m1.tree m2.tree.0, m2.tree.1) (rule.contents m1.by m2.by) (λ i. (
          append_pruned xs m1.tree ys m2.tree.0 m1.same (λ j.
              (m2.same j).0) i,
          (m2.same i).1,
        ))

    moved_stmts : {a1 : LowerCtx} {a2 : List AstStmt} {a3 : Defined} {a4 : Stmts} {a5 : Defined} → (h : StmtsAs env a1 a2 a3 a4 a5)
        → Agree env other (asked_stmts env h) → Moved pruned_stmts (λ y. StmtsAs other a1 a2 a3 y a5) a4
    moved_stmts rule.no_stmts _ = to _ rule.no_stmts refl
    moved_stmts (rule.more_stmts {xs = xs} {ys = ys} h1 h2) g =
        let m1 = moved_stmt h1 g.0 in
        let m2 = moved_stmts h2 g.1 in
        to _ (rule.more_stmts m1.by m2.by) (append_pruned xs m1.tree ys m2.tree m1.same m2.same)

    moved_tail : {a1 : LowerCtx} {a2 : Option AstExpr} {a3 : Defined} {a4 : Stmts} {a5 : OptionExpr} {a6 : Defined} →
        (h : TailAs env a1 a2 a3 a4 a5 a6) → Agree env other (asked_tail env h) → Moved both_pruned
        (λ y. TailAs other a1 a2 a3 y.0 y.1 a6) (a4, a5)
    moved_tail rule.no_tail _ = to (tree.no_stmts, tree.no_expr) rule.no_tail refl
    moved_tail (rule.some_tail {p = p} {e = e} h1) g =
        let m1 = moved_value h1 g (inside laws other p e) in
        to m1.tree (rule.some_tail m1.by) m1.same

    moved_value : {a1 : LowerCtx} {a2 : Pointer} {a3 : ExprKindLayer written} {a4 : Defined} {a5 : Stmts} {a6 : OptionExpr} {a7 : Defined} →
        (h : ValueAs env a1 a2 a3 a4 a5 a6 a7) → Agree env other (asked_value env h) → Allowed (ExprKindAs other a1 a2 a3)
        → Moved both_pruned (λ y. ValueAs other a1 a2 a3 a4 y.0 y.1 a7) (a5, a6)
    moved_value (rule.whole_value h1 h2) g y =
        let m2 = moved_expr h2 g y in
        to (tree.no_stmts, tree.some_expr m2.tree) (rule.whole_value h1 m2.by) (λ i. (tree.no_stmts, tree.some_expr (m2.same i)))
    moved_value (rule.disabled_value {s = s} {by = by} h1 h2) g _ =
        to (tree.more_stmts (tree.disabled_stmt s by tree.item_stmt) tree.no_stmts, tree.no_expr) (rule.disabled_value h1 (sym g ∙ h2)) refl
    moved_value (rule.callless_value h1) g _ = to (tree.no_stmts, tree.no_expr) (rule.callless_value (sym g ∙ h1)) refl
    moved_value (rule.called_value {p = p} {s = s} {c = c} {d = d} {d1 = d1} h1 h2) g _ =
        let m2 = moved_splice h2 g.1 in
        to m2.tree (rule.called_value (sym g.0.0 ∙ h1) (subst (λ w. SpliceAs other p s (call_node p c) w d m2.tree.0 m2.tree.1 d1)
        (call_same env other p c fragments.Stmts g.0.1) m2.by)) m2.same

    moved_splice : {a1 : LowerCtx} {a2 a3 : Pointer} {a4 : Option Expanding} {a5 : Defined} {a6 : Stmts} {a7 : OptionExpr} {a8 : Defined} →
        (h : SpliceAs env a1 a2 a3 a4 a5 a6 a7 a8) → Agree env other (asked_splice env h) → Moved both_pruned
        (λ y. SpliceAs other a1 a2 a3 a4 a5 y.0 y.1 a8) (a6, a7)
    moved_splice rule.too_deep_for_stmts _ = to (tree.no_stmts, tree.no_expr) rule.too_deep_for_stmts refl
    moved_splice rule.not_expanded_to_stmts _ = to (tree.no_stmts, tree.no_expr) rule.not_expanded_to_stmts refl
    moved_splice rule.not_found_for_stmts _ = to (tree.no_stmts, tree.no_expr) rule.not_found_for_stmts refl
    moved_splice (rule.no_stmts_in_it {c = c} {f = f} {es = es} h1) _ =
        to (tree.more_stmts (tree.call_stmt (record { call = c; file = f; eager = es })) tree.no_stmts, tree.no_expr)
        (rule.no_stmts_in_it h1) refl
    moved_splice (rule.spliced {c = c} {f = f} {es = es} h1 h2) g =
        let m1 = moved_contents h1 g in
        let l = last_moved m1.tree.1 h2 (λ i. (m1.same i).1) in
        to (tree.more_stmts (tree.call_stmt (record { call = c; file = f; eager = es })) m1.tree.0, l.tree) (rule.spliced m1.by l.by)
        (λ i. (tree.more_stmts (tree.call_stmt (record { call = c; file = f; eager = es })) (m1.same i).0, l.same i))

    moved_stmt : {a1 : LowerCtx} {a2 : Pointer} {a3 : StmtKindLayer written} {a4 : Defined} {a5 : Stmts} {a6 : Defined} →
        (h : StmtAs env a1 a2 a3 a4 a5 a6) → Agree env other (asked_stmt env h) → Moved pruned_stmts (λ y. StmtAs other a1 a2 a3 a4 y a6) a5
    moved_stmt (rule.enabled_let {x = x} {y = y} h1 h2 h3 h4 h5) g =
        let m4 = moved_opt_expr h4 g.1.1.1.0 in
        let m5 = moved_let_else h5 g.1.1.1.1 in
        to _ (rule.enabled_let (sym g.0 ∙ h1) (kept_opt_pat env other h2 g.1.0) (kept_opt_type env other h3 g.1.1.0) m4.by m5.by)
        (λ i. tree.more_stmts (tree.let_stmt x y (m4.same i) (m5.same i)) tree.no_stmts)
    moved_stmt (rule.disabled_let {p = p} {q = q} {t = t} {e = e} {b = b} h1 _ _ _ _) g =
        to _ (rule.disabled_let (sym g ∙ h1) (pat_in laws other p q).by (type_in laws other p t).by (expr_in laws other p e).by
        (let_else_in laws other p b).by) refl
    moved_stmt (rule.expr_stmt {semi = semi} {xs = xs} {x = x} h1) g =
        let m1 = moved_tail h1 g in
        to _ (rule.expr_stmt m1.by) (append_pruned xs m1.tree.0 (tree.more_stmts (tree.expr_stmt x semi) tree.no_stmts) (tree.more_stmts
        (tree.expr_stmt m1.tree.1 semi) tree.no_stmts) (λ i. (m1.same i).0) (λ i. tree.more_stmts (tree.expr_stmt
        (m1.same i).1 semi) tree.no_stmts))
    moved_stmt (rule.enabled_rules {n = n} {d = d} h1) g =
        to _ (rule.enabled_rules (sym g.0 ∙ h1)) (λ i. tree.more_stmts (tree.macro_stmt (times (name.Text n.t) d) (g.1 i)) tree.no_stmts)
    moved_stmt (rule.nameless_rules h1) g = to _ (rule.nameless_rules (sym g ∙ h1)) refl
    moved_stmt (rule.disabled_rules h1) g = to _ (rule.disabled_rules (sym g ∙ h1)) refl
    moved_stmt (rule.enabled_def {p = p} {n = n} h1) g =
        to _ (rule.enabled_def (sym g.0 ∙ h1)) (λ i. tree.more_stmts (tree.macro_stmt 0 (def_same env other p n g.1 i)) tree.no_stmts)
    moved_stmt (rule.disabled_def h1) g = to _ (rule.disabled_def (sym g ∙ h1)) refl
    moved_stmt rule.item_stmt _ = to _ rule.item_stmt refl

    moved_let_else : {a1 : LowerCtx} {a2 : Option AstLetElse} {a3 : OptionBlock} → (h : LetElseAs env a1 a2 a3) → Agree env other
        (asked_let_else env h) → Moved pruned_block_part (LetElseAs other a1 a2) a3
    moved_let_else rule.no_let_else _ = to _ rule.no_let_else refl
    moved_let_else (rule.some_let_else h1) g = let m1 = moved_opt_plain h1 g in to _ (rule.some_let_else m1.by) m1.same
