-- The rules of expressions allow one tree alone, where those of other parts do, of trees that are allowed by fewer rules.
use Rattle.std.proofs.Common.{◌≡◌, ◌∙◌, ◌≤◌, ℕ, refl, sym}
use Rattle.std.specs.Prelude.{List, Bool, true, false, Option, Some, option_map, is_some, []}
use Rattle.hir_syntax.specs.declared.ast.Expr.{Expr as AstExpr}
use Rattle.hir_syntax.specs.declared.ast.Name.{Name as AstName}
use Rattle.hir_syntax.specs.declared.pats.Pat.{Pat as AstPat}
use Rattle.hir_syntax.specs.declared.ast.ElseBranch.{ElseBranch as AstElseBranch}
use Rattle.hir_syntax.specs.declared.ast.RecordExprField.{RecordExprField as AstRecordExprField}
use Rattle.hir_syntax.specs.declared.ast.RecordExprFieldList.{out-RecordExprFieldList}
use Rattle.hir_syntax.specs.declared.branches.MatchArm.{MatchArm as AstMatchArm}
use Rattle.hir_store.specs.declared.hir.CoroutineKind.TheVariants as coroutine
use Rattle.hir_env.specs.ResolvedTree.{Arm, Arms, Exprs, Field, Fields, Guard, Spread}
use Rattle.hir_env.specs.ResolvedTree.{Expr, OptionExpr}
use Rattle.hir_env.specs.Answering.{name_or_missing, names_of, rawness}
use Rattle.hir_env.specs.Layers.{ElseBranchLayer, ExprKindLayer, written}
use Rattle.hir_env.specs.Ranges.{range_form}
use Rattle.hir_env.specs.Wrapped.{AstGuard}
use Rattle.hir_store.specs.Pointers.{Pointer}
use Rattle.hir_store.specs.declared.name.Name.TheVariants as name
use Rattle.hir_env.specs.ResolvedTree as tree
use Rattle.hir_env.specs.Paths.{mutability}
use Rattle.hir_env.specs.declared.ctx.LowerCtx.{LowerCtx}
use Rattle.thm_reading.specs.LowerCtx.{jump_here}
use Rattle.thm_reading.specs.LowerCtx.{site}
use Rattle.hir_env.specs.Calls.{around}
use Rattle.thm_reading.specs.Rules as rule
use Rattle.thm_reading.specs.Rules.{OptExprAs, ExprAs, ExprsAs, OptExprsAs, ElseAs, ElseKindAs, ExprKindAs, FieldsAs, FieldAs, FieldPartAs}
use Rattle.thm_reading.specs.Rules.{SpreadAs, ArmsAs, ArmAs, GuardAs}
use Rattle.thm_reading.proofs.Alone.{bool_clash, presence, ok_not_err, some_of, error_or, labels, one_called, around_only}
use Rattle.hir_env.specs.Answers.{Answers}
use Rattle.thm_reading.proofs.Sizes.{size_opt_expr, size_expr, size_exprs, size_opt_exprs, size_else, size_else_kind, size_expr_kind}
use Rattle.thm_reading.proofs.Sizes.{size_fields, size_field, size_field_part, size_spread, size_arms, size_arm, size_guard}
use Rattle.thm_reading.proofs.Below.{Below, left, less, right}
use Rattle.thm_reading.proofs.Targets.{same_target}

module _ (env : Answers) {n : ℕ} (below : Below env n) where
  mutual
    pub one_opt_expr : {a1 : LowerCtx} {a2 : Option AstExpr} {x y : OptionExpr} → (h : OptExprAs env a1 a2 x) → size_opt_expr env h ≤ n
        → OptExprAs env a1 a2 y → x ≡ y
    one_opt_expr rule.no_expr _ rule.no_expr = refl
    one_opt_expr (rule.some_expr h1) e (rule.some_expr k1) = λ i. tree.some_expr (one_expr h1 (less e) k1 i)

    pub one_expr : {a1 : LowerCtx} {a2 : Pointer} {a3 : ExprKindLayer written} {x y : Expr} → (h : ExprAs env a1 a2 a3 x)
        → size_expr env h ≤ n
        → ExprAs env a1 a2 a3 y → x ≡ y
    one_expr (rule.enabled _ h2) e (rule.enabled _ k2) = one_expr_kind h2 (less e) k2
    one_expr (rule.enabled h _) _ (rule.disabled k _) = ok_not_err (sym h ∙ k)
    one_expr (rule.disabled h _) _ (rule.enabled k _) = ok_not_err (sym k ∙ h)
    one_expr (rule.disabled {s = s} {by = by} h1 h2) e (rule.disabled k1 k2) =
        λ i. tree.disabled_expr (record { entered = []; condition = Some (s, (error_or by ((sym h1 ∙ k1) i))) })
        (one_expr_kind h2 (less e) k2 i)

    pub one_exprs : {a1 : LowerCtx} {a2 : List AstExpr} {x y : Exprs} → (h : ExprsAs env a1 a2 x) → size_exprs env h ≤ n
        → ExprsAs env a1 a2 y
        → x ≡ y
    one_exprs rule.no_exprs _ rule.no_exprs = refl
    one_exprs (rule.more_exprs h1 h2) e (rule.more_exprs k1 k2) =
        λ i. tree.more_exprs (one_expr h1 (less (left _ e)) k1 i) (one_exprs h2 (less (right _ e)) k2 i)

    pub one_opt_exprs : {a1 : LowerCtx} {a2 : Option (List AstExpr)} {x y : Exprs} → (h : OptExprsAs env a1 a2 x) → size_opt_exprs env h ≤ n
        → OptExprsAs env a1 a2 y → x ≡ y
    one_opt_exprs rule.without_exprs _ rule.without_exprs = refl
    one_opt_exprs (rule.with_exprs h1) e (rule.with_exprs k1) = one_exprs h1 (less e) k1

    pub one_else : {a1 : LowerCtx} {a2 : Option AstElseBranch} {x y : OptionExpr} → (h : ElseAs env a1 a2 x) → size_else env h ≤ n
        → ElseAs env a1 a2 y → x ≡ y
    one_else rule.no_else _ rule.no_else = refl
    one_else (rule.some_else h1) e (rule.some_else k1) = λ i. tree.some_expr (one_else_kind h1 (less e) k1 i)

    pub one_else_kind : {a1 : LowerCtx} {a2 : ElseBranchLayer written} {x y : Expr} → (h : ElseKindAs env a1 a2 x)
        → size_else_kind env h ≤ n
        → ElseKindAs env a1 a2 y → x ≡ y
    one_else_kind (rule.else_block h1) e (rule.else_block k1) = λ i. tree.block_expr (below.plain _ _ _ _ h1 e k1 i)
    one_else_kind (rule.else_if h1) e (rule.else_if k1) = one_expr h1 (less e) k1

    pub one_expr_kind : {a1 : LowerCtx} {a2 : Pointer} {a3 : ExprKindLayer written} {x y : Expr} → (h : ExprKindAs env a1 a2 a3 x)
        → size_expr_kind env h ≤ n → ExprKindAs env a1 a2 a3 y → x ≡ y
    one_expr_kind (rule.if_expr {s = s} h1 h2 h3) e (rule.if_expr k1 k2 k3) =
        λ i. tree.if_expr s (one_opt_expr h1 (less (left _ e)) k1 i) (below.opt_plain _ _ _ _ h2 (left _ (right _ e)) k2 i)
        (one_else h3 (less (right _ (right _ e))) k3 i)
    one_expr_kind (rule.block_expr h1) e (rule.block_expr k1) = below.own _ _ _ _ _ h1 e k1
    one_expr_kind (rule.loop_expr {s = s} {w = w} h1 h2) e (rule.loop_expr {w = v} k1 k2) =
        λ i. tree.loop_expr s (labels w v h1 k1 i).0 (labels w v h1 k1 i).1 (below.opt_plain _ _ _ _ h2 e k2 i)
    one_expr_kind (rule.while_expr {s = s} {w = w} h1 h2 h3) e (rule.while_expr {w = v} k1 k2 k3) =
        λ i. tree.while_expr s (labels w v h1 k1 i).0 (labels w v h1 k1 i).1 (one_opt_expr h2 (less (left _ e)) k2 i)
        (below.opt_plain _ _ _ _ h3 (right _ e) k3 i)
    one_expr_kind (rule.for_expr {s = s} {is = is} {w = w} h1 h2 h3 h4 h5) e (rule.for_expr {w = v} k1 k2 k3 k4 k5) =
        λ i. tree.for_expr s (some_of is ((sym h1 ∙ k1) i)) (labels w v h2 k2 i).0 (labels w v h2 k2 i).1
        (below.opt_pat _ _ _ _ h3 (left _ e) k3 i) (one_opt_expr h4 (less (left _ (right _ e))) k4 i)
        (below.for_body _ _ _ _ h5 (right _ (right _ e)) k5 i)
    one_expr_kind (rule.for_expr h _ _ _ _) _ (rule.itemless_for k) = presence (sym k ∙ h)
    one_expr_kind (rule.itemless_for h) _ (rule.for_expr k _ _ _ _) = presence (sym h ∙ k)
    one_expr_kind (rule.itemless_for _) _ (rule.itemless_for _) = refl
    one_expr_kind (rule.question_expr {s = s} {is = is} h1 h2) e (rule.question_expr k1 k2) =
        λ i. tree.question_expr s (some_of is ((sym h1 ∙ k1) i)) (one_opt_expr h2 (less e) k2 i)
    one_expr_kind (rule.question_expr h _) _ (rule.itemless_question k) = presence (sym k ∙ h)
    one_expr_kind (rule.itemless_question h) _ (rule.question_expr k _) = presence (sym h ∙ k)
    one_expr_kind (rule.itemless_question _) _ (rule.itemless_question _) = refl
    one_expr_kind (rule.call_expr {s = s} {es = es} h1 h2) e (rule.call_expr k1 k2) =
        λ i. tree.call_expr s (one_opt_expr h1 (less (left _ e)) k1 i) (is_some es) (one_opt_exprs h2 (less (right _ e)) k2 i)
    one_expr_kind (rule.path_expr {s = s} h1) e (rule.path_expr k1) =
        λ i. tree.path_expr s (below.opt_path _ _ _ _ h1 e k1 i) (env.hygiene (site s))
    one_expr_kind rule.continue_expr _ rule.continue_expr = refl
    one_expr_kind (rule.break_expr {p = p} {s = s} {l = l} h1) e (rule.break_expr k1) =
        λ i. tree.break_expr s (option_map (jump_here env p) l) (one_opt_expr h1 (less e) k1 i)
    one_expr_kind (rule.paren_expr {s = s} h1) e (rule.paren_expr k1) = λ i. tree.paren_expr s (one_opt_expr h1 (less e) k1 i)
    one_expr_kind rule.literal_expr _ rule.literal_expr = refl
    one_expr_kind (rule.method_call_expr {s = s} {n = n} h1 h2 h3) e (rule.method_call_expr k1 k2 k3) =
        λ i. tree.method_call_expr s (one_opt_expr h1 (less (left _ e)) k1 i) (name_or_missing n)
        (one_opt_exprs h2 (less (left _ (right _ e))) k2 i) (below.arg_list _ _ _ _ h3 (right _ (right _ e)) k3 i)
    one_expr_kind (rule.field_expr {s = s} {n = n} h1) e (rule.field_expr k1) =
        λ i. tree.unary_expr s (tree.field_of (name_or_missing n)) (one_opt_expr h1 (less e) k1 i)
    one_expr_kind (rule.prefix_expr {s = s} {o = o} h1) e (rule.prefix_expr k1) =
        λ i. tree.unary_expr s (tree.prefix_of o) (one_opt_expr h1 (less e) k1 i)
    one_expr_kind (rule.nameless_expr {s = s} h1) e (rule.nameless_expr k1) = λ i. tree.nameless_expr s (one_opt_expr h1 (less e) k1 i)
    one_expr_kind (rule.logic_expr {s = s} {o = o} h1 h2) e (rule.logic_expr k1 k2) =
        λ i. tree.lazy_expr s o (one_opt_expr h1 (less (left _ e)) k1 i) (one_opt_expr h2 (less (right _ e)) k2 i)
    one_expr_kind (rule.logic_expr _ _) _ (rule.operator_expr h _ _) = bool_clash h
    one_expr_kind (rule.assign_expr {p = p} {s = s} h1 t h2) e (rule.assign_expr k1 u k2) =
        let same = one_opt_expr h1 (less (left _ e)) k1 in
        λ i. tree.assign_expr s (same i) (same_target env p same t u i) (one_opt_expr h2 (less (right _ e)) k2 i)
    one_expr_kind (rule.assign_expr _ _ _) _ (rule.operator_expr h _ _) = bool_clash h
    one_expr_kind (rule.operator_expr h _ _) _ (rule.logic_expr _ _) = bool_clash h
    one_expr_kind (rule.operator_expr h _ _) _ (rule.assign_expr _ _ _) = bool_clash h
    one_expr_kind (rule.operator_expr {s = s} {o = o} _ h2 h3) e (rule.operator_expr _ k2 k3) =
        λ i. tree.binary_expr s (tree.operator o) (one_opt_expr h2 (less (left _ e)) k2 i) (one_opt_expr h3 (less (right _ e)) k3 i)
    one_expr_kind (rule.index_expr {s = s} h1 h2) e (rule.index_expr k1 k2) =
        λ i. tree.binary_expr s tree.index_of (one_opt_expr h1 (less (left _ e)) k1 i) (one_opt_expr h2 (less (right _ e)) k2 i)
    one_expr_kind (rule.ref_expr {s = s} {r = r} {m = m} h1) e (rule.ref_expr k1) =
        λ i. tree.unary_expr s (tree.reference_to (rawness r) (mutability m)) (one_opt_expr h1 (less e) k1 i)
    one_expr_kind (rule.tuple_expr {s = s} {c = c} h1) e (rule.tuple_expr k1) =
        λ i. tree.list_expr s (tree.tuple_of c) (one_exprs h1 (less e) k1 i)
    one_expr_kind (rule.array_expr {s = s} h1) e (rule.array_expr k1) = λ i. tree.list_expr s tree.array_of (one_exprs h1 (less e) k1 i)
    one_expr_kind (rule.repeat_expr {s = s} h1 h2) e (rule.repeat_expr k1 k2) =
        λ i. tree.repeat_expr s (one_opt_expr h1 (less (left _ e)) k1 i) (tree.constant (one_opt_expr h2 (less (right _ e)) k2 i))
    one_expr_kind (rule.closure_expr {s = s} {m = m} {t = t} h1 h2 h3) e (rule.closure_expr k1 k2 k3) =
        λ i. tree.closure_expr s m t (below.params _ _ _ _ h1 (left _ e) k1 i) (below.answer _ _ _ _ h2 (left _ (right _ e)) k2 i)
        (one_opt_expr h3 (less (right _ (right _ e))) k3 i)
    one_expr_kind (rule.gen_closure {s = s} {m = m} h1 h2 h3) e (rule.gen_closure k1 k2 k3) =
        λ i. tree.coroutine_closure_expr s coroutine.Gen m (below.params _ _ _ _ h1 (left _ e) k1 i)
        (below.answer _ _ _ _ h2 (left _ (right _ e)) k2 i) (one_opt_expr h3 (less (right _ (right _ e))) k3 i)
    one_expr_kind (rule.async_closure {s = s} {m = m} h1 h2 h3) e (rule.async_closure k1 k2 k3) =
        λ i. tree.coroutine_closure_expr s coroutine.Async m (below.params _ _ _ _ h1 (left _ e) k1 i)
        (below.answer _ _ _ _ h2 (left _ (right _ e)) k2 i) (one_opt_expr h3 (less (right _ (right _ e))) k3 i)
    one_expr_kind (rule.async_gen_closure {s = s} {m = m} h1 h2 h3) e (rule.async_gen_closure k1 k2 k3) =
        λ i. tree.coroutine_closure_expr s coroutine.AsyncGen m (below.params _ _ _ _ h1 (left _ e) k1 i)
        (below.answer _ _ _ _ h2 (left _ (right _ e)) k2 i) (one_opt_expr h3 (less (right _ (right _ e))) k3 i)
    one_expr_kind (rule.return_expr {s = s} h1) e (rule.return_expr k1) =
        λ i. tree.leaving_expr s tree.returning (one_opt_expr h1 (less e) k1 i)
    one_expr_kind (rule.yeet_expr {s = s} h1) e (rule.yeet_expr k1) = λ i. tree.leaving_expr s tree.yeeting (one_opt_expr h1 (less e) k1 i)
    one_expr_kind (rule.become_expr {s = s} h1) e (rule.become_expr k1) = λ i. tree.become_expr s (one_opt_expr h1 (less e) k1 i)
    one_expr_kind (rule.yield_expr {s = s} h1) e (rule.yield_expr k1) = λ i. tree.yield_expr s (one_opt_expr h1 (less e) k1 i)
    one_expr_kind (rule.await_expr {p = p} {s = s} h1) e (rule.await_expr k1) =
        λ i. tree.await_expr s p.await_location (one_opt_expr h1 (less e) k1 i)
    one_expr_kind (rule.cast_expr {s = s} h1 h2) e (rule.cast_expr k1 k2) =
        λ i. tree.cast_expr s (one_opt_expr h1 (less (left _ e)) k1 i) (below.opt_type _ _ _ _ h2 (right _ e) k2 i)
    one_expr_kind (rule.record_expr {s = s} {l = l} h1 h2 h3) e (rule.record_expr k1 k2 k3) =
        λ i. tree.record_expr s (below.opt_path _ _ _ _ h1 (left _ e) k1 i)
        (record { has_list = true; has_dots = (out-RecordExprFieldList l).dotdot }) (one_fields h2 (less (left _ (right _ e))) k2 i)
        (one_spread h3 (less (right _ (right _ e))) k3 i)
    one_expr_kind (rule.record_without_list {s = s} h1) e (rule.record_without_list k1) =
        λ i. tree.record_expr s (below.opt_path _ _ _ _ h1 e k1 i) (record { has_list = false; has_dots = false }) tree.no_fields
        tree.no_spread
    one_expr_kind (rule.offset_of_expr {s = s} {ns = ns} h1) e (rule.offset_of_expr k1) =
        λ i. tree.offset_of_expr s (below.opt_type _ _ _ _ h1 e k1 i) (names_of ns)
    one_expr_kind rule.cfg_expr _ rule.cfg_expr = refl
    one_expr_kind (rule.let_expr {s = s} h1 h2) e (rule.let_expr k1 k2) =
        λ i. tree.let_expr s (below.opt_pat _ _ _ _ h1 (left _ e) k1 i) (one_opt_expr h2 (less (right _ e)) k2 i)
    one_expr_kind (rule.match_expr {s = s} h1 h2) e (rule.match_expr k1 k2) =
        λ i. tree.match_expr s (one_opt_expr h1 (less (left _ e)) k1 i) (one_arms h2 (less (right _ e)) k2 i)
    one_expr_kind (rule.match_without_arms {s = s} h1) e (rule.match_without_arms k1) =
        λ i. tree.match_expr s (one_opt_expr h1 (less e) k1 i) tree.no_arms
    one_expr_kind (rule.range_expr {p = p} {s = s} {o = o} {a = a} {b = b} h1 h2) e (rule.range_expr k1 k2) =
        λ i. tree.range_expr s (range_form env.lang_items (env.new_range p.module_id) o (is_some a) (is_some b))
        (one_opt_expr h1 (less (left _ e)) k1 i) (one_opt_expr h2 (less (right _ e)) k2 i)
    one_expr_kind rule.underscore_expr _ rule.underscore_expr = refl
    one_expr_kind rule.include_bytes_expr _ rule.include_bytes_expr = refl
    one_expr_kind rule.asm_expr _ rule.asm_expr = refl
    one_expr_kind rule.format_args_expr _ rule.format_args_expr = refl
    one_expr_kind rule.callless_expr _ rule.callless_expr = refl
    one_expr_kind (rule.called_expr {s = s} h1 h2 h3) e (rule.called_expr k1 k2 k3) =
        λ i. (around_only h3 ∙ ((λ j. around s (one_called h1 k1 j) (one_opt_expr h2 (less e) k2 j)) ∙ sym (around_only k3))) i

    pub one_fields : {a1 : LowerCtx} {a2 : List AstRecordExprField} {x y : Fields} → (h : FieldsAs env a1 a2 x) → size_fields env h ≤ n
        → FieldsAs env a1 a2 y → x ≡ y
    one_fields rule.no_fields _ rule.no_fields = refl
    one_fields (rule.more_fields h1 h2) e (rule.more_fields k1 k2) =
        λ i. tree.more_fields (one_field h1 (less (left _ e)) k1 i) (one_fields h2 (less (right _ e)) k2 i)

    pub one_field : {a1 : LowerCtx} {a2 : Pointer} {a3 : Option AstName} {a4 : Option AstExpr} {x y : Field}
        → (h : FieldAs env a1 a2 a3 a4 x)
        → size_field env h ≤ n → FieldAs env a1 a2 a3 a4 y → x ≡ y
    one_field (rule.enabled_field _ h2) e (rule.enabled_field _ k2) = one_field_part h2 (less e) k2
    one_field (rule.enabled_field h _) _ (rule.disabled_field k _) = ok_not_err (sym h ∙ k)
    one_field (rule.disabled_field h _) _ (rule.enabled_field k _) = ok_not_err (sym k ∙ h)
    one_field (rule.disabled_field {s = s} {by = by} h1 h2) e (rule.disabled_field k1 k2) =
        λ i. tree.disabled_field s (error_or by ((sym h1 ∙ k1) i)) (one_field_part h2 (less e) k2 i)

    pub one_field_part : {a1 : LowerCtx} {a2 : Pointer} {a3 : Option AstName} {a4 : Option AstExpr} {x y : Field}
        → (h : FieldPartAs env a1 a2 a3 a4 x) → size_field_part env h ≤ n → FieldPartAs env a1 a2 a3 a4 y → x ≡ y
    one_field_part (rule.nameless_field {s = s} h1) e (rule.nameless_field k1) = λ i. tree.nameless_field s (one_opt_expr h1 (less e) k1 i)
    one_field_part (rule.named_field {s = s} {n = n} h1) e (rule.named_field k1) =
        λ i. tree.named_field s (name.Text n.t) (one_opt_expr h1 (less e) k1 i)

    pub one_spread : {a1 : LowerCtx} {a2 : Option AstExpr} {a3 : Bool} {x y : Spread} → (h : SpreadAs env a1 a2 a3 x)
        → size_spread env h ≤ n
        → SpreadAs env a1 a2 a3 y → x ≡ y
    one_spread (rule.spread_of h1) e (rule.spread_of k1) = λ i. tree.spread_of (one_expr h1 (less e) k1 i)
    one_spread rule.field_defaults _ rule.field_defaults = refl
    one_spread rule.no_spread _ rule.no_spread = refl

    pub one_arms : {a1 : LowerCtx} {a2 : List AstMatchArm} {x y : Arms} → (h : ArmsAs env a1 a2 x) → size_arms env h ≤ n
        → ArmsAs env a1 a2 y
        → x ≡ y
    one_arms rule.no_arms _ rule.no_arms = refl
    one_arms (rule.more_arms h1 h2) e (rule.more_arms k1 k2) =
        λ i. tree.more_arms (one_arm h1 (less (left _ e)) k1 i) (one_arms h2 (less (right _ e)) k2 i)

    pub one_arm : {a1 : LowerCtx} {a2 : Pointer} {a3 : Option AstPat} {a4 : Option AstGuard} {a5 : Option AstExpr} {x y : Arm}
        → (h : ArmAs env a1 a2 a3 a4 a5 x) → size_arm env h ≤ n → ArmAs env a1 a2 a3 a4 a5 y → x ≡ y
    one_arm (rule.enabled_arm _ h2 h3 h4) e (rule.enabled_arm _ k2 k3 k4) =
        λ i. tree.arm (below.opt_pat _ _ _ _ h2 (left _ e) k2 i) (one_opt_expr h4 (less (right _ (right _ e))) k4 i)
        (one_guard h3 (less (left _ (right _ e))) k3 i)
    one_arm (rule.enabled_arm h _ _ _) _ (rule.disabled_arm k _ _ _) = ok_not_err (sym h ∙ k)
    one_arm (rule.disabled_arm h _ _ _) _ (rule.enabled_arm k _ _ _) = ok_not_err (sym k ∙ h)
    one_arm (rule.disabled_arm {s = s} {by = by} h1 h2 h3 h4) e (rule.disabled_arm k1 k2 k3 k4) =
        λ i. tree.disabled_arm s (error_or by ((sym h1 ∙ k1) i))
        (tree.arm (below.opt_pat _ _ _ _ h2 (left _ e) k2 i) (one_opt_expr h4 (less (right _ (right _ e))) k4 i)
        (one_guard h3 (less (left _ (right _ e))) k3 i))

    pub one_guard : {a1 : LowerCtx} {a2 : Option AstGuard} {x y : Guard} → (h : GuardAs env a1 a2 x) → size_guard env h ≤ n
        → GuardAs env a1 a2 y → x ≡ y
    one_guard rule.no_guard _ rule.no_guard = refl
    one_guard (rule.some_guard h1) e (rule.some_guard k1) = λ i. tree.guard (one_opt_expr h1 (less e) k1 i)
