-- Each number is reached in one way, and the numbers of a part are those that its lowering gave out.
use Rattle.std.proofs.Common.{true, false, List, [], ◌∷◌, ◌++◌, Option, Some, None, refl}
use Rattle.hir_store.specs.declared.hir.Expr.TheVariants as hir
use Rattle.hir_store.specs.declared.hir.MatchArm.{MatchArm}
use Rattle.hir_store.specs.declared.hir.Statement.{Statement}
use Rattle.hir_store.specs.declared.hir.Statement.TheVariants as statement
use Rattle.hir_store.specs.declared.hir.RecordLitField.{RecordLitField}
use Rattle.hir_store.specs.declared.hir.RecordSpread.TheVariants as spread
use Rattle.hir_store.specs.declared.ids.ExprId.{ExprId}
use Rattle.hir_store.specs.declared.pat.RecordFieldPat.{RecordFieldPat}
use Rattle.hir_store.specs.declared.diagnostics.ExpressionStoreDiagnostics.TheVariants.{InactiveCode}
use Rattle.hir_env.specs.ResolvedTree as tree
use Rattle.hir_env.specs.ResolvedTree.{Expr, OptionExpr, Exprs, Fields, Field, Block, OptionBlock, Stmts, Arms, Arm, Guard, Target, Targets}
use Rattle.hir_env.specs.ResolvedTree.{TargetFields, TargetField}
use Rattle.hir_env.specs.Conditions.{holds_let}
use Rattle.hir_env.specs.Targets.{head_pointer}
use Rattle.hir_lower_builder.specs.Lowering.{Lowering}
use Rattle.hir_lower_builder.specs.Lower.{push_some, lower, lower_part, present, kept_part, lower_each, lower_block, lower_block_part}
use Rattle.hir_lower_builder.specs.Lower.{lower_fields, lower_field, lower_spread, lower_stmts, lower_arms, lower_arm, lower_guard}
use Rattle.hir_lower_builder.specs.Lower.{lower_target, lower_targets, lower_target_fields, lower_target_field, present_block}
use Rattle.hir_lower_builder.specs.Lower.{stored_leaf, stored_unary, stored_binary, stored_lazy, stored_leaving, no_closure_params}
use Rattle.hir_lower_builder.specs.Pats.{Elements, no_elements}
use Rattle.thm_semantics.specs.Reached.{of_each, of_fields, of_others, of_arms}
use Rattle.thm_logic.proofs.Calls.{correct_track}
use Rattle.thm_logic.proofs.Definitions.{correct_define, correct_inside_macro}
use Rattle.thm_logic.proofs.Frames.{macro_at}
use Rattle.thm_logic.proofs.Keeping.{constant_any, contents_part_any, lower_path_any, params_any, part_any, present_type_any}
use Rattle.thm_logic.proofs.Keeping.{rooted_any}
use Rattle.thm_logic.proofs.Steps.{Correct, correct_bind, correct_as, correct_pure, correct_report}
use Rattle.thm_semantics.proofs.Forms.{Pushed, pushed_none, correct_statement}
use Rattle.thm_semantics.proofs.OwningPats as Pats
use Rattle.thm_semantics.proofs.Owning.{OwnsAs, Owns, OwnsSome, owns_none, leaf_owns, missing_owns, none_owns, some_owns, leaf_below}
use Rattle.thm_semantics.proofs.Owning.{unary_below, binary_below, leaving_below, of_field, contents_owns, operand_owns}
use Rattle.thm_semantics.proofs.Owning.{operands_owns, value_owns, list_owns, method_call_owns, cast_owns, offset_of_owns, record_owns}
use Rattle.thm_semantics.proofs.Owning.{field_owns, await_owns, nameless_owns, if_owns, call_owns, loop_owns, iteration_owns}
use Rattle.thm_semantics.proofs.Owning.{break_owns, repeat_owns, const_owns, closure_owns, coroutine_owns, yield_owns, owns_owning}
use Rattle.thm_semantics.proofs.Owning.{coroutine_closure_owns}
use Rattle.thm_semantics.proofs.Owning.{continue_owns, paren_owns, called_owns, uncalled_owns, path_owns, kept_owns}
use Rattle.thm_semantics.proofs.Owning.{disabled_owns, each_more, fields_more}
use Rattle.thm_semantics.proofs.Owning.{fields_own_all, Filled, filled_end, filled_held, filled_none, filled_silent, filled_expr}
use Rattle.thm_semantics.proofs.Owning.{block_owns, each_owns_all}
use Rattle.thm_semantics.proofs.OwningFors.{for_owns}
use Rattle.thm_semantics.proofs.OwningTries.{condition_owns, question_owns, try_owns, typed_try_owns}
use Rattle.thm_semantics.proofs.Spread.{spread_none}

arms_own_all : {p : Lowering (List MatchArm)} → Correct p (Pushed [] (OwnsAs of_arms)) → Correct p (OwnsAs of_arms)
arms_own_all h = correct_as h (λ final ps m m' r g row. rw row.is row.rel)

mutual
  expr_owns : (e : Expr) → Correct (lower e) Owns
  expr_owns (tree.disabled_expr why e) = disabled_owns why
  expr_owns (tree.literal_expr at l) = leaf_owns _ (Some at) (λ f s. refl)
  expr_owns (tree.path_expr at p h) = path_owns at p h
  expr_owns (tree.paren_expr at e) = paren_owns at (part_owns e)
  expr_owns (tree.macro_expr at called tree.no_expr) = uncalled_owns at called
  expr_owns (tree.macro_expr at called (tree.some_expr e)) = called_owns at called (expr_owns e)
  expr_owns (tree.call_expr at f has_list es) = call_owns at (part_owns f) (each_owns_all (each_owns es []))
  expr_owns (tree.if_expr at c t e) = if_owns at (part_owns c) (block_part_owns t) (present_owns e)
  expr_owns (tree.loop_expr at label _ b) = loop_owns at _ label (block_part_owns b)
  expr_owns (tree.while_expr at label _ c b) =
      loop_owns at _ label (iteration_owns at (condition_owns at (holds_let c) (part_owns c)) (block_part_owns b))
  expr_owns (tree.for_expr at items label _ p h b) = for_owns at (head_pointer at h) items label p (part_owns h) (part_owns b)
  expr_owns (tree.question_expr at items e) = question_owns at items (part_owns e)
  expr_owns (tree.itemless_expr at) = missing_owns
  expr_owns (tree.try_expr at i tree.no_type number ss e) = try_owns at i false number (stmts_owns (kept_part_owns e) ss [])
  expr_owns (tree.try_expr at i (tree.some_type t) number ss e) =
      typed_try_owns at t (try_owns at i true number (stmts_owns (kept_part_owns e) ss []))
  expr_owns (tree.break_expr at jump e) = break_owns at jump (present_owns e)
  expr_owns (tree.continue_expr at jump) = continue_owns at jump
  expr_owns (tree.block_expr b) = block_is_owns b
  expr_owns (tree.leaf_expr at form) = leaf_owns (stored_leaf form) (Some at) (leaf_below form)
  expr_owns (tree.unary_expr at form e) = operand_owns at (stored_unary form) (unary_below form) (part_owns e)
  expr_owns (tree.binary_expr at form a b) = operands_owns at (stored_binary form) (binary_below form) (part_owns a) (part_owns b)
  expr_owns (tree.lazy_expr at op a b) = operands_owns at (stored_lazy op) (λ f s i j. refl) (part_owns a) (part_owns b)
  expr_owns (tree.list_expr at form es) = list_owns at form (each_owns_all (each_owns es []))
  expr_owns (tree.repeat_expr at e c) = repeat_owns at (part_owns e) (constant_any c)
  expr_owns (tree.const_expr at c) = owns_owning (λ i. i) (const_owns at (rooted_any c))
  expr_owns (tree.closure_expr at moves is_static ps t e) = owns_owning (λ i. i)
      (closure_owns at moves is_static (params_any no_closure_params ps) (present_type_any t) (part_any e))
  expr_owns (tree.coroutine_expr at kind moves number ss e) =
      owns_owning (λ i. i) (coroutine_owns at kind moves number (contents_part_any ss e))
  expr_owns (tree.coroutine_closure_expr at kind moves ps t e) = owns_owning (λ i. i)
      (coroutine_closure_owns at kind moves (params_any no_closure_params ps) (present_type_any t) (part_any e))
  expr_owns (tree.method_call_expr at e name es generics) =
      method_call_owns at name generics (part_owns e) (each_owns_all (each_owns es []))
  expr_owns (tree.cast_expr at e t) = cast_owns at t (part_owns e)
  expr_owns (tree.record_expr at p head fs s) = record_owns at p (contents_owns (fields_own_all (fields_own fs [])) (spread_owns s))
  expr_owns (tree.offset_of_expr at t names) = offset_of_owns at t names
  expr_owns (tree.leaving_expr at form e) = value_owns at (stored_leaving form) (leaving_below form) (present_owns e)
  expr_owns (tree.become_expr at e) = operand_owns at hir.Become (λ f s i. refl) (part_owns e)
  expr_owns (tree.yield_expr at e) = yield_owns at (present_owns e)
  expr_owns (tree.await_expr at location e) = await_owns at location (part_owns e)
  expr_owns (tree.nameless_expr at e) = nameless_owns at (part_owns e)
  expr_owns (tree.let_expr at p e) = Pats.let_owns at p (part_owns e)
  expr_owns (tree.match_expr at e arms) = Pats.match_owns at (part_owns e) (arms_own_all (arms_own arms []))
  expr_owns (tree.range_expr at form s e) = Pats.range_owns at form (present_owns s) (present_owns e)
  expr_owns (tree.assign_expr at own target e) = Pats.assign_owns at (target_owns target) (part_owns e)

  pub part_owns : (e : OptionExpr) → Correct (lower_part e) Owns
  part_owns tree.no_expr = missing_owns
  part_owns (tree.some_expr e) = expr_owns e

  block_part_owns : (b : OptionBlock) → Correct (lower_block_part b) Owns
  block_part_owns tree.no_block = missing_owns
  block_part_owns (tree.some_block b) = block_is_owns b

  present_owns : (e : OptionExpr) → Correct (present e) OwnsSome
  present_owns tree.no_expr = none_owns
  present_owns (tree.some_expr e) = some_owns (expr_owns e)

  kept_part_owns : (e : OptionExpr) → Correct (kept_part e) OwnsSome
  kept_part_owns tree.no_expr = none_owns
  kept_part_owns (tree.some_expr e) = kept_owns e (expr_owns e)

  each_owns : (es : Exprs) (done : List ExprId) → Correct (lower_each done es) (Pushed done (OwnsAs of_each))
  each_owns tree.no_exprs done = correct_as (correct_pure done)
      (λ final ps m m' r g row. pushed_none done row.is (owns_none [] (λ f. refl)))
  each_owns (tree.more_exprs e es) done = correct_as (correct_bind (kept_owns e (expr_owns e)) (λ o. each_owns es (push_some done o)))
      (λ final ps m m' r g row. each_more done row.one row.before row.after row.first row.second)

  fields_own : (fs : Fields) (done : List RecordLitField) → Correct (lower_fields done fs) (Pushed done (OwnsAs of_fields))
  fields_own tree.no_fields done = correct_as (correct_pure done)
      (λ final ps m m' r g row. pushed_none done row.is (owns_none [] (λ f. refl)))
  fields_own (tree.more_fields f fs) done = correct_as (correct_bind (one_field_owns f) (λ o. fields_own fs (push_some done o)))
      (λ final ps m m' r g row. fields_more done row.one row.before row.after row.first row.second)

  one_field_owns : (f : Field) → Correct (lower_field f) (OwnsAs of_field)
  one_field_owns (tree.disabled_field at by f) = correct_as (correct_bind (correct_report (InactiveCode at by)) (λ u. correct_pure None))
      (λ final ps m m' o g row. rw row.second.is (owns_none None (λ f. refl)))
  one_field_owns (tree.nameless_field at e) = correct_as (correct_pure None)
      (λ final ps m m' o g row. rw row.is (owns_none None (λ f. refl)))
  one_field_owns (tree.named_field at name e) = field_owns at name (part_owns e)

  arms_own : (arms : Arms) (done : List MatchArm) → Correct (lower_arms done arms) (Pushed done (OwnsAs of_arms))
  arms_own tree.no_arms done = correct_as (correct_pure done)
      (λ final ps m m' r g row. pushed_none done row.is (owns_none [] (λ f. refl)))
  arms_own (tree.more_arms a arms) done = correct_as (correct_bind (one_arm_owns a) (λ o. arms_own arms (push_some done o)))
      (λ final ps m m' r g row. Pats.arms_more done row.one row.before row.after row.first row.second)

  one_arm_owns : (a : Arm) → Correct (lower_arm a) (OwnsAs Pats.of_arm)
  one_arm_owns (tree.disabled_arm at by a) = correct_as (correct_bind (correct_report (InactiveCode at by)) (λ u. correct_pure None))
      (λ final ps m m' o g row. rw row.second.is (owns_none None (λ f. refl)))
  one_arm_owns (tree.arm p e g) = Pats.arm_owns p (part_owns e) (guard_owns g)

  guard_owns : (g : Guard) → Correct (lower_guard g) OwnsSome
  guard_owns tree.no_guard = none_owns
  guard_owns (tree.guard e) = some_owns (part_owns e)

  target_owns : (t : Target) → Correct (lower_target t) Pats.OwnsPlaces
  target_owns (tree.absent_target call) = Pats.absent_owns call
  target_owns (tree.place_target at e) = Pats.place_owns at (expr_owns e)
  target_owns (tree.wild_target at) = Pats.wild_owns at
  target_owns (tree.macro_target at called t) = Pats.called_owns at called (target_owns t)
  target_owns (tree.path_target at p h) = Pats.path_target_owns (lower_path_any (tree.some_path p)) at h
  target_owns (tree.tuple_target at ts) = Pats.tuple_target_owns at (targets_own ts no_elements)
  target_owns (tree.call_target at p ts) = Pats.call_target_owns at (targets_own ts no_elements) (lower_path_any p)
  target_owns (tree.array_target at before dots behind) =
      Pats.array_target_owns at (targets_own before no_elements) dots (targets_own behind no_elements)
  target_owns (tree.record_target at p fs dots spread) =
      Pats.record_target_owns at dots spread (lower_path_any p) (target_fields_own fs [])

  targets_own : (ts : Targets) (done : Elements) → Correct (lower_targets done ts) (Pats.ElementsOwn done)
  targets_own tree.no_targets done = Pats.none_own done
  targets_own (tree.more_targets t ts) done = Pats.more_own (target_owns t) (targets_own ts) done
  targets_own (tree.dots_targets ts) done = Pats.dots_own (targets_own ts) done
  targets_own (tree.tracked_targets called ts) done = Pats.tracked_own called (targets_own ts done)

  target_fields_own : (fs : TargetFields) (done : List RecordFieldPat)
      → Correct (lower_target_fields done fs) (Pushed done (Pats.OwnsIn Pats.of_target_fields))
  target_fields_own tree.no_target_fields done = correct_as (correct_pure done)
      (λ final ps m m' r g row. pushed_none done row.is (record { spread = λ c d le le'. spread_none m.nodes m'.nodes }))
  target_fields_own (tree.more_target_fields f fs) done =
      correct_as (correct_bind (one_target_field_owns f) (λ o. target_fields_own fs (push_some done o)))
      (λ final ps m m' r g row. Pats.target_fields_more done row.one row.before row.after row.first row.second)

  one_target_field_owns : (f : TargetField) → Correct (lower_target_field f) (Pats.OwnsIn Pats.of_target_field)
  one_target_field_owns (tree.disabled_target_field at by) = Pats.disabled_field_owns at by
  one_target_field_owns tree.partless_target_field = Pats.no_field_owns
  one_target_field_owns (tree.target_field at n t) = Pats.target_field_owns at n (target_owns t)

  else_owns : (b : OptionBlock) → Correct (present_block b) OwnsSome
  else_owns tree.no_block = none_owns
  else_owns (tree.some_block b) = some_owns (block_is_owns b)

  spread_owns : (s : tree.Spread) → Correct (lower_spread s) (OwnsAs of_others)
  spread_owns tree.no_spread = correct_as (correct_pure spread.None)
      (λ final ps m m' o g row. rw row.is (owns_none spread.None (λ f. refl)))
  spread_owns tree.field_defaults = correct_as (correct_pure spread.FieldDefaults)
      (λ final ps m m' o g row. rw row.is (owns_none spread.FieldDefaults (λ f. refl)))
  spread_owns (tree.spread_of e) = correct_as (correct_bind (expr_owns e) (λ i. correct_pure (spread.Expr i)))
      (λ final ps m m' o g row. rw (row.second.is, row.second.still) (record { spread = row.first.spread }))

  block_is_owns : (b : Block) → Correct (lower_block b) Owns
  block_is_owns (tree.block at is_unsafe label _ number ss e) = block_owns at is_unsafe label number (stmts_owns (kept_part_owns e) ss [])

  stmts_owns : {q : Lowering (Option ExprId)} → Correct q OwnsSome → (ss : Stmts) (done : List Statement)
      → Correct (lower_stmts done ss q) (Filled done)
  stmts_owns hq tree.no_stmts done = correct_as (correct_bind hq (λ o. correct_pure (done, o)))
      (λ final ps m m' r g row. rw row.second.still (filled_end done row.one row.second.is row.first))
  stmts_owns hq (tree.more_stmts (tree.expr_stmt e semi) ss) done = correct_as
      (correct_bind (correct_statement semi (kept_part_owns e)) (λ o. stmts_owns hq ss (push_some done o)))
      (λ final ps m m' r g row. let s = row.first in let others = row.second in
      filled_expr semi done s.value row.before row.after s.rel (rw s.is at others))
  stmts_owns hq (tree.more_stmts (tree.disabled_stmt at by s) ss) done = correct_as
      (correct_bind (correct_bind (correct_report (InactiveCode at by)) (λ u. correct_pure None))
      (λ o. stmts_owns hq ss (push_some done o)))
      (λ final ps m m' r g row. let others = row.second in
      filled_none done row.before row.after (rw row.first.second.is at others))
  stmts_owns hq (tree.more_stmts (tree.call_stmt c) ss) done = correct_as
      (correct_bind (correct_bind (correct_track c) (λ u. correct_pure None)) (λ o. stmts_owns hq ss (push_some done o)))
      (λ final ps m m' r g row. let others = row.second in
      filled_none done row.before row.after (rw row.first.second.is at others))
  stmts_owns hq (tree.more_stmts (tree.let_stmt p t e b) ss) done = correct_as
      (correct_bind (Pats.let_stmt_owns p t (present_owns e) (else_owns b)) (λ o. stmts_owns hq ss (push_some done o)))
      (λ final ps m m' r g row. let s = row.first in let others = row.second in
      filled_held done s.held row.before row.after s.rel (rw s.is at others))
  stmts_owns hq (tree.more_stmts tree.item_stmt ss) done = correct_as (stmts_owns hq ss (done ++ statement.Item ∷ []))
      (λ final ps m m' r g p. filled_silent {qs = ps} statement.Item done (λ f. refl) g p)
  stmts_owns hq (tree.more_stmts (tree.macro_stmt k None) ss) done = correct_as
      (correct_bind (correct_define k None) (λ o. stmts_owns hq ss (push_some done o)))
      (λ final ps m m' r g row. let others = row.second in
      filled_silent {qs = ps} statement.Item done (λ f. refl) g (rw (row.first.is, row.first.still) at others))
  stmts_owns hq (tree.more_stmts (tree.macro_stmt k (Some def)) ss) done = correct_as
      (correct_bind (correct_define k (Some def)) (λ o. correct_inside_macro def (stmts_owns hq ss (push_some done o))))
      (λ final ps m m' r g row. let others = row.second in
      filled_silent {qs = macro_at def ∷ ps} (statement.MacroDef def) done (λ f. refl) g (rw (row.first.is, row.first.still) at others))
