-- What a written expression becomes is no made name: a line for each form, whatever its parts are.
use Rattle.std.proofs.Common.{◌≡◌, refl, subst, sym, ℕ, Bool, true, false, List, [], Option, Some, None, option_map}
use Rattle.hir_binding.specs.declared.binding.BindingAnnotation.TheVariants.{Mutable, Unannotated}
use Rattle.hir_store.specs.Pointers.{Pointer}
use Rattle.hir_store.specs.Stored.{Stored, store_of, map_of}
use Rattle.hir_store.specs.declared.hir.CoroutineKind.{CoroutineKind}
use Rattle.hir_store.specs.declared.hir.Expr.{Expr as HirExpr}
use Rattle.hir_store.specs.declared.hir.LoopSource.{LoopSource}
use Rattle.hir_store.specs.declared.ids.BlockId.{BlockId}
use Rattle.hir_store.specs.declared.ids.ExprId.{ExprId}
use Rattle.hir_store.specs.declared.ids.HygieneId.{HygieneId}
use Rattle.hir_store.specs.declared.ids.LangItemId.{LangItemId}
use Rattle.hir_store.specs.declared.ids.PatId.{PatId}
use Rattle.hir_store.specs.declared.ids.TypeRefId.{TypeRefId}
use Rattle.hir_store.specs.declared.path.Path.{Path as HirPath}
use Rattle.hir_env.specs.ResolvedTree as tree
use Rattle.hir_env.specs.ResolvedTree.{Binary, Block, Expr, ForItems, Label, Leaf, Leaving, Listing, OptionExpr, OptionPath}
use Rattle.hir_env.specs.ResolvedTree.{QuestionItems, RangeForm, Unary}
use Rattle.spec_data.proofs.GeneratedNames.{PathUnmade, path_unmade}
use Rattle.spec_data.specs.Reading.{stored_path}
use Rattle.hir_lower_builder.specs.Lowering.{Lowering, ◌>>=◌, owning, alloc_expr, alloc_desugared}
use Rattle.hir_lower_builder.specs.Lower as lower
use Rattle.hir_lower_builder.specs.Made.{for_form, for_iteration_form, made_loop_form, question_form, try_block_form, typed_try_form}
use Rattle.hir_lower_builder.specs.Forms.{ExprSteps, StoredContents, StoredFields, missing, if_form, loop_form, call_form, continue_form}
use Rattle.hir_lower_builder.specs.Forms.{called_form, uncalled_form}
use Rattle.hir_lower_builder.specs.Forms.{break_form, paren_form, path_form, path_or_missing, operand_form, operands_form, value_form}
use Rattle.hir_lower_builder.specs.declared.closures.ClosureParams.{ClosureParams}
use Rattle.hir_lower_builder.specs.Forms.{list_form, repeat_form, const_form, closure_form, coroutine_block_form, coroutine_form}
use Rattle.hir_lower_builder.specs.Forms.{method_call_form, await_form, cast_form, offset_of_form, record_of, record_form, block_form}
use Rattle.hir_lower_builder.specs.Forms.{labelled, let_form, match_form, assign_form, settled, stored_binary, stored_leaf}
use Rattle.hir_lower_builder.specs.Forms.{stored_leaving, stored_unary}
use Rattle.hir_lower_builder.specs.Preludes.{coroutine_closure_form}
use Rattle.hir_lower_builder.specs.Ranges.{made_range, range_form}
use Rattle.spec_semantics.specs.Store.{made_as, made_expr}
use Rattle.thm_round_trip.proofs.Now.{path_now}
use Rattle.thm_logic.proofs.Frames.{Frame, loop_at, block_at}
use Rattle.thm_logic.proofs.Steps.{Mark, Rel, Correct, correct_bind, correct_as, correct_pure, correct_alloc, correct_point}
use Rattle.thm_logic.proofs.Steps.{correct_enter_block, correct_opened, correct_report_await, correct_target}
use Rattle.thm_logic.proofs.Calls.{correct_emitted, correct_track_gone}
use Rattle.thm_logic.proofs.ApartForms.{flow_arm_apart, item_call_apart, made_path_apart, residual_apart, wrapped_apart}
use Rattle.thm_logic.proofs.Keeping.{Any, any, args_any, arms_any, block_part_any, contents_any, contents_part_any, each_any, fields_any}
use Rattle.thm_logic.proofs.Keeping.{for_loop_any, lower_path_any, one_type_any, part_any, present_any, spread_any, target_any, top_any}
use Rattle.thm_logic.proofs.Barriers.{correct_closure, correct_coroutine, correct_yield}
use Rattle.thm_logic.proofs.CoroutineClosures.{correct_coroutine_closure}
use Rattle.thm_logic.proofs.Keeping.{condition_any}
use Rattle.thm_logic.proofs.Keeping.{iteration_any, type_any, constant_any, rooted_any, params_any, present_type_any, within_any}
use Rattle.thm_logic.proofs.Keeping.{handed_any}
use Rattle.thm_logic.proofs.MadeSteps.{correct_alloc_desugared, correct_made_bind, correct_made_number, correct_opened_try}
use Rattle.thm_logic.proofs.Owning.{owning_keeps}
use Rattle.thm_semantics.proofs.Coroutines.{coroutine_is}

-- what stands at this number is no made name
pub record Unnamed (final : Stored) (ps : List Frame) (m m' : Mark) (i : ExprId) : Type 0 where
  pub is : made_expr (store_of final) (map_of final) i ≡ None

-- no such name, in whatever store it stands
abbrev NoName : HirExpr → Type 0
NoName e = (final : Stored) → made_as (store_of final) (map_of final) (Some e) ≡ None

stored_unnamed : (e : HirExpr) (source : Option Pointer) → NoName e → Correct (alloc_expr e source) Unnamed
stored_unnamed e source h =
    correct_as (correct_alloc e source) (λ final ps m m' i g at. record { is = rw (at.number, at.here) (h final) })

made_unnamed : (e : HirExpr) (source : Option Pointer) → NoName e → Correct (alloc_desugared e source) Unnamed
made_unnamed e source h =
    correct_as (correct_alloc_desugared e source) (λ final ps m m' i g at. record { is = rw (at.number, at.here) (h final) })

missing_unnamed : Correct missing Unnamed
unfolding missing
missing_unnamed = stored_unnamed _ None (λ final. refl)

-- behind other steps
ends_unnamed : {A : Type 0} {R : Rel A} {p : Lowering A} {f : A → ExprSteps} → Correct p R → ((a : A) → Correct (f a) Unnamed)
    → Correct (p >>= f) Unnamed
ends_unnamed h k = correct_as (correct_bind h k) (λ final ps m m' i g row. record { is = row.second.is })

-- whatever owns the bindings
unnamed_owning : {p : ExprSteps} → Correct p Unnamed → Correct (owning (λ i. i) p) Unnamed
unnamed_owning h = owning_keeps (λ i. i) (λ final ps m left start id i row. record { is = row.is }) h

-- kinds of families

leaf_none : (form : Leaf) → NoName (stored_leaf form)
leaf_none tree.underscore final = refl
leaf_none tree.include_bytes final = refl
leaf_none tree.left_out final = refl

unary_none : (form : Unary) (i : ExprId) → NoName (stored_unary form i)
unary_none (tree.field_of name) i final = refl
unary_none (tree.prefix_of op) i final = refl
unary_none (tree.reference_to kind mutable) i final = refl

binary_none : (form : Binary) (i j : ExprId) → NoName (stored_binary form i j)
binary_none (tree.operator op) i j final = refl
binary_none tree.index_of i j final = refl

leaving_none : (form : Leaving) (e : Option ExprId) → NoName (stored_leaving form e)
leaving_none tree.returning e final = refl
leaving_none tree.yeeting e final = refl

module _ (at : Pointer) where
  operand_unnamed : (form : ExprId → HirExpr) {e : ExprSteps} → ((i : ExprId) → NoName (form i)) → Correct e Any
      → Correct (operand_form at form e) Unnamed
  unfolding operand_form
  operand_unnamed form none h = ends_unnamed h (λ i. stored_unnamed _ (Some at) (none i))

  operands_unnamed : (form : ExprId → ExprId → HirExpr) {a b : ExprSteps} → ((i j : ExprId) → NoName (form i j)) → Correct a Any
      → Correct b Any → Correct (operands_form at form a b) Unnamed
  unfolding operands_form
  operands_unnamed form none ha hb = ends_unnamed ha (λ i. ends_unnamed hb (λ j. stored_unnamed _ (Some at) (none i j)))

  value_unnamed : (form : Option ExprId → HirExpr) {e : Lowering (Option ExprId)} → ((v : Option ExprId) → NoName (form v))
      → Correct e Any → Correct (value_form at form e) Unnamed
  unfolding value_form
  value_unnamed form none h = ends_unnamed h (λ v. stored_unnamed _ (Some at) (none v))

  closure_unnamed : (moves is_static : Bool) {p : Lowering ClosureParams} {t : Lowering (Option TypeRefId)} {e : ExprSteps} → Correct p Any
      → Correct t Any → Correct e Any → Correct (closure_form at moves is_static p t e) Unnamed
  closure_unnamed moves is_static hp ht he = correct_as (correct_closure at moves is_static hp ht he)
      (λ final ps m m' i g row. record { is = rw (row.made.number, row.made.here) refl })

  coroutine_unnamed : (kind : CoroutineKind) (moves : Bool) (number : Option BlockId) {c : Lowering StoredContents} → Correct c Any
      → Correct (coroutine_form (coroutine_block_form at kind moves number c)) Unnamed
  coroutine_unnamed kind moves number h = correct_as (correct_coroutine (coroutine_is at kind moves number h))
      (λ final ps m m' i g row. let x = row.inside in record { is = rw (x.made.number, x.made.here) refl })

  coroutine_closure_unnamed : (kind : CoroutineKind) (moves : Bool) {p : Lowering ClosureParams} {t : Lowering (Option TypeRefId)}
      {e : ExprSteps} → Correct p Any → Correct t Any → Correct e Any → Correct (coroutine_closure_form at kind moves p t e) Unnamed
  coroutine_closure_unnamed kind moves {p = p} {t = t} {e = e} hp ht he = correct_as
      (correct_coroutine_closure at kind moves p t e (within_any kind hp ht he) (handed_any []))
      (λ final ps m m' i g row. record { is = rw (row.made.number, row.made.here) refl })

  loop_unnamed : (from : LoopSource) (label : Option Label) {b : ExprSteps} → Correct b Any → Correct (loop_form at from label b) Unnamed
  unfolding loop_form
  loop_unnamed from None h = ends_unnamed h (λ i. stored_unnamed _ (Some at) (λ final. refl))
  loop_unnamed from (Some l) h =
      correct_as (correct_opened loop_at l (λ n ps. refl) (λ n. h) (λ n i. stored_unnamed _ (Some at) (λ final. refl)))
      (λ final ps m m' i g row. record { is = row.second.is })

  list_unnamed : (form : Listing) {xs : Lowering (List ExprId)} → Correct xs Any → Correct (list_form at form xs) Unnamed
  unfolding list_form
  list_unnamed (tree.tuple_of false) h = ends_unnamed h (λ is. stored_unnamed _ (Some at) (λ final. refl))
  list_unnamed (tree.tuple_of true) h =
      ends_unnamed h (λ is. ends_unnamed missing_unnamed (λ i. stored_unnamed _ (Some at) (λ final. refl)))
  list_unnamed tree.array_of h = ends_unnamed h (λ is. stored_unnamed _ (Some at) (λ final. refl))

  record_of_unnamed : {c : Lowering StoredFields} → Correct c Any → (p : Option HirPath) → Correct (record_of at c p) Unnamed
  record_of_unnamed h None = missing_unnamed
  record_of_unnamed h (Some p) = ends_unnamed h (λ r. stored_unnamed _ (Some at) (λ final. refl))

  range_unnamed : (form : RangeForm) (s e : Option ExprId) → Correct (made_range at form s e) Unnamed
  range_unnamed (tree.record_range i last) s e = stored_unnamed _ (Some at) (λ final. refl)
  range_unnamed (tree.call_range i) s e = ends_unnamed (correct_alloc _ None) (λ f. stored_unnamed _ (Some at) (λ final. refl))
  range_unnamed tree.itemless_range s e = stored_unnamed _ (Some at) (λ final. refl)

  -- parentheses are what is in them
  paren_unnamed : {e : ExprSteps} → Correct e Unnamed → Correct (paren_form at e) Unnamed
  unfolding paren_form
  paren_unnamed h = correct_as (correct_bind h (λ i. correct_bind (correct_point at i) (λ u. correct_pure i)))
      (λ final ps m m' i g row. rw row.second.second.is (record { is = row.first.is }))

  -- a path is what is written
  path_unnamed : (p : OptionPath) (h : HygieneId) → Correct (path_form at h (lower.lower_path p)) Unnamed
  unfolding path_form
  path_unnamed p h = correct_as (correct_bind (path_now p) (λ r. correct_alloc (path_or_missing h r) (Some at)))
      (λ final ps m m' i g row. record {
        is = rw (row.second.number, row.second.here) (by final row.one (subst PathUnmade (sym row.first.is) (path_unmade p)));
      })
    where
      by : (final : Stored) (r : Option HirPath) → PathUnmade (option_map (stored_path (store_of final) (map_of final)) r)
          → made_as (store_of final) (map_of final) (Some (path_or_missing h r)) ≡ None
      by final None u = refl
      by final (Some p) u = u

  question_unnamed : (items : QuestionItems) {e : ExprSteps} → Correct e Any → Correct (question_form at items e) Unnamed
  unfolding question_form
  question_unnamed items h = ends_unnamed h (λ e. ends_unnamed (item_call_apart at (Some items.branch) e)
      (λ b. ends_unnamed (flow_arm_apart items.goes_on (made_path_apart at))
      (λ a. ends_unnamed (flow_arm_apart items.breaks (residual_apart at items)) (λ c. stored_unnamed _ (Some at) (λ final. refl)))))

  try_unnamed : (item : Option LangItemId) (typed : Bool) (number : Option BlockId) {c : Lowering StoredContents} → Correct c Any
      → Correct (try_block_form at item typed number c) Unnamed
  unfolding try_block_form
  try_unnamed item typed number h = correct_as (correct_opened_try at typed (correct_enter_block number) h
      (λ n r. ends_unnamed (wrapped_apart at item (settled r.0 r.1).1) (λ v. stored_unnamed _ (Some at) (λ final. refl))))
      (λ final ps m m' i g row. record { is = row.second.is })

  typed_try_unnamed : {b : ExprSteps} {t : Lowering TypeRefId} → Correct b Any → Correct t Any → Correct (typed_try_form at b t) Unnamed
  unfolding typed_try_form
  typed_try_unnamed hb ht = ends_unnamed hb (λ b. ends_unnamed correct_made_number (λ n. ends_unnamed ht
      (λ t. ends_unnamed (correct_made_bind Unannotated n) (λ p. ends_unnamed (made_path_apart at n)
      (λ e. made_unnamed _ (Some at) (λ final. refl))))))

  for_unnamed : (head_at : Pointer) (items : ForItems) (label : Option Label) {h : ExprSteps} {p : Lowering PatId} (b : ExprSteps)
      → Correct h Any → Correct p Any
      → ((n : ℕ) (q : PatId) → Correct (made_loop_form at label (for_iteration_form at items n q b)) Any)
      → Correct (for_form at head_at items label h p b) Unnamed
  unfolding for_form
  for_unnamed head_at items label b hh hp hl = ends_unnamed hh (λ h. ends_unnamed (item_call_apart head_at (Some items.into_iter) h)
      (λ i. ends_unnamed hp (λ p. ends_unnamed correct_made_number (λ n. ends_unnamed (correct_made_bind Mutable n)
      (λ q. ends_unnamed (hl n p) (λ l. stored_unnamed _ (Some at) (λ final. refl)))))))

block_unnamed : (b : Block) → Correct (lower.lower_block b) Unnamed
unfolding labelled block_form
block_unnamed (tree.block at is_unsafe None _ number ss e) = ends_unnamed (correct_enter_block number)
    (λ u. ends_unnamed (contents_part_any ss e) (λ r. stored_unnamed _ (Some at) (λ final. refl)))
block_unnamed (tree.block at is_unsafe (Some l) _ number ss e) =
    correct_as (correct_opened block_at l (λ n ps. refl) (λ n. ends_unnamed (correct_enter_block number)
    (λ u. ends_unnamed (contents_part_any ss e) (λ r. stored_unnamed _ (Some at) (λ final. refl)))) (λ n i. correct_pure i))
    (λ final ps m m' i g row. rw row.second.is (record { is = row.first.is }))

mutual
  unfolding if_form call_form continue_form break_form method_call_form await_form cast_form offset_of_form record_form let_form
      match_form assign_form range_form repeat_form const_form called_form uncalled_form

  pub part_unnamed : (e : OptionExpr) → Correct (lower.lower_part e) Unnamed
  part_unnamed tree.no_expr = missing_unnamed
  part_unnamed (tree.some_expr e) = expr_unnamed e

  expr_unnamed : (e : Expr) → Correct (lower.lower e) Unnamed
  expr_unnamed (tree.disabled_expr why e) = ends_unnamed (correct_track_gone why) (λ u. missing_unnamed)
  expr_unnamed (tree.paren_expr at e) = paren_unnamed at (part_unnamed e)
  expr_unnamed (tree.macro_expr at called tree.no_expr) =
      ends_unnamed (correct_emitted called) (λ u. stored_unnamed _ (Some at) (λ final. refl))
  expr_unnamed (tree.macro_expr at called (tree.some_expr e)) =
      ends_unnamed (correct_emitted called) (λ u. paren_unnamed at (expr_unnamed e))
  expr_unnamed (tree.block_expr b) = block_unnamed b
  expr_unnamed (tree.record_expr at p head fs s) = ends_unnamed (lower_path_any p)
      (λ o. record_of_unnamed at (contents_any (fields_any [] fs) (spread_any s)) o)
  expr_unnamed (tree.if_expr at c t e) = ends_unnamed (block_part_any t) (λ i. ends_unnamed (present_any e) (λ j. ends_unnamed (part_any c)
      (λ k. stored_unnamed _ (Some at) (λ final. refl))))
  expr_unnamed (tree.loop_expr at label _ b) = loop_unnamed at _ label (block_part_any b)
  expr_unnamed (tree.while_expr at label _ c b) = loop_unnamed at _ label (iteration_any at (condition_any at c) (block_part_any b))
  expr_unnamed (tree.for_expr at items label w p h b) =
      for_unnamed at _ items label _ (part_any h) (top_any p) (λ n q. for_loop_any at items label w n q b)
  expr_unnamed (tree.question_expr at items e) = question_unnamed at items (part_any e)
  expr_unnamed (tree.itemless_expr at) = missing_unnamed
  expr_unnamed (tree.try_expr at item tree.no_type number ss e) = try_unnamed at item false number (contents_part_any ss e)
  expr_unnamed (tree.try_expr at item (tree.some_type t) number ss e) =
      typed_try_unnamed at (any (try_unnamed at item true number (contents_part_any ss e))) (one_type_any None t)
  expr_unnamed (tree.call_expr at f has_list es) =
      ends_unnamed (part_any f) (λ i. ends_unnamed (each_any [] es) (λ is. stored_unnamed _ (Some at) (λ final. refl)))
  expr_unnamed (tree.path_expr at p h) = path_unnamed at p h
  expr_unnamed (tree.continue_expr at jump) = ends_unnamed (correct_target jump) (λ n. stored_unnamed _ (Some at) (λ final. refl))
  expr_unnamed (tree.break_expr at jump e) =
      ends_unnamed (correct_target jump) (λ n. ends_unnamed (present_any e) (λ v. stored_unnamed _ (Some at) (λ final. refl)))
  expr_unnamed (tree.literal_expr at l) = stored_unnamed _ (Some at) (λ final. refl)
  expr_unnamed (tree.leaf_expr at form) = stored_unnamed _ (Some at) (leaf_none form)
  expr_unnamed (tree.unary_expr at form e) = operand_unnamed at _ (unary_none form) (part_any e)
  expr_unnamed (tree.binary_expr at form a b) = operands_unnamed at _ (binary_none form) (part_any a) (part_any b)
  expr_unnamed (tree.lazy_expr at op a b) = operands_unnamed at _ (λ i j final. refl) (part_any a) (part_any b)
  expr_unnamed (tree.list_expr at form es) = list_unnamed at form (each_any [] es)
  expr_unnamed (tree.repeat_expr at e c) =
      ends_unnamed (part_any e) (λ i. ends_unnamed (constant_any c) (λ n. stored_unnamed _ (Some at) (λ final. refl)))
  expr_unnamed (tree.closure_expr at moves is_static ps t e) = unnamed_owning
      (closure_unnamed at moves is_static (params_any lower.no_closure_params ps) (present_type_any t) (part_any e))
  expr_unnamed (tree.coroutine_expr at kind moves number ss e) =
      unnamed_owning (coroutine_unnamed at kind moves number (contents_part_any ss e))
  expr_unnamed (tree.coroutine_closure_expr at kind moves ps t e) = unnamed_owning
      (coroutine_closure_unnamed at kind moves (params_any lower.no_closure_params ps) (present_type_any t) (part_any e))
  expr_unnamed (tree.const_expr at c) =
      unnamed_owning (ends_unnamed (rooted_any c) (λ n. stored_unnamed _ (Some at) (λ final. refl)))
  expr_unnamed (tree.method_call_expr at e name es as') = ends_unnamed (part_any e) (λ i. ends_unnamed (each_any [] es)
      (λ is. ends_unnamed (args_any as') (λ g. stored_unnamed _ (Some at) (λ final. refl))))
  expr_unnamed (tree.leaving_expr at form e) = value_unnamed at _ (leaving_none form) (present_any e)
  expr_unnamed (tree.become_expr at e) = operand_unnamed at _ (λ i final. refl) (part_any e)
  expr_unnamed (tree.yield_expr at e) = correct_yield at _ (value_unnamed at _ (λ v final. refl) (present_any e))
  expr_unnamed (tree.await_expr at location e) =
      ends_unnamed (part_any e) (λ i. ends_unnamed (correct_report_await at location) (λ u. stored_unnamed _ (Some at) (λ final. refl)))
  expr_unnamed (tree.cast_expr at e t) =
      ends_unnamed (part_any e) (λ i. ends_unnamed (type_any None t) (λ t. stored_unnamed _ (Some at) (λ final. refl)))
  expr_unnamed (tree.offset_of_expr at t names) = ends_unnamed (type_any None t) (λ t. stored_unnamed _ (Some at) (λ final. refl))
  expr_unnamed (tree.nameless_expr at e) = operand_unnamed at _ (λ i final. refl) (part_any e)
  expr_unnamed (tree.let_expr at p e) =
      ends_unnamed (top_any p) (λ p. ends_unnamed (part_any e) (λ i. stored_unnamed _ (Some at) (λ final. refl)))
  expr_unnamed (tree.match_expr at e arms) =
      ends_unnamed (part_any e) (λ i. ends_unnamed (arms_any [] arms) (λ as'. stored_unnamed _ (Some at) (λ final. refl)))
  expr_unnamed (tree.range_expr at form start end) =
      ends_unnamed (present_any start) (λ s. ends_unnamed (present_any end) (λ e. range_unnamed at form s e))
  expr_unnamed (tree.assign_expr at e t v) =
      ends_unnamed (target_any t) (λ t. ends_unnamed (part_any v) (λ v. stored_unnamed _ (Some at) (λ final. refl)))
