-- Each tree becomes what runs as it is written.
use Rattle.std.proofs.Common.{Bool, true, false, List, [], ◌∷◌, ◌++◌, Option, Some, None, refl}
use Rattle.hir_store.specs.declared.hir.Statement.{Statement}
use Rattle.hir_store.specs.declared.hir.Statement.TheVariants as statement
use Rattle.hir_store.specs.declared.hir.RecordLitField.{RecordLitField}
use Rattle.hir_store.specs.declared.hir.RecordSpread.TheVariants as spread
use Rattle.hir_store.specs.declared.hir.MatchArm.{MatchArm}
use Rattle.hir_store.specs.declared.pat.RecordFieldPat.{RecordFieldPat}
use Rattle.hir_store.specs.declared.diagnostics.ExpressionStoreDiagnostics.TheVariants.{InactiveCode}
use Rattle.hir_store.specs.declared.ids.ExprId.{ExprId}
use Rattle.hir_env.specs.ResolvedTree as tree
use Rattle.hir_env.specs.ResolvedTree.{Expr, OptionExpr, Exprs, Fields, Spread, Block, OptionBlock, Stmts, Arms, Target, Targets}
use Rattle.hir_env.specs.ResolvedTree.{TargetFields}
use Rattle.hir_env.specs.Targets.{head_pointer}
use Rattle.hir_lower_builder.specs.Lower.{push_some, lower, lower_part, present, kept_part, lower_each, lower_block, lower_block_part}
use Rattle.hir_lower_builder.specs.Lower.{lower_stmts, lower_fields, lower_spread, lower_arms, lower_target, lower_targets}
use Rattle.hir_lower_builder.specs.Lower.{lower_target_fields, present_block}
use Rattle.hir_lower_builder.specs.Pats.{Elements, no_elements}
use Rattle.hir_lower_builder.specs.Lowering.{Lowering}
use Rattle.spec_semantics.specs.Run.{Value}
use Rattle.hir_env.specs.Conditions.{holds_let}
use Rattle.spec_semantics.specs.Left.{is_kept, is_left, field_names}
use Rattle.spec_semantics.specs.Syntax.{run_expr, run_block_part, run_or_unit, run_each, run_block, spread_form, run_fields, run_spread}
use Rattle.spec_semantics.specs.Syntax.{run_present, run_arms, run_places, run_each_place, run_field_places}
use Rattle.spec_data.specs.Written.{path_of}
use Rattle.thm_round_trip.proofs.Tree.{path_reads}
use Rattle.thm_logic.proofs.Calls.{correct_track}
use Rattle.thm_logic.proofs.Definitions.{correct_define, correct_inside_macro}
use Rattle.thm_logic.proofs.Keeping.{constant_any, contents_part_any, part_any, rooted_any}
use Rattle.thm_logic.proofs.Steps.{Correct, correct_bind, correct_as, correct_pure, correct_report}
use Rattle.thm_logic.proofs.TypeAny.{any}
use Rattle.thm_semantics.proofs.Senses.{base_of}
use Rattle.thm_semantics.proofs.Senses.{Walk, one, optional, many, Runs, runs_owning}
use Rattle.thm_semantics.proofs.Senses.{present as initial}
use Rattle.thm_semantics.proofs.Blocks.{part_walk, KeptIs, ElseIs}
use Rattle.thm_semantics.proofs.Nodes
use Rattle.thm_semantics.proofs.Forms
use Rattle.thm_semantics.proofs.Families
use Rattle.thm_semantics.proofs.Closures
use Rattle.thm_semantics.proofs.Coroutines
use Rattle.thm_semantics.proofs.CoroutineClosures
use Rattle.thm_semantics.proofs.Typed
use Rattle.thm_semantics.proofs.Patterned
use Rattle.thm_semantics.proofs.Ranges
use Rattle.thm_semantics.proofs.Questions
use Rattle.thm_semantics.proofs.Fors
use Rattle.thm_semantics.proofs.Named.{part_unnamed}
use Rattle.thm_semantics.proofs.Tries
use Rattle.thm_semantics.proofs.TargetPlaces
use Rattle.thm_semantics.proofs.TargetPlaces.{PlacesAre}

mutual
  pub expr_fine : (e : Expr) → Correct (lower e) (Runs one (λ fuel. run_expr fuel e))
  expr_fine (tree.disabled_expr why e) = Forms.disabled_fine why
  expr_fine (tree.literal_expr at l) = Forms.literal_fine at l
  expr_fine (tree.path_expr at p h) = Forms.path_fine at p h
  expr_fine (tree.paren_expr at e) = Forms.paren_fine at (part_fine e)
  expr_fine (tree.macro_expr at called tree.no_expr) = Forms.uncalled_fine at called
  expr_fine (tree.macro_expr at called (tree.some_expr e)) = Forms.called_fine at called (expr_fine e)
  expr_fine (tree.call_expr at f has_list es) = Forms.call_fine at (part_fine f) (Forms.pushed_all (each_fine es []))
  expr_fine (tree.if_expr at c t e) = Forms.if_fine at (part_fine c) (block_part_fine t) (present_fine e)
  expr_fine (tree.loop_expr at label _ b) = Forms.loop_fine at _ label (block_part_fine b)
  expr_fine (tree.while_expr at label _ c b) = Tries.while_fine at _ label (holds_let c) (part_fine c) (block_part_fine b)
  expr_fine (tree.for_expr at items label _ p h b) = Fors.for_fine at (head_pointer at h) items label p (part_fine h) (part_fine b)
  expr_fine (tree.question_expr at items e) = Questions.question_fine at items (part_fine e)
  expr_fine (tree.itemless_expr at) = Forms.missing_fine
  expr_fine (tree.try_expr at i tree.no_type number ss e) =
      Tries.try_fine at i false number ss e (stmts_fine (is_left e) (part_walk e) (kept_part_fine e) ss [])
  expr_fine (tree.try_expr at i (tree.some_type t) number ss e) = Tries.typed_try_fine at t
      (Tries.try_fine at i true number ss e (stmts_fine (is_left e) (part_walk e) (kept_part_fine e) ss []))
  expr_fine (tree.break_expr at jump e) = Forms.break_fine at jump (present_fine e)
  expr_fine (tree.continue_expr at jump) = Forms.continue_fine at jump
  expr_fine (tree.block_expr b) = block_is_fine b
  expr_fine (tree.leaf_expr at form) = Families.leaf_fine at form
  expr_fine (tree.unary_expr at form e) = Families.unary_fine at form (part_fine e) (part_unnamed e)
  expr_fine (tree.binary_expr at form a b) = Families.binary_fine at form (part_fine a) (part_fine b)
  expr_fine (tree.lazy_expr at op a b) = Families.lazy_fine at op (part_fine a) (part_fine b)
  expr_fine (tree.list_expr at form es) = Families.list_fine at form (Forms.pushed_all (each_fine es []))
  expr_fine (tree.repeat_expr at e c) = Families.repeat_fine at (part_fine e) (constant_any c)
  expr_fine (tree.const_expr at c) = runs_owning (λ i. i) (Families.const_fine at (rooted_any c))
  expr_fine (tree.closure_expr at moves is_static ps t e) =
      runs_owning (λ i. i) (Closures.closure_fine at moves is_static ps t e (part_any e))
  expr_fine (tree.coroutine_expr at kind moves number ss e) =
      runs_owning (λ i. i) (Coroutines.coroutine_fine at kind moves number (contents_part_any ss e))
  expr_fine (tree.coroutine_closure_expr at kind moves ps t e) =
      runs_owning (λ i. i) (CoroutineClosures.coroutine_closure_fine at kind moves ps t e (part_any e))
  expr_fine (tree.method_call_expr at e name es generics) =
      Typed.method_call_fine at name generics (part_fine e) (Forms.pushed_all (each_fine es []))
  expr_fine (tree.cast_expr at e t) = Typed.cast_fine at t (part_fine e)
  expr_fine (tree.record_expr at p head fs s) =
      Typed.record_fine at (field_names fs) (spread_form s) p (Typed.contents_fine (fields_fine fs []) (spread_fine s))
  expr_fine (tree.offset_of_expr at t names) = Typed.offset_of_fine at t names
  expr_fine (tree.leaving_expr at form e) = Families.value_fine at (Families.leaving_is form) (present_fine e)
  expr_fine (tree.become_expr at e) = Families.operand_fine at Families.become_is (part_fine e)
  expr_fine (tree.yield_expr at e) = Families.yield_fine at (present_fine e)
  expr_fine (tree.await_expr at location e) = Families.await_fine at location (part_fine e)
  expr_fine (tree.nameless_expr at e) = Families.nameless_fine at (part_fine e)
  expr_fine (tree.let_expr at p e) = Patterned.let_fine at p (part_fine e)
  expr_fine (tree.match_expr at e arms) = Patterned.match_fine at (part_fine e) (arms_fine arms [])
  expr_fine (tree.range_expr at form start end) = Ranges.range_fine at start end form (end_fine start) (end_fine end)
  expr_fine (tree.assign_expr at own target e) = TargetPlaces.assign_fine at target (target_fine target) (part_fine e)

  pub part_fine : (e : OptionExpr) → Correct (lower_part e) (Runs one (part_walk e))
  part_fine tree.no_expr = Forms.missing_fine
  part_fine (tree.some_expr e) = expr_fine e

  block_part_fine : (b : OptionBlock) → Correct (lower_block_part b) (Runs one (λ fuel. run_block_part fuel b))
  block_part_fine tree.no_block = Forms.missing_fine
  block_part_fine (tree.some_block b) = block_is_fine b

  present_fine : (e : OptionExpr) → Correct (present e) (Runs optional (λ fuel. run_or_unit fuel e))
  present_fine tree.no_expr = Forms.none_fine
  present_fine (tree.some_expr e) = Forms.some_fine (expr_fine e)

  -- an initializer
  initial_fine : (e : OptionExpr) → Correct (present e) (Runs initial (λ fuel. run_present fuel e))
  initial_fine tree.no_expr = correct_as (correct_pure None) (λ final ps m m' o g row. rw row.is Nodes.goes_absent)
  initial_fine (tree.some_expr e) = correct_as (correct_bind (expr_fine e) (λ i. correct_pure (Some i)))
      (λ final ps m m' o g row. rw (row.second.is, row.second.still) (Nodes.goes_present row.first))

  -- an end of a range
  end_fine : (e : OptionExpr) → Correct (present e) (Ranges.EndRel e)
  end_fine tree.no_expr = correct_as (correct_pure None) (λ final ps m m' o g row. rw row.is tt)
  end_fine (tree.some_expr e) = correct_as (correct_bind (expr_fine e) (λ i. correct_pure (Some i)))
      (λ final ps m m' o g row. rw (row.second.is, row.second.still) row.first)

  else_fine : (b : OptionBlock) → Correct (present_block b) (λ final ps m m' o. ElseIs (base_of m) m'.nodes final ps b o)
  else_fine tree.no_block = correct_as (correct_pure None) (λ final ps m m' o g row. rw row.is tt)
  else_fine (tree.some_block b) = correct_as (correct_bind (block_is_fine b) (λ i. correct_pure (Some i)))
      (λ final ps m m' o g row. rw (row.second.is, row.second.still) row.first)

  kept_part_fine : (e : OptionExpr)
      → Correct (kept_part e) (λ final ps m m' o. KeptIs (base_of m) m'.nodes final ps (is_left e) (part_walk e) o)
  kept_part_fine tree.no_expr = Forms.nothing_fine (part_walk tree.no_expr)
  kept_part_fine (tree.some_expr e) = Forms.kept_fine e (expr_fine e)

  each_fine : (es : Exprs) (done : List ExprId) → Correct (lower_each done es) (Forms.Pushed done (Runs many (λ fuel. run_each fuel es)))
  each_fine tree.no_exprs done = correct_as (correct_pure done) (λ final ps m m' r g row. Forms.pushed_none done row.is Nodes.goes_nil)
  each_fine (tree.more_exprs e es) done = correct_as (correct_bind (Forms.kept_fine e (expr_fine e)) (λ o. each_fine es (push_some done o)))
      (λ final ps m m' r g row. Forms.each_more (is_kept e) (λ fuel. run_expr fuel e) (λ fuel. run_each fuel es)
      done row.one row.before row.after row.first row.second)

  fields_fine : (fs : Fields) (done : List RecordLitField)
      → Correct (lower_fields done fs) (Forms.Pushed done (Typed.FieldsAre (field_names fs) (λ fuel. run_fields fuel fs)))
  fields_fine tree.no_fields done =
      correct_as (correct_pure done) (λ final ps m m' r g row. Forms.pushed_none done row.is Typed.fields_none)
  fields_fine (tree.more_fields (tree.disabled_field at by f) fs) done = correct_as
      (correct_bind (correct_bind (correct_report (InactiveCode at by)) (λ u. correct_pure None)) (λ o. fields_fine fs (push_some done o)))
      (λ final ps m m' r g row. Typed.fields_skip done row.one row.first.second.is row.before row.second)
  fields_fine (tree.more_fields (tree.nameless_field at e) fs) done = correct_as
      (correct_bind (correct_pure None) (λ o. fields_fine fs (push_some done o)))
      (λ final ps m m' r g row. Typed.fields_skip done row.one row.first.is row.before row.second)
  fields_fine (tree.more_fields (tree.named_field at name e) fs) done = correct_as
      (correct_bind (Typed.field_fine at name (part_fine e)) (λ o. fields_fine fs (push_some done o)))
      (λ final ps m m' r g row. Typed.fields_more done row.one row.before row.after row.first row.second)

  arms_fine : (arms : Arms) (done : List MatchArm)
      → Correct (lower_arms done arms) (Forms.Pushed done (Patterned.ArmsAre (λ v site fuel ss. run_arms fuel arms v site ss)))
  arms_fine tree.no_arms done =
      correct_as (correct_pure done) (λ final ps m m' r g row. Forms.pushed_none done row.is (Patterned.no_arms_are m m'))
  arms_fine (tree.more_arms (tree.disabled_arm at by a) arms) done = correct_as
      (correct_bind (correct_bind (correct_report (InactiveCode at by)) (λ u. correct_pure None)) (λ o. arms_fine arms (push_some done o)))
      (λ final ps m m' r g row. Patterned.arms_skip done row.one row.first.second.is row.before row.second)
  arms_fine (tree.more_arms (tree.arm p e tree.no_guard) arms) done = correct_as
      (correct_bind (Patterned.arm_fine p {g = None} (part_fine e) Patterned.no_guard_fine) (λ o. arms_fine arms (push_some done o)))
      (λ final ps m m' r g row. Patterned.arms_more done row.one row.before row.after row.first row.second)
  arms_fine (tree.more_arms (tree.arm p e (tree.guard c)) arms) done = correct_as
      (correct_bind (Patterned.arm_fine p {g = Some (part_walk c)} (part_fine e) (Patterned.guard_fine (part_fine c)))
      (λ o. arms_fine arms (push_some done o)))
      (λ final ps m m' r g row. Patterned.arms_more done row.one row.before row.after row.first row.second)

  -- the assignee expression
  target_fine : (t : Target) → Correct (lower_target t) (PlacesAre (λ fuel ss m. run_places fuel t ss m))
  target_fine (tree.absent_target call) = TargetPlaces.absent_places call
  target_fine (tree.place_target at e) = TargetPlaces.place_places at (expr_fine e)
  target_fine (tree.wild_target at) = TargetPlaces.wild_places at
  target_fine (tree.macro_target at called t) = TargetPlaces.called_places at called (target_fine t)
  target_fine (tree.path_target at p h) = TargetPlaces.path_places at h (path_of (tree.some_path p)) (path_reads (tree.some_path p))
  target_fine (tree.tuple_target at ts) = TargetPlaces.tuple_places at (targets_fine ts no_elements)
  target_fine (tree.call_target at p ts) = TargetPlaces.call_places (path_of p) at (path_reads p) (targets_fine ts no_elements)
  target_fine (tree.array_target at before dots behind) =
      TargetPlaces.array_places at dots (targets_fine before no_elements) (targets_fine behind no_elements)
  target_fine (tree.record_target at p fs dots spread) =
      TargetPlaces.record_places (path_of p) at dots spread (path_reads p) (target_fields_fine fs [])

  targets_fine : (ts : Targets) (done : Elements)
      → Correct (lower_targets done ts) (TargetPlaces.ElementsPlace done (λ fuel ss m. run_each_place fuel ts ss m))
  targets_fine tree.no_targets done = TargetPlaces.none_place done
  targets_fine (tree.more_targets t ts) done = TargetPlaces.more_place (target_fine t) (targets_fine ts) done
  targets_fine (tree.dots_targets ts) done = TargetPlaces.dots_place (targets_fine ts) done
  targets_fine (tree.tracked_targets called ts) done = TargetPlaces.tracked_place called (targets_fine ts done)

  target_fields_fine : (fs : TargetFields) (done : List RecordFieldPat)
      → Correct (lower_target_fields done fs)
      (Forms.Pushed done (TargetPlaces.FieldsPlace (λ fuel ss m. run_field_places fuel fs ss m)))
  target_fields_fine tree.no_target_fields done = correct_as (correct_pure done)
      (λ final ps m m' r g row. Forms.pushed_none done row.is (record { put = λ c le. TargetPlaces.put_nothing }))
  target_fields_fine (tree.more_target_fields (tree.disabled_target_field at by) fs) done =
      TargetPlaces.field_before (TargetPlaces.disabled_place at by) (target_fields_fine fs) done
  target_fields_fine (tree.more_target_fields tree.partless_target_field fs) done =
      TargetPlaces.field_before TargetPlaces.no_field (target_fields_fine fs) done
  target_fields_fine (tree.more_target_fields (tree.target_field at None t) fs) done =
      TargetPlaces.field_before (TargetPlaces.nameless_place at (any (target_fine t))) (target_fields_fine fs) done
  target_fields_fine (tree.more_target_fields (tree.target_field at (Some n) t) fs) done =
      TargetPlaces.field_before (TargetPlaces.field_place at n (target_fine t)) (target_fields_fine fs) done

  spread_fine : (s : Spread) → Correct (lower_spread s) (Typed.OthersAre (spread_form s) (λ fuel. run_spread fuel s))
  spread_fine tree.no_spread = correct_as (correct_pure spread.None)
      (λ final ps m m' o g row. rw row.is (record { form_is = refl; rel = Nodes.goes_no_others }))
  spread_fine tree.field_defaults = correct_as (correct_pure spread.FieldDefaults)
      (λ final ps m m' o g row. rw row.is (record { form_is = refl; rel = Nodes.goes_defaults }))
  spread_fine (tree.spread_of e) = correct_as (correct_bind (expr_fine e) (λ i. correct_pure (spread.Expr i)))
      (λ final ps m m' o g row. rw (row.second.is, row.second.still) (record { form_is = refl; rel = Nodes.goes_other row.first }))

  pub block_is_fine : (b : Block) → Correct (lower_block b) (Runs one (λ fuel. run_block fuel b))
  block_is_fine (tree.block at is_unsafe label _ number ss e) =
      Forms.block_fine at is_unsafe label number ss e
      (stmts_fine (is_left e) (part_walk e) (kept_part_fine e) ss [])

  stmts_fine : (t : Bool) (x : Walk Value) {q : Lowering (Option ExprId)}
      → Correct q (λ final ps m m' o. KeptIs (base_of m) m'.nodes final ps t x o)
      → (ss : Stmts) (done : List Statement) → Correct (lower_stmts done ss q) (Forms.Filled done (Forms.ContentsRel t x ss))
  stmts_fine t x hq tree.no_stmts done = correct_as (correct_bind hq (λ o. correct_pure (done, o)))
      (λ final ps m m' r g row. rw row.second.still (Forms.filled_end t x done row.one row.second.is row.first))
  stmts_fine t x hq (tree.more_stmts (tree.expr_stmt e semi) ss) done =
      correct_as (correct_bind (Forms.correct_statement semi (kept_part_fine e))
      (λ o. stmts_fine t x hq ss (push_some done o)))
      (λ final ps m m' r g row. let s = row.first in let others = row.second in
      Forms.filled_expr t x e semi ss done s.value row.before row.after s.rel (rw s.is at others))
  stmts_fine t x hq (tree.more_stmts (tree.disabled_stmt at by s) ss) done =
      correct_as (correct_bind (correct_bind (correct_report (InactiveCode at by)) (λ u. correct_pure None))
      (λ o. stmts_fine t x hq ss (push_some done o)))
      (λ final ps m m' r g row. let others = row.second in
      Forms.filled_nothing t x ss done row.before (rw row.first.second.is at others))
  stmts_fine t x hq (tree.more_stmts (tree.call_stmt c) ss) done =
      correct_as (correct_bind (correct_bind (correct_track c) (λ u. correct_pure None))
      (λ o. stmts_fine t x hq ss (push_some done o)))
      (λ final ps m m' r g row. let others = row.second in
      Forms.filled_nothing t x ss done row.before (rw row.first.second.is at others))
  stmts_fine t x hq (tree.more_stmts (tree.let_stmt p ty e b) ss) done =
      correct_as (correct_bind (Patterned.let_stmt_fine p ty e b (initial_fine e) (else_fine b))
      (λ o. stmts_fine t x hq ss (push_some done o)))
      (λ final ps m m' r g row. let s = row.first in let others = row.second in
      Forms.filled_let t x p ty e b ss done s.held row.before row.after s.rel (rw s.is at others))
  stmts_fine t x hq (tree.more_stmts tree.item_stmt ss) done =
      correct_as (stmts_fine t x hq ss (done ++ statement.Item ∷ []))
      (λ final ps m m' r g p. Forms.filled_item t x ss done p)
  stmts_fine t x hq (tree.more_stmts (tree.macro_stmt k None) ss) done =
      correct_as (correct_bind (correct_define k None) (λ o. stmts_fine t x hq ss (push_some done o)))
      (λ final ps m m' r g row. let others = row.second in
      Forms.filled_def t x k None ss done (rw (row.first.is, row.first.still) at others))
  stmts_fine t x hq (tree.more_stmts (tree.macro_stmt k (Some def)) ss) done = correct_as
      (correct_bind (correct_define k (Some def)) (λ o. correct_inside_macro def (stmts_fine t x hq ss (push_some done o))))
      (λ final ps m m' r g row. let others = row.second in
      Forms.filled_def t x k (Some def) ss done (rw (row.first.is, row.first.still) at others))

-- what is in a block
pub contents_fine : (ss : Stmts) (e : OptionExpr) → Correct (lower_stmts [] ss (kept_part e)) (Forms.BlockRel ss e)
contents_fine ss e = stmts_fine (is_left e) (part_walk e) (kept_part_fine e) ss []
