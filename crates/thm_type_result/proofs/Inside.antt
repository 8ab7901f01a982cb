-- Of a lowered tree, a type or a path, each expression is reached in one way, by itself or by a constant inside.
use Rattle.std.proofs.Common.{◌≡◌, refl, arith, ℕ, ◌≤◌, Bool, true, false, length, List, [], ◌∷◌, ◌++◌, Option, Some, None, Ok}
use Rattle.hir_store.specs.Stored.{Stored, store_of}
use Rattle.hir_store.specs.StoreSink.{Extends}
use Rattle.hir_store.specs.Pointers.{Pointer}
use Rattle.hir_store.specs.declared.hir.MatchArm.{MatchArm}
use Rattle.hir_store.specs.declared.hir.RecordLitField.{RecordLitField}
use Rattle.hir_store.specs.declared.hir.Statement.{Statement}
use Rattle.hir_store.specs.declared.ids.ExprId.{ExprId}
use Rattle.hir_store.specs.declared.ids.PatId.{PatId}
use Rattle.hir_store.specs.declared.ids.TypeRefId.{TypeRefId}
use Rattle.hir_store.specs.declared.pat.RecordFieldPat.{RecordFieldPat}
use Rattle.hir_store.specs.declared.path.GenericArg.TheVariants as arg
use Rattle.hir_store.specs.declared.type_ref.TypeBound.{TypeBound}
use Rattle.hir_env.specs.ResolvedTree as tree
use Rattle.hir_env.specs.ResolvedTree.{OptionType, OptionPath, OptionArgs, Arms, Arm, Guard, Pat, OptionPat, Pats, PatFields, PatField}
use Rattle.hir_env.specs.ResolvedTree.{Side}
use Rattle.hir_env.specs.ResolvedTree.{Expr, OptionExpr, Exprs, Fields, Field, Spread as TreeSpread, Block, OptionBlock, Stmts, Stmt}
use Rattle.hir_env.specs.ResolvedTree.{Binder, Type_, Parts, Path as TreePath, Segments, Segment, SegmentArgs, OptionParens, OptionRet}
use Rattle.hir_env.specs.ResolvedTree.{Args, Arg, Bounds, Bound, Constant, TypePat, OptionTypePat, TypePats, Limit, Target, Targets}
use Rattle.hir_env.specs.ResolvedTree.{TargetFields, TargetField, Param, Params}
use Rattle.hir_env.specs.Conditions.{holds_let}
use Rattle.hir_env.specs.Targets.{head_pointer}
use Rattle.hir_lower_builder.specs.declared.args.ArgLists.{ArgLists}
use Rattle.hir_lower_builder.specs.declared.closures.ClosureParams.{ClosureParams}
use Rattle.hir_lower_builder.specs.declared.walk.PathWalk.{PathWalk}
use Rattle.hir_lower_builder.specs.declared.walk.Reading.TheVariants.{Open}
use Rattle.hir_lower_builder.specs.Builder.{Builder}
use Rattle.hir_lower_builder.specs.Lowering.{Lowering}
use Rattle.hir_lower_builder.specs.Paths.{alias_of}
use Rattle.hir_lower_builder.specs.Walks.{start, at_first, path_read}
use Rattle.hir_lower_builder.specs.Types.{no_lists}
use Rattle.hir_lower_builder.specs.Pats.{Elements, no_elements, no_names, is_dots, next_alternative}
use Rattle.hir_lower_builder.specs.Targets.{add_target, add_target_dots}
use Rattle.hir_lower_builder.specs.Lower.{lower, lower_part, present, kept_part, lower_each, lower_fields, lower_field, lower_spread}
use Rattle.hir_lower_builder.specs.Lower.{lower_block, lower_block_part, lower_stmts, lower_stmt, lower_path, args_part, type_part}
use Rattle.hir_lower_builder.specs.Lower.{lower_type, present_type, type_or_unit, lower_parts, read_segment, read_each, read_path}
use Rattle.hir_lower_builder.specs.Lower.{read_option, lower_segment_args, parens_part, output_part, lower_args, lower_arg}
use Rattle.hir_lower_builder.specs.Lower.{lower_bounds, lower_bound, lower_constant, lower_rooted, present_block, lower_arms, lower_arm}
use Rattle.hir_lower_builder.specs.Lower.{lower_guard}
use Rattle.hir_lower_builder.specs.Lower.{lower_top, lower_pat, pat_part, present_pat, lower_pats, lower_elements, lower_alternatives}
use Rattle.hir_lower_builder.specs.Lower.{lower_later, lower_pat_fields, lower_pat_field, lower_side, lower_type_pat_part, lower_type_pat}
use Rattle.hir_lower_builder.specs.Lower.{lower_type_pats, lower_limit, limit_side, lower_target, lower_targets, lower_target_fields}
use Rattle.hir_lower_builder.specs.Lower.{lower_target_field, push_some, lower_param, lower_params, no_closure_params}
use Rattle.spec_semantics.specs.Inner.{Inside, by_itself, of_bound, of_path, of_present}
use Rattle.thm_logic.specs.Keeps.{Paired}
use Rattle.thm_semantics.specs.Reached.{of_each, reached_to, Spread}
use Rattle.thm_type_result.specs.Inside.{InsideReachedOnce, TypeInsideReachedOnce, PathInsideReachedOnce}
use Rattle.thm_type_result.specs.Unrun.{all_unruns, exprs_of, unrun_in, unrun_in_path, unrun_in_type}
use Rattle.thm_type_result.proofs.Meaning.{held_deep}
use Rattle.thm_type_result.proofs.Counted.{times, times_append, counted_spread}
use Rattle.thm_type_result.proofs.HeldBecoming.{aliased_adds, lifetime_adds, uses_add}
use Rattle.thm_logic.proofs.Logic.{longer as no_shorter}
use Rattle.thm_type_result.proofs.Asked.{Correct, after_lowering}
use Rattle.thm_type_result.proofs.Weighed.{Cost, view, free, an_expr, a_type, a_type_pat, a_pat, a_limit, a_target, a_constant, sum}
use Rattle.thm_type_result.proofs.Weighing.{Adds, adds_pure, adds_then, adds_beside, adds_any, adds_from, adds_type, adds_expr}
use Rattle.thm_type_result.proofs.Weighing.{adds_constant, adds_limit, adds_owning, adds_pat, adds_type_pat}
use Rattle.thm_generics.proofs.Steps.{tracks_gone, tracks_track, tracks_report, tracks_emitted}
use Rattle.thm_generics.proofs.PatForms.{settle_tracks}
use Rattle.thm_type_result.proofs.Weights as weights
use Rattle.thm_type_result.proofs.InsideTypes.{maybe_type, types, a_bound, bounds, arguments, lists, maybe_path, walk, reading}
use Rattle.thm_type_result.proofs.InsideTypes.{called_type_adds, uncalled_type_adds}
use Rattle.thm_type_result.proofs.InsideTypes.{error_adds, unit_adds, leaf_adds, over_adds, array_adds, tuple_adds, path_type_adds}
use Rattle.thm_type_result.proofs.InsideTypes.{ref_adds, fn_adds, impl_adds, dyn_adds, path_bound_adds, proceed_adds, whole_adds}
use Rattle.thm_type_result.proofs.InsideTypes.{super_adds, self_adds, at_first_adds, bare_adds, with_trait_adds, parens_form_adds}
use Rattle.thm_type_result.proofs.InsideTypes.{args_form_adds, binding_adds, none_more, one_more, pattern_adds}
use Rattle.thm_type_result.proofs.InsidePats as pats
use Rattle.thm_type_result.proofs.InsideTargets as assignees
use Rattle.thm_type_result.proofs.InsideClosures as closures
use Rattle.thm_type_result.proofs.InsideForms as forms
use Rattle.thm_type_result.proofs.InsideMade as made
use Rattle.thm_type_result.proofs.DefInside.{behind_adds, behind_contains, define_adds}
use Rattle.thm_type_result.proofs.InsideFors.{for_adds}
use Rattle.thm_type_result.proofs.InsideForms.{maybe, each, a_field, a_spread, a_statement, contents, some_more, missing_adds, some_adds}
use Rattle.thm_type_result.proofs.InsideForms.{kept_adds}

-- a tree: types and paths hold constants, which are expressions, and these hold types and paths

mutual
  -- types and paths

  type_adds : (b : Option Binder) (t : Type_) → Correct (lower_type b t) (Adds free a_type)
  type_adds b (tree.paren_type t) = part_adds b t
  type_adds b (tree.macro_type at c tree.no_type) = uncalled_type_adds at c
  type_adds b (tree.macro_type at c (tree.some_type t)) = called_type_adds at c (type_adds b t)
  type_adds b (tree.for_type names t) = part_adds (Some names) t
  type_adds b (tree.leaf_type at form) = leaf_adds at form
  type_adds b (tree.over_type at form t) = over_adds at form (part_adds None t)
  type_adds b (tree.array_type at c t) = array_adds at (constant_adds c) (part_adds None t)
  type_adds b (tree.tuple_type at ts) = tuple_adds at (parts_add [] ts)
  type_adds b (tree.path_type at p) = path_type_adds at (path_adds p)
  type_adds b (tree.ref_type at l mutability t) = ref_adds at mutability l (part_adds None t)
  type_adds b (tree.fn_type at head ts r) = fn_adds at b head (parts_add [] ts) (or_unit_adds r)
  type_adds b (tree.impl_type at mode bs) = impl_adds at mode (bounds_add [] bs)
  type_adds b (tree.nested_impl at) = adds_type _ (Some at) (λ v. omega arith)
  type_adds b (tree.dyn_type at bs) = dyn_adds at (bounds_add [] bs)
  type_adds b (tree.pattern_type at t own p) = pattern_adds at (part_adds None t) (type_pat_part_adds p)

  pub part_adds : (b : Option Binder) (t : OptionType) → Correct (type_part b t) (Adds free a_type)
  part_adds b tree.no_type = error_adds
  part_adds b (tree.some_type t) = type_adds b t

  present_adds : (t : OptionType) → Correct (present_type t) (Adds free maybe_type)
  present_adds tree.no_type = adds_pure None (λ v. omega arith)
  present_adds (tree.some_type t) = adds_then (type_adds None t) (λ i. adds_pure (Some i) (λ v. omega arith))

  or_unit_adds : (t : OptionType) → Correct (type_or_unit t) (Adds free a_type)
  or_unit_adds tree.no_type = unit_adds
  or_unit_adds (tree.some_type t) = type_adds None t

  parts_add : (done : List TypeRefId) (ts : Parts) → Correct (lower_parts done ts) (Adds (types done) types)
  parts_add done tree.no_parts = none_more (λ r i. r.type i) done
  parts_add done (tree.more_parts t ts) = one_more (λ r i. r.type i) (part_adds None t) (λ xs. parts_add xs ts) done

  segment_adds : (first : Bool) (s : Segment) (w : PathWalk) → Correct (read_segment first s w) (Adds (walk w) reading)
  segment_adds first tree.absent_segment w = bare_adds _ w
  segment_adds first tree.broken_segment w = adds_pure _ (λ v. omega arith)
  segment_adds first (tree.name_segment n _ as') w = adds_then (adds_beside (walk w) (segment_args_add as'))
      (λ a. adds_pure _ (λ v. weights.named_less v.weight v.held n a w))
  segment_adds first tree.self_type_segment w = bare_adds _ w
  segment_adds false tree.crate_segment w = adds_pure _ (λ v. omega arith)
  segment_adds true tree.crate_segment w = adds_pure _ (λ v. omega arith)
  segment_adds false (tree.dollar_crate_segment root) w = adds_pure _ (λ v. omega arith)
  segment_adds true (tree.dollar_crate_segment root) w = adds_pure _ (λ v. omega arith)
  segment_adds false tree.self_segment w = adds_pure _ (λ v. omega arith)
  segment_adds true tree.self_segment w = self_adds w
  segment_adds first tree.super_segment w = super_adds w
  segment_adds false (tree.type_segment t) w = adds_pure _ (λ v. omega arith)
  segment_adds true (tree.type_segment t) w = adds_then (adds_beside (walk w) (type_adds None t))
      (λ i. adds_pure _ (λ v. omega arith))
  segment_adds false (tree.trait_segment t at p) w = adds_pure _ (λ v. omega arith)
  segment_adds true (tree.trait_segment t at p) w = adds_then (adds_beside (walk w) (type_adds None t))
      (λ i. with_trait_adds i at w (path_adds p))

  each_adds : (ss : Segments) (w : PathWalk) → Correct (read_each ss w) (Adds (walk w) reading)
  each_adds tree.no_segments w = adds_pure (Open w) (λ v. omega arith)
  each_adds (tree.more_segments s ss) w = adds_then (each_adds ss w) (λ r. proceed_adds r (λ v. segment_adds false s v))

  reading_adds : (p : TreePath) (w : PathWalk) → Correct (read_path p w) (Adds (walk w) reading)
  reading_adds (tree.path alias leading first rest use_) w =
      whole_adds (adds_then (each_adds rest w)
      (λ r. proceed_adds r (λ v. at_first_adds leading v (segment_adds true first (at_first leading v)))))
      (λ v. option_adds use_ v)

  option_adds : (p : OptionPath) (w : PathWalk) → Correct (read_option p w) (Adds (walk w) reading)
  option_adds tree.no_path w = adds_pure (Open w) (λ v. omega arith)
  option_adds (tree.some_path p) w = reading_adds p w

  pub path_adds : (p : OptionPath) → Correct (lower_path p) (Adds free maybe_path)
  path_adds tree.no_path = adds_pure None (λ v. omega arith)
  path_adds (tree.some_path p) = aliased_adds (alias_of p) (adds_then (reading_adds p start) (λ r. adds_pure (path_read r)
      (λ v. weights.path_read_less v.weight v.held r)))

  segment_args_add : (as' : SegmentArgs) → Correct (lower_segment_args as') (Adds free arguments)
  segment_args_add (tree.segment_args as' ps dots) = args_form_adds (args_add as') (parens_add ps) dots

  parens_add : (ps : OptionParens) → Correct (parens_part ps) (Adds free arguments)
  parens_add tree.no_parens = adds_pure None (λ v. omega arith)
  parens_add (tree.some_parens ts r) = parens_form_adds (parts_add [] ts) (output_adds r)

  output_adds : (r : OptionRet) → Correct (output_part r) (Adds free a_type)
  output_adds tree.no_ret = unit_adds
  output_adds (tree.some_ret t) = part_adds None t

  pub args_add : (as' : OptionArgs) → Correct (args_part as') (Adds free arguments)
  args_add tree.no_arg_list = adds_pure None (λ v. omega arith)
  args_add (tree.some_arg_list as') = adds_then (each_arg_adds no_lists as') (λ l. adds_pure _
      (λ v. weights.yielded_less v.weight v.held l))

  each_arg_adds : (l : ArgLists) (as' : Args) → Correct (lower_args l as') (Adds (lists l) lists)
  each_arg_adds l tree.no_args = adds_pure l (λ v. omega arith)
  each_arg_adds l (tree.more_args a as') = adds_then (arg_adds l a) (λ m. each_arg_adds m as')

  arg_adds : (l : ArgLists) (a : Arg) → Correct (lower_arg l a) (Adds (lists l) lists)
  arg_adds l tree.skipped_arg = adds_pure l (λ v. omega arith)
  arg_adds l (tree.type_arg t) = adds_then (adds_beside (lists l) (part_adds None t))
      (λ i. adds_pure _ (λ v. weights.arg_added v.weight v.held l (arg.Type_ i)))
  arg_adds l (tree.lifetime_arg x) = adds_then (lifetime_adds x)
      (λ i. adds_pure _ (λ v. let e = weights.arg_added v.weight v.held l (arg.Lifetime i) in omega arith))
  arg_adds l (tree.const_arg c) = adds_then (adds_beside (lists l) (constant_adds c))
      (λ x. adds_pure _ (λ v. weights.arg_added v.weight v.held l (arg.Const x)))
  arg_adds l (tree.assoc_arg name as' dots t bs) = adds_then (adds_beside (lists l)
      (binding_adds name dots (args_add as') (present_adds t) (bounds_add [] bs)))
      (λ b. adds_pure _ (λ v. weights.binding_added v.weight v.held l b))

  bounds_add : (done : List TypeBound) (bs : Bounds) → Correct (lower_bounds done bs) (Adds (bounds done) bounds)
  bounds_add done tree.no_bounds = none_more (λ r b. of_bound r b) done
  bounds_add done (tree.more_bounds b bs) = one_more (λ r b. of_bound r b) (bound_adds b) (λ xs. bounds_add xs bs) done

  pub bound_adds : (b : Bound) → Correct (lower_bound b) (Adds free a_bound)
  bound_adds tree.error_bound = adds_pure _ (λ v. omega arith)
  bound_adds (tree.path_bound at p may binder) = path_bound_adds at may binder (path_adds p)
  bound_adds (tree.lifetime_bound l) = adds_then (lifetime_adds l) (λ i. adds_pure _ (λ v. omega arith))
  bound_adds (tree.use_bound us) = adds_then (uses_add [] us) (λ xs. adds_pure _ (λ v. omega arith))

  -- constants

  constant_adds : (c : Constant) → Correct (lower_constant c) (Adds free a_constant)
  constant_adds (tree.constant e) = adds_owning (λ c. c.expr) (adds_constant (body_adds e))

  pub rooted_adds : (c : Constant) → Correct (lower_rooted c) (Adds free a_constant)
  rooted_adds (tree.constant e) = adds_constant (body_adds e)

  -- patterns of types

  type_pat_part_adds : (p : OptionTypePat) → Correct (lower_type_pat_part p) (Adds free a_type_pat)
  type_pat_part_adds tree.no_type_pat = pats.missing_type_pat_adds
  type_pat_part_adds (tree.some_type_pat p) = type_pat_adds p

  type_pat_adds : (p : TypePat) → Correct (lower_type_pat p) (Adds free a_type_pat)
  type_pat_adds (tree.not_null_type_pat at) = adds_type_pat _ (Some at) (λ v. omega arith)
  type_pat_adds (tree.macro_type_pat at c tree.no_type_pat) = pats.uncalled_type_pat_adds at c
  type_pat_adds (tree.macro_type_pat at c (tree.some_type_pat p)) = pats.called_adds at c (λ i. i) (type_pat_adds p)
  type_pat_adds (tree.or_type_pat at ps) = pats.type_alternatives_adds at (type_pats_add [] ps)
  type_pat_adds (tree.range_type_pat at low high) = pats.limits_adds at (limit_adds low) (limit_adds high)
  type_pat_adds (tree.other_type_pat at) = adds_type_pat _ (Some at) (λ v. omega arith)

  type_pats_add : (done : List PatId) (ps : TypePats) → Correct (lower_type_pats done ps) (Adds (pats.type_pats done) pats.type_pats)
  type_pats_add done tree.no_type_pats = none_more (λ r i. r.type_pat i) done
  type_pats_add done (tree.more_type_pats p ps) = one_more (λ r i. r.type_pat i) (type_pat_adds p) (λ is. type_pats_add is ps) done

  pub limit_adds : (x : Limit) → Correct (lower_limit x) (Adds free a_limit)
  limit_adds (tree.item_limit item) = adds_limit (pats.item_adds item)
  limit_adds (tree.side_limit s) = adds_limit (limit_side_adds s)
  limit_adds (tree.before_limit item s) = adds_limit (pats.before_adds item (limit_side_adds s))

  limit_side_adds : (s : Side) → Correct (limit_side s) (Adds free an_expr)
  limit_side_adds tree.no_side = missing_adds
  limit_side_adds (tree.literal_side at s) = pats.literal_limit_adds at s
  limit_side_adds (tree.name_side at n _) = pats.name_limit_adds at n
  limit_side_adds (tree.path_side at p) = pats.path_limit_adds at (path_adds p)
  limit_side_adds tree.other_side = missing_adds

  -- expressions

  node_adds : (e : Expr) → Correct (lower e) (Adds free an_expr)
  node_adds (tree.disabled_expr why e) = adds_then (adds_any (tracks_gone why)) (λ u. missing_adds)
  node_adds (tree.if_expr at c t e) = forms.if_adds at (body_adds c) (block_part_adds t) (present_expr_adds e)
  node_adds (tree.block_expr b) = block_adds b
  node_adds (tree.loop_expr at label _ b) = forms.loop_adds at _ label (block_part_adds b)
  node_adds (tree.while_expr at label _ c b) =
      forms.loop_adds at _ label (forms.iteration_adds at (made.condition_adds at (holds_let c) (body_adds c)) (block_part_adds b))
  node_adds (tree.for_expr at items label _ p h b) =
      for_adds at (head_pointer at h) items label (body_adds h) (top_adds p) (body_adds b)
  node_adds (tree.question_expr at items e) = made.question_adds at items (body_adds e)
  node_adds (tree.itemless_expr at) = missing_adds
  node_adds (tree.try_expr at item tree.no_type number ss e) =
      made.try_block_adds at item false number (stmts_apart [] ss (kept_part_adds e))
  node_adds (tree.try_expr at item (tree.some_type t) number ss e) =
      made.typed_try_adds at (made.try_block_adds at item true number (stmts_apart [] ss (kept_part_adds e))) (type_adds None t)
  node_adds (tree.coroutine_expr at kind moves number ss e) = adds_owning (λ i. i)
      (closures.coroutine_adds (closures.coroutine_block_adds at kind moves number (stmts_add [] ss (kept_part_adds e))))
  node_adds (tree.call_expr at f has_list es) = forms.call_adds at (body_adds f) (each_expr_adds [] es)
  node_adds (tree.path_expr at p h) = forms.path_adds at h (path_adds p)
  node_adds (tree.continue_expr at jump) = forms.continue_adds at jump
  node_adds (tree.break_expr at jump e) = forms.break_adds at jump (present_expr_adds e)
  node_adds (tree.paren_expr at e) = forms.paren_adds at (body_adds e)
  node_adds (tree.macro_expr at c tree.no_expr) = forms.uncalled_adds at c
  node_adds (tree.macro_expr at c (tree.some_expr e)) = forms.called_adds at c (node_adds e)
  node_adds (tree.literal_expr at l) = adds_expr _ (Some at) (λ v. omega arith)
  node_adds (tree.leaf_expr at form) = forms.leaf_adds at form
  node_adds (tree.unary_expr at form e) = forms.operand_adds at _ (forms.unary_less form) (body_adds e)
  node_adds (tree.binary_expr at form a b) = forms.operands_adds at _ (forms.binary_less form) (body_adds a) (body_adds b)
  node_adds (tree.lazy_expr at op a b) = forms.operands_adds at _ forms.two_less (body_adds a) (body_adds b)
  node_adds (tree.list_expr at form es) = forms.list_adds at form (each_expr_adds [] es)
  node_adds (tree.repeat_expr at e c) = forms.repeat_adds at (body_adds e) (constant_adds c)
  node_adds (tree.const_expr at c) = adds_owning (λ i. i) (forms.const_adds at (rooted_adds c))
  node_adds (tree.closure_expr at moves is_static xs t e) = adds_owning (λ i. i)
      (closures.closure_adds at moves is_static (params_add no_closure_params xs) (present_adds t) (body_adds e))
  node_adds (tree.coroutine_closure_expr at kind moves xs t e) = adds_owning (λ i. i)
      (closures.coroutine_closure_adds kind (params_add no_closure_params xs) (present_adds t) (body_adds e) at moves)
  node_adds (tree.method_call_expr at e name es generics) =
      forms.method_call_adds at name (body_adds e) (each_expr_adds [] es) (args_add generics)
  node_adds (tree.cast_expr at e t) = forms.cast_adds at (body_adds e) (part_adds None t)
  node_adds (tree.record_expr at p head fs s) =
      forms.record_adds at (path_adds p) (forms.contents_adds (fields_add [] fs) (spread_adds s))
  node_adds (tree.offset_of_expr at t names) = forms.offset_of_adds at names (part_adds None t)
  node_adds (tree.leaving_expr at form e) = forms.value_adds at _ (forms.leaving_less form) (present_expr_adds e)
  node_adds (tree.become_expr at e) = forms.operand_adds at _ (λ i v. omega arith) (body_adds e)
  node_adds (tree.yield_expr at e) = closures.yield_adds at (present_expr_adds e)
  node_adds (tree.await_expr at location e) = forms.await_adds at location (body_adds e)
  node_adds (tree.nameless_expr at e) = forms.operand_adds at _ (λ i v. omega arith) (body_adds e)
  node_adds (tree.let_expr at p e) = pats.let_adds at (top_adds p) (body_adds e)
  node_adds (tree.match_expr at e arms) = pats.match_adds at (body_adds e) (arms_add [] arms)
  node_adds (tree.range_expr at form low high) = pats.range_adds at form (present_expr_adds low) (present_expr_adds high)
  node_adds (tree.assign_expr at own target e) = assignees.assign_adds at (target_adds target) (body_adds e)

  params_add : (c : ClosureParams) (xs : Params) → Correct (lower_params c xs) (closures.Params c)
  params_add c tree.no_params = closures.no_more_params c
  params_add c (tree.more_params x xs) = closures.params_then c (one_param_adds c x) (λ l. params_add l xs)

  one_param_adds : (c : ClosureParams) (x : Param) → Correct (lower_param c x) (closures.Params c)
  one_param_adds c (tree.disabled_param at by x) = closures.param_off c (tracks_report _)
  one_param_adds c (tree.param p t) = closures.param_adds c (top_adds p) (present_adds t)

  pub body_adds : (e : OptionExpr) → Correct (lower_part e) (Adds free an_expr)
  body_adds tree.no_expr = missing_adds
  body_adds (tree.some_expr e) = node_adds e

  present_expr_adds : (e : OptionExpr) → Correct (present e) (Adds free (maybe an_expr))
  present_expr_adds tree.no_expr = adds_pure None (λ v. omega arith)
  present_expr_adds (tree.some_expr e) = some_adds (node_adds e)

  kept_part_adds : (e : OptionExpr) → Correct (kept_part e) (Adds free (maybe an_expr))
  kept_part_adds tree.no_expr = adds_pure None (λ v. omega arith)
  kept_part_adds (tree.some_expr e) = kept_adds e (node_adds e)

  each_expr_adds : (done : List ExprId) (es : Exprs) → Correct (lower_each done es) (Adds (each an_expr done) (each an_expr))
  each_expr_adds done tree.no_exprs = adds_pure done (λ v. omega arith)
  each_expr_adds done (tree.more_exprs e es) = some_more {cost = an_expr} (kept_adds e (node_adds e)) (λ xs. each_expr_adds xs es) done

  fields_add : (done : List RecordLitField) (fs : Fields) → Correct (lower_fields done fs) (Adds (each a_field done) (each a_field))
  fields_add done tree.no_fields = adds_pure done (λ v. omega arith)
  fields_add done (tree.more_fields f fs) = some_more {cost = a_field} (one_field_adds f) (λ xs. fields_add xs fs) done

  one_field_adds : (f : Field) → Correct (lower_field f) (Adds free (maybe a_field))
  one_field_adds (tree.disabled_field at by f) = adds_then (adds_any (tracks_report _)) (λ u. adds_pure None (λ v. omega arith))
  one_field_adds (tree.nameless_field at e) = adds_pure None (λ v. omega arith)
  one_field_adds (tree.named_field at name e) = forms.field_adds at name (body_adds e)

  spread_adds : (s : TreeSpread) → Correct (lower_spread s) (Adds free a_spread)
  spread_adds tree.no_spread = adds_pure _ (λ v. omega arith)
  spread_adds tree.field_defaults = adds_pure _ (λ v. omega arith)
  spread_adds (tree.spread_of e) = adds_then (node_adds e) (λ i. adds_pure _ (λ v. omega arith))

  block_adds : (b : Block) → Correct (lower_block b) (Adds free an_expr)
  block_adds (tree.block at is_unsafe label _ number ss e) =
      forms.labelled_adds label (λ n. forms.block_form_adds at is_unsafe n number (stmts_add [] ss (kept_part_adds e)))

  block_part_adds : (b : OptionBlock) → Correct (lower_block_part b) (Adds free an_expr)
  block_part_adds tree.no_block = missing_adds
  block_part_adds (tree.some_block b) = block_adds b

  stmts_add : (done : List Statement) (ss : Stmts) {tail : Lowering (Option ExprId)} → Correct tail (Adds free (maybe an_expr))
      → Correct (lower_stmts done ss tail) (Adds (each a_statement done) contents)
  stmts_add done tree.no_stmts h = adds_then (adds_beside (each a_statement done) h) (λ t. adds_pure _ (λ v. omega arith))
  stmts_add done (tree.more_stmts s ss) h = some_more {cost = a_statement} (stmt_adds s) (λ xs. behind_adds s (stmts_add xs ss h)) done

  stmts_apart : (done : List Statement) (ss : Stmts) {tail : Lowering (Option ExprId)} → Correct tail (Adds free (maybe an_expr))
      → Correct (lower_stmts done ss tail) (made.Contains done)
  stmts_apart done tree.no_stmts h = made.contains_tail done h
  stmts_apart done (tree.more_stmts s ss) h = made.contains_more done (stmt_adds s) (λ xs. behind_contains s (stmts_apart xs ss h))

  stmt_adds : (s : Stmt) → Correct (lower_stmt s) (Adds free (maybe a_statement))
  stmt_adds (tree.expr_stmt e semi) = forms.statement_adds semi (kept_part_adds e)
  stmt_adds (tree.disabled_stmt at by s) = adds_then (adds_any (tracks_report _)) (λ u. adds_pure None (λ v. omega arith))
  stmt_adds tree.item_stmt = adds_pure _ (λ v. omega arith)
  stmt_adds (tree.call_stmt c) = adds_then (adds_any (tracks_track c)) (λ u. adds_pure None (λ v. omega arith))
  stmt_adds (tree.macro_stmt k d) = define_adds k d
  stmt_adds (tree.let_stmt p t e b) = pats.let_stmt_adds (top_adds p) (present_adds t) (present_expr_adds e) (present_block_adds b)

  present_block_adds : (b : OptionBlock) → Correct (present_block b) (Adds free (maybe an_expr))
  present_block_adds tree.no_block = adds_pure None (λ v. omega arith)
  present_block_adds (tree.some_block b) = some_adds (block_adds b)

  arms_add : (done : List MatchArm) (as' : Arms) → Correct (lower_arms done as') (Adds (each pats.an_arm done) (each pats.an_arm))
  arms_add done tree.no_arms = adds_pure done (λ v. omega arith)
  arms_add done (tree.more_arms a as') = some_more {cost = pats.an_arm} (arm_adds a) (λ xs. arms_add xs as') done

  arm_adds : (a : Arm) → Correct (lower_arm a) (Adds free (maybe pats.an_arm))
  arm_adds (tree.disabled_arm at by a) = adds_then (adds_any (tracks_report _)) (λ u. adds_pure None (λ v. omega arith))
  arm_adds (tree.arm p e g) = pats.arm_adds (top_adds p) (body_adds e) (guard_adds g)

  guard_adds : (g : Guard) → Correct (lower_guard g) (Adds free (maybe an_expr))
  guard_adds tree.no_guard = adds_pure None (λ v. omega arith)
  guard_adds (tree.guard e) = some_adds (body_adds e)

  -- patterns

  pub top_adds : (p : OptionPat) → Correct (lower_top p) (Adds free a_pat)
  top_adds tree.no_pat = pats.missing_pat_adds
  top_adds (tree.some_pat p) = adds_then (pat_adds p no_names) (λ r. adds_then (adds_any (settle_tracks r.1))
      (λ u. adds_pure r.0 (λ v. omega arith)))

  pat_adds : (p : Pat) → pats.Each free a_pat (lower_pat p)
  pat_adds (tree.leaf_pat at form) t = pats.alone_adds (pats.leaf_pat_adds at form) t
  pat_adds (tree.bind_pat at u _ p) t = pats.bind_adds at u (subpat_adds p) t
  pat_adds (tree.name_pat at u _) t = pats.alone_adds (adds_pat _ (Some at) (λ v. omega arith)) t
  pat_adds (tree.path_pat at p) t = pats.alone_adds (pats.path_pat_adds at (path_adds p)) t
  pat_adds (tree.tuple_struct_pat at p comma ps) t = pats.tuple_struct_adds at comma (elements_add no_elements ps) (path_adds p) t
  pat_adds (tree.tuple_pat at comma ps) t = pats.tuple_pat_adds at comma (elements_add no_elements ps) t
  pat_adds (tree.record_pat at p fs dots) t = pats.record_pat_adds at dots (pat_fields_add [] fs) (path_adds p) t
  pat_adds (tree.or_pat at ps) t = alternatives_add at ps t
  pat_adds (tree.paren_pat at p) t = pat_part_adds p t
  pat_adds (tree.macro_pat at c tree.no_pat) t = pats.alone_adds (pats.uncalled_pat_adds at c) t
  pat_adds (tree.macro_pat at c (tree.some_pat p)) t = pats.called_adds at c (λ r. r.0) (pat_adds p t)
  pat_adds (tree.barred_pat at) t = pats.alone_adds (pats.barred_pat_adds at) t
  pat_adds (tree.slice_pat at before p behind) t =
      pats.slice_pat_adds at (pats_add [] before) (subpat_adds p) (pats_add [] behind) t
  pat_adds (tree.over_pat at form p) t = pats.over_pat_adds at form (pat_part_adds p) t
  pat_adds (tree.literal_pat at own x) t = pats.alone_adds (pats.literal_pat_adds at own x) t
  pat_adds (tree.range_pat at op low high) t = pats.alone_adds (pats.range_pat_adds at op (side_adds low) (side_adds high)) t

  pat_part_adds : (p : OptionPat) → pats.Each free a_pat (pat_part p)
  pat_part_adds tree.no_pat t = pats.alone_adds pats.missing_pat_adds t
  pat_part_adds (tree.some_pat p) t = pat_adds p t

  subpat_adds : (p : OptionPat) → pats.Each free pats.maybe_pat (present_pat p)
  subpat_adds tree.no_pat t = adds_pure (None, t) (λ v. omega arith)
  subpat_adds (tree.some_pat p) t = adds_then (pat_adds p t) (λ r. adds_pure (Some r.0, r.1) (λ v. omega arith))

  pats_add : (done : List PatId) (ps : Pats) → pats.Each (pats.pats done) pats.pats (lower_pats done ps)
  pats_add done tree.no_pats t = adds_pure (done, t) (λ v. omega arith)
  pats_add done (tree.more_pats p ps) t = adds_then (adds_beside (pats.pats done) (pat_adds p t))
      (λ r. adds_from (pats.pushed done r.0) (pats_add (done ++ r.0 ∷ []) ps r.1))
  pats_add done (tree.tracked_pats c ps) t = adds_then (adds_any (tracks_emitted c)) (λ u. pats_add done ps t)

  elements_add : (done : Elements) (ps : Pats) → pats.Each (pats.elements done) pats.elements (lower_elements done ps)
  elements_add done tree.no_pats t = adds_pure (done, t) (λ v. omega arith)
  elements_add done (tree.more_pats p ps) t =
      adds_then (pats.element_adds (is_dots p) done (pat_adds p) t) (λ r. elements_add r.0 ps r.1)
  elements_add done (tree.tracked_pats c ps) t = adds_then (adds_any (tracks_emitted c)) (λ u. elements_add done ps t)

  alternatives_add : (at : Pointer) (ps : Pats) → pats.Each free a_pat (lower_alternatives at ps)
  alternatives_add at tree.no_pats t = pats.alone_adds (adds_pat _ (Some at) (λ v. omega arith)) t
  alternatives_add at (tree.more_pats p ps) t = pats.or_adds at (pat_adds p) (λ done. later_add ps done) t
  alternatives_add at (tree.tracked_pats c ps) t = adds_then (adds_any (tracks_emitted c)) (λ u. alternatives_add at ps t)

  later_add : (ps : Pats) (done : List PatId) → pats.Each (pats.pats done) pats.pats (lower_later ps done)
  later_add tree.no_pats done t = adds_pure (done, t) (λ v. omega arith)
  later_add (tree.more_pats p ps) done t = adds_then (adds_beside (pats.pats done) (pat_adds p (next_alternative t)))
      (λ r. adds_from (pats.pushed done r.0) (later_add ps (done ++ r.0 ∷ []) r.1))
  later_add (tree.tracked_pats c ps) done t = adds_then (adds_any (tracks_emitted c)) (λ u. later_add ps done t)

  pat_fields_add : (done : List RecordFieldPat) (fs : PatFields) → pats.Each (pats.fields done) pats.fields (lower_pat_fields done fs)
  pat_fields_add done tree.no_pat_fields t = adds_pure (done, t) (λ v. omega arith)
  pat_fields_add done (tree.more_pat_fields f fs) t = adds_then (adds_beside (pats.fields done) (pat_field_add f t))
      (λ r. adds_from (pats.field_pushed done r.0) (pat_fields_add (push_some done r.0) fs r.1))

  pat_field_add : (f : PatField) → pats.Each free pats.maybe_field (lower_pat_field f)
  pat_field_add (tree.disabled_pat_field at by f) t =
      adds_then (adds_any (tracks_report _)) (λ u. adds_pure (None, t) (λ v. omega arith))
  pat_field_add tree.partless_pat_field t = adds_pure (None, t) (λ v. omega arith)
  pat_field_add (tree.pat_field at n p) t = pats.pat_field_adds at n (pat_adds p) t

  side_adds : (s : Side) → Correct (lower_side s) (Adds free (maybe an_expr))
  side_adds tree.no_side = adds_pure None (λ v. omega arith)
  side_adds (tree.literal_side at s) = pats.literal_side_adds at s
  side_adds (tree.name_side at n _) = pats.name_side_adds at n
  side_adds (tree.path_side at p) = pats.path_side_adds at (path_adds p)
  side_adds tree.other_side = adds_pure None (λ v. omega arith)

  -- targets

  target_adds : (t : Target) → Correct (lower_target t) (Adds free a_target)
  target_adds (tree.absent_target call) = assignees.missing_target_adds call
  target_adds (tree.place_target at e) = assignees.place_adds at (node_adds e)
  target_adds (tree.macro_target None c t) = adds_then (adds_any (tracks_emitted c)) (λ u. target_adds t)
  target_adds (tree.macro_target (Some at) c t) = adds_then (adds_any (tracks_emitted c)) (λ u. assignees.pointed_adds at (target_adds t))
  target_adds (tree.wild_target at) = assignees.adds_target _ at (λ v. omega arith)
  target_adds (tree.path_target at p h) = assignees.path_target_adds at h (aliased_adds (alias_of p) (adds_then (reading_adds p start)
      (λ r. adds_pure (path_read r) (λ v. weights.path_read_less v.weight v.held r))))
  target_adds (tree.tuple_target at ts) = assignees.tuple_target_adds at (targets_add no_elements ts)
  target_adds (tree.call_target at p ts) = assignees.call_target_adds at (targets_add no_elements ts) (path_adds p)
  target_adds (tree.array_target at before dots behind) =
      assignees.array_target_adds at dots (targets_add no_elements before) (targets_add no_elements behind)
  target_adds (tree.record_target at p fs dots spread) = assignees.record_target_adds at dots spread (target_fields_add [] fs) (path_adds p)

  targets_add : (done : Elements) (ts : Targets)
      → Correct (lower_targets done ts) (Adds (assignees.target_elements done) assignees.target_elements)
  targets_add done tree.no_targets = adds_pure done (λ v. omega arith)
  targets_add done (tree.more_targets t ts) = adds_then (adds_beside (assignees.target_elements done) (target_adds t))
      (λ i. adds_from (assignees.pushed done.0 i) (targets_add (add_target done i) ts))
  targets_add done (tree.dots_targets ts) = targets_add (add_target_dots done) ts
  targets_add done (tree.tracked_targets c ts) = adds_then (adds_any (tracks_emitted c)) (λ u. targets_add done ts)

  target_fields_add : (done : List RecordFieldPat) (fs : TargetFields)
      → Correct (lower_target_fields done fs) (Adds (assignees.target_fields done) assignees.target_fields)
  target_fields_add done tree.no_target_fields = adds_pure done (λ v. omega arith)
  target_fields_add done (tree.more_target_fields f fs) = adds_then (adds_beside (assignees.target_fields done) (target_field_add f))
      (λ o. adds_from (assignees.field_pushed done o) (target_fields_add (push_some done o) fs))

  target_field_add : (f : TargetField) → Correct (lower_target_field f) (Adds free assignees.maybe_target_field)
  target_field_add (tree.disabled_target_field at by) =
      adds_then (adds_any (tracks_report _)) (λ u. adds_pure None (λ v. omega arith))
  target_field_add tree.partless_target_field = adds_pure None (λ v. omega arith)
  target_field_add (tree.target_field at n t) = assignees.target_field_adds at n (target_adds t)

-- theorems

-- what is reached, list by list
weighed : (f : ExprId → List ℕ) (k : ℕ) (xs : List Inside) → times k (of_each f (exprs_of xs)) ≡ sum (λ i. times k (f i)) xs
weighed f k [] = refl
weighed f k (x ∷ xs) = let a = times_append k (f x.expr) (of_each f (exprs_of xs)) in let r = weighed f k xs in omega arith

-- where nothing was reached before, and the answer costs as much as these reach
pub inside_once : {A : Type 0} {now : A → Cost} {p : Lowering A} → Correct p (Adds free now) → (b b' : Builder) (a : A) → Paired b.stored
    → p b ≡ (Ok a, b') → (final : Stored) → Extends b'.stored final → (depth : ℕ) → length final.exprs.entries ≤ depth
    → (xs : List Inside) → ((k : ℕ) → sum (λ i. times k (reached_to (store_of final) depth i)) xs
    ≤ now a (view final depth k depth (held_deep final) (length final.pats.entries)))
    → Spread (length b.stored.exprs.entries) (length b'.stored.exprs.entries) (of_each (reached_to (store_of final) depth) (exprs_of xs))
inside_once h b b' a paired is final stays depth le xs less =
    let r = after_lowering h b a b' paired is final stays in
    let n = no_shorter stays.exprs.entries in
    let m = no_shorter stays.types.entries in
    let p = no_shorter stays.pats.entries in
    counted_spread _ _ _ (λ k.
    let e = r.earlier depth k depth (held_deep final) (length final.pats.entries) (record {
      all_of = omega (arith, n, le);
      deep = omega (arith, n, le);
      inside = omega (arith, n, m, p);
      placed = p;
    }) in
    let c = e.counted in
    let q = r.asks depth k in
    let l = less k in
    let w = weighed (reached_to (store_of final) depth) k xs in omega arith)

pub expr_inside : InsideReachedOnce
unfolding unrun_in
expr_inside e b b' i l final stays depth le =
    inside_once (body_adds e) b b' i l.paired l.is final stays depth le (by_itself i ∷ (all_unruns (store_of final)).expr i)
    (λ k. omega arith)

pub type_inside : TypeInsideReachedOnce
unfolding unrun_in_type
type_inside binder t b b' i paired is final stays depth le =
    inside_once (part_adds binder t) b b' i paired is final stays depth le ((all_unruns (store_of final)).type i) (λ k. omega arith)

pub path_inside : PathInsideReachedOnce
unfolding unrun_in_path
path_inside p b b' r paired is final stays depth le =
    inside_once (path_adds p) b b' r paired is final stays depth le (of_present (of_path (all_unruns (store_of final))) r)
    (λ k. omega arith)
