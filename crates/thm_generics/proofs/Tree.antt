-- What lowering a tree notes is what is read off it: by induction, a line for each kind.
use Rattle.std.proofs.Common.{◌≡◌, refl, sym, List, [], ◌∷◌, Option, Some, None}
use Rattle.std.proofs.Common.{Bool, true, false, true≢false}
use Rattle.hir_store.specs.declared.hir.Statement.{Statement}
use Rattle.hir_store.specs.declared.ids.ExprId.{ExprId}
use Rattle.hir_env.specs.ResolvedTree as tree
use Rattle.hir_store.specs.declared.hir.RecordLitField.{RecordLitField}
use Rattle.hir_lower_builder.specs.Lower.{lower_fields, lower_field, lower_spread, ExprSteps, kept, lower, lower_part, present, kept_part}
use Rattle.hir_lower_builder.specs.Lower.{lower_each, lower_block, lower_block_part, lower_stmts, lower_stmt, lower_constant, lower_type}
use Rattle.hir_lower_builder.specs.Lower.{type_part, present_type, type_or_unit, lower_parts, read_segment, read_each, read_path}
use Rattle.hir_lower_builder.specs.Lower.{read_option}
use Rattle.hir_lower_builder.specs.Lower.{lower_path, lower_segment_args, parens_part, output_part, args_part, lower_args, lower_arg}
use Rattle.hir_lower_builder.specs.Lower.{lower_bounds, lower_bound, lower_arms, lower_arm, lower_guard, present_block, lower_top}
use Rattle.hir_lower_builder.specs.Lower.{lower_pat}
use Rattle.hir_lower_builder.specs.Lower.{lower_alternatives, pat_part, present_pat, lower_pats, lower_elements, lower_later}
use Rattle.hir_lower_builder.specs.Lower.{lower_pat_fields}
use Rattle.hir_lower_builder.specs.Lower.{lower_pat_field}
use Rattle.hir_lower_builder.specs.Lower.{lower_side, lower_type_pat_part, lower_type_pat, lower_type_pats, lower_limit, limit_side}
use Rattle.hir_lower_builder.specs.Lower.{lower_target, lower_targets, lower_target_fields, lower_target_field}
use Rattle.hir_env.specs.ResolvedTree.{Fields, Field, Spread, Expr, OptionExpr, Exprs, Block, OptionBlock, Stmts, Stmt, Type_, OptionType}
use Rattle.hir_env.specs.ResolvedTree.{Parts, Path, OptionPath, Segments, Segment, SegmentArgs, OptionParens, OptionRet, OptionArgs, Args}
use Rattle.hir_env.specs.ResolvedTree.{Arg}
use Rattle.hir_env.specs.ResolvedTree.{Bounds, Bound, Constant, Binder, Arms, Arm, Guard, Pat, OptionPat, Pats, PatFields, PatField, Side}
use Rattle.hir_env.specs.ResolvedTree.{TypePat, OptionTypePat, TypePats, Limit, Target, Targets, TargetFields, TargetField, SelfFormal}
use Rattle.hir_env.specs.ResolvedTree.{Formal}
use Rattle.hir_env.specs.ResolvedTree.{Formals, Param, Params}
use Rattle.hir_env.specs.Conditions.{holds_let}
use Rattle.hir_env.specs.Targets.{head_pointer}
use Rattle.hir_lower_builder.specs.Lowering.{Lowering}
use Rattle.hir_store.specs.Pointers.{Pointer}
use Rattle.hir_lower_builder.specs.Walks.{start, super_read}
use Rattle.hir_store.specs.declared.ids.TypeRefId.{TypeRefId}
use Rattle.hir_store.specs.declared.type_ref.TypeBound.{TypeBound}
use Rattle.hir_lower_builder.specs.declared.args.ArgLists.{ArgLists}
use Rattle.hir_lower_builder.specs.declared.closures.ClosureParams.{ClosureParams}
use Rattle.hir_lower_builder.specs.Lower.{lower_params, lower_param, lower_rooted, no_closure_params}
use Rattle.hir_lower_builder.specs.declared.walk.PathWalk.{PathWalk}
use Rattle.hir_lower_builder.specs.Types.{no_lists}
use Rattle.hir_store.specs.declared.hir.MatchArm.{MatchArm}
use Rattle.hir_store.specs.declared.pat.RecordFieldPat.{RecordFieldPat}
use Rattle.hir_store.specs.declared.ids.PatId.{PatId}
use Rattle.hir_lower_builder.specs.Pats as forms
use Rattle.hir_lower_builder.specs.Pats.{Elements, Table, no_elements, no_names, next_alternative}
use Rattle.hir_env.specs.Paths.{alias_of}
use Rattle.hir_lower_builder.specs.Walks.{at_first}
use Rattle.spec_data.specs.Rule.{Item}
use Rattle.spec_data.specs.Written.{items, list_data, path_of, segments}
use Rattle.thm_round_trip.proofs.Going.{path_is}
use Rattle.thm_round_trip.proofs.Layers.{pushed_all}
use Rattle.thm_round_trip.proofs.Tree.{bounds_read, each_goes, list_reads, own_goes, path_goes}
use Rattle.spec_data.specs.Fold.{front, tracked_in}
use Rattle.spec_data.specs.Fold.{tracked_in_arg, tracked_in_args, tracked_in_arm, tracked_in_arms, tracked_in_beside, tracked_in_block}
use Rattle.spec_data.specs.Fold.{tracked_in_block_part, tracked_in_bound, tracked_in_bounds, tracked_in_constant, tracked_in_each}
use Rattle.spec_data.specs.Fold.{tracked_in_each_arg, tracked_in_field, tracked_in_fields, tracked_in_guard, tracked_in_limit}
use Rattle.spec_data.specs.Fold.{tracked_in_outer}
use Rattle.spec_data.specs.Fold.{tracked_in_output, tracked_in_param, tracked_in_params, tracked_in_parens, tracked_in_part}
use Rattle.spec_data.specs.Fold.{tracked_in_parts}
use Rattle.spec_data.specs.Fold.{tracked_in_pat, tracked_in_pat_field, tracked_in_pat_fields, tracked_in_path, tracked_in_pats}
use Rattle.spec_data.specs.Fold.{tracked_in_present_type, tracked_in_segment, tracked_in_segments, tracked_in_side, tracked_in_spread}
use Rattle.spec_data.specs.Fold.{tracked_in_stmt, tracked_in_stmts, tracked_in_target, tracked_in_target_field, tracked_in_target_fields}
use Rattle.spec_data.specs.Fold.{tracked_in_targets, tracked_in_top, tracked_in_type, tracked_in_type_part, tracked_in_type_pat}
use Rattle.spec_data.specs.Fold.{tracked_in_type_pat_part, tracked_in_type_pats, tracked_in_whole}
use Rattle.thm_generics.specs.Theorems.{BoundsTracked, ConstantsTracked, ExprsTracked, PathsTracked, TypesTracked}
use Rattle.spec_data.specs.Tracking.{Tracking, ◌⊕◌, none}
use Rattle.thm_generics.proofs.Logic.{SideOutput, behind_none, both_assoc, tracked_by, tracks_as, tracks_end, tracks_pure, tracks_then}
use Rattle.thm_generics.proofs.Steps.{tracks_expr, tracks_gone, tracks_track, tracks_emitted, tracks_made_pat, tracks_pat, tracks_report}
use Rattle.thm_generics.proofs.Steps.{tracks_type}
use Rattle.thm_generics.proofs.Forms.{some_tracks}
use Rattle.thm_generics.proofs.Forms.{await_tracks, block_form_tracks, break_tracks, call_tracks, cast_tracks, const_tracks}
use Rattle.thm_generics.proofs.Forms.{constant_tracks}
use Rattle.thm_generics.proofs.Forms.{contents_tracks, continue_tracks, field_tracks, if_tracks, inner_tracks, labelled_tracks, list_tracks}
use Rattle.thm_generics.proofs.Forms.{loop_tracks, method_call_tracks, missing_tracks, offset_of_tracks, operand_tracks, operands_tracks}
use Rattle.thm_generics.proofs.Forms.{paren_tracks, path_tracks, record_tracks, repeat_tracks, rooted_tracks, iteration_tracks}
use Rattle.thm_generics.proofs.Forms.{value_tracks}
use Rattle.thm_generics.proofs.PathForms.{Behind, aliased_tracks, at_start, behind_any, beside_tracks, counted_tracks, read_then}
use Rattle.thm_generics.proofs.PathForms.{whole_tracks}
use Rattle.thm_generics.proofs.TypeForms.{array_tracks, binding_tracks, dyn_tracks, error_tracks}
use Rattle.thm_generics.proofs.Held.{each_holds}
use Rattle.thm_generics.proofs.TypeForms.{fn_tracks, impl_tracks, lifetime_tracks}
use Rattle.thm_generics.proofs.TypeForms.{over_tracks, parens_tracks, path_bound_tracks, path_type_tracks, ref_tracks, tuple_tracks}
use Rattle.thm_generics.proofs.TypeForms.{unit_tracks}
use Rattle.thm_generics.proofs.TypeForms.{uses_track, with_trait_tracks}
use Rattle.thm_generics.proofs.PatForms.{alone_tracks, arm_tracks, array_target_tracks, assign_tracks, before_tracks, bind_tracks}
use Rattle.thm_generics.proofs.PatForms.{call_target_tracks, element_tracks, item_tracks, let_tracks, let_stmt_tracks, limits_track}
use Rattle.thm_generics.proofs.PatForms.{literal_limit_tracks, literal_pat_tracks, literal_side_tracks, match_tracks, missing_pat_tracks}
use Rattle.thm_generics.proofs.PatForms.{name_limit_tracks, name_side_tracks, or_tracks, over_pat_tracks, pat_field_tracks}
use Rattle.thm_generics.proofs.PatForms.{path_limit_tracks}
use Rattle.thm_generics.proofs.PatForms.{path_pat_tracks, path_side_tracks, path_target_tracks, pattern_type_tracks, place_target_tracks}
use Rattle.thm_generics.proofs.PatForms.{pointed_tracks, range_tracks, range_pat_tracks, record_pat_tracks, record_target_tracks}
use Rattle.thm_generics.proofs.PatForms.{settle_tracks}
use Rattle.thm_generics.proofs.PatForms.{slice_pat_tracks, target_field_tracks, target_tracks, tuple_pat_tracks, tuple_struct_tracks}
use Rattle.thm_generics.proofs.PatForms.{tuple_target_tracks, type_alternatives_track}
use Rattle.thm_generics.proofs.MadeForms.{condition_tracks, for_tracks, question_tracks, try_block_tracks, typed_try_tracks}
use Rattle.thm_generics.proofs.CallForms.{behind_tracks, called_tracks, called_pat_tracks, called_type_tracks, closure_tracks}
use Rattle.thm_generics.proofs.CallForms.{coroutine_tracks}
use Rattle.thm_generics.proofs.CallForms.{define_tracks, param_tracks, uncalled_tracks, uncalled_pat_tracks, uncalled_type_tracks}
use Rattle.thm_generics.proofs.CallForms.{yield_tracks}
use Rattle.thm_generics.proofs.Preludes.{coroutine_closure_tracks}

kept_tracked : (e : Expr) {p : ExprSteps} → SideOutput (tracked_in e) p → SideOutput (tracked_in e) (kept e p)
kept_tracked (tree.disabled_expr why e) h = tracks_end (tracks_gone why) (λ u. tracks_pure None)
kept_tracked e h = some_tracks h

-- two dots of a tuple note nothing
dots_tracked_none : (p : Pat) → forms.is_dots p ≡ true → tracked_in_pat p ≡ none
dots_tracked_none (tree.leaf_pat at form) e = refl
dots_tracked_none p e = absurd (true≢false (sym e))

mutual
  pub one_type_tracked : (b : Option Binder) (t : Type_) → SideOutput (tracked_in_type t) (lower_type b t)
  one_type_tracked b (tree.paren_type t) = type_tracked b t
  one_type_tracked b (tree.macro_type at c tree.no_type) = uncalled_type_tracks at c
  one_type_tracked b (tree.macro_type at c (tree.some_type t)) = called_type_tracks at c (one_type_tracked b t)
  one_type_tracked b (tree.for_type names t) = type_tracked (Some names) t
  one_type_tracked b (tree.leaf_type at form) = tracks_type _ _
  one_type_tracked b (tree.over_type at form t) = over_tracks at form (type_tracked None t)
  one_type_tracked b (tree.array_type at c t) = array_tracks at (constant_tracked c) (type_tracked None t)
  one_type_tracked b (tree.tuple_type at ts) = tuple_tracks at (parts_tracked [] ts)
  one_type_tracked b (tree.path_type at p) = path_type_tracks at (whole_tracked p)
  one_type_tracked b (tree.ref_type at l mutability t) = ref_tracks at l mutability (type_tracked None t)
  one_type_tracked b (tree.fn_type at head ts r) = fn_tracks at b head (or_unit_tracked r) (parts_tracked [] ts)
  one_type_tracked b (tree.impl_type at mode bs) =
      impl_tracks at mode bs (bounds_tracked [] bs) (pushed_all (bounds_read bs [])) (pushed_all (each_holds bs []))
  one_type_tracked b (tree.nested_impl at) = tracks_type _ _
  one_type_tracked b (tree.dyn_type at bs) = dyn_tracks at (bounds_tracked [] bs)
  one_type_tracked b (tree.pattern_type at t own p) = pattern_type_tracks at (type_tracked None t) (type_pat_part_tracked p)

  pub type_tracked : (b : Option Binder) (t : OptionType) → SideOutput (tracked_in_type_part t) (type_part b t)
  type_tracked b tree.no_type = error_tracks
  type_tracked b (tree.some_type t) = one_type_tracked b t

  pub present_type_tracked : (t : OptionType) → SideOutput (tracked_in_present_type t) (present_type t)
  present_type_tracked tree.no_type = tracks_pure None
  present_type_tracked (tree.some_type t) = tracks_end (one_type_tracked None t) (λ i. tracks_pure (Some i))

  or_unit_tracked : (t : OptionType) → SideOutput (tracked_in_type_part t) (type_or_unit t)
  or_unit_tracked tree.no_type = unit_tracks
  or_unit_tracked (tree.some_type t) = one_type_tracked None t

  parts_tracked : (done : List TypeRefId) (ts : Parts) → SideOutput (tracked_in_parts ts) (lower_parts done ts)
  parts_tracked done tree.no_parts = tracks_pure done
  parts_tracked done (tree.more_parts t ts) = tracks_then (type_tracked None t) (λ i. parts_tracked _ ts)

  segment_tracked : (first : Bool) (s : Segment) (w : PathWalk)
      → SideOutput (tracked_in_segment first s) (read_segment first s w)
  segment_tracked first tree.absent_segment w = tracks_pure _
  segment_tracked first tree.broken_segment w = tracks_pure _
  segment_tracked first (tree.name_segment n _ as') w = tracks_end (beside_tracked as') (λ a. tracks_pure _)
  segment_tracked first tree.self_type_segment w = tracks_pure _
  segment_tracked false tree.crate_segment w = tracks_pure _
  segment_tracked true tree.crate_segment w = tracks_pure _
  segment_tracked false (tree.dollar_crate_segment root) w = tracks_pure _
  segment_tracked true (tree.dollar_crate_segment root) w = tracks_pure _
  segment_tracked false tree.self_segment w = tracks_pure _
  segment_tracked true tree.self_segment w = tracks_pure _
  segment_tracked first tree.super_segment w = counted_tracks (super_read w)
  segment_tracked false (tree.type_segment t) w = tracks_pure _
  segment_tracked true (tree.type_segment t) w = tracks_end (one_type_tracked None t) (λ i. tracks_pure _)
  segment_tracked false (tree.trait_segment t at p) w = tracks_pure _
  segment_tracked true (tree.trait_segment t at p) w =
      tracks_then (one_type_tracked None t) (λ i. with_trait_tracks (whole_tracked p) i at w)

  segments_tracked : (ss : Segments) (is : List Item) (w : PathWalk) → Behind is w (tracked_in_segments ss is) (read_each ss w)
  segments_tracked tree.no_segments is w = behind_any (tracks_pure _)
  segments_tracked (tree.more_segments s ss) is w =
      read_then {add = items ss} (segments_tracked ss is w) (each_goes ss w) (λ v. behind_any (segment_tracked false s v))

  reading_tracked : (p : Path) (is : List Item) (w : PathWalk) → Behind is w (tracked_in_path p is) (read_path p w)
  reading_tracked (tree.path alias leading first rest use_) is w =
      whole_tracks {add = λ js. front leading first ∷ items rest js}
      (read_then {add = items rest} (segments_tracked rest is w) (each_goes rest w)
      (λ v. behind_any (segment_tracked true first (at_first leading v))))
      (own_goes leading first rest w) (λ v. outer_tracked use_ (front leading first ∷ items rest is) v)

  outer_tracked : (p : OptionPath) (is : List Item) (w : PathWalk) → Behind is w (tracked_in_outer p is) (read_option p w)
  outer_tracked tree.no_path is w = behind_any (tracks_pure _)
  outer_tracked (tree.some_path p) is w = reading_tracked p is w

  pub whole_tracked : (p : OptionPath) → SideOutput (tracked_in_whole p) (lower_path p)
  whole_tracked tree.no_path = tracks_pure None
  whole_tracked (tree.some_path p) = aliased_tracks (alias_of p) (path_of (tree.some_path p))
      (tracks_end (at_start (reading_tracked p [] start)) (λ r. tracks_pure _)) (path_is {add = segments p} (path_goes p start))

  beside_tracked : (as' : SegmentArgs) → SideOutput (tracked_in_beside as') (lower_segment_args as')
  beside_tracked (tree.segment_args as' ps dots) =
      beside_tracks (list_data as') (args_tracked as') (list_reads as') (parens_tracked ps) dots

  parens_tracked : (ps : OptionParens) → SideOutput (tracked_in_parens ps) (parens_part ps)
  parens_tracked tree.no_parens = tracks_pure None
  parens_tracked (tree.some_parens ts r) = parens_tracks (parts_tracked [] ts) (output_tracked r)

  pub output_tracked : (r : OptionRet) → SideOutput (tracked_in_output r) (output_part r)
  output_tracked tree.no_ret = unit_tracks
  output_tracked (tree.some_ret t) = type_tracked None t

  args_tracked : (as' : OptionArgs) → SideOutput (tracked_in_args as') (args_part as')
  args_tracked tree.no_arg_list = tracks_pure None
  args_tracked (tree.some_arg_list as') = tracks_end (each_arg_tracked no_lists as') (λ l. tracks_pure _)

  each_arg_tracked : (l : ArgLists) (as' : Args) → SideOutput (tracked_in_each_arg as') (lower_args l as')
  each_arg_tracked l tree.no_args = tracks_pure l
  each_arg_tracked l (tree.more_args a as') = tracks_then (arg_tracked l a) (λ m. each_arg_tracked m as')

  arg_tracked : (l : ArgLists) (a : Arg) → SideOutput (tracked_in_arg a) (lower_arg l a)
  arg_tracked l tree.skipped_arg = tracks_pure l
  arg_tracked l (tree.type_arg t) = tracks_end (type_tracked None t) (λ i. tracks_pure _)
  arg_tracked l (tree.lifetime_arg lifetime) = tracks_end (lifetime_tracks lifetime) (λ i. tracks_pure _)
  arg_tracked l (tree.const_arg c) = tracks_end (constant_tracked c) (λ x. tracks_pure _)
  arg_tracked l (tree.assoc_arg name as' dots t bs) =
      tracks_end (binding_tracks name dots (args_tracked as') (present_type_tracked t) (bounds_tracked [] bs))
      (λ b. tracks_pure _)

  pub bounds_tracked : (done : List TypeBound) (bs : Bounds) → SideOutput (tracked_in_bounds bs) (lower_bounds done bs)
  bounds_tracked done tree.no_bounds = tracks_pure done
  bounds_tracked done (tree.more_bounds b bs) = tracks_then (bound_tracked b) (λ x. bounds_tracked _ bs)

  pub bound_tracked : (b : Bound) → SideOutput (tracked_in_bound b) (lower_bound b)
  bound_tracked tree.error_bound = tracks_pure _
  bound_tracked (tree.path_bound at p maybe binder) = path_bound_tracks at maybe binder (whole_tracked p)
  bound_tracked (tree.lifetime_bound l) = tracks_end (lifetime_tracks l) (λ i. tracks_pure _)
  bound_tracked (tree.use_bound us) = tracks_end (uses_track [] us) (λ xs. tracks_pure _)

  pub constant_tracked : (c : Constant) → SideOutput (tracked_in_constant c) (lower_constant c)
  constant_tracked (tree.constant e) = constant_tracks (part_tracked e)

  rooted_tracked : (c : Constant) → SideOutput (tracked_in_constant c) (lower_rooted c)
  rooted_tracked (tree.constant e) = rooted_tracks (part_tracked e)

  type_pat_tracked : (p : TypePat) → SideOutput (tracked_in_type_pat p) (lower_type_pat p)
  type_pat_tracked (tree.not_null_type_pat at) = tracks_pat _ _
  type_pat_tracked (tree.macro_type_pat at c tree.no_type_pat) = uncalled_pat_tracks at c
  type_pat_tracked (tree.macro_type_pat at c (tree.some_type_pat p)) = called_pat_tracks at c (λ i. i) (type_pat_tracked p)
  type_pat_tracked (tree.or_type_pat at ps) = type_alternatives_track at (type_pats_tracked [] ps)
  type_pat_tracked (tree.range_type_pat at low high) = limits_track at (limit_tracked low) (limit_tracked high)
  type_pat_tracked (tree.other_type_pat at) = tracks_pat _ _

  type_pat_part_tracked : (p : OptionTypePat) → SideOutput (tracked_in_type_pat_part p) (lower_type_pat_part p)
  type_pat_part_tracked tree.no_type_pat = missing_pat_tracks
  type_pat_part_tracked (tree.some_type_pat p) = type_pat_tracked p

  type_pats_tracked : (done : List PatId) (ps : TypePats) → SideOutput (tracked_in_type_pats ps) (lower_type_pats done ps)
  type_pats_tracked done tree.no_type_pats = tracks_pure done
  type_pats_tracked done (tree.more_type_pats p ps) = tracks_then (type_pat_tracked p) (λ i. type_pats_tracked _ ps)

  limit_tracked : (l : Limit) → SideOutput (tracked_in_limit l) (lower_limit l)
  limit_tracked (tree.item_limit item) = inner_tracks (item_tracks item)
  limit_tracked (tree.side_limit s) = inner_tracks (limit_side_tracked s)
  limit_tracked (tree.before_limit item s) = inner_tracks (before_tracks item (limit_side_tracked s))

  limit_side_tracked : (s : Side) → SideOutput (tracked_in_side s) (limit_side s)
  limit_side_tracked tree.no_side = missing_tracks
  limit_side_tracked (tree.literal_side at l) = literal_limit_tracks at l
  limit_side_tracked (tree.name_side at n _) = name_limit_tracks at n
  limit_side_tracked (tree.path_side at p) = path_limit_tracks at (whole_tracked p)
  limit_side_tracked tree.other_side = missing_tracks

  node_tracked : (e : Expr) → SideOutput (tracked_in e) (lower e)
  node_tracked (tree.disabled_expr why e) = tracks_end (tracks_gone why) (λ u. missing_tracks)
  node_tracked (tree.if_expr at c t e) = if_tracks at (part_tracked c) (block_part_tracked t) (present_tracked e)
  node_tracked (tree.block_expr b) = block_tracked b
  node_tracked (tree.loop_expr at label _ b) = loop_tracks at _ label (block_part_tracked b)
  node_tracked (tree.while_expr at label _ c b) =
      loop_tracks at _ label (iteration_tracks at (condition_tracks at (holds_let c) (part_tracked c)) (block_part_tracked b))
  node_tracked (tree.for_expr at items label _ p h b) =
      for_tracks at (head_pointer at h) items label (part_tracked h) (top_tracked p) (part_tracked b)
  node_tracked (tree.question_expr at items e) = question_tracks at items (part_tracked e)
  node_tracked (tree.itemless_expr at) = missing_tracks
  node_tracked (tree.try_expr at item tree.no_type number ss e) =
      tracks_as (sym (behind_none _)) (try_block_tracks at item false number (contents_tracked [] ss (kept_part_tracked e)))
  node_tracked (tree.try_expr at item (tree.some_type t) number ss e) =
      typed_try_tracks at (try_block_tracks at item true number (contents_tracked [] ss (kept_part_tracked e)))
      (one_type_tracked None t)
  node_tracked (tree.coroutine_expr at kind moves number ss e) =
      coroutine_tracks at kind moves number (contents_tracked [] ss (kept_part_tracked e))
  node_tracked (tree.call_expr at f has_list es) = call_tracks at (part_tracked f) (each_tracked [] es)
  node_tracked (tree.path_expr at p h) = path_tracks at h (whole_tracked p)
  node_tracked (tree.continue_expr at jump) = continue_tracks at jump
  node_tracked (tree.break_expr at jump e) = break_tracks at jump (present_tracked e)
  node_tracked (tree.paren_expr at e) = paren_tracks at (part_tracked e)
  node_tracked (tree.macro_expr at c tree.no_expr) = uncalled_tracks at c
  node_tracked (tree.macro_expr at c (tree.some_expr e)) = called_tracks at c (node_tracked e)
  node_tracked (tree.literal_expr at l) = tracks_expr _ _
  node_tracked (tree.leaf_expr at form) = tracks_expr _ _
  node_tracked (tree.unary_expr at form e) = operand_tracks at _ (part_tracked e)
  node_tracked (tree.binary_expr at form a b) = operands_tracks at _ (part_tracked a) (part_tracked b)
  node_tracked (tree.lazy_expr at op a b) = operands_tracks at _ (part_tracked a) (part_tracked b)
  node_tracked (tree.list_expr at form es) = list_tracks at form (each_tracked [] es)
  node_tracked (tree.repeat_expr at e c) = repeat_tracks at (part_tracked e) (constant_tracked c)
  node_tracked (tree.const_expr at c) = const_tracks at (rooted_tracked c)
  node_tracked (tree.closure_expr at moves is_static xs t e) = closure_tracks at moves is_static
      (params_tracked no_closure_params xs) (present_type_tracked t) (part_tracked e)
  node_tracked (tree.coroutine_closure_expr at kind moves xs t e) = coroutine_closure_tracks at kind moves
      (params_tracked no_closure_params xs) (present_type_tracked t) (part_tracked e)
  node_tracked (tree.method_call_expr at e name es generics) =
      method_call_tracks at name (part_tracked e) (each_tracked [] es) (args_tracked generics)
  node_tracked (tree.cast_expr at e t) = cast_tracks at (part_tracked e) (type_tracked None t)
  node_tracked (tree.record_expr at p head fs s) =
      record_tracks at p (whole_tracked p) (contents_tracks (fields_tracked [] fs) (spread_tracked s))
  node_tracked (tree.offset_of_expr at t names) = offset_of_tracks at names (type_tracked None t)
  node_tracked (tree.leaving_expr at form e) = value_tracks at _ (present_tracked e)
  node_tracked (tree.become_expr at e) = operand_tracks at _ (part_tracked e)
  node_tracked (tree.yield_expr at e) = yield_tracks at (present_tracked e)
  node_tracked (tree.await_expr at location e) = await_tracks at location (part_tracked e)
  node_tracked (tree.nameless_expr at e) = operand_tracks at _ (part_tracked e)
  node_tracked (tree.let_expr at p e) = let_tracks at (top_tracked p) (part_tracked e)
  node_tracked (tree.match_expr at e arms) = match_tracks at (part_tracked e) (arms_tracked [] arms)
  node_tracked (tree.range_expr at form low high) = range_tracks at form (present_tracked low) (present_tracked high)
  node_tracked (tree.assign_expr at own t e) = assign_tracks at (target_tracked t) (part_tracked e)

  params_tracked : (l : ClosureParams) (xs : Params) → SideOutput (tracked_in_params xs) (lower_params l xs)
  params_tracked l tree.no_params = tracks_pure l
  params_tracked l (tree.more_params x xs) = tracks_then (one_param_tracked l x) (λ m. params_tracked m xs)

  one_param_tracked : (l : ClosureParams) (x : Param) → SideOutput (tracked_in_param x) (lower_param l x)
  one_param_tracked l (tree.disabled_param at by x) = tracks_end (tracks_report _) (λ u. tracks_pure l)
  one_param_tracked l (tree.param p t) = param_tracks l (top_tracked p) (present_type_tracked t)

  pub part_tracked : (e : OptionExpr) → SideOutput (tracked_in_part e) (lower_part e)
  part_tracked tree.no_expr = missing_tracks
  part_tracked (tree.some_expr e) = node_tracked e

  present_tracked : (e : OptionExpr) → SideOutput (tracked_in_part e) (present e)
  present_tracked tree.no_expr = tracks_pure None
  present_tracked (tree.some_expr e) = some_tracks (node_tracked e)

  kept_part_tracked : (e : OptionExpr) → SideOutput (tracked_in_part e) (kept_part e)
  kept_part_tracked tree.no_expr = tracks_pure None
  kept_part_tracked (tree.some_expr e) = kept_tracked e (node_tracked e)

  each_tracked : (done : List ExprId) (es : Exprs) → SideOutput (tracked_in_each es) (lower_each done es)
  each_tracked done tree.no_exprs = tracks_pure done
  each_tracked done (tree.more_exprs e es) = tracks_then (kept_tracked e (node_tracked e)) (λ x. each_tracked _ es)

  fields_tracked : (done : List RecordLitField) (fs : Fields) → SideOutput (tracked_in_fields fs) (lower_fields done fs)
  fields_tracked done tree.no_fields = tracks_pure done
  fields_tracked done (tree.more_fields f fs) = tracks_then (one_field_tracked f) (λ x. fields_tracked _ fs)

  one_field_tracked : (f : Field) → SideOutput (tracked_in_field f) (lower_field f)
  one_field_tracked (tree.disabled_field at by f) = tracks_end (tracks_report _) (λ u. tracks_pure None)
  one_field_tracked (tree.nameless_field at e) = tracks_pure None
  one_field_tracked (tree.named_field at name e) = field_tracks at name (part_tracked e)

  arms_tracked : (done : List MatchArm) (arms : Arms) → SideOutput (tracked_in_arms arms) (lower_arms done arms)
  arms_tracked done tree.no_arms = tracks_pure done
  arms_tracked done (tree.more_arms a arms) = tracks_then (one_arm_tracked a) (λ x. arms_tracked _ arms)

  one_arm_tracked : (a : Arm) → SideOutput (tracked_in_arm a) (lower_arm a)
  one_arm_tracked (tree.disabled_arm at by a) = tracks_end (tracks_report _) (λ u. tracks_pure None)
  one_arm_tracked (tree.arm p e g) = arm_tracks (top_tracked p) (part_tracked e) (guard_tracked g)

  guard_tracked : (g : Guard) → SideOutput (tracked_in_guard g) (lower_guard g)
  guard_tracked tree.no_guard = tracks_pure None
  guard_tracked (tree.guard e) = some_tracks (part_tracked e)

  spread_tracked : (s : Spread) → SideOutput (tracked_in_spread s) (lower_spread s)
  spread_tracked tree.no_spread = tracks_pure _
  spread_tracked tree.field_defaults = tracks_pure _
  spread_tracked (tree.spread_of e) = tracks_end (node_tracked e) (λ i. tracks_pure _)

  block_tracked : (b : Block) → SideOutput (tracked_in_block b) (lower_block b)
  block_tracked (tree.block at is_unsafe label _ number ss e) =
      labelled_tracks label (λ n. block_form_tracks at is_unsafe n number (contents_tracked [] ss (kept_part_tracked e)))

  block_part_tracked : (b : OptionBlock) → SideOutput (tracked_in_block_part b) (lower_block_part b)
  block_part_tracked tree.no_block = missing_tracks
  block_part_tracked (tree.some_block b) = block_tracked b

  present_block_tracked : (b : OptionBlock) → SideOutput (tracked_in_block_part b) (present_block b)
  present_block_tracked tree.no_block = tracks_pure None
  present_block_tracked (tree.some_block b) = some_tracks (block_tracked b)

  contents_tracked : (done : List Statement) (stmts : Stmts) {tail : Lowering (Option ExprId)} {n : Tracking} → SideOutput n tail
      → SideOutput (tracked_in_stmts stmts ⊕ n) (lower_stmts done stmts tail)
  contents_tracked done tree.no_stmts h = tracks_end h (λ t. tracks_pure _)
  contents_tracked done (tree.more_stmts s stmts) {n = n} h =
      tracks_as (sym (both_assoc (tracked_in_stmt s) (tracked_in_stmts stmts) n))
      (tracks_then (stmt_tracked s) (λ x. behind_tracks s (contents_tracked _ stmts h)))

  stmt_tracked : (s : Stmt) → SideOutput (tracked_in_stmt s) (lower_stmt s)
  stmt_tracked (tree.expr_stmt e semi) = tracks_end (kept_part_tracked e) (λ x. tracks_pure _)
  stmt_tracked (tree.disabled_stmt at by s) = tracks_end (tracks_report _) (λ u. tracks_pure None)
  stmt_tracked tree.item_stmt = tracks_pure _
  stmt_tracked (tree.call_stmt c) = tracks_end (tracks_track c) (λ u. tracks_pure None)
  stmt_tracked (tree.macro_stmt k d) = define_tracks k d
  stmt_tracked (tree.let_stmt p t e b) =
      let_stmt_tracks (top_tracked p) (present_type_tracked t) (present_tracked e) (present_block_tracked b)

  pat_tracked : (p : Pat) (t : Table) → SideOutput (tracked_in_pat p) (lower_pat p t)
  pat_tracked (tree.leaf_pat at form) = alone_tracks (tracks_pat _ _)
  pat_tracked (tree.bind_pat at u _ sub) = bind_tracks at u (subpat_tracked sub)
  pat_tracked (tree.name_pat at u _) = alone_tracks (tracks_pat _ _)
  pat_tracked (tree.path_pat at p) = alone_tracks (path_pat_tracks at (whole_tracked p))
  pat_tracked (tree.tuple_struct_pat at p comma ps) = tuple_struct_tracks at comma p (whole_tracked p) (elements_tracked no_elements ps)
  pat_tracked (tree.tuple_pat at comma ps) = tuple_pat_tracks at comma (elements_tracked no_elements ps)
  pat_tracked (tree.record_pat at p fs dots) = record_pat_tracks at dots p (whole_tracked p) (pat_fields_tracked [] fs)
  pat_tracked (tree.or_pat at ps) = alternatives_tracked at ps
  pat_tracked (tree.paren_pat at p) = pat_part_tracked p
  pat_tracked (tree.macro_pat at c tree.no_pat) = alone_tracks (uncalled_pat_tracks at c)
  pat_tracked (tree.macro_pat at c (tree.some_pat p)) = λ t. called_pat_tracks at c (λ r. r.0) (pat_tracked p t)
  pat_tracked (tree.barred_pat at) = alone_tracks (tracks_then (tracks_report _) (λ u. missing_pat_tracks))
  pat_tracked (tree.slice_pat at before middle behind) =
      slice_pat_tracks at (pats_tracked [] before) (subpat_tracked middle) (pats_tracked [] behind)
  pat_tracked (tree.over_pat at form p) = over_pat_tracks at form (pat_part_tracked p)
  pat_tracked (tree.literal_pat at own l) = alone_tracks (literal_pat_tracks at own l)
  pat_tracked (tree.range_pat at op low high) = alone_tracks (range_pat_tracks at op (side_tracked low) (side_tracked high))

  alternatives_tracked : (at : Pointer) (ps : Pats) (t : Table) → SideOutput (tracked_in_pats ps) (lower_alternatives at ps t)
  alternatives_tracked at tree.no_pats = alone_tracks (tracks_pat _ _)
  alternatives_tracked at (tree.more_pats p ps) = or_tracks at (pat_tracked p) (λ done. later_tracked ps done)
  alternatives_tracked at (tree.tracked_pats c ps) = λ t. tracks_then (tracks_emitted c) (λ u. alternatives_tracked at ps t)

  pat_part_tracked : (p : OptionPat) (t : Table) → SideOutput (tracked_in_top p) (pat_part p t)
  pat_part_tracked tree.no_pat = alone_tracks (missing_pat_tracks)
  pat_part_tracked (tree.some_pat p) = pat_tracked p

  subpat_tracked : (p : OptionPat) (t : Table) → SideOutput (tracked_in_top p) (present_pat p t)
  subpat_tracked tree.no_pat t = tracks_pure (None, t)
  subpat_tracked (tree.some_pat p) t = tracks_end (pat_tracked p t) (λ r. tracks_pure _)

  pats_tracked : (done : List PatId) (ps : Pats) (t : Table) → SideOutput (tracked_in_pats ps) (lower_pats done ps t)
  pats_tracked done tree.no_pats t = tracks_pure (done, t)
  pats_tracked done (tree.more_pats p ps) t = tracks_then (pat_tracked p t) (λ r. pats_tracked _ ps r.1)
  pats_tracked done (tree.tracked_pats c ps) t = tracks_then (tracks_emitted c) (λ u. pats_tracked done ps t)

  later_tracked : (ps : Pats) (done : List PatId) (t : Table) → SideOutput (tracked_in_pats ps) (lower_later ps done t)
  later_tracked tree.no_pats done t = tracks_pure (done, t)
  later_tracked (tree.more_pats p ps) done t = tracks_then (pat_tracked p (next_alternative t)) (λ r. later_tracked ps _ r.1)
  later_tracked (tree.tracked_pats c ps) done t = tracks_then (tracks_emitted c) (λ u. later_tracked ps done t)

  elements_tracked : (done : Elements) (ps : Pats) (t : Table) → SideOutput (tracked_in_pats ps) (lower_elements done ps t)
  elements_tracked done tree.no_pats t = tracks_pure (done, t)
  elements_tracked done (tree.more_pats p ps) t =
      tracks_then (element_tracks (forms.is_dots p) done (λ e. dots_tracked_none p e) (pat_tracked p) t)
      (λ r. elements_tracked r.0 ps r.1)
  elements_tracked done (tree.tracked_pats c ps) t = tracks_then (tracks_emitted c) (λ u. elements_tracked done ps t)

  pat_fields_tracked : (done : List RecordFieldPat) (fs : PatFields) (t : Table)
      → SideOutput (tracked_in_pat_fields fs) (lower_pat_fields done fs t)
  pat_fields_tracked done tree.no_pat_fields t = tracks_pure (done, t)
  pat_fields_tracked done (tree.more_pat_fields f fs) t = tracks_then (one_pat_field_tracked f t) (λ r. pat_fields_tracked _ fs r.1)

  one_pat_field_tracked : (f : PatField) (t : Table) → SideOutput (tracked_in_pat_field f) (lower_pat_field f t)
  one_pat_field_tracked (tree.disabled_pat_field at by f) t = tracks_end (tracks_report _) (λ u. tracks_pure (None, t))
  one_pat_field_tracked tree.partless_pat_field t = tracks_pure (None, t)
  one_pat_field_tracked (tree.pat_field at n p) t = pat_field_tracks at n (pat_tracked p) t

  side_tracked : (s : Side) → SideOutput (tracked_in_side s) (lower_side s)
  side_tracked tree.no_side = tracks_pure None
  side_tracked (tree.literal_side at l) = literal_side_tracks at l
  side_tracked (tree.name_side at n _) = name_side_tracks at n
  side_tracked (tree.path_side at p) = path_side_tracks at (whole_tracked p)
  side_tracked tree.other_side = tracks_pure None

  pub top_tracked : (p : OptionPat) → SideOutput (tracked_in_top p) (lower_top p)
  top_tracked tree.no_pat = missing_pat_tracks
  top_tracked (tree.some_pat p) =
      tracks_end (pat_tracked p no_names) (λ r. tracks_end (settle_tracks r.1) (λ u. tracks_pure r.0))

  target_tracked : (t : Target) → SideOutput (tracked_in_target t) (lower_target t)
  target_tracked (tree.absent_target call) = tracks_made_pat _ call
  target_tracked (tree.place_target at e) = place_target_tracks at (node_tracked e)
  target_tracked (tree.macro_target None c t) = tracks_then (tracks_emitted c) (λ u. target_tracked t)
  target_tracked (tree.macro_target (Some at) c t) =
      tracks_then (tracks_emitted c) (λ u. pointed_tracks at (target_tracked t))
  target_tracked (tree.wild_target at) = target_tracks _ at
  target_tracked (tree.path_target at p h) = path_target_tracks at h (aliased_tracks (alias_of p) (path_of (tree.some_path p))
      (tracks_end (at_start (reading_tracked p [] start)) (λ r. tracks_pure _)) (path_is {add = segments p} (path_goes p start)))
  target_tracked (tree.tuple_target at ts) = tuple_target_tracks at (targets_tracked no_elements ts)
  target_tracked (tree.call_target at p ts) = call_target_tracks at p (whole_tracked p) (targets_tracked no_elements ts)
  target_tracked (tree.array_target at before dots behind) =
      array_target_tracks at dots (targets_tracked no_elements before) (targets_tracked no_elements behind)
  target_tracked (tree.record_target at p fs dots spread) =
      record_target_tracks at dots spread p (whole_tracked p) (target_fields_tracked [] fs)

  targets_tracked : (done : Elements) (ts : Targets) → SideOutput (tracked_in_targets ts) (lower_targets done ts)
  targets_tracked done tree.no_targets = tracks_pure done
  targets_tracked done (tree.more_targets t ts) = tracks_then (target_tracked t) (λ i. targets_tracked _ ts)
  targets_tracked done (tree.dots_targets ts) = targets_tracked _ ts
  targets_tracked done (tree.tracked_targets c ts) = tracks_then (tracks_emitted c) (λ u. targets_tracked done ts)

  target_fields_tracked : (done : List RecordFieldPat) (fs : TargetFields)
      → SideOutput (tracked_in_target_fields fs) (lower_target_fields done fs)
  target_fields_tracked done tree.no_target_fields = tracks_pure done
  target_fields_tracked done (tree.more_target_fields f fs) = tracks_then (one_target_field_tracked f) (λ x. target_fields_tracked _ fs)

  one_target_field_tracked : (f : TargetField) → SideOutput (tracked_in_target_field f) (lower_target_field f)
  one_target_field_tracked (tree.disabled_target_field at by) = tracks_end (tracks_report _) (λ u. tracks_pure None)
  one_target_field_tracked tree.partless_target_field = tracks_pure None
  one_target_field_tracked (tree.target_field at n t) = target_field_tracks at n (target_tracked t)

-- theorems

pub types_tracked : TypesTracked
types_tracked binder t b c i d is = tracked_by (type_tracked binder t) b c i d is

pub paths_tracked : PathsTracked
paths_tracked p b c r d is = tracked_by (whole_tracked p) b c r d is

pub bounds_are_tracked : BoundsTracked
bounds_are_tracked x b c r d is = tracked_by (bound_tracked x) b c r d is

pub constants_tracked : ConstantsTracked
constants_tracked x b c r d is = tracked_by (constant_tracked x) b c r d is

pub exprs_tracked : ExprsTracked
exprs_tracked e b c i d is = tracked_by (part_tracked e) b c i d is
