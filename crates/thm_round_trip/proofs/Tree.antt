-- What lowering stores for a tree reads back as what is written: by induction, a line for each kind.
use Rattle.std.proofs.Common.{refl, Option, Some, None, Bool, true, false, List, [], ◌∷◌}
use Rattle.hir_store.specs.declared.ids.PatId.{PatId}
use Rattle.hir_store.specs.declared.ids.TypeRefId.{TypeRefId}
use Rattle.hir_store.specs.declared.pat.Pat.TheVariants as pat
use Rattle.hir_store.specs.declared.name.Name.{Name}
use Rattle.hir_store.specs.declared.path.PathKind.TheVariants as kind
use Rattle.hir_store.specs.declared.path.GenericArg.TheVariants as arg
use Rattle.hir_store.specs.declared.type_ref.TypeRef.TheVariants as ty
use Rattle.hir_store.specs.declared.type_ref.TypeBound.{TypeBound}
use Rattle.hir_store.specs.declared.type_ref.TypeBound.TheVariants as bound
use Rattle.hir_env.specs.ResolvedTree as tree
use Rattle.hir_env.specs.ResolvedTree.{Binder, Type_, OptionType, Parts, Path, OptionPath, Segments, Segment, SegmentArgs, OptionParens}
use Rattle.hir_env.specs.ResolvedTree.{OptionRet, OptionArgs, Args, Arg, Bounds, Bound, Constant, Expr, OptionExpr, Block}
use Rattle.hir_env.specs.ResolvedTree.{Limit, Side, TypePat, OptionTypePat, TypePats}
use Rattle.hir_lower_builder.specs.declared.args.ArgLists.{ArgLists}
use Rattle.hir_lower_builder.specs.declared.walk.PathWalk.{PathWalk}
use Rattle.hir_lower_builder.specs.declared.walk.Reading.TheVariants.{Refused, Open}
use Rattle.hir_lower_builder.specs.Lowering.{◌>>=◌, pure}
use Rattle.hir_lower_builder.specs.Walks as walks
use Rattle.hir_lower_builder.specs.Walks.{start, at_first, missing_name, self_type_name}
use Rattle.hir_lower_builder.specs.Paths.{alias_of, proceed, whole}
use Rattle.hir_lower_builder.specs.Types.{no_lists}
use Rattle.hir_lower_builder.specs.Lower as lower
use Rattle.thm_logic.proofs.Calls.{correct_track_gone}
use Rattle.thm_logic.proofs.Tracked.{correct_aliased}
use Rattle.thm_logic.proofs.Steps.{Correct}
use Rattle.thm_logic.proofs.Keeping.{part_any, present_any, each_any, block_part_any, contents_part_any, contents_any, fields_any}
use Rattle.thm_logic.proofs.Keeping.{any, iteration_any, spread_any, one_type_any, type_any, lower_path_any, args_any, top_any, arms_any}
use Rattle.thm_logic.proofs.Keeping.{condition_any, for_loop_any, target_any, constant_any, rooted_any, params_any, present_type_any}
use Rattle.spec_data.specs.Data as datum
use Rattle.spec_data.specs.Data.{TypesData, no_args}
use Rattle.spec_data.specs.Rule.{broken, named}
use Rattle.spec_data.specs.Written as written
use Rattle.thm_round_trip.proofs.Layers.{a_type, types_before, maybe_type, a_bound, many_bounds, a_list, Reads, value0, Pushed}
use Rattle.thm_round_trip.proofs.Layers.{a_constant}
use Rattle.thm_round_trip.proofs.Calls as calls
use Rattle.thm_round_trip.proofs.Sites as sites
use Rattle.thm_round_trip.proofs.Sites.{From, ends_from, missing_from, owning_from}
use Rattle.thm_round_trip.proofs.Layers.{pushed_all, type0}
use Rattle.thm_round_trip.proofs.Pats.{a_pat, many_pats}
use Rattle.thm_round_trip.proofs.TypePats as pats
use Rattle.thm_round_trip.proofs.TypePats.{a_side, SideIs}
use Rattle.thm_round_trip.proofs.Types as kinds
use Rattle.thm_round_trip.proofs.Types.{Grown, Listed}
use Rattle.thm_round_trip.proofs.Walk.{item, says_named, says_refused, says_root, says_dollar, says_self, one_closed, outer_closed}
use Rattle.thm_round_trip.proofs.Going.{Goes, goes_at_once, then_goes, named_goes, super_goes, anchor_goes, trait_goes}
use Rattle.thm_round_trip.proofs.Going.{PathIs, none_is, path_is, path_type_reads, path_bound_reads}

-- a name without arguments
bare_goes : (l : Bool) (x : Name) (w : PathWalk) → Correct (pure (walks.named x None (at_first l w)))
    (Goes (Open w) (λ is. item l (named (record { name = x; args = no_args })) ∷ is))
bare_goes l x w = goes_at_once (walks.named x None (at_first l w))
    (λ final n is h. says_named final n l is (record { name = x; args = no_args }) None w (λ d le. refl) h)

-- what refuses the path
broken_goes : (l : Bool) (w : PathWalk) → Correct (pure Refused) (Goes (Open w) (λ is. item l broken ∷ is))
broken_goes l w = goes_at_once Refused (λ final n is h. says_refused final n (item l broken) is w refl h)

mutual
  unfolding whole

  -- types

  pub type_reads : (b : Option Binder) (t : Type_) → Correct (lower.lower_type b t) (Reads a_type (written.type_data b t))
  type_reads b (tree.paren_type t) = part_reads b t
  type_reads b (tree.macro_type at c tree.no_type) = calls.uncalled_type_reads at c
  type_reads b (tree.macro_type at c (tree.some_type t)) = calls.called_type_reads at c (type_reads b t)
  type_reads b (tree.for_type binder t) = part_reads (Some binder) t
  type_reads b (tree.leaf_type at l) = kinds.leaf_reads at l
  type_reads b (tree.over_type at u t) = kinds.over_reads at u (part_reads None t)
  type_reads b (tree.array_type at c t) = kinds.array_reads at (constant_reads c) (part_reads None t)
  type_reads b (tree.tuple_type at ps) = kinds.tuple_reads at (pushed_all (parts_read ps datum.no_types []))
  type_reads b (tree.path_type at p) = path_type_reads (written.path_of p) at (path_reads p)
  type_reads b (tree.ref_type at l m t) = kinds.ref_reads at m (part_reads None t) (kinds.lifetime_option_reads l)
  type_reads b (tree.fn_type at h ps r) =
      kinds.fn_reads at b h (ret_reads r) (pushed_all (parts_read ps (datum.more_types (written.ret_data r) datum.no_types) []))
  type_reads b (tree.impl_type at mode bs) = kinds.impl_reads at mode (pushed_all (bounds_read bs []))
  type_reads b (tree.nested_impl at) = type0 ty.Error (Some at) (λ final r. refl)
  type_reads b (tree.dyn_type at bs) = kinds.dyn_reads at (pushed_all (bounds_read bs []))
  type_reads b (tree.pattern_type at t own p) = pats.pattern_type_reads at (part_reads None t) (type_pat_part_reads p)

  pub part_reads : (b : Option Binder) (t : OptionType) → Correct (lower.type_part b t) (Reads a_type (written.part_data b t))
  part_reads b tree.no_type = kinds.error_type_reads
  part_reads b (tree.some_type t) = type_reads b t

  ret_reads : (t : OptionType) → Correct (lower.type_or_unit t) (Reads a_type (written.ret_data t))
  ret_reads tree.no_type = kinds.unit_type_reads
  ret_reads (tree.some_type t) = type_reads None t

  pub present_reads : (t : OptionType) → Correct (lower.present_type t) (Reads maybe_type (written.present_data t))
  present_reads tree.no_type = value0 {l = maybe_type} None (λ final r. refl)
  present_reads (tree.some_type t) = kinds.present_reads (type_reads None t)

  parts_read : (ps : Parts) (behind : TypesData) (done : List TypeRefId)
      → Correct (lower.lower_parts done ps) (Pushed done (Reads (types_before behind) (written.parts_data ps behind)))
  parts_read tree.no_parts behind done = kinds.types_none behind done
  parts_read (tree.more_parts p ps) behind done = kinds.types_more behind (part_reads None p) (parts_read ps behind) done

  -- bounds

  pub bounds_read : (bs : Bounds) (done : List TypeBound)
      → Correct (lower.lower_bounds done bs) (Pushed done (Reads many_bounds (written.bounds_data bs)))
  bounds_read tree.no_bounds done = kinds.bounds_none done
  bounds_read (tree.more_bounds b bs) done = kinds.bounds_more (bound_reads b) (bounds_read bs) done

  pub bound_reads : (b : Bound) → Correct (lower.lower_bound b) (Reads a_bound (written.bound_data b))
  bound_reads tree.error_bound = value0 {l = a_bound} bound.Error (λ final r. refl)
  bound_reads (tree.path_bound at p maybe binder) = path_bound_reads (written.path_of p) at maybe binder (path_reads p)
  bound_reads (tree.lifetime_bound l) = kinds.lifetime_bound_reads l
  bound_reads (tree.use_bound us) = kinds.uses_bound_reads us

  -- arguments

  pub list_reads : (as' : OptionArgs) → Correct (lower.args_part as') (Reads a_list (written.list_data as'))
  list_reads tree.no_arg_list = value0 {l = a_list} None (λ final r. refl)
  list_reads (tree.some_arg_list as') = kinds.list_reads (args_listed as' no_lists)

  args_listed : (as' : Args) (l : ArgLists)
      → Correct (lower.lower_args l as') (Listed l (written.arguments_of as') (written.bindings_of as'))
  args_listed tree.no_args l = kinds.none_listed l
  args_listed (tree.more_args a as') l = kinds.more_listed l (arg_grown a l) (args_listed as')

  arg_grown : (a : Arg) (l : ArgLists) → Correct (lower.lower_arg l a)
      (Grown l (written.put_argument (written.argument_of a)) (written.put_binding (written.binding_of a)))
  arg_grown tree.skipped_arg l = kinds.skipped_grown l
  arg_grown (tree.type_arg t) l = kinds.argument_grown l arg.Type_ datum.type_argument (part_reads None t) (λ final r a. refl)
  arg_grown (tree.lifetime_arg l') l =
      kinds.argument_grown l arg.Lifetime datum.lifetime_argument (kinds.lifetime_reads l') (λ final r a. refl)
  arg_grown (tree.const_arg c) l =
      kinds.argument_grown l arg.Const datum.constant_argument (constant_reads c) (λ final r a. refl)
  arg_grown (tree.assoc_arg n as' dots t bs) l =
      kinds.binding_grown l (kinds.binding_reads n dots (list_reads as') (present_reads t) (pushed_all (bounds_read bs [])))

  parens_reads : (p : OptionParens) → Correct (lower.parens_part p) (Reads a_list (written.parens_data p))
  parens_reads tree.no_parens = value0 {l = a_list} None (λ final r. refl)
  parens_reads (tree.some_parens ps r) = kinds.parens_reads (pushed_all (parts_read ps datum.no_types [])) (output_reads r)

  output_reads : (r : OptionRet) → Correct (lower.output_part r) (Reads a_type (written.output_data r))
  output_reads tree.no_ret = kinds.unit_type_reads
  output_reads (tree.some_ret t) = part_reads None t

  segment_args_reads : (a : SegmentArgs) → Correct (lower.lower_segment_args a) (Reads a_list (written.segment_args_data a))
  segment_args_reads (tree.segment_args as' ps dots) = kinds.segment_args_reads dots (list_reads as') (parens_reads ps)

  -- paths

  pub first_goes : (l : Bool) (s : Segment) (w : PathWalk)
      → Correct (lower.read_segment true s (at_first l w)) (Goes (Open w) (λ is. item l (written.what true s) ∷ is))
  first_goes l tree.absent_segment w = bare_goes l missing_name w
  first_goes l tree.broken_segment w = broken_goes l w
  first_goes l (tree.name_segment n _ a) w = named_goes l n w (segment_args_reads a)
  first_goes l tree.self_type_segment w = bare_goes l self_type_name w
  first_goes l tree.crate_segment w = goes_at_once _ (λ final n is h. says_root final n l is kind.Crate w h)
  first_goes l (tree.dollar_crate_segment c) w = goes_at_once _ (λ final n is h. says_dollar final n l is c w h)
  first_goes l tree.self_segment w = goes_at_once _ (λ final n is h. says_self final n l is w h)
  first_goes l tree.super_segment w = super_goes l w
  first_goes l (tree.type_segment t) w = anchor_goes l w (type_reads None t)
  first_goes l (tree.trait_segment t at p) w = trait_goes (written.path_of p) l at w (type_reads None t) (path_reads p)

  pub behind_goes : (s : Segment) (w : PathWalk)
      → Correct (lower.read_segment false s w) (Goes (Open w) (λ is. item false (written.what false s) ∷ is))
  behind_goes tree.absent_segment w = bare_goes false missing_name w
  behind_goes tree.broken_segment w = broken_goes false w
  behind_goes (tree.name_segment n _ a) w = named_goes false n w (segment_args_reads a)
  behind_goes tree.self_type_segment w = bare_goes false self_type_name w
  behind_goes tree.crate_segment w = broken_goes false w
  behind_goes (tree.dollar_crate_segment c) w = broken_goes false w
  behind_goes tree.self_segment w = broken_goes false w
  behind_goes tree.super_segment w = super_goes false w
  behind_goes (tree.type_segment t) w = broken_goes false w
  behind_goes (tree.trait_segment t at p) w = broken_goes false w

  pub each_goes : (ss : Segments) (w : PathWalk) → Correct (lower.read_each ss w) (Goes (Open w) (written.items ss))
  each_goes tree.no_segments w = goes_at_once (Open w) (λ final n is h. h)
  each_goes (tree.more_segments s ss) w =
      then_goes {add = written.items ss} {more = λ is. item false (written.what false s) ∷ is} (each_goes ss w)
      (λ final n r c is h. one_closed final n r c (item false (written.what false s)) is h) (behind_goes s)

  pub path_goes : (p : Path) (w : PathWalk) → Correct (lower.read_path p w) (Goes (Open w) (written.segments p))
  path_goes (tree.path alias leading first rest use_) w =
      then_goes {add = λ is. item leading (written.what true first) ∷ written.items rest is} {more = written.outer use_}
      (then_goes {add = written.items rest} {more = λ is. item leading (written.what true first) ∷ is} (each_goes rest w)
      (λ final n r c is h. one_closed final n r c (item leading (written.what true first)) is h) (first_goes leading first))
      (λ final n r c is h. outer_closed final n use_ r c is h) (outer_goes use_)

  outer_goes : (p : OptionPath) (w : PathWalk) → Correct (lower.read_option p w) (Goes (Open w) (written.outer p))
  outer_goes tree.no_path w = goes_at_once (Open w) (λ final n is h. h)
  outer_goes (tree.some_path p) w = path_goes p w

  pub path_reads : (p : OptionPath) → Correct (lower.lower_path p) (PathIs (written.path_of p))
  path_reads tree.no_path = none_is
  path_reads (tree.some_path p) = correct_aliased (alias_of p) (path_is {add = written.segments p} (path_goes p start))

  -- patterns of types

  type_pat_reads : (p : TypePat) → Correct (lower.lower_type_pat p) (Reads a_pat (written.type_pat_data p))
  type_pat_reads (tree.not_null_type_pat at) = pats.pattern0 pat.NotNull (Some at) (λ final r. refl)
  type_pat_reads (tree.macro_type_pat at c tree.no_type_pat) = calls.uncalled_pat_reads at c
  type_pat_reads (tree.macro_type_pat at c (tree.some_type_pat p)) = calls.called_type_pat_reads at c (type_pat_reads p)
  type_pat_reads (tree.or_type_pat at ps) = pats.type_alternatives_reads at (pushed_all (type_pats_read ps []))
  type_pat_reads (tree.range_type_pat at start end) = pats.limits_reads at (limit_reads start) (limit_reads end)
  type_pat_reads (tree.other_type_pat at) = pats.pattern0 pat.Missing (Some at) (λ final r. refl)

  type_pat_part_reads : (p : OptionTypePat) → Correct (lower.lower_type_pat_part p) (Reads a_pat (written.type_pat_part_data p))
  type_pat_part_reads tree.no_type_pat = pats.missing_pattern_reads
  type_pat_part_reads (tree.some_type_pat p) = type_pat_reads p

  type_pats_read : (ps : TypePats) (done : List PatId)
      → Correct (lower.lower_type_pats done ps) (Pushed done (Reads many_pats (written.type_pats_data ps)))
  type_pats_read tree.no_type_pats done = pats.patterns_none done
  type_pats_read (tree.more_type_pats p ps) done = pats.patterns_more (type_pat_reads p) (type_pats_read ps) done

  limit_reads : (l : Limit) → Correct (lower.lower_limit l) (Reads a_side (written.limit_data l))
  limit_reads (tree.item_limit i) = pats.inner_reads (pats.item_reads i)
  limit_reads (tree.side_limit s) = pats.inner_reads (pats.side_reads (limit_side_is s))
  limit_reads (tree.before_limit i s) = pats.inner_reads (pats.before_reads i (limit_side_is s))

  limit_side_is : (s : Side) → Correct (lower.limit_side s) (SideIs (written.limit_side s))
  limit_side_is tree.no_side = pats.missing_side_is
  limit_side_is (tree.literal_side at l) = pats.literal_limit_is at l
  limit_side_is (tree.name_side at n _) = pats.name_limit_is at n
  limit_side_is (tree.path_side at p) = pats.path_limit_is (written.path_of p) at (path_reads p)
  limit_side_is tree.other_side = pats.missing_side_is

  -- constants

  constant_reads : (c : Constant) → Correct (lower.lower_constant c) (Reads a_constant (written.constant_site c))
  constant_reads (tree.constant e) = sites.constant_reads (part_from e)

  part_from : (e : OptionExpr) → From (written.part_site e) (lower.lower_part e)
  part_from tree.no_expr = missing_from
  part_from (tree.some_expr e) = expr_from e

  block_from : (b : Block) → From (written.block_site b) (lower.lower_block b)
  block_from (tree.block at is_unsafe label _ number ss e) = sites.labelled_from label
      (λ n. sites.block_form_from at is_unsafe n number (contents_part_any ss e))

  expr_from : (e : Expr) → From (written.expr_site e) (lower.lower e)
  expr_from (tree.disabled_expr why e) = ends_from (correct_track_gone why) (λ u. missing_from)
  expr_from (tree.paren_expr at e) = sites.paren_from at (part_from e)
  expr_from (tree.macro_expr at c tree.no_expr) = calls.uncalled_from at c
  expr_from (tree.macro_expr at c (tree.some_expr e)) = calls.called_from at c (expr_from e)
  expr_from (tree.block_expr b) = block_from b
  expr_from (tree.record_expr at p head fs s) =
      sites.record_from at (written.path_of p) (path_reads p) (contents_any (fields_any [] fs) (spread_any s))
  expr_from (tree.if_expr at c t e) = sites.if_from at (part_any c) (block_part_any t) (present_any e)
  expr_from (tree.loop_expr at label _ b) = sites.loop_from at _ label (block_part_any b)
  expr_from (tree.while_expr at label _ c b) = sites.loop_from at _ label (iteration_any at (condition_any at c) (block_part_any b))
  expr_from (tree.for_expr at items label w p h b) =
      sites.for_from at _ items label _ (part_any h) (top_any p) (λ n q. for_loop_any at items label w n q b)
  expr_from (tree.question_expr at items e) = sites.question_from at items (part_any e)
  expr_from (tree.itemless_expr at) = missing_from
  expr_from (tree.try_expr at item tree.no_type number ss e) = sites.try_from at item false number (contents_part_any ss e)
  expr_from (tree.try_expr at item (tree.some_type t) number ss e) =
      sites.typed_try_from at (any (sites.try_from at item true number (contents_part_any ss e))) (one_type_any None t)
  expr_from (tree.coroutine_expr at kind moves number ss e) =
      owning_from (sites.coroutine_from (sites.coroutine_block_from at kind moves number (contents_part_any ss e)))
  expr_from (tree.call_expr at f has_list es) = sites.call_from at (part_any f) (each_any [] es)
  expr_from (tree.path_expr at p h) = sites.path_from at h (lower_path_any p)
  expr_from (tree.continue_expr at jump) = sites.continue_from at jump
  expr_from (tree.break_expr at jump e) = sites.break_from at jump (present_any e)
  expr_from (tree.literal_expr at l) = sites.alloc_from _ (Some at)
  expr_from (tree.leaf_expr at form) = sites.alloc_from _ (Some at)
  expr_from (tree.unary_expr at form e) = sites.operand_from at _ (part_any e)
  expr_from (tree.binary_expr at form a b) = sites.operands_from at _ (part_any a) (part_any b)
  expr_from (tree.lazy_expr at op a b) = sites.operands_from at _ (part_any a) (part_any b)
  expr_from (tree.list_expr at form es) = sites.list_from at form (each_any [] es)
  expr_from (tree.repeat_expr at e c) = sites.repeat_from at (part_any e) (constant_any c)
  expr_from (tree.const_expr at c) = owning_from (sites.const_from at (rooted_any c))
  expr_from (tree.closure_expr at moves is_static xs t e) = owning_from
      (sites.closure_from at moves is_static (params_any lower.no_closure_params xs) (present_type_any t) (part_any e))
  expr_from (tree.coroutine_closure_expr at kind moves xs t e) = owning_from
      (sites.coroutine_closure_from at kind moves (params_any lower.no_closure_params xs) (present_type_any t) (part_any e))
  expr_from (tree.method_call_expr at e name es as') =
      sites.method_call_from at name (part_any e) (each_any [] es) (args_any as')
  expr_from (tree.leaving_expr at form e) = sites.value_from at _ (present_any e)
  expr_from (tree.become_expr at e) = sites.operand_from at _ (part_any e)
  expr_from (tree.yield_expr at e) = sites.yield_from at (present_any e)
  expr_from (tree.await_expr at location e) = sites.await_from at location (part_any e)
  expr_from (tree.cast_expr at e t) = sites.cast_from at (part_any e) (type_any None t)
  expr_from (tree.offset_of_expr at t names) = sites.offset_of_from at names (type_any None t)
  expr_from (tree.nameless_expr at e) = sites.operand_from at _ (part_any e)
  expr_from (tree.let_expr at p e) = sites.let_from at (top_any p) (part_any e)
  expr_from (tree.match_expr at e arms) = sites.match_from at (part_any e) (arms_any [] arms)
  expr_from (tree.range_expr at form start end) = sites.range_from at form (present_any start) (present_any end)
  expr_from (tree.assign_expr at e t v) = sites.assign_from at (target_any t) (part_any v)

-- the segments of a path, without those of the use tree around it
pub own_goes : (leading : Bool) (first : Segment) (rest : Segments) (w : PathWalk)
    → Correct (lower.read_each rest w >>= (λ r. proceed r (λ v. lower.read_segment true first (at_first leading v))))
    (Goes (Open w) (λ is. item leading (written.what true first) ∷ written.items rest is))
own_goes leading first rest w =
    then_goes {add = written.items rest} {more = λ is. item leading (written.what true first) ∷ is} (each_goes rest w)
    (λ final n r c is h. one_closed final n r c (item leading (written.what true first)) is h) (first_goes leading first)
