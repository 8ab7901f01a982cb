-- Lowering a type or a path records its constants as roots, where no root is being lowered.
use Rattle.std.proofs.Common.{Bool, true, false, List, [], Option, Some, None, is_some}
use Rattle.hir_store.specs.declared.ids.PatId.{PatId}
use Rattle.hir_store.specs.declared.ids.TypeRefId.{TypeRefId}
use Rattle.hir_store.specs.declared.type_ref.TypeBound.{TypeBound}
use Rattle.hir_env.specs.ResolvedTree as tree
use Rattle.hir_env.specs.ResolvedTree.{Binder, Type_, OptionType, Parts, Path, OptionPath, Segments, Segment, SegmentArgs, OptionParens}
use Rattle.hir_env.specs.ResolvedTree.{OptionRet, OptionArgs, Args, Arg, Bounds, Bound, Constant, Limit, OptionTypePat, TypePat}
use Rattle.hir_env.specs.ResolvedTree.{TypePats}
use Rattle.hir_lower_builder.specs.declared.args.ArgLists.{ArgLists}
use Rattle.hir_lower_builder.specs.declared.walk.PathWalk.{PathWalk}
use Rattle.hir_lower_builder.specs.Walks.{start, super_read}
use Rattle.hir_lower_builder.specs.Types.{no_lists}
use Rattle.hir_lower_builder.specs.Lower.{lower_type, type_part, present_type, type_or_unit, lower_parts, read_segment, read_each}
use Rattle.hir_lower_builder.specs.Lower.{read_path}
use Rattle.hir_lower_builder.specs.Lower.{read_option, lower_path, lower_segment_args, parens_part, output_part, args_part, lower_args}
use Rattle.hir_lower_builder.specs.Lower.{lower_arg, lower_bounds, lower_bound, lower_constant, lower_limit, lower_type_pat}
use Rattle.hir_lower_builder.specs.Lower.{lower_type_pat_part, lower_type_pats}
use Rattle.hir_lower_builder.specs.Paths.{alias_of}
use Rattle.thm_logic.specs.PathSeen.{at_first, whole_read}
use Rattle.thm_body_result.specs.Room.{constant_size, type_size, type_part_size, present_size, parts_size, segment_size, segments_size}
use Rattle.thm_body_result.specs.Room.{path_size, outer_size, whole_size, beside_size, parens_size, output_size, args_size, each_arg_size}
use Rattle.thm_body_result.specs.Room.{arg_size, bounds_size, bound_size, limit_size, type_pat_part_size, type_pat_size, type_pats_size}
use Rattle.thm_logic.proofs.PathAnswers.{walk_seen}
use Rattle.thm_body_result.proofs.TreeRooms.{each_emits, own_emits, args_emit}
use Rattle.thm_type_result.proofs.Tracking.{tracks_then, tracks_end, tracks_pure, tracks_type, tracks_constant, tracks_limit, tracks_pat}
use Rattle.thm_type_result.proofs.Tracking.{tracks_aliased, tracks_owning}
use Rattle.thm_type_result.proofs.TrackingForms.{TracksOf, error_tracks, unit_tracks, lifetime_tracks, lifetime_option_tracks, uses_track}
use Rattle.thm_type_result.proofs.TrackingForms.{over_tracks, array_tracks, tuple_tracks, path_type_tracks, ref_tracks, fn_tracks}
use Rattle.thm_type_result.proofs.TrackingForms.{impl_tracks}
use Rattle.thm_type_result.proofs.TrackingForms.{called_pat_tracks, called_type_tracks, uncalled_pat_tracks, uncalled_type_tracks}
use Rattle.thm_type_result.proofs.TrackingForms.{dyn_tracks, path_bound_tracks, reads_track, whole_tracks, first_tracks, counted_tracks}
use Rattle.thm_type_result.proofs.TrackingForms.{with_trait_tracks, parens_tracks, beside_tracks, binding_tracks, alternatives_tracks}
use Rattle.thm_type_result.proofs.TrackingForms.{limits_tracks, missing_pat_tracks, pattern_tracks}

constant_tracks : (c : Constant) → TracksOf (constant_size c) (lower_constant c)
constant_tracks (tree.constant e) = tracks_owning (λ c. c.expr) (tracks_constant e)

-- the end of a range in a type
limit_tracks : (l : Limit) → TracksOf (limit_size l) (lower_limit l)
limit_tracks (tree.item_limit item) = tracks_limit (tree.item_limit item)
limit_tracks (tree.side_limit s) = tracks_limit (tree.side_limit s)
limit_tracks (tree.before_limit item s) = tracks_limit (tree.before_limit item s)

-- patterns of types, whose limits are bodies

mutual
  type_pat_tracks : (p : TypePat) → TracksOf (type_pat_size p) (lower_type_pat p)
  type_pat_tracks (tree.not_null_type_pat at) = tracks_pat _ _
  type_pat_tracks (tree.macro_type_pat at c tree.no_type_pat) = uncalled_pat_tracks at c
  type_pat_tracks (tree.macro_type_pat at c (tree.some_type_pat p)) = called_pat_tracks at c (type_pat_size p) (type_pat_tracks p)
  type_pat_tracks (tree.or_type_pat at ps) = alternatives_tracks at (type_pats_track [] ps)
  type_pat_tracks (tree.range_type_pat at low high) = limits_tracks at (limit_tracks low) (limit_tracks high)
  type_pat_tracks (tree.other_type_pat at) = tracks_pat _ _

  type_pats_track : (done : List PatId) (ps : TypePats) → TracksOf (type_pats_size ps) (lower_type_pats done ps)
  type_pats_track done tree.no_type_pats = tracks_pure done
  type_pats_track done (tree.more_type_pats p ps) = tracks_then (type_pat_tracks p) (λ i. type_pats_track _ ps)

type_pat_part_tracks : (p : OptionTypePat) → TracksOf (type_pat_part_size p) (lower_type_pat_part p)
type_pat_part_tracks tree.no_type_pat = missing_pat_tracks
type_pat_part_tracks (tree.some_type_pat p) = type_pat_tracks p

mutual
  one_type_tracks : (b : Option Binder) (t : Type_) → TracksOf (type_size t) (lower_type b t)
  one_type_tracks b (tree.paren_type t) = type_tracks b t
  one_type_tracks b (tree.macro_type at c tree.no_type) = uncalled_type_tracks at c
  one_type_tracks b (tree.macro_type at c (tree.some_type t)) = called_type_tracks at c (type_size t) (one_type_tracks b t)
  one_type_tracks b (tree.for_type names t) = type_tracks (Some names) t
  one_type_tracks b (tree.leaf_type at form) = tracks_type _ _
  one_type_tracks b (tree.over_type at form t) = over_tracks at form (type_tracks None t)
  one_type_tracks b (tree.array_type at c t) = array_tracks at (constant_tracks c) (type_tracks None t)
  one_type_tracks b (tree.tuple_type at ts) = tuple_tracks at (parts_track [] ts)
  one_type_tracks b (tree.path_type at p) = path_type_tracks at (path_tracks p)
  one_type_tracks b (tree.ref_type at l mutability t) = ref_tracks at mutability (type_tracks None t) (lifetime_option_tracks l)
  one_type_tracks b (tree.fn_type at head ts r) = fn_tracks at b head (or_unit_tracks r) (parts_track [] ts)
  one_type_tracks b (tree.impl_type at mode bs) = impl_tracks at mode (bounds_track [] bs)
  one_type_tracks b (tree.nested_impl at) = tracks_type _ _
  one_type_tracks b (tree.dyn_type at bs) = dyn_tracks at (bounds_track [] bs)
  one_type_tracks b (tree.pattern_type at t own p) = pattern_tracks at (type_tracks None t) (type_pat_part_tracks p)

  pub type_tracks : (b : Option Binder) (t : OptionType) → TracksOf (type_part_size t) (type_part b t)
  type_tracks b tree.no_type = error_tracks
  type_tracks b (tree.some_type t) = one_type_tracks b t

  present_type_tracks : (t : OptionType) → TracksOf (present_size t) (present_type t)
  present_type_tracks tree.no_type = tracks_pure None
  present_type_tracks (tree.some_type t) = tracks_end (one_type_tracks None t) (λ i. tracks_pure (Some i))

  or_unit_tracks : (t : OptionType) → TracksOf (type_part_size t) (type_or_unit t)
  or_unit_tracks tree.no_type = unit_tracks
  or_unit_tracks (tree.some_type t) = one_type_tracks None t

  parts_track : (done : List TypeRefId) (ts : Parts) → TracksOf (parts_size ts) (lower_parts done ts)
  parts_track done tree.no_parts = tracks_pure done
  parts_track done (tree.more_parts t ts) = tracks_then (type_tracks None t) (λ i. parts_track _ ts)

  segment_tracks : (first : Bool) (s : Segment) (w : PathWalk) → TracksOf (segment_size first s (walk_seen w)) (read_segment first s w)
  segment_tracks first tree.absent_segment w = tracks_pure _
  segment_tracks first tree.broken_segment w = tracks_pure _
  segment_tracks first (tree.name_segment n _ as') w = tracks_end (segment_args_track as') (λ a. tracks_pure _)
  segment_tracks first tree.self_type_segment w = tracks_pure _
  segment_tracks false tree.crate_segment w = tracks_pure _
  segment_tracks true tree.crate_segment w = tracks_pure _
  segment_tracks false (tree.dollar_crate_segment root) w = tracks_pure _
  segment_tracks true (tree.dollar_crate_segment root) w = tracks_pure _
  segment_tracks false tree.self_segment w = tracks_pure _
  segment_tracks true tree.self_segment w = tracks_pure _
  segment_tracks first tree.super_segment w = counted_tracks (super_read w)
  segment_tracks false (tree.type_segment t) w = tracks_pure _
  segment_tracks true (tree.type_segment t) w = tracks_end (one_type_tracks None t) (λ i. tracks_pure _)
  segment_tracks false (tree.trait_segment t at p) w = tracks_pure _
  segment_tracks true (tree.trait_segment t at p) w =
      tracks_then (one_type_tracks None t) (λ i. with_trait_tracks (is_some (whole_read p)) (path_tracks p) i at w)

  segments_track : (ss : Segments) (w : PathWalk) → TracksOf (segments_size ss (walk_seen w)) (read_each ss w)
  segments_track tree.no_segments w = tracks_pure _
  segments_track (tree.more_segments s ss) w =
      reads_track (λ y. segment_size false s y) (segments_track ss w) (each_emits ss w) (λ v. segment_tracks false s v)

  reading_tracks : (p : Path) (w : PathWalk) → TracksOf (path_size p (walk_seen w)) (read_path p w)
  reading_tracks (tree.path alias leading first rest use_) w =
      whole_tracks (λ y. outer_size use_ y)
      (reads_track (λ y. segment_size true first (at_first leading y)) (segments_track rest w) (each_emits rest w)
      (λ v. first_tracks leading v (λ y. segment_size true first y) {f = λ u. read_segment true first u}
      (λ u. segment_tracks true first u)))
      (own_emits leading first rest w) (λ v. outer_tracks use_ v)

  outer_tracks : (p : OptionPath) (w : PathWalk) → TracksOf (outer_size p (walk_seen w)) (read_option p w)
  outer_tracks tree.no_path w = tracks_pure _
  outer_tracks (tree.some_path p) w = reading_tracks p w

  pub path_tracks : (p : OptionPath) → TracksOf (whole_size p) (lower_path p)
  path_tracks tree.no_path = tracks_pure None
  path_tracks (tree.some_path p) = tracks_aliased (alias_of p) (tracks_end (reading_tracks p start) (λ r. tracks_pure _))

  segment_args_track : (as' : SegmentArgs) → TracksOf (beside_size as') (lower_segment_args as')
  segment_args_track (tree.segment_args as' ps dots) =
      beside_tracks (parens_size ps) (args_track as') (args_emit as') (parens_part_tracks ps) dots

  parens_part_tracks : (ps : OptionParens) → TracksOf (parens_size ps) (parens_part ps)
  parens_part_tracks tree.no_parens = tracks_pure None
  parens_part_tracks (tree.some_parens ts r) = parens_tracks (parts_track [] ts) (output_tracks r)

  output_tracks : (r : OptionRet) → TracksOf (output_size r) (output_part r)
  output_tracks tree.no_ret = unit_tracks
  output_tracks (tree.some_ret t) = type_tracks None t

  args_track : (as' : OptionArgs) → TracksOf (args_size as') (args_part as')
  args_track tree.no_arg_list = tracks_pure None
  args_track (tree.some_arg_list as') = tracks_end (each_arg_tracks no_lists as') (λ l. tracks_pure _)

  each_arg_tracks : (l : ArgLists) (as' : Args) → TracksOf (each_arg_size as') (lower_args l as')
  each_arg_tracks l tree.no_args = tracks_pure l
  each_arg_tracks l (tree.more_args a as') = tracks_then (arg_tracks l a) (λ m. each_arg_tracks m as')

  arg_tracks : (l : ArgLists) (a : Arg) → TracksOf (arg_size a) (lower_arg l a)
  arg_tracks l tree.skipped_arg = tracks_pure l
  arg_tracks l (tree.type_arg t) = tracks_end (type_tracks None t) (λ i. tracks_pure _)
  arg_tracks l (tree.lifetime_arg x) = tracks_end (lifetime_tracks x) (λ i. tracks_pure _)
  arg_tracks l (tree.const_arg c) = tracks_end (constant_tracks c) (λ x. tracks_pure _)
  arg_tracks l (tree.assoc_arg name as' dots t bs) =
      tracks_end (binding_tracks name dots (args_track as') (present_type_tracks t) (bounds_track [] bs)) (λ b. tracks_pure _)

  bounds_track : (done : List TypeBound) (bs : Bounds) → TracksOf (bounds_size bs) (lower_bounds done bs)
  bounds_track done tree.no_bounds = tracks_pure done
  bounds_track done (tree.more_bounds b bs) = tracks_then (bound_tracks b) (λ x. bounds_track _ bs)

  bound_tracks : (b : Bound) → TracksOf (bound_size b) (lower_bound b)
  bound_tracks tree.error_bound = tracks_pure _
  bound_tracks (tree.path_bound at p maybe binder) = path_bound_tracks at maybe binder (is_some (whole_read p)) (path_tracks p)
  bound_tracks (tree.lifetime_bound l) = tracks_end (lifetime_tracks l) (λ i. tracks_pure _)
  bound_tracks (tree.use_bound us) = tracks_end (uses_track [] us) (λ xs. tracks_pure _)
