-- What is told of a tree holds of its lowering, for each claim that is closed under steps: by induction, a line for each kind.
use Rattle.std.proofs.Common.{◌≡◌, ◌∙◌, refl, sym, ap, subst, Bool, true, false, ◌||◌, List, [], ◌∷◌, ◌++◌, length, Option, Some, None}
use Rattle.std.proofs.Common.{append-nil, append_assoc}
use Rattle.hir_store.specs.Pointers.{Pointer}
use Rattle.hir_store.specs.declared.hir.MatchArm.{MatchArm}
use Rattle.hir_store.specs.declared.hir.RecordLitField.{RecordLitField}
use Rattle.hir_store.specs.declared.hir.Statement.{Statement}
use Rattle.hir_store.specs.declared.ids.BlockId.{BlockId}
use Rattle.hir_store.specs.declared.ids.ExprId.{ExprId}
use Rattle.hir_store.specs.declared.ids.LangItemId.{LangItemId}
use Rattle.hir_store.specs.declared.ids.PatId.{PatId}
use Rattle.hir_store.specs.declared.ids.TypeRefId.{TypeRefId}
use Rattle.hir_store.specs.declared.pat.RecordFieldPat.{RecordFieldPat}
use Rattle.hir_store.specs.declared.type_ref.TypeBound.{TypeBound}
use Rattle.hir_env.specs.ResolvedTree as tree
use Rattle.hir_env.specs.ResolvedTree.{Binder, Type_, OptionType, Parts, Path, OptionPath, Segments, Segment, SegmentArgs, OptionParens}
use Rattle.hir_env.specs.ResolvedTree.{OptionRet, OptionArgs, Args, Arg, Bounds, Bound, Side, TypePat, OptionTypePat, TypePats, Limit}
use Rattle.hir_env.specs.ResolvedTree.{Pat, OptionPat, Pats, PatFields, PatField, Target, Targets, TargetFields, TargetField, Constant}
use Rattle.hir_env.specs.ResolvedTree.{Expr}
use Rattle.hir_env.specs.ResolvedTree.{OptionExpr, Exprs, Fields, Field, Spread, Block, OptionBlock, Stmts, Stmt, Arms, Arm, Guard}
use Rattle.hir_env.specs.ResolvedTree.{Param, Params}
use Rattle.hir_env.specs.Conditions.{holds_let}
use Rattle.hir_env.specs.Targets.{head_pointer}
use Rattle.spec_data.specs.Data.{no_types}
use Rattle.spec_data.specs.Patterns.{dots_among}
use Rattle.spec_data.specs.Targets.{target_dots}
use Rattle.spec_data.specs.Uses.{FirstUses}
use Rattle.spec_data.specs.Written.{part_data, parts_data, path_of, type_data}
use Rattle.hir_lower_builder.specs.declared.args.ArgLists.{ArgLists}
use Rattle.hir_lower_builder.specs.declared.closures.ClosureParams.{ClosureParams}
use Rattle.hir_lower_builder.specs.declared.walk.PathWalk.{PathWalk}
use Rattle.hir_lower_builder.specs.Walks as walks
use Rattle.hir_lower_builder.specs.Walks.{start}
use Rattle.hir_lower_builder.specs.Types.{no_lists}
use Rattle.hir_lower_builder.specs.Pats.{Elements, next_alternative, no_elements, no_names}
use Rattle.hir_lower_builder.specs.Targets.{add_target, add_target_dots}
use Rattle.hir_lower_builder.specs.Lower.{lower_type, type_part, present_type, type_or_unit, lower_parts, read_segment, read_each}
use Rattle.hir_lower_builder.specs.Lower.{read_path}
use Rattle.hir_lower_builder.specs.Lower.{read_option, lower_path, lower_segment_args, parens_part, output_part, args_part, lower_args}
use Rattle.hir_lower_builder.specs.Lower.{lower_arg, lower_bounds, lower_bound, lower_type_pat, lower_type_pat_part, lower_type_pats}
use Rattle.hir_lower_builder.specs.Lower.{lower_limit, limit_side, lower_side, lower_top, lower_pat, pat_part, present_pat, lower_pats}
use Rattle.hir_lower_builder.specs.Lower.{lower_elements, lower_alternatives, lower_later, lower_pat_fields, lower_pat_field, lower_target}
use Rattle.hir_lower_builder.specs.Lower.{lower_targets, lower_target_fields, lower_target_field, lower_constant, lower_rooted, lower}
use Rattle.hir_lower_builder.specs.Lower.{lower_params, lower_param, lower_part, present, kept_part, lower_each, lower_fields, lower_field}
use Rattle.hir_lower_builder.specs.Lower.{lower_arms, lower_arm, lower_guard, lower_spread, lower_block, lower_block_part, present_block}
use Rattle.hir_lower_builder.specs.Lower.{lower_stmts, lower_stmt, no_closure_params, try_block_form}
use Rattle.hir_lower_builder.specs.Lowering.{Lowering}
use Rattle.hir_lower_builder.specs.Paths.{alias_of}
use Rattle.spec_semantics.specs.Left.{is_left, gives_value}
use Rattle.thm_logic.proofs.TupleDots.{dots_behind, no_dots, dots_here, one_further}
use Rattle.thm_logic.specs.PathSeen.{at_first, found, segment_read, segments_read, path_read, outer_read, whole_read}
use Rattle.thm_logic.specs.PathSeen.{any_arg, yields}
use Rattle.thm_logic.specs.PatNames.{names_after, names_after_part, names_after_each, names_after_fields, names_after_field}
use Rattle.thm_logic.proofs.PathAnswers.{walk_seen, seen_read, seen_named, seen_dollar, seen_self, Gives, GivesPath, Yields, Fills, full}
use Rattle.thm_logic.proofs.PathAnswers.{full_arg, full_binding, yields_full, or_nothing}
use Rattle.thm_logic.proofs.PatAnswers.{none_keyed, from_none}
use Rattle.thm_logic.specs.Grading.{Grading, grade_try}
use Rattle.thm_logic.specs.Grades as g
use Rattle.thm_logic.proofs.Graded.{Graded, Emitted, next, made_next, map_is, emitted_any, emitted_less, emitted_map, emitted_pure}
use Rattle.thm_logic.proofs.Graded.{emitted_then}
use Rattle.thm_logic.proofs.Graded.{emitted_aliased, emitted_last, hand_pure, hand_as, hand_less, hand_then, hand_map, hand_last}
use Rattle.thm_logic.proofs.Graded.{pat_hands, pat_next}
use Rattle.thm_logic.proofs.GradedTypes as forms
use Rattle.thm_logic.proofs.GradedPats as pats
use Rattle.thm_logic.proofs.GradedPats.{PatMade, PatEmitted, PartsEmitted, LaterEmitted}
use Rattle.thm_logic.proofs.GradedTargets as targets
use Rattle.thm_logic.proofs.GradedTargets.{TargetsEmitted}
use Rattle.thm_logic.proofs.GradedCalls as calls
use Rattle.thm_logic.proofs.GradedExprs as exprs
use Rattle.thm_logic.proofs.GradedMade as made
use Rattle.thm_logic.proofs.Giving.{stmts_value}

-- an argument that isn't left out fills the lists
abbrev is_there : Arg → Bool
is_there tree.skipped_arg = false
is_there _ = true

there_or : (a : Arg) (as' : Args) (b : Bool) → ((b || is_there a) || any_arg as') ≡ (b || any_arg (tree.more_args a as'))
there_or tree.skipped_arg as' b = ap (λ x. x || any_arg as') (sym (or_nothing b))
there_or (tree.type_arg t) as' true = refl
there_or (tree.type_arg t) as' false = refl
there_or (tree.lifetime_arg l) as' true = refl
there_or (tree.lifetime_arg l) as' false = refl
there_or (tree.const_arg c) as' true = refl
there_or (tree.const_arg c) as' false = refl
there_or (tree.assoc_arg n xs dots t bs) as' true = refl
there_or (tree.assoc_arg n xs dots t bs) as' false = refl

or_true : (b : Bool) → true ≡ (b || true)
or_true true = refl
or_true false = refl

module _ {ℓ} {S : Grading {ℓ}} (L : Graded S) where
  -- the first segment, with the `::` in front of it
  first_graded : (leading : Bool) (s : Segment) (w : PathWalk)
      → ((v : PathWalk) → Emitted L (g.grade_segment S true s (walk_seen v)) (Gives (segment_read true s (walk_seen v)))
      (read_segment true s v))
      → Emitted L (g.grade_segment S true s (at_first leading (walk_seen w))) (Gives (segment_read true s (at_first leading (walk_seen w))))
      (read_segment true s (walks.at_first leading w))
  first_graded true s w h = h (walks.at_first true w)
  first_graded false s w h = h w

  filled : (l : ArgLists) {h : S.G} {p : Lowering ArgLists} → Emitted L h (Fills true) p → Emitted L h (Fills (full l || true)) p
  filled l {h = h} {p = p} x = subst (λ b. Emitted L h (Fills b) p) (or_true (full l)) x

  -- the place of dots among all
  all_targets : (ts : Targets) {h : S.G}
      → Emitted L {A = Elements} h (λ r. r.1 ≡ dots_behind 0 None (target_dots ts)) (lower_targets no_elements ts)
      → TargetsEmitted L h (target_dots ts) (lower_targets no_elements ts)
  all_targets ts h = emitted_less L (λ r e. e ∙ from_none (target_dots ts)) h

  try_graded : (at : Pointer) (item : Option LangItemId) (typed : Bool) (number : Option BlockId) (ss : Stmts) (e : OptionExpr) {h : S.G}
      → L.Claim h (lower_stmts [] ss (kept_part e))
      → L.Made (grade_try S typed number ss e h) (try_block_form at item typed number (lower_stmts [] ss (kept_part e)))
  try_graded at item typed number ss e h = made.try_block_graded L at item typed number (is_left e || gives_value ss false)
      (record { claim = h; known = stmts_value ss e })

  -- a type reads back as it is written
  type_emitted : (b : Option Binder) (t : Type_) {h : S.G} → L.MadeType (type_data b t) h (lower_type b t) → L.Claim h (lower_type b t)
  type_emitted b t h = L.type_made_is (L.reads.type_reads b t) h

  mutual
    -- types, paths, arguments and bounds

    pub type_made : (b : Option Binder) (t : Type_) → L.MadeType (type_data b t) (g.grade_type_in S b t) (lower_type b t)
    type_made b (tree.paren_type t) = part_made b t
    type_made b (tree.macro_type at c tree.no_type) = calls.uncalled_type_graded L at c
    type_made b (tree.macro_type at c (tree.some_type t)) = calls.called_type_graded L at c (type_made b t)
    type_made b (tree.for_type names t) = part_made (Some names) t
    type_made b (tree.leaf_type at form) = L.type_is _ _ _
    type_made b (tree.over_type at form t) = forms.over_graded L at _ form (part_graded None t)
    type_made b (tree.array_type at c t) = forms.array_graded L at _ (constant_graded c) (part_graded None t)
    type_made b (tree.tuple_type at ts) = forms.tuple_graded L at _ (parts_graded [] ts)
    type_made b (tree.path_type at p) = forms.path_type_graded L at _ (path_graded p).claim
    type_made b (tree.ref_type at l mutability t) =
        forms.ref_graded L at _ mutability (part_graded None t) (forms.lifetime_option_graded L l)
    type_made b (tree.fn_type at head ts r) = forms.fn_graded L at _ b head (or_unit_graded r) (parts_graded [] ts)
    type_made b (tree.impl_type at mode bs) = forms.impl_graded L at _ mode (bounds_graded [] bs)
    type_made b (tree.nested_impl at) = L.type_is _ _ _
    type_made b (tree.dyn_type at bs) = forms.dyn_graded L at _ (bounds_graded [] bs)
    type_made b (tree.pattern_type at t own p) =
        forms.pattern_type_graded L at _ (part_graded None t) (L.pat_made_is (type_pat_part_graded p))

    part_made : (b : Option Binder) (t : OptionType) → L.MadeType (part_data b t) (g.grade_part_in S b t) (type_part b t)
    part_made b tree.no_type = forms.error_made L
    part_made b (tree.some_type t) = type_made b t

    pub part_graded : (b : Option Binder) (t : OptionType) → L.Claim (g.grade_part_in S b t) (type_part b t)
    part_graded b tree.no_type = forms.error_graded L
    part_graded b (tree.some_type t) = type_emitted b t (type_made b t)

    pub present_graded : (t : OptionType) → L.Claim (g.grade_present S t) (present_type t)
    present_graded tree.no_type = L.pure_is None
    present_graded (tree.some_type t) = map_is L _ (type_emitted None t (type_made None t))

    or_unit_graded : (t : OptionType) → L.Claim (g.grade_ret S t) (type_or_unit t)
    or_unit_graded tree.no_type = forms.unit_graded L
    or_unit_graded (tree.some_type t) = type_emitted None t (type_made None t)

    parts_graded : (done : List TypeRefId) (ts : Parts) → L.Claim (g.grade_parts S ts) (lower_parts done ts)
    parts_graded done tree.no_parts = L.pure_is done
    parts_graded done (tree.more_parts t ts) = next L (part_graded None t) (λ i. parts_graded _ ts)

    pub segment_graded : (first : Bool) (s : Segment) (w : PathWalk)
        → Emitted L (g.grade_segment S first s (walk_seen w)) (Gives (segment_read first s (walk_seen w))) (read_segment first s w)
    segment_graded first tree.absent_segment w = emitted_pure L _ (seen_named walks.missing_name None w)
    segment_graded first tree.broken_segment w = emitted_pure L _ refl
    segment_graded first (tree.name_segment n _ as') w =
        emitted_last L _ (segment_args_graded as') (λ a. seen_named n a w)
    segment_graded first tree.self_type_segment w = emitted_pure L _ (seen_named walks.self_type_name None w)
    segment_graded false tree.crate_segment w = emitted_pure L _ refl
    segment_graded true tree.crate_segment w = emitted_pure L _ refl
    segment_graded false (tree.dollar_crate_segment root) w = emitted_pure L _ refl
    segment_graded true (tree.dollar_crate_segment root) w = emitted_pure L _ (seen_dollar root w)
    segment_graded false tree.self_segment w = emitted_pure L _ refl
    segment_graded true tree.self_segment w = emitted_pure L _ (seen_self w)
    segment_graded first tree.super_segment w = forms.counted_graded L w
    segment_graded false (tree.type_segment t) w = emitted_pure L _ refl
    segment_graded true (tree.type_segment t) w = emitted_last L _ (type_emitted None t (type_made None t)) (λ i. refl)
    segment_graded false (tree.trait_segment t at p) w = emitted_pure L _ refl
    segment_graded true (tree.trait_segment t at p) w =
        emitted_then L (emitted_any L (type_emitted None t (type_made None t)))
        (λ i u. forms.trait_graded L (path_of p) i at w (path_graded p) (L.reads.path_reads p))

    pub segments_graded : (ss : Segments) (w : PathWalk)
        → Emitted L (g.grade_segments S ss (walk_seen w)) (Gives (segments_read ss (walk_seen w))) (read_each ss w)
    segments_graded tree.no_segments w = emitted_pure L _ refl
    segments_graded (tree.more_segments s ss) w = emitted_then L (segments_graded ss w) (λ r e.
        forms.proceed_graded L r (segments_read ss (walk_seen w)) (λ y. g.grade_segment S false s y) (λ y. segment_read false s y) e
        (λ v. segment_graded false s v))

    pub reading_graded : (p : Path) (w : PathWalk)
        → Emitted L (g.grade_path S p (walk_seen w)) (Gives (path_read p (walk_seen w))) (read_path p w)
    reading_graded (tree.path alias leading first rest use_) w =
        forms.whole_graded L (λ y. g.grade_outer S use_ y) (λ y. outer_read use_ y)
        (emitted_then L (segments_graded rest w) (λ r e.
        forms.proceed_graded L r (segments_read rest (walk_seen w)) (λ y. g.grade_segment S true first (at_first leading y))
        (λ y. segment_read true first (at_first leading y)) e
        (λ v. first_graded leading first v (λ u. segment_graded true first u))))
        (λ v. outer_graded use_ v)

    outer_graded : (p : OptionPath) (w : PathWalk)
        → Emitted L (g.grade_outer S p (walk_seen w)) (Gives (outer_read p (walk_seen w))) (read_option p w)
    outer_graded tree.no_path w = emitted_pure L _ refl
    outer_graded (tree.some_path p) w = reading_graded p w

    pub path_graded : (p : OptionPath) → Emitted L (g.grade_whole S p) (GivesPath (whole_read p)) (lower_path p)
    path_graded tree.no_path = emitted_pure L _ refl
    path_graded (tree.some_path p) =
        emitted_aliased L (alias_of p) (emitted_map L _ (reading_graded p start) (λ r e. seen_read r ∙ ap found e))

    segment_args_graded : (as' : SegmentArgs) → L.Claim (g.grade_beside S as') (lower_segment_args as')
    segment_args_graded (tree.segment_args as' ps dots) = forms.beside_graded L (args_graded as') (parens_graded ps) dots

    parens_graded : (ps : OptionParens) → L.Claim (g.grade_parens S ps) (parens_part ps)
    parens_graded tree.no_parens = L.pure_is None
    parens_graded (tree.some_parens ts r) =
        forms.parens_graded L (parts_data ts no_types) (parts_graded [] ts) (L.reads.parts_read ts) (output_graded r)

    output_graded : (r : OptionRet) → L.Claim (g.grade_output S r) (output_part r)
    output_graded tree.no_ret = forms.unit_graded L
    output_graded (tree.some_ret t) = part_graded None t

    pub args_graded : (as' : OptionArgs) → Emitted L (g.grade_args S as') (Yields (yields as')) (args_part as')
    args_graded tree.no_arg_list = emitted_pure L _ refl
    args_graded (tree.some_arg_list as') = emitted_map L _ (each_graded as' no_lists) (λ l e. yields_full l ∙ e)

    each_graded : (as' : Args) (l : ArgLists) → Emitted L (g.grade_each S as') (Fills (full l || any_arg as')) (lower_args l as')
    each_graded tree.no_args l = emitted_pure L l (or_nothing (full l))
    each_graded (tree.more_args a as') l = emitted_then L (arg_graded l a) (λ m e.
        subst (λ b. Emitted L (g.grade_each S as') (Fills b) (lower_args m as')) (ap (λ x. x || any_arg as') e ∙ there_or a as' (full l))
        (each_graded as' m))

    arg_graded : (l : ArgLists) (a : Arg) → Emitted L (g.grade_arg S a) (Fills (full l || is_there a)) (lower_arg l a)
    arg_graded l tree.skipped_arg = emitted_pure L l (or_nothing (full l))
    arg_graded l (tree.type_arg t) = filled l (emitted_last L _ (part_graded None t) (λ i. full_arg l _))
    arg_graded l (tree.lifetime_arg x) = filled l (emitted_last L _ (forms.lifetime_graded L x) (λ i. full_arg l _))
    arg_graded l (tree.const_arg c) = filled l (emitted_last L _ (constant_graded c) (λ x. full_arg l _))
    arg_graded l (tree.assoc_arg n as' dots t bs) = filled l (emitted_last L _
        (forms.binding_graded L n dots (args_graded as').claim (present_graded t) (bounds_graded [] bs)) (λ b. full_binding l b))

    bounds_graded : (done : List TypeBound) (bs : Bounds) → L.Claim (g.grade_bounds S bs) (lower_bounds done bs)
    bounds_graded done tree.no_bounds = L.pure_is done
    bounds_graded done (tree.more_bounds b bs) = next L (bound_graded b) (λ x. bounds_graded _ bs)

    pub bound_graded : (b : Bound) → L.Claim (g.grade_bound S b) (lower_bound b)
    bound_graded tree.error_bound = L.pure_is _
    bound_graded (tree.path_bound at p maybe binder) =
        forms.path_bound_graded L (path_of p) at maybe binder (path_graded p) (L.reads.path_reads p)
    bound_graded (tree.lifetime_bound l) = map_is L _ (forms.lifetime_graded L l)
    bound_graded (tree.use_bound us) = map_is L _ (forms.uses_graded L [] us)

    -- patterns of types

    pub type_pat_graded : (p : TypePat) → L.MadePat (g.grade_type_pat S p) (lower_type_pat p)
    type_pat_graded (tree.not_null_type_pat at) = L.pat_is _ _
    type_pat_graded (tree.macro_type_pat at c tree.no_type_pat) = calls.uncalled_pat_graded L at c
    type_pat_graded (tree.macro_type_pat at c (tree.some_type_pat p)) =
        calls.called_type_pat_graded L at c (type_pat_graded p)
    type_pat_graded (tree.or_type_pat at ps) = pats.type_alternatives_graded L at (type_pats_graded [] ps)
    type_pat_graded (tree.range_type_pat at low high) = pats.limits_graded L at (limit_graded low) (limit_graded high)
    type_pat_graded (tree.other_type_pat at) = L.pat_is _ _

    pub type_pat_part_graded : (p : OptionTypePat) → L.MadePat (g.grade_type_pat_part S p) (lower_type_pat_part p)
    type_pat_part_graded tree.no_type_pat = pats.missing_pat_graded L
    type_pat_part_graded (tree.some_type_pat p) = type_pat_graded p

    type_pats_graded : (done : List PatId) (ps : TypePats) → L.Claim (g.grade_type_pats S ps) (lower_type_pats done ps)
    type_pats_graded done tree.no_type_pats = L.pure_is done
    type_pats_graded done (tree.more_type_pats p ps) = next L (L.pat_made_is (type_pat_graded p)) (λ i. type_pats_graded _ ps)

    limit_graded : (l : Limit) → L.Claim (g.grade_limit S l) (lower_limit l)
    limit_graded (tree.item_limit item) = L.inner_is (tree.item_limit item) (pats.item_graded L item)
    limit_graded (tree.side_limit s) = L.inner_is (tree.side_limit s) (limit_side_graded s)
    limit_graded (tree.before_limit item s) = L.inner_is (tree.before_limit item s) (pats.before_graded L item (limit_side_graded s))

    limit_side_graded : (s : Side) → L.Made (g.grade_limit_side S s) (limit_side s)
    limit_side_graded tree.no_side = exprs.missing_graded L
    limit_side_graded (tree.literal_side at l) = pats.literal_limit_graded L at l
    limit_side_graded (tree.name_side at n _) = pats.name_limit_graded L at n
    limit_side_graded (tree.path_side at p) = pats.path_limit_graded L at (path_graded p).claim
    limit_side_graded tree.other_side = exprs.missing_graded L

    -- patterns

    pub pat_graded : (p : Pat) (us : FirstUses) → PatMade L (g.grade_pat S p us) us (names_after p us) (lower_pat p)
    pat_graded (tree.leaf_pat at form) us = pats.alone_graded L us (L.pat_is _ _)
    pat_graded (tree.bind_pat at u is sub) us = pats.bind_graded L at u is (subpat_graded sub us)
    pat_graded (tree.name_pat at u _) us = pats.alone_graded L us (L.pat_is _ _)
    pat_graded (tree.path_pat at p) us = pats.alone_graded L us (pats.path_pat_graded L at (path_graded p).claim)
    pat_graded (tree.tuple_struct_pat at p comma ps) us =
        pats.tuple_struct_graded L at comma (path_graded p) (pats.all_parts L (elements_graded ps us))
    pat_graded (tree.tuple_pat at comma ps) us = pats.tuple_pat_graded L at comma (pats.all_parts L (elements_graded ps us))
    pat_graded (tree.record_pat at p fs dots) us = pats.record_pat_graded L at dots (path_graded p) (pat_fields_graded fs us [])
    pat_graded (tree.or_pat at ps) us = alternatives_graded at ps us
    pat_graded (tree.paren_pat at p) us = pat_part_graded p us
    pat_graded (tree.macro_pat at c tree.no_pat) us = pats.alone_graded L us (calls.uncalled_pat_graded L at c)
    pat_graded (tree.macro_pat at c (tree.some_pat p)) us = calls.called_pat_graded L at c (pat_graded p us)
    pat_graded (tree.barred_pat at) us = pats.alone_graded L us (pat_next L (L.fault_is _) (λ u. pats.missing_pat_graded L))
    pat_graded (tree.slice_pat at before middle behind) us =
        pats.slice_graded L at (pats_graded before us []) (subpat_graded middle (names_after_each before us))
        (pats_graded behind (names_after_part middle (names_after_each before us)) [])
    pat_graded (tree.over_pat at form p) us = pats.over_pat_graded L at form (pats.only_names L (pat_part_graded p us))
    pat_graded (tree.literal_pat at own l) us = pats.alone_graded L us (pats.literal_pat_graded L at own l)
    pat_graded (tree.range_pat at op low high) us =
        pats.alone_graded L us (pats.range_pat_graded L at op (side_graded low) (side_graded high))

    alternatives_graded : (at : Pointer) (ps : Pats) (us : FirstUses)
        → PatMade L (g.grade_alternatives S at ps us) us (names_after_each ps us) (lower_alternatives at ps)
    alternatives_graded at tree.no_pats us = pats.alone_graded L us (L.pat_is _ _)
    alternatives_graded at (tree.more_pats p ps) us =
        pats.or_graded L at ps (pat_graded p us) (later_graded ps (names_after p us))
    alternatives_graded at (tree.tracked_pats c ps) us = λ t k. calls.emitted_pat L c (alternatives_graded at ps us t k)

    later_graded : (ps : Pats) (us : FirstUses)
        → LaterEmitted L (g.grade_pats S ps us) us (names_after_each ps us) ps (λ done t. lower_later ps done t)
    later_graded tree.no_pats us done t k = hand_pure L done t refl (k, ([], sym (append-nil done), tt))
    later_graded (tree.more_pats p ps) us done t k =
        let now = pat_graded p us (next_alternative t) (record { each = k.each }) in
        hand_then L (hand_as L (next_alternative t) refl (pat_hands L now)) (λ r e.
        hand_less L (λ s x. (x.0, (r.0 ∷ x.1.0, x.1.1 ∙ append_assoc done (r.0 ∷ []) x.1.0, x.1.2)))
        (later_graded ps (names_after p us) (done ++ r.0 ∷ []) r.1 e))
    later_graded (tree.tracked_pats c ps) us done t k = calls.emitted_hands L c (later_graded ps us done t k)

    pat_part_graded : (p : OptionPat) (us : FirstUses) → PatMade L (g.grade_pat_part S p us) us (names_after_part p us) (pat_part p)
    pat_part_graded tree.no_pat us t k = pats.alone_graded L us (pats.missing_pat_graded L) t k
    pat_part_graded (tree.some_pat p) us t k = pat_graded p us t k

    subpat_graded : (p : OptionPat) (us : FirstUses) → PatEmitted L (g.grade_subpat S p us) us (names_after_part p us) (present_pat p)
    subpat_graded tree.no_pat us t k = hand_pure L None t refl k
    subpat_graded (tree.some_pat p) us t k = hand_map L (λ r. Some r.0) (pat_hands L (pat_graded p us t k)) (λ r e. e)

    pats_graded : (ps : Pats) (us : FirstUses) (done : List PatId)
        → PatEmitted L (g.grade_pats S ps us) us (names_after_each ps us) (lower_pats done ps)
    pats_graded tree.no_pats us done t k = hand_pure L done t refl k
    pats_graded (tree.more_pats p ps) us done t k =
        hand_then L (pat_hands L (pat_graded p us t k)) (λ r e. pats_graded ps (names_after p us) _ r.1 e)
    pats_graded (tree.tracked_pats c ps) us done t k = calls.emitted_hands L c (pats_graded ps us done t k)

    elements_graded : (ps : Pats) (us : FirstUses)
        → PartsEmitted L (g.grade_elements S ps us) us (names_after_each ps us) (dots_among ps) (λ done t. lower_elements done ps t)
    elements_graded tree.no_pats us done t k = hand_pure L done t refl (k, no_dots (length done.0) done.1)
    elements_graded (tree.more_pats p ps) us done t k =
        pats.element_graded L p (pats.only_names L (pat_graded p us)) (elements_graded ps (names_after p us)) done t k
    elements_graded (tree.tracked_pats c ps) us done t k = calls.emitted_hands L c (elements_graded ps us done t k)

    pat_fields_graded : (fs : PatFields) (us : FirstUses) (done : List RecordFieldPat)
        → PatEmitted L (g.grade_pat_fields S fs us) us (names_after_fields fs us) (lower_pat_fields done fs)
    pat_fields_graded tree.no_pat_fields us done t k = hand_pure L done t refl k
    pat_fields_graded (tree.more_pat_fields f fs) us done t k =
        hand_then L (pat_field_graded f us t k) (λ r e. pat_fields_graded fs (names_after_field f us) _ r.1 e)

    pat_field_graded : (f : PatField) (us : FirstUses)
        → PatEmitted L (g.grade_pat_field S f us) us (names_after_field f us) (lower_pat_field f)
    pat_field_graded (tree.disabled_pat_field at by f) us t k = hand_last L (λ u. None) t refl (L.fault_is _) (λ u. k)
    pat_field_graded tree.partless_pat_field us t k = hand_pure L None t refl k
    pat_field_graded (tree.pat_field at n p) us t k = pats.pat_field_graded L at n (pats.only_names L (pat_graded p us)) t k

    side_graded : (s : Side) → L.Claim (g.grade_side S s) (lower_side s)
    side_graded tree.no_side = L.pure_is None
    side_graded (tree.literal_side at l) = pats.literal_side_graded L at l
    side_graded (tree.name_side at n _) = pats.name_side_graded L at n
    side_graded (tree.path_side at p) = pats.path_side_graded L at (path_graded p)
    side_graded tree.other_side = L.pure_is None

    pub top_graded : (p : OptionPat) → L.Claim (g.grade_top S p) (lower_top p)
    top_graded tree.no_pat = L.pat_made_is (pats.missing_pat_graded L)
    top_graded (tree.some_pat p) = L.top_is (L.hands_pat_is no_names (pat_graded p [] no_names none_keyed).claim)

    -- the assignee expression

    pub target_graded : (t : Target) → L.MadePat (g.grade_target S t) (lower_target t)
    target_graded (tree.absent_target call) = L.made_pat_is _ call
    target_graded (tree.place_target at e) = targets.place_graded L at (L.made_is (expr_graded e))
    target_graded (tree.macro_target None c t) = calls.emitted_target_graded L c (target_graded t)
    target_graded (tree.macro_target (Some at) c t) =
        calls.emitted_target_graded L c (L.target_mapping_is at (target_graded t))
    target_graded (tree.wild_target at) = targets.assigned_graded L _ at
    target_graded (tree.path_target at p h) =
        targets.path_target_graded L at h (L.aliased_is (alias_of p) (map_is L _ (reading_graded p start).claim))
    target_graded (tree.tuple_target at ts) = targets.tuple_target_graded L at (all_targets ts (targets_graded ts no_elements))
    target_graded (tree.call_target at p ts) =
        targets.call_target_graded L at (path_graded p) (all_targets ts (targets_graded ts no_elements))
    target_graded (tree.array_target at before dots behind) =
        targets.array_target_graded L at dots (targets_graded before no_elements).claim (targets_graded behind no_elements).claim
    target_graded (tree.record_target at p fs dots spread) =
        targets.record_target_graded L at dots spread (path_graded p) (target_fields_graded [] fs)

    targets_graded : (ts : Targets) (done : Elements) → Emitted L {A = Elements} (g.grade_targets S ts)
        (λ r. r.1 ≡ dots_behind (length done.0) done.1 (target_dots ts)) (lower_targets done ts)
    targets_graded tree.no_targets done = emitted_pure L _ (no_dots (length done.0) done.1)
    targets_graded (tree.more_targets t ts) done = emitted_then L (emitted_any L (L.pat_made_is (target_graded t))) (λ i u.
        emitted_less L (λ r e. e ∙ one_further done.0 i done.1 (target_dots ts)) (targets_graded ts (add_target done i)))
    targets_graded (tree.dots_targets ts) done =
        emitted_less L (λ r e. e ∙ dots_here done.0 done.1 (target_dots ts)) (targets_graded ts (add_target_dots done))
    targets_graded (tree.tracked_targets c ts) done = emitted_then L (emitted_any L (L.emitted_is c)) (λ u x. targets_graded ts done)

    target_fields_graded : (done : List RecordFieldPat) (fs : TargetFields)
        → L.Claim (g.grade_target_fields S fs) (lower_target_fields done fs)
    target_fields_graded done tree.no_target_fields = L.pure_is done
    target_fields_graded done (tree.more_target_fields f fs) = next L (target_field_graded f) (λ x. target_fields_graded _ fs)

    target_field_graded : (f : TargetField) → L.Claim (g.grade_target_field S f) (lower_target_field f)
    target_field_graded (tree.disabled_target_field at by) = map_is L _ (L.fault_is _)
    target_field_graded tree.partless_target_field = L.pure_is None
    target_field_graded (tree.target_field at n t) = targets.target_field_graded L at n (L.pat_made_is (target_graded t))

    -- constants

    pub constant_graded : (c : Constant) → L.Claim (g.grade_constant S c) (lower_constant c)
    constant_graded (tree.constant e) = L.constant_is e (expr_part_graded e)

    pub rooted_graded : (c : Constant) → L.Claim (g.grade_rooted S c) (lower_rooted c)
    rooted_graded (tree.constant e) = L.rooted_is e (expr_part_graded e)

    -- expressions

    pub expr_graded : (e : Expr) → L.Made (g.grade_expr S e) (lower e)
    expr_graded (tree.disabled_expr why e) = made_next L (L.gone_is why) (λ u. exprs.missing_graded L)
    expr_graded (tree.if_expr at c t e) = exprs.if_graded L at (expr_part_graded c) (block_part_graded t) (expr_present_graded e)
    expr_graded (tree.block_expr b) = block_graded b
    expr_graded (tree.loop_expr at label is b) = exprs.loop_graded L at _ label is (block_part_graded b)
    expr_graded (tree.while_expr at label is c b) =
        exprs.loop_graded L at _ label is
        (exprs.iteration_graded L at (made.condition_graded L at (holds_let c) (expr_part_graded c)) (block_part_graded b))
    expr_graded (tree.for_expr at items label is p h b) =
        made.for_graded L at (head_pointer at h) items label is (expr_part_graded h) (top_graded p) (expr_part_graded b)
    expr_graded (tree.question_expr at items e) = made.question_graded L at items (expr_part_graded e)
    expr_graded (tree.itemless_expr at) = exprs.missing_graded L
    expr_graded (tree.try_expr at item tree.no_type number ss e) =
        try_graded at item false number ss e (stmts_graded [] ss e (kept_part_graded e))
    expr_graded (tree.try_expr at item (tree.some_type t) number ss e) =
        made.typed_try_graded L at
        (try_graded at item true number ss e (stmts_graded [] ss e (kept_part_graded e))) (type_emitted None t (type_made None t))
    expr_graded (tree.coroutine_expr at kind moves number ss e) =
        L.coroutine_is at kind moves number (stmts_graded [] ss e (kept_part_graded e))
    expr_graded (tree.call_expr at f has_list es) = exprs.call_graded L at (expr_part_graded f) (exprs_graded [] es)
    expr_graded (tree.path_expr at p h) = exprs.path_graded L at h (path_graded p).claim
    expr_graded (tree.continue_expr at jump) = exprs.continue_graded L at jump
    expr_graded (tree.break_expr at jump e) = exprs.break_graded L at jump (expr_present_graded e)
    expr_graded (tree.paren_expr at e) = exprs.paren_graded L at (expr_part_graded e)
    expr_graded (tree.macro_expr at c tree.no_expr) = calls.uncalled_graded L at c
    expr_graded (tree.macro_expr at c (tree.some_expr e)) = calls.called_graded L at c (expr_graded e)
    expr_graded (tree.literal_expr at l) = L.expr_is _ _
    expr_graded (tree.leaf_expr at form) = L.expr_is _ _
    expr_graded (tree.unary_expr at form e) = exprs.operand_graded L at _ (expr_part_graded e)
    expr_graded (tree.binary_expr at form a b) = exprs.operands_graded L at _ (expr_part_graded a) (expr_part_graded b)
    expr_graded (tree.lazy_expr at op a b) = exprs.operands_graded L at _ (expr_part_graded a) (expr_part_graded b)
    expr_graded (tree.list_expr at form es) = exprs.list_graded L at form (exprs_graded [] es)
    expr_graded (tree.repeat_expr at e c) = exprs.repeat_graded L at (expr_part_graded e) (constant_graded c)
    expr_graded (tree.const_expr at c) = L.owning_is (exprs.const_graded L at (rooted_graded c))
    expr_graded (tree.closure_expr at moves is_static xs t e) =
        L.closure_is at moves is_static (params_graded no_closure_params xs) (present_graded t) (expr_part_graded e)
    expr_graded (tree.coroutine_closure_expr at kind moves xs t e) =
        L.coroutine_closure_is at kind moves xs t e (params_graded no_closure_params xs) (present_graded t) (expr_part_graded e)
    expr_graded (tree.method_call_expr at e name es generics) =
        exprs.method_call_graded L at name (expr_part_graded e) (exprs_graded [] es) (args_graded generics).claim
    expr_graded (tree.cast_expr at e t) = exprs.cast_graded L at (expr_part_graded e) (part_graded None t)
    expr_graded (tree.record_expr at p head fs s) =
        exprs.record_graded L at (path_graded p) (exprs.contents_graded L (fields_graded [] fs) (spread_graded s))
    expr_graded (tree.offset_of_expr at t names) = exprs.offset_of_graded L at names (part_graded None t)
    expr_graded (tree.leaving_expr at form e) = exprs.value_graded L at _ (expr_present_graded e)
    expr_graded (tree.become_expr at e) = exprs.operand_graded L at _ (expr_part_graded e)
    expr_graded (tree.yield_expr at e) = exprs.yield_graded L at (expr_present_graded e)
    expr_graded (tree.await_expr at location e) = exprs.await_graded L at location (expr_part_graded e)
    expr_graded (tree.nameless_expr at e) = exprs.operand_graded L at _ (expr_part_graded e)
    expr_graded (tree.let_expr at p e) = exprs.let_graded L at (top_graded p) (expr_part_graded e)
    expr_graded (tree.match_expr at e arms) = exprs.match_graded L at (expr_part_graded e) (arms_graded [] arms)
    expr_graded (tree.range_expr at form low high) =
        exprs.range_graded L at form (expr_present_graded low) (expr_present_graded high)
    expr_graded (tree.assign_expr at own t e) = exprs.assign_graded L at (L.pat_made_is (target_graded t)) (expr_part_graded e)

    pub params_graded : (l : ClosureParams) (xs : Params) → L.Claim (g.grade_params S xs) (lower_params l xs)
    params_graded l tree.no_params = L.pure_is l
    params_graded l (tree.more_params x xs) = next L (param_graded l x) (λ m. params_graded m xs)

    param_graded : (l : ClosureParams) (x : Param) → L.Claim (g.grade_param S x) (lower_param l x)
    param_graded l (tree.disabled_param at by x) = map_is L _ (L.fault_is _)
    param_graded l (tree.param p t) = exprs.param_graded L l (top_graded p) (present_graded t)

    pub expr_part_graded : (e : OptionExpr) → L.Made (g.grade_expr_part S e) (lower_part e)
    expr_part_graded tree.no_expr = exprs.missing_graded L
    expr_part_graded (tree.some_expr e) = expr_graded e

    pub expr_present_graded : (e : OptionExpr) → L.Claim (g.grade_expr_present S e) (present e)
    expr_present_graded tree.no_expr = L.pure_is None
    expr_present_graded (tree.some_expr e) = exprs.some_graded L (expr_graded e)

    pub kept_part_graded : (e : OptionExpr) → L.Claim (g.grade_kept S e) (kept_part e)
    kept_part_graded tree.no_expr = L.pure_is None
    kept_part_graded (tree.some_expr e) = exprs.kept_graded L e (expr_graded e)

    pub exprs_graded : (done : List ExprId) (es : Exprs) → L.Claim (g.grade_exprs S es) (lower_each done es)
    exprs_graded done tree.no_exprs = L.pure_is done
    exprs_graded done (tree.more_exprs e es) = next L (exprs.kept_graded L e (expr_graded e)) (λ x. exprs_graded _ es)

    pub fields_graded : (done : List RecordLitField) (fs : Fields) → L.Claim (g.grade_fields S fs) (lower_fields done fs)
    fields_graded done tree.no_fields = L.pure_is done
    fields_graded done (tree.more_fields f fs) = next L (field_graded f) (λ x. fields_graded _ fs)

    field_graded : (f : Field) → L.Claim (g.grade_field S f) (lower_field f)
    field_graded (tree.disabled_field at by f) = map_is L _ (L.fault_is _)
    field_graded (tree.nameless_field at e) = L.pure_is None
    field_graded (tree.named_field at name e) = exprs.field_graded L at name (expr_part_graded e)

    pub arms_graded : (done : List MatchArm) (arms : Arms) → L.Claim (g.grade_arms S arms) (lower_arms done arms)
    arms_graded done tree.no_arms = L.pure_is done
    arms_graded done (tree.more_arms a arms) = next L (arm_graded a) (λ x. arms_graded _ arms)

    arm_graded : (a : Arm) → L.Claim (g.grade_arm S a) (lower_arm a)
    arm_graded (tree.disabled_arm at by a) = map_is L _ (L.fault_is _)
    arm_graded (tree.arm p e when) = exprs.arm_graded L (top_graded p) (expr_part_graded e) (guard_graded when)

    guard_graded : (when : Guard) → L.Claim (g.grade_guard S when) (lower_guard when)
    guard_graded tree.no_guard = L.pure_is None
    guard_graded (tree.guard e) = exprs.some_graded L (expr_part_graded e)

    pub spread_graded : (s : Spread) → L.Claim (g.grade_expr_spread S s) (lower_spread s)
    spread_graded tree.no_spread = L.pure_is _
    spread_graded tree.field_defaults = L.pure_is _
    spread_graded (tree.spread_of e) = map_is L _ (L.made_is (expr_graded e))

    block_graded : (b : Block) → L.Made (g.grade_block S b) (lower_block b)
    block_graded (tree.block at is_unsafe label is number ss e) = exprs.labelled_graded L label is
        (λ n. exprs.block_graded L at is_unsafe n number (stmts_graded [] ss e (kept_part_graded e)))

    pub block_part_graded : (b : OptionBlock) → L.Made (g.grade_block_part S b) (lower_block_part b)
    block_part_graded tree.no_block = exprs.missing_graded L
    block_part_graded (tree.some_block b) = block_graded b

    block_present_graded : (b : OptionBlock) → L.Claim (g.grade_block_present S b) (present_block b)
    block_present_graded tree.no_block = L.pure_is None
    block_present_graded (tree.some_block b) = exprs.some_graded L (block_graded b)

    pub stmts_graded : (done : List Statement) (ss : Stmts) (e : OptionExpr) → L.Claim (g.grade_kept S e) (kept_part e)
        → L.Claim (g.grade_stmts S ss (g.grade_kept S e)) (lower_stmts done ss (kept_part e))
    stmts_graded done tree.no_stmts e h = map_is L _ h
    stmts_graded done (tree.more_stmts s ss) e h = next L (stmt_graded s) (λ x. exprs.behind_graded L s (stmts_graded _ ss e h))

    stmt_graded : (s : Stmt) → L.Claim (g.grade_stmt S s) (lower_stmt s)
    stmt_graded (tree.expr_stmt e semi) = map_is L _ (kept_part_graded e)
    stmt_graded (tree.disabled_stmt at by s) = map_is L _ (L.fault_is _)
    stmt_graded tree.item_stmt = L.pure_is _
    stmt_graded (tree.call_stmt c) = map_is L _ (L.tracked_is c)
    stmt_graded (tree.macro_stmt k d) = L.def_is k d
    stmt_graded (tree.let_stmt p t e b) =
        exprs.let_stmt_graded L (top_graded p) (present_graded t) (expr_present_graded e) (block_present_graded b)

  pub type_graded : (b : Option Binder) (t : Type_) → L.Claim (g.grade_type_in S b t) (lower_type b t)
  type_graded b t = type_emitted b t (type_made b t)
