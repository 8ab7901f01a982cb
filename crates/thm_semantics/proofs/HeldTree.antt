-- Each constant inside what is lowered runs as its own written body: one induction over types, paths, arguments and expressions.
use Rattle.std.proofs.Common.{◌≡◌, refl, sym, false, true, true≢false, List, [], ◌∷◌, ◌++◌, Option, Some, None, arith}
use Rattle.hir_store.specs.Pointers.{Pointer}
use Rattle.hir_store.specs.declared.diagnostics.ExpressionStoreDiagnostics.TheVariants.{InactiveCode}
use Rattle.hir_store.specs.declared.hir.MatchArm.{MatchArm}
use Rattle.hir_store.specs.declared.hir.RecordLitField.{RecordLitField}
use Rattle.hir_store.specs.declared.hir.RecordSpread.TheVariants as spread
use Rattle.hir_store.specs.declared.hir.Statement.{Statement}
use Rattle.hir_store.specs.declared.hir.Statement.TheVariants as statement
use Rattle.hir_store.specs.declared.ids.ExprId.{ExprId}
use Rattle.hir_store.specs.declared.ids.PatId.{PatId}
use Rattle.hir_store.specs.declared.ids.TypeRefId.{TypeRefId}
use Rattle.hir_store.specs.declared.pat.Pat.TheVariants as pat
use Rattle.hir_store.specs.declared.pat.RecordFieldPat.{RecordFieldPat}
use Rattle.hir_store.specs.declared.path.GenericArg.TheVariants as arg
use Rattle.hir_store.specs.declared.type_ref.TypeBound.{TypeBound}
use Rattle.hir_store.specs.declared.type_ref.TypeBound.TheVariants as bound
use Rattle.hir_store.specs.declared.type_ref.TypeRef.TheVariants as ty
use Rattle.hir_env.specs.ResolvedTree as tree
use Rattle.hir_env.specs.ResolvedTree.{Binder, Type_, OptionType, Parts, Path, OptionPath, Segments, Segment, SegmentArgs, OptionParens}
use Rattle.hir_env.specs.ResolvedTree.{OptionRet, OptionArgs, Args, Arg, Bounds, Bound, Constant}
use Rattle.hir_env.specs.ResolvedTree.{Expr, OptionExpr, Exprs, Fields, Field, Spread, Block, OptionBlock, Stmts, Stmt}
use Rattle.hir_env.specs.ResolvedTree.{Arms, Arm, Guard, Pat, OptionPat, Pats, PatFields, Side, TypePat, OptionTypePat, TypePats, Limit}
use Rattle.hir_env.specs.ResolvedTree.{Params, Target, Targets, TargetFields}
use Rattle.hir_env.specs.Conditions.{holds_let}
use Rattle.hir_env.specs.Targets.{head_pointer}
use Rattle.spec_data.specs.Written.{path_of}
use Rattle.hir_lower_builder.specs.declared.args.ArgLists.{ArgLists}
use Rattle.hir_lower_builder.specs.declared.closures.ClosureParams.{ClosureParams}
use Rattle.hir_lower_builder.specs.Lowering.{Lowering}
use Rattle.hir_lower_builder.specs.Types.{no_lists}
use Rattle.hir_lower_builder.specs.Forms.{push_some}
use Rattle.hir_lower_builder.specs.Lower as lower
use Rattle.hir_lower_builder.specs.Pats.{Table, no_names, next_alternative, Elements, no_elements, is_dots}
use Rattle.hir_lower_builder.specs.Targets.{add_target, add_target_dots}
use Rattle.spec_semantics.specs.Inner as inner
use Rattle.spec_semantics.specs.Inner.{Bodies, bodies_in, constant_body, of_pat_field}
use Rattle.thm_round_trip.proofs.Layers.{Pushed, pushed_all}
use Rattle.thm_round_trip.proofs.Tree.{path_reads, list_reads}
use Rattle.thm_logic.proofs.Constants.{correct_constant}
use Rattle.thm_logic.proofs.Frames.{barrier_at}
use Rattle.thm_logic.proofs.Calls.{correct_track, correct_emitted, correct_track_gone}
use Rattle.thm_logic.proofs.Steps.{Correct, correct_as, correct_both, correct_in_store, correct_report}
use Rattle.thm_logic.proofs.TypeAny.{lifetime_any, uses_any}
use Rattle.thm_semantics.proofs.Body.{body_is}
use Rattle.thm_semantics.proofs.Induction.{contents_fine, part_fine}
use Rattle.thm_semantics.proofs.Holding.{an_expr, a_type, each, maybe, Holds, holds_none, holds_one, holds_behind, none_held, more_held}
use Rattle.thm_semantics.proofs.Holding.{holds_owning, type0, expr0, pat0, Ids, a_pat, a_type_pat}
use Rattle.thm_semantics.proofs.HeldCalls as calls
use Rattle.thm_semantics.proofs.HeldClosures as closures
use Rattle.thm_semantics.proofs.HeldClosures.{ParamsHeld}
use Rattle.thm_semantics.proofs.HeldCoroutines.{coroutine_held}
use Rattle.thm_semantics.proofs.HeldCoroutineClosures as coroutines
use Rattle.thm_semantics.proofs.HeldCoroutineClosures.{ParamsApart, coroutine_closure_held}
use Rattle.thm_semantics.proofs.HeldLimits as limits
use Rattle.thm_semantics.proofs.HeldPats as pats
use Rattle.thm_semantics.proofs.HeldPats.{PatHeld, Added, added_behind, added_none, added_more, added_some, added_all}
use Rattle.thm_semantics.proofs.HeldPatterned as patterned
use Rattle.thm_semantics.proofs.HeldTypes as types
use Rattle.thm_semantics.proofs.HeldTypes.{a_constant, a_path, some_args, a_bound, Grown}
use Rattle.thm_semantics.proofs.HeldPaths as paths
use Rattle.thm_semantics.proofs.HeldForms as forms
use Rattle.thm_semantics.proofs.HeldForms.{a_field, a_spread, a_statement, Filled}
use Rattle.thm_semantics.proofs.HeldFors.{for_held}
use Rattle.thm_semantics.proofs.HeldTries as tries
use Rattle.thm_semantics.proofs.HeldTries.{an_arm}

-- a constant runs as written: nothing that is open around its barrier is in its frames
constant_held : (e : OptionExpr) → Correct (lower.lower_part e) (Holds an_expr (bodies_in e))
    → Correct (lower.constant_form (lower.lower_part e)) (Holds a_constant (constant_body e ∷ bodies_in e))
constant_held e h = correct_as (correct_constant (correct_both (correct_in_store (part_fine e)) h))
    (λ final ps m m' c g row. let x = row.first.one in record {
      same = λ d le. (
        body_is (barrier_at ∷ ps) x.rel x.nodes tt refl,
        row.first.other.same d (omega (le, row.nodes, row.entries, arith)),
      );
    })

abbrev a_field_pat : Ids RecordFieldPat
a_field_pat r f = of_pat_field r f

dots_hold_nothing : (p : Pat) → is_dots p ≡ true → inner.pat_bodies p ≡ []
dots_hold_nothing (tree.leaf_pat at form) e = refl
dots_hold_nothing (tree.bind_pat at u _ sub) e = absurd (true≢false (sym e))
dots_hold_nothing (tree.name_pat at u _) e = refl
dots_hold_nothing (tree.path_pat at p) e = absurd (true≢false (sym e))
dots_hold_nothing (tree.tuple_struct_pat at p comma ps) e = absurd (true≢false (sym e))
dots_hold_nothing (tree.tuple_pat at comma ps) e = absurd (true≢false (sym e))
dots_hold_nothing (tree.record_pat at p fs dots) e = absurd (true≢false (sym e))
dots_hold_nothing (tree.or_pat at ps) e = absurd (true≢false (sym e))
dots_hold_nothing (tree.paren_pat at p) e = absurd (true≢false (sym e))
dots_hold_nothing (tree.macro_pat at called p) e = absurd (true≢false (sym e))
dots_hold_nothing (tree.barred_pat at) e = refl
dots_hold_nothing (tree.slice_pat at before middle behind) e = absurd (true≢false (sym e))
dots_hold_nothing (tree.over_pat at form p) e = absurd (true≢false (sym e))
dots_hold_nothing (tree.literal_pat at own l) e = refl
dots_hold_nothing (tree.range_pat at op s e) k = absurd (true≢false (sym k))

-- what came of a field, which may be left out
abbrev field_kept : Option RecordFieldPat × Table → Option RecordFieldPat
field_kept r = r.0

mutual
  -- types

  type_holds : (b : Option Binder) (t : Type_) → Correct (lower.lower_type b t) (Holds a_type (inner.type_bodies t))
  type_holds b (tree.paren_type t) = part_holds b t
  type_holds b (tree.macro_type at called tree.no_type) = calls.uncalled_type_held at called
  type_holds b (tree.macro_type at called (tree.some_type t)) = calls.called_type_held at called (type_holds b t)
  type_holds b (tree.for_type names t) = part_holds (Some names) t
  type_holds b (tree.leaf_type at l) = types.leaf_held at l
  type_holds b (tree.over_type at u t) = types.over_held at u (part_holds None t)
  type_holds b (tree.array_type at c t) = types.array_held at (constant_holds c) (part_holds None t)
  type_holds b (tree.tuple_type at ps) = types.tuple_held at (pushed_all (parts_hold ps []))
  type_holds b (tree.path_type at p) = types.path_type_held at (paths.path_held p (outer_holds p))
  type_holds b (tree.ref_type at l m t) = types.ref_held at m l (part_holds None t)
  type_holds b (tree.fn_type at h ps r) = types.fn_held at b h (pushed_all (parts_hold ps [])) (ret_holds r)
  type_holds b (tree.impl_type at mode bs) = types.impl_held at mode (pushed_all (bounds_hold bs []))
  type_holds b (tree.nested_impl at) = type0 ty.Error (Some at) (λ r. refl)
  type_holds b (tree.dyn_type at bs) = types.dyn_held at (pushed_all (bounds_hold bs []))
  type_holds b (tree.pattern_type at t own p) = types.pattern_type_held at (part_holds None t) (type_pat_part_holds p)

  pub part_holds : (b : Option Binder) (t : OptionType) → Correct (lower.type_part b t) (Holds a_type (inner.part_bodies t))
  part_holds b tree.no_type = types.error_held
  part_holds b (tree.some_type t) = type_holds b t

  ret_holds : (t : OptionType) → Correct (lower.type_or_unit t) (Holds a_type (inner.part_bodies t))
  ret_holds tree.no_type = types.unit_held
  ret_holds (tree.some_type t) = type_holds None t

  maybe_type_holds : (t : OptionType) → Correct (lower.present_type t) (Holds (maybe a_type) (inner.part_bodies t))
  maybe_type_holds tree.no_type = holds_none None (λ r. refl)
  maybe_type_holds (tree.some_type t) = holds_one Some (λ r i. refl) (type_holds None t)

  parts_hold : (ps : Parts) (done : List TypeRefId)
      → Correct (lower.lower_parts done ps) (Pushed done (Holds (each a_type) (inner.parts_bodies ps)))
  parts_hold tree.no_parts done = none_held a_type done
  parts_hold (tree.more_parts t ts) done = more_held (part_holds None t) (parts_hold ts) done

  -- bounds

  bounds_hold : (bs : Bounds) (done : List TypeBound)
      → Correct (lower.lower_bounds done bs) (Pushed done (Holds (each a_bound) (inner.bounds_bodies bs)))
  bounds_hold tree.no_bounds done = none_held a_bound done
  bounds_hold (tree.more_bounds b bs) done = more_held (bound_holds b) (bounds_hold bs) done

  bound_holds : (b : Bound) → Correct (lower.lower_bound b) (Holds a_bound (inner.bound_bodies b))
  bound_holds tree.error_bound = holds_none bound.Error (λ r. refl)
  bound_holds (tree.path_bound at p may binder) = types.path_bound_held at may binder (paths.path_held p (outer_holds p))
  bound_holds (tree.lifetime_bound l) = holds_behind (lifetime_any l) (λ i. holds_none (bound.Lifetime i) (λ r. refl))
  bound_holds (tree.use_bound us) = holds_behind (uses_any [] us) (λ xs. holds_none (bound.Use xs) (λ r. refl))

  -- arguments

  pub list_holds : (as' : OptionArgs) → Correct (lower.args_part as') (Holds some_args (inner.list_bodies as'))
  list_holds tree.no_arg_list = holds_none None (λ r. refl)
  list_holds (tree.some_arg_list as') = types.yielded_held (args_grow as' no_lists)

  args_grow : (as' : Args) (l : ArgLists)
      → Correct (lower.lower_args l as') (Grown l (inner.arguments_bodies as') (inner.bindings_bodies as'))
  args_grow tree.no_args l = types.grown_none l
  args_grow (tree.more_args a as') l = types.grown_more l (arg_grows a l) (args_grow as')

  arg_grows : (a : Arg) (l : ArgLists) → Correct (lower.lower_arg l a) (Grown l (inner.argument_bodies a) (inner.binding_bodies a))
  arg_grows tree.skipped_arg l = types.grown_none l
  arg_grows (tree.type_arg t) l = types.grown_arg l arg.Type_ (λ r i. refl) (part_holds None t)
  arg_grows (tree.lifetime_arg x) l = types.grown_arg l arg.Lifetime (λ r i. refl) (types.lifetime_held x)
  arg_grows (tree.const_arg c) l = types.grown_arg l arg.Const (λ r c. refl) (constant_holds c)
  arg_grows (tree.assoc_arg n as' dots t bs) l = types.grown_binding l
      (types.binding_held n dots (list_holds as') (maybe_type_holds t) (pushed_all (bounds_hold bs [])))

  parens_hold : (ps : OptionParens) → Correct (lower.parens_part ps) (Holds some_args (inner.parens_bodies ps))
  parens_hold tree.no_parens = holds_none None (λ r. refl)
  parens_hold (tree.some_parens ts r) = types.parens_held (pushed_all (parts_hold ts [])) (output_holds r)

  output_holds : (r : OptionRet) → Correct (lower.output_part r) (Holds a_type (inner.output_bodies r))
  output_holds tree.no_ret = types.unit_held
  output_holds (tree.some_ret t) = part_holds None t

  segment_args_hold : (as' : SegmentArgs) → Correct (lower.lower_segment_args as') (Holds some_args (inner.beside_bodies as'))
  segment_args_hold (tree.segment_args l ps dots) = types.segment_args_held dots (list_reads l) (list_holds l) (parens_hold ps)

  -- paths

  segment_holds : (s : Segment) → paths.SegmentHolds s
  segment_holds tree.absent_segment = tt
  segment_holds tree.broken_segment = tt
  segment_holds (tree.name_segment n _ as') = segment_args_hold as'
  segment_holds tree.self_type_segment = tt
  segment_holds tree.crate_segment = tt
  segment_holds (tree.dollar_crate_segment root) = tt
  segment_holds tree.self_segment = tt
  segment_holds tree.super_segment = tt
  segment_holds (tree.type_segment t) = type_holds None t
  segment_holds (tree.trait_segment t at p) = (type_holds None t, paths.path_holds p (outer_holds p))

  segments_hold : (ss : Segments) → paths.SegmentsHold ss
  segments_hold tree.no_segments = tt
  segments_hold (tree.more_segments s ss) = (segment_holds s, segments_hold ss)

  all_hold : (p : Path) → paths.AllHold p
  all_hold (tree.path alias leading first rest use_) = (segment_holds first, segments_hold rest, outer_holds use_)

  outer_holds : (p : OptionPath) → paths.OuterHolds p
  outer_holds tree.no_path = tt
  outer_holds (tree.some_path p) = all_hold p

  -- constants

  pub constant_holds : (c : Constant) → Correct (lower.lower_constant c) (Holds a_constant (inner.constant_bodies c))
  constant_holds (tree.constant e) = holds_owning (λ c. c.expr) (constant_held e (body_holds e))

  -- the one of a `const` block
  rooted_holds : (c : Constant) → Correct (lower.lower_rooted c) (Holds a_constant (inner.constant_bodies c))
  rooted_holds (tree.constant e) = constant_held e (body_holds e)

  -- expressions

  expr_holds : (e : Expr) → Correct (lower.lower e) (Holds an_expr (inner.expr_bodies e))
  expr_holds (tree.disabled_expr why e) = holds_behind (correct_track_gone why) (λ u. forms.missing_held)
  expr_holds (tree.if_expr at c t e) = forms.if_held at (body_holds c) (block_part_holds t) (present_holds e)
  expr_holds (tree.block_expr b) = block_holds b
  expr_holds (tree.loop_expr at label _ b) = forms.loop_held at _ label (block_part_holds b)
  expr_holds (tree.while_expr at label _ c b) =
      forms.loop_held at _ label (forms.iteration_held at (tries.condition_held at (holds_let c) (body_holds c)) (block_part_holds b))
  expr_holds (tree.for_expr at items label _ p h b) =
      for_held at (head_pointer at h) items label (body_holds h) (top_holds p) (body_holds b)
  expr_holds (tree.question_expr at items e) = tries.question_held at items (body_holds e)
  expr_holds (tree.itemless_expr at) = forms.missing_held
  expr_holds (tree.try_expr at i tree.no_type number ss e) =
      tries.try_held at i false number (stmts_hold (kept_part_holds e) ss [])
  expr_holds (tree.try_expr at i (tree.some_type t) number ss e) =
      tries.typed_try_held at (tries.try_held at i true number (stmts_hold (kept_part_holds e) ss [])) (type_holds None t)
  expr_holds (tree.call_expr at f has_list es) = forms.call_held at (body_holds f) (pushed_all (each_holds es []))
  expr_holds (tree.path_expr at p h) = forms.path_held at h (paths.path_held p (outer_holds p))
  expr_holds (tree.continue_expr at jump) = forms.continue_held at jump
  expr_holds (tree.break_expr at jump e) = forms.break_held at jump (present_holds e)
  expr_holds (tree.paren_expr at e) = forms.paren_held at (body_holds e)
  expr_holds (tree.macro_expr at called tree.no_expr) = calls.uncalled_held at called
  expr_holds (tree.macro_expr at called (tree.some_expr e)) = calls.called_held at called (expr_holds e)
  expr_holds (tree.literal_expr at l) = expr0 _ (Some at) (λ r. refl)
  expr_holds (tree.leaf_expr at form) = forms.leaf_held at form
  expr_holds (tree.unary_expr at form e) = forms.unary_held at form (body_holds e)
  expr_holds (tree.binary_expr at form a b) = forms.binary_held at form (body_holds a) (body_holds b)
  expr_holds (tree.lazy_expr at op a b) = forms.both_held at (lower.stored_lazy op) (λ r i j. refl) (body_holds a) (body_holds b)
  expr_holds (tree.list_expr at form es) = forms.list_held at form (pushed_all (each_holds es []))
  expr_holds (tree.repeat_expr at e c) = forms.repeat_held at (body_holds e) (constant_holds c)
  expr_holds (tree.const_expr at c) = holds_owning (λ i. i) (forms.const_held at (rooted_holds c))
  expr_holds (tree.closure_expr at moves is_static ps t e) = holds_owning (λ i. i) (closures.closure_held at moves is_static e
      (params_hold ps lower.no_closure_params) (maybe_type_holds t) (body_holds e))
  expr_holds (tree.coroutine_expr at kind moves number ss e) = holds_owning (λ i. i)
      (coroutine_held at kind moves number ss e (contents_fine ss e) (stmts_hold (kept_part_holds e) ss []))
  expr_holds (tree.coroutine_closure_expr at kind moves ps t e) = holds_owning (λ i. i)
      (coroutine_closure_held at kind moves ps e (params_hold_apart ps lower.no_closure_params) (maybe_type_holds t) (body_holds e))
  expr_holds (tree.method_call_expr at e name es generics) =
      forms.method_call_held at name (body_holds e) (list_holds generics) (pushed_all (each_holds es []))
  expr_holds (tree.cast_expr at e t) = forms.cast_held at (body_holds e) (part_holds None t)
  expr_holds (tree.record_expr at p head fs s) = forms.record_held at (path_of p) (path_reads p) (paths.path_held p (outer_holds p))
      (forms.contents_held (pushed_all (fields_hold fs [])) (spread_holds s))
  expr_holds (tree.offset_of_expr at t names) = forms.offset_of_held at names (part_holds None t)
  expr_holds (tree.leaving_expr at form e) = forms.leaving_held at form (present_holds e)
  expr_holds (tree.become_expr at e) = forms.become_held at (body_holds e)
  expr_holds (tree.yield_expr at e) = forms.yield_held at (present_holds e)
  expr_holds (tree.await_expr at location e) = forms.await_held at location (body_holds e)
  expr_holds (tree.nameless_expr at e) = forms.nameless_held at (body_holds e)
  expr_holds (tree.let_expr at p e) = patterned.let_held at (top_holds p) (body_holds e)
  expr_holds (tree.match_expr at e arms) = patterned.match_held at (body_holds e) (pushed_all (arms_hold arms []))
  expr_holds (tree.range_expr at form s e) = patterned.range_held at form (present_holds s) (present_holds e)
  expr_holds (tree.assign_expr at own t e) = patterned.assign_held at (target_holds t) (body_holds e)

  -- the parameters of a closure
  params_hold : (xs : Params) (done : ClosureParams)
      → Correct (lower.lower_params done xs) (ParamsHeld done (inner.params_bodies xs))
  params_hold tree.no_params done = closures.params_none done
  params_hold (tree.more_params (tree.disabled_param at by x) xs) done = closures.params_skip done (InactiveCode at by) (params_hold xs)
  params_hold (tree.more_params (tree.param p t) xs) done =
      closures.params_more done (closures.param_held done (top_holds p) (maybe_type_holds t)) (params_hold xs)

  -- where what is in their patterns is not with what is in their types
  params_hold_apart : (xs : Params) (done : ClosureParams)
      → Correct (lower.lower_params done xs) (ParamsApart done (inner.param_pats_bodies xs) (inner.param_types_bodies xs))
  params_hold_apart tree.no_params done = coroutines.apart_none done
  params_hold_apart (tree.more_params (tree.disabled_param at by x) xs) done =
      coroutines.apart_skip done (InactiveCode at by) (params_hold_apart xs)
  params_hold_apart (tree.more_params (tree.param p t) xs) done =
      coroutines.apart_more done (coroutines.param_apart done (top_holds p) (maybe_type_holds t)) (params_hold_apart xs)

  -- what is inside a body
  pub body_holds : (e : OptionExpr) → Correct (lower.lower_part e) (Holds an_expr (bodies_in e))
  body_holds tree.no_expr = forms.missing_held
  body_holds (tree.some_expr e) = expr_holds e

  present_holds : (e : OptionExpr) → Correct (lower.present e) (Holds (maybe an_expr) (bodies_in e))
  present_holds tree.no_expr = holds_none None (λ r. refl)
  present_holds (tree.some_expr e) = forms.some_held (expr_holds e)

  kept_part_holds : (e : OptionExpr) → Correct (lower.kept_part e) (Holds (maybe an_expr) (bodies_in e))
  kept_part_holds tree.no_expr = holds_none None (λ r. refl)
  kept_part_holds (tree.some_expr e) = forms.kept_held e (expr_holds e)

  each_holds : (es : Exprs) (done : List ExprId)
      → Correct (lower.lower_each done es) (Pushed done (Holds (each an_expr) (inner.each_bodies es)))
  each_holds tree.no_exprs done = none_held an_expr done
  each_holds (tree.more_exprs e es) done = forms.some_pushed {ids = an_expr} (forms.kept_held e (expr_holds e)) (each_holds es) done

  fields_hold : (fs : Fields) (done : List RecordLitField)
      → Correct (lower.lower_fields done fs) (Pushed done (Holds (each a_field) (inner.fields_bodies fs)))
  fields_hold tree.no_fields done = none_held a_field done
  fields_hold (tree.more_fields f fs) done = forms.some_pushed {ids = a_field} (field_holds f) (fields_hold fs) done

  field_holds : (f : Field) → Correct (lower.lower_field f) (Holds (maybe a_field) (inner.field_bodies f))
  field_holds (tree.disabled_field at by f) = holds_behind (correct_report (InactiveCode at by)) (λ u. holds_none None (λ r. refl))
  field_holds (tree.nameless_field at e) = holds_none None (λ r. refl)
  field_holds (tree.named_field at name e) = forms.field_held at name (body_holds e)

  spread_holds : (s : Spread) → Correct (lower.lower_spread s) (Holds a_spread (inner.spread_bodies s))
  spread_holds tree.no_spread = holds_none spread.None (λ r. refl)
  spread_holds tree.field_defaults = holds_none spread.FieldDefaults (λ r. refl)
  spread_holds (tree.spread_of e) = holds_one spread.Expr (λ r i. refl) (expr_holds e)

  block_holds : (b : Block) → Correct (lower.lower_block b) (Holds an_expr (inner.block_bodies b))
  block_holds (tree.block at is_unsafe label _ number ss e) =
      forms.labelled_held label (λ n. forms.block_form_held at is_unsafe n number (stmts_hold (kept_part_holds e) ss []))

  block_part_holds : (b : OptionBlock) → Correct (lower.lower_block_part b) (Holds an_expr (inner.block_part_bodies b))
  block_part_holds tree.no_block = forms.missing_held
  block_part_holds (tree.some_block b) = block_holds b

  stmts_hold : {fs : Bodies} {q : Lowering (Option ExprId)} → Correct q (Holds (maybe an_expr) fs) → (ss : Stmts)
      (done : List Statement) → Correct (lower.lower_stmts done ss q) (Filled done (inner.stmts_bodies ss) fs)
  stmts_hold hq tree.no_stmts done = forms.filled_end done hq
  stmts_hold hq (tree.more_stmts s ss) done = forms.filled_more (stmt_holds s) (λ more. forms.behind_held s (stmts_hold hq ss more)) done

  stmt_holds : (s : Stmt) → Correct (lower.lower_stmt s) (Holds (maybe a_statement) (inner.stmt_bodies s))
  stmt_holds (tree.expr_stmt e semi) = forms.statement_held semi (kept_part_holds e)
  stmt_holds tree.item_stmt = holds_none (Some statement.Item) (λ r. refl)
  stmt_holds (tree.call_stmt c) = holds_behind (correct_track c) (λ u. holds_none None (λ r. refl))
  stmt_holds (tree.macro_stmt k d) = forms.define_held k d
  stmt_holds (tree.let_stmt p t e b) =
      patterned.let_stmt_held (top_holds p) (maybe_type_holds t) (present_holds e) (present_block_holds b)
  stmt_holds (tree.disabled_stmt at by s) = holds_behind (correct_report (InactiveCode at by)) (λ u. holds_none None (λ r. refl))

  present_block_holds : (b : OptionBlock) → Correct (lower.present_block b) (Holds (maybe an_expr) (inner.block_part_bodies b))
  present_block_holds tree.no_block = holds_none None (λ r. refl)
  present_block_holds (tree.some_block b) = forms.some_held (block_holds b)

  arms_hold : (arms : Arms) (done : List MatchArm)
      → Correct (lower.lower_arms done arms) (Pushed done (Holds (each an_arm) (inner.arms_bodies arms)))
  arms_hold tree.no_arms done = none_held an_arm done
  arms_hold (tree.more_arms a arms) done = forms.some_pushed {ids = an_arm} (arm_holds a) (arms_hold arms) done

  arm_holds : (a : Arm) → Correct (lower.lower_arm a) (Holds (maybe an_arm) (inner.arm_bodies a))
  arm_holds (tree.disabled_arm at by a) = holds_behind (correct_report (InactiveCode at by)) (λ u. holds_none None (λ r. refl))
  arm_holds (tree.arm p e g) = patterned.arm_held (top_holds p) (guard_holds g) (body_holds e)

  guard_holds : (g : Guard) → Correct (lower.lower_guard g) (Holds (maybe an_expr) (inner.guard_bodies g))
  guard_holds tree.no_guard = holds_none None (λ r. refl)
  guard_holds (tree.guard e) = forms.some_held (body_holds e)

  -- patterns

  pub top_holds : (p : OptionPat) → Correct (lower.lower_top p) (Holds a_pat (inner.pat_part_bodies p))
  top_holds tree.no_pat = pats.absent_held
  top_holds (tree.some_pat p) = patterned.top_held (lower.lower_pat p) (pat_holds p no_names)

  pat_holds : (p : Pat) → PatHeld a_pat (lower.lower_pat p) (inner.pat_bodies p)
  pat_holds (tree.leaf_pat at form) = pats.leaf_held at form
  pat_holds (tree.bind_pat at u _ p) = pats.bind_held at u (subpattern_holds p)
  pat_holds (tree.name_pat at u _) = pats.name_held at u
  pat_holds (tree.path_pat at p) = pats.path_held at (paths.path_held p (outer_holds p))
  pat_holds (tree.tuple_struct_pat at p comma ps) = pats.tuple_struct_held at (path_of p) (path_reads p)
      (paths.path_held p (outer_holds p)) comma (elements_hold ps no_elements)
  pat_holds (tree.tuple_pat at comma ps) = pats.tuple_held at comma (elements_hold ps no_elements)
  pat_holds (tree.record_pat at p fs dots) = pats.record_held at (path_of p) (path_reads p)
      (paths.path_held p (outer_holds p)) dots (pat_fields_hold fs [])
  pat_holds (tree.or_pat at ps) = alternatives_hold at ps
  pat_holds (tree.paren_pat at p) = pat_part_holds p
  pat_holds (tree.macro_pat at called tree.no_pat) = pats.alone_held (calls.uncalled_pat_held at called)
  pat_holds (tree.macro_pat at called (tree.some_pat p)) = λ t. calls.called_pat_held at called (λ r. r.0) (pat_holds p t)
  pat_holds (tree.barred_pat at) = pats.alone_held (calls.barred_pat_held at)
  pat_holds (tree.slice_pat at before p behind) = pats.slice_held at
      (λ t. added_all (pats_hold before [] t)) (subpattern_holds p) (λ t. added_all (pats_hold behind [] t))
  pat_holds (tree.over_pat at form p) = pats.over_held at form (pat_part_holds p)
  pat_holds (tree.literal_pat at own l) = pats.literal_held at own l
  pat_holds (tree.range_pat at op s e) = pats.range_held at op (side_holds s) (side_holds e)

  pat_part_holds : (p : OptionPat) → PatHeld a_pat (lower.pat_part p) (inner.pat_part_bodies p)
  pat_part_holds tree.no_pat = pats.alone_held pats.absent_held
  pat_part_holds (tree.some_pat p) = pat_holds p

  subpattern_holds : (p : OptionPat) → PatHeld (maybe a_pat) (lower.present_pat p) (inner.pat_part_bodies p)
  subpattern_holds tree.no_pat t = holds_none (None, t) (λ r. refl)
  subpattern_holds (tree.some_pat p) t = holds_one (λ x. (Some x.0, x.1)) (λ r x. refl) (pat_holds p t)

  alternatives_hold : (at : Pointer) (ps : Pats) → PatHeld a_pat (lower.lower_alternatives at ps) (inner.pats_bodies ps)
  alternatives_hold at tree.no_pats = pats.alone_held (pat0 (pat.Or []) (Some at) (λ r. refl))
  alternatives_hold at (tree.more_pats p ps) = pats.or_held at (pat_holds p) (later_hold ps)
  alternatives_hold at (tree.tracked_pats called ps) = λ t. holds_behind (correct_emitted called) (λ u. alternatives_hold at ps t)

  pats_hold : (ps : Pats) (done : List PatId) (t : Table)
      → Correct (lower.lower_pats done ps t) (Added a_pat (λ r. r.0) done (inner.pats_bodies ps))
  pats_hold tree.no_pats done t = added_none (λ r. r.0) (done, t)
  pats_hold (tree.more_pats p ps) done t =
      added_more {part = λ r. r.0} done (pat_holds p t) (λ r. pats_hold ps (done ++ r.0 ∷ []) r.1)
  pats_hold (tree.tracked_pats called ps) done t = added_behind (correct_emitted called) (λ u. pats_hold ps done t)

  later_hold : (ps : Pats) (done : List PatId) (t : Table)
      → Correct (lower.lower_later ps done t) (Added a_pat (λ r. r.0) done (inner.pats_bodies ps))
  later_hold tree.no_pats done t = added_none (λ r. r.0) (done, t)
  later_hold (tree.more_pats p ps) done t = added_more {part = λ r. r.0} done (pat_holds p (next_alternative t))
      (λ r. later_hold ps (done ++ r.0 ∷ []) r.1)
  later_hold (tree.tracked_pats called ps) done t = added_behind (correct_emitted called) (λ u. later_hold ps done t)

  elements_hold : (ps : Pats) (done : Elements) (t : Table)
      → Correct (lower.lower_elements done ps t) (Added a_pat pats.parts done.0 (inner.pats_bodies ps))
  elements_hold tree.no_pats done t = added_none pats.parts (done, t)
  elements_hold (tree.more_pats p ps) done t =
      pats.element_held (is_dots p) (dots_hold_nothing p) (pat_holds p) (elements_hold ps) done t
  elements_hold (tree.tracked_pats called ps) done t = added_behind (correct_emitted called) (λ u. elements_hold ps done t)

  pat_fields_hold : (fs : PatFields) (done : List RecordFieldPat) (t : Table)
      → Correct (lower.lower_pat_fields done fs t) (Added a_field_pat (λ r. r.0) done (inner.pat_fields_bodies fs))
  pat_fields_hold tree.no_pat_fields done t = added_none (λ r. r.0) (done, t)
  pat_fields_hold (tree.more_pat_fields (tree.disabled_pat_field at by f) fs) done t =
      added_some field_kept done (holds_behind (correct_report (InactiveCode at by)) (λ u. holds_none (None, t) (λ r. refl)))
      (λ r. pat_fields_hold fs (push_some done r.0) r.1)
  pat_fields_hold (tree.more_pat_fields tree.partless_pat_field fs) done t =
      added_some field_kept done (holds_none (None, t) (λ r. refl)) (λ r. pat_fields_hold fs (push_some done r.0) r.1)
  pat_fields_hold (tree.more_pat_fields (tree.pat_field at None p) fs) done t =
      added_some field_kept done (pats.nameless_held at (lower.lower_pat p) t (pat_holds p t))
      (λ r. pat_fields_hold fs (push_some done r.0) r.1)
  pat_fields_hold (tree.more_pat_fields (tree.pat_field at (Some n) p) fs) done t =
      added_some field_kept done (pats.field_held at n (pat_holds p) t) (λ r. pat_fields_hold fs (push_some done r.0) r.1)

  side_holds : (s : Side) → Correct (lower.lower_side s) (Holds (maybe an_expr) (inner.side_bodies s))
  side_holds tree.no_side = holds_none None (λ r. refl)
  side_holds (tree.literal_side at l) = pats.literal_side_held at l
  side_holds (tree.name_side at n _) = pats.name_side_held at n
  side_holds (tree.path_side at p) = pats.path_side_held at (paths.path_held p (outer_holds p))
  side_holds tree.other_side = holds_none None (λ r. refl)

  -- patterns of types

  type_pat_part_holds : (p : OptionTypePat) → Correct (lower.lower_type_pat_part p) (Holds a_type_pat (inner.type_pat_part_bodies p))
  type_pat_part_holds tree.no_type_pat = limits.missing_type_pat_held
  type_pat_part_holds (tree.some_type_pat p) = type_pat_holds p

  type_pat_holds : (p : TypePat) → Correct (lower.lower_type_pat p) (Holds a_type_pat (inner.type_pat_bodies p))
  type_pat_holds (tree.not_null_type_pat at) = limits.type_pat0 pat.NotNull (Some at) (λ r. refl)
  type_pat_holds (tree.or_type_pat at ps) = limits.alternatives_held at (pushed_all (type_pats_hold ps []))
  type_pat_holds (tree.macro_type_pat at called tree.no_type_pat) = calls.uncalled_type_pat_held at called
  type_pat_holds (tree.macro_type_pat at called (tree.some_type_pat p)) = calls.called_pat_held at called (λ i. i) (type_pat_holds p)
  type_pat_holds (tree.range_type_pat at s e) = limits.limits_held at (limit_holds s) (limit_holds e)
  type_pat_holds (tree.other_type_pat at) = limits.type_pat0 pat.Missing (Some at) (λ r. refl)

  type_pats_hold : (ps : TypePats) (done : List PatId)
      → Correct (lower.lower_type_pats done ps) (Pushed done (Holds (each a_type_pat) (inner.type_pats_bodies ps)))
  type_pats_hold tree.no_type_pats done = none_held a_type_pat done
  type_pats_hold (tree.more_type_pats p ps) done = more_held (type_pat_holds p) (type_pats_hold ps) done

  limit_holds : (l : Limit) → Correct (lower.lower_limit l) (Holds limits.a_limit (inner.limit_bodies l))
  limit_holds (tree.item_limit item) = limits.limit_held (tree.item_limit item) tt
  limit_holds (tree.side_limit s) = limits.limit_held (tree.side_limit s) (path_of_side s)
  limit_holds (tree.before_limit item s) = limits.limit_held (tree.before_limit item s) (path_of_side s)

  path_of_side : (s : Side) → limits.PathOf s
  path_of_side tree.no_side = tt
  path_of_side (tree.literal_side at l) = tt
  path_of_side (tree.name_side at n _) = tt
  path_of_side (tree.path_side at p) = paths.path_held p (outer_holds p)
  path_of_side tree.other_side = tt

  -- the assignee expression

  target_holds : (t : Target) → Correct (lower.lower_target t) (Holds a_pat (inner.target_bodies t))
  target_holds (tree.absent_target call) = patterned.missing_target_held call
  target_holds (tree.place_target at e) = patterned.place_held at (expr_holds e)
  target_holds (tree.wild_target at) = patterned.wild_target_held at
  target_holds (tree.macro_target at called t) = patterned.called_target_held at called (target_holds t)
  target_holds (tree.path_target at p h) =
      patterned.path_target_held at h (paths.path_held (tree.some_path p) (all_hold p))
  target_holds (tree.tuple_target at ts) = patterned.tuple_target_held at (targets_hold ts no_elements)
  target_holds (tree.call_target at p ts) = patterned.call_target_held at (path_of p) (path_reads p)
      (paths.path_held p (outer_holds p)) (targets_hold ts no_elements)
  target_holds (tree.array_target at before dots behind) =
      patterned.array_target_held at dots (targets_hold before no_elements) (targets_hold behind no_elements)
  target_holds (tree.record_target at p fs dots others) = patterned.record_target_held at (path_of p) (path_reads p)
      (paths.path_held p (outer_holds p)) dots others (pushed_all (target_fields_hold fs []))

  targets_hold : (ts : Targets) (done : Elements)
      → Correct (lower.lower_targets done ts) (Added a_pat patterned.parts done.0 (inner.targets_bodies ts))
  targets_hold tree.no_targets done = added_none patterned.parts done
  targets_hold (tree.more_targets t ts) done =
      added_more {part = λ i. i} done.0 (target_holds t) (λ i. targets_hold ts (add_target done i))
  targets_hold (tree.dots_targets ts) done = targets_hold ts (add_target_dots done)
  targets_hold (tree.tracked_targets called ts) done = added_behind (correct_emitted called) (λ u. targets_hold ts done)

  target_fields_hold : (fs : TargetFields) (done : List RecordFieldPat)
      → Correct (lower.lower_target_fields done fs) (Pushed done (Holds (each a_field_pat) (inner.target_fields_bodies fs)))
  target_fields_hold tree.no_target_fields done = none_held a_field_pat done
  target_fields_hold (tree.more_target_fields (tree.disabled_target_field at by) fs) done = forms.some_pushed {ids = a_field_pat}
      (holds_behind (correct_report (InactiveCode at by)) (λ u. holds_none None (λ r. refl))) (target_fields_hold fs) done
  target_fields_hold (tree.more_target_fields tree.partless_target_field fs) done =
      forms.some_pushed {ids = a_field_pat} (holds_none None (λ r. refl)) (target_fields_hold fs) done
  target_fields_hold (tree.more_target_fields (tree.target_field at None t) fs) done =
      forms.some_pushed {ids = a_field_pat} (patterned.nameless_target_held at (target_holds t)) (target_fields_hold fs) done
  target_fields_hold (tree.more_target_fields (tree.target_field at (Some n) t) fs) done =
      forms.some_pushed {ids = a_field_pat} (patterned.target_field_held at n (target_holds t)) (target_fields_hold fs) done

pub path_holds : (p : OptionPath) → Correct (lower.lower_path p) (Holds a_path (inner.path_bodies p))
path_holds p = paths.path_held p (outer_holds p)
