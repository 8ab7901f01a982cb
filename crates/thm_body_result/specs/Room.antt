-- How large a tree is, by its parts in the order in which they are lowered. Each written expression becomes one, but
-- parentheses become none besides what is in them, and a range may become a call of one more. An absent or disabled part is one
-- missing expression, or none where the form knows none, and so is what stands in front of a tuple with a leading comma. Nothing
-- in a disabled node becomes anything. Patterns likewise; each name of a top pattern becomes one binding, at its first use.
use Rattle.std.specs.Prelude.{◌+◌, ◌<◌, ◌≤◌, ◌^◌, ◌⊎◌, ◌||◌, List, [], ◌∷◌, map, length, Option, Some, None, is_some}
use Rattle.std.specs.Prelude.{Bool, true, false, not}
use Rattle.hir_store.specs.declared.hir.CoroutineKind.{CoroutineKind}
use Rattle.hir_env.specs.ResolvedTree as tree
use Rattle.hir_env.specs.ResolvedTree.{Type_, OptionType, Parts, Path, OptionPath, Segments, Segment, SegmentArgs, OptionParens, OptionRet}
use Rattle.hir_env.specs.ResolvedTree.{OptionArgs, Args, Arg, Bounds, Bound, Constant, Listing, Label, Expr, OptionExpr, Exprs, Fields}
use Rattle.hir_env.specs.ResolvedTree.{Field}
use Rattle.hir_env.specs.ResolvedTree.{Spread, Block, OptionBlock, Stmts, Stmt, Arms, Arm, Guard, Pat, OptionPat, Pats, PatFields, PatField}
use Rattle.hir_env.specs.ResolvedTree.{Side, TypePat, OptionTypePat, TypePats, Limit, Target, Targets, TargetFields, TargetField}
use Rattle.hir_env.specs.ResolvedTree.{SelfFormal}
use Rattle.hir_env.specs.ResolvedTree.{Formal, Formals, Param, Params}
use Rattle.hir_env.specs.Conditions.{holds_let}
use Rattle.spec_data.specs.Data.{PatData}
use Rattle.spec_data.specs.Patterns.{is_dots, ellipsis_of, written_pat}
use Rattle.spec_data.specs.Targets.{target_dots}
use Rattle.spec_data.specs.Tops.{Tops, params_tops}
use Rattle.spec_data.specs.Uses.{FirstUses}
use Rattle.hir_lower_builder.specs.Builder.{Builder}
use Rattle.spec_semantics.specs.InnerWritten.{constant_body, limit_body}
use Rattle.spec_semantics.specs.Left.{is_kept, is_left, gives_value}
use Rattle.thm_body_result.specs.Formals.{formals_read}
use Rattle.thm_logic.specs.PatNames.{names_after, names_after_part, names_after_each, names_after_field}
use Rattle.thm_body_result.specs.PatRoom.{name_size, front_pat_size}
use Rattle.thm_body_result.specs.PatRoom.{or_size, name_side_size, rest_size, range_size}
use Rattle.thm_body_result.specs.PreludeRoom.{handed_size, prelude_size, self_let_size}
use Rattle.thm_body_result.specs.Size.{Size, nothing, an_expr, a_label, a_binding, a_pat, a_type, a_lifetime, a_super, a_body, dots_behind}
use Rattle.thm_body_result.specs.Size.{a_def, a_made_pat, a_pat_call, a_target, a_target_mapping, a_type_call, uncalled_pat_size}
use Rattle.thm_body_result.specs.Size.{a_generated_name, a_made_bind, a_flow_arm, a_for_iteration, an_item_call, owned, ◌∪◌, if_so}
use Rattle.thm_body_result.specs.Size.{or_missing}
use Rattle.thm_body_result.specs.Size.{a_condition, an_impl, or_missing_target, uncalled_type_size}
use Rattle.thm_logic.specs.PathSeen.{Seen, nothing_seen, at_first, segments_read, own_read, whole_read, yields}
use Rattle.thm_body_result.specs.PathRoom.{before, lifetime_size}
use Rattle.thm_body_result.specs.PathRoom.{uses_size}

abbrev pub label_size : Option Label → Size
label_size None = nothing
label_size (Some l) = a_label

-- A `try` whose statements and tail give no value has `()` in its place.
abbrev pub unit_size : Stmts → OptionExpr → Size
unit_size ss tail = if_so (not (is_left tail || gives_value ss false)) an_expr

-- in front of a tuple with a leading comma stands a missing element
abbrev pub front_size : Listing → Size
front_size (tree.tuple_of false) = nothing
front_size (tree.tuple_of true) = an_expr
front_size tree.array_of = nothing

abbrev mutual
  -- types, paths, arguments and bounds

  -- each type becomes one, but parentheses and a `for` become none besides what is in them
  pub type_size : Type_ → Size
  type_size (tree.paren_type t) = type_part_size t
  type_size (tree.macro_type at called tree.no_type) = uncalled_type_size at called
  type_size (tree.macro_type at called (tree.some_type t)) = type_size t ∪ a_type_call at
  type_size (tree.for_type names t) = type_part_size t
  type_size (tree.leaf_type at form) = a_type (Some at)
  type_size (tree.over_type at form t) = type_part_size t ∪ a_type (Some at)
  -- its length first
  type_size (tree.array_type at c t) = constant_size c ∪ type_part_size t ∪ a_type (Some at)
  type_size (tree.tuple_type at ts) = parts_size ts ∪ a_type (Some at)
  type_size (tree.path_type at p) = whole_size p ∪ a_type (Some at)
  type_size (tree.ref_type at l mutability t) = type_part_size t ∪ lifetime_size l ∪ a_type (Some at)
  type_size (tree.fn_type at head ts r) = type_part_size r ∪ parts_size ts ∪ a_type (Some at)
  type_size (tree.impl_type at mode bs) = bounds_size bs ∪ an_impl mode at
  type_size (tree.nested_impl at) = a_type (Some at)
  type_size (tree.dyn_type at bs) = bounds_size bs ∪ a_type (Some at)
  type_size (tree.pattern_type at t own p) = type_part_size t ∪ type_pat_part_size p ∪ a_type (Some at)

  -- an error, or `()`, where it is absent
  pub type_part_size : OptionType → Size
  type_part_size tree.no_type = a_type None
  type_part_size (tree.some_type t) = type_size t

  pub present_size : OptionType → Size
  present_size tree.no_type = nothing
  present_size (tree.some_type t) = type_size t

  pub parts_size : Parts → Size
  parts_size tree.no_parts = nothing
  parts_size (tree.more_parts t ts) = type_part_size t ∪ parts_size ts

  pub segment_size : Bool → Segment → Seen → Size
  segment_size first (tree.name_segment n _ as') x = beside_size as'
  segment_size first tree.super_segment x = a_super x.supers
  segment_size true (tree.type_segment t) x = type_size t
  -- the trait is stored as a type too, where its path isn't refused
  segment_size true (tree.trait_segment t at p) x = type_size t ∪ whole_size p ∪ if_so (is_some (whole_read p)) (a_type (Some at))
  segment_size first s x = nothing

  pub segments_size : Segments → Seen → Size
  segments_size tree.no_segments x = nothing
  segments_size (tree.more_segments s ss) x = segments_size ss x ∪ before (segments_read ss x) (λ y. segment_size false s y)

  pub path_size : Path → Seen → Size
  path_size (tree.path alias leading first rest use_) x =
      (segments_size rest x ∪ before (segments_read rest x) (λ y. segment_size true first (at_first leading y)))
      ∪ before (own_read leading first rest x) (λ y. outer_size use_ y)

  pub outer_size : OptionPath → Seen → Size
  outer_size tree.no_path x = nothing
  outer_size (tree.some_path p) x = path_size p x

  -- of a path from its end
  pub whole_size : OptionPath → Size
  whole_size tree.no_path = nothing
  whole_size (tree.some_path p) = path_size p nothing_seen

  -- `(A) -> C` is read where `<..>` yields none
  pub beside_size : SegmentArgs → Size
  beside_size (tree.segment_args as' ps dots) = args_size as' ∪ if_so (not (yields as')) (parens_size ps)

  -- the types make a tuple
  pub parens_size : OptionParens → Size
  parens_size tree.no_parens = nothing
  parens_size (tree.some_parens ts r) = parts_size ts ∪ a_type None ∪ output_size r

  pub output_size : OptionRet → Size
  output_size tree.no_ret = a_type None
  output_size (tree.some_ret t) = type_part_size t

  pub args_size : OptionArgs → Size
  args_size tree.no_arg_list = nothing
  args_size (tree.some_arg_list as') = each_arg_size as'

  pub each_arg_size : Args → Size
  each_arg_size tree.no_args = nothing
  each_arg_size (tree.more_args a as') = arg_size a ∪ each_arg_size as'

  pub arg_size : Arg → Size
  arg_size tree.skipped_arg = nothing
  arg_size (tree.type_arg t) = type_part_size t
  arg_size (tree.lifetime_arg l) = a_lifetime (Some l.pointer)
  arg_size (tree.const_arg c) = constant_size c
  arg_size (tree.assoc_arg n as' dots t bs) = args_size as' ∪ present_size t ∪ bounds_size bs

  pub bounds_size : Bounds → Size
  bounds_size tree.no_bounds = nothing
  bounds_size (tree.more_bounds b bs) = bound_size b ∪ bounds_size bs

  -- a path is a type, where it isn't refused
  pub bound_size : Bound → Size
  bound_size tree.error_bound = nothing
  bound_size (tree.path_bound at p maybe binder) = whole_size p ∪ if_so (is_some (whole_read p)) (a_type (Some at))
  bound_size (tree.lifetime_bound l) = a_lifetime (Some l.pointer)
  bound_size (tree.use_bound us) = uses_size us

  -- constants

  -- a length or an argument, of which the expression owns what is bound in it
  pub constant_size : Constant → Size
  constant_size (tree.constant e) = a_body (constant_body e) (owned (size_part e))

  -- that of a `const` block: what is bound in it is owned by the expression around it
  pub rooted_size : Constant → Size
  rooted_size (tree.constant e) = a_body (constant_body e) (size_part e)

  -- patterns of types

  pub type_pat_size : TypePat → Size
  type_pat_size (tree.not_null_type_pat at) = a_pat (Some at)
  type_pat_size (tree.macro_type_pat at called tree.no_type_pat) = uncalled_pat_size at called
  type_pat_size (tree.macro_type_pat at called (tree.some_type_pat p)) = type_pat_size p ∪ a_pat_call at
  type_pat_size (tree.or_type_pat at ps) = type_pats_size ps ∪ a_pat (Some at)
  type_pat_size (tree.range_type_pat at low high) = limit_size low ∪ limit_size high ∪ a_pat (Some at)
  type_pat_size (tree.other_type_pat at) = a_pat (Some at)

  pub type_pat_part_size : OptionTypePat → Size
  type_pat_part_size tree.no_type_pat = a_pat None
  type_pat_part_size (tree.some_type_pat p) = type_pat_size p

  pub type_pats_size : TypePats → Size
  type_pats_size tree.no_type_pats = nothing
  type_pats_size (tree.more_type_pats p ps) = type_pat_size p ∪ type_pats_size ps

  -- each is a body of its own, in which stands the side, an item, or a call of the item with the side
  pub limit_size : Limit → Size
  limit_size (tree.item_limit item) = a_body (limit_body (tree.item_limit item)) an_expr
  limit_size (tree.side_limit s) = a_body (limit_body (tree.side_limit s)) (limit_side_size s)
  limit_size (tree.before_limit item s) = a_body (limit_body (tree.before_limit item s)) (limit_side_size s ∪ an_expr ∪ an_expr)

  -- what is no side is missing
  pub limit_side_size : Side → Size
  limit_side_size (tree.path_side at p) = whole_size p ∪ an_expr
  limit_side_size s = an_expr

  -- expressions

  pub size : Expr → Size
  size (tree.disabled_expr why e) = an_expr
  -- the branches are lowered before the condition
  size (tree.if_expr at c t e) = block_part_size t ∪ size_present e ∪ size_part c ∪ an_expr
  size (tree.block_expr b) = block_size b
  size (tree.loop_expr at label _ b) = label_size label ∪ block_part_size b ∪ an_expr
  -- the body before the condition, then a break and the turn, and the loop last
  size (tree.while_expr at label _ c b) =
      label_size label ∪ (block_part_size b ∪ a_condition (holds_let c) (size_part c) ∪ an_expr ∪ an_expr) ∪ an_expr
  -- a call on the head, the pattern, and a name that the call's value has; then the loop in its label, and the match around it
  size (tree.for_expr at items label _ p h b) =
      size_part h ∪ an_item_call ∪ top_size p ∪ a_generated_name ∪ a_made_bind
      ∪ (label_size label ∪ a_for_iteration (size_part b) ∪ an_expr) ∪ an_expr
  -- a call, an arm that names what it holds, one that makes of it what leaves, and the match
  size (tree.question_expr at items e) =
      size_part e ∪ an_item_call ∪ a_flow_arm an_expr ∪ a_flow_arm (an_expr ∪ an_item_call ∪ an_expr) ∪ an_expr
  size (tree.itemless_expr at) = an_expr
  -- the item, the value and its call behind what is in the block
  size (tree.try_expr at item tree.no_type number ss e) =
      (a_generated_name ∪ a_label) ∪ (stmts_size ss ∪ size_kept e) ∪ (an_expr ∪ unit_size ss e ∪ an_expr) ∪ an_expr
  -- and then a `let` of that type in a block
  size (tree.try_expr at item (tree.some_type t) number ss e) =
      ((a_generated_name ∪ a_label) ∪ (stmts_size ss ∪ size_kept e) ∪ (an_expr ∪ unit_size ss e ∪ an_expr) ∪ an_expr)
      ∪ a_generated_name ∪ type_size t ∪ a_made_bind ∪ an_expr ∪ an_expr
  -- the block, which comes from no node, and the coroutine
  size (tree.coroutine_expr at kind moves number ss e) = owned ((stmts_size ss ∪ size_kept e) ∪ an_expr ∪ an_expr)
  -- what is in the coroutine, which is owned by that; what the outside hands its parameters to; and the closure
  size (tree.coroutine_closure_expr at kind moves xs t e) =
      let ys = map written_pat (params_tops xs) in
      owned (owned (params_size xs ∪ present_size t ∪ size_part e ∪ prelude_size ys ∪ an_expr ∪ an_expr) ∪ handed_size ys ∪ an_expr)
  size (tree.call_expr at f has_list es) = size_part f ∪ size_each es ∪ an_expr
  size (tree.path_expr at p h) = whole_size p ∪ an_expr
  size (tree.continue_expr at jump) = an_expr
  size (tree.break_expr at jump e) = size_present e ∪ an_expr
  size (tree.paren_expr at e) = size_part e
  size (tree.macro_expr at called e) = size_part e
  size (tree.literal_expr at l) = an_expr
  size (tree.leaf_expr at form) = an_expr
  size (tree.unary_expr at form e) = size_part e ∪ an_expr
  size (tree.binary_expr at form a b) = size_part a ∪ size_part b ∪ an_expr
  size (tree.lazy_expr at op a b) = size_part a ∪ size_part b ∪ an_expr
  size (tree.list_expr at form es) = size_each es ∪ front_size form ∪ an_expr
  size (tree.repeat_expr at e c) = size_part e ∪ constant_size c ∪ an_expr
  size (tree.const_expr at c) = owned (rooted_size c ∪ an_expr)
  size (tree.closure_expr at moves is_static xs t e) = owned (params_size xs ∪ present_size t ∪ size_part e ∪ an_expr)
  size (tree.method_call_expr at e name es generics) = size_part e ∪ size_each es ∪ args_size generics ∪ an_expr
  size (tree.cast_expr at e t) = size_part e ∪ type_part_size t ∪ an_expr
  -- where the path is absent or refused nothing else is read
  size (tree.record_expr at p head fs s) = whole_size p ∪ if_so (is_some (whole_read p)) (fields_size fs ∪ spread_size s) ∪ an_expr
  size (tree.offset_of_expr at t names) = type_part_size t ∪ an_expr
  size (tree.leaving_expr at form e) = size_present e ∪ an_expr
  size (tree.become_expr at e) = size_part e ∪ an_expr
  size (tree.yield_expr at e) = size_present e ∪ an_expr
  size (tree.await_expr at location e) = size_part e ∪ an_expr
  size (tree.nameless_expr at e) = size_part e ∪ an_expr
  size (tree.let_expr at p e) = top_size p ∪ size_part e ∪ an_expr
  size (tree.match_expr at e arms) = size_part e ∪ arms_size arms ∪ an_expr
  size (tree.range_expr at form low high) = size_present low ∪ size_present high ∪ range_size form
  -- the target before the value
  size (tree.assign_expr at own t e) = target_size t ∪ size_part e ∪ an_expr

  -- a disabled parameter becomes nothing
  pub params_size : Params → Size
  params_size tree.no_params = nothing
  params_size (tree.more_params x xs) = param_size x ∪ params_size xs

  pub param_size : Param → Size
  param_size (tree.disabled_param at by x) = nothing
  param_size (tree.param p t) = top_size p ∪ present_size t

  -- of a part that is missing where it is absent
  pub size_part : OptionExpr → Size
  size_part tree.no_expr = an_expr
  size_part (tree.some_expr e) = size e

  pub size_present : OptionExpr → Size
  size_present tree.no_expr = nothing
  size_present (tree.some_expr e) = size e

  -- of a part that is left out where it is absent or disabled
  pub size_kept : OptionExpr → Size
  size_kept tree.no_expr = nothing
  size_kept (tree.some_expr e) = if_so (is_kept e) (size e)

  pub size_each : Exprs → Size
  size_each tree.no_exprs = nothing
  size_each (tree.more_exprs e es) = if_so (is_kept e) (size e) ∪ size_each es

  pub fields_size : Fields → Size
  fields_size tree.no_fields = nothing
  fields_size (tree.more_fields f fs) = field_size f ∪ fields_size fs

  pub field_size : Field → Size
  field_size (tree.disabled_field at by f) = nothing
  field_size (tree.nameless_field at e) = nothing
  field_size (tree.named_field at name e) = size_part e

  pub arms_size : Arms → Size
  arms_size tree.no_arms = nothing
  arms_size (tree.more_arms a arms) = arm_size a ∪ arms_size arms

  -- the guard behind the expression
  pub arm_size : Arm → Size
  arm_size (tree.disabled_arm at by a) = nothing
  arm_size (tree.arm p e g) = top_size p ∪ size_part e ∪ guard_size g

  pub guard_size : Guard → Size
  guard_size tree.no_guard = nothing
  guard_size (tree.guard e) = size_part e

  pub spread_size : Spread → Size
  spread_size tree.no_spread = nothing
  spread_size tree.field_defaults = nothing
  spread_size (tree.spread_of e) = size e

  pub block_size : Block → Size
  block_size (tree.block at is_unsafe label _ number ss e) = label_size label ∪ stmts_size ss ∪ size_kept e ∪ an_expr

  pub block_part_size : OptionBlock → Size
  block_part_size tree.no_block = an_expr
  block_part_size (tree.some_block b) = block_size b

  pub block_present_size : OptionBlock → Size
  block_present_size tree.no_block = nothing
  block_present_size (tree.some_block b) = block_size b

  pub stmts_size : Stmts → Size
  stmts_size tree.no_stmts = nothing
  stmts_size (tree.more_stmts s ss) = stmt_size s ∪ stmts_size ss

  pub stmt_size : Stmt → Size
  stmt_size (tree.expr_stmt e semi) = size_kept e
  stmt_size (tree.disabled_stmt at by s) = nothing
  stmt_size tree.item_stmt = nothing
  stmt_size (tree.call_stmt c) = nothing
  stmt_size (tree.macro_stmt k d) = a_def k
  stmt_size (tree.let_stmt p t e b) = top_size p ∪ present_size t ∪ size_present e ∪ block_present_size b

  -- patterns, where these names have a use

  pub pat_size : Pat → FirstUses → Size
  pat_size (tree.leaf_pat at form) us = a_pat (Some at)
  -- what stands behind `@` before the name
  pat_size (tree.bind_pat at u _ sub) us = subpat_size sub us ∪ name_size (names_after_part sub us) u ∪ a_pat (Some at)
  pat_size (tree.name_pat at u _) us = a_pat (Some at)
  pat_size (tree.path_pat at p) us = whole_size p ∪ a_pat (Some at)
  pat_size (tree.tuple_struct_pat at p comma ps) us =
      whole_size p
      ∪ or_missing (is_some (whole_read p))
      (elements_size ps us ∪ (dots_behind (ellipsis_of comma ps) ∪ front_pat_size comma) ∪ a_pat (Some at))
  pat_size (tree.tuple_pat at comma ps) us =
      elements_size ps us ∪ (dots_behind (ellipsis_of comma ps) ∪ front_pat_size comma) ∪ a_pat (Some at)
  pat_size (tree.record_pat at p fs dots) us =
      whole_size p ∪ or_missing (is_some (whole_read p)) (pat_fields_size fs us ∪ a_pat (Some at))
  pat_size (tree.or_pat at ps) us = pats_size ps us ∪ or_size at ps
  pat_size (tree.paren_pat at p) us = pat_part_size p us
  pat_size (tree.macro_pat at called tree.no_pat) us = uncalled_pat_size at called
  pat_size (tree.macro_pat at called (tree.some_pat p)) us = pat_size p us ∪ a_pat_call at
  pat_size (tree.barred_pat at) us = a_pat None
  pat_size (tree.slice_pat at before middle behind) us =
      let between = names_after_each before us in
      let past = names_after_part middle between in
      pats_size before us ∪ subpat_size middle between ∪ pats_size behind past ∪ a_pat (Some at)
  pat_size (tree.over_pat at form p) us = pat_part_size p us ∪ a_pat (Some at)
  pat_size (tree.literal_pat at own l) us = an_expr ∪ a_pat (Some at)
  pat_size (tree.range_pat at op low high) us = side_size low ∪ side_size high ∪ a_pat (Some at)

  -- missing where it is absent
  pub pat_part_size : OptionPat → FirstUses → Size
  pat_part_size tree.no_pat us = a_pat None
  pat_part_size (tree.some_pat p) us = pat_size p us

  pub subpat_size : OptionPat → FirstUses → Size
  subpat_size tree.no_pat us = nothing
  subpat_size (tree.some_pat p) us = pat_size p us

  pub pats_size : Pats → FirstUses → Size
  pats_size tree.no_pats us = nothing
  pats_size (tree.more_pats p ps) us = pat_size p us ∪ pats_size ps (names_after p us)
  pats_size (tree.tracked_pats called ps) us = pats_size ps us

  -- two dots are no part of a tuple
  pub elements_size : Pats → FirstUses → Size
  elements_size tree.no_pats us = nothing
  elements_size (tree.more_pats p ps) us = if_so (not (is_dots p)) (pat_size p us) ∪ elements_size ps (names_after p us)
  elements_size (tree.tracked_pats called ps) us = elements_size ps us

  pub pat_fields_size : PatFields → FirstUses → Size
  pat_fields_size tree.no_pat_fields us = nothing
  pat_fields_size (tree.more_pat_fields f fs) us = pat_field_size f us ∪ pat_fields_size fs (names_after_field f us)

  -- one without a name is read
  pub pat_field_size : PatField → FirstUses → Size
  pat_field_size (tree.disabled_pat_field at by f) us = nothing
  pat_field_size tree.partless_pat_field us = nothing
  pat_field_size (tree.pat_field at n p) us = pat_size p us

  -- what is no side is absent
  pub side_size : Side → Size
  side_size tree.no_side = nothing
  side_size (tree.literal_side at l) = an_expr
  side_size (tree.name_side at n _) = name_side_size n
  side_size (tree.path_side at p) = whole_size p ∪ if_so (is_some (whole_read p)) an_expr
  side_size tree.other_side = nothing

  -- a whole one, before which no name has a use
  pub top_size : OptionPat → Size
  top_size tree.no_pat = a_pat None
  top_size (tree.some_pat p) = pat_size p []

  -- the assignee expression

  pub target_size : Target → Size
  target_size (tree.absent_target call) = a_made_pat call
  target_size (tree.place_target at e) = size e ∪ a_made_pat (Some at)
  target_size (tree.macro_target None called t) = target_size t
  target_size (tree.macro_target (Some at) called t) = target_size t ∪ a_target_mapping at
  target_size (tree.wild_target at) = a_target at
  target_size (tree.path_target at p h) = path_size p nothing_seen ∪ a_target at
  target_size (tree.tuple_target at ts) = targets_size ts ∪ dots_behind (target_dots ts) ∪ a_target at
  target_size (tree.call_target at p ts) =
      whole_size p
      ∪ or_missing_target at.call (is_some (whole_read p)) (targets_size ts ∪ dots_behind (target_dots ts) ∪ a_target at)
  -- the two dots behind the parts on both sides of them
  target_size (tree.array_target at before dots behind) = targets_size before ∪ targets_size behind ∪ rest_size dots ∪ a_target at
  target_size (tree.record_target at p fs dots spread) =
      whole_size p ∪ or_missing_target at.call (is_some (whole_read p)) (target_fields_size fs ∪ a_target at)

  pub targets_size : Targets → Size
  targets_size tree.no_targets = nothing
  targets_size (tree.more_targets t ts) = target_size t ∪ targets_size ts
  targets_size (tree.dots_targets ts) = targets_size ts
  targets_size (tree.tracked_targets called ts) = targets_size ts

  pub target_fields_size : TargetFields → Size
  target_fields_size tree.no_target_fields = nothing
  target_fields_size (tree.more_target_fields f fs) = target_field_size f ∪ target_fields_size fs

  pub target_field_size : TargetField → Size
  target_field_size (tree.disabled_target_field at by) = nothing
  target_field_size tree.partless_target_field = nothing
  target_field_size (tree.target_field at n t) = target_size t

-- a body behind its parameters

abbrev pub tops_size : Tops → Size
tops_size [] = nothing
tops_size (p ∷ ps) = top_size p ∪ tops_size ps

abbrev pub self_size : SelfFormal → Size
self_size tree.no_self = nothing
self_size (tree.disabled_self at by) = nothing
self_size (tree.self_formal at u _) = a_binding

abbrev pub formals_size : Bool → Formals → Size
formals_size skipped f = self_size f.receiver ∪ tops_size (formals_read skipped f.formals)

-- what the patterns of what is read of the parameters are
abbrev pub formals_data : Bool → List Formal → List PatData
formals_data skipped fs = map written_pat (formals_read skipped fs)

-- in a coroutine that a function becomes: its parameters but `self`, its body, its prelude, and two expressions
abbrev pub in_coroutine_size : Bool → Formals → OptionExpr → Size
in_coroutine_size skipped f e =
    tops_size (formals_read skipped f.formals) ∪ size_part e ∪ self_let_size f.receiver ∪ prelude_size (formals_data skipped f.formals)
    ∪ an_expr ∪ an_expr

-- Where the function is a coroutine, that owns what is bound in it, and nothing owns what the outside hands arguments to.
abbrev pub body_size : Option CoroutineKind → Bool → Formals → OptionExpr → Size
body_size None skipped f e = formals_size skipped f ∪ size_part e
body_size (Some kind) skipped f e =
    self_size f.receiver ∪ owned (in_coroutine_size skipped f e) ∪ handed_size (formals_data skipped f.formals)

-- There is no room for so much behind what a builder has: some arena would hold more than it may, or something counts too far, be it
-- the names that are made up, or the parameters that are types or constants.
abbrev pub Short : Size → Builder → Type 0
Short n b =
    let s = b.stored in
    (s.exprs.limit < length s.exprs.entries + n.exprs)
    ⊎ ((s.labels.limit < length s.labels.entries + n.labels)
    ⊎ ((s.pats.limit < length s.pats.entries + length n.pats)
    ⊎ ((s.bindings.limit < length s.bindings.entries + n.bindings)
    ⊎ ((s.types.limit < length s.types.entries + length n.types)
    ⊎ ((s.lifetimes.limit < length s.lifetimes.entries + length n.lifetimes)
    ⊎ (n.overcounts ⊎ ((2 ^ 32 ≤ b.names + n.names)
    ⊎ (2 ^ 32 ≤ length b.tracks.generics.type_or_consts + n.params))))))))

-- behind what there is there is no room for the tree
abbrev pub TooLarge : Builder → OptionExpr → Type 0
TooLarge b e = Short (size_part e) b

-- nor for a body with its parameters, which may be a coroutine, or be skipped
abbrev pub BodyTooLarge : Builder → Option CoroutineKind → Bool → Formals → OptionExpr → Type 0
BodyTooLarge b kind skipped f e = Short (body_size kind skipped f e) b
