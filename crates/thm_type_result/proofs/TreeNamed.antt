-- Of a lowered tree, its types and paths, and the expressions and patterns, each type and each pattern is named in one way.
use Rattle.std.proofs.Common.{arith, ℕ, Bool, true, false, List, [], ◌∷◌, ◌++◌, Option, Some, None}
use Rattle.std.specs.Prelude.{option_map}
use Rattle.hir_store.specs.Pointers.{Pointer}
use Rattle.hir_store.specs.declared.hir.MatchArm.{MatchArm}
use Rattle.hir_store.specs.declared.hir.RecordLitField.{RecordLitField}
use Rattle.hir_store.specs.declared.hir.Statement.{Statement}
use Rattle.hir_store.specs.declared.hir.Statement.TheVariants as statement
use Rattle.hir_store.specs.declared.ids.ExprId.{ExprId}
use Rattle.hir_store.specs.declared.ids.PatId.{PatId}
use Rattle.hir_store.specs.declared.ids.TypeRefId.{TypeRefId}
use Rattle.hir_store.specs.declared.pat.RecordFieldPat.{RecordFieldPat}
use Rattle.hir_store.specs.declared.path.GenericArg.TheVariants as arg
use Rattle.hir_store.specs.declared.type_ref.TypeBound.{TypeBound}
use Rattle.hir_env.specs.ResolvedTree as tree
use Rattle.hir_env.specs.ResolvedTree.{OptionType, OptionPath, OptionArgs, Arms, Arm, Guard, Pat, OptionPat, Pats, PatFields, PatField}
use Rattle.hir_env.specs.ResolvedTree.{Side}
use Rattle.hir_env.specs.ResolvedTree.{Expr, OptionExpr, Exprs, Fields, Field, Spread as TreeSpread, Block, OptionBlock, Stmts, Stmt}
use Rattle.hir_env.specs.ResolvedTree.{Binder, Type_, Parts, Path as TreePath, Segments, Segment, SegmentArgs, OptionParens, OptionRet}
use Rattle.hir_env.specs.ResolvedTree.{Args, Arg, Bounds, Bound, Constant, TypePat, OptionTypePat, TypePats, Limit, Target, Targets}
use Rattle.hir_env.specs.ResolvedTree.{TargetFields, TargetField, Param, Params}
use Rattle.hir_lower_builder.specs.declared.args.ArgLists.{ArgLists}
use Rattle.hir_lower_builder.specs.declared.closures.ClosureParams.{ClosureParams}
use Rattle.hir_lower_builder.specs.Lower.{lower_param, lower_params, no_closure_params}
use Rattle.hir_lower_builder.specs.declared.walk.PathWalk.{PathWalk}
use Rattle.hir_lower_builder.specs.declared.walk.Reading.TheVariants.{Open}
use Rattle.hir_lower_builder.specs.Lowering.{Lowering, ◌>>=◌, pure}
use Rattle.hir_lower_builder.specs.Paths.{alias_of}
use Rattle.hir_lower_builder.specs.Walks.{start, at_first, path_read}
use Rattle.hir_lower_builder.specs.Types.{no_lists}
use Rattle.hir_lower_builder.specs.Pats.{Elements, no_elements, no_names, is_dots, next_alternative}
use Rattle.hir_lower_builder.specs.Targets.{add_target, add_target_dots}
use Rattle.hir_lower_builder.specs.Lower.{push_some}
use Rattle.hir_lower_builder.specs.Lower.{lower, lower_part, present, kept_part, lower_each, lower_fields, lower_field, lower_spread}
use Rattle.hir_lower_builder.specs.Lower.{lower_block, lower_block_part, lower_stmts, lower_stmt, lower_path, args_part, type_part}
use Rattle.hir_lower_builder.specs.Lower.{lower_type, present_type, type_or_unit, lower_parts, read_segment, read_each, read_path}
use Rattle.hir_lower_builder.specs.Lower.{read_option, lower_segment_args, parens_part, output_part, lower_args, lower_arg}
use Rattle.hir_lower_builder.specs.Lower.{lower_bounds, lower_bound, lower_constant, lower_rooted, present_block, lower_arms, lower_arm}
use Rattle.hir_lower_builder.specs.Lower.{lower_guard}
use Rattle.hir_lower_builder.specs.Lower.{lower_top, lower_pat, pat_part, present_pat, lower_pats, lower_elements, lower_alternatives}
use Rattle.hir_lower_builder.specs.Lower.{lower_later, lower_pat_fields, lower_pat_field, lower_side, lower_type_pat_part, lower_type_pat}
use Rattle.hir_lower_builder.specs.Lower.{lower_type_pats, lower_limit, limit_side, lower_target, lower_targets, lower_target_fields}
use Rattle.hir_lower_builder.specs.Lower.{lower_target_field}
use Rattle.thm_logic.proofs.Calls.{only_gone, only_track, only_emitted}
use Rattle.thm_type_result.specs.Reached.{of_bound, of_each, of_present}
use Rattle.thm_type_result.specs.Named.{Look, of_arm, of_pat_field, of_statement}
use Rattle.thm_type_result.proofs.Counted.{times_append}
use Rattle.thm_type_result.proofs.Numbers as numbers
use Rattle.thm_type_result.proofs.Adding.{Numbers, none}
use Rattle.thm_type_result.proofs.Asked.{Correct, Adds, Quiet, adds_pure, adds_then, adds_beside, adds_quiet, adds_from, adds_type}
use Rattle.thm_type_result.proofs.Asked.{adds_pat, adds_done, keeps_table, any_table}
use Rattle.thm_type_result.proofs.Owned.{a_type, maybe_type, types, a_bound, bounds, arguments, lists, maybe_path, walk, reading, a_pat}
use Rattle.thm_type_result.proofs.Owned.{uses_add, leaf_below, error_adds, unit_adds, over_adds, array_adds, tuple_adds, path_type_adds}
use Rattle.thm_type_result.proofs.Owned.{ref_adds, fn_adds, impl_adds, dyn_adds, path_bound_adds, proceed_adds, whole_adds, super_adds}
use Rattle.thm_type_result.proofs.Owned.{self_adds, at_first_adds, bare_adds, with_trait_adds, parens_form_adds, args_form_adds}
use Rattle.thm_type_result.proofs.Owned.{binding_adds, none_more, one_more, pattern_adds, lifetime_adds, uncalled_type_names}
use Rattle.thm_type_result.proofs.OwnedPats as pats
use Rattle.thm_type_result.proofs.OwnedPats.{uncalled_pat_names}
use Rattle.thm_type_result.proofs.Becoming.{aliased_adds}
use Rattle.thm_type_result.proofs.Naming.{adds_owning}
use Rattle.thm_type_result.proofs.Naming.{quiet_pure, quiet_then, quiet_some, quiet_alloc, quiet_report, quiet_constant, quiet_inner}
use Rattle.thm_type_result.proofs.Naming.{called_names, called_type_names, quiet_only, quiet_settle}
use Rattle.thm_type_result.proofs.NamingForms.{missing_quiet, leaf_quiet, unary_quiet, binary_quiet, leaving_quiet, if_quiet, loop_quiet}
use Rattle.thm_type_result.proofs.NamingForms.{iteration_quiet, repeat_quiet, const_quiet}
use Rattle.thm_type_result.proofs.NamingMade.{condition_quiet, question_quiet, try_block_quiet, typed_try_quiet}
use Rattle.thm_type_result.proofs.NamingFors.{for_quiet}
use Rattle.thm_type_result.proofs.DefNaming.{behind_named, define_named, emitted_named}
use Rattle.hir_env.specs.Conditions.{holds_let}
use Rattle.hir_env.specs.Targets.{head_pointer}
use Rattle.thm_type_result.proofs.NamingForms.{call_quiet, continue_quiet, break_quiet, paren_quiet, operand_quiet, operands_quiet}
use Rattle.thm_type_result.proofs.ClosureNaming.{closure_quiet, coroutine_block_quiet, coroutine_closure_quiet, coroutine_quiet}
use Rattle.thm_type_result.proofs.ClosureNaming.{param_adds, params_named, yield_quiet}
use Rattle.thm_type_result.proofs.NamingForms.{value_quiet, list_quiet, await_quiet, field_quiet, block_form_quiet, path_quiet, cast_quiet}
use Rattle.thm_type_result.proofs.NamingForms.{offset_of_quiet, method_call_quiet, record_quiet, contents_quiet, labelled_quiet}
use Rattle.thm_type_result.proofs.NamingForms.{called_quiet, kept_quiet, contents, uncalled_quiet}

-- what is there comes behind others
pub some_then : {A C : Type 0} {now : C → Numbers} (names : Look → A → List ℕ) {p : Lowering (Option A)} {q : List A → Lowering C}
    → Correct p (Adds none (λ o l. of_present (names l) o))
    → ((done : List A) → Correct (q done) (Adds (λ l. of_each (names l) done) now))
    → (done : List A) → Correct (p >>= (λ o. q (push_some done o))) (Adds (λ l. of_each (names l) done) now)
some_then {A = A} {now = now} names {q = q} h k done = adds_then (adds_beside (λ l. of_each (names l) done) h) by
  where
    by : (o : Option A) → Correct (q (push_some done o)) (Adds (λ l. of_each (names l) done ++ of_present (names l) o) now)
    by None = adds_from (λ l n. let s = times_append n (of_each (names l) done) [] in omega arith) (k done)
    by (Some a) = adds_from
        (λ l n. let e = numbers.each_push (names l) done a n in
        let s = times_append n (of_each (names l) done) (names l a) in omega arith)
        (k (done ++ a ∷ []))

-- an expression is no statement that names anything
expr_statement : (semi : Bool) (o : Option ExprId)
    → Correct (pure (option_map (λ i. statement.Expr i semi) o)) (Adds none pats.maybe_statement)
expr_statement semi None = adds_pure None (λ l k. omega arith)
expr_statement semi (Some i) = adds_pure (Some (statement.Expr i semi)) (λ l k. omega arith)

-- types and paths hold constants, which are expressions, and these name types, paths and patterns

mutual
  -- types and paths

  type_adds : (b : Option Binder) (t : Type_) → Correct (lower_type b t) (Adds none a_type)
  type_adds b (tree.paren_type t) = part_adds b t
  type_adds b (tree.macro_type at c tree.no_type) = uncalled_type_names at c
  type_adds b (tree.macro_type at c (tree.some_type t)) = called_type_names at c (type_adds b t)
  type_adds b (tree.for_type names t) = part_adds (Some names) t
  type_adds b (tree.leaf_type at form) = adds_type _ (Some at) (leaf_below form)
  type_adds b (tree.over_type at form t) = over_adds at form (part_adds None t)
  type_adds b (tree.array_type at c t) = array_adds at (constant_quiet c) (part_adds None t)
  type_adds b (tree.tuple_type at ts) = tuple_adds at (parts_add [] ts)
  type_adds b (tree.path_type at p) = path_type_adds at (path_adds p)
  type_adds b (tree.ref_type at l mutability t) = ref_adds at mutability l (part_adds None t)
  type_adds b (tree.fn_type at head ts r) = fn_adds at b head (parts_add [] ts) (or_unit_adds r)
  type_adds b (tree.impl_type at mode bs) = impl_adds at mode (bounds_add [] bs)
  type_adds b (tree.nested_impl at) = adds_type _ (Some at) (λ f k. omega arith)
  type_adds b (tree.dyn_type at bs) = dyn_adds at (bounds_add [] bs)
  type_adds b (tree.pattern_type at t own p) = pattern_adds at (part_adds None t) (type_pat_part_adds p)

  pub part_adds : (b : Option Binder) (t : OptionType) → Correct (type_part b t) (Adds none a_type)
  part_adds b tree.no_type = error_adds
  part_adds b (tree.some_type t) = type_adds b t

  present_adds : (t : OptionType) → Correct (present_type t) (Adds none maybe_type)
  present_adds tree.no_type = adds_pure None (λ f k. omega arith)
  present_adds (tree.some_type t) = adds_then (type_adds None t) (λ i. adds_pure (Some i) (λ f k. omega arith))

  or_unit_adds : (t : OptionType) → Correct (type_or_unit t) (Adds none a_type)
  or_unit_adds tree.no_type = unit_adds
  or_unit_adds (tree.some_type t) = type_adds None t

  parts_add : (done : List TypeRefId) (ts : Parts) → Correct (lower_parts done ts) (Adds (types done) types)
  parts_add done tree.no_parts = none_more (λ l. l.types) done
  parts_add done (tree.more_parts t ts) = one_more (λ l. l.types) (part_adds None t) (λ xs. parts_add xs ts) done

  segment_adds : (first : Bool) (s : Segment) (w : PathWalk) → Correct (read_segment first s w) (Adds (walk w) reading)
  segment_adds first tree.absent_segment w = bare_adds _ w
  segment_adds first tree.broken_segment w = adds_pure _ (λ f k. omega arith)
  segment_adds first (tree.name_segment n _ as') w = adds_then (adds_beside (walk w) (segment_args_add as'))
      (λ a. adds_pure _ (λ o. numbers.named_less o.types n a w))
  segment_adds first tree.self_type_segment w = bare_adds _ w
  segment_adds false tree.crate_segment w = adds_pure _ (λ f k. omega arith)
  segment_adds true tree.crate_segment w = adds_pure _ (λ f k. omega arith)
  segment_adds false (tree.dollar_crate_segment root) w = adds_pure _ (λ f k. omega arith)
  segment_adds true (tree.dollar_crate_segment root) w = adds_pure _ (λ f k. omega arith)
  segment_adds false tree.self_segment w = adds_pure _ (λ f k. omega arith)
  segment_adds true tree.self_segment w = self_adds w
  segment_adds first tree.super_segment w = super_adds w
  segment_adds false (tree.type_segment t) w = adds_pure _ (λ f k. omega arith)
  segment_adds true (tree.type_segment t) w = adds_then (adds_beside (walk w) (type_adds None t))
      (λ i. adds_pure _ (λ o. numbers.anchored_less o.types i w))
  segment_adds false (tree.trait_segment t at p) w = adds_pure _ (λ f k. omega arith)
  segment_adds true (tree.trait_segment t at p) w = adds_then (adds_beside (walk w) (type_adds None t))
      (λ i. with_trait_adds i at w (path_adds p))

  each_adds : (ss : Segments) (w : PathWalk) → Correct (read_each ss w) (Adds (walk w) reading)
  each_adds tree.no_segments w = adds_pure (Open w) (λ f k. omega arith)
  each_adds (tree.more_segments s ss) w = adds_then (each_adds ss w) (λ r. proceed_adds r (λ v. segment_adds false s v))

  reading_adds : (p : TreePath) (w : PathWalk) → Correct (read_path p w) (Adds (walk w) reading)
  reading_adds (tree.path alias leading first rest use_) w =
      whole_adds (adds_then (each_adds rest w)
      (λ r. proceed_adds r (λ v. at_first_adds leading v (segment_adds true first (at_first leading v)))))
      (λ v. option_adds use_ v)

  option_adds : (p : OptionPath) (w : PathWalk) → Correct (read_option p w) (Adds (walk w) reading)
  option_adds tree.no_path w = adds_pure (Open w) (λ f k. omega arith)
  option_adds (tree.some_path p) w = reading_adds p w

  pub path_adds : (p : OptionPath) → Correct (lower_path p) (Adds none maybe_path)
  path_adds tree.no_path = adds_pure None (λ f k. omega arith)
  path_adds (tree.some_path p) =
      aliased_adds (alias_of p) (adds_then (reading_adds p start) (λ r. adds_pure (path_read r) (λ o. numbers.path_read_less o.types r)))

  segment_args_add : (as' : SegmentArgs) → Correct (lower_segment_args as') (Adds none arguments)
  segment_args_add (tree.segment_args as' ps dots) = args_form_adds (args_add as') (parens_add ps) dots

  parens_add : (ps : OptionParens) → Correct (parens_part ps) (Adds none arguments)
  parens_add tree.no_parens = adds_pure None (λ f k. omega arith)
  parens_add (tree.some_parens ts r) = parens_form_adds (parts_add [] ts) (output_adds r)

  output_adds : (r : OptionRet) → Correct (output_part r) (Adds none a_type)
  output_adds tree.no_ret = unit_adds
  output_adds (tree.some_ret t) = part_adds None t

  pub args_add : (as' : OptionArgs) → Correct (args_part as') (Adds none arguments)
  args_add tree.no_arg_list = adds_pure None (λ f k. omega arith)
  args_add (tree.some_arg_list as') = adds_then (each_arg_adds no_lists as') (λ l. adds_pure _ (λ o. numbers.yielded_less o.types l))

  each_arg_adds : (l : ArgLists) (as' : Args) → Correct (lower_args l as') (Adds (lists l) lists)
  each_arg_adds l tree.no_args = adds_pure l (λ f k. omega arith)
  each_arg_adds l (tree.more_args a as') = adds_then (arg_adds l a) (λ m. each_arg_adds m as')

  arg_adds : (l : ArgLists) (a : Arg) → Correct (lower_arg l a) (Adds (lists l) lists)
  arg_adds l tree.skipped_arg = adds_pure l (λ f k. omega arith)
  arg_adds l (tree.type_arg t) = adds_then (adds_beside (lists l) (part_adds None t))
      (λ i. adds_pure _ (λ o. numbers.arg_added o.types l (arg.Type_ i)))
  arg_adds l (tree.lifetime_arg x) = adds_then (lifetime_adds x) (λ i. adds_pure _ (λ o. numbers.lifetime_added o.types l i))
  arg_adds l (tree.const_arg c) = adds_then (adds_quiet (constant_quiet c)) (λ x. adds_pure _ (λ o. numbers.constant_added o.types l x))
  arg_adds l (tree.assoc_arg name as' dots t bs) = adds_then (adds_beside (lists l)
      (binding_adds name dots (args_add as') (present_adds t) (bounds_add [] bs)))
      (λ b. adds_pure _ (λ o. numbers.binding_added o.types l b))

  bounds_add : (done : List TypeBound) (bs : Bounds) → Correct (lower_bounds done bs) (Adds (bounds done) bounds)
  bounds_add done tree.no_bounds = none_more (λ l b. of_bound l.types b) done
  bounds_add done (tree.more_bounds b bs) = one_more (λ l b. of_bound l.types b) (bound_adds b) (λ xs. bounds_add xs bs) done

  pub bound_adds : (b : Bound) → Correct (lower_bound b) (Adds none a_bound)
  bound_adds tree.error_bound = adds_pure _ (λ f k. omega arith)
  bound_adds (tree.path_bound at p maybe binder) = path_bound_adds at maybe binder (path_adds p)
  bound_adds (tree.lifetime_bound l) = adds_then (lifetime_adds l) (λ i. adds_pure _ (λ f k. omega arith))
  bound_adds (tree.use_bound us) = adds_then (uses_add [] us) (λ xs. adds_pure _ (λ f k. omega arith))

  -- constants

  pub constant_quiet : (c : Constant) → Correct (lower_constant c) Quiet
  constant_quiet (tree.constant e) = adds_owning (λ c. c.expr) (quiet_constant (part_quiet e))

  pub rooted_quiet : (c : Constant) → Correct (lower_rooted c) Quiet
  rooted_quiet (tree.constant e) = quiet_constant (part_quiet e)

  -- patterns of types, whose limits are expressions

  type_pat_part_adds : (p : OptionTypePat) → Correct (lower_type_pat_part p) (Adds none a_pat)
  type_pat_part_adds tree.no_type_pat = pats.missing_named
  type_pat_part_adds (tree.some_type_pat p) = type_pat_adds p

  type_pat_adds : (p : TypePat) → Correct (lower_type_pat p) (Adds none a_pat)
  type_pat_adds (tree.not_null_type_pat at) = adds_pat _ (Some at) (λ l k. omega arith)
  type_pat_adds (tree.macro_type_pat at c tree.no_type_pat) = uncalled_pat_names at c
  type_pat_adds (tree.macro_type_pat at c (tree.some_type_pat p)) = called_names at c (λ i. i) (type_pat_adds p)
  type_pat_adds (tree.or_type_pat at ps) = pats.type_alternatives_adds at (type_pats_add [] ps)
  type_pat_adds (tree.range_type_pat at low high) = pats.limits_adds at (limit_quiet low) (limit_quiet high)
  type_pat_adds (tree.other_type_pat at) = adds_pat _ (Some at) (λ l k. omega arith)

  type_pats_add : (done : List PatId) (ps : TypePats) → Correct (lower_type_pats done ps) (Adds (pats.pats done) pats.pats)
  type_pats_add done tree.no_type_pats = none_more (λ l. l.pats) done
  type_pats_add done (tree.more_type_pats p ps) = one_more (λ l. l.pats) (type_pat_adds p) (λ is. type_pats_add is ps) done

  pub limit_quiet : (x : Limit) → Correct (lower_limit x) Quiet
  limit_quiet (tree.item_limit item) = quiet_inner (pats.item_quiet item)
  limit_quiet (tree.side_limit s) = quiet_inner (limit_side_quiet s)
  limit_quiet (tree.before_limit item s) = quiet_inner (pats.before_quiet item (limit_side_quiet s))

  limit_side_quiet : (s : Side) → Correct (limit_side s) Quiet
  limit_side_quiet tree.no_side = missing_quiet
  limit_side_quiet (tree.literal_side at s) = pats.literal_limit_quiet at s
  limit_side_quiet (tree.name_side at n _) = pats.name_limit_quiet at n
  limit_side_quiet (tree.path_side at p) = pats.path_limit_quiet at (path_adds p)
  limit_side_quiet tree.other_side = missing_quiet

  -- expressions

  node_quiet : (e : Expr) → Correct (lower e) Quiet
  node_quiet (tree.disabled_expr why e) = quiet_then (quiet_only (only_gone why)) (λ u. missing_quiet)
  node_quiet (tree.if_expr at c t e) = if_quiet at (part_quiet c) (block_part_quiet t) (present_quiet e)
  node_quiet (tree.block_expr b) = block_quiet b
  node_quiet (tree.loop_expr at label _ b) = loop_quiet at _ label (block_part_quiet b)
  node_quiet (tree.while_expr at label _ c b) =
      loop_quiet at _ label (iteration_quiet at (condition_quiet at (holds_let c) (part_quiet c)) (block_part_quiet b))
  node_quiet (tree.for_expr at items label _ p h b) =
      for_quiet at (head_pointer at h) items label (part_quiet h) (top_adds p) (part_quiet b)
  node_quiet (tree.question_expr at items e) = question_quiet at items (part_quiet e)
  node_quiet (tree.itemless_expr at) = missing_quiet
  node_quiet (tree.try_expr at item tree.no_type number ss e) =
      try_block_quiet at item false number (stmts_add [] ss (kept_part_quiet e))
  node_quiet (tree.try_expr at item (tree.some_type t) number ss e) =
      typed_try_quiet at (try_block_quiet at item true number (stmts_add [] ss (kept_part_quiet e))) (type_adds None t)
  node_quiet (tree.coroutine_expr at kind moves number ss e) = adds_owning (λ i. i)
      (coroutine_quiet (coroutine_block_quiet at kind moves number (stmts_add [] ss (kept_part_quiet e))))
  node_quiet (tree.call_expr at f has_list es) = call_quiet at (part_quiet f) (each_quiet [] es)
  node_quiet (tree.path_expr at p h) = path_quiet at h (path_adds p)
  node_quiet (tree.continue_expr at jump) = continue_quiet at jump
  node_quiet (tree.break_expr at jump e) = break_quiet at jump (present_quiet e)
  node_quiet (tree.paren_expr at e) = paren_quiet at (part_quiet e)
  node_quiet (tree.macro_expr at c tree.no_expr) = uncalled_quiet at c
  node_quiet (tree.macro_expr at c (tree.some_expr e)) = called_quiet at c (node_quiet e)
  node_quiet (tree.literal_expr at l) = quiet_alloc _ (Some at) (λ f k. omega arith)
  node_quiet (tree.leaf_expr at form) = quiet_alloc _ (Some at) (leaf_quiet form)
  node_quiet (tree.unary_expr at form e) = operand_quiet at _ (unary_quiet form) (part_quiet e)
  node_quiet (tree.binary_expr at form a b) = operands_quiet at _ (binary_quiet form) (part_quiet a) (part_quiet b)
  node_quiet (tree.lazy_expr at op a b) = operands_quiet at _ (λ i j f k. omega arith) (part_quiet a) (part_quiet b)
  node_quiet (tree.list_expr at form es) = list_quiet at form (each_quiet [] es)
  node_quiet (tree.repeat_expr at e c) = repeat_quiet at (part_quiet e) (constant_quiet c)
  node_quiet (tree.const_expr at c) = adds_owning (λ i. i) (const_quiet at (rooted_quiet c))
  node_quiet (tree.closure_expr at moves is_static xs t e) = adds_owning (λ i. i)
      (closure_quiet at moves is_static (params_add no_closure_params xs) (present_adds t) (part_quiet e))
  node_quiet (tree.coroutine_closure_expr at kind moves xs t e) = adds_owning (λ i. i)
      (coroutine_closure_quiet at kind moves (params_add no_closure_params xs) (present_adds t) (part_quiet e))
  node_quiet (tree.method_call_expr at e name es generics) =
      method_call_quiet at name (part_quiet e) (each_quiet [] es) (args_add generics)
  node_quiet (tree.cast_expr at e t) = cast_quiet at (part_quiet e) (part_adds None t)
  node_quiet (tree.record_expr at p head fs s) = record_quiet at (path_adds p) (contents_quiet (fields_quiet [] fs) (spread_quiet s))
  node_quiet (tree.offset_of_expr at t names) = offset_of_quiet at names (part_adds None t)
  node_quiet (tree.leaving_expr at form e) = value_quiet at _ (leaving_quiet form) (present_quiet e)
  node_quiet (tree.become_expr at e) = operand_quiet at _ (λ i f k. omega arith) (part_quiet e)
  node_quiet (tree.yield_expr at e) = yield_quiet at (present_quiet e)
  node_quiet (tree.await_expr at location e) = await_quiet at location (part_quiet e)
  node_quiet (tree.nameless_expr at e) = operand_quiet at _ (λ i f k. omega arith) (part_quiet e)
  node_quiet (tree.let_expr at p e) = pats.let_quiet at (top_adds p) (part_quiet e)
  node_quiet (tree.match_expr at e arms) = pats.match_quiet at (part_quiet e) (arms_add [] arms)
  node_quiet (tree.range_expr at form low high) = pats.range_quiet at form (present_quiet low) (present_quiet high)
  node_quiet (tree.assign_expr at own target e) = pats.assign_quiet at (target_adds target) (part_quiet e)

  params_add : (c : ClosureParams) (xs : Params) → Correct (lower_params c xs) (Adds (params_named c) params_named)
  params_add c tree.no_params = adds_pure c (λ l k. omega arith)
  params_add c (tree.more_params x xs) = adds_then (one_param_adds c x) (λ d. params_add d xs)

  one_param_adds : (c : ClosureParams) (x : Param) → Correct (lower_param c x) (Adds (params_named c) params_named)
  one_param_adds c (tree.disabled_param at by x) = adds_then (adds_quiet (quiet_report _)) (λ u. adds_pure c (λ l k. omega arith))
  one_param_adds c (tree.param p t) = param_adds c (top_adds p) (present_adds t)

  pub part_quiet : (e : OptionExpr) → Correct (lower_part e) Quiet
  part_quiet tree.no_expr = missing_quiet
  part_quiet (tree.some_expr e) = node_quiet e

  present_quiet : (e : OptionExpr) → Correct (present e) Quiet
  present_quiet tree.no_expr = quiet_pure None
  present_quiet (tree.some_expr e) = quiet_some (node_quiet e)

  kept_part_quiet : (e : OptionExpr) → Correct (kept_part e) Quiet
  kept_part_quiet tree.no_expr = quiet_pure None
  kept_part_quiet (tree.some_expr e) = kept_quiet e (node_quiet e)

  each_quiet : (done : List ExprId) (es : Exprs) → Correct (lower_each done es) Quiet
  each_quiet done tree.no_exprs = quiet_pure done
  each_quiet done (tree.more_exprs e es) = quiet_then (kept_quiet e (node_quiet e)) (λ x. each_quiet _ es)

  fields_quiet : (done : List RecordLitField) (fs : Fields) → Correct (lower_fields done fs) Quiet
  fields_quiet done tree.no_fields = quiet_pure done
  fields_quiet done (tree.more_fields f fs) = quiet_then (one_field_quiet f) (λ x. fields_quiet _ fs)

  one_field_quiet : (f : Field) → Correct (lower_field f) Quiet
  one_field_quiet (tree.disabled_field at by f) = quiet_then (quiet_report _) (λ u. quiet_pure None)
  one_field_quiet (tree.nameless_field at e) = quiet_pure None
  one_field_quiet (tree.named_field at name e) = field_quiet at name (part_quiet e)

  spread_quiet : (s : TreeSpread) → Correct (lower_spread s) Quiet
  spread_quiet tree.no_spread = quiet_pure _
  spread_quiet tree.field_defaults = quiet_pure _
  spread_quiet (tree.spread_of e) = quiet_then (node_quiet e) (λ i. quiet_pure _)

  block_quiet : (b : Block) → Correct (lower_block b) Quiet
  block_quiet (tree.block at is_unsafe label _ number ss e) =
      labelled_quiet label (λ n. block_form_quiet at is_unsafe n number (stmts_add [] ss (kept_part_quiet e)))

  block_part_quiet : (b : OptionBlock) → Correct (lower_block_part b) Quiet
  block_part_quiet tree.no_block = missing_quiet
  block_part_quiet (tree.some_block b) = block_quiet b

  stmts_add : (done : List Statement) (ss : Stmts) {tail : Lowering (Option ExprId)} → Correct tail Quiet
      → Correct (lower_stmts done ss tail) (Adds (pats.statements done) contents)
  stmts_add done tree.no_stmts h = adds_then (adds_quiet h) (λ t. adds_pure (done, t) (λ l k. omega arith))
  stmts_add done (tree.more_stmts s ss) h = some_then of_statement (stmt_adds s) (λ xs. behind_named s (stmts_add xs ss h)) done

  stmt_adds : (s : Stmt) → Correct (lower_stmt s) (Adds none pats.maybe_statement)
  stmt_adds (tree.expr_stmt e semi) = adds_then (kept_part_quiet e) (expr_statement semi)
  stmt_adds (tree.disabled_stmt at by s) = adds_then (quiet_report _) (λ u. adds_pure None (λ l k. omega arith))
  stmt_adds tree.item_stmt = adds_pure _ (λ l k. omega arith)
  stmt_adds (tree.call_stmt c) = adds_then (quiet_only (only_track c)) (λ u. adds_pure None (λ l k. omega arith))
  stmt_adds (tree.macro_stmt k d) = define_named k d
  stmt_adds (tree.let_stmt p t e b) = pats.let_stmt_adds (top_adds p) (present_adds t) (present_quiet e) (present_block_quiet b)

  present_block_quiet : (b : OptionBlock) → Correct (present_block b) Quiet
  present_block_quiet tree.no_block = quiet_pure None
  present_block_quiet (tree.some_block b) = quiet_some (block_quiet b)

  arms_add : (done : List MatchArm) (as' : Arms) → Correct (lower_arms done as') (Adds (pats.arms done) pats.arms)
  arms_add done tree.no_arms = none_more of_arm done
  arms_add done (tree.more_arms a as') = some_then of_arm (arm_adds a) (λ xs. arms_add xs as') done

  arm_adds : (a : Arm) → Correct (lower_arm a) (Adds none pats.maybe_arm)
  arm_adds (tree.disabled_arm at by a) = adds_then (quiet_report _) (λ u. adds_pure None (λ l k. omega arith))
  arm_adds (tree.arm p e g) = pats.arm_adds (top_adds p) (part_quiet e) (guard_quiet g)

  guard_quiet : (g : Guard) → Correct (lower_guard g) Quiet
  guard_quiet tree.no_guard = quiet_pure None
  guard_quiet (tree.guard e) = quiet_some (part_quiet e)

  -- patterns

  pub top_adds : (p : OptionPat) → Correct (lower_top p) (Adds none a_pat)
  top_adds tree.no_pat = pats.missing_named
  top_adds (tree.some_pat p) = adds_then (any_table (pat_adds p no_names)) (λ r. adds_then (adds_quiet (quiet_settle r.1))
      (λ u. adds_pure r.0 (λ l k. omega arith)))

  pat_adds : (p : Pat) → pats.Each none a_pat (lower_pat p)
  pat_adds (tree.leaf_pat at form) t = pats.alone_adds (pats.leaf_pat_adds at form) t
  pat_adds (tree.bind_pat at u _ p) t = pats.bind_adds at u (subpat_adds p) t
  pat_adds (tree.name_pat at u _) t = pats.alone_adds (adds_pat _ (Some at) (λ l k. omega arith)) t
  pat_adds (tree.path_pat at p) t = pats.alone_adds (pats.path_pat_adds at (path_adds p)) t
  pat_adds (tree.tuple_struct_pat at p comma ps) t = pats.tuple_struct_adds at comma (elements_add no_elements ps) (path_adds p) t
  pat_adds (tree.tuple_pat at comma ps) t = pats.tuple_pat_adds at comma (elements_add no_elements ps) t
  pat_adds (tree.record_pat at p fs dots) t = pats.record_pat_adds at dots (pat_fields_add [] fs) (path_adds p) t
  pat_adds (tree.or_pat at ps) t = alternatives_add at ps t
  pat_adds (tree.paren_pat at p) t = pat_part_adds p t
  pat_adds (tree.macro_pat at c tree.no_pat) t = pats.alone_adds (uncalled_pat_names at c) t
  pat_adds (tree.macro_pat at c (tree.some_pat p)) t = pats.called_adds at c (pat_adds p) t
  pat_adds (tree.barred_pat at) t = pats.alone_adds (pats.barred_pat_names at) t
  pat_adds (tree.slice_pat at before p behind) t =
      pats.slice_pat_adds at (pats_add [] before) (subpat_adds p) (pats_add [] behind) t
  pat_adds (tree.over_pat at form p) t = pats.over_pat_adds at form (pat_part_adds p) t
  pat_adds (tree.literal_pat at own x) t = pats.alone_adds (pats.literal_pat_adds at own x) t
  pat_adds (tree.range_pat at op low high) t = pats.alone_adds (pats.range_pat_adds at op (side_quiet low) (side_quiet high)) t

  pat_part_adds : (p : OptionPat) → pats.Each none a_pat (pat_part p)
  pat_part_adds tree.no_pat t = pats.alone_adds pats.missing_named t
  pat_part_adds (tree.some_pat p) t = pat_adds p t

  subpat_adds : (p : OptionPat) → pats.Each none pats.maybe_pat (present_pat p)
  subpat_adds tree.no_pat t = adds_done (None, t) (λ l k. omega arith) (λ P x. x)
  subpat_adds (tree.some_pat p) t = adds_then (pat_adds p t) (λ r. adds_done (Some r.0, r.1) (λ l k. omega arith) (λ P x. x))

  pats_add : (done : List PatId) (ps : Pats) → pats.Each (pats.pats done) pats.pats (lower_pats done ps)
  pats_add done tree.no_pats t = adds_done (done, t) (λ l k. omega arith) (λ P x. x)
  pats_add done (tree.more_pats p ps) t = adds_then (adds_beside (pats.pats done) (pat_adds p t))
      (λ r. adds_from (λ l. pats.pushed done r.0 l) (pats_add (done ++ r.0 ∷ []) ps r.1))
  pats_add done (tree.tracked_pats c ps) t = adds_then (emitted_named c) (λ u. pats_add done ps t)

  elements_add : (done : Elements) (ps : Pats) → pats.Each (pats.elements done) pats.elements (lower_elements done ps)
  elements_add done tree.no_pats t = adds_done (done, t) (λ l k. omega arith) (λ P x. x)
  elements_add done (tree.more_pats p ps) t =
      adds_then (pats.element_adds (is_dots p) done (pat_adds p) t) (λ r. elements_add r.0 ps r.1)
  elements_add done (tree.tracked_pats c ps) t = adds_then (emitted_named c) (λ u. elements_add done ps t)

  alternatives_add : (at : Pointer) (ps : Pats) → pats.Each none a_pat (lower_alternatives at ps)
  alternatives_add at tree.no_pats t = pats.alone_adds (adds_pat _ (Some at) (λ l k. omega arith)) t
  alternatives_add at (tree.more_pats p ps) t = pats.or_adds at (pat_adds p) (λ done. later_add ps done) t
  alternatives_add at (tree.tracked_pats c ps) t = adds_then (emitted_named c) (λ u. alternatives_add at ps t)

  later_add : (ps : Pats) (done : List PatId) → pats.Each (pats.pats done) pats.pats (lower_later ps done)
  later_add tree.no_pats done t = adds_done (done, t) (λ l k. omega arith) (λ P x. x)
  later_add (tree.more_pats p ps) done t = adds_then (adds_beside (pats.pats done) (pat_adds p (next_alternative t)))
      (λ r. adds_from (λ l. pats.pushed done r.0 l) (later_add ps (done ++ r.0 ∷ []) r.1))
  later_add (tree.tracked_pats c ps) done t = adds_then (emitted_named c) (λ u. later_add ps done t)

  pat_fields_add : (done : List RecordFieldPat) (fs : PatFields) → pats.Each (pats.fields done) pats.fields (lower_pat_fields done fs)
  pat_fields_add done tree.no_pat_fields t = adds_done (done, t) (λ l k. omega arith) (λ P x. x)
  pat_fields_add done (tree.more_pat_fields f fs) t = adds_then (adds_beside (pats.fields done) (pat_field_add f t))
      (λ r. adds_from (λ l. pats.field_pushed done r.0 l) (pat_fields_add (push_some done r.0) fs r.1))

  pat_field_add : (f : PatField) → pats.Each none pats.maybe_field (lower_pat_field f)
  pat_field_add (tree.disabled_pat_field at by f) t = adds_then (keeps_table (quiet_report _))
      (λ u. adds_done (None, t) (λ l k. omega arith) (λ P x. x))
  pat_field_add tree.partless_pat_field t = adds_done (None, t) (λ l k. omega arith) (λ P x. x)
  pat_field_add (tree.pat_field at n p) t = pats.pat_field_adds at n (pat_adds p) t

  side_quiet : (s : Side) → Correct (lower_side s) Quiet
  side_quiet tree.no_side = quiet_pure None
  side_quiet (tree.literal_side at s) = pats.literal_side_quiet at s
  side_quiet (tree.name_side at n _) = pats.name_side_quiet at n
  side_quiet (tree.path_side at p) = pats.path_side_quiet at (path_adds p)
  side_quiet tree.other_side = quiet_pure None

  -- targets

  target_adds : (t : Target) → Correct (lower_target t) (Adds none a_pat)
  target_adds (tree.absent_target call) = pats.missing_target_adds call
  target_adds (tree.place_target at e) = pats.place_adds at (node_quiet e)
  target_adds (tree.macro_target None c t) = adds_then (quiet_only (only_emitted c)) (λ u. target_adds t)
  target_adds (tree.macro_target (Some at) c t) = adds_then (quiet_only (only_emitted c)) (λ u. pats.pointed_adds at (target_adds t))
  target_adds (tree.wild_target at) = pats.adds_target _ at (λ l k. omega arith)
  target_adds (tree.path_target at p h) = pats.path_target_adds at h (aliased_adds (alias_of p) (adds_then (reading_adds p start)
      (λ r. adds_pure (path_read r) (λ o. numbers.path_read_less o.types r))))
  target_adds (tree.tuple_target at ts) = pats.tuple_target_adds at (targets_add no_elements ts)
  target_adds (tree.call_target at p ts) = pats.call_target_adds at (targets_add no_elements ts) (path_adds p)
  target_adds (tree.array_target at before dots behind) =
      pats.array_target_adds at dots (targets_add no_elements before) (targets_add no_elements behind)
  target_adds (tree.record_target at p fs dots spread) = pats.record_target_adds at dots spread (target_fields_add [] fs) (path_adds p)

  targets_add : (done : Elements) (ts : Targets) → Correct (lower_targets done ts) (Adds (pats.elements done) pats.elements)
  targets_add done tree.no_targets = adds_pure done (λ l k. omega arith)
  targets_add done (tree.more_targets t ts) = adds_then (adds_beside (pats.elements done) (target_adds t))
      (λ i. adds_from (λ l. pats.pushed done.0 i l) (targets_add (add_target done i) ts))
  targets_add done (tree.dots_targets ts) = targets_add (add_target_dots done) ts
  targets_add done (tree.tracked_targets c ts) = adds_then (adds_quiet (quiet_only (only_emitted c))) (λ u. targets_add done ts)

  target_fields_add : (done : List RecordFieldPat) (fs : TargetFields)
      → Correct (lower_target_fields done fs) (Adds (pats.fields done) pats.fields)
  target_fields_add done tree.no_target_fields = none_more of_pat_field done
  target_fields_add done (tree.more_target_fields f fs) = some_then of_pat_field (target_field_add f) (λ xs. target_fields_add xs fs) done

  target_field_add : (f : TargetField) → Correct (lower_target_field f) (Adds none pats.maybe_field)
  target_field_add (tree.disabled_target_field at by) = adds_then (quiet_report _) (λ u. adds_pure None (λ l k. omega arith))
  target_field_add tree.partless_target_field = adds_pure None (λ l k. omega arith)
  target_field_add (tree.target_field at n t) = pats.target_field_adds at n (target_adds t)
