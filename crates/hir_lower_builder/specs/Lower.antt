-- What lowering makes of a resolved tree, in the order in which it makes it.
use Rattle.std.specs.Prelude.{Bool, true, false, List, [], ◌∷◌, ◌++◌, Option, Some, None, option_map}
use Rattle.hir_store.specs.Pointers.{Pointer}
use Rattle.hir_store.specs.declared.hir.Expr.TheVariants as hir
use Rattle.hir_store.specs.declared.hir.LoopSource.TheVariants as loop
use Rattle.hir_store.specs.declared.hir.MatchArm.{MatchArm}
use Rattle.hir_store.specs.declared.hir.Statement.{Statement}
use Rattle.hir_store.specs.declared.hir.Statement.TheVariants as statement
use Rattle.hir_store.specs.declared.hir.RecordLitField.{RecordLitField}
use Rattle.hir_store.specs.declared.hir.RecordSpread.{RecordSpread}
use Rattle.hir_store.specs.declared.hir.RecordSpread.TheVariants as spread
use Rattle.hir_store.specs.declared.pat.Pat.TheVariants as pat
use Rattle.hir_store.specs.declared.pat.RecordFieldPat.{RecordFieldPat}
use Rattle.hir_store.specs.declared.path.Path.{Path as HirPath}
use Rattle.hir_store.specs.declared.path.PathKind.TheVariants as kind
use Rattle.hir_store.specs.declared.path.GenericArg.TheVariants as arg
use Rattle.hir_store.specs.declared.path.GenericArgs.{GenericArgs}
use Rattle.hir_store.specs.declared.type_ref.TypeRef.TheVariants as type
use Rattle.hir_store.specs.declared.type_ref.ConstRef.{ConstRef}
use Rattle.hir_store.specs.declared.type_ref.TypeBound.{TypeBound}
use Rattle.hir_store.specs.declared.type_ref.TypeBound.TheVariants as bound
use Rattle.hir_store.specs.declared.ids.TypeRefId.{TypeRefId}
use Rattle.hir_store.specs.declared.ids.ExprId.{ExprId}
use Rattle.hir_store.specs.declared.ids.BlockId.{BlockId}
use Rattle.hir_store.specs.declared.ids.PatId.{PatId}
use Rattle.hir_store.specs.declared.diagnostics.ExpressionStoreDiagnostics.TheVariants.{InactiveCode}
use Rattle.hir_env.specs.ResolvedTree as tree
use Rattle.hir_env.specs.ResolvedTree.{Binder, Called, Type_, OptionType, Parts, Path, OptionPath, Segments, Segment, SegmentArgs}
use Rattle.hir_env.specs.ResolvedTree.{OptionParens, OptionRet, OptionArgs, Args, Arg, Bounds, Bound, Constant}
use Rattle.hir_env.specs.ResolvedTree.{Expr, OptionExpr, Exprs, Fields, Field, Spread, Block, OptionBlock, Stmts, Stmt}
use Rattle.hir_env.specs.ResolvedTree.{Arms, Arm, Guard, Param, Params}
use Rattle.hir_env.specs.ResolvedTree.{Pat, OptionPat, Pats, PatFields, PatField, Side, TypePat, OptionTypePat, TypePats}
use Rattle.hir_env.specs.ResolvedTree.{Limit, Target, Targets, TargetFields, TargetField}
use Rattle.hir_env.specs.Conditions.{holds_let}
use Rattle.hir_env.specs.Targets.{head_pointer}
use Rattle.hir_lower_builder.specs.declared.args.ArgLists.{ArgLists}
use Rattle.hir_lower_builder.specs.declared.closures.ClosureParams.{ClosureParams}
use Rattle.hir_lower_builder.specs.declared.parts.BlockRole.{BlockRole}
use Rattle.hir_lower_builder.specs.declared.parts.BlockRole.TheVariants as role
use Rattle.hir_lower_builder.specs.declared.walk.PathWalk.{PathWalk}
use Rattle.hir_lower_builder.specs.declared.walk.Reading.{Reading}
use Rattle.hir_lower_builder.specs.declared.walk.Reading.TheVariants.{Refused, Open}
use Rattle.hir_lower_builder.specs.Calls.{behind, define_form, track, track_gone, emitted}
use Rattle.hir_lower_builder.specs.Lowering.{Lowering, ◌>>=◌, ◌>>◌, pure, alloc_pat, alloc_type, alloc_expr, report}
unfoldable pub use Rattle.hir_lower_builder.specs.Lowering.{owning}
pub use Rattle.hir_lower_builder.specs.Forms.{ExprSteps, push_some, some, stored_leaf, stored_unary, stored_binary, stored_lazy}
pub use Rattle.hir_lower_builder.specs.Forms.{stored_leaving, stored_literal, path_hygiene, path_or_missing, StoredFields, settled}
pub use Rattle.hir_lower_builder.specs.Forms.{value_of, settled_block, StoredContents, record_of, kept, no_closure_params}
unfoldable pub use Rattle.hir_lower_builder.specs.Forms.{missing, if_form, loop_form, iteration_form, call_form, continue_form, break_form}
unfoldable pub use Rattle.hir_lower_builder.specs.Forms.{operand_form, operands_form, value_form, list_form, repeat_form, const_form}
unfoldable pub use Rattle.hir_lower_builder.specs.Forms.{closure_form, param_form, coroutine_form, coroutine_block_form}
unfoldable pub use Rattle.hir_lower_builder.specs.Forms.{yield_form, method_call_form}
unfoldable pub use Rattle.hir_lower_builder.specs.Preludes.{coroutine_closure_form}
unfoldable pub use Rattle.hir_lower_builder.specs.Forms.{cast_form, offset_of_form, record_contents, record_form, field_form}
unfoldable pub use Rattle.hir_lower_builder.specs.Forms.{await_form, paren_form, called_form, uncalled_form, path_form, let_form}
unfoldable pub use Rattle.hir_lower_builder.specs.Forms.{match_form, arm_form}
unfoldable pub use Rattle.hir_lower_builder.specs.Forms.{assign_form, let_stmt_form, block_form, labelled, constant_form}
unfoldable pub use Rattle.hir_lower_builder.specs.Made.{for_form, question_form, try_block_form, typed_try_form, hold_form, held_form}
pub use Rattle.hir_lower_builder.specs.Made.{condition_form}
use Rattle.hir_lower_builder.specs.Walks.{start, at_first, missing_name, self_type_name, named, ended, crate_kind}
use Rattle.hir_lower_builder.specs.Walks.{self_read, super_read, anchored, path_read}
use Rattle.hir_lower_builder.specs.Paths.{with_alias, alias_of, proceed, whole, or_count_out, with_trait, parens_form, segment_args_form}
use Rattle.hir_lower_builder.specs.Types.{called_type_form, uncalled_type}
use Rattle.hir_lower_builder.specs.Types.{TypeSteps, error_type, unit_type, lower_lifetime, lower_lifetime_option}
use Rattle.hir_lower_builder.specs.Types.{stored_leaf_type, over_form, array_type_form, pattern_type_form}
use Rattle.hir_lower_builder.specs.Types.{tuple_type_form, path_type_form, ref_type_form, fn_type_form, impl_type_form, dyn_type_form}
use Rattle.hir_lower_builder.specs.Types.{no_lists, add_arg, add_binding, yielded, lower_uses, binding_form, path_bound_form}
use Rattle.hir_lower_builder.specs.Pats.{Table, no_names, next_alternative, settle, missing_pat, unwritten_pattern, unwritten_side}
use Rattle.hir_lower_builder.specs.Pats.{barred_pat_form, called_pat_form, uncalled_pat}
use Rattle.hir_lower_builder.specs.Pats.{stored_pat_leaf, alone, path_pat_form}
use Rattle.hir_lower_builder.specs.Pats.{bind_form, name_pat_of, over_pat_form, Elements, no_elements, is_dots, element_form}
use Rattle.hir_lower_builder.specs.Pats.{tuple_pat_form, tuple_struct_form, pat_field_form, record_pat_form, slice_pat_form, or_form}
use Rattle.hir_lower_builder.specs.Pats.{literal_pat_form, literal_side_form, name_side_of, path_side_form, range_pat_form}
use Rattle.hir_lower_builder.specs.Ranges.{range_form, item_form, before_form, inner_form, literal_limit_form, name_limit_form}
use Rattle.hir_lower_builder.specs.Ranges.{path_limit_form, limits_form, type_alternatives_form}
use Rattle.hir_lower_builder.specs.Targets.{alloc_target, called_target, missing_target, place_form, path_target_form, add_target}
use Rattle.hir_lower_builder.specs.Targets.{add_target_dots, tuple_target_form, call_target_form}
use Rattle.hir_lower_builder.specs.Targets.{array_target_form, record_target_form, target_field_form}

-- a tree: types and paths hold constants, which hold expressions, which hold types, paths and patterns

abbrev mutual
  -- a type, with the names of the `for<..>` directly around it where one stands there
  pub lower_type : Option Binder → Type_ → TypeSteps
  lower_type binder (tree.paren_type t) = type_part binder t
  lower_type binder (tree.macro_type at called t) = called_type binder at called t
  -- of two binders the inner counts
  lower_type binder (tree.for_type names t) = type_part (Some names) t
  lower_type binder (tree.leaf_type at form) = alloc_type (stored_leaf_type form) (Some at)
  lower_type binder (tree.over_type at form t) = over_form at form (type_part None t)
  lower_type binder (tree.array_type at c t) = array_type_form at (lower_constant c) (type_part None t)
  lower_type binder (tree.tuple_type at ts) = tuple_type_form at (lower_parts [] ts)
  lower_type binder (tree.path_type at p) = path_type_form at (lower_path p)
  lower_type binder (tree.ref_type at l mutability t) = ref_type_form at mutability (type_part None t) (lower_lifetime_option l)
  lower_type binder (tree.fn_type at head ts r) = fn_type_form at binder head (lower_parts [] ts) (type_or_unit r)
  lower_type binder (tree.impl_type at mode bs) = impl_type_form at mode (lower_bounds [] bs)
  -- an `impl` inside an `impl`, whose bounds aren't read
  lower_type binder (tree.nested_impl at) = alloc_type type.Error (Some at)
  lower_type binder (tree.dyn_type at bs) = dyn_type_form at (lower_bounds [] bs)
  lower_type binder (tree.pattern_type at t own p) = pattern_type_form at (type_part None t) (lower_type_pat_part p)

  -- what a call stands for
  pub called_type : Option Binder → Pointer → Called → OptionType → TypeSteps
  called_type binder at called tree.no_type = uncalled_type at called
  called_type binder at called (tree.some_type t) = called_type_form at called (lower_type binder t)

  pub type_part : Option Binder → OptionType → TypeSteps
  type_part binder tree.no_type = error_type
  type_part binder (tree.some_type t) = lower_type binder t

  -- the type, where one is written
  pub present_type : OptionType → Lowering (Option TypeRefId)
  present_type tree.no_type = pure None
  present_type (tree.some_type t) = some (lower_type None t)

  pub type_or_unit : OptionType → TypeSteps
  type_or_unit tree.no_type = unit_type
  type_or_unit (tree.some_type t) = lower_type None t

  pub lower_parts : List TypeRefId → Parts → Lowering (List TypeRefId)
  lower_parts done tree.no_parts = pure done
  lower_parts done (tree.more_parts t ts) = do
    id ← type_part None t
    lower_parts (done ++ id ∷ []) ts

  -- the segment, which is the first of its path or stands behind another
  pub read_segment : Bool → Segment → PathWalk → Lowering Reading
  read_segment first tree.absent_segment w = pure (named missing_name None w)
  read_segment first tree.broken_segment w = pure Refused
  read_segment first (tree.name_segment n _ as') w = do
    a ← lower_segment_args as'
    pure (named n a w)
  read_segment first tree.self_type_segment w = pure (named self_type_name None w)
  read_segment false tree.crate_segment w = pure Refused
  read_segment true tree.crate_segment w = pure (ended kind.Crate w)
  read_segment false (tree.dollar_crate_segment root) w = pure Refused
  read_segment true (tree.dollar_crate_segment root) w = pure (ended (crate_kind root) w)
  read_segment false tree.self_segment w = pure Refused
  read_segment true tree.self_segment w = pure (self_read w)
  read_segment first tree.super_segment w = or_count_out (super_read w)
  read_segment false (tree.type_segment t) w = pure Refused
  read_segment true (tree.type_segment t) w = do
    id ← lower_type None t
    pure (anchored id w)
  read_segment false (tree.trait_segment t at p) w = pure Refused
  read_segment true (tree.trait_segment t at p) w = do
    id ← lower_type None t
    with_trait (lower_path p) id at w

  -- those behind the first, from the last
  pub read_each : Segments → PathWalk → Lowering Reading
  read_each tree.no_segments w = pure (Open w)
  read_each (tree.more_segments s ss) w = do
    r ← read_each ss w
    proceed r (read_segment false s)

  -- from the last segment to the first, then the path of the use tree around it
  pub read_path : Path → PathWalk → Lowering Reading
  read_path (tree.path alias leading first rest use_) w =
      whole (read_each rest w >>= (λ r. proceed r (λ v. read_segment true first (at_first leading v)))) (read_option use_)

  pub read_option : OptionPath → PathWalk → Lowering Reading
  read_option tree.no_path w = pure (Open w)
  read_option (tree.some_path p) w = read_path p w

  -- the path, or none where it is absent or refused
  pub lower_path : OptionPath → Lowering (Option HirPath)
  lower_path tree.no_path = pure None
  lower_path (tree.some_path p) = with_alias (alias_of p) (read_path p start >>= (λ r. pure (path_read r)))

  pub lower_segment_args : SegmentArgs → Lowering (Option GenericArgs)
  lower_segment_args (tree.segment_args as' ps dots) = segment_args_form (args_part as') (parens_part ps) dots

  pub parens_part : OptionParens → Lowering (Option GenericArgs)
  parens_part tree.no_parens = pure None
  parens_part (tree.some_parens ts r) = parens_form (lower_parts [] ts) (output_part r)

  -- `()` without `->`, and an error behind one without a type
  pub output_part : OptionRet → TypeSteps
  output_part tree.no_ret = unit_type
  output_part (tree.some_ret t) = type_part None t

  pub args_part : OptionArgs → Lowering (Option GenericArgs)
  args_part tree.no_arg_list = pure None
  args_part (tree.some_arg_list as') = do
    l ← lower_args no_lists as'
    pure (yielded l)

  pub lower_args : ArgLists → Args → Lowering ArgLists
  lower_args l tree.no_args = pure l
  lower_args l (tree.more_args a as') = do
    m ← lower_arg l a
    lower_args m as'

  pub lower_arg : ArgLists → Arg → Lowering ArgLists
  lower_arg l tree.skipped_arg = pure l
  lower_arg l (tree.type_arg t) = do
    id ← type_part None t
    pure (add_arg l (arg.Type_ id))
  lower_arg l (tree.lifetime_arg lifetime) = do
    id ← lower_lifetime lifetime
    pure (add_arg l (arg.Lifetime id))
  lower_arg l (tree.const_arg c) = do
    x ← lower_constant c
    pure (add_arg l (arg.Const x))
  lower_arg l (tree.assoc_arg name as' dots t bs) = do
    b ← binding_form name dots (args_part as') (present_type t) (lower_bounds [] bs)
    pure (add_binding l b)

  pub lower_bounds : List TypeBound → Bounds → Lowering (List TypeBound)
  lower_bounds done tree.no_bounds = pure done
  lower_bounds done (tree.more_bounds b bs) = do
    x ← lower_bound b
    lower_bounds (done ++ x ∷ []) bs

  pub lower_bound : Bound → Lowering TypeBound
  lower_bound tree.error_bound = pure bound.Error
  lower_bound (tree.path_bound at p maybe binder) = path_bound_form at maybe binder (lower_path p)
  lower_bound (tree.lifetime_bound l) = do
    id ← lower_lifetime l
    pure (bound.Lifetime id)
  lower_bound (tree.use_bound us) = do
    xs ← lower_uses [] us
    pure (bound.Use xs)

  -- constants

  -- a constant, which is a body of its own and owns its bindings
  pub lower_constant : Constant → Lowering ConstRef
  lower_constant (tree.constant e) = owning (λ c. c.expr) (constant_form (lower_part e))

  -- the one in a `const` block, which owns its bindings
  pub lower_rooted : Constant → Lowering ConstRef
  lower_rooted (tree.constant e) = constant_form (lower_part e)

  -- expressions

  pub lower : Expr → ExprSteps
  lower (tree.disabled_expr why e) = track_gone why >> missing
  lower (tree.if_expr at c t e) = if_form at (lower_part c) (lower_block_part t) (present e)
  lower (tree.block_expr b) = lower_block b
  lower (tree.loop_expr at label _ b) = loop_form at loop.Loop label (lower_block_part b)
  lower (tree.while_expr at label _ c b) =
      loop_form at loop.While label (iteration_form at (condition_form (holds_let c) at (lower_part c)) (lower_block_part b))
  lower (tree.for_expr at items label _ p h b) =
      for_form at (head_pointer at h) items label (lower_part h) (lower_top p) (lower_part b)
  lower (tree.question_expr at items e) = question_form at items (lower_part e)
  lower (tree.itemless_expr at) = missing
  lower (tree.try_expr at item t number ss e) =
      try_form at t (λ typed. try_block_form at item typed number (lower_stmts [] ss (kept_part e)))
  lower (tree.coroutine_expr at kind moves number ss e) =
      owning (λ i. i) (coroutine_form (coroutine_block_form at kind moves number (lower_stmts [] ss (kept_part e))))
  lower (tree.call_expr at f has_list es) = call_form at (lower_part f) (lower_each [] es)
  lower (tree.path_expr at p h) = path_form at h (lower_path p)
  lower (tree.continue_expr at jump) = continue_form at jump
  lower (tree.break_expr at jump e) = break_form at jump (present e)
  lower (tree.paren_expr at e) = paren_form at (lower_part e)
  lower (tree.macro_expr at called e) = called_expr at called e
  lower (tree.literal_expr at l) = alloc_expr (hir.Literal (stored_literal l)) (Some at)
  lower (tree.leaf_expr at form) = alloc_expr (stored_leaf form) (Some at)
  lower (tree.unary_expr at form e) = operand_form at (stored_unary form) (lower_part e)
  lower (tree.binary_expr at form a b) = operands_form at (stored_binary form) (lower_part a) (lower_part b)
  lower (tree.lazy_expr at op a b) = operands_form at (stored_lazy op) (lower_part a) (lower_part b)
  lower (tree.list_expr at form es) = list_form at form (lower_each [] es)
  lower (tree.repeat_expr at e c) = repeat_form at (lower_part e) (lower_constant c)
  lower (tree.const_expr at c) = owning (λ i. i) (const_form at (lower_rooted c))
  lower (tree.closure_expr at moves is_static ps r e) =
      owning (λ i. i) (closure_form at moves is_static (lower_params no_closure_params ps) (present_type r) (lower_part e))
  lower (tree.coroutine_closure_expr at kind moves ps r e) =
      owning (λ i. i) (coroutine_closure_form at kind moves (lower_params no_closure_params ps) (present_type r) (lower_part e))
  lower (tree.method_call_expr at e name es as') = method_call_form at (lower_part e) name (lower_each [] es) (args_part as')
  lower (tree.leaving_expr at form e) = value_form at (stored_leaving form) (present e)
  lower (tree.become_expr at e) = operand_form at hir.Become (lower_part e)
  lower (tree.yield_expr at e) = yield_form at (present e)
  lower (tree.await_expr at location e) = await_form at location (lower_part e)
  lower (tree.cast_expr at e t) = cast_form at (lower_part e) (type_part None t)
  lower (tree.record_expr at p head fs s) = record_form at (lower_path p) (record_contents (lower_fields [] fs) (lower_spread s))
  lower (tree.offset_of_expr at t ns) = offset_of_form at (type_part None t) ns
  lower (tree.nameless_expr at e) = operand_form at (λ i. hir.Missing) (lower_part e)
  lower (tree.let_expr at p e) = let_form at (lower_top p) (lower_part e)
  lower (tree.match_expr at e arms) = match_form at (lower_part e) (lower_arms [] arms)
  lower (tree.range_expr at form low high) = range_form at form (present low) (present high)
  lower (tree.assign_expr at own target e) = assign_form at (lower_target target) (lower_part e)

  -- what a call stands for
  pub called_expr : Pointer → Called → OptionExpr → ExprSteps
  called_expr at called tree.no_expr = uncalled_form at called
  called_expr at called (tree.some_expr e) = called_form at called (lower e)

  -- A `try`, of the steps of its block, in front of which a type is written or isn't. (It is a function of its own since to match a
  -- type inside of `lower` would make each step of lowering dear to compute.)
  pub try_form : Pointer → OptionType → (Bool → ExprSteps) → ExprSteps
  try_form at tree.no_type block = block false
  try_form at (tree.some_type t) block = typed_try_form at (block true) (lower_type None t)

  -- the parameters of a closure, of which a disabled one leaves a fault
  pub lower_params : ClosureParams → Params → Lowering ClosureParams
  lower_params l tree.no_params = pure l
  lower_params l (tree.more_params x xs) = do
    m ← lower_param l x
    lower_params m xs

  pub lower_param : ClosureParams → Param → Lowering ClosureParams
  lower_param l (tree.disabled_param at by x) = do
    report (InactiveCode at by)
    pure l
  lower_param l (tree.param p t) = param_form l (lower_top p) (present_type t)

  pub lower_part : OptionExpr → ExprSteps
  lower_part tree.no_expr = missing
  lower_part (tree.some_expr e) = lower e

  -- the part, where one is written
  pub present : OptionExpr → Lowering (Option ExprId)
  present tree.no_expr = pure None
  present (tree.some_expr e) = some (lower e)

  -- the part, where one is written and kept
  pub kept_part : OptionExpr → Lowering (Option ExprId)
  kept_part tree.no_expr = pure None
  kept_part (tree.some_expr e) = kept e (lower e)

  pub lower_each : List ExprId → Exprs → Lowering (List ExprId)
  lower_each done tree.no_exprs = pure done
  lower_each done (tree.more_exprs e es) = do
    x ← kept e (lower e)
    lower_each (push_some done x) es

  pub lower_fields : List RecordLitField → Fields → Lowering (List RecordLitField)
  lower_fields done tree.no_fields = pure done
  lower_fields done (tree.more_fields f fs) = do
    x ← lower_field f
    lower_fields (push_some done x) fs

  -- a disabled field leaves a fault, and one without a name nothing
  pub lower_field : Field → Lowering (Option RecordLitField)
  lower_field (tree.disabled_field at by f) = do
    report (InactiveCode at by)
    pure None
  lower_field (tree.nameless_field at e) = pure None
  lower_field (tree.named_field at name e) = field_form at name (lower_part e)

  pub lower_arms : List MatchArm → Arms → Lowering (List MatchArm)
  lower_arms done tree.no_arms = pure done
  lower_arms done (tree.more_arms a as') = do
    x ← lower_arm a
    lower_arms (push_some done x) as'

  pub lower_arm : Arm → Lowering (Option MatchArm)
  lower_arm (tree.disabled_arm at by a) = do
    report (InactiveCode at by)
    pure None
  lower_arm (tree.arm p e g) = arm_form (lower_top p) (lower_part e) (lower_guard g)

  pub lower_guard : Guard → Lowering (Option ExprId)
  lower_guard tree.no_guard = pure None
  lower_guard (tree.guard e) = some (lower_part e)

  pub lower_spread : Spread → Lowering RecordSpread
  lower_spread tree.no_spread = pure spread.None
  lower_spread tree.field_defaults = pure spread.FieldDefaults
  lower_spread (tree.spread_of e) = do
    id ← lower e
    pure (spread.Expr id)

  pub lower_block : Block → ExprSteps
  lower_block (tree.block at is_unsafe label _ number ss e) =
      labelled label (λ id. block_form at is_unsafe id number (lower_stmts [] ss (kept_part e)))

  pub lower_block_part : OptionBlock → ExprSteps
  lower_block_part tree.no_block = missing
  lower_block_part (tree.some_block b) = lower_block b

  -- the block, where one is written
  pub present_block : OptionBlock → Lowering (Option ExprId)
  present_block tree.no_block = pure None
  present_block (tree.some_block b) = some (lower_block b)

  -- the statements, and then the tail, which stands inside all that the statements open
  pub lower_stmts : List Statement → Stmts → Lowering (Option ExprId) → Lowering StoredContents
  lower_stmts done tree.no_stmts tail = do
    t ← tail
    pure (done, t)
  lower_stmts done (tree.more_stmts s ss) tail = do
    x ← lower_stmt s
    behind s (lower_stmts (push_some done x) ss tail)

  -- an expression statement without expression leaves nothing
  pub lower_stmt : Stmt → Lowering (Option Statement)
  lower_stmt (tree.expr_stmt e semi) = do
    x ← kept_part e
    pure (option_map (λ id. statement.Expr id semi) x)
  lower_stmt (tree.disabled_stmt at by s) = do
    report (InactiveCode at by)
    pure None
  lower_stmt tree.item_stmt = pure (Some statement.Item)
  lower_stmt (tree.call_stmt c) = track c >> pure None
  lower_stmt (tree.macro_stmt k d) = define_form k d
  lower_stmt (tree.let_stmt p t e b) = let_stmt_form (lower_top p) (present_type t) (present e) (present_block b)

  -- patterns

  -- a whole pattern, the bindings of which get their problems in the end
  pub lower_top : OptionPat → Lowering PatId
  lower_top tree.no_pat = unwritten_pattern
  lower_top (tree.some_pat p) = do
    r ← lower_pat p no_names
    settle r.1
    pure r.0

  -- with the names of the top pattern that were used before
  pub lower_pat : Pat → Table → Lowering (PatId × Table)
  lower_pat (tree.leaf_pat at form) t = alone (alloc_pat (stored_pat_leaf form) (Some at)) t
  lower_pat (tree.bind_pat at u _ p) t = bind_form at u (present_pat p) t
  lower_pat (tree.name_pat at u _) t = alone (alloc_pat (name_pat_of u) (Some at)) t
  lower_pat (tree.path_pat at p) t = alone (path_pat_form at (lower_path p)) t
  lower_pat (tree.tuple_struct_pat at p comma ps) t = tuple_struct_form at comma (lower_elements no_elements ps) (lower_path p) t
  lower_pat (tree.tuple_pat at comma ps) t = tuple_pat_form at comma (lower_elements no_elements ps) t
  lower_pat (tree.record_pat at p fs dots) t = record_pat_form at dots (lower_pat_fields [] fs) (lower_path p) t
  lower_pat (tree.or_pat at ps) t = lower_alternatives at ps t
  lower_pat (tree.paren_pat at p) t = pat_part p t
  lower_pat (tree.macro_pat at called p) t = called_pat at called p t
  lower_pat (tree.barred_pat at) t = alone (barred_pat_form at) t
  lower_pat (tree.slice_pat at before p after) t = slice_pat_form at (lower_pats [] before) (present_pat p) (lower_pats [] after) t
  lower_pat (tree.over_pat at form p) t = over_pat_form at form (pat_part p) t
  lower_pat (tree.literal_pat at node l) t = alone (literal_pat_form at node l) t
  lower_pat (tree.range_pat at op low high) t = alone (range_pat_form at op (lower_side low) (lower_side high)) t

  -- what a call stands for
  pub called_pat : Pointer → Called → OptionPat → Table → Lowering (PatId × Table)
  called_pat at called tree.no_pat t = alone (uncalled_pat at called) t
  called_pat at called (tree.some_pat p) t = called_pat_form at called (λ r. r.0) (lower_pat p t)

  -- missing where it is absent
  pub pat_part : OptionPat → Table → Lowering (PatId × Table)
  pat_part tree.no_pat t = alone unwritten_pattern t
  pat_part (tree.some_pat p) t = lower_pat p t

  -- the pattern, where one is written
  pub present_pat : OptionPat → Table → Lowering (Option PatId × Table)
  present_pat tree.no_pat t = pure (None, t)
  present_pat (tree.some_pat p) t = do
    r ← lower_pat p t
    pure (Some r.0, r.1)

  pub lower_pats : List PatId → Pats → Table → Lowering (List PatId × Table)
  lower_pats done tree.no_pats t = pure (done, t)
  lower_pats done (tree.more_pats p ps) t = do
    r ← lower_pat p t
    lower_pats (done ++ r.0 ∷ []) ps r.1
  lower_pats done (tree.tracked_pats called ps) t = emitted called >> lower_pats done ps t

  -- the parts of a tuple
  pub lower_elements : Elements → Pats → Table → Lowering (Elements × Table)
  lower_elements done tree.no_pats t = pure (done, t)
  lower_elements done (tree.more_pats p ps) t = do
    r ← element_form (is_dots p) done (lower_pat p) t
    lower_elements r.0 ps r.1
  lower_elements done (tree.tracked_pats called ps) t = emitted called >> lower_elements done ps t

  pub lower_alternatives : Pointer → Pats → Table → Lowering (PatId × Table)
  lower_alternatives at tree.no_pats t = alone (alloc_pat (pat.Or []) (Some at)) t
  lower_alternatives at (tree.more_pats p ps) t = or_form at (lower_pat p) (lower_later ps) t
  lower_alternatives at (tree.tracked_pats called ps) t = emitted called >> lower_alternatives at ps t

  -- the alternatives behind the first
  pub lower_later : Pats → List PatId → Table → Lowering (List PatId × Table)
  lower_later tree.no_pats done t = pure (done, t)
  lower_later (tree.more_pats p ps) done t = do
    r ← lower_pat p (next_alternative t)
    lower_later ps (done ++ r.0 ∷ []) r.1
  lower_later (tree.tracked_pats called ps) done t = emitted called >> lower_later ps done t

  pub lower_pat_fields : List RecordFieldPat → PatFields → Table → Lowering (List RecordFieldPat × Table)
  lower_pat_fields done tree.no_pat_fields t = pure (done, t)
  lower_pat_fields done (tree.more_pat_fields f fs) t = do
    r ← lower_pat_field f t
    lower_pat_fields (push_some done r.0) fs r.1

  pub lower_pat_field : PatField → Table → Lowering (Option RecordFieldPat × Table)
  lower_pat_field (tree.disabled_pat_field at by f) t = do
    report (InactiveCode at by)
    pure (None, t)
  lower_pat_field tree.partless_pat_field t = pure (None, t)
  lower_pat_field (tree.pat_field at name p) t = pat_field_form at name (lower_pat p) t

  -- a pattern that is no side is as if none were written
  pub lower_side : Side → Lowering (Option ExprId)
  lower_side tree.no_side = unwritten_side
  lower_side (tree.literal_side at l) = literal_side_form at l
  lower_side (tree.name_side at n _) = name_side_of at n
  lower_side (tree.path_side at p) = path_side_form at (lower_path p)
  lower_side tree.other_side = unwritten_side

  -- patterns in types

  pub lower_type_pat_part : OptionTypePat → Lowering PatId
  lower_type_pat_part tree.no_type_pat = unwritten_pattern
  lower_type_pat_part (tree.some_type_pat p) = lower_type_pat p

  pub lower_type_pat : TypePat → Lowering PatId
  lower_type_pat (tree.not_null_type_pat at) = alloc_pat pat.NotNull (Some at)
  lower_type_pat (tree.macro_type_pat at called p) = called_type_pat at called p
  lower_type_pat (tree.or_type_pat at ps) = type_alternatives_form at (lower_type_pats [] ps)
  lower_type_pat (tree.range_type_pat at low high) = limits_form at (lower_limit low) (lower_limit high)
  lower_type_pat (tree.other_type_pat at) = alloc_pat pat.Missing (Some at)

  -- what a call stands for
  pub called_type_pat : Pointer → Called → OptionTypePat → Lowering PatId
  called_type_pat at called tree.no_type_pat = uncalled_pat at called
  called_type_pat at called (tree.some_type_pat p) = called_pat_form at called (λ i. i) (lower_type_pat p)

  pub lower_type_pats : List PatId → TypePats → Lowering (List PatId)
  lower_type_pats done tree.no_type_pats = pure done
  lower_type_pats done (tree.more_type_pats p ps) = do
    i ← lower_type_pat p
    lower_type_pats (done ++ i ∷ []) ps

  -- each is a body of its own
  pub lower_limit : Limit → ExprSteps
  lower_limit (tree.item_limit item) = inner_form (item_form item)
  lower_limit (tree.side_limit s) = inner_form (limit_side s)
  lower_limit (tree.before_limit item s) = inner_form (before_form item (limit_side s))

  -- what is no side is missing
  pub limit_side : Side → ExprSteps
  limit_side tree.no_side = missing
  limit_side (tree.literal_side at l) = literal_limit_form at l
  limit_side (tree.name_side at n _) = name_limit_form at n
  limit_side (tree.path_side at p) = path_limit_form at (lower_path p)
  limit_side tree.other_side = missing

  -- targets

  pub lower_target : Target → Lowering PatId
  lower_target (tree.absent_target call) = missing_target call
  lower_target (tree.place_target at e) = place_form at (lower e)
  lower_target (tree.macro_target at called t) = called_target at called (lower_target t)
  lower_target (tree.wild_target at) = alloc_target pat.Wild at
  lower_target (tree.path_target at p h) =
      path_target_form at h (with_alias (alias_of p) (read_path p start >>= (λ r. pure (path_read r))))
  lower_target (tree.tuple_target at ts) = tuple_target_form at (lower_targets no_elements ts)
  lower_target (tree.call_target at p ts) = call_target_form at (lower_targets no_elements ts) (lower_path p)
  lower_target (tree.array_target at before dots after) =
      array_target_form at dots (lower_targets no_elements before) (lower_targets no_elements after)
  lower_target (tree.record_target at p fs dots spread) = record_target_form at dots spread (lower_target_fields [] fs) (lower_path p)

  pub lower_targets : Elements → Targets → Lowering Elements
  lower_targets done tree.no_targets = pure done
  lower_targets done (tree.more_targets t ts) = do
    i ← lower_target t
    lower_targets (add_target done i) ts
  lower_targets done (tree.dots_targets ts) = lower_targets (add_target_dots done) ts
  lower_targets done (tree.tracked_targets called ts) = emitted called >> lower_targets done ts

  pub lower_target_fields : List RecordFieldPat → TargetFields → Lowering (List RecordFieldPat)
  lower_target_fields done tree.no_target_fields = pure done
  lower_target_fields done (tree.more_target_fields f fs) = do
    x ← lower_target_field f
    lower_target_fields (push_some done x) fs

  pub lower_target_field : TargetField → Lowering (Option RecordFieldPat)
  lower_target_field (tree.disabled_target_field at by) = do
    report (InactiveCode at by)
    pure None
  lower_target_field tree.partless_target_field = pure None
  lower_target_field (tree.target_field at name t) = target_field_form at name (lower_target t)

-- a list of arguments
abbrev pub lower_arg_list : Args → Lowering (Option GenericArgs)
lower_arg_list as' = args_part (tree.some_arg_list as')

-- the segments of a path, without those of the use tree around it
abbrev pub read_own : Bool → Segment → Segments → PathWalk → Lowering Reading
read_own leading first rest w = read_each rest w >>= (λ r. proceed r (λ v. read_segment true first (at_first leading v)))

-- the node of a block with these contents, as what it is lowered as
abbrev pub as_role : BlockRole → Pointer → Option BlockId → Lowering StoredContents → ExprSteps
as_role (role.Plain is_unsafe label) at number contents = block_form at is_unsafe label number contents
as_role (role.Try item typed) at number contents = try_block_form at item typed number contents
as_role (role.Coroutine kind moves) at number contents = coroutine_block_form at kind moves number contents

-- the statements and the tail of a block, whatever label it has
abbrev pub lower_inside : BlockRole → Block → ExprSteps
lower_inside r (tree.block at _ label _ number ss e) = as_role r at number (lower_stmts [] ss (kept_part e))

-- the expression, where one is kept
abbrev pub lower_kept : Expr → Lowering (Option ExprId)
lower_kept e = kept e (lower e)
