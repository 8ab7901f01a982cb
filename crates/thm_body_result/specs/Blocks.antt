-- The numbers of the blocks that lowering enters, in the order in which it reads the parts of a tree, those in constants of types
-- and paths among them, those in patterns too. What is in a disabled node isn't read.
use Rattle.std.specs.Prelude.{Bool, true, false, List, [], ◌∷◌, ◌++◌, option_to_list, Option, Some, None}
use Rattle.hir_store.specs.declared.ids.BlockId.{BlockId}
use Rattle.hir_env.specs.ResolvedTree as tree
use Rattle.hir_env.specs.ResolvedTree.{Type_, OptionType, Parts, Path, OptionPath, Segments, Segment, SegmentArgs, OptionParens, OptionRet}
use Rattle.hir_env.specs.ResolvedTree.{OptionArgs, Args, Arg, Bounds, Bound, Constant, Expr, OptionExpr, Exprs, Fields, Field, Spread}
use Rattle.hir_env.specs.ResolvedTree.{Block}
use Rattle.hir_env.specs.ResolvedTree.{OptionBlock, Stmts, Stmt, Arms, Arm, Guard, Pat, OptionPat, Pats, PatFields, PatField, Side, TypePat}
use Rattle.hir_env.specs.ResolvedTree.{OptionTypePat, TypePats, Limit, Param, Params, Target, Targets, TargetFields, TargetField}
use Rattle.spec_data.specs.Tops.{Tops}
use Rattle.spec_data.specs.Written.{written_path}
use Rattle.thm_logic.specs.PathSeen.{Seen, nothing_seen, at_first, Read, goes_on, segments_read, own_read, yields}

-- what stands beside a path that is absent or refused isn't read
abbrev pub where_some : {A X : Type 0} → Option A → List X → List X
where_some None xs = []
where_some (Some a) xs = xs

-- what stands before is read where the reading goes on
abbrev pub where_goes_on : {X : Type 0} → Read → (Seen → List X) → List X
where_goes_on (goes_on x) f = f x
where_goes_on read f = []

abbrev pub unless : {X : Type 0} → Bool → List X → List X
unless true xs = []
unless false xs = xs

abbrev mutual
  -- constants in types, paths, arguments and bounds

  pub blocks_of_type : Type_ → List BlockId
  blocks_of_type (tree.paren_type t) = blocks_of_type_part t
  blocks_of_type (tree.macro_type at called t) = blocks_of_type_part t
  blocks_of_type (tree.for_type names t) = blocks_of_type_part t
  blocks_of_type (tree.leaf_type at form) = []
  blocks_of_type (tree.over_type at form t) = blocks_of_type_part t
  -- its length first
  blocks_of_type (tree.array_type at c t) = blocks_of_constant c ++ blocks_of_type_part t
  blocks_of_type (tree.tuple_type at ts) = blocks_of_parts ts
  blocks_of_type (tree.path_type at p) = blocks_of_whole p
  blocks_of_type (tree.ref_type at l mutability t) = blocks_of_type_part t
  blocks_of_type (tree.fn_type at head ts r) = blocks_of_type_part r ++ blocks_of_parts ts
  blocks_of_type (tree.impl_type at mode bs) = blocks_of_bounds bs
  blocks_of_type (tree.nested_impl at) = []
  blocks_of_type (tree.dyn_type at bs) = blocks_of_bounds bs
  blocks_of_type (tree.pattern_type at t own p) = blocks_of_type_part t ++ blocks_of_type_pat_part p

  pub blocks_of_type_part : OptionType → List BlockId
  blocks_of_type_part tree.no_type = []
  blocks_of_type_part (tree.some_type t) = blocks_of_type t

  pub blocks_of_present_type : OptionType → List BlockId
  blocks_of_present_type tree.no_type = []
  blocks_of_present_type (tree.some_type t) = blocks_of_type t

  pub blocks_of_parts : Parts → List BlockId
  blocks_of_parts tree.no_parts = []
  blocks_of_parts (tree.more_parts t ts) = blocks_of_type_part t ++ blocks_of_parts ts

  pub blocks_of_segment : Bool → Segment → Seen → List BlockId
  blocks_of_segment first (tree.name_segment n _ as') x = blocks_of_beside as'
  blocks_of_segment first tree.super_segment x = []
  blocks_of_segment true (tree.type_segment t) x = blocks_of_type t
  blocks_of_segment true (tree.trait_segment t at p) x = blocks_of_type t ++ blocks_of_whole p
  blocks_of_segment first s x = []

  pub blocks_of_segments : Segments → Seen → List BlockId
  blocks_of_segments tree.no_segments x = []
  blocks_of_segments (tree.more_segments s ss) x =
      blocks_of_segments ss x ++ where_goes_on (segments_read ss x) (λ y. blocks_of_segment false s y)

  pub blocks_of_path : Path → Seen → List BlockId
  blocks_of_path (tree.path alias leading first rest use_) x =
      (blocks_of_segments rest x ++ where_goes_on (segments_read rest x) (λ y. blocks_of_segment true first (at_first leading y)))
      ++ where_goes_on (own_read leading first rest x) (λ y. blocks_of_outer use_ y)

  pub blocks_of_outer : OptionPath → Seen → List BlockId
  blocks_of_outer tree.no_path x = []
  blocks_of_outer (tree.some_path p) x = blocks_of_path p x

  -- of a path from its end
  pub blocks_of_whole : OptionPath → List BlockId
  blocks_of_whole tree.no_path = []
  blocks_of_whole (tree.some_path p) = blocks_of_path p nothing_seen

  -- `(A) -> C` is read where `<..>` yields none
  pub blocks_of_beside : SegmentArgs → List BlockId
  blocks_of_beside (tree.segment_args as' ps dots) = blocks_of_args as' ++ unless (yields as') (blocks_of_parens ps)

  pub blocks_of_parens : OptionParens → List BlockId
  blocks_of_parens tree.no_parens = []
  blocks_of_parens (tree.some_parens ts r) = blocks_of_parts ts ++ blocks_of_output r

  pub blocks_of_output : OptionRet → List BlockId
  blocks_of_output tree.no_ret = []
  blocks_of_output (tree.some_ret t) = blocks_of_type_part t

  pub blocks_of_args : OptionArgs → List BlockId
  blocks_of_args tree.no_arg_list = []
  blocks_of_args (tree.some_arg_list as') = blocks_of_each_arg as'

  pub blocks_of_each_arg : Args → List BlockId
  blocks_of_each_arg tree.no_args = []
  blocks_of_each_arg (tree.more_args a as') = blocks_of_arg a ++ blocks_of_each_arg as'

  pub blocks_of_arg : Arg → List BlockId
  blocks_of_arg tree.skipped_arg = []
  blocks_of_arg (tree.type_arg t) = blocks_of_type_part t
  blocks_of_arg (tree.lifetime_arg l) = []
  blocks_of_arg (tree.const_arg c) = blocks_of_constant c
  blocks_of_arg (tree.assoc_arg n as' dots t bs) = blocks_of_args as' ++ (blocks_of_present_type t ++ blocks_of_bounds bs)

  pub blocks_of_bounds : Bounds → List BlockId
  blocks_of_bounds tree.no_bounds = []
  blocks_of_bounds (tree.more_bounds b bs) = blocks_of_bound b ++ blocks_of_bounds bs

  pub blocks_of_bound : Bound → List BlockId
  blocks_of_bound tree.error_bound = []
  blocks_of_bound (tree.path_bound at p maybe binder) = blocks_of_whole p
  blocks_of_bound (tree.lifetime_bound l) = []
  blocks_of_bound (tree.use_bound us) = []

  pub blocks_of_constant : Constant → List BlockId
  blocks_of_constant (tree.constant e) = blocks_of_part e

  pub blocks_of_type_pat : TypePat → List BlockId
  blocks_of_type_pat (tree.not_null_type_pat at) = []
  blocks_of_type_pat (tree.macro_type_pat at called p) = blocks_of_type_pat_part p
  blocks_of_type_pat (tree.or_type_pat at ps) = blocks_of_type_pats ps
  blocks_of_type_pat (tree.range_type_pat at low high) = blocks_of_limit low ++ blocks_of_limit high
  blocks_of_type_pat (tree.other_type_pat at) = []

  pub blocks_of_type_pat_part : OptionTypePat → List BlockId
  blocks_of_type_pat_part tree.no_type_pat = []
  blocks_of_type_pat_part (tree.some_type_pat p) = blocks_of_type_pat p

  pub blocks_of_type_pats : TypePats → List BlockId
  blocks_of_type_pats tree.no_type_pats = []
  blocks_of_type_pats (tree.more_type_pats p ps) = blocks_of_type_pat p ++ blocks_of_type_pats ps

  pub blocks_of_limit : Limit → List BlockId
  blocks_of_limit (tree.item_limit item) = []
  blocks_of_limit (tree.side_limit s) = blocks_of_side s
  blocks_of_limit (tree.before_limit item s) = blocks_of_side s

  pub blocks_of_side : Side → List BlockId
  blocks_of_side (tree.path_side at p) = blocks_of_whole p
  blocks_of_side s = []

  -- expressions

  pub blocks_of : Expr → List BlockId
  blocks_of (tree.disabled_expr why e) = []
  -- the branches are read before the condition
  blocks_of (tree.if_expr at c t e) = blocks_of_block_part t ++ (blocks_of_part e ++ blocks_of_part c)
  blocks_of (tree.block_expr b) = blocks_of_block b
  blocks_of (tree.loop_expr at label _ b) = blocks_of_block_part b
  blocks_of (tree.while_expr at label _ c b) = blocks_of_block_part b ++ blocks_of_part c
  blocks_of (tree.for_expr at items label _ p h b) = blocks_of_part h ++ (blocks_of_top p ++ blocks_of_part b)
  blocks_of (tree.question_expr at items e) = blocks_of_part e
  blocks_of (tree.itemless_expr at) = []
  -- its own number, then those in it, and its type last
  blocks_of (tree.try_expr at item t number ss e) =
      (option_to_list number ++ (blocks_of_stmts ss ++ blocks_of_part e)) ++ blocks_of_present_type t
  blocks_of (tree.coroutine_expr at kind moves number ss e) = option_to_list number ++ (blocks_of_stmts ss ++ blocks_of_part e)
  blocks_of (tree.call_expr at f has_list es) = blocks_of_part f ++ blocks_of_each es
  blocks_of (tree.path_expr at p h) = blocks_of_whole p
  blocks_of (tree.continue_expr at jump) = []
  blocks_of (tree.break_expr at jump e) = blocks_of_part e
  blocks_of (tree.paren_expr at e) = blocks_of_part e
  blocks_of (tree.macro_expr at called e) = blocks_of_part e
  blocks_of (tree.literal_expr at l) = []
  blocks_of (tree.leaf_expr at form) = []
  blocks_of (tree.unary_expr at form e) = blocks_of_part e
  blocks_of (tree.binary_expr at form a b) = blocks_of_part a ++ blocks_of_part b
  blocks_of (tree.lazy_expr at op a b) = blocks_of_part a ++ blocks_of_part b
  blocks_of (tree.list_expr at form es) = blocks_of_each es
  blocks_of (tree.repeat_expr at e c) = blocks_of_part e ++ blocks_of_constant c
  blocks_of (tree.const_expr at c) = blocks_of_constant c
  blocks_of (tree.closure_expr at moves is_static xs t e) = blocks_of_params xs ++ (blocks_of_present_type t ++ blocks_of_part e)
  blocks_of (tree.coroutine_closure_expr at kind moves xs t e) =
      blocks_of_params xs ++ (blocks_of_present_type t ++ blocks_of_part e)
  blocks_of (tree.method_call_expr at e name es generics) = blocks_of_part e ++ (blocks_of_each es ++ blocks_of_args generics)
  blocks_of (tree.cast_expr at e t) = blocks_of_part e ++ blocks_of_type_part t
  blocks_of (tree.record_expr at p head fs s) =
      blocks_of_whole p ++ where_some (written_path p) (blocks_of_fields fs ++ blocks_of_spread s)
  blocks_of (tree.offset_of_expr at t names) = blocks_of_type_part t
  blocks_of (tree.leaving_expr at form e) = blocks_of_part e
  blocks_of (tree.become_expr at e) = blocks_of_part e
  blocks_of (tree.yield_expr at e) = blocks_of_part e
  blocks_of (tree.await_expr at location e) = blocks_of_part e
  blocks_of (tree.nameless_expr at e) = blocks_of_part e
  blocks_of (tree.let_expr at p e) = blocks_of_top p ++ blocks_of_part e
  blocks_of (tree.match_expr at e arms) = blocks_of_part e ++ blocks_of_arms arms
  blocks_of (tree.range_expr at form low high) = blocks_of_part low ++ blocks_of_part high
  -- the target before the value
  blocks_of (tree.assign_expr at own t e) = blocks_of_target t ++ blocks_of_part e

  -- the pattern of each before its type
  pub blocks_of_params : Params → List BlockId
  blocks_of_params tree.no_params = []
  blocks_of_params (tree.more_params x xs) = blocks_of_param x ++ blocks_of_params xs

  pub blocks_of_param : Param → List BlockId
  blocks_of_param (tree.disabled_param at by x) = []
  blocks_of_param (tree.param p t) = blocks_of_top p ++ blocks_of_present_type t

  pub blocks_of_part : OptionExpr → List BlockId
  blocks_of_part tree.no_expr = []
  blocks_of_part (tree.some_expr e) = blocks_of e

  pub blocks_of_each : Exprs → List BlockId
  blocks_of_each tree.no_exprs = []
  blocks_of_each (tree.more_exprs e es) = blocks_of e ++ blocks_of_each es

  pub blocks_of_fields : Fields → List BlockId
  blocks_of_fields tree.no_fields = []
  blocks_of_fields (tree.more_fields f fs) = blocks_of_field f ++ blocks_of_fields fs

  pub blocks_of_field : Field → List BlockId
  blocks_of_field (tree.disabled_field at by f) = []
  blocks_of_field (tree.nameless_field at e) = []
  blocks_of_field (tree.named_field at name e) = blocks_of_part e

  pub blocks_of_arms : Arms → List BlockId
  blocks_of_arms tree.no_arms = []
  blocks_of_arms (tree.more_arms a arms) = blocks_of_arm a ++ blocks_of_arms arms

  -- the guard behind the expression
  pub blocks_of_arm : Arm → List BlockId
  blocks_of_arm (tree.disabled_arm at by a) = []
  blocks_of_arm (tree.arm p e g) = blocks_of_top p ++ (blocks_of_part e ++ blocks_of_guard g)

  pub blocks_of_guard : Guard → List BlockId
  blocks_of_guard tree.no_guard = []
  blocks_of_guard (tree.guard e) = blocks_of_part e

  pub blocks_of_spread : Spread → List BlockId
  blocks_of_spread tree.no_spread = []
  blocks_of_spread tree.field_defaults = []
  blocks_of_spread (tree.spread_of e) = blocks_of e

  -- its own number, then those in its statements and its tail
  pub blocks_of_block : Block → List BlockId
  blocks_of_block (tree.block at is_unsafe label _ number ss e) = option_to_list number ++ (blocks_of_stmts ss ++ blocks_of_part e)

  pub blocks_of_block_part : OptionBlock → List BlockId
  blocks_of_block_part tree.no_block = []
  blocks_of_block_part (tree.some_block b) = blocks_of_block b

  pub blocks_of_stmts : Stmts → List BlockId
  blocks_of_stmts tree.no_stmts = []
  blocks_of_stmts (tree.more_stmts s ss) = blocks_of_stmt s ++ blocks_of_stmts ss

  pub blocks_of_stmt : Stmt → List BlockId
  blocks_of_stmt (tree.expr_stmt e semi) = blocks_of_part e
  blocks_of_stmt (tree.disabled_stmt at by s) = []
  blocks_of_stmt tree.item_stmt = []
  blocks_of_stmt (tree.call_stmt c) = []
  blocks_of_stmt (tree.macro_stmt k d) = []
  blocks_of_stmt (tree.let_stmt p t e b) =
      blocks_of_top p ++ (blocks_of_present_type t ++ (blocks_of_part e ++ blocks_of_block_part b))

  -- patterns

  pub blocks_of_pat : Pat → List BlockId
  blocks_of_pat (tree.leaf_pat at form) = []
  blocks_of_pat (tree.bind_pat at u _ sub) = blocks_of_top sub
  blocks_of_pat (tree.name_pat at u _) = []
  blocks_of_pat (tree.path_pat at p) = blocks_of_whole p
  blocks_of_pat (tree.tuple_struct_pat at p comma ps) = blocks_of_whole p ++ where_some (written_path p) (blocks_of_pats ps)
  blocks_of_pat (tree.tuple_pat at comma ps) = blocks_of_pats ps
  blocks_of_pat (tree.record_pat at p fs dots) = blocks_of_whole p ++ where_some (written_path p) (blocks_of_pat_fields fs)
  blocks_of_pat (tree.or_pat at ps) = blocks_of_pats ps
  blocks_of_pat (tree.paren_pat at p) = blocks_of_top p
  blocks_of_pat (tree.macro_pat at called p) = blocks_of_top p
  blocks_of_pat (tree.barred_pat at) = []
  blocks_of_pat (tree.slice_pat at before middle behind) =
      blocks_of_pats before ++ (blocks_of_top middle ++ blocks_of_pats behind)
  blocks_of_pat (tree.over_pat at form p) = blocks_of_top p
  blocks_of_pat (tree.literal_pat at own l) = []
  blocks_of_pat (tree.range_pat at op low high) = blocks_of_side low ++ blocks_of_side high

  pub blocks_of_top : OptionPat → List BlockId
  blocks_of_top tree.no_pat = []
  blocks_of_top (tree.some_pat p) = blocks_of_pat p

  pub blocks_of_pats : Pats → List BlockId
  blocks_of_pats tree.no_pats = []
  blocks_of_pats (tree.more_pats p ps) = blocks_of_pat p ++ blocks_of_pats ps
  blocks_of_pats (tree.tracked_pats called ps) = blocks_of_pats ps

  pub blocks_of_pat_fields : PatFields → List BlockId
  blocks_of_pat_fields tree.no_pat_fields = []
  blocks_of_pat_fields (tree.more_pat_fields f fs) = blocks_of_pat_field f ++ blocks_of_pat_fields fs

  pub blocks_of_pat_field : PatField → List BlockId
  blocks_of_pat_field (tree.disabled_pat_field at by f) = []
  blocks_of_pat_field tree.partless_pat_field = []
  blocks_of_pat_field (tree.pat_field at n p) = blocks_of_pat p

  -- the assignee expression

  pub blocks_of_target : Target → List BlockId
  blocks_of_target (tree.absent_target call) = []
  blocks_of_target (tree.place_target at e) = blocks_of e
  blocks_of_target (tree.macro_target at called t) = blocks_of_target t
  blocks_of_target (tree.wild_target at) = []
  blocks_of_target (tree.path_target at p h) = blocks_of_path p nothing_seen
  blocks_of_target (tree.tuple_target at ts) = blocks_of_targets ts
  blocks_of_target (tree.call_target at p ts) = blocks_of_whole p ++ where_some (written_path p) (blocks_of_targets ts)
  blocks_of_target (tree.array_target at before dots behind) = blocks_of_targets before ++ blocks_of_targets behind
  blocks_of_target (tree.record_target at p fs dots spread) =
      blocks_of_whole p ++ where_some (written_path p) (blocks_of_target_fields fs)

  pub blocks_of_targets : Targets → List BlockId
  blocks_of_targets tree.no_targets = []
  blocks_of_targets (tree.more_targets t ts) = blocks_of_target t ++ blocks_of_targets ts
  blocks_of_targets (tree.dots_targets ts) = blocks_of_targets ts
  blocks_of_targets (tree.tracked_targets called ts) = blocks_of_targets ts

  pub blocks_of_target_fields : TargetFields → List BlockId
  blocks_of_target_fields tree.no_target_fields = []
  blocks_of_target_fields (tree.more_target_fields f fs) = blocks_of_target_field f ++ blocks_of_target_fields fs

  pub blocks_of_target_field : TargetField → List BlockId
  blocks_of_target_field (tree.disabled_target_field at by) = []
  blocks_of_target_field tree.partless_target_field = []
  blocks_of_target_field (tree.target_field at n t) = blocks_of_target t

-- of parameters
abbrev pub blocks_of_tops : Tops → List BlockId
blocks_of_tops [] = []
blocks_of_tops (p ∷ ps) = blocks_of_top p ++ blocks_of_tops ps
