-- The size of a resolved tree: what lowering it steps down by. Of the assignee expression the expression counts, and of the pattern of
-- a type the pattern.
use Rattle.std.specs.Prelude.{ℕ, suc, ◌+◌}
use Rattle.hir_env.specs.ResolvedTree as tree
use Rattle.hir_env.specs.ResolvedTree.{Type_, OptionType, Parts, Path, OptionPath, Segments, Segment, SegmentArgs, OptionParens}
use Rattle.hir_env.specs.ResolvedTree.{OptionRet, OptionArgs, Args, Arg, Bounds, Bound, Constant}
use Rattle.hir_env.specs.ResolvedTree.{Expr, OptionExpr, Exprs, Fields, Field, Spread, Block, OptionBlock, Stmts, Stmt, Arms, Arm}
use Rattle.hir_env.specs.ResolvedTree.{Guard, Param, Params, Pat, OptionPat, Pats, PatFields, PatField, Side}

abbrev mutual
  pub count_type : Type_ → ℕ
  count_type (tree.paren_type t) = suc (count_option_type t)
  count_type (tree.for_type binder t) = suc (count_option_type t)
  count_type (tree.leaf_type at form) = 1
  count_type (tree.over_type at form t) = suc (count_option_type t)
  count_type (tree.array_type at c t) = suc (count_constant c + count_option_type t)
  count_type (tree.tuple_type at ts) = suc (count_parts ts)
  count_type (tree.path_type at x) = suc (count_option_path x)
  count_type (tree.ref_type at l m t) = suc (count_option_type t)
  count_type (tree.fn_type at head ts r) = suc (count_parts ts + count_option_type r)
  count_type (tree.impl_type at mode bs) = suc (count_bounds bs)
  count_type (tree.nested_impl at) = 1
  count_type (tree.dyn_type at bs) = suc (count_bounds bs)
  count_type (tree.pattern_type at t p q) = suc (count_option_type t + count_option_pat p)
  count_type (tree.macro_type at called t) = suc (count_option_type t)

  pub count_option_type : OptionType → ℕ
  count_option_type tree.no_type = 0
  count_option_type (tree.some_type t) = count_type t

  pub count_parts : Parts → ℕ
  count_parts tree.no_parts = 0
  count_parts (tree.more_parts t ts) = count_option_type t + count_parts ts

  pub count_path : Path → ℕ
  count_path (tree.path alias leading first rest use_) = suc (count_segment first + (count_segments rest + count_option_path use_))

  pub count_option_path : OptionPath → ℕ
  count_option_path tree.no_path = 0
  count_option_path (tree.some_path x) = count_path x

  pub count_segments : Segments → ℕ
  count_segments tree.no_segments = 0
  count_segments (tree.more_segments s ss) = count_segment s + count_segments ss

  pub count_segment : Segment → ℕ
  count_segment tree.absent_segment = 0
  count_segment tree.broken_segment = 0
  count_segment (tree.name_segment n _ args) = count_segment_args args
  count_segment tree.self_type_segment = 0
  count_segment tree.crate_segment = 0
  count_segment (tree.dollar_crate_segment root) = 0
  count_segment tree.self_segment = 0
  count_segment tree.super_segment = 0
  count_segment (tree.type_segment t) = count_type t
  count_segment (tree.trait_segment t at x) = count_type t + count_option_path x

  pub count_segment_args : SegmentArgs → ℕ
  count_segment_args (tree.segment_args as' parens dots) = count_option_args as' + count_option_parens parens

  pub count_option_parens : OptionParens → ℕ
  count_option_parens tree.no_parens = 0
  count_option_parens (tree.some_parens ts r) = count_parts ts + count_option_ret r

  pub count_option_ret : OptionRet → ℕ
  count_option_ret tree.no_ret = 0
  count_option_ret (tree.some_ret t) = count_option_type t

  pub count_option_args : OptionArgs → ℕ
  count_option_args tree.no_arg_list = 0
  count_option_args (tree.some_arg_list as') = suc (count_args as')

  pub count_args : Args → ℕ
  count_args tree.no_args = 0
  count_args (tree.more_args a as') = count_arg a + count_args as'

  pub count_arg : Arg → ℕ
  count_arg (tree.type_arg t) = count_option_type t
  count_arg (tree.lifetime_arg l) = 0
  count_arg (tree.const_arg c) = count_constant c
  count_arg tree.skipped_arg = 0
  count_arg (tree.assoc_arg name as' dots t bs) = count_option_args as' + (count_option_type t + count_bounds bs)

  pub count_bounds : Bounds → ℕ
  count_bounds tree.no_bounds = 0
  count_bounds (tree.more_bounds b bs) = count_bound b + count_bounds bs

  pub count_bound : Bound → ℕ
  count_bound tree.error_bound = 0
  count_bound (tree.path_bound at x maybe binder) = count_option_path x
  count_bound (tree.lifetime_bound l) = 0
  count_bound (tree.use_bound us) = 0

  pub count_constant : Constant → ℕ
  count_constant (tree.constant e) = suc (count_option_expr e)

  pub count_expr : Expr → ℕ
  count_expr (tree.disabled_expr why e) = suc (count_expr e)
  count_expr (tree.if_expr at c t e) = suc (count_option_expr c + (count_option_block t + count_option_expr e))
  count_expr (tree.block_expr b) = suc (count_block b)
  count_expr (tree.loop_expr at label _ b) = suc (count_option_block b)
  count_expr (tree.while_expr at label _ c b) = suc (count_option_expr c + count_option_block b)
  count_expr (tree.for_expr at items label _ p h b) = suc (count_option_pat p + (count_option_expr h + count_option_expr b))
  count_expr (tree.question_expr at items e) = suc (count_option_expr e)
  count_expr (tree.itemless_expr at) = 1
  count_expr (tree.try_expr at item t number ss e) = suc (count_option_type t + (suc (count_stmts ss + count_option_expr e)))
  count_expr (tree.coroutine_expr at kind moves number ss e) = suc (suc (count_stmts ss + count_option_expr e))
  count_expr (tree.call_expr at f has_list es) = suc (count_option_expr f + count_exprs es)
  count_expr (tree.path_expr at x h) = suc (count_option_path x)
  count_expr (tree.continue_expr at jump) = 1
  count_expr (tree.break_expr at jump e) = suc (count_option_expr e)
  count_expr (tree.paren_expr at e) = suc (count_option_expr e)
  count_expr (tree.literal_expr at l) = 1
  count_expr (tree.leaf_expr at form) = 1
  count_expr (tree.unary_expr at form e) = suc (count_option_expr e)
  count_expr (tree.binary_expr at form a b) = suc (count_option_expr a + count_option_expr b)
  count_expr (tree.lazy_expr at op a b) = suc (count_option_expr a + count_option_expr b)
  count_expr (tree.list_expr at form es) = suc (count_exprs es)
  count_expr (tree.repeat_expr at e c) = suc (count_option_expr e + count_constant c)
  count_expr (tree.const_expr at c) = suc (count_constant c)
  count_expr (tree.closure_expr at moves is_static ps r e) = suc (count_params ps + (count_option_type r + count_option_expr e))
  count_expr (tree.coroutine_closure_expr at kind moves ps r e) = suc (count_params ps + (count_option_type r + count_option_expr e))
  count_expr (tree.method_call_expr at e name es as') = suc (count_option_expr e + (count_exprs es + count_option_args as'))
  count_expr (tree.leaving_expr at form e) = suc (count_option_expr e)
  count_expr (tree.become_expr at e) = suc (count_option_expr e)
  count_expr (tree.yield_expr at e) = suc (count_option_expr e)
  count_expr (tree.await_expr at location e) = suc (count_option_expr e)
  count_expr (tree.cast_expr at e t) = suc (count_option_expr e + count_option_type t)
  count_expr (tree.record_expr at x head fs spread) = suc (count_option_path x + (count_fields fs + count_spread spread))
  count_expr (tree.offset_of_expr at t names) = suc (count_option_type t)
  count_expr (tree.nameless_expr at e) = suc (count_option_expr e)
  count_expr (tree.let_expr at p e) = suc (count_option_pat p + count_option_expr e)
  count_expr (tree.match_expr at e arms) = suc (count_option_expr e + count_arms arms)
  count_expr (tree.range_expr at form a b) = suc (count_option_expr a + count_option_expr b)
  count_expr (tree.macro_expr at called e) = suc (count_option_expr e)
  count_expr (tree.assign_expr at a target b) = suc (count_option_expr a + count_option_expr b)

  pub count_params : Params → ℕ
  count_params tree.no_params = 0
  count_params (tree.more_params x xs) = count_param x + count_params xs

  pub count_param : Param → ℕ
  count_param (tree.disabled_param at by x) = count_param x
  count_param (tree.param p t) = count_option_pat p + count_option_type t

  pub count_option_expr : OptionExpr → ℕ
  count_option_expr tree.no_expr = 0
  count_option_expr (tree.some_expr e) = count_expr e

  pub count_exprs : Exprs → ℕ
  count_exprs tree.no_exprs = 0
  count_exprs (tree.more_exprs e es) = count_expr e + count_exprs es

  pub count_fields : Fields → ℕ
  count_fields tree.no_fields = 0
  count_fields (tree.more_fields f fs) = count_field f + count_fields fs

  pub count_field : Field → ℕ
  count_field (tree.disabled_field at by f) = count_field f
  count_field (tree.nameless_field at e) = count_option_expr e
  count_field (tree.named_field at name e) = count_option_expr e

  pub count_arms : Arms → ℕ
  count_arms tree.no_arms = 0
  count_arms (tree.more_arms a as') = count_arm a + count_arms as'

  pub count_arm : Arm → ℕ
  count_arm (tree.disabled_arm at by a) = count_arm a
  count_arm (tree.arm p e g) = count_option_pat p + (count_option_expr e + count_guard g)

  pub count_guard : Guard → ℕ
  count_guard tree.no_guard = 0
  count_guard (tree.guard c) = count_option_expr c

  pub count_spread : Spread → ℕ
  count_spread tree.no_spread = 0
  count_spread tree.field_defaults = 0
  count_spread (tree.spread_of e) = count_expr e

  pub count_block : Block → ℕ
  count_block (tree.block at is_unsafe label _ number ss e) = suc (count_stmts ss + count_option_expr e)

  pub count_option_block : OptionBlock → ℕ
  count_option_block tree.no_block = 0
  count_option_block (tree.some_block b) = count_block b

  pub count_stmts : Stmts → ℕ
  count_stmts tree.no_stmts = 0
  count_stmts (tree.more_stmts s ss) = count_stmt s + count_stmts ss

  pub count_stmt : Stmt → ℕ
  count_stmt (tree.disabled_stmt at by s) = count_stmt s
  count_stmt (tree.expr_stmt e semi) = count_option_expr e
  count_stmt tree.item_stmt = 0
  count_stmt (tree.call_stmt c) = 1
  count_stmt (tree.macro_stmt k d) = 0
  count_stmt (tree.let_stmt p t e b) = count_option_pat p + (count_option_type t + (count_option_expr e + count_option_block b))

  pub count_pat : Pat → ℕ
  count_pat (tree.leaf_pat at form) = 1
  count_pat (tree.bind_pat at u _ p) = suc (count_option_pat p)
  count_pat (tree.name_pat at u _) = 1
  count_pat (tree.path_pat at x) = suc (count_option_path x)
  count_pat (tree.tuple_struct_pat at x comma ps) = suc (count_option_path x + count_pats ps)
  count_pat (tree.tuple_pat at comma ps) = suc (count_pats ps)
  count_pat (tree.record_pat at x fs dots) = suc (count_option_path x + count_pat_fields fs)
  count_pat (tree.or_pat at ps) = suc (count_pats ps)
  count_pat (tree.paren_pat at p) = suc (count_option_pat p)
  count_pat (tree.slice_pat at ps p qs) = suc (count_pats ps + (count_option_pat p + count_pats qs))
  count_pat (tree.over_pat at form p) = suc (count_option_pat p)
  count_pat (tree.literal_pat at from l) = 1
  count_pat (tree.macro_pat at called p) = suc (count_option_pat p)
  count_pat (tree.barred_pat at) = 1
  count_pat (tree.range_pat at o a b) = suc (count_side a + count_side b)

  pub count_option_pat : OptionPat → ℕ
  count_option_pat tree.no_pat = 0
  count_option_pat (tree.some_pat p) = count_pat p

  pub count_pats : Pats → ℕ
  count_pats tree.no_pats = 0
  count_pats (tree.more_pats p ps) = count_pat p + count_pats ps
  count_pats (tree.tracked_pats called ps) = suc (count_pats ps)

  pub count_pat_fields : PatFields → ℕ
  count_pat_fields tree.no_pat_fields = 0
  count_pat_fields (tree.more_pat_fields f fs) = count_pat_field f + count_pat_fields fs

  pub count_pat_field : PatField → ℕ
  count_pat_field (tree.disabled_pat_field at by f) = count_pat_field f
  count_pat_field tree.partless_pat_field = 0
  count_pat_field (tree.pat_field at n p) = count_pat p

  pub count_side : Side → ℕ
  count_side tree.no_side = 0
  count_side (tree.literal_side at l) = 0
  count_side (tree.name_side at n _) = 0
  count_side (tree.path_side at x) = count_option_path x
  count_side tree.other_side = 0
