-- Whether a kept `yield` stands in an expression, and in none of the bodies inside it: in no constant, in no closure and in no
-- coroutine block. One in a part that is read and dropped counts; what isn't read doesn't.
use Rattle.std.specs.Prelude.{Bool, true, false, ◌||◌, Option, Some, None}
use Rattle.hir_env.specs.ResolvedTree as tree
use Rattle.hir_env.specs.ResolvedTree.{Expr, OptionExpr, Exprs, Fields, Spread, Block, OptionBlock, Stmts, Arms, Guard}
use Rattle.hir_env.specs.ResolvedTree.{Target, Targets, TargetFields}
use Rattle.spec_data.specs.Rule.{PathRead}
use Rattle.spec_data.specs.Written.{path_of}

-- what stands beside a path that is absent or refused isn't read
abbrev pub yields_if_read : Option PathRead → Bool → Bool
yields_if_read None y = false
yields_if_read (Some p) y = y

abbrev mutual
  pub expr_yields : Expr → Bool
  expr_yields (tree.disabled_expr why e) = false
  expr_yields (tree.if_expr at c t e) = block_part_yields t || (yields_in e || yields_in c)
  expr_yields (tree.block_expr b) = block_yields b
  expr_yields (tree.loop_expr at label _ b) = block_part_yields b
  expr_yields (tree.while_expr at label _ c b) = block_part_yields b || yields_in c
  expr_yields (tree.for_expr at items label _ p h b) = yields_in h || yields_in b
  expr_yields (tree.question_expr at items e) = yields_in e
  expr_yields (tree.itemless_expr at) = false
  expr_yields (tree.try_expr at item t number ss e) = stmts_yields ss || yields_in e
  expr_yields (tree.coroutine_expr at kind moves number ss e) = false
  expr_yields (tree.call_expr at f has_list es) = yields_in f || each_yields es
  expr_yields (tree.path_expr at p h) = false
  expr_yields (tree.continue_expr at jump) = false
  expr_yields (tree.break_expr at jump e) = yields_in e
  expr_yields (tree.paren_expr at e) = yields_in e
  expr_yields (tree.macro_expr at called e) = yields_in e
  expr_yields (tree.literal_expr at l) = false
  expr_yields (tree.leaf_expr at form) = false
  expr_yields (tree.unary_expr at form e) = yields_in e
  expr_yields (tree.binary_expr at form a b) = yields_in a || yields_in b
  expr_yields (tree.lazy_expr at op a b) = yields_in a || yields_in b
  expr_yields (tree.list_expr at form es) = each_yields es
  expr_yields (tree.repeat_expr at e c) = yields_in e
  expr_yields (tree.const_expr at c) = false
  expr_yields (tree.closure_expr at by_move is_static ps t e) = false
  expr_yields (tree.coroutine_closure_expr at kind by_move ps t e) = false
  expr_yields (tree.method_call_expr at e name es generics) = yields_in e || each_yields es
  expr_yields (tree.leaving_expr at form e) = yields_in e
  expr_yields (tree.become_expr at e) = yields_in e
  expr_yields (tree.yield_expr at e) = true
  expr_yields (tree.await_expr at location e) = yields_in e
  expr_yields (tree.cast_expr at e t) = yields_in e
  expr_yields (tree.record_expr at p head fs s) = yields_if_read (path_of p) (fields_yields fs || spread_yields s)
  expr_yields (tree.offset_of_expr at t names) = false
  -- its operand is read, though it is no part
  expr_yields (tree.nameless_expr at e) = yields_in e
  expr_yields (tree.let_expr at p e) = yields_in e
  expr_yields (tree.match_expr at e arms) = yields_in e || arms_yields arms
  -- its ends are read, also where it is missing
  expr_yields (tree.range_expr at form start end) = yields_in start || yields_in end
  expr_yields (tree.assign_expr at e t v) = target_yields t || yields_in v

  pub yields_in : OptionExpr → Bool
  yields_in tree.no_expr = false
  yields_in (tree.some_expr e) = expr_yields e

  pub each_yields : Exprs → Bool
  each_yields tree.no_exprs = false
  each_yields (tree.more_exprs e es) = expr_yields e || each_yields es

  pub fields_yields : Fields → Bool
  fields_yields tree.no_fields = false
  fields_yields (tree.more_fields (tree.named_field at name e) fs) = yields_in e || fields_yields fs
  fields_yields (tree.more_fields f fs) = fields_yields fs

  pub spread_yields : Spread → Bool
  spread_yields tree.no_spread = false
  spread_yields tree.field_defaults = false
  spread_yields (tree.spread_of e) = expr_yields e

  pub arms_yields : Arms → Bool
  arms_yields tree.no_arms = false
  arms_yields (tree.more_arms (tree.disabled_arm at by a) arms) = arms_yields arms
  arms_yields (tree.more_arms (tree.arm p e g) arms) = (yields_in e || guard_yields g) || arms_yields arms

  pub guard_yields : Guard → Bool
  guard_yields tree.no_guard = false
  guard_yields (tree.guard c) = yields_in c

  pub block_yields : Block → Bool
  block_yields (tree.block at is_unsafe label _ number ss e) = stmts_yields ss || yields_in e

  pub block_part_yields : OptionBlock → Bool
  block_part_yields tree.no_block = false
  block_part_yields (tree.some_block b) = block_yields b

  pub stmts_yields : Stmts → Bool
  stmts_yields tree.no_stmts = false
  stmts_yields (tree.more_stmts (tree.disabled_stmt at by s) ss) = stmts_yields ss
  stmts_yields (tree.more_stmts (tree.expr_stmt e semi) ss) = yields_in e || stmts_yields ss
  stmts_yields (tree.more_stmts tree.item_stmt ss) = stmts_yields ss
  stmts_yields (tree.more_stmts (tree.call_stmt c) ss) = stmts_yields ss
  stmts_yields (tree.more_stmts (tree.macro_stmt k d) ss) = stmts_yields ss
  stmts_yields (tree.more_stmts (tree.let_stmt p t e b) ss) = (yields_in e || block_part_yields b) || stmts_yields ss

  pub target_yields : Target → Bool
  target_yields (tree.absent_target call) = false
  target_yields (tree.place_target at e) = expr_yields e
  target_yields (tree.wild_target at) = false
  target_yields (tree.macro_target at called t) = target_yields t
  target_yields (tree.path_target at p h) = false
  target_yields (tree.tuple_target at ts) = targets_yields ts
  target_yields (tree.call_target at p ts) = yields_if_read (path_of p) (targets_yields ts)
  target_yields (tree.array_target at before dots behind) = targets_yields before || targets_yields behind
  target_yields (tree.record_target at p fs dots spread) = yields_if_read (path_of p) (target_fields_yields fs)

  pub targets_yields : Targets → Bool
  targets_yields tree.no_targets = false
  targets_yields (tree.more_targets t ts) = target_yields t || targets_yields ts
  targets_yields (tree.dots_targets ts) = targets_yields ts
  targets_yields (tree.tracked_targets called ts) = targets_yields ts

  pub target_fields_yields : TargetFields → Bool
  target_fields_yields tree.no_target_fields = false
  -- one without a name is read, though it is no part
  target_fields_yields (tree.more_target_fields (tree.target_field at n t) fs) = target_yields t || target_fields_yields fs
  target_fields_yields (tree.more_target_fields f fs) = target_fields_yields fs
