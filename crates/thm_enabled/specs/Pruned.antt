-- A resolved tree without what stands inside of its disabled parts: of such an expression its node and why it is gone are kept, of
-- another part its node and its condition. Types, paths, patterns and the assignee expression are kept as they are.
use Rattle.hir_env.specs.ResolvedTree as tree
use Rattle.hir_env.specs.ResolvedTree.{Arm, Arms, Block, Constant, Expr, Exprs, Field, Fields, Guard, OptionBlock, OptionExpr, Param}
use Rattle.hir_env.specs.ResolvedTree.{Params}
use Rattle.hir_env.specs.ResolvedTree.{Spread, Stmt, Stmts}
use Rattle.hir_env.specs.Targets.{pointer_of}

abbrev mutual
  pub pruned : Expr → Expr
  pruned (tree.disabled_expr why e) = tree.disabled_expr why (tree.leaf_expr (pointer_of e) tree.left_out)
  pruned (tree.if_expr at c t e) = tree.if_expr at (pruned_part c) (pruned_block_part t) (pruned_part e)
  pruned (tree.block_expr b) = tree.block_expr (pruned_block b)
  pruned (tree.loop_expr at label w b) = tree.loop_expr at label w (pruned_block_part b)
  pruned (tree.while_expr at label w c b) = tree.while_expr at label w (pruned_part c) (pruned_block_part b)
  pruned (tree.for_expr at items label w p h b) = tree.for_expr at items label w p (pruned_part h) (pruned_part b)
  pruned (tree.question_expr at items e) = tree.question_expr at items (pruned_part e)
  pruned (tree.itemless_expr at) = tree.itemless_expr at
  pruned (tree.try_expr at item t number ss e) = tree.try_expr at item t number (pruned_stmts ss) (pruned_part e)
  pruned (tree.coroutine_expr at kind moves number ss e) = tree.coroutine_expr at kind moves number (pruned_stmts ss) (pruned_part e)
  pruned (tree.call_expr at f has_list es) = tree.call_expr at (pruned_part f) has_list (pruned_each es)
  pruned (tree.path_expr at p h) = tree.path_expr at p h
  pruned (tree.continue_expr at jump) = tree.continue_expr at jump
  pruned (tree.break_expr at jump e) = tree.break_expr at jump (pruned_part e)
  pruned (tree.paren_expr at e) = tree.paren_expr at (pruned_part e)
  pruned (tree.literal_expr at l) = tree.literal_expr at l
  pruned (tree.leaf_expr at form) = tree.leaf_expr at form
  pruned (tree.unary_expr at form e) = tree.unary_expr at form (pruned_part e)
  pruned (tree.binary_expr at form a b) = tree.binary_expr at form (pruned_part a) (pruned_part b)
  pruned (tree.lazy_expr at op a b) = tree.lazy_expr at op (pruned_part a) (pruned_part b)
  pruned (tree.list_expr at form es) = tree.list_expr at form (pruned_each es)
  pruned (tree.repeat_expr at e c) = tree.repeat_expr at (pruned_part e) (pruned_constant c)
  pruned (tree.const_expr at c) = tree.const_expr at (pruned_constant c)
  pruned (tree.closure_expr at moves is_static ps r e) = tree.closure_expr at moves is_static (pruned_params ps) r (pruned_part e)
  pruned (tree.coroutine_closure_expr at kind moves ps r e) =
      tree.coroutine_closure_expr at kind moves (pruned_params ps) r (pruned_part e)
  pruned (tree.method_call_expr at e name es as') = tree.method_call_expr at (pruned_part e) name (pruned_each es) as'
  pruned (tree.leaving_expr at form e) = tree.leaving_expr at form (pruned_part e)
  pruned (tree.become_expr at e) = tree.become_expr at (pruned_part e)
  pruned (tree.yield_expr at e) = tree.yield_expr at (pruned_part e)
  pruned (tree.await_expr at location e) = tree.await_expr at location (pruned_part e)
  pruned (tree.cast_expr at e t) = tree.cast_expr at (pruned_part e) t
  pruned (tree.record_expr at p head fs s) = tree.record_expr at p head (pruned_fields fs) (pruned_spread s)
  pruned (tree.offset_of_expr at t names) = tree.offset_of_expr at t names
  pruned (tree.nameless_expr at e) = tree.nameless_expr at (pruned_part e)
  pruned (tree.let_expr at p e) = tree.let_expr at p (pruned_part e)
  pruned (tree.match_expr at e arms) = tree.match_expr at (pruned_part e) (pruned_arms arms)
  pruned (tree.range_expr at form a b) = tree.range_expr at form (pruned_part a) (pruned_part b)
  pruned (tree.macro_expr at called e) = tree.macro_expr at called (pruned_part e)
  -- the assignee expression is read whole, since it is decided by what stands there, whatever disables it
  pruned (tree.assign_expr at own target e) = tree.assign_expr at own target (pruned_part e)

  pub pruned_part : OptionExpr → OptionExpr
  pruned_part tree.no_expr = tree.no_expr
  pruned_part (tree.some_expr e) = tree.some_expr (pruned e)

  pub pruned_each : Exprs → Exprs
  pruned_each tree.no_exprs = tree.no_exprs
  pruned_each (tree.more_exprs e es) = tree.more_exprs (pruned e) (pruned_each es)

  pub pruned_constant : Constant → Constant
  pruned_constant (tree.constant e) = tree.constant (pruned_part e)

  pub pruned_params : Params → Params
  pruned_params tree.no_params = tree.no_params
  pruned_params (tree.more_params x xs) = tree.more_params (pruned_param x) (pruned_params xs)

  pub pruned_param : Param → Param
  pruned_param (tree.disabled_param at by x) = tree.disabled_param at by (tree.param tree.no_pat tree.no_type)
  pruned_param (tree.param p t) = tree.param p t

  pub pruned_fields : Fields → Fields
  pruned_fields tree.no_fields = tree.no_fields
  pruned_fields (tree.more_fields f fs) = tree.more_fields (pruned_field f) (pruned_fields fs)

  pub pruned_field : Field → Field
  pruned_field (tree.disabled_field at by f) = tree.disabled_field at by (tree.nameless_field at tree.no_expr)
  pruned_field (tree.nameless_field at e) = tree.nameless_field at (pruned_part e)
  pruned_field (tree.named_field at name e) = tree.named_field at name (pruned_part e)

  pub pruned_spread : Spread → Spread
  pruned_spread tree.no_spread = tree.no_spread
  pruned_spread tree.field_defaults = tree.field_defaults
  pruned_spread (tree.spread_of e) = tree.spread_of (pruned e)

  pub pruned_arms : Arms → Arms
  pruned_arms tree.no_arms = tree.no_arms
  pruned_arms (tree.more_arms a as') = tree.more_arms (pruned_arm a) (pruned_arms as')

  pub pruned_arm : Arm → Arm
  pruned_arm (tree.disabled_arm at by a) = tree.disabled_arm at by (tree.arm tree.no_pat tree.no_expr tree.no_guard)
  pruned_arm (tree.arm p e g) = tree.arm p (pruned_part e) (pruned_guard g)

  pub pruned_guard : Guard → Guard
  pruned_guard tree.no_guard = tree.no_guard
  pruned_guard (tree.guard e) = tree.guard (pruned_part e)

  pub pruned_block : Block → Block
  pruned_block (tree.block at is_unsafe label w number ss e) =
      tree.block at is_unsafe label w number (pruned_stmts ss) (pruned_part e)

  pub pruned_block_part : OptionBlock → OptionBlock
  pruned_block_part tree.no_block = tree.no_block
  pruned_block_part (tree.some_block b) = tree.some_block (pruned_block b)

  pub pruned_stmts : Stmts → Stmts
  pruned_stmts tree.no_stmts = tree.no_stmts
  pruned_stmts (tree.more_stmts s ss) = tree.more_stmts (pruned_stmt s) (pruned_stmts ss)

  pub pruned_stmt : Stmt → Stmt
  pruned_stmt (tree.disabled_stmt at by s) = tree.disabled_stmt at by tree.item_stmt
  pruned_stmt (tree.expr_stmt e semi) = tree.expr_stmt (pruned_part e) semi
  pruned_stmt tree.item_stmt = tree.item_stmt
  pruned_stmt (tree.call_stmt c) = tree.call_stmt c
  pruned_stmt (tree.macro_stmt k d) = tree.macro_stmt k d
  pruned_stmt (tree.let_stmt p t e b) = tree.let_stmt p t (pruned_part e) (pruned_block_part b)
