-- The description of lowering doesn't look at what pruning takes away.
use Rattle.std.proofs.Common.{◌≡◌, ◌∙◌, refl, ◌||◌, true, false, List, [], Option, None}
use Rattle.hir_base.specs.declared.op.LogicOp.TheVariants as logic
use Rattle.hir_store.specs.Pointers.{Pointer}
use Rattle.hir_store.specs.declared.hir.Expr.TheVariants as hir
use Rattle.hir_store.specs.declared.hir.LoopSource.TheVariants as loop
use Rattle.hir_store.specs.declared.hir.MatchArm.{MatchArm}
use Rattle.hir_store.specs.declared.hir.RecordLitField.{RecordLitField}
use Rattle.hir_store.specs.declared.hir.RecordSpread.TheVariants as spread
use Rattle.hir_store.specs.declared.hir.Statement.{Statement}
use Rattle.hir_store.specs.declared.hir.Statement.TheVariants as statement
use Rattle.hir_store.specs.declared.ids.ExprId.{ExprId}
use Rattle.std.specs.Prelude.{option_map}
use Rattle.hir_env.specs.ResolvedTree as tree
use Rattle.hir_env.specs.ResolvedTree.{Arm, Arms, Block, Called, Constant, Expr, Exprs, Field, Fields, Guard, OptionBlock, OptionExpr}
use Rattle.hir_env.specs.ResolvedTree.{Param}
use Rattle.hir_env.specs.ResolvedTree.{Params, Spread, Stmt, Stmts}
use Rattle.hir_env.specs.Conditions.{holds_let, is_with_let}
use Rattle.hir_env.specs.Targets.{head_pointer, pointer_of}
use Rattle.hir_lower_builder.specs.Calls.{behind}
use Rattle.hir_lower_builder.specs.Lower as of
use Rattle.hir_lower_builder.specs.Lower.{ExprSteps, kept, no_closure_params, push_some, some}
use Rattle.hir_lower_builder.specs.Ranges.{range_form}
use Rattle.hir_lower_builder.specs.Lowering.{Lowering, ◌>>=◌, owning, pure}
use Rattle.hir_lower_builder.specs.declared.closures.ClosureParams.{ClosureParams}
use Rattle.thm_enabled.specs.Pruned.{pruned, pruned_arm, pruned_arms, pruned_block, pruned_block_part, pruned_constant, pruned_each}
use Rattle.thm_enabled.specs.Pruned.{pruned_field, pruned_fields, pruned_guard, pruned_param, pruned_params, pruned_part, pruned_spread}
use Rattle.thm_enabled.specs.Pruned.{pruned_stmt, pruned_stmts}

-- what is looked at before an expression is lowered

pointer_is : (e : Expr) → pointer_of (pruned e) ≡ pointer_of e
pointer_is (tree.block_expr (tree.block at is_unsafe label w number ss e)) = refl
pointer_is _ = refl

head_is : (at : Pointer) (e : OptionExpr) → head_pointer at (pruned_part e) ≡ head_pointer at e
head_is at tree.no_expr = refl
head_is at (tree.some_expr e) = pointer_is e

mutual
  holds_is : (e : OptionExpr) → holds_let (pruned_part e) ≡ holds_let e
  holds_is tree.no_expr = refl
  holds_is (tree.some_expr e) = with_is e

  with_is : (e : Expr) → is_with_let (pruned e) ≡ is_with_let e
  with_is (tree.paren_expr at e) = holds_is e
  with_is (tree.macro_expr at called e) = holds_is e
  with_is (tree.lazy_expr at logic.And a b) = λ i. holds_is a i || holds_is b i
  with_is (tree.lazy_expr at logic.Or a b) = refl
  with_is _ = refl

kept_by : (e : Expr) (steps : ExprSteps) → kept (pruned e) steps ≡ kept e steps
kept_by (tree.disabled_expr why e) steps = refl
kept_by _ steps = refl

kept_alike : (e : Expr) → of.lower (pruned e) ≡ of.lower e → kept (pruned e) (of.lower (pruned e)) ≡ kept e (of.lower e)
kept_alike e h = kept_by e (of.lower (pruned e)) ∙ (λ i. kept e (h i))

behind_is : {A : Type 0} (s : Stmt) (rest : Lowering A) → behind (pruned_stmt s) rest ≡ behind s rest
behind_is (tree.macro_stmt k d) rest = refl
behind_is _ rest = refl

mutual
  pub lower_is : (e : Expr) → of.lower (pruned e) ≡ of.lower e
  lower_is (tree.disabled_expr why e) = refl
  lower_is (tree.if_expr at c t e) = λ i. of.if_form at (part_is c i) (block_part_is t i) (present_is e i)
  lower_is (tree.block_expr b) = block_is b
  lower_is (tree.loop_expr at label w b) = λ i. of.loop_form at loop.Loop label (block_part_is b i)
  lower_is (tree.while_expr at label w c b) =
      λ i. of.loop_form at loop.While label (of.iteration_form at (of.condition_form (holds_is c i) at (part_is c i)) (block_part_is b i))
  lower_is (tree.for_expr at items label w p h b) =
      λ i. of.for_form at (head_is at h i) items label (part_is h i) (of.lower_top p) (part_is b i)
  lower_is (tree.question_expr at items e) = λ i. of.question_form at items (part_is e i)
  lower_is (tree.itemless_expr at) = refl
  lower_is (tree.try_expr at item tree.no_type number ss e) =
      λ i. of.try_block_form at item false number (stmts_is [] ss (kept_part_is e) i)
  lower_is (tree.try_expr at item (tree.some_type t) number ss e) =
      λ i. of.typed_try_form at (of.try_block_form at item true number (stmts_is [] ss (kept_part_is e) i)) (of.lower_type None t)
  lower_is (tree.coroutine_expr at kind moves number ss e) =
      λ i. owning (λ j. j) (of.coroutine_form (of.coroutine_block_form at kind moves number (stmts_is [] ss (kept_part_is e) i)))
  lower_is (tree.call_expr at f has_list es) = λ i. of.call_form at (part_is f i) (each_is [] es i)
  lower_is (tree.path_expr at p h) = refl
  lower_is (tree.continue_expr at jump) = refl
  lower_is (tree.break_expr at jump e) = λ i. of.break_form at jump (present_is e i)
  lower_is (tree.paren_expr at e) = λ i. of.paren_form at (part_is e i)
  lower_is (tree.macro_expr at called e) = called_is at called e
  lower_is (tree.literal_expr at l) = refl
  lower_is (tree.leaf_expr at form) = refl
  lower_is (tree.unary_expr at form e) = λ i. of.operand_form at (of.stored_unary form) (part_is e i)
  lower_is (tree.binary_expr at form a b) = λ i. of.operands_form at (of.stored_binary form) (part_is a i) (part_is b i)
  lower_is (tree.lazy_expr at op a b) = λ i. of.operands_form at (of.stored_lazy op) (part_is a i) (part_is b i)
  lower_is (tree.list_expr at form es) = λ i. of.list_form at form (each_is [] es i)
  lower_is (tree.repeat_expr at e c) = λ i. of.repeat_form at (part_is e i) (constant_is c i)
  lower_is (tree.const_expr at c) = λ i. owning (λ j. j) (of.const_form at (rooted_is c i))
  lower_is (tree.closure_expr at moves is_static ps r e) = λ i.
      owning (λ j. j) (of.closure_form at moves is_static (params_is no_closure_params ps i) (of.present_type r) (part_is e i))
  lower_is (tree.coroutine_closure_expr at kind moves ps r e) = λ i.
      owning (λ j. j) (of.coroutine_closure_form at kind moves (params_is no_closure_params ps i) (of.present_type r) (part_is e i))
  lower_is (tree.method_call_expr at e name es as') =
      λ i. of.method_call_form at (part_is e i) name (each_is [] es i) (of.args_part as')
  lower_is (tree.leaving_expr at form e) = λ i. of.value_form at (of.stored_leaving form) (present_is e i)
  lower_is (tree.become_expr at e) = λ i. of.operand_form at hir.Become (part_is e i)
  lower_is (tree.yield_expr at e) = λ i. of.yield_form at (present_is e i)
  lower_is (tree.await_expr at location e) = λ i. of.await_form at location (part_is e i)
  lower_is (tree.cast_expr at e t) = λ i. of.cast_form at (part_is e i) (of.type_part None t)
  lower_is (tree.record_expr at p head fs s) =
      λ i. of.record_form at (of.lower_path p) (of.record_contents (fields_is [] fs i) (spread_is s i))
  lower_is (tree.offset_of_expr at t names) = refl
  lower_is (tree.nameless_expr at e) = λ i. of.operand_form at (λ j. hir.Missing) (part_is e i)
  lower_is (tree.let_expr at p e) = λ i. of.let_form at (of.lower_top p) (part_is e i)
  lower_is (tree.match_expr at e arms) = λ i. of.match_form at (part_is e i) (arms_is [] arms i)
  lower_is (tree.range_expr at form a b) = λ i. range_form at form (present_is a i) (present_is b i)
  lower_is (tree.assign_expr at own target e) = λ i. of.assign_form at (of.lower_target target) (part_is e i)

  called_is : (at : Pointer) (called : Called) (e : OptionExpr) → of.called_expr at called (pruned_part e) ≡ of.called_expr at called e
  called_is at called tree.no_expr = refl
  called_is at called (tree.some_expr e) = λ i. of.called_form at called (lower_is e i)

  pub part_is : (e : OptionExpr) → of.lower_part (pruned_part e) ≡ of.lower_part e
  part_is tree.no_expr = refl
  part_is (tree.some_expr e) = lower_is e

  present_is : (e : OptionExpr) → of.present (pruned_part e) ≡ of.present e
  present_is tree.no_expr = refl
  present_is (tree.some_expr e) = λ i. some (lower_is e i)

  kept_part_is : (e : OptionExpr) → of.kept_part (pruned_part e) ≡ of.kept_part e
  kept_part_is tree.no_expr = refl
  kept_part_is (tree.some_expr e) = kept_alike e (lower_is e)

  constant_is : (c : Constant) → of.lower_constant (pruned_constant c) ≡ of.lower_constant c
  constant_is (tree.constant e) = λ i. owning (λ c. c.expr) (of.constant_form (part_is e i))

  rooted_is : (c : Constant) → of.lower_rooted (pruned_constant c) ≡ of.lower_rooted c
  rooted_is (tree.constant e) = λ i. of.constant_form (part_is e i)

  params_is : (l : ClosureParams) (ps : Params) → of.lower_params l (pruned_params ps) ≡ of.lower_params l ps
  params_is l tree.no_params = refl
  params_is l (tree.more_params x xs) = λ i. param_is l x i >>= (λ m. params_is m xs i)

  param_is : (l : ClosureParams) (x : Param) → of.lower_param l (pruned_param x) ≡ of.lower_param l x
  param_is l (tree.disabled_param at by x) = refl
  param_is l (tree.param p t) = refl

  each_is : (done : List ExprId) (es : Exprs) → of.lower_each done (pruned_each es) ≡ of.lower_each done es
  each_is done tree.no_exprs = refl
  each_is done (tree.more_exprs e es) = λ i. kept_alike e (lower_is e) i >>= (λ x. each_is (push_some done x) es i)

  fields_is : (done : List RecordLitField) (fs : Fields) → of.lower_fields done (pruned_fields fs) ≡ of.lower_fields done fs
  fields_is done tree.no_fields = refl
  fields_is done (tree.more_fields f fs) = λ i. field_is f i >>= (λ x. fields_is (push_some done x) fs i)

  field_is : (f : Field) → of.lower_field (pruned_field f) ≡ of.lower_field f
  field_is (tree.disabled_field at by f) = refl
  field_is (tree.nameless_field at e) = refl
  field_is (tree.named_field at name e) = λ i. of.field_form at name (part_is e i)

  arms_is : (done : List MatchArm) (as' : Arms) → of.lower_arms done (pruned_arms as') ≡ of.lower_arms done as'
  arms_is done tree.no_arms = refl
  arms_is done (tree.more_arms a as') = λ i. arm_is a i >>= (λ x. arms_is (push_some done x) as' i)

  arm_is : (a : Arm) → of.lower_arm (pruned_arm a) ≡ of.lower_arm a
  arm_is (tree.disabled_arm at by a) = refl
  arm_is (tree.arm p e g) = λ i. of.arm_form (of.lower_top p) (part_is e i) (guard_is g i)

  guard_is : (g : Guard) → of.lower_guard (pruned_guard g) ≡ of.lower_guard g
  guard_is tree.no_guard = refl
  guard_is (tree.guard e) = λ i. some (part_is e i)

  spread_is : (s : Spread) → of.lower_spread (pruned_spread s) ≡ of.lower_spread s
  spread_is tree.no_spread = refl
  spread_is tree.field_defaults = refl
  spread_is (tree.spread_of e) = λ i. lower_is e i >>= (λ id. pure (spread.Expr id))

  pub block_is : (b : Block) → of.lower_block (pruned_block b) ≡ of.lower_block b
  block_is (tree.block at is_unsafe label w number ss e) =
      λ i. of.labelled label (λ id. of.block_form at is_unsafe id number (stmts_is [] ss (kept_part_is e) i))

  block_part_is : (b : OptionBlock) → of.lower_block_part (pruned_block_part b) ≡ of.lower_block_part b
  block_part_is tree.no_block = refl
  block_part_is (tree.some_block b) = block_is b

  present_block_is : (b : OptionBlock) → of.present_block (pruned_block_part b) ≡ of.present_block b
  present_block_is tree.no_block = refl
  present_block_is (tree.some_block b) = λ i. some (block_is b i)

  stmts_is : (done : List Statement) (ss : Stmts) {t u : Lowering (Option ExprId)} → t ≡ u
      → of.lower_stmts done (pruned_stmts ss) t ≡ of.lower_stmts done ss u
  stmts_is done tree.no_stmts h = λ i. h i >>= (λ x. pure (done, x))
  stmts_is done (tree.more_stmts s ss) {t = t} h = λ i. stmt_is s i >>= (λ x.
      (behind_is s (of.lower_stmts (push_some done x) (pruned_stmts ss) t)
      ∙ (λ j. behind s (stmts_is (push_some done x) ss h j))) i)

  stmt_is : (s : Stmt) → of.lower_stmt (pruned_stmt s) ≡ of.lower_stmt s
  stmt_is (tree.disabled_stmt at by s) = refl
  stmt_is (tree.expr_stmt e semi) = λ i. kept_part_is e i >>= (λ x. pure (option_map (λ id. statement.Expr id semi) x))
  stmt_is tree.item_stmt = refl
  stmt_is (tree.call_stmt c) = refl
  stmt_is (tree.macro_stmt k d) = refl
  stmt_is (tree.let_stmt p t e b) =
      λ i. of.let_stmt_form (of.lower_top p) (of.present_type t) (present_is e i) (present_block_is b i)
