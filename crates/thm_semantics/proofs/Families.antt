-- Families of forms by their operands: what each becomes runs as it is written.
use Rattle.std.proofs.Common.{true, false, List, [], ◌∷◌, Option, Some, None, refl, arith}
use Rattle.hir_base.specs.declared.op.LogicOp.{LogicOp}
use Rattle.hir_base.specs.declared.op.BinaryOp.TheVariants as ast
use Rattle.hir_base.specs.declared.op.UnaryOp.{UnaryOp}
use Rattle.hir_store.specs.Pointers.{Pointer}
use Rattle.hir_store.specs.declared.hir.Array.TheVariants as hir_array
use Rattle.hir_store.specs.declared.hir.Expr.{Expr as HirExpr}
use Rattle.hir_store.specs.declared.hir.Expr.TheVariants as hir
use Rattle.hir_store.specs.declared.hir.Mutability.{Mutability}
use Rattle.hir_store.specs.declared.hir.Rawness.{Rawness}
use Rattle.hir_store.specs.declared.type_ref.ConstRef.{ConstRef}
use Rattle.hir_store.specs.declared.name.Name.{Name}
use Rattle.hir_store.specs.declared.ids.ExprId.{ExprId}
use Rattle.hir_store.specs.declared.diagnostics.AwaitLocation.{AwaitLocation}
use Rattle.hir_env.specs.ResolvedTree as tree
use Rattle.hir_env.specs.ResolvedTree.{Leaf, Unary, Binary, Listing, Leaving}
use Rattle.hir_env.specs.NodeMap.{Site}
use Rattle.hir_env.specs.Answering.{site_of}
use Rattle.hir_lower_builder.specs.Lowering.{Lowering, alloc_expr}
use Rattle.hir_lower_builder.specs.Lower.{ExprSteps, stored_leaf, stored_unary, stored_binary, stored_lazy, stored_leaving}
use Rattle.hir_lower_builder.specs.Lower.{operand_form, operands_form, value_form, list_form, await_form, repeat_form, const_form}
use Rattle.hir_lower_builder.specs.Lower.{yield_form}
use Rattle.spec_semantics.specs.Run.{Value, Operation, field, prefix, reference, array, repeated, const_block, yielding}
use Rattle.spec_semantics.specs.Run.{awaiting, leave, became, missing, ends, ◌>>=◌, ask}
use Rattle.spec_semantics.specs.Syntax.{run_leaf, unary_operation, run_binary, run_lazy, run_list, leaves_with}
use Rattle.thm_logic.proofs.Barriers.{correct_yield}
use Rattle.thm_logic.proofs.Steps.{Rel, Correct, correct_bind, correct_both, correct_as, correct_alloc, correct_report_await}
use Rattle.thm_semantics.proofs.Named.{Unnamed}
use Rattle.thm_semantics.proofs.Relation.{same_ask, same_bind}
use Rattle.thm_semantics.proofs.Senses.{Walk, base_of, one, optional, many, Runs, goes_at, goes_within}
use Rattle.thm_semantics.proofs.Nodes
use Rattle.thm_semantics.proofs.Forms.{missing_fine}
use Rattle.thm_semantics.proofs.Strict.{Finish, asks, leaves, makes_tuple, Form1, finished, goes1, form1_fine, Event2}
use Rattle.thm_semantics.proofs.Strict.{event0_fine, event2_fine}

-- the kinds of each

field_is : (name : Name) → Form1 (λ i. hir.Field i name) one (asks (field name) (λ v. v ∷ []))
field_is name = record { runs = λ w a. refl; jumps = λ s P ls a h. h }

prefix_is : (op : UnaryOp) → Form1 (λ i. hir.UnaryOp op i) one (asks (prefix op) (λ v. v ∷ []))
prefix_is op = record { runs = λ w a. refl; jumps = λ s P ls a h. h }

pub leaving_is : (form : Leaving) → Form1 (stored_leaving form) optional (leaves (leaves_with form))
leaving_is tree.returning = record { runs = λ w a. refl; jumps = λ s P ls a h. h }
leaving_is tree.yeeting = record { runs = λ w a. refl; jumps = λ s P ls a h. h }

pub become_is : Form1 hir.Become one (leaves became)
become_is = record { runs = λ w a. refl; jumps = λ s P ls a h. h }

yield_is : Form1 hir.Yield optional (asks yielding (λ v. v ∷ []))
yield_is = record { runs = λ w a. refl; jumps = λ s P ls a h. h }

await_is : Form1 hir.Await one (asks awaiting (λ v. v ∷ []))
await_is = record { runs = λ w a. refl; jumps = λ s P ls a h. h }

tuple_is : Form1 hir.Tuple many makes_tuple
tuple_is = record { runs = λ w a. refl; jumps = λ s P ls a h. h }

array_is : Form1 (λ es. hir.Array (hir_array.ElementList es)) many (asks array (λ vs. vs))
array_is = record { runs = λ w a. refl; jumps = λ s P ls a h. h }

repeat_is : (c : ConstRef) → Form1 (λ e. hir.Array (hir_array.Repeat e c)) one (asks repeated (λ v. v ∷ []))
repeat_is c = record { runs = λ w a. refl; jumps = λ s P ls a h. h }

-- forms

module _ (at : Pointer) where
  abbrev here : Option Site
  here = Some (site_of at)

  pub leaf_fine : (form : Leaf) → Correct (alloc_expr (stored_leaf form) (Some at)) (Runs one (λ fuel ss. run_leaf form here))
  leaf_fine tree.underscore = event0_fine at (record { runs = λ w. refl; jumps = λ s P ls. tt })
  leaf_fine tree.include_bytes = event0_fine at (record { runs = λ w. refl; jumps = λ s P ls. tt })
  leaf_fine tree.left_out = correct_as (correct_alloc hir.Missing (Some at)) (λ final ps m m' i g a. Nodes.goes_missing a)

  pub operand_fine : {make : ExprId → HirExpr} {f : Finish Value} {p : ExprSteps} {x : Walk Value} → Form1 make one f
      → Correct p (Runs one x)
      → Correct (operand_form at make p) (Runs one (finished at x f))
  unfolding operand_form
  operand_fine is h = form1_fine at is h

  -- a reference to what is no made name
  reference_fine : (kind : Rawness) (mutable : Mutability) {p : ExprSteps} {x : Walk Value} → Correct p (Runs one x) → Correct p Unnamed
      → Correct (operand_form at (λ i. hir.Ref kind mutable i) p) (Runs one (finished at x (asks (reference kind mutable) (λ v. v ∷ []))))
  unfolding operand_form
  reference_fine kind mutable h u = correct_as
      (correct_bind (correct_both h u) (λ e. correct_alloc (hir.Ref kind mutable e) (Some at)))
      (λ final ps m m' i g row.
      let k = goes_within {base = base_of m} {base' = base_of m} {nodes' = row.middle.nodes} (omega arith) row.first.one in
      goes_at row.second
      (λ fuel d le f. rw row.first.other.is (same_bind (k.same fuel d le f)
      (λ v. same_ask (reference kind mutable) (v ∷ []) (Some (site_of at)))))
      (λ d le. k.jumps d le))

  pub unary_fine : (form : Unary) {p : ExprSteps} {x : Walk Value} → Correct p (Runs one x) → Correct p Unnamed
      → Correct (operand_form at (stored_unary form) p) (Runs one (finished at x (asks (unary_operation form) (λ v. v ∷ []))))
  unary_fine (tree.field_of name) h u = operand_fine (field_is name) h
  unary_fine (tree.prefix_of op) h u = operand_fine (prefix_is op) h
  unary_fine (tree.reference_to kind mutable) h u = reference_fine kind mutable h u

  pub value_fine : {make : Option ExprId → HirExpr} {f : Finish Value} {p : Lowering (Option ExprId)} {x : Walk Value}
      → Form1 make optional f → Correct p (Runs optional x) → Correct (value_form at make p) (Runs one (finished at x f))
  unfolding value_form
  value_fine is h = form1_fine at is h

  pub yield_fine : {p : Lowering (Option ExprId)} {x : Walk Value} → Correct p (Runs optional x)
      → Correct (yield_form at p) (Runs one (finished at x (asks yielding (λ v. v ∷ []))))
  yield_fine h = correct_yield at _ (value_fine yield_is h)

  pub operands_fine : {make : ExprId → ExprId → HirExpr} {o : Operation} {p q : ExprSteps} {x y : Walk Value}
      → Event2 make one one o (λ v w. v ∷ w ∷ []) → Correct p (Runs one x) → Correct q (Runs one y)
      → Correct (operands_form at make p q)
      (Runs one (λ fuel ss. x fuel ss >>= (λ v. y fuel ss >>= (λ w. ask o (v ∷ w ∷ []) here))))
  unfolding operands_form
  operands_fine is hp hq = event2_fine at is hp hq

  pub lazy_fine : (op : LogicOp) {p q : ExprSteps} {x y : Walk Value} → Correct p (Runs one x) → Correct q (Runs one y)
      → Correct (operands_form at (stored_lazy op) p q) (Runs one (λ fuel ss. run_lazy op (x fuel ss) (y fuel ss) here))
  unfolding operands_form
  lazy_fine op hp hq = correct_as (correct_bind hp (λ a. correct_bind hq (λ b. correct_alloc (stored_lazy op a b) (Some at))))
      (λ final ps m m' i g row. let r = row.second in
      Nodes.goes_lazy (goes_within (omega arith) row.first) (goes_within (omega arith) r.first) r.second)

  pub binary_fine : (form : Binary) {p q : ExprSteps} {x y : Walk Value} → Correct p (Runs one x) → Correct q (Runs one y)
      → Correct (operands_form at (stored_binary form) p q) (Runs one (λ fuel ss. run_binary form (x fuel ss) (y fuel ss) here))
  binary_fine (tree.operator None) hp hq = operands_fine (record { runs = λ w a b. refl; jumps = λ s P ls a b h. h }) hp hq
  binary_fine (tree.operator (Some (ast.LogicOp op))) hp hq = lazy_fine op hp hq
  binary_fine (tree.operator (Some (ast.ArithOp op))) hp hq =
      operands_fine (record { runs = λ w a b. refl; jumps = λ s P ls a b h. h }) hp hq
  binary_fine (tree.operator (Some (ast.CmpOp op))) hp hq =
      operands_fine (record { runs = λ w a b. refl; jumps = λ s P ls a b h. h }) hp hq
  binary_fine (tree.operator (Some (ast.Assignment op))) hp hq =
      operands_fine (record { runs = λ w a b. refl; jumps = λ s P ls a b h. h }) hp hq
  binary_fine (tree.operator (Some ast.Assign)) hp hq = operands_fine (record { runs = λ w a b. refl; jumps = λ s P ls a b h. h }) hp hq
  binary_fine tree.index_of hp hq = operands_fine (record { runs = λ w a b. refl; jumps = λ s P ls a b h. h }) hp hq

  pub list_fine : (form : Listing) {p : Lowering (List ExprId)} {x : Walk (List Value)} → Correct p (Runs many x)
      → Correct (list_form at form p) (Runs one (λ fuel ss. run_list form (x fuel ss) here))
  unfolding list_form
  list_fine (tree.tuple_of false) h = form1_fine at tuple_is h
  list_fine (tree.tuple_of true) h = correct_as
      (correct_bind h (λ es. correct_bind missing_fine (λ first. correct_alloc (hir.Tuple (first ∷ es)) (Some at))))
      (λ final ps m m' i g row. let r = row.second in
      Nodes.goes_front_missing (goes_within (omega arith) r.first) (goes_within (omega arith) row.first) r.second)
  list_fine tree.array_of h = form1_fine at array_is h

  -- the length has no part in the run, nor has what is in a const block

  pub repeat_fine : {p : ExprSteps} {n : Lowering ConstRef} {R : Rel ConstRef} {x : Walk Value} → Correct p (Runs one x) → Correct n R
      → Correct (repeat_form at p n) (Runs one (finished at x (asks repeated (λ v. v ∷ []))))
  unfolding repeat_form
  repeat_fine h k = correct_as
      (correct_bind h (λ e. correct_bind k (λ c. correct_alloc (hir.Array (hir_array.Repeat e c)) (Some at))))
      (λ final ps m m' i g row. let r = row.second in goes1 (repeat_is r.one) (goes_within (omega arith) row.first) r.second)

  pub const_fine : {n : Lowering ConstRef} {R : Rel ConstRef} → Correct n R
      → Correct (const_form at n) (Runs one (λ fuel ss. ask const_block [] here))
  unfolding const_form
  const_fine h = correct_as (correct_bind h (λ c. correct_alloc (hir.Const c) (Some at)))
      (λ final ps m m' i g row. goes_at row.second (λ fuel d le f. same_ask const_block [] here) (λ d le. tt))

  pub await_fine : (location : Option AwaitLocation) {p : ExprSteps} {x : Walk Value} → Correct p (Runs one x)
      → Correct (await_form at location p) (Runs one (finished at x (asks awaiting (λ v. v ∷ []))))
  unfolding await_form
  await_fine location h = correct_as
      (correct_bind h (λ e. correct_bind (correct_report_await at location) (λ u. correct_alloc (hir.Await e) (Some at))))
      (λ final ps m m' i g row. let r = row.second in goes1 await_is (goes_within (omega arith) row.first) r.second)

  -- a prefix without operator: its operand is lowered, and reached by nothing
  pub nameless_fine : {p : ExprSteps} {R : Rel ExprId} → Correct p R
      → Correct (operand_form at (λ i. hir.Missing) p) (Runs one (λ fuel ss. ends (leave missing)))
  unfolding operand_form
  nameless_fine h = correct_as (correct_bind h (λ e. correct_alloc hir.Missing (Some at)))
      (λ final ps m m' i g row. Nodes.goes_missing row.second)
