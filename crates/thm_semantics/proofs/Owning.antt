-- What each form of an expression holds: each number is reached in one way, and the numbers of a part are those that its lowering
-- gave out.
use Rattle.std.proofs.Common.{◌≡◌, ℕ, zero, suc, ◌≤◌, inl, inr, Bool, true, false, List, [], ◌∷◌, ◌++◌, append-nil}
use Rattle.std.proofs.Common.{append_assoc, Option, Some, None, option_map, refl, sym, ap, subst, ◌∙◌, arith}
use Rattle.hir_store.specs.Pointers.{Pointer}
use Rattle.hir_store.specs.Stored.{Stored, Store, store_of}
use Rattle.hir_store.specs.declared.hir.Array.TheVariants as array
use Rattle.hir_store.specs.declared.hir.CoroutineKind.{CoroutineKind}
use Rattle.hir_store.specs.declared.hir.Expr.{Expr as HirExpr}
use Rattle.hir_store.specs.declared.hir.Expr.TheVariants as hir
use Rattle.hir_store.specs.declared.hir.LoopSource.{LoopSource}
use Rattle.hir_store.specs.declared.hir.Statement.{Statement}
use Rattle.hir_store.specs.declared.hir.Statement.TheVariants as statement
use Rattle.hir_store.specs.declared.name.Name.{Name}
use Rattle.hir_store.specs.declared.path.Path.{Path}
use Rattle.hir_store.specs.declared.type_ref.ConstRef.{ConstRef}
use Rattle.hir_store.specs.declared.hir.RecordLitField.{RecordLitField}
use Rattle.hir_store.specs.declared.hir.RecordSpread.{RecordSpread}
use Rattle.hir_store.specs.declared.ids.ExprId.{ExprId}
use Rattle.hir_store.specs.declared.ids.TypeRefId.{TypeRefId}
use Rattle.hir_store.specs.declared.ids.LabelId.{LabelId}
use Rattle.hir_store.specs.declared.ids.BlockId.{BlockId}
use Rattle.hir_store.specs.declared.ids.HygieneId.{HygieneId}
use Rattle.hir_store.specs.declared.diagnostics.AwaitLocation.{AwaitLocation}
use Rattle.hir_env.specs.ResolvedTree as tree
use Rattle.hir_env.specs.ResolvedTree.{Leaf, Unary, Binary, Listing, Leaving}
use Rattle.hir_env.specs.ResolvedTree.{Called, Gone, OptionType, OptionPath, OptionArgs, Label, Jump, Expr}
use Rattle.hir_lower_builder.specs.Calls.{track_gone}
use Rattle.hir_lower_builder.specs.Lowering.{Lowering, ◌>>=◌, pure, owning, alloc_expr}
use Rattle.hir_lower_builder.specs.Lower.{ExprSteps, push_some, missing, some, if_form, loop_form, iteration_form, call_form, continue_form}
use Rattle.hir_lower_builder.specs.Lower.{break_form, called_form, uncalled_form}
use Rattle.hir_lower_builder.specs.Lower.{paren_form, path_or_missing, path_form, lower_path, settled, settled_block, StoredContents}
use Rattle.hir_lower_builder.specs.Lower.{block_form}
use Rattle.hir_lower_builder.specs.Lower.{labelled, kept}
use Rattle.hir_lower_builder.specs.Lower.{StoredFields, type_part, args_part, cast_form, offset_of_form, record_contents, record_of}
use Rattle.hir_lower_builder.specs.Lower.{record_form, field_form}
use Rattle.hir_lower_builder.specs.Lower.{stored_leaf, stored_unary, stored_binary, stored_leaving}
use Rattle.hir_lower_builder.specs.Lower.{operand_form, operands_form, value_form, list_form, method_call_form, await_form}
use Rattle.hir_lower_builder.specs.declared.closures.ClosureParams.{ClosureParams}
use Rattle.hir_lower_builder.specs.Lower.{repeat_form, const_form, closure_form, coroutine_block_form, coroutine_form, yield_form}
use Rattle.hir_lower_builder.specs.Preludes.{coroutine_closure_form}
use Rattle.thm_semantics.specs.Reached.{of_some, of_each, of_fields, of_others, of_statement, of_statements, below, reached_to, Spread}
use Rattle.thm_logic.proofs.Frames.{Frame, loop_at, block_at}
use Rattle.thm_logic.proofs.Barriers.{correct_closure, correct_coroutine, correct_yield}
use Rattle.thm_logic.proofs.Owning.{owning_keeps}
use Rattle.thm_logic.proofs.Steps.{Mark, Grows, Put, Rel, Correct, AllocatedBy, correct_bind, correct_as, correct_pure}
use Rattle.thm_logic.proofs.Calls.{correct_emitted, correct_track_gone}
use Rattle.thm_logic.proofs.Steps.{correct_report_await, correct_point, correct_enter_block, correct_alloc}
use Rattle.thm_logic.proofs.Steps.{correct_opened, correct_target, correct_point_field}
use Rattle.thm_logic.proofs.CoroutineClosures.{correct_coroutine_closure}
use Rattle.thm_logic.proofs.Keeping.{Any, type_any, args_any, lower_path_any, handed_any, within_any}
use Rattle.thm_semantics.proofs.Coroutines.{coroutine_is}
use Rattle.thm_semantics.proofs.Spread.{spread_none, spread_wider, spread_append, spread_node}
use Rattle.thm_semantics.proofs.Forms.{Pushed, pushed_one}

-- what was answered has its numbers

pub record OwnsAs {A : Type 0} (numbers : (ExprId → List ℕ) → A → List ℕ)
    (final : Stored) (ps : List Frame) (m m' : Mark) (a : A) : Type 0 where
  pub spread : (d : ℕ) → m'.nodes ≤ d → Spread m.nodes m'.nodes (numbers (reached_to (store_of final) d) a)

abbrev pub Owns : Rel ExprId
Owns = OwnsAs (λ f i. f i)

abbrev pub OwnsSome : Rel (Option ExprId)
OwnsSome = OwnsAs of_some

abbrev pub of_contents : (ExprId → List ℕ) → StoredContents → List ℕ
of_contents f r = of_statements f r.0 ++ of_some f r.1

pub owns_none : {A : Type 0} {numbers : (ExprId → List ℕ) → A → List ℕ} {final : Stored} {ps : List Frame} {m m' : Mark} (a : A)
    → ((f : ExprId → List ℕ) → numbers f a ≡ []) → OwnsAs numbers final ps m m' a
owns_none {m = m} {m' = m'} a e = record { spread = λ d le. rw (e _) (spread_none m.nodes m'.nodes) }

pub owns_at : {e : HirExpr} {from : Option Pointer} {final : Stored} {ps qs : List Frame} (m : Mark) {m1 m' : Mark} {i : ExprId}
    {put : Put} → AllocatedBy put e from final qs m1 m' i → m.nodes ≤ m1.nodes
    → ((d : ℕ) → m1.nodes ≤ d → Spread m.nodes m1.nodes (below (reached_to (store_of final) d) (store_of final) e)) → Owns final ps m m' i
unfolding reached_to
owns_at {final = final} m {m1 = m1} {m' = m'} {i = i} at le h = record { spread = go }
  where
    go : (d : ℕ) → m'.nodes ≤ d → Spread m.nodes m'.nodes (reached_to (store_of final) d i)
    go zero le' = absurd (omega (arith, at.next))
    go (suc d) le' = rw (at.number, at.here, at.next) (spread_node m.nodes m1.nodes _ le (h d (omega (arith, at.next))))

-- whatever owns the bindings
pub owns_owning : {A : Type 0} {numbers : (ExprId → List ℕ) → A → List ℕ} (owner : A → ExprId) {p : Lowering A}
    → Correct p (OwnsAs numbers) → Correct (owning owner p) (OwnsAs numbers)
owns_owning owner h = owning_keeps owner (λ final ps m left start id a row. record { spread = row.spread }) h

-- behind steps of which nothing is kept
owns_behind : {A : Type 0} {R : Rel A} {q : Lowering A} {p : ExprSteps} → Correct q R → Correct p Owns → Correct (q >>= (λ a. p)) Owns
owns_behind h k = correct_as (correct_bind h (λ a. k)) (λ final ps m m' i g row.
    record { spread = λ d le. spread_wider m.nodes m'.nodes (omega arith) (omega arith) (row.second.spread d le) })

-- forms

pub leaf_owns : (e : HirExpr) (from : Option Pointer) → ((f : ExprId → List ℕ) (s : Store) → below f s e ≡ [])
    → Correct (alloc_expr e from) Owns
leaf_owns e from n = correct_as (correct_alloc e from)
    (λ final ps m m' i g a. owns_at m a (omega arith)
    (λ d le. rw (n (reached_to (store_of final) d) (store_of final)) (spread_none m.nodes m.nodes)))

pub missing_owns : Correct missing Owns
unfolding missing
missing_owns = leaf_owns hir.Missing None (λ f s. refl)

pub none_owns : Correct (pure None) OwnsSome
none_owns = correct_as (correct_pure None) (λ final ps m m' o g row. rw row.is (owns_none None (λ f. refl)))

pub some_owns : {p : ExprSteps} → Correct p Owns → Correct (some p) OwnsSome
some_owns h = correct_as (correct_bind h (λ i. correct_pure (Some i)))
    (λ final ps m m' o g row. rw (row.second.is, row.second.still) (record { spread = row.first.spread }))

-- a node of two parts, or lists of them
pub owns2 : {A C : Type 0} {n : (ExprId → List ℕ) → A → List ℕ} {k : (ExprId → List ℕ) → C → List ℕ}
    {p : Lowering A} {q : Lowering C} (e : A → C → HirExpr) (from : Option Pointer)
    → ((f : ExprId → List ℕ) (s : Store) (a : A) (c : C) → below f s (e a c) ≡ n f a ++ k f c)
    → Correct p (OwnsAs n) → Correct q (OwnsAs k) → Correct (p >>= (λ a. q >>= (λ c. alloc_expr (e a c) from))) Owns
owns2 e from is hp hq = correct_as (correct_bind hp (λ a. correct_bind hq (λ c. correct_alloc (e a c) from)))
    (λ final ps m m' i g row. let r = row.second in
    owns_at m r.second (omega arith) (λ d le. rw (is (reached_to (store_of final) d) (store_of final) row.one r.one)
    (spread_append m.nodes r.middle.nodes (inl (omega arith)) (omega arith) (row.first.spread d (omega arith)) (r.first.spread d le))))

-- a node of one part, or of a list
pub owns1 : {A : Type 0} {n : (ExprId → List ℕ) → A → List ℕ} {p : Lowering A} (e : A → HirExpr) (from : Option Pointer)
    → ((f : ExprId → List ℕ) (s : Store) (a : A) → below f s (e a) ≡ n f a)
    → Correct p (OwnsAs n) → Correct (p >>= (λ a. alloc_expr (e a) from)) Owns
owns1 e from is hp = correct_as (correct_bind hp (λ a. correct_alloc (e a) from))
    (λ final ps m m' i g row.
    owns_at m row.second (omega arith) (λ d le. rw (is (reached_to (store_of final) d) (store_of final) row.one) (row.first.spread d le)))

pub leaf_below : (form : Leaf) (f : ExprId → List ℕ) (s : Store) → below f s (stored_leaf form) ≡ []
leaf_below tree.underscore f s = refl
leaf_below tree.include_bytes f s = refl
leaf_below tree.left_out f s = refl

pub unary_below : (form : Unary) (f : ExprId → List ℕ) (s : Store) (i : ExprId) → below f s (stored_unary form i) ≡ f i
unary_below (tree.field_of name) f s i = refl
unary_below (tree.prefix_of op) f s i = refl
unary_below (tree.reference_to rawness mutability) f s i = refl

pub binary_below : (form : Binary) (f : ExprId → List ℕ) (s : Store) (i j : ExprId) → below f s (stored_binary form i j) ≡ f i ++ f j
binary_below (tree.operator op) f s i j = refl
binary_below tree.index_of f s i j = refl

pub leaving_below : (form : Leaving) (f : ExprId → List ℕ) (s : Store) (o : Option ExprId) → below f s (stored_leaving form o) ≡ of_some f o
leaving_below tree.returning f s o = refl
leaving_below tree.yeeting f s o = refl

abbrev pub of_record : (ExprId → List ℕ) → StoredFields → List ℕ
of_record f r = of_fields f r.0 ++ of_others f r.1

abbrev pub of_field : (ExprId → List ℕ) → Option RecordLitField → List ℕ
of_field f None = []
of_field f (Some x) = f x.expr

pub contents_owns : {p : Lowering (List RecordLitField)} {q : Lowering RecordSpread} → Correct p (OwnsAs of_fields)
    → Correct q (OwnsAs of_others) → Correct (record_contents p q) (OwnsAs of_record)
unfolding record_contents
contents_owns hp hq = correct_as (correct_bind hp (λ fs. correct_bind hq (λ s. correct_pure (fs, s))))
    (λ final ps m m' r g row. let s = row.second in rw s.second.is
    (record {
      spread = λ d le. spread_append m.nodes m'.nodes (inl (omega arith)) (omega arith)
          (row.first.spread d (omega arith)) (s.first.spread d (omega arith));
    }))

module _ (at : Pointer) where
  pub operand_owns : (make : ExprId → HirExpr) {p : ExprSteps}
      → ((f : ExprId → List ℕ) (s : Store) (i : ExprId) → below f s (make i) ≡ f i) → Correct p Owns
      → Correct (operand_form at make p) Owns
  unfolding operand_form
  operand_owns make is h = owns1 make (Some at) is h

  pub operands_owns : (make : ExprId → ExprId → HirExpr) {p q : ExprSteps}
      → ((f : ExprId → List ℕ) (s : Store) (i j : ExprId) → below f s (make i j) ≡ f i ++ f j) → Correct p Owns → Correct q Owns
      → Correct (operands_form at make p q) Owns
  unfolding operands_form
  operands_owns make is hp hq = owns2 make (Some at) is hp hq

  pub value_owns : (make : Option ExprId → HirExpr) {p : Lowering (Option ExprId)}
      → ((f : ExprId → List ℕ) (s : Store) (o : Option ExprId) → below f s (make o) ≡ of_some f o) → Correct p OwnsSome
      → Correct (value_form at make p) Owns
  unfolding value_form
  value_owns make is h = owns1 make (Some at) is h

  pub list_owns : (form : Listing) {p : Lowering (List ExprId)} → Correct p (OwnsAs of_each) → Correct (list_form at form p) Owns
  unfolding list_form
  list_owns (tree.tuple_of false) h = owns1 hir.Tuple (Some at) (λ f s es. refl) h
  list_owns (tree.tuple_of true) h = correct_as
      (correct_bind h (λ es. correct_bind missing_owns (λ first. correct_alloc (hir.Tuple (first ∷ es)) (Some at))))
      (λ final ps m m' i g row. let r = row.second in
      owns_at m r.second (omega arith) (λ d le. spread_append m.nodes r.middle.nodes (inr (omega arith)) (omega arith)
      (r.first.spread d le) (row.first.spread d (omega arith))))
  list_owns tree.array_of h = owns1 (λ es. hir.Array (array.ElementList es)) (Some at) (λ f s es. refl) h

  -- the length is reached by nothing that runs, and neither is what is in a const block

  pub repeat_owns : {p : ExprSteps} {n : Lowering ConstRef} {R : Rel ConstRef} → Correct p Owns → Correct n R
      → Correct (repeat_form at p n) Owns
  unfolding repeat_form
  repeat_owns h k = correct_as (correct_bind h (λ e. correct_bind k (λ c. correct_alloc (hir.Array (array.Repeat e c)) (Some at))))
      (λ final ps m m' i g row. let r = row.second in
      owns_at m r.second (omega arith) (λ d le. spread_wider m.nodes r.middle.nodes (omega arith) (omega arith)
      (row.first.spread d (omega arith))))

  pub const_owns : {n : Lowering ConstRef} {R : Rel ConstRef} → Correct n R → Correct (const_form at n) Owns
  unfolding const_form
  const_owns h = correct_as (correct_bind h (λ c. correct_alloc (hir.Const c) (Some at)))
      (λ final ps m m' i g row. owns_at m row.second (omega arith) (λ d le. spread_none m.nodes row.middle.nodes))

  -- nor is what is in a closure, which runs when it is called
  pub closure_owns : (moves is_static : Bool) {p : Lowering ClosureParams} {t : Lowering (Option TypeRefId)} {e : ExprSteps}
      {P : Rel ClosureParams} {T : Rel (Option TypeRefId)} {S : Rel ExprId} → Correct p P → Correct t T → Correct e S
      → Correct (closure_form at moves is_static p t e) Owns
  closure_owns moves is_static hp ht he = correct_as (correct_closure at moves is_static hp ht he)
      (λ final ps m m' i g row. owns_at m row.made (omega (row.to_params.nodes, row.to_ret.nodes, row.to_body.nodes, arith))
      (λ d le. spread_none m.nodes row.left.nodes))

  -- nor is what is in a coroutine block
  pub coroutine_owns : (kind : CoroutineKind) (moves : Bool) (number : Option BlockId) {p : Lowering StoredContents}
      {R : Rel StoredContents} → Correct p R → Correct (coroutine_form (coroutine_block_form at kind moves number p)) Owns
  coroutine_owns kind moves number h = correct_as (correct_coroutine (coroutine_is at kind moves number h))
      (λ final ps m m' i g row. let x = row.inside in
      owns_at m x.made (omega (x.to_entered.nodes, x.to_filled.nodes, x.to_left.nodes, arith))
      (λ d le. spread_none m.nodes x.left.nodes))

  -- nor is its coroutine, where the closure makes one
  pub coroutine_closure_owns : (kind : CoroutineKind) (moves : Bool) {p : Lowering ClosureParams} {t : Lowering (Option TypeRefId)}
      {e : ExprSteps} → Correct p Any → Correct t Any → Correct e Any → Correct (coroutine_closure_form at kind moves p t e) Owns
  coroutine_closure_owns kind moves {p = p} {t = t} {e = e} hp ht he = correct_as
      (correct_coroutine_closure at kind moves p t e (within_any kind hp ht he) (handed_any []))
      (λ final ps m m' i g row. owns_at m row.made (omega (row.to_left.nodes, row.to_handed.nodes, arith))
      (λ d le. spread_none m.nodes row.handed.nodes))

  pub yield_owns : {p : Lowering (Option ExprId)} → Correct p OwnsSome → Correct (yield_form at p) Owns
  yield_owns h = correct_yield at _ (value_owns hir.Yield (λ f s o. refl) h)

  pub method_call_owns : (name : Name) (g : OptionArgs) {p : ExprSteps} {q : Lowering (List ExprId)} → Correct p Owns
      → Correct q (OwnsAs of_each) → Correct (method_call_form at p name q (args_part g)) Owns
  unfolding method_call_form
  method_call_owns name g hp hq = correct_as (correct_bind hp (λ e. correct_bind hq (λ es. correct_bind (args_any g)
      (λ a. correct_alloc (hir.MethodCall e name a es) (Some at)))))
      (λ final ps m m' i u row. let r = row.second in let s = r.second in
      owns_at m s.second (omega arith) (λ d le. spread_append m.nodes s.middle.nodes (inl (omega arith)) (omega arith)
      (row.first.spread d (omega arith)) (r.first.spread d (omega arith))))

  -- the type reaches no expression
  pub cast_owns : (t : OptionType) {p : ExprSteps} → Correct p Owns → Correct (cast_form at p (type_part None t)) Owns
  unfolding cast_form
  cast_owns t h = correct_as (correct_bind h (λ e. correct_bind (type_any None t) (λ i. correct_alloc (hir.Cast e i) (Some at))))
      (λ final ps m m' i g row. let r = row.second in
      owns_at m r.second (omega arith) (λ d le. spread_wider m.nodes r.middle.nodes (omega arith) (omega arith)
      (row.first.spread d (omega arith))))

  pub offset_of_owns : (t : OptionType) (names : List Name) → Correct (offset_of_form at (type_part None t) names) Owns
  unfolding offset_of_form
  offset_of_owns t names = correct_as (correct_bind (type_any None t) (λ i. correct_alloc (hir.OffsetOf i names) (Some at)))
      (λ final ps m m' i g row. owns_at m row.second (omega arith) (λ d le. spread_none m.nodes row.middle.nodes))

  pub record_of_owns : {c : Lowering StoredFields} → Correct c (OwnsAs of_record) → (p : Option Path) → Correct (record_of at c p) Owns
  record_of_owns h None = missing_owns
  record_of_owns h (Some p) = owns1 (λ r. hir.RecordLit p r.0 r.1) (Some at) (λ f s r. refl) h

  pub record_owns : (p : OptionPath) {c : Lowering StoredFields} → Correct c (OwnsAs of_record)
      → Correct (record_form at (lower_path p) c) Owns
  unfolding record_form
  record_owns p h = correct_as (correct_bind (lower_path_any p) (λ o. record_of_owns h o))
      (λ final ps m m' i g row.
      record { spread = λ d le. spread_wider m.nodes m'.nodes (omega arith) (omega arith) (row.second.spread d le) })

  -- a field's value has its numbers
  pub field_owns : (name : Name) {p : ExprSteps} → Correct p Owns → Correct (field_form at name p) (OwnsAs of_field)
  unfolding field_form
  field_owns name h = correct_as (correct_bind h (λ i. correct_bind (correct_point_field i at) (λ u. correct_pure _)))
      (λ final ps m m' o g row. let r = row.second in rw r.second.is
      (record { spread = λ d le. spread_wider m.nodes m'.nodes (omega arith) (omega arith) (row.first.spread d (omega arith)) }))

  pub await_owns : (location : Option AwaitLocation) {p : ExprSteps} → Correct p Owns → Correct (await_form at location p) Owns
  unfolding await_form
  await_owns location h = correct_as
      (correct_bind h (λ e. correct_bind (correct_report_await at location) (λ u. correct_alloc (hir.Await e) (Some at))))
      (λ final ps m m' i g row. let r = row.second in
      owns_at m r.second (omega arith) (λ d le. spread_wider m.nodes r.middle.nodes (omega arith) (omega arith)
      (row.first.spread d (omega arith))))

  -- a prefix without operator reaches nothing
  pub nameless_owns : {p : ExprSteps} → Correct p Owns → Correct (operand_form at (λ i. hir.Missing) p) Owns
  unfolding operand_form
  nameless_owns h = correct_as (correct_bind h (λ e. correct_alloc hir.Missing (Some at)))
      (λ final ps m m' i g row. owns_at m row.second (omega arith) (λ d le. spread_none m.nodes row.middle.nodes))

  pub if_owns : {c t : ExprSteps} {e : Lowering (Option ExprId)} → Correct c Owns → Correct t Owns → Correct e OwnsSome
      → Correct (if_form at c t e) Owns
  unfolding if_form
  if_owns hc ht he = correct_as
      (correct_bind ht (λ i. correct_bind he (λ j. correct_bind hc (λ k. correct_alloc (hir.If k i j) (Some at)))))
      (λ final ps m m' i g row. let r = row.second in let q = r.second in
      owns_at m q.second (omega arith) (λ d le. spread_append m.nodes q.middle.nodes (inr (omega arith)) (omega arith) (q.first.spread d le)
      (spread_append m.nodes r.middle.nodes (inl (omega arith)) (omega arith)
      (row.first.spread d (omega arith)) (r.first.spread d (omega arith)))))

  pub call_owns : {p : ExprSteps} {q : Lowering (List ExprId)} → Correct p Owns → Correct q (OwnsAs of_each)
      → Correct (call_form at p q) Owns
  unfolding call_form
  call_owns hf hs = owns2 hir.Call (Some at) (λ f s g xs. refl) hf hs

  pub loop_owns : (from : LoopSource) (l : Option Label) {p : ExprSteps} → Correct p Owns → Correct (loop_form at from l p) Owns
  unfolding loop_form
  loop_owns from None h = correct_as (correct_bind h (λ i. correct_alloc (hir.Loop i None from) (Some at)))
      (λ final ps m m' i g row. owns_at m row.second (omega arith) (λ d le. row.first.spread d le))
  loop_owns from (Some l) h = correct_as
      (correct_opened loop_at l (λ n ps. refl) (λ n. h) (λ n i. correct_alloc (hir.Loop i (Some n) from) (Some at)))
      (λ final ps m m' i g row. let e = row.nodes in let b = row.before in
      owns_at m row.second (omega arith) (λ d le. spread_wider m.nodes row.left.nodes (omega arith) (omega arith) (row.first.spread d le)))

  -- the break is stored behind the condition, and that behind the body
  pub iteration_owns : {c b : ExprSteps} → Correct c Owns → Correct b Owns → Correct (iteration_form at c b) Owns
  unfolding iteration_form
  iteration_owns hc hb = correct_as
      (correct_bind hb (λ j. correct_bind hc (λ k. correct_bind (leaf_owns (hir.Break None None) (Some at) (λ f s. refl))
      (λ o. correct_alloc (hir.If k j (Some o)) (Some at)))))
      (λ final ps m m' i g row. let r = row.second in let q = r.second in
      owns_at m q.second (omega arith) (λ d le. let f = reached_to (store_of final) d in
      subst (Spread m.nodes q.middle.nodes) (append_assoc (f r.one) (f row.one) (f q.one))
      (spread_append m.nodes q.middle.nodes (inl (omega arith)) (omega arith)
      (spread_append m.nodes r.middle.nodes (inr (omega arith)) (omega arith)
      (r.first.spread d (omega arith)) (row.first.spread d (omega arith)))
      (q.first.spread d le))))

  pub break_owns : (j : Option Jump) {p : Lowering (Option ExprId)} → Correct p OwnsSome → Correct (break_form at j p) Owns
  unfolding break_form
  break_owns j h = correct_as (correct_bind (correct_target j) (λ n. correct_bind h (λ e. correct_alloc (hir.Break n e) (Some at))))
      (λ final ps m m' i g row. let r = row.second in
      owns_at m r.second (omega arith) (λ d le. spread_wider m.nodes r.middle.nodes (omega arith) (omega arith) (r.first.spread d le)))

  pub continue_owns : (j : Option Jump) → Correct (continue_form at j) Owns
  unfolding continue_form
  continue_owns j = correct_as (correct_bind (correct_target j) (λ n. correct_alloc (hir.Continue n) (Some at)))
      (λ final ps m m' i g row. owns_at m row.second (omega arith) (λ d le. spread_none m.nodes row.middle.nodes))

  pub paren_owns : {p : ExprSteps} → Correct p Owns → Correct (paren_form at p) Owns
  unfolding paren_form
  paren_owns h = correct_as (correct_bind h (λ i. correct_bind (correct_point at i) (λ _. correct_pure i)))
      (λ final ps m m' i g row. rw row.second.second.is
      (record { spread = λ d le. spread_wider m.nodes m'.nodes (omega arith) (omega arith) (row.first.spread d (omega arith)) }))

  pub called_owns : (c : Called) {p : ExprSteps} → Correct p Owns → Correct (called_form at c p) Owns
  unfolding called_form
  called_owns c h = owns_behind (correct_emitted c) (paren_owns h)

  pub uncalled_owns : (c : Called) → Correct (uncalled_form at c) Owns
  unfolding uncalled_form
  uncalled_owns c = owns_behind (correct_emitted c) (leaf_owns hir.Missing (Some at) (λ f s. refl))

pub path_below : (h : HygieneId) (p : Option Path) (f : ExprId → List ℕ) (s : Store) → below f s (path_or_missing h p) ≡ []
path_below h None f s = refl
path_below h (Some p) f s = refl

pub path_owns : (at : Pointer) (p : OptionPath) (h : HygieneId) → Correct (path_form at h (lower_path p)) Owns
unfolding path_form
path_owns at p h = correct_as (correct_bind (lower_path_any p) (λ r. correct_alloc (path_or_missing h r) (Some at)))
    (λ final ps m m' i g row. owns_at m row.second (omega arith)
    (λ d le. rw (path_below h row.one (reached_to (store_of final) d) (store_of final)) (spread_none m.nodes row.middle.nodes)))

-- what is kept, lists, statements

pub kept_owns : (e : Expr) {p : ExprSteps} → Correct p Owns → Correct (kept e p) OwnsSome
kept_owns (tree.disabled_expr why e) h = correct_as (correct_bind (correct_track_gone why) (λ u. correct_pure None))
    (λ final ps m m' o g row. rw row.second.is (owns_none None (λ f. refl)))
kept_owns e h = correct_as (correct_bind h (λ i. correct_pure (Some i)))
    (λ final ps m m' o g row. rw (row.second.is, row.second.still) (record { spread = row.first.spread }))

pub disabled_owns : (why : Gone) → Correct (track_gone why >>= (λ u. missing)) Owns
disabled_owns why = owns_behind (correct_track_gone why) missing_owns

pub each_more : {final : Stored} {ps : List Frame} {m m1 m' : Mark} {r : List ExprId} (done : List ExprId) (o : Option ExprId) → Grows m m1
    → Grows m1 m'
    → OwnsSome final ps m m1 o → Pushed (push_some done o) (OwnsAs of_each) final ps m1 m' r → Pushed done (OwnsAs of_each) final ps m m' r
each_more {m = m} {m' = m'} done None g g' h p = record {
  new = p.new;
  is = p.is;
  rel = record { spread = λ d le. spread_wider m.nodes m'.nodes (omega arith) (omega arith) (p.rel.spread d le) };
}
each_more {m = m} {m' = m'} done (Some i) g g' h p = record {
  new = i ∷ p.new;
  is = pushed_one done i p.new p.is;
  rel = record {
    spread = λ d le. spread_append m.nodes m'.nodes (inl (omega arith)) (omega arith) (h.spread d (omega arith)) (p.rel.spread d le);
  };
}

pub fields_more : {final : Stored} {ps : List Frame} {m m1 m' : Mark} {r : List RecordLitField} (done : List RecordLitField)
    (o : Option RecordLitField) → Grows m m1 → Grows m1 m' → OwnsAs of_field final ps m m1 o
    → Pushed (push_some done o) (OwnsAs of_fields) final ps m1 m' r → Pushed done (OwnsAs of_fields) final ps m m' r
fields_more {m = m} {m' = m'} done None g g' h p = record {
  new = p.new;
  is = p.is;
  rel = record { spread = λ d le. spread_wider m.nodes m'.nodes (omega arith) (omega arith) (p.rel.spread d le) };
}
fields_more {m = m} {m' = m'} done (Some x) g g' h p = record {
  new = x ∷ p.new;
  is = pushed_one done x p.new p.is;
  rel = record {
    spread = λ d le. spread_append m.nodes m'.nodes (inl (omega arith)) (omega arith) (h.spread d (omega arith)) (p.rel.spread d le);
  };
}

pub fields_own_all : {p : Lowering (List RecordLitField)} → Correct p (Pushed [] (OwnsAs of_fields)) → Correct p (OwnsAs of_fields)
fields_own_all h = correct_as h (λ final ps m m' r g row. rw row.is row.rel)

-- a statement in front of others, which have the numbers from k on
pub record OwnsFirst (final : Stored) (nodes lo hi : ℕ) (s : Statement) (Rest : ℕ → Type 0) : Type 0 where
  pub k : ℕ
  pub low : lo ≤ k
  pub high : k ≤ hi
  pub own : (d : ℕ) → nodes ≤ d → Spread lo k (of_statement (reached_to (store_of final) d) s)
  pub rest : Rest k

-- However deep one looks past these nodes, statements and the tail behind them have the numbers in this range, one after another.
abbrev pub InOrder : Stored → ℕ → ℕ → ℕ → List Statement → Option ExprId → Type 0
InOrder final nodes lo hi [] o = (d : ℕ) → nodes ≤ d → Spread lo hi (of_some (reached_to (store_of final) d) o)
InOrder final nodes lo hi (s ∷ ss) o = OwnsFirst final nodes lo hi s (λ k. InOrder final nodes k hi ss o)

order_from : (final : Stored) (nodes lo hi : ℕ) (o : Option ExprId) (lo' : ℕ) → lo' ≤ lo → (ss : List Statement)
    → InOrder final nodes lo hi ss o → InOrder final nodes lo' hi ss o
order_from final nodes lo hi o lo' le [] h = λ d ge. spread_wider lo' hi le (omega arith) (h d ge)
order_from final nodes lo hi o lo' le (s ∷ ss) h = record {
  k = h.k;
  low = let low = h.low in omega (arith, le, low);
  high = h.high;
  own = λ d ge. spread_wider lo' h.k le (omega arith) (h.own d ge);
  rest = h.rest;
}

-- all together
pub order_all : (final : Stored) (nodes : ℕ) (o : Option ExprId) (lo hi : ℕ) (ss : List Statement) → InOrder final nodes lo hi ss o
    → (d : ℕ) → nodes ≤ d → Spread lo hi (of_contents (reached_to (store_of final) d) (ss, o))
order_all final nodes o lo hi [] h d ge = h d ge
order_all final nodes o lo hi (s ∷ ss) h d ge =
    let f = reached_to (store_of final) d in
    let low = h.low in
    let high = h.high in
    rw (append_assoc (of_statement f s) (of_statements f ss) (of_some f o))
    (spread_append lo hi (inl (omega arith)) (omega arith, low, high, omega arith) (h.own d ge)
    (order_all final nodes o h.k hi ss h.rest d ge))

-- a last expression that becomes the tail keeps its numbers
pub settled_order : (final : Stored) (nodes hi lo : ℕ) (ss : List Statement) (o : Option ExprId) → InOrder final nodes lo hi ss o
    → InOrder final nodes lo hi (settled ss o).0 (settled ss o).1
settled_order final nodes hi lo ss (Some i) h = h
settled_order final nodes hi lo [] None h = h
settled_order final nodes hi lo (statement.Item ∷ ss) None h =
    record { k = h.k; low = h.low; high = h.high; own = h.own; rest = settled_order final nodes hi h.k ss None h.rest }
settled_order final nodes hi lo (statement.MacroDef def ∷ ss) None h =
    record { k = h.k; low = h.low; high = h.high; own = h.own; rest = settled_order final nodes hi h.k ss None h.rest }
settled_order final nodes hi lo (statement.Let p t e b ∷ ss) None h =
    record { k = h.k; low = h.low; high = h.high; own = h.own; rest = settled_order final nodes hi h.k ss None h.rest }
settled_order final nodes hi lo (statement.Expr i true ∷ ss) None h =
    record { k = h.k; low = h.low; high = h.high; own = h.own; rest = settled_order final nodes hi h.k ss None h.rest }
settled_order final nodes hi lo (statement.Expr i false ∷ []) None h =
    λ d ge. let high = h.high in spread_wider lo hi (omega arith) high (h.own d ge)
settled_order final nodes hi lo (statement.Expr i false ∷ (s ∷ ss)) None h =
    record { k = h.k; low = h.low; high = h.high; own = h.own; rest = settled_order final nodes hi h.k (s ∷ ss) None h.rest }

-- another tail
pub order_ended : (final : Stored) (nodes nodes' hi hi' : ℕ) (o c : Option ExprId) → nodes ≤ nodes' → hi ≤ hi'
    → ((k : ℕ) → k ≤ hi → ((d : ℕ) → nodes ≤ d → Spread k hi (of_some (reached_to (store_of final) d) o))
    → (d : ℕ) → nodes' ≤ d → Spread k hi' (of_some (reached_to (store_of final) d) c))
    → (lo : ℕ) → lo ≤ hi → (ss : List Statement) → InOrder final nodes lo hi ss o → InOrder final nodes' lo hi' ss c
order_ended final nodes nodes' hi hi' o c le le' ends lo under [] h = ends lo under h
order_ended final nodes nodes' hi hi' o c le le' ends lo under (s ∷ ss) h = record {
  k = h.k;
  low = h.low;
  high = let high = h.high in omega (arith, high, le');
  own = λ d ge. h.own d (omega (arith, le, ge));
  rest = order_ended final nodes nodes' hi hi' o c le le' ends h.k h.high ss h.rest;
}

-- the statements are pushed on those that stand
pub record Filled (done : List Statement) (final : Stored) (ps : List Frame) (m m' : Mark) (r : StoredContents) : Type 0 where
  pub new : List Statement
  pub is : r.0 ≡ done ++ new
  pub rel : InOrder final m'.nodes m.nodes m'.nodes new r.1

pub filled_end : {final : Stored} {ps : List Frame} {m m' : Mark} {r : StoredContents} (done : List Statement) (o : Option ExprId)
    → r ≡ (done, o)
    → OwnsSome final ps m m' o → Filled done final ps m m' r
filled_end done o e h = rw e (record { new = []; is = sym (append-nil done); rel = h.spread })

pub filled_silent : {final : Stored} {ps qs : List Frame} {m m' : Mark} {r : StoredContents} (s : Statement) (done : List Statement)
    → ((f : ExprId → List ℕ) → of_statement f s ≡ []) → Grows m m'
    → Filled (done ++ s ∷ []) final qs m m' r → Filled done final ps m m' r
filled_silent {final = final} {m = m} s done n g p = record {
  new = s ∷ p.new;
  is = pushed_one done s p.new p.is;
  rel = record {
    k = m.nodes;
    low = omega arith;
    high = g.nodes;
    own = λ d le. rw (n (reached_to (store_of final) d)) (spread_none m.nodes m.nodes);
    rest = p.rel;
  };
}

pub filled_held : {final : Stored} {ps : List Frame} {m m1 m' : Mark} {r : StoredContents} (done : List Statement) (s : Statement)
    → Grows m m1 → Grows m1 m' → OwnsAs of_statement final ps m m1 s → Filled (done ++ s ∷ []) final ps m1 m' r
    → Filled done final ps m m' r
filled_held {m1 = m1} done s g g' h p = record {
  new = s ∷ p.new;
  is = pushed_one done s p.new p.is;
  rel = record {
    k = m1.nodes;
    low = g.nodes;
    high = g'.nodes;
    own = λ d le. h.spread d (omega (arith, le, g'.nodes));
    rest = p.rel;
  };
}

pub filled_none : {final : Stored} {ps : List Frame} {m m1 m' : Mark} {r : StoredContents} (done : List Statement) → Grows m m1
    → Grows m1 m' → Filled done final ps m1 m' r → Filled done final ps m m' r
filled_none {final = final} {m = m} {m1 = m1} {m' = m'} {r = r} done g g' p =
    record { new = p.new; is = p.is; rel = order_from final m'.nodes m1.nodes m'.nodes r.1 m.nodes g.nodes p.new p.rel }

pub filled_expr : {final : Stored} {ps : List Frame} {m m1 m' : Mark} {r : StoredContents} (semi : Bool) (done : List Statement)
    (o : Option ExprId)
    → Grows m m1 → Grows m1 m'
    → OwnsSome final ps m m1 o → Filled (push_some done (option_map (λ i. statement.Expr i semi) o)) final ps m1 m' r
    → Filled done final ps m m' r
filled_expr semi done None g g' h p = filled_none done g g' p
filled_expr semi done (Some i) g g' h p = filled_held done (statement.Expr i semi) g g' (record { spread = h.spread }) p

-- blocks

-- the numbers of a statement in front
pub statement_below : (f : ExprId → List ℕ) (ks : List ℕ) (ss ss' : List Statement) (o o' : Option ExprId)
    → of_statements f ss ++ of_some f o ≡ of_statements f ss' ++ of_some f o'
    → (ks ++ of_statements f ss) ++ of_some f o ≡ (ks ++ of_statements f ss') ++ of_some f o'
statement_below f ks ss ss' o o' e = append_assoc ks (of_statements f ss) (of_some f o)
    ∙ ap (λ js. ks ++ js) e
    ∙ sym (append_assoc ks (of_statements f ss') (of_some f o'))

pub block_form_owns : (at : Pointer) (is_unsafe : Bool) (label : Option LabelId) (number : Option BlockId) {p : Lowering StoredContents}
    → Correct p (Filled []) → Correct (block_form at is_unsafe label number p) Owns
unfolding block_form
block_form_owns at is_unsafe label number hp = correct_as
    (correct_bind (correct_enter_block number)
    (λ u. correct_bind hp (λ r. correct_alloc (settled_block is_unsafe label number (settled r.0 r.1)) (Some at))))
    (λ final ps m m' i g row. let r = row.second in
    owns_at m r.second (omega arith) (λ d le. spread_wider m.nodes r.middle.nodes row.before.nodes (omega arith)
    (subst (λ ks. Spread row.middle.nodes r.middle.nodes (of_contents (reached_to (store_of final) d) (settled ks r.one.1)))
    (sym r.first.is) (order_all final r.middle.nodes (settled r.first.new r.one.1).1 row.middle.nodes r.middle.nodes
    (settled r.first.new r.one.1).0 (settled_order final r.middle.nodes r.middle.nodes row.middle.nodes r.first.new r.one.1 r.first.rel)
    d le))))

pub block_owns : (at : Pointer) (is_unsafe : Bool) (label : Option Label) (number : Option BlockId) {p : Lowering StoredContents}
    → Correct p (Filled []) → Correct (labelled label (λ n. block_form at is_unsafe n number p)) Owns
unfolding labelled
block_owns at is_unsafe None number hp = block_form_owns at is_unsafe None number hp
block_owns at is_unsafe (Some l) number hp = correct_as
    (correct_opened block_at l (λ n ps. refl) (λ n. block_form_owns at is_unsafe (Some n) number hp) (λ n i. correct_pure i))
    (λ final ps m m' i g row. let e = row.nodes in rw (row.second.is, row.second.still)
    (record { spread = λ d le. spread_wider m.nodes row.left.nodes (omega arith) (omega arith) (row.first.spread d le) }))

pub each_owns_all : {p : Lowering (List ExprId)} → Correct p (Pushed [] (OwnsAs of_each)) → Correct p (OwnsAs of_each)
each_owns_all h = correct_as h (λ final ps m m' r g row. rw row.is row.rel)
