-- What `?` and `try` become holds: each number is reached in one way, and those of what is made up are new.
use Rattle.std.proofs.Common.{◌≡◌, ◌⊎◌, inl, inr, ⊎_elim, refl, sym, subst, ℕ, ◌≤◌, Bool, true, false, List, [], ◌∷◌, ◌++◌, append-nil}
use Rattle.std.proofs.Common.{Option, Some, None, arith}
use Rattle.hir_binding.specs.declared.binding.BindingAnnotation.TheVariants.{Unannotated}
use Rattle.hir_store.specs.Pointers.{Pointer}
use Rattle.hir_store.specs.Stored.{Stored, Store, store_of}
use Rattle.hir_store.specs.declared.hir.Expr.{Expr as HirExpr}
use Rattle.hir_store.specs.declared.hir.Expr.TheVariants as hir
use Rattle.hir_store.specs.declared.hir.MatchArm.{MatchArm}
use Rattle.hir_store.specs.declared.ids.BlockId.{BlockId}
use Rattle.hir_store.specs.declared.ids.ExprId.{ExprId}
use Rattle.hir_store.specs.declared.ids.LabelId.{LabelId}
use Rattle.hir_store.specs.declared.ids.LangItemId.{LangItemId}
use Rattle.hir_env.specs.ResolvedTree.{QuestionItems, Type_}
use Rattle.hir_lower_builder.specs.Forms.{ExprSteps, StoredContents, root_hygiene, settled, settled_block}
use Rattle.hir_lower_builder.specs.Lower.{lower_type}
use Rattle.hir_lower_builder.specs.Lowering.{Lowering, alloc_desugared}
use Rattle.hir_lower_builder.specs.Made.{bound_block, conversion, flow_arm_form, item_call_form, item_or_missing, item_pat, leaving_node}
use Rattle.hir_lower_builder.specs.Made.{made_call, made_path, made_path_form, question_form, residual_form, try_block_form, typed_try_form}
use Rattle.hir_lower_builder.specs.Made.{condition_form, held_block, held_form, hold_form, value_or_unit, wrapped_form}
use Rattle.hir_lower_scope.specs.ScopeRibs.{Try}
use Rattle.thm_semantics.specs.Reached.{of_some, below, reached_to, Spread}
use Rattle.thm_logic.proofs.Frames.{Frame}
use Rattle.thm_logic.proofs.Keeping.{one_type_any}
use Rattle.thm_logic.proofs.MadeSteps.{AllocatedMade, correct_alloc_desugared, correct_made_bind, correct_made_number, correct_opened_try}
use Rattle.thm_logic.proofs.MadeSteps.{correct_try_target}
use Rattle.thm_logic.proofs.PatSteps.{correct_alloc_pat}
use Rattle.thm_logic.proofs.Steps.{Correct, Mark, correct_alloc, correct_as, correct_bind, correct_enter_block, correct_pure}
use Rattle.thm_semantics.proofs.Owning.{Filled, Owns, OwnsAs, of_contents, order_all, order_ended, owns_at, settled_order}
use Rattle.thm_semantics.proofs.Spread.{spread_append, spread_none, spread_wider}

pub made_leaf_owns : (e : HirExpr) (from : Option Pointer) → ((f : ExprId → List ℕ) (s : Store) → below f s e ≡ [])
    → Correct (alloc_desugared e from) Owns
made_leaf_owns e from n = correct_as (correct_alloc_desugared e from)
    (λ final ps m m' i g a. owns_at m a (omega arith)
    (λ d le. rw (n (reached_to (store_of final) d) (store_of final)) (spread_none m.nodes m.nodes)))

pub item_below : (o : Option LangItemId) (f : ExprId → List ℕ) (s : Store) → below f s (item_or_missing o) ≡ []
item_below None f s = refl
item_below (Some i) f s = refl

-- a call of what was stored behind its argument
pub called_owns : {final : Stored} {ps : List Frame} (m : Mark) {m1 m2 m' : Mark} {c e i : ExprId} {from : Option Pointer}
    → m.nodes ≤ m1.nodes → m1.nodes ≤ m2.nodes → Owns final ps m m1 e → Owns final ps m1 m2 c
    → AllocatedMade (made_call c e) from final ps m2 m' i → Owns final ps m m' i
called_owns m {m1 = m1} {m2 = m2} {e = e} le le' own callee a = owns_at m a (omega (arith, le, le')) (λ d ge.
    rw (append-nil (reached_to _ d e)) (spread_append m.nodes m2.nodes (inr (omega arith)) (le, omega arith, omega arith, le')
    (callee.spread d ge) (own.spread d (omega (arith, le', ge)))))

abbrev pub of_one_arm : (ExprId → List ℕ) → MatchArm → List ℕ
of_one_arm f a = f a.expr ++ of_some f a.guard

flow_arm_owns : (item : LangItemId) {body : ℕ → ExprSteps} → ((n : ℕ) → Correct (body n) Owns)
    → Correct (flow_arm_form item body) (OwnsAs of_one_arm)
unfolding flow_arm_form
flow_arm_owns item h = correct_as (correct_bind correct_made_number (λ n. correct_bind (correct_made_bind Unannotated n) (λ p. correct_bind
    (correct_alloc_pat (item_pat item p) None) (λ q. correct_bind (h n) (λ e. correct_pure (record { pat = q; guard = None; expr = e }))))))
    (λ final ps m m' a g row. let p = row.second in let q = p.second in let e = q.second in rw (e.second.is, e.second.still) (record {
      spread = λ d le. rw (append-nil (reached_to (store_of final) d e.one))
          (spread_wider m.nodes e.middle.nodes (omega (arith, row.before.nodes, p.before.nodes, q.before.nodes)) (omega arith)
          (e.first.spread d le));
    }))

leaving_one : (t : Option (Try LabelId)) (f : ExprId → List ℕ) (s : Store) (e : ExprId) → below f s (leaving_node t e) ≡ f e
leaving_one None f s e = refl
leaving_one (Some t) f s e = refl

module _ (at : Pointer) where
  pub name_owns : (n : ℕ) → Correct (made_path_form at n) Owns
  unfolding made_path_form
  name_owns n = made_leaf_owns (hir.Path (made_path n) root_hygiene) (Some at) (λ f s. refl)

  residual_owns : (items : QuestionItems) (n : ℕ) → Correct (residual_form at items n) Owns
  unfolding residual_form item_call_form
  residual_owns items n = correct_as (correct_bind (name_owns n) (λ r. correct_bind correct_try_target (λ t. correct_bind (correct_bind
      (made_leaf_owns (item_or_missing (conversion items t)) (Some at) (item_below (conversion items t)))
      (λ c. correct_alloc_desugared (made_call c r) (Some at))) (λ e. correct_alloc_desugared (leaving_node t e) (Some at)))))
      (λ final ps m m' i g row. let s = row.second in let c = s.second in
      let argument = owns_to m row.first s.before.nodes in
      let called = called_owns m (omega (arith, row.before.nodes, s.before.nodes)) c.first.before.nodes argument c.first.first
      c.first.second in
      owns_at m c.second (omega (arith, row.before.nodes, s.before.nodes, c.before.nodes))
      (λ d le. rw (leaving_one s.one (reached_to (store_of final) d) (store_of final) c.one) (called.spread d le)))
    where
      owns_to : {final : Stored} {ps : List Frame} (m : Mark) {m1 m' : Mark} {i : ExprId} → Owns final ps m m1 i → m1.nodes ≤ m'.nodes
          → Owns final ps m m' i
      owns_to m {m' = m'} h le =
          record { spread = λ d ge. spread_wider m.nodes m'.nodes (omega arith) le (h.spread d (omega (arith, le, ge))) }

  -- the two arms are stored behind the call
  pub question_owns : (items : QuestionItems) {p : ExprSteps} → Correct p Owns → Correct (question_form at items p) Owns
  unfolding question_form item_call_form
  question_owns items hp = correct_as (correct_bind hp (λ e. correct_bind (correct_bind
      (made_leaf_owns (item_or_missing (Some items.branch)) (Some at) (item_below (Some items.branch)))
      (λ c. correct_alloc_desugared (made_call c e) (Some at))) (λ b. correct_bind (flow_arm_owns items.goes_on name_owns)
      (λ a. correct_bind (flow_arm_owns items.breaks (residual_owns items)) (λ c. correct_alloc (hir.Match b (a ∷ c ∷ [])) (Some at))))))
      (λ final ps m m' i g row. let s = row.second in let u = s.second in let t = u.second in
      let called = called_owns m row.before.nodes s.first.before.nodes row.first s.first.first s.first.second in
      let begun : m.nodes ≤ s.middle.nodes = omega (arith, row.before.nodes, s.before.nodes) in
      owns_at m t.second (omega (arith, begun, u.before.nodes, t.before.nodes)) (λ d le. let f = reached_to (store_of final) d in
      rw (append-nil (of_one_arm f t.one))
      (spread_append m.nodes t.middle.nodes (inl (omega arith))
      (omega arith, begun, omega (arith, u.before.nodes, t.before.nodes), omega arith)
      (called.spread d (omega (arith, le, u.before.nodes, t.before.nodes)))
      (spread_append s.middle.nodes t.middle.nodes (inl (omega arith)) (omega arith, u.before.nodes, t.before.nodes, omega arith)
      (u.first.spread d (omega (arith, le, t.before.nodes))) (t.first.spread d le)))))

  -- the numbers of the tail, or new ones
  record ValueOwns (tail : Option ExprId) (final : Stored) (ps : List Frame) (m m' : Mark) (i : ExprId) : Type 0 where
    either : (k nodes hi : ℕ) → nodes ≤ m.nodes → ((d : ℕ) → nodes ≤ d → Spread k hi (of_some (reached_to (store_of final) d) tail))
        → (d : ℕ) → m'.nodes ≤ d
        → Spread k hi (reached_to (store_of final) d i) ⊎ Spread m.nodes m'.nodes (reached_to (store_of final) d i)

  value_owns : (tail : Option ExprId) → Correct (value_or_unit at tail) (ValueOwns tail)
  unfolding value_or_unit
  value_owns (Some e) = correct_as (correct_pure e) (λ final ps m m' i g row. rw (row.is, row.still)
      (record { either = λ k nodes hi le h d ge. inl (h d (omega (arith, le, ge))) }))
  value_owns None = correct_as (made_leaf_owns (hir.Tuple []) (Some at) (λ f s. refl))
      (λ final ps m m' i g row. record { either = λ k nodes hi le h d ge. inr (row.spread d ge) })

  -- what ends a `try` has the numbers of the tail and some behind them
  record WrappedOwns (tail : Option ExprId) (final : Stored) (ps : List Frame) (m m' : Mark) (i : ExprId) : Type 0 where
    ends : (k nodes hi : ℕ) → k ≤ hi → hi ≤ m.nodes → nodes ≤ m.nodes
        → ((d : ℕ) → nodes ≤ d → Spread k hi (of_some (reached_to (store_of final) d) tail))
        → (d : ℕ) → m'.nodes ≤ d → Spread k m'.nodes (reached_to (store_of final) d i)

  wrapped_owns : (o : Option LangItemId) (tail : Option ExprId) → Correct (wrapped_form at o tail) (WrappedOwns tail)
  unfolding wrapped_form
  wrapped_owns o tail = correct_as (correct_bind (made_leaf_owns (item_or_missing o) (Some at) (item_below o))
      (λ c. correct_bind (value_owns tail) (λ v. correct_alloc_desugared (made_call c v) (Some at))))
      (λ final ps m m' i g row. let s = row.second in record {
        ends = λ k nodes hi under le le' h.
            let start : Mark = record m { nodes = k } in
            let low : k ≤ m.nodes = omega (arith, under, le) in
            (owns_at {ps = ps} start s.second (omega (arith, low, row.before.nodes, s.before.nodes)) (λ d ge.
            let f = reached_to (store_of final) d in
            let callee : Spread m.nodes row.middle.nodes (f row.one) = row.first.spread d (omega (arith, s.before.nodes, ge)) in
            rw (append-nil (f s.one)) (⊎_elim
            (λ old. spread_append k s.middle.nodes (inr le)
            (low, omega arith, s.before.nodes, omega (arith, le, row.before.nodes, s.before.nodes)) callee old)
            (λ new. spread_append k s.middle.nodes (inl (omega arith))
            (low, omega (arith, low, row.before.nodes), s.before.nodes, omega arith) callee new)
            (s.first.either k nodes hi (omega (arith, le', row.before.nodes)) h d ge)))).spread;
      })

  -- the statements, and what ends them
  pub try_owns : (o : Option LangItemId) (typed : Bool) (number : Option BlockId) {p : Lowering StoredContents} → Correct p (Filled [])
      → Correct (try_block_form at o typed number p) Owns
  unfolding try_block_form
  try_owns o typed number hp = correct_as (correct_opened_try at typed (correct_enter_block number) hp
      (λ n r. correct_bind (wrapped_owns o (settled r.0 r.1).1)
      (λ v. correct_alloc (settled_block false (Some n) number ((settled r.0 r.1).0, Some v)) (Some at))))
      (λ final ps m m' i g row.
      let r = row.one in let held = row.first.second in let s = row.second in
      let from = row.first.middle.nodes in
      let begun : m.nodes ≤ from = let e = row.nodes in omega (arith, e, row.first.before.nodes) in
      let order = order_ended final row.left.nodes s.middle.nodes row.left.nodes s.middle.nodes (settled held.new r.1).1 (Some s.one)
      s.before.nodes s.before.nodes
      (λ k under h. s.first.ends k row.left.nodes row.left.nodes under (omega arith) (omega arith)
      (subst (λ ks. (d : ℕ) → row.left.nodes ≤ d
      → Spread k row.left.nodes (of_some (reached_to (store_of final) d) (settled ks r.1).1)) (sym held.is) h))
      from row.first.after.nodes (settled held.new r.1).0
      (settled_order final row.left.nodes row.left.nodes from held.new r.1 held.rel) in
      owns_at m s.second (omega (arith, begun, row.first.after.nodes, s.before.nodes))
      (λ d le. spread_wider m.nodes s.middle.nodes begun (omega arith)
      (subst (λ ks. Spread from s.middle.nodes (of_contents (reached_to (store_of final) d) ((settled ks r.1).0, Some s.one)))
      (sym held.is) (order_all final s.middle.nodes (Some s.one) from s.middle.nodes (settled held.new r.1).0 order d le))))

  -- the type reaches no expression
  pub typed_try_owns : (t : Type_) {p : ExprSteps} → Correct p Owns → Correct (typed_try_form at p (lower_type None t)) Owns
  unfolding typed_try_form
  typed_try_owns t hp = correct_as (correct_bind hp (λ b. correct_bind correct_made_number (λ n. correct_bind (one_type_any None t)
      (λ k. correct_bind (correct_made_bind Unannotated n) (λ p. correct_bind (name_owns n)
      (λ e. correct_alloc_desugared (bound_block p k b e) (Some at)))))))
      (λ final ps m m' i g row. let s = row.second in let u = s.second in let q = u.second in let r = q.second in
      let begun : row.middle.nodes ≤ q.middle.nodes = omega (arith, s.before.nodes, u.before.nodes, q.before.nodes) in
      owns_at m r.second (omega (arith, row.before.nodes, begun, r.before.nodes)) (λ d le. let f = reached_to (store_of final) d in
      rw (append-nil (f row.one ++ []), append-nil (f row.one)) (spread_append m.nodes r.middle.nodes (inl begun)
      (omega arith, omega (arith, row.before.nodes, begun), omega (arith, begun, r.before.nodes), omega arith)
      (row.first.spread d (omega (arith, le, begun, r.before.nodes))) (r.first.spread d le))))

  -- a condition, where its temporaries end: it is stored before the name that it is bound by
  held_owns : {c : ExprSteps} → Correct c Owns → Correct (held_form at c) Owns
  unfolding held_form hold_form
  held_owns hc = correct_as (correct_bind hc (λ c. correct_bind correct_made_number (λ n. correct_bind (correct_made_bind Unannotated n)
      (λ p. correct_bind (name_owns n) (λ e. correct_alloc_desugared (held_block p c e) (Some at))))))
      (λ final ps m m' i g row. let s = row.second in let q = s.second in let r = q.second in
      let begun : row.middle.nodes ≤ q.middle.nodes = omega (arith, s.before.nodes, q.before.nodes) in
      owns_at m r.second (omega (arith, row.before.nodes, begun, r.before.nodes)) (λ d le. let f = reached_to (store_of final) d in
      rw (append-nil (f row.one ++ []), append-nil (f row.one)) (spread_append m.nodes r.middle.nodes (inl begun)
      (omega arith, omega (arith, row.before.nodes, begun), omega (arith, begun, r.before.nodes), omega arith)
      (row.first.spread d (omega (arith, le, begun, r.before.nodes))) (r.first.spread d le))))

  pub condition_owns : (lets : Bool) {c : ExprSteps} → Correct c Owns → Correct (condition_form lets at c) Owns
  condition_owns true h = h
  condition_owns false h = held_owns h
