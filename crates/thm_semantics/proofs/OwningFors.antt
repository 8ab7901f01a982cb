-- What `for` becomes holds: each number is reached in one way, and those of what is made up are new.
use Rattle.std.proofs.Common.{inl, refl, ℕ, ◌≤◌, [], ◌∷◌, ◌++◌, append-nil, Option, Some, None, arith}
use Rattle.hir_binding.specs.declared.binding.BindingAnnotation.TheVariants.{Mutable}
use Rattle.hir_store.specs.Pointers.{Pointer}
use Rattle.hir_store.specs.Stored.{store_of}
use Rattle.hir_store.specs.declared.hir.Expr.TheVariants as hir
use Rattle.hir_store.specs.declared.hir.LoopSource.TheVariants.{ForLoop}
use Rattle.hir_store.specs.declared.hir.Mutability.TheVariants.{Mut}
use Rattle.hir_store.specs.declared.hir.Rawness.TheVariants.{Ref}
use Rattle.hir_store.specs.declared.ids.LangItemId.{LangItemId}
use Rattle.hir_store.specs.declared.ids.PatId.{PatId}
use Rattle.hir_store.specs.declared.pat.Pat.TheVariants as pat
use Rattle.hir_store.specs.declared.path.Path.TheVariants.{LangItem}
use Rattle.hir_env.specs.ResolvedTree.{ForItems, Label, OptionPat}
use Rattle.hir_lower_builder.specs.Forms.{ExprSteps, root_hygiene}
use Rattle.hir_lower_builder.specs.Lower.{lower_top}
use Rattle.hir_lower_builder.specs.Made.{arm_for, done_arm_form, for_form, for_iteration_form, gives_arm_form, item_call_form}
use Rattle.hir_lower_builder.specs.Made.{item_or_missing}
use Rattle.hir_lower_builder.specs.Made.{item_pat, made_call, made_loop_form, made_reference_form, next_form, only_tail}
use Rattle.thm_logic.proofs.Frames.{loop_at}
use Rattle.thm_logic.proofs.Keeping.{top_any}
use Rattle.thm_logic.proofs.MadeSteps.{correct_alloc_desugared, correct_made_bind, correct_made_number}
use Rattle.thm_logic.proofs.PatSteps.{correct_alloc_pat}
use Rattle.thm_logic.proofs.Steps.{Correct, correct_alloc, correct_as, correct_bind, correct_opened, correct_pure}
use Rattle.thm_semantics.specs.Reached.{reached_to}
use Rattle.thm_semantics.proofs.Owning.{Owns, OwnsAs, owns_at}
use Rattle.thm_semantics.proofs.OwningTries.{called_owns, item_below, made_leaf_owns, name_owns, of_one_arm}
use Rattle.thm_semantics.proofs.Spread.{spread_append, spread_wider}

gives_arm_owns : (item : LangItemId) (p : PatId) {b : ExprSteps} → Correct b Owns → Correct (gives_arm_form item p b) (OwnsAs of_one_arm)
unfolding gives_arm_form
gives_arm_owns item p h = correct_as (correct_bind (correct_alloc_pat (item_pat item p) None)
    (λ q. correct_bind h (λ e. correct_pure (arm_for q e))))
    (λ final ps m m' a g row. let e = row.second in rw (e.second.is, e.second.still) (record {
      spread = λ d le. rw (append-nil (reached_to (store_of final) d e.one))
          (spread_wider m.nodes e.middle.nodes row.before.nodes (omega arith) (e.first.spread d le));
    }))

module _ (at : Pointer) where
  done_arm_owns : (item : LangItemId) → Correct (done_arm_form at item) (OwnsAs of_one_arm)
  unfolding done_arm_form
  done_arm_owns item = correct_as (correct_bind (correct_alloc_pat (pat.Path (LangItem item) root_hygiene) None)
      (λ p. correct_bind (made_leaf_owns (hir.Break None None) (Some at) (λ f s. refl)) (λ e. correct_pure (arm_for p e))))
      (λ final ps m m' a g row. let e = row.second in rw (e.second.is, e.second.still) (record {
        spread = λ d le. rw (append-nil (reached_to (store_of final) d e.one))
            (spread_wider m.nodes e.middle.nodes row.before.nodes (omega arith) (e.first.spread d le));
      }))

  next_owns : (item : LangItemId) (n : ℕ) → Correct (next_form at item n) Owns
  unfolding next_form made_reference_form item_call_form
  next_owns item n = correct_as (correct_bind (correct_bind (name_owns at n) (λ e. correct_alloc_desugared (hir.Ref Ref Mut e) (Some at)))
      (λ r. correct_bind (made_leaf_owns (item_or_missing (Some item)) (Some at) (item_below (Some item)))
      (λ c. correct_alloc_desugared (made_call c r) (Some at))))
      (λ final ps m m' i g row. let r = row.first in let c = row.second in
      let reference : Owns final ps m row.middle row.one = owns_at m r.second r.before.nodes (λ d le. r.first.spread d le) in
      called_owns m row.before.nodes c.before.nodes reference c.first c.second)

  -- the body is stored behind the call and what ends the loop
  for_iteration_owns : (items : ForItems) (n : ℕ) (p : PatId) {b : ExprSteps} → Correct b Owns
      → Correct (for_iteration_form at items n p b) Owns
  unfolding for_iteration_form
  for_iteration_owns items n p h = correct_as (correct_bind (next_owns items.next n) (λ c. correct_bind (done_arm_owns items.is_done)
      (λ a. correct_bind (gives_arm_owns items.gives p h) (λ b. correct_bind (correct_alloc_desugared (hir.Match c (a ∷ b ∷ [])) (Some at))
      (λ e. correct_alloc_desugared (only_tail e) (Some at))))))
      (λ final ps m m' i g row. let u = row.second in let t = u.second in let e = t.second in
      let under : m.nodes ≤ t.middle.nodes = omega (arith, row.before.nodes, u.before.nodes, t.before.nodes) in
      let matched : Owns final ps m e.middle e.one = owns_at m e.first under (λ d le. let f = reached_to (store_of final) d in
      rw (append-nil (of_one_arm f t.one))
      (spread_append m.nodes t.middle.nodes (inl (omega arith))
      (omega arith, row.before.nodes, omega (arith, u.before.nodes, t.before.nodes), omega arith)
      (row.first.spread d (omega (arith, le, u.before.nodes, t.before.nodes)))
      (spread_append row.middle.nodes t.middle.nodes (inl (omega arith)) (omega arith, u.before.nodes, t.before.nodes, omega arith)
      (u.first.spread d (omega (arith, le, t.before.nodes))) (t.first.spread d le)))) in
      owns_at m e.second (omega (arith, under, e.before.nodes)) (λ d le. matched.spread d le))

  made_loop_owns : (label : Option Label) {b : ExprSteps} → Correct b Owns → Correct (made_loop_form at label b) Owns
  unfolding made_loop_form
  made_loop_owns None h = correct_as (correct_bind h (λ i. correct_alloc_desugared (hir.Loop i None ForLoop) (Some at)))
      (λ final ps m m' i g row. owns_at m row.second row.before.nodes (λ d le. row.first.spread d le))
  made_loop_owns (Some l) h = correct_as
      (correct_opened loop_at l (λ n ps. refl) (λ n. h) (λ n i. correct_alloc_desugared (hir.Loop i (Some n) ForLoop) (Some at)))
      (λ final ps m m' i g row. let e = row.nodes in let b = row.before in
      owns_at m row.second (omega arith) (λ d le. spread_wider m.nodes row.left.nodes (omega arith) (omega arith) (row.first.spread d le)))

-- the loop is stored behind the call of the head
pub for_owns : (at head_at : Pointer) (items : ForItems) (label : Option Label) (p : OptionPat) {h b : ExprSteps} → Correct h Owns
    → Correct b Owns → Correct (for_form at head_at items label h (lower_top p) b) Owns
unfolding for_form item_call_form
for_owns at head_at items label p hh hb = correct_as (correct_bind hh (λ h. correct_bind (correct_bind
    (made_leaf_owns (item_or_missing (Some items.into_iter)) (Some head_at) (item_below (Some items.into_iter)))
    (λ c. correct_alloc_desugared (made_call c h) (Some head_at))) (λ i. correct_bind (top_any p) (λ p. correct_bind correct_made_number
    (λ n. correct_bind (correct_made_bind Mutable n) (λ q. correct_bind (made_loop_owns at label (for_iteration_owns at items n p hb))
    (λ l. correct_alloc (hir.Match i (arm_for q l ∷ [])) (Some at))))))))
    (λ final ps m m' i g row. let s = row.second in let u = s.second in let v = u.second in let w = v.second in let x = w.second in
    let called = called_owns m row.before.nodes s.first.before.nodes row.first s.first.first s.first.second in
    let begun : s.middle.nodes ≤ w.middle.nodes = omega (arith, u.before.nodes, v.before.nodes, w.before.nodes) in
    owns_at m x.second (omega (arith, row.before.nodes, s.before.nodes, begun, x.before.nodes)) (λ d le.
    let f = reached_to (store_of final) d in
    rw (append-nil (f x.one ++ []), append-nil (f x.one)) (spread_append m.nodes x.middle.nodes (inl begun)
    (omega arith, omega (arith, row.before.nodes, s.before.nodes), omega (arith, begun, x.before.nodes), omega arith)
    (called.spread d (omega (arith, le, begun, x.before.nodes))) (x.first.spread d le))))
