-- More levels than an id counts change nothing of what is in scope behind an expression.
use Rattle.std.proofs.Common.{arith, ◌≡◌, ◌∙◌, refl, ap, ◌<◌, ◌≤◌, ℕ, zero, suc, nat_lt, Bool, true, false, if◌then◌else◌}
use Rattle.std.proofs.Common.{Some, None, slice_get}
use Rattle.hir_store.specs.declared.hir.Expr.{Expr}
use Rattle.hir_store.specs.declared.ids.ExprId.{ExprId}
use Rattle.hir_store.specs.Stored.{Store}
use Rattle.spec_scopes.specs.Placed.{after, after_below, after_form, after_found, after_part, after_to}
use Rattle.spec_scopes.specs.Scopes.{Scopes}

below_at : (f g : Scopes) (ss : Scopes) (b : Bool) → (b ≡ true → f ≡ g) → (if b then f else ss) ≡ (if b then g else ss)
below_at f g ss true same = same refl
below_at f g ss false same = refl

module _ (store : Store) where
  -- at the parts with lower ids the two are the same
  below_same : (f g : ExprId → Scopes → Scopes) (e : ExprId) → ((c : ExprId) (ss : Scopes) → c.0 < e.0 → f c ss ≡ g c ss)
      → after_below store f e ≡ after_below store g e
  below_same f g e same = λ i c ss. below_at (f c ss) (g c ss) ss (nat_lt c.0 e.0) (λ less. same c ss (grind (arith, less))) i

  pub same_levels : (d n : ℕ) (e : ExprId) (ss : Scopes) → e.0 < d → e.0 < n → after_to store d e ss ≡ after_to store n e ss
  unfolding after_to
  same_levels zero n e ss less more = absurd (omega (arith, less))
  same_levels (suc d) zero e ss less more = absurd (omega (arith, more))
  same_levels (suc d) (suc n) e ss less more =
      ap (λ f. after_found store f (slice_get store.exprs e.0) ss)
      (below_same (after_to store d) (after_to store n) e
      (λ c zs below. same_levels d n c zs (omega (arith, below, less)) (omega (arith, below, more))))

  -- behind an expression is what its form has behind it
  pub after_unfold : (e : ExprId) (ss : Scopes) → after store e ss ≡ after_found store (after_part store e) (slice_get store.exprs e.0) ss
  unfolding after_to
  after_unfold e ss =
      ap (λ f. after_found store f (slice_get store.exprs e.0) ss)
      (below_same (after_to store e.0) (after store) e (λ c zs below. same_levels e.0 (suc c.0) c zs below (omega arith)))

  pub after_is : (e : ExprId) (f : Expr) (ss : Scopes) → slice_get store.exprs e.0 ≡ Some f
      → after store e ss ≡ after_form store (after_part store e) f ss
  after_is e f ss is = after_unfold e ss ∙ ap (λ o. after_found store (after_part store e) o ss) is

  pub after_none : (e : ExprId) (ss : Scopes) → slice_get store.exprs e.0 ≡ None → after store e ss ≡ ss
  after_none e ss is = after_unfold e ss ∙ ap (λ o. after_found store (after_part store e) o ss) is

  -- behind a part that is gone into, and behind one that isn't
  pub after_part_below : (w c : ExprId) (ss : Scopes) → c.0 < w.0 → after_part store w c ss ≡ after store c ss
  after_part_below w c ss less = let is : nat_lt c.0 w.0 ≡ true = grind (arith, less) in ap (λ b. if b then after store c ss else ss) is

  pub after_part_past : (w c : ExprId) (ss : Scopes) → w.0 ≤ c.0 → after_part store w c ss ≡ ss
  after_part_past w c ss past = let is : nat_lt c.0 w.0 ≡ false = grind (arith, past) in ap (λ b. if b then after store c ss else ss) is
