-- What a part of an ordered set has last.
use Rattle.std.proofs.Common.{arith, ◌≡◌, ◌∙◌, refl, sym, ap, ℕ, ◌<◌, Bool, true, false, true≢false, List, [], ◌∷◌, ◌++◌}
use Rattle.std.proofs.lemmas.Bool.Decides.{nat_tests}
use Rattle.std.specs.BTreeMap.{is_at}
use Rattle.std.specs.BTreeSet.{BTreeSet, contains, IsKeyRangeOf}
use Rattle.std.specs.BTreeMap.Range.{IsInRange}
use Rattle.std.specs.Cmp.{IsTotalOrder}
use Rattle.std.specs.List.{list_any}
use Rattle.std.specs.Ordering.{is_eq, is_gt, is_lt, nat_cmp, ordering_then, ordering_reverse}
use Rattle.std.specs.declared.cmp.Ordering.{Ordering}
use Rattle.std.specs.declared.cmp.Ordering.TheVariants.{Less, Equal, Greater}
use Rattle.std.specs.declared.ops.Bound.TheVariants.{Included, Excluded}
use Rattle.hir_lower_scope.specs.Depths.{by_key}

less≢equal : Less ≡ Equal → ⊥
less≢equal e = true≢false (ap is_lt e)

greater≢less : Greater ≡ Less → ⊥
greater≢less e = true≢false (ap is_gt e)

any_same : {A : Type 0} (p q : A → Bool) → ((x : A) → p x ≡ q x) → (xs : List A) → list_any p xs ≡ list_any q xs
any_same p q same [] = refl
any_same p q same (x ∷ xs) = rw (same x, any_same p q same xs) refl

below_is : (n m : ℕ) → nat_cmp n m ≡ Less → n < m
below_is n m e = grind (arith, nat_tests)

is_below : (n m : ℕ) → n < m → nat_cmp n m ≡ Less
is_below n m e = grind (arith, nat_tests)

from_zero : (n : ℕ) → is_gt (nat_cmp 0 n) ≡ false
from_zero n = grind (arith, nat_tests)

module _ {K : Type 0} (cmp : K → K → Ordering) (total : IsTotalOrder cmp) (key : K) (below : ℕ) (set : BTreeSet (K × ℕ))
    (found : List (K × ℕ))
    (range : IsKeyRangeOf (by_key cmp) (Included (key, 0)) (Excluded (key, below)) set found) where
  itself : cmp key key ≡ Equal
  itself = by (cmp key key) (total.antisymm key key)
    where
      by : (o : Ordering) → o ≡ ordering_reverse o → o ≡ Equal
      by Less e = absurd (greater≢less (sym e))
      by Equal e = refl
      by Greater e = absurd (greater≢less e)

  within : (r : ℕ) → r < below → IsInRange (by_key cmp) (Included (key, 0)) (Excluded (key, below)) (key, r)
  within r under = (rw itself (from_zero r), rw itself (is_below r below under))

  pub none_found : found ≡ [] → (r : ℕ) → r < below → contains (by_key cmp) set (key, r) ≡ false
  none_found e r under = range.5 e (key, r) (within r under)

  module _ (last : K × ℕ) (front : List (K × ℕ)) (is : found ≡ front ++ last ∷ []) where
    turned : cmp last.0 key ≡ ordering_reverse (cmp key last.0)
    turned = total.antisymm last.0 key

    tied : cmp key last.0 ≡ Equal
    tied = by (cmp key last.0) (cmp last.0 key) turned (range.3 last front is).0.0 (range.3 last front is).0.1
      where
        by : (o i : Ordering) → i ≡ ordering_reverse o → is_gt (ordering_then o (nat_cmp 0 last.1)) ≡ false
            → ordering_then i (nat_cmp last.1 below) ≡ Less → o ≡ Equal
        by Less i e f g = absurd (greater≢less (sym (ap (λ z. ordering_then z (nat_cmp last.1 below)) e) ∙ g))
        by Equal i e f g = refl
        by Greater i e f g = absurd (true≢false f)

    back : cmp last.0 key ≡ Equal
    back = turned ∙ ap ordering_reverse tied

    pub last_below : last.1 < below
    last_below = below_is last.1 below
        (sym (ap (λ z. ordering_then z (nat_cmp last.1 below)) back) ∙ (range.3 last front is).0.1)

    pub last_there : contains (by_key cmp) set (key, last.1) ≡ true
    last_there = any_same (is_at (by_key cmp (key, last.1))) (is_at (by_key cmp last))
        (λ x. ap (λ o. is_eq (ordering_then o (nat_cmp last.1 x.1))) (total.congr key last.0 x.0 tied)) set.keys
        ∙ (range.3 last front is).1

    pub none_deeper : (r : ℕ) → last.1 < r → r < below → contains (by_key cmp) set (key, r) ≡ false
    none_deeper r over under = by (contains (by_key cmp) set (key, r)) refl
      where
        by : (t : Bool) → contains (by_key cmp) set (key, r) ≡ t → t ≡ false
        by true e = absurd (true≢false
            (sym (ap (λ z. is_lt (ordering_then z (nat_cmp last.1 r))) back ∙ ap is_lt (is_below last.1 r over))
            ∙ range.4 last front is (key, r) (within r under) e))
        by false e = refl
