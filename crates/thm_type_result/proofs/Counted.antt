-- How often a number stands in a list.
use Rattle.std.proofs.Common.{◌≡◌, ◌≢◌, ◌∙◌, refl, sym, ap, ℕ, zero, suc, ◌+◌, ◌<◌, ◌≤◌, Bool, true, false, if◌then◌else◌, List, [], ◌∷◌}
use Rattle.std.proofs.Common.{◌++◌, arith}
use Rattle.hir_lower_scope.specs.Each.{Each}
use Rattle.thm_semantics.specs.Reached.{Spread}

-- 1 where they are one number
abbrev pub same : ℕ → ℕ → ℕ
same zero zero = 1
same zero (suc n) = 0
same (suc k) zero = 0
same (suc k) (suc n) = same k n

-- 1 where k is less
abbrev pub less : ℕ → ℕ → ℕ
less k zero = 0
less zero (suc n) = 1
less (suc k) (suc n) = less k n

abbrev pub times : ℕ → List ℕ → ℕ
times k [] = 0
times k (j ∷ js) = same k j + times k js

-- no number stands more often in the one than in the other
infix 50 ◌⊑◌
abbrev pub ◌⊑◌ : List ℕ → List ℕ → Type 0
ks ⊑ js = (k : ℕ) → times k ks ≤ times k js

pub times_append : (k : ℕ) (ks js : List ℕ) → times k (ks ++ js) ≡ times k ks + times k js
times_append k [] js = omega arith
times_append k (i ∷ ks) js = let e = times_append k ks js in omega arith

pub one_past : (k n : ℕ) → less k (suc n) ≡ same k n + less k n
one_past zero zero = refl
one_past zero (suc n) = refl
one_past (suc k) zero = refl
one_past (suc k) (suc n) = one_past k n

pub less_grows : (k m n : ℕ) → m ≤ n → less k m ≤ less k n
less_grows k zero n le = omega arith
less_grows k (suc m) zero le = absurd (omega arith)
less_grows zero (suc m) (suc n) le = omega arith
less_grows (suc k) (suc m) (suc n) le = less_grows k m n (omega arith)

-- numbers in a range, each once

at_most : (k n : ℕ) → less k n ≤ 1
at_most k zero = omega arith
at_most zero (suc n) = omega arith
at_most (suc k) (suc n) = at_most k n

is_less : (k n : ℕ) → 1 ≤ less k n → k < n
is_less k zero h = absurd (omega arith)
is_less zero (suc n) h = omega arith
is_less (suc k) (suc n) h = let r = is_less k n h in omega arith

not_less : (k n : ℕ) → less k n ≤ 0 → n ≤ k
not_less k zero h = omega arith
not_less zero (suc n) h = absurd (omega arith)
not_less (suc k) (suc n) h = let r = not_less k n h in omega arith

pub same_self : (k : ℕ) → same k k ≡ 1
same_self zero = refl
same_self (suc k) = same_self k

absent : (k : ℕ) (js : List ℕ) → times k js ≤ 0 → Each (λ j. k ≢ j) js
absent k [] h = tt
absent k (j ∷ js) h = ((λ e. let s : same k j ≡ 1 = ap (same k) (sym e) ∙ same_self k in omega arith), absent k js (omega arith))

pub counted_spread : (lo hi : ℕ) (ks : List ℕ) → ((k : ℕ) → times k ks + less k lo ≤ less k hi) → Spread lo hi ks
counted_spread lo hi [] h = record { within = tt; distinct = tt }
counted_spread lo hi (j ∷ js) h =
    let r = counted_spread lo hi js (λ k. let a = h k in omega arith) in
    let here = h j in let s = same_self j in let m = at_most j hi in
    let from : lo ≤ j = not_less j lo (omega arith) in
    let to : j < hi = is_less j hi (omega arith) in
    record { within = ((from, to), r.within); distinct = (absent j js (omega arith), r.distinct) }

-- a choice

pub either : {A : Type 0} (P : A → Type 0) (b : Bool) {x y : A} → P x → P y → P (if b then x else y)
either P true h h' = h
either P false h h' = h'
