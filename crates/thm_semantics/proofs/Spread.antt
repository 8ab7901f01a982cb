-- Lists of numbers, each in a range and each once.
use Rattle.std.proofs.Common.{◌≢◌, ℕ, suc, ◌<◌, ◌≤◌, ◌⊎◌, inl, inr, List, [], ◌∷◌, ◌++◌, arith}
use Rattle.hir_lower_scope.specs.Each.{Each}
use Rattle.thm_semantics.specs.Reached.{Distinct, Between, Spread}

pub all_less : {P Q : ℕ → Type 0} (ks : List ℕ) → ((k : ℕ) → P k → Q k) → Each P ks → Each Q ks
all_less [] f h = tt
all_less (k ∷ ks) f h = (f k h.0, all_less ks f h.1)

all_append : (P : ℕ → Type 0) (ks js : List ℕ) → Each P ks → Each P js → Each P (ks ++ js)
all_append P [] js h h' = h'
all_append P (k ∷ ks) js h h' = (h.0, all_append P ks js h.1 h')

apart : (lo hi lo' hi' k : ℕ) (js : List ℕ) → (hi ≤ lo') ⊎ (hi' ≤ lo) → Between lo hi k → Each (Between lo' hi') js → Each (λ j. k ≢ j) js
apart lo hi lo' hi' k js (inl le) h h' = let a : k < hi = h.1 in all_less js (λ j f. let b : lo' ≤ j = f.0 in omega arith) h'
apart lo hi lo' hi' k js (inr le) h h' = let a : lo ≤ k = h.0 in all_less js (λ j f. let b : j < hi' = f.1 in omega arith) h'

distinct_append : (lo hi lo' hi' : ℕ) (ks js : List ℕ) → (hi ≤ lo') ⊎ (hi' ≤ lo) → Spread lo hi ks → Spread lo' hi' js → Distinct (ks ++ js)
distinct_append lo hi lo' hi' [] js e h h' = h'.distinct
distinct_append lo hi lo' hi' (k ∷ ks) js e h h' = (
  all_append _ ks js h.distinct.0 (apart lo hi lo' hi' k js e h.within.0 h'.within),
  distinct_append lo hi lo' hi' ks js e (record { within = h.within.1; distinct = h.distinct.1 }) h',
)

pub spread_none : (lo hi : ℕ) → Spread lo hi []
spread_none lo hi = record { within = tt; distinct = tt }

pub spread_wider : {lo hi : ℕ} {ks : List ℕ} (lo' hi' : ℕ) → lo' ≤ lo → hi ≤ hi' → Spread lo hi ks → Spread lo' hi' ks
spread_wider {lo = lo} {hi = hi} {ks = ks} lo' hi' le le' h = record {
  within = all_less ks (λ k f. let a : lo ≤ k = f.0 in let b : k < hi = f.1 in omega arith) h.within;
  distinct = h.distinct;
}

pub spread_append : {lo hi lo' hi' : ℕ} {ks js : List ℕ} (from to : ℕ) → (hi ≤ lo') ⊎ (hi' ≤ lo)
    → (from ≤ lo) × (from ≤ lo') × (hi ≤ to) × (hi' ≤ to) → Spread lo hi ks → Spread lo' hi' js → Spread from to (ks ++ js)
spread_append {lo = lo} {hi = hi} {lo' = lo'} {hi' = hi'} {ks = ks} {js = js} from to e in_range h h' =
    let a = spread_wider from to in_range.0 in_range.2 h in let b = spread_wider from to in_range.1 in_range.3 h' in
    record { within = all_append (Between from to) ks js a.within b.within; distinct = distinct_append lo hi lo' hi' ks js e h h' }

pub spread_node : (lo n : ℕ) (ks : List ℕ) → lo ≤ n → Spread lo n ks → Spread lo (suc n) (n ∷ ks)
spread_node lo n ks le h = let w = spread_wider lo (suc n) (omega arith) (omega arith) h in
    record {
      within = ((le, omega arith), w.within);
      distinct = (all_less ks (λ k f. let b : k < n = f.1 in omega arith) h.within, h.distinct);
    }
