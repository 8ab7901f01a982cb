-- Runs of the store that leave the made names below a number as they are.
use Rattle.std.proofs.Common.{◌≡◌, ◌∙◌, refl, ℕ, zero, suc, ◌<◌, ◌≤◌, Bool, true, false, if◌then◌else◌, List, Option, arith}
use Rattle.std.proofs.lemmas.Bool.{ne_eqb}
use Rattle.hir_env.specs.NodeMap.{Site}
use Rattle.spec_semantics.specs.Run.{Value, Operation, Outcome, value, break, continue, leave, World, ends, pure, after, ◌>>=◌, event}
use Rattle.spec_semantics.specs.Catching.{Step, again, done, Outward, iteration_end, goes_on, loop, block}
use Rattle.spec_semantics.specs.Store.{JumpLabel, RunTable, StoreRun, takes, with_name}

pub record KeepsBelow {A : Type 0} (names : ℕ) (m : StoreRun A) : Type 0 where
  pub still : (w : World RunTable) (k : ℕ) → k < names → (m w).1.table k ≡ w.table k

pub keeps_fewer : {A : Type 0} {names names' : ℕ} {m : StoreRun A} → names' ≤ names → KeepsBelow names m → KeepsBelow names' m
keeps_fewer le h = record { still = λ w k lt. h.still w k (omega (arith, le, lt)) }

module _ {names : ℕ} where
  pub keeps_ends : {A : Type 0} (o : Outcome JumpLabel A) → KeepsBelow names (ends o)
  unfolding ends
  keeps_ends o = record { still = λ w k lt. refl }

  pub keeps_event : (o : Operation) (vs : List Value) (site : Option Site) → KeepsBelow names (event o vs site)
  unfolding event
  keeps_event o vs site = record { still = λ w k lt. refl }

  pub keeps_after : {A B : Type 0} {f : A → StoreRun B} → ((a : A) → KeepsBelow names (f a)) → (o : Outcome JumpLabel A)
      (w : World RunTable) (k : ℕ) → k < names → (after o w f).1.table k ≡ w.table k
  keeps_after h (value a) w k lt = (h a).still w k lt
  keeps_after h (break j v) w k lt = refl
  keeps_after h (continue j) w k lt = refl
  keeps_after h (leave x) w k lt = refl

  pub keeps_bind : {A B : Type 0} {m : StoreRun A} {f : A → StoreRun B} → KeepsBelow names m → ((a : A) → KeepsBelow names (f a))
      → KeepsBelow names (m >>= f)
  unfolding ◌>>=◌
  keeps_bind {m = m} p h = record { still = λ w k lt. keeps_after h (m w).0 (m w).1 k lt ∙ p.still w k lt }

  pub keeps_on : {f : StoreRun Value} → KeepsBelow names f → (s : Step JumpLabel) (w : World RunTable) (k : ℕ) → k < names
      → (goes_on f s w).1.table k ≡ w.table k
  keeps_on h again w k lt = h.still w k lt
  keeps_on h (done o) w k lt = refl

  pub keeps_loop : (leaves : Outward JumpLabel) {m : StoreRun (Option Value)} → KeepsBelow names m → (fuel : ℕ)
      → KeepsBelow names (loop leaves fuel m)
  unfolding loop ends
  keeps_loop leaves h zero = record { still = λ w k lt. refl }
  keeps_loop leaves {m = m} h (suc n) = record {
    still = λ w k lt. keeps_on (keeps_loop leaves h n) (iteration_end leaves (m w).0) (m w).1 k lt ∙ h.still w k lt;
  }

  pub keeps_block : (leaves : Outward JumpLabel) (passes : JumpLabel → JumpLabel) {m : StoreRun Value} → KeepsBelow names m
      → KeepsBelow names (block leaves passes m)
  unfolding block
  keeps_block leaves passes h = record { still = h.still }

  -- a name that isn't below
  pub other_name : (n : ℕ) (v : Value) (table : RunTable) (k : ℕ) → names ≤ n → k < names → with_name n v table k ≡ table k
  other_name n v table k le lt = rw (ne_eqb k n (λ e. omega (arith, le, lt, e))) refl

  pub keeps_takes : (n : ℕ) (v : Value) → names ≤ n → KeepsBelow names (takes n v)
  unfolding takes
  keeps_takes n v le = record { still = λ w k lt. other_name n v w.table k le lt }

-- however steps are grouped
pub keeps_row : {A B C : Type 0} {names : ℕ} (m : StoreRun A) (f : A → StoreRun B) (g : B → StoreRun C)
    → KeepsBelow names (m >>= (λ a. f a >>= g)) → KeepsBelow names ((m >>= f) >>= g)
unfolding ◌>>=◌
keeps_row {A = A} {names = names} m f g h = record { still = λ w k lt. by (m w).0 (m w).1 k w (h.still w k lt) }
  where
    by : (o : Outcome JumpLabel A) (u : World RunTable) (k : ℕ) (w : World RunTable)
        → (after o u (λ a. f a >>= g)).1.table k ≡ w.table k
        → (after (after o u f).0 (after o u f).1 g).1.table k ≡ w.table k
    by (value a) u k w e = e
    by (break j v) u k w e = e
    by (continue j) u k w e = e
    by (leave x) u k w e = e

pub keeps_pure : {A B : Type 0} {names : ℕ} {a : A} (f : A → StoreRun B) → KeepsBelow names (f a) → KeepsBelow names (pure a >>= f)
unfolding ends ◌>>=◌
keeps_pure f h = record { still = h.still }
