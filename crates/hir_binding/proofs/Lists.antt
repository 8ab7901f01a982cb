-- What a change of the sets makes of what is noted.
use Rattle.std.proofs.lemmas.Bool.Decides.{eqb_tells}
use Rattle.std.proofs.Common.{zero, suc, ◌+◌, nat_eq, inl, inr, ◌≡◌, ◌≢◌, ℕ, ◌<◌, Bool, true, false, refl, sym, ◌∙◌, ap, List, [], ◌∷◌}
use Rattle.std.proofs.Common.{◌++◌, length, map, reverse, slice_get, Option, Some, None, nat_lt, if◌then◌else◌, arith, option_map}
use Rattle.std.proofs.lemmas.List.{reverse-append}
use Rattle.std.proofs.lemmas.Bool.{lt-ltb}
use Rattle.hir_binding.specs.declared.binding.BindingAnnotation.{BindingAnnotation}
use Rattle.hir_binding.specs.declared.binding.BindingProblems.{BindingProblems}
use Rattle.hir_binding.specs.declared.binding.Mark.{Mark}
use Rattle.hir_binding.specs.declared.binding.Mark.TheVariants.{Unseen, Missing, Unmarked, Marked}
use Rattle.hir_binding.specs.declared.list.Entry.{Entry}
use Rattle.hir_binding.specs.declared.seen.SeenNames.{SeenNames}
use Rattle.hir_binding.specs.Steps.{over_recent, Set, Tracked, seen, enter_first, left, left_to, seen_if, problem_at_end}
use Rattle.hir_binding.specs.Seen.{set_of, mark_at, no_set}
use Rattle.hir_binding.specs.Entries.{ended_entry}
use Rattle.hir_binding.specs.Bindings.{mode_of, problem_of, is_seen, seen_at}
use Rattle.hir_binding.proofs.Loops.{is_before, is_before-next, is_before-last, not_before-last}

pub sets_push : (k : ℕ) (xs ys : List SeenNames) (s : SeenNames) → ys ≡ xs ++ s ∷ [] →
    map (λ s. set_of s k) (reverse ys) ≡ set_of s k ∷ map (λ s. set_of s k) (reverse xs)
sets_push k xs ys s e = rw e (ap (λ l. map (λ (s : SeenNames). set_of s k) l) (reverse-append xs (s ∷ [])))

abbrev Parts : Option BindingAnnotation → Option BindingProblems → Set → List Set → Tracked
Parts m p here outer = record { mode = m; problem = p; here = here; outer = outer }

pub entered_is : (m : Option BindingAnnotation) (p : Option BindingProblems) (here here' : Set) (outer outer' : List Set) →
    here' ≡ no_set → outer' ≡ here ∷ outer → Parts m p here' outer' ≡ enter_first (Parts m p here outer)
entered_is m p here here' outer outer' e f = rw (e, f) refl

-- what the end of an alternative makes of an entry
pub mode_ended : (m : Mark) (o : Option Entry) → mode_of (option_map (ended_entry m) o) ≡ mode_of o
mode_ended m None = refl
mode_ended m (Some e) = refl

pub problem_ended : (m : Mark) (o : Option Entry) → (m ≢ Unseen → o ≢ None) →
    problem_of (option_map (ended_entry m) o) ≡ problem_at_end m over_recent (problem_of o)
problem_ended Unseen None h = refl
problem_ended Missing None h = refl
problem_ended Unmarked None h = absurd (h (λ e. cc) refl)
problem_ended Marked None h = refl
problem_ended m (Some e) h = refl

left_back : (m : Mark) (s : Tracked) → seen_at (is_seen m) s ≡ seen_if m s
left_back Unseen s = refl
left_back Missing s = refl
left_back Unmarked s = refl
left_back Marked s = refl

seen_either : (before within : Bool) → true ≡ is_seen (if before then Missing else (if within then Unmarked else Marked))
seen_either true within = refl
seen_either false true = refl
seen_either false false = refl

-- all places are before the end
pub before_end : (xs : List ℕ) (n previous start k : ℕ) (o : Option ℕ) → n ≡ length xs → ((p : ℕ) → o ≡ Some p → p < length xs) →
    is_before n o ≡ is_seen (mark_at previous start o)
before_end xs n previous start k None e h = refl
before_end xs n previous start k (Some p) e h = rw (e, lt-ltb p (length xs) (h p refl))
    (seen_either (nat_lt p previous) (nat_lt p start))

-- out of an or-pattern, except for the use of its name
pub closed : (old : Tracked) (m : Option BindingAnnotation) (p : Option BindingProblems) (around : Set) (outer : List Set) →
    m ≡ old.mode → p ≡ problem_at_end old.here.mark over_recent old.problem → old.outer ≡ around ∷ outer →
    left over_recent old ≡ seen_at (is_seen old.here.mark) (Parts m p around outer)
closed old m p around outer e f g = ap (λ l. left_to over_recent l old) g ∙ rw (e, f) (sym (left_back old.here.mark _))

-- one turn sees the name whose last place it is
pub seen_step : (n name k : ℕ) (o : Option ℕ) (s x y : Tracked) → y ≡ seen_at (nat_eq name k) x → x ≡ seen_at (is_before n o) s →
    (name ≡ k → o ≡ Some n) → (o ≡ Some n → name ≡ k) → y ≡ seen_at (is_before (n + 1) o) s
seen_step n name k o s x y e f t u = elim (eqb_tells name k) [
  | inl h ↦ e ∙ (rw (h.0, is_before-last n o (t h.1)) (ap (λ (z : Tracked). seen z)
      (let g : x ≡ s = f ∙ ap (λ (b : Bool). seen_at b s) (not_before-last n o (t h.1)) in g)))
  | inr h ↦ e ∙ (rw (h.0, is_before-next n o (λ g. h.1 (u g))) f)
]

pub seen_not : (n k : ℕ) (o : Option ℕ) (s x : Tracked) → x ≡ seen_at (is_before n o) s → (o ≡ Some n → ⊥) →
    x ≡ seen_at (is_before (n + 1) o) s
seen_not n k o s x f h = rw (is_before-next n o h) f

pub has_entry : {X : Type 0} (xs : List X) (k : ℕ) → k < length xs → slice_get xs k ≢ None
has_entry [] k h = absurd (omega arith)
has_entry (x ∷ xs) zero h = λ e. cc
has_entry (x ∷ xs) (suc k) h = has_entry xs k (omega arith)
