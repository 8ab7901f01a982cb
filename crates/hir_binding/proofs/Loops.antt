-- The loops over the places of a set.
use Rattle.std.proofs.Math.ListN.{set}
use Rattle.std.proofs.lemmas.Bool.{lt-ltb, le-ltb, cases_eq}
use Rattle.std.proofs.lemmas.Bool.Decides.{nat_tests}
use Rattle.std.proofs.lemmas.Option.{slice_get-get_or}
use Rattle.std.proofs.Common.{zero, suc, length, get_or, ◌≡◌, ◌≢◌, ◌+◌, ◌<◌, ◌≤◌, ◌&&◌, not, refl, sym, ◌∙◌, ap, true, inl, inr, arith}
use Rattle.std.proofs.Common.{List, [], ◌∷◌, slice_get, option_map, ℕ, Bool, false, Option, Some, None, if◌then◌else◌, nat_lt}
use Rattle.hir_binding.specs.declared.binding.BindingProblems.TheVariants.{NotBoundAcrossAll}
use Rattle.hir_binding.specs.declared.binding.Mark.TheVariants.{Unseen, Missing, Unmarked, Marked}
use Rattle.hir_binding.specs.declared.list.Entry.{Entry}
use Rattle.hir_binding.specs.Seen.{mark_at}
use Rattle.hir_binding.specs.Entries.{ended_entry}

-- whether the last place of a name is among the first n
abbrev pub is_before : ℕ → Option ℕ → Bool
is_before n None = false
is_before n (Some place) = nat_lt place n

-- whether it is among the first n, but not among the first m
abbrev pub is_between : ℕ → ℕ → Option ℕ → Bool
is_between m n o = is_before n o && not (is_before m o)

abbrev pub entry_if : Bool → Entry → Entry
entry_if b e = if b then record e { problem = Some NotBoundAcrossAll } else e

abbrev pub entry_between : ℕ → ℕ → Option ℕ → Entry → Entry
entry_between m n o e = entry_if (is_between m n o) e

seen_either : (before within : Bool) → (if before then Missing else (if within then Unmarked else Marked)) ≢ Unseen
seen_either true within = λ h. cc
seen_either false true = λ h. cc
seen_either false false = λ h. cc

-- a name with a place is seen
pub is_seen : (previous start p : ℕ) (o : Option ℕ) → o ≡ Some p → mark_at previous start o ≢ Unseen
is_seen previous start p o e = rw e (seen_either (nat_lt p previous) (nat_lt p start))

set_same : {X : Type 0} (xs : List X) (i : ℕ) (v : X) → i < length xs → slice_get (set xs i v) i ≡ Some v
set_same [] i v h = absurd (omega arith)
set_same (x ∷ xs) zero v h = refl
set_same (x ∷ xs) (suc i) v h = set_same xs i v (omega arith)

set_other : {X : Type 0} (xs : List X) (i k : ℕ) (v : X) → (i ≡ k → ⊥) → slice_get (set xs i v) k ≡ slice_get xs k
set_other [] i k v h = refl
set_other (x ∷ xs) zero zero v h = absurd (h refl)
set_other (x ∷ xs) zero (suc k) v h = refl
set_other (x ∷ xs) (suc i) zero v h = refl
set_other (x ∷ xs) (suc i) (suc k) v h = set_other xs i k v (λ e. h (ap suc e))

-- a place that is not the name's last
pub is_before-next : (n : ℕ) (o : Option ℕ) → (o ≡ Some n → ⊥) → is_before (n + 1) o ≡ is_before n o
is_before-next n None h = refl
is_before-next n (Some p) h = let d : p ≡ n → ⊥ = λ e. h (ap (λ x. Some x) e) in grind (arith, nat_tests)

pub is_before-last : (n : ℕ) (o : Option ℕ) → o ≡ Some n → is_before (n + 1) o ≡ true
is_before-last n o e = rw e (lt-ltb n (n + 1) (omega arith))

pub not_before-last : (n : ℕ) (o : Option ℕ) → o ≡ Some n → is_before n o ≡ false
not_before-last n o e = rw e (grind (arith, nat_tests))

not_before : (m n : ℕ) (o : Option ℕ) → o ≡ Some n → m ≤ n → is_before m o ≡ false
not_before m n o e h = rw e (le-ltb n m h)

between-last : (m n : ℕ) (o : Option ℕ) → o ≡ Some n → m ≤ n → is_between m (n + 1) o ≡ true
between-last m n o e h = ap (λ b. b && not (is_before m o)) (is_before-last n o e) ∙ ap not (not_before m n o e h)

not_between-last : (m n : ℕ) (o : Option ℕ) → o ≡ Some n → is_between m n o ≡ false
not_between-last m n o e = ap (λ b. b && not (is_before m o)) (not_before-last n o e)

pub entry_other : (m n : ℕ) (o : Option ℕ) (first x : Option Entry) → x ≡ option_map (entry_between m n o) first → (o ≡ Some n → ⊥) →
    x ≡ option_map (entry_between m (n + 1) o) first
entry_other m n o first x e h = e
    ∙ ap (λ b. option_map (λ (e : Entry). entry_if (b && not (is_before m o)) e) first) (sym (is_before-next n o h))

entry_here : (m n : ℕ) (o : Option ℕ) (first : Option Entry) (x : Entry) → Some x ≡ option_map (entry_between m n o) first →
    o ≡ Some n → m ≤ n → Some (record x { problem = Some NotBoundAcrossAll }) ≡ option_map (entry_between m (n + 1) o) first
entry_here m n o None x e h g = cc
entry_here m n o (Some y) x e h g =
    let f : Some x ≡ Some y = e ∙ ap (λ b. Some (entry_if b y)) (not_between-last m n o h) in
    let i : x ≡ y = cc in
    ap (λ (z : Entry). Some (record z { problem = Some NotBoundAcrossAll })) i
    ∙ ap (λ b. Some (entry_if b y)) (sym (between-last m n o h g))

-- one turn writes the problem where the place is the last of a name
pub entry_step : (xs ys : List Entry) (name k m n : ℕ) (d : Entry) (o : Option ℕ) (first : Option Entry) →
    ys ≡ set xs name (record (get_or xs name d) { problem = Some NotBoundAcrossAll }) → name < length xs → m ≤ n →
    (name ≡ k → o ≡ Some n) → (o ≡ Some n → name ≡ k) → slice_get xs k ≡ option_map (entry_between m n o) first →
    slice_get ys k ≡ option_map (entry_between m (n + 1) o) first
entry_step xs ys name k m n d o first e h g t f i = rw e (elim (cases_eq name k) [
  | inl s ↦ rw (← s) (set_same xs name _ h ∙ entry_here m n o first (get_or xs name d)
      (sym (slice_get-get_or xs name d h) ∙ (ap (λ x. slice_get xs x) s ∙ i)) (t s) g)
  | inr s ↦ set_other xs name k _ s ∙ entry_other m n o first (slice_get xs k) i (λ g. s (f g))
])

none_between : (b : Bool) → b && not b ≡ false
none_between true = refl
none_between false = refl

-- before the first turn nothing is written
entry_same : (m : ℕ) (o : Option ℕ) (x : Option Entry) → x ≡ option_map (entry_between m m o) x
entry_same m o None = refl
entry_same m o (Some e) = ap (λ b. Some (entry_if b e)) (sym (none_between (is_before m o)))

pub entry_first : (m n : ℕ) (o : Option ℕ) (x : Option Entry) → n ≡ m → x ≡ option_map (entry_between m n o) x
entry_first m n o x e = rw e (entry_same m o x)

-- and after the last what the end of the alternative says
ended_either : (before within : Bool) (e : Entry) →
    entry_if (within && not before) e ≡ ended_entry (if before then Missing else (if within then Unmarked else Marked)) e
ended_either true true e = refl
ended_either true false e = refl
ended_either false true e = refl
ended_either false false e = refl

ended_is : (previous start : ℕ) (o : Option ℕ) (e : Entry) → entry_between previous start o e ≡ ended_entry (mark_at previous start o) e
ended_is previous start None e = refl
ended_is previous start (Some p) e = ended_either (nat_lt p previous) (nat_lt p start) e

entries_ended : (previous start : ℕ) (o : Option ℕ) (x : Option Entry) →
    option_map (entry_between previous start o) x ≡ option_map (ended_entry (mark_at previous start o)) x
entries_ended previous start o None = refl
entries_ended previous start o (Some e) = ap (λ (x : Entry). Some x) (ended_is previous start o e)

pub entries_at_end : (previous start place : ℕ) (o : Option ℕ) (x y : Option Entry) →
    y ≡ option_map (entry_between previous place o) x → place ≡ start → y ≡ option_map (ended_entry (mark_at previous start o)) x
entries_at_end previous start place o x y e h = e
    ∙ (ap (λ n. option_map (entry_between previous n o) x) h ∙ entries_ended previous start o x)
