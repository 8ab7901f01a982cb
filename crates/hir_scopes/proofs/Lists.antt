-- Lists that grow at the end, and in which one place is written.
use Rattle.std.proofs.Common.{arith, ◌≡◌, ◌⊎◌, ◌∙◌, inl, inr, refl, sym, ap, ◌<◌, ◌≤◌, ◌-◌, ℕ, zero, suc, List, [], ◌∷◌, ◌++◌}
use Rattle.std.proofs.Common.{Some, get_or, length, take, drop, slice_get, slice_set, length-append, length-drop}
use Rattle.std.proofs.lemmas.List.{drop-append-le, take-append-le, take_all}
use Rattle.std.proofs.lemmas.Option.{slice_get_within}

-- a list that has a first one, and one that has none
pub first_and_rest : {A : Type 0} (xs : List A) (x : A) → 1 ≤ length xs → xs ≡ get_or xs 0 x ∷ take (length xs - 1) (drop 1 xs)
first_and_rest [] x some = absurd (omega (arith, some))
first_and_rest (y ∷ ys) x some =
    let rest : length (y ∷ ys) - 1 ≡ length ys = omega arith in
    sym (ap (λ n. y ∷ take n ys) rest ∙ ap (λ zs. y ∷ zs) (take_all (length ys) ys (omega arith)))

pub no_first : {A : Type 0} (xs : List A) → length xs < 1 → xs ≡ []
no_first [] none = refl
no_first (y ∷ ys) none = absurd (omega (arith, none))

get_left : {A : Type 0} (xs ys : List A) (n : ℕ) → n < length xs → slice_get (xs ++ ys) n ≡ slice_get xs n
get_left [] ys n less = absurd (omega (arith, less))
get_left (x ∷ xs) ys zero less = refl
get_left (x ∷ xs) ys (suc n) less = get_left xs ys n (omega (arith, less))

pub get_more : {A : Type 0} (xs ys : List A) (n : ℕ) (x : A) → slice_get xs n ≡ Some x → slice_get (xs ++ ys) n ≡ Some x
get_more xs ys n x is = get_left xs ys n (slice_get_within xs n x is) ∙ is

pub get_last : {A : Type 0} (xs : List A) (x : A) → slice_get (xs ++ x ∷ []) (length xs) ≡ Some x
get_last [] x = refl
get_last (y ∷ xs) x = get_last xs x

pub get_set : {A : Type 0} (xs : List A) (i j : ℕ) (v w : A) → slice_get (slice_set xs i v) j ≡ Some w
    → ((j ≡ i) × (Some v ≡ Some w)) ⊎ (slice_get xs j ≡ Some w)
get_set [] i j v w is = inr is
get_set (x ∷ xs) zero zero v w is = inl (refl, is)
get_set (x ∷ xs) zero (suc j) v w is = inr is
get_set (x ∷ xs) (suc i) zero v w is = inr is
get_set (x ∷ xs) (suc i) (suc j) v w is =
    elim (get_set xs i j v w is) [ inl it ↦ inl (ap suc it.0, it.1) | inr it ↦ inr it ]

pub get_at_set : {A : Type 0} (xs : List A) (i : ℕ) (v : A) → i < length xs → slice_get (slice_set xs i v) i ≡ Some v
get_at_set [] i v less = absurd (omega (arith, less))
get_at_set (x ∷ xs) zero v less = refl
get_at_set (x ∷ xs) (suc i) v less = get_at_set xs i v (omega (arith, less))

pub stays_set : {A : Type 0} (xs : List A) (i j : ℕ) (v w : A) → slice_get xs j ≡ Some w
    → ((j ≡ i) × (i < length xs)) ⊎ (slice_get (slice_set xs i v) j ≡ Some w)
stays_set [] i j v w is = inr is
stays_set (x ∷ xs) zero zero v w is = inl (refl, omega arith)
stays_set (x ∷ xs) zero (suc j) v w is = inr is
stays_set (x ∷ xs) (suc i) zero v w is = inr is
stays_set (x ∷ xs) (suc i) (suc j) v w is =
    elim (stays_set xs i j v w is) [ inl it ↦ inl (ap suc it.0, omega (arith, it.1)) | inr it ↦ inr it ]

pub length_set : {A : Type 0} (xs : List A) (i : ℕ) (v : A) → length (slice_set xs i v) ≡ length xs
length_set [] i v = refl
length_set (x ∷ xs) zero v = refl
length_set (x ∷ xs) (suc i) v = ap suc (length_set xs i v)

-- a range of the front
pub range_more : {A : Type 0} (xs ys : List A) (start end : ℕ) → start ≤ end → end ≤ length xs
    → take (end - start) (drop start (xs ++ ys)) ≡ take (end - start) (drop start xs)
range_more xs ys start end order within =
    ap (take (end - start)) (drop-append-le start xs ys (omega (arith, order, within)))
    ∙ take-append-le (end - start) (drop start xs) ys (omega (arith, order, within, length-drop start xs))

drop_front : {A : Type 0} (xs ys : List A) → drop (length xs) (xs ++ ys) ≡ ys
drop_front [] ys = refl
drop_front (x ∷ xs) ys = drop_front xs ys

-- the range behind the front
pub range_end : {A : Type 0} (xs ys : List A) (end : ℕ) → end ≡ length (xs ++ ys)
    → take (end - length xs) (drop (length xs) (xs ++ ys)) ≡ ys
range_end xs ys end is =
    ap (take (end - length xs)) (drop_front xs ys)
    ∙ take_all (end - length xs) ys (omega (arith, is, length-append xs ys))
