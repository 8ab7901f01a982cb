-- Where names were marked.
use Rattle.std.proofs.Common.{zero, suc, Result, Ok, Err, OnOk, OnErr, ◌≡◌, ℕ, ◌<◌, ◌≤◌, Bool, true, false, cond, refl, sym, ◌∙◌, List}
use Rattle.std.proofs.Common.{[], ◌∷◌, ◌++◌, length, slice_get, Option, Some, None, nat_eq, nat_lt, if◌then◌else◌, ◌⊎◌, inl, inr, arith}
use Rattle.std.proofs.Common.{length-append}
use Rattle.std.proofs.lemmas.Option.{slice_get_within, slice_get_read, get_or_from_slice_get}
use Rattle.std.proofs.lemmas.List.{get_or_push}
use Rattle.std.proofs.Math.ListN.{get_or-append}
use Rattle.std.proofs.lemmas.Bool.{lt-ltb, ltb-true}
use Rattle.std.proofs.lemmas.Bool.Decides.{eqb_tells, nat_tests}
use Rattle.std.specs.Ordering.{is_eq, nat_cmp}
use Rattle.std.specs.declared.cmp.Ordering.TheVariants.{Less, Equal, Greater}
use Rattle.hir_binding.specs.declared.binding.Mark.TheVariants.{Missing, Unmarked, Marked}
use Rattle.hir_binding.specs.Steps.{unmark}
use Rattle.hir_binding.specs.Seen.{mark_at}

-- an alternative that begins now leaves all marks off
unmark_either : (before within : Bool) → (before ≡ true → within ≡ true) →
    (if within then Missing else Unmarked) ≡ unmark (if before then Missing else (if within then Unmarked else Marked))
unmark_either true true h = refl
unmark_either true false h = let e : false ≡ true = h refl in cc
unmark_either false true h = refl
unmark_either false false h = refl

earlier : (p previous start : ℕ) → previous ≤ start → nat_lt p previous ≡ true → nat_lt p start ≡ true
earlier p previous start h e = let f : p < previous = ltb-true p previous e in lt-ltb p start (omega arith)

unmark_all : (xs : List ℕ) (previous start k : ℕ) (o : Option ℕ) → previous ≤ start → ((p : ℕ) → o ≡ Some p → slice_get xs p ≡ Some k) →
    mark_at start (length xs) o ≡ unmark (mark_at previous start o)
unmark_all xs previous start k None g h = refl
unmark_all xs previous start k (Some p) g h = rw (lt-ltb p (length xs) (slice_get_within xs p k (h p refl)))
    (unmark_either (nat_lt p previous) (nat_lt p start) (earlier p previous start g))

pub pushed_last : (xs : List ℕ) (y : ℕ) → slice_get (xs ++ y ∷ []) (length xs) ≡ Some y
pushed_last xs y = slice_get_read (xs ++ y ∷ []) (length (xs ++ y ∷ [])) (length xs) y refl (omega (arith, length-append xs (y ∷ [])))
    (sym (get_or_push xs y y (length xs) refl))

pub pushed_before : {X : Type 0} (xs : List X) (y : X) (p : ℕ) (q : X) → slice_get xs p ≡ Some q → slice_get (xs ++ y ∷ []) p ≡ Some q
pushed_before xs y p q e =
    let h : p < length xs = slice_get_within xs p q e in
    slice_get_read (xs ++ y ∷ []) (length (xs ++ y ∷ [])) p q refl (omega (arith, length-append xs (y ∷ [])))
    (sym (get_or-append xs (y ∷ []) q p h ∙ get_or_from_slice_get xs p q q e))

-- numbers that compare as equal are one
differ : (x y : ℕ) → x < y → nat_eq x y ≡ false
differ x y h = grind (arith, nat_tests)

equal_only : (less equal : Bool) → (less ≡ true → equal ≡ false) → is_eq (cond less Less (cond equal Equal Greater)) ≡ equal
equal_only true true h = let e : true ≡ false = h refl in cc
equal_only true false h = refl
equal_only false true h = refl
equal_only false false h = refl

pub same_number : (x y : ℕ) → is_eq (nat_cmp x y) ≡ nat_eq x y
same_number x y = equal_only (nat_lt x y) (nat_eq x y) (λ t. differ x y (ltb-true x y t))

-- a name that is marked last at the end of the places
pub placed_push : (xs : List ℕ) (name q p : ℕ) (old new : Option ℕ) → new ≡ cond (nat_eq name q) (Some (length xs)) old →
    (old ≡ Some p → slice_get xs p ≡ Some q) → new ≡ Some p → slice_get (xs ++ name ∷ []) p ≡ Some q
placed_push xs name q p old new e h n = elim (eqb_tells name q) [
  | inl t ↦ let s : Some (length xs) ≡ Some p = rw t.0 at (sym e ∙ n) in let l : length xs ≡ p = cc in rw (← t.1, ← l) (pushed_last xs name)
  | inr t ↦ let s : old ≡ Some p = rw t.0 at (sym e ∙ n) in pushed_before xs name p q (h s)
]

-- what is left where a call answers Ok or Err
pub either : {V E : Type 0} (U N G : Type 0) (r : Result V E) → OnOk r U → OnErr r N → (U → G) → (N → G) → G
either U N G (Ok v) u n f g = f u
either U N G (Err e) u n f g = g n

pub mark_begun : (xs : List ℕ) (n previous start k : ℕ) (o : Option ℕ) → n ≡ length xs → previous ≤ start →
    ((p : ℕ) → o ≡ Some p → slice_get xs p ≡ Some k) → mark_at start n o ≡ unmark (mark_at previous start o)
mark_begun xs n previous start k o e g h = rw e (unmark_all xs previous start k o g h)

pub placed_last : (xs ys : List ℕ) (name place q p : ℕ) (old new : Option ℕ) → ys ≡ xs ++ name ∷ [] → place ≡ length xs →
    new ≡ cond (is_eq (nat_cmp name q)) (Some place) old → (old ≡ Some p → slice_get xs p ≡ Some q) → new ≡ Some p
    → slice_get ys p ≡ Some q
placed_last xs ys name place q p old new e l u h n =
    rw e (placed_push xs name q p old new (rw (l, same_number name q) at u) h n)

pub placed_still : (xs ys : List ℕ) (name p q : ℕ) → ys ≡ xs ++ name ∷ [] → slice_get xs p ≡ Some q → slice_get ys p ≡ Some q
placed_still xs ys name p q e h = rw e (pushed_before xs name p q h)

-- an element after a push is an old one or the new one
pub pushed_cases : {X : Type 0} (xs : List X) (y : X) (i : ℕ) (s : X) → slice_get (xs ++ y ∷ []) i ≡ Some s →
    (slice_get xs i ≡ Some s) ⊎ (y ≡ s)
pushed_cases [] y zero s e = let f : y ≡ s = cc in inr f
pushed_cases [] y (suc i) s e = cc
pushed_cases (x ∷ xs) y zero s e = inl e
pushed_cases (x ∷ xs) y (suc i) s e = pushed_cases xs y i s e

pub pushed_end : {X : Type 0} (xs : List X) (y : X) → slice_get (xs ++ y ∷ []) (length xs) ≡ Some y
pushed_end xs y = slice_get_read (xs ++ y ∷ []) (length (xs ++ y ∷ [])) (length xs) y refl (omega (arith, length-append xs (y ∷ [])))
    (sym (get_or_push xs y y (length xs) refl))
