-- The names among two lists of segments, one behind the other.
use Rattle.std.proofs.Common.{arith, ◌≡◌, ◌∙◌, refl, sym, ap, ℕ, zero, suc, ◌-◌, ◌<◌, ◌≤◌, Bool, true, false, if◌then◌else◌}
use Rattle.std.proofs.Common.{List, [], ◌∷◌, ◌++◌, length, Option, Some, None, is_some, slice_get}
use Rattle.hir_syntax.specs.declared.ast.PathSegment.{PathSegment as AstSegment}
use Rattle.spec_data.specs.Segments.{named_among, segment_name}

both : (xs ys : List (Option AstSegment)) → named_among (xs ++ ys) ≡ named_among xs ++ named_among ys
both [] ys = refl
both (None ∷ xs) ys = both xs ys
both (Some s ∷ xs) ys = by (is_some (segment_name s)) (named_among (xs ++ ys)) (named_among xs) (named_among ys) (both xs ys)
  where
    by : (b : Bool) (us vs ws : List AstSegment) → us ≡ vs ++ ws → (if b then s ∷ us else us) ≡ (if b then s ∷ vs else vs) ++ ws
    by true us vs ws e = ap (λ l. s ∷ l) e
    by false us vs ws e = e

in_front : {A : Type 0} (xs ys : List A) (n : ℕ) → n < length xs → slice_get (xs ++ ys) n ≡ slice_get xs n
in_front [] ys n h = absurd (omega (arith, h))
in_front (x ∷ xs) ys zero h = refl
in_front (x ∷ xs) ys (suc n) h = in_front xs ys n (omega (arith, h))

in_rest : {A : Type 0} (xs ys : List A) (n : ℕ) → length xs ≤ n → slice_get (xs ++ ys) n ≡ slice_get ys (n - length xs)
in_rest [] ys n h = let same : n ≡ n - 0 = omega arith in ap (λ k. slice_get ys k) same
in_rest (x ∷ xs) ys zero h = absurd (omega (arith, h))
in_rest (x ∷ xs) ys (suc n) h =
    let same : n - length xs ≡ suc n - suc (length xs) = omega arith in
    in_rest xs ys n (omega (arith, h)) ∙ ap (λ k. slice_get ys k) same

pub nth_of_front : (xs ys : List (Option AstSegment)) (all : List AstSegment) (n : ℕ) → named_among (xs ++ ys) ≡ all
    → n < length (named_among xs) → slice_get (named_among xs) n ≡ slice_get all n
nth_of_front xs ys all n is h = sym (ap (λ l. slice_get l n) (sym is ∙ both xs ys) ∙ in_front (named_among xs) (named_among ys) n h)

pub nth_behind : (xs ys : List (Option AstSegment)) (all : List AstSegment) (n : ℕ) → named_among (xs ++ ys) ≡ all
    → length (named_among xs) ≤ n → slice_get (named_among ys) (n - length (named_among xs)) ≡ slice_get all n
nth_behind xs ys all n is h = sym (ap (λ l. slice_get l n) (sym is ∙ both xs ys) ∙ in_rest (named_among xs) (named_among ys) n h)
