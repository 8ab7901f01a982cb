-- What a read up to a newline says of a line that doesn't end with one.
use Rattle.std.proofs.Common.{◌≡◌, ◌≢◌, ℕ, ◌-◌, List, [], ◌∷◌, ◌++◌, Bool, true, false, None, Some, cond, eqb, eqb-true}
use Rattle.std.proofs.Common.{length, get_or, drop, IfSome, refl, sym, ap, subst, ◌∙◌, arith}
use Rattle.std.proofs.lemmas.List.Elements.{All-head, All-tail, All-nil}
use Rattle.std.proofs.lemmas.Option.{slice_get-get_or, get_or_from_slice_get}
use Rattle.std.proofs.Transfers.{All-of_StopsAt}
use Rattle.std.specs.declared.option.Option.{Option}
use denote.Ref.{Bor}
use Rattle.std.specs.Io.{StopsAt}
use Rattle.std.specs.Io.BufRead.{DropsThrough, drop_through, take_through}
use Rattle.std.specs.List.{slice_get}
use Rattle.std.specs.Option.{option_copied, option_eq}
use Rattle.lower_lines.specs.Lines.{IsWithinLine, WasAll}

-- a last byte that isn't the newline, as `last` and `==` say it
pub differs : (E : ℕ → ℕ → Bool) → E 10 10 ≡ true → (last : Option (Bor ℕ)) (ten : Bor ℕ) → ten.now ≡ 10
    → option_eq (λ x y. E x.now y.now) last (Some ten) ≡ false → option_copied last ≢ Some 10
differs E same None ten is e q = cc
differs E same (Some x) ten is e q = cc

-- none of its bytes is the newline
pub unended : (xs : List ℕ) → slice_get xs (length xs - 1) ≢ Some 10 → StopsAt xs 10 → IsWithinLine xs
unended [] h s = All-nil (λ x. x ≢ 10)
unended (x ∷ xs) h s =
    let i = length (x ∷ xs) - 1 in
    let y = get_or (x ∷ xs) i 0 in
    let got : slice_get (x ∷ xs) i ≡ Some y = slice_get-get_or (x ∷ xs) i 0 (omega arith) in
    All-of_StopsAt (x ∷ xs) 10 (length (x ∷ xs)) y refl (λ e. omega (arith, e))
    (sym (get_or_from_slice_get (x ∷ xs) i y y got)) (λ e. h (got ∙ ap Some e)) s

-- a read that takes no newline takes all
whole : (xs : List ℕ) → IsWithinLine (take_through 10 xs) → (xs ≡ take_through 10 xs) × (drop_through 10 xs ≡ [])
whole [] h = (refl, refl)
whole (x ∷ xs) h = at (eqb x 10) (eqb-true x 10) (whole xs) h
  where
    at : (b : Bool) → (b ≡ true → x ≡ 10) → (IsWithinLine (take_through 10 xs) → (xs ≡ take_through 10 xs) × (drop_through 10 xs ≡ []))
        → IsWithinLine (cond b (x ∷ []) (x ∷ take_through 10 xs))
        → (x ∷ xs ≡ cond b (x ∷ []) (x ∷ take_through 10 xs)) × (cond b xs (drop_through 10 xs) ≡ [])
    at true is rest h = absurd (All-head (λ y. y ≢ 10) x [] h (is refl))
    at false is rest h = let below = rest (All-tail (λ y. y ≢ 10) x (take_through 10 xs) h) in (ap (λ l. x ∷ l) below.0, below.1)

pub took_all : (a b : Option (List ℕ)) (old new : List ℕ) → old ≡ [] → IfSome a (λ xs. new ≡ old ++ take_through 10 xs)
    → DropsThrough a b 10 → IsWithinLine new → WasAll a b new
took_all None b old new none bytes rest within = tt
took_all (Some xs) b old new none bytes rest within =
    let taken : new ≡ take_through 10 xs = bytes ∙ ap (λ l. l ++ take_through 10 xs) none in
    let all = whole xs (subst IsWithinLine taken within) in
    (all.0 ∙ sym taken, rest ∙ ap Some all.1)

-- what was appended to nothing is all of it
pub from_nothing : (P : List ℕ → Type 0) (old new : List ℕ) → old ≡ [] → P (drop (length old) new) → P new
from_nothing P old new none p = subst (λ l. P (drop (length l) new)) none p
