-- Texts that are no integers.
use Rattle.std.proofs.Common.{◌≡◌, ◌⊎◌, inl, inr, ℕ, ◌+◌, ◌*◌, ◌-◌, ◌^◌, ◌<◌, ◌≤◌, Bool, true, false, not, ◌&&◌, ◌==◌, IsTrue}
use Rattle.std.proofs.Common.{nat_lt, List, [], ◌∷◌, length, refl, sym, arith}
use Rattle.std.proofs.lemmas.Bool.Decides.{nat_tests}
use Rattle.std.specs.Char.{is_ascii_digit}
use Rattle.std.specs.Str.{all_ascii_digits}
use Rattle.json_errors.specs.Literals.{written_after, is_integer}

at_least : (n : ℕ) (bs : List ℕ) → n ≤ written_after n bs
at_least n [] = omega arith
at_least n (b ∷ bs) = omega (arith, at_least (n * 10 + (b - 48)) bs)

last_fails : (a b c : Bool) → c ≡ false → ((a && b) && c) ≡ false
last_fails true true c h = h
last_fails true false c h = refl
last_fails false b c h = refl

second_fails : (a b c : Bool) → b ≡ false → ((a && b) && c) ≡ false
second_fails true true c h = cc
second_fails true false c h = refl
second_fails false b c h = refl

too_large : (m : ℕ) → 2 ^ 128 ≤ m → nat_lt m (2 ^ 128) ≡ false
too_large m h = grind (arith, nat_tests)

digit_or_not : (d : Bool) → (d ≡ false) ⊎ (d ≡ true)
digit_or_not true = inr refl
digit_or_not false = inl refl

no_digit : (d e : Bool) → d ≡ false → (d && e) ≡ false
no_digit true e h = cc
no_digit false e h = refl

-- a byte that is no digit, or that makes the number too large
pub is_integer-refused : (t rest : List ℕ) (n b : ℕ) (bs : List ℕ)
    → rest ≡ b ∷ bs → all_ascii_digits t ≡ all_ascii_digits rest → written_after 0 t ≡ written_after n rest
    → ¬ (IsTrue (is_ascii_digit b) × (n * 10 + (b - 48) < 2 ^ 128)) → false ≡ is_integer t
is_integer-refused t rest n b bs is digits same refused =
    elim (digit_or_not (is_ascii_digit b)) [
      | inl other ↦
          let one : all_ascii_digits rest ≡ false = rw is (no_digit (is_ascii_digit b) (all_ascii_digits bs) other) in
          sym (second_fails (not (length t == 0)) (all_ascii_digits t) (nat_lt (written_after 0 t) (2 ^ 128)) cc)
      | inr digit ↦
          let next : ℕ = n * 10 + (b - 48) in
          let large : ¬ (next < 2 ^ 128) = λ small. refused (digit, small) in
          let more : next ≤ written_after next bs = at_least next bs in
          let all : written_after n rest ≡ written_after next bs = rw is refl in
          let over : nat_lt (written_after 0 t) (2 ^ 128) ≡ false = too_large (written_after 0 t) (omega arith) in
          sym (last_fails (not (length t == 0)) (all_ascii_digits t) (nat_lt (written_after 0 t) (2 ^ 128)) over)
    ]
