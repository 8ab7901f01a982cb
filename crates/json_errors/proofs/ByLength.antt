-- Only kinds whose words have the length of a word can have that word.
use Rattle.std.proofs.Common.{◌≡◌, ℕ, List, [], ◌∷◌, Bool, true, false, Option, Some, None, refl, ap, ◌≢◌, ◌∙◌}
use Rattle.std.proofs.Common.{if◌then◌else◌, length}
use Rattle.std.specs.Prelude.{◌==◌, bytes_eq, cond}
use Rattle.std.proofs.lemmas.Bool.{false≢true}
use Rattle.std.proofs.lemmas.Slice.Eq.{bytes_eq-Decides}
use native.Mathlib.Omega.{arith}
use Rattle.json_errors.specs.Table.{row, kind_of, kind_with, exprs, operations, keywords, typed, branches, pats}
use Rattle.json_errors.specs.Table.{other_pats, types, other_types, paths, type_parts, macros, items, others}
use Rattle.json_errors.specs.ByLength.{keep, kind_of_length}
use Rattle.json_errors.specs.declared.kind.Kind.{Kind}

miss : (b : Bool) (k : Kind) (o p : Option Kind) → (b ≡ true → false ≡ true) → o ≡ p → cond b (Some k) o ≡ p
miss true k o p h i = absurd (false≢true (h refl))
miss false k o p h i = i

step : (t : List ℕ) (k : Kind) (l : List Kind) (c : Bool) (o : Option Kind) → (bytes_eq t (row k).word ≡ true → c ≡ true)
    → o ≡ kind_with l t → cond (bytes_eq t (row k).word) (Some k) o ≡ kind_with (if c then k ∷ l else l) t
step t k l true o h i = rw i refl
step t k l false o h i = miss (bytes_eq t (row k).word) k o _ h i

same_length : (t w : List ℕ) (n : ℕ) → length t ≡ n → bytes_eq t w ≡ true → (length w == n) ≡ true
same_length t w n e h = grind (arith, e, ap length ((bytes_eq-Decides t w).0 h))

kept : (n : ℕ) (ks : List Kind) (t : List ℕ) → length t ≡ n → kind_with ks t ≡ kind_with (keep n ks) t
kept n [] t e = refl
kept n (k ∷ ks) t e = step t k (keep n ks) (length (row k).word == n) (kind_with ks t) (same_length t (row k).word n e) (kept n ks t e)

pub of_length : (n : ℕ) (t : List ℕ) → length t ≡ n → kind_of t ≡ kind_of_length n t
of_length n t e = rw (kept n exprs t e) (rw (kept n operations t e) (rw (kept n keywords t e) (rw (kept n typed t e)
    (rw (kept n branches t e) (rw (kept n pats t e) (rw (kept n other_pats t e) (rw (kept n types t e)
    (rw (kept n other_types t e) (rw (kept n paths t e) (rw (kept n type_parts t e) (rw (kept n macros t e)
    (rw (kept n items t e) (rw (kept n others t e) refl)))))))))))))

other : (m n : ℕ) → n ≢ m → (m == n) ≡ false
other m n h = grind (arith, h)

pub unknown : (t : List ℕ) → length t ≢ 2 → length t ≢ 4 → length t ≢ 5 → length t ≢ 6 → length t ≢ 7 → length t ≢ 8 → length t ≢ 9
    → length t ≢ 10 → length t ≢ 11 → length t ≢ 12 → length t ≢ 13 → length t ≢ 14 → length t ≢ 15 → length t ≢ 16 → length t ≢ 19
    → kind_of t ≡ None
unknown t h2 h4 h5 h6 h7 h8 h9 h10 h11 h12 h13 h14 h15 h16 h19 = of_length (length t) t refl
    ∙ rw (other 2 (length t) h2) (rw (other 4 (length t) h4) (rw (other 5 (length t) h5)
    (rw (other 6 (length t) h6) (rw (other 7 (length t) h7) (rw (other 8 (length t) h8)
    (rw (other 9 (length t) h9) (rw (other 10 (length t) h10) (rw (other 11 (length t) h11)
    (rw (other 12 (length t) h12) (rw (other 13 (length t) h13) (rw (other 14 (length t) h14)
    (rw (other 15 (length t) h15) (rw (other 16 (length t) h16) (rw (other 19 (length t) h19) (refl)))))))))))))))
