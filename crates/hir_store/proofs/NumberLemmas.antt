-- Entries with their numbers.
use Rattle.std.proofs.Common.{arith, ◌≡◌, ◌+◌, ℕ, suc, ◌∙◌, ap, sym, List, ◌∷◌, drop, Some}
use Rattle.std.specs.Prelude.{slice_get, unwrap_or}
use Rattle.std.proofs.Math.Seq.{drop-cons}
use Rattle.std.proofs.lemmas.Option.{slice_get_within, unwrap_or-slice_get}
use Rattle.hir_store.specs.Entries.{numbered_behind, numbered_from}

-- the first of those that are left, and the others
pub numbered_read : {I T : Type 0} (number : ℕ → I) (n : ℕ) (xs : List T) (x : T) → slice_get xs n ≡ Some x
    → numbered_behind number n xs ≡ (number n, x) ∷ numbered_behind number (n + 1) xs
numbered_read number n xs x h =
    let first = sym (unwrap_or-slice_get xs n x) ∙ ap (λ o. unwrap_or o x) h in
    let next : suc n ≡ n + 1 = omega arith in
    ap (numbered_from number n) (drop-cons xs n x (slice_get_within xs n x h) ∙ ap (λ y. y ∷ drop (suc n) xs) first)
    ∙ ap (λ m. (number n, x) ∷ numbered_behind number m xs) next
