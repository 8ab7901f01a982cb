-- Entries with their numbers, without these.
use Rattle.std.proofs.Common.{◌≡◌, ◌∙◌, ap, map, refl, suc, List, [], ◌∷◌, ℕ}
use Rattle.hir_store.specs.Entries.{numbered, numbered_from}
use Rattle.json.specs.Written.{Written}
use Rattle.thm_result_json.specs.Codec.{Codec, listing}
use Rattle.store_json.specs.Append.{AppendsMember}
use Rattle.store_json.proofs.Object.{same_member}

numbered_entries : {I T : Type 0} (number : ℕ → I) (n : ℕ) (xs : List T) → map (λ p. p.1) (numbered_from number n xs) ≡ xs
numbered_entries number n [] = refl
numbered_entries number n (x ∷ xs) = ap (λ ys. x ∷ ys) (numbered_entries number (suc n) xs)

entries_of : {I T : Type 0} (number : ℕ → I) (xs : List T) → map (λ p. p.1) (numbered number xs) ≡ xs
entries_of number xs = numbered_entries number 0 xs

-- a member that has the entries alone
pub entries_alone : {I T : Type 0} (c : Codec T) (number : ℕ → I) (xs : List T) {es : List (I × T)} {k : List ℕ} {a b : Written}
    → es ≡ numbered number xs → AppendsMember k ((listing c).to (map (λ p. p.1) es)) a b → AppendsMember k ((listing c).to xs) a b
entries_alone c number xs same t =
    same_member (ap (λ ys. (listing c).to (map (λ p. p.1) ys)) same ∙ ap (listing c).to (entries_of number xs)) t
