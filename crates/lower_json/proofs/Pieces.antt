-- A text up to its first colon, one without colons, and a text that is shorter than what is to stand in front.
use Rattle.std.proofs.Common.{◌≡◌, ◌<◌, ◌++◌, ℕ, List, [], ◌∷◌, None, length, drop, length-drop, append_assoc, refl, sym, ◌∙◌, arith}
use Rattle.std.specs.List.{position_or_len, before_first, after_first}
use Rattle.std.proofs.lemmas.List.Splits.{slice_split_first, slice_split_none}
use Rattle.std.proofs.lemmas.List.Sums.{fails_before_first}
use Rattle.lower_json.specs.PathTexts.{is_colon, pieces, behind}

pub one_more : (rest piece more : List ℕ) → position_or_len is_colon rest < length rest → piece ≡ before_first is_colon rest
    → more ≡ after_first is_colon rest → pieces rest ≡ piece ∷ pieces more
one_more rest piece more l p m = rw p (rw m (slice_split_first is_colon rest 0 l))

pub the_last : (rest : List ℕ) → position_or_len is_colon rest ≡ length rest → pieces rest ≡ rest ∷ []
the_last rest h = slice_split_none is_colon rest (λ k e m. fails_before_first is_colon rest k e (omega (arith, h, m)))

-- what is left moves its first item onto what there is
pub onto : (ps qs left later : List (List ℕ)) (item piece : List ℕ)
    → qs ≡ ps ++ (item ∷ []) → item ≡ piece → left ≡ piece ∷ later → ps ++ left ≡ qs ++ later
onto ps qs left later item piece q i e = rw q (rw i (rw e (simp append_assoc)))

nothing_left : (ps bs : List ℕ) → 0 < length ps → length bs ≡ 0 → behind ps bs ≡ None
nothing_left [] bs h e = absurd (omega arith)
nothing_left (p ∷ ps) [] h e = refl
nothing_left (p ∷ ps) (b ∷ bs) h e = absurd (omega arith)

pub nothing_behind : (i : ℕ) (front text rest : List ℕ) → behind front text ≡ behind (drop i front) rest
    → i < length front → length rest ≡ 0 → None ≡ behind front text
nothing_behind i front text rest same inside ended =
    sym (same ∙ nothing_left (drop i front) rest (omega (arith, length-drop i front)) ended)
