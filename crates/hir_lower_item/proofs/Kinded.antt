-- Lifetime parameters one after another.
use Rattle.std.proofs.Common.{arith, ◌≡◌, ◌∙◌, ◌<◌, sym, List, [], ◌∷◌, ◌++◌, length, map, append-nil, append_assoc}

-- one more is done
pub one_done : {A B : Type 0} (f : A → B) (all done : List B) (x : A) (xs : List A) → all ≡ done ++ map f (x ∷ xs)
    → all ≡ (done ++ f x ∷ []) ++ map f xs
one_done f all done x xs e = e ∙ sym (append_assoc done (f x ∷ []) (map f xs))

-- none is left
pub all_done : {A B : Type 0} (f : A → B) (all done : List B) (xs : List A) → length xs < 1 → all ≡ done ++ map f xs → done ≡ all
all_done f all done [] h e = sym (e ∙ append-nil done)
all_done f all done (x ∷ xs) h e = absurd (omega (arith, h))
