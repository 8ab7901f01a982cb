-- What stands between others.
use Rattle.std.proofs.Common.{◌≡◌, ◌∙◌, sym, ap, subst, arith, ℕ, zero, suc, ◌+◌, List, [], ◌∷◌, ◌++◌, length, slice_get, Some}
use Rattle.std.proofs.Common.{append_assoc, length-append, is_some, true≢false}
use Rattle.std.specs.Prelude.{◌-◌, take, drop, slice_range}
use Rattle.std.proofs.Math.Seq.{take-append_seam, drop-append_seam}

-- by its number
pub found_between : {A : Type 0} (before xs behind : List A) (n m : ℕ) (x : A) → n ≡ length before + m → slice_get xs m ≡ Some x
    → slice_get ((before ++ xs) ++ behind) n ≡ Some x
found_between [] xs behind n m x e h =
    let s : m ≡ n = omega (arith, e) in subst (λ k. slice_get (xs ++ behind) k ≡ Some x) s (found_behind xs behind m x h)
  where
    found_behind : {A : Type 0} (xs more : List A) (n : ℕ) (x : A) → slice_get xs n ≡ Some x → slice_get (xs ++ more) n ≡ Some x
    found_behind [] more n x h = absurd (true≢false (sym (ap is_some h)))
    found_behind (y ∷ xs) more zero x h = h
    found_behind (y ∷ xs) more (suc n) x h = found_behind xs more n x h
found_between (b ∷ before) xs behind zero m x e h = absurd (omega (arith, e))
found_between (b ∷ before) xs behind (suc n) m x e h = found_between before xs behind n m x (omega (arith, e)) h

-- all of it
pub came_between : {A : Type 0} (old here behind new later : List A) → new ≡ old ++ here → later ≡ new ++ behind
    → slice_range later (length old) (length new) ≡ here
came_between old here behind new later is stays =
    let whole = stays ∙ (ap (λ xs. xs ++ behind) is ∙ append_assoc old here behind) in
    let rest = ap (λ xs. drop (length old) xs) whole ∙ drop-append_seam old (here ++ behind) in
    let long : length new - length old ≡ length here =
    let n = ap length is in
    let m = length-append old here in omega arith in
    ap (λ n. take n (drop (length old) later)) long ∙ (ap (λ xs. take (length here) xs) rest ∙ take-append_seam here behind)
