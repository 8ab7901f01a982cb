-- The first root past a number, found by halving.
use Rattle.std.proofs.Common.{arith, ◌≡◌, ◌∙◌, refl, sym, ap, ◌<◌, ◌≤◌, ◌+◌, ℕ, zero, suc, Bool, true, false}
use Rattle.std.proofs.Common.{List, [], ◌∷◌, Some, None, cond, length, slice_get, slice_index_or}
use Rattle.std.specs.List.{find}
use Rattle.std.specs.List.Sorted.{IsNonDecreasingBy}
use Rattle.std.proofs.lemmas.Option.{slice_get-get_or, slice_get_past}
use Rattle.hir_store.specs.StoreSink.{expr_id, pat_id}
use Rattle.hir_store.specs.Bindings.{binding_id}
use Rattle.hir_store.specs.declared.roots.ExprRoot.{ExprRoot}
use Rattle.hir_walks.specs.declared.roots.EntryKind.{EntryKind}
use Rattle.hir_walks.specs.Roots.{end_of, is_past, root_id, root_of}

-- what an index past the end reads
abbrev pub no_root : ExprRoot
no_root = record { root = expr_id 0; exprs_end = expr_id 0; pats_end = pat_id 0; bindings_end = binding_id 0 }

pub first_is : {X : Type 0} (p : X → Bool) (xs : List X) (i : ℕ)
    → ((k : ℕ) (d : X) → k < i → p (slice_index_or xs k d) ≡ false) → ((d : X) → i < length xs → p (slice_index_or xs i d) ≡ true)
    → i ≤ length xs → find p xs ≡ slice_get xs i
first_is p [] zero low high within = refl
first_is p [] (suc i) low high within = refl
first_is p (x ∷ xs) zero low high within = ap (λ b. cond b (Some x) (find p xs)) (high x (omega arith))
first_is p (x ∷ xs) (suc i) low high within =
    ap (λ b. cond b (Some x) (find p xs)) (low zero x (omega arith))
    ∙ first_is p xs i (λ k d less. low (suc k) d (omega (arith, less))) (λ d less. high d (omega (arith, less))) (omega (arith, within))

same_at : {X : Type 0} (xs : List X) (i : ℕ) (d e : X) → i < length xs → slice_index_or xs i d ≡ slice_index_or xs i e
same_at [] i d e within = absurd (omega (arith, within))
same_at (x ∷ xs) zero d e within = refl
same_at (x ∷ xs) (suc i) d e within = same_at xs i d e (omega (arith, within))

-- what ends no later than one that doesn't end past the number doesn't either, and the other way around
pub lower_half : {X : Type 0} (n : X → ℕ) (xs : List X) (m t : ℕ) (e : X) → IsNonDecreasingBy n xs → m < length xs
    → n (slice_index_or xs m e) ≤ t → (k : ℕ) (d : X) → k < m + 1 → n (slice_index_or xs k d) ≤ t
lower_half n xs m t e sorted within ends k d less =
    let before = sorted k m d (omega (arith, less)) within in
    let same = ap n (same_at xs m d e within) in
    omega (arith, before, same, ends)

pub upper_half : {X : Type 0} (n : X → ℕ) (xs : List X) (m t : ℕ) (e : X) → IsNonDecreasingBy n xs
    → t < n (slice_index_or xs m e) → (k : ℕ) (d : X) → m ≤ k → k < length xs → t < n (slice_index_or xs k d)
upper_half n xs m t e sorted ends k d less within =
    let behind = sorted m k d less within in
    let same = ap n (same_at xs m d e (omega (arith, less, within))) in
    omega (arith, behind, same, ends)

module _ (kind : EntryKind) (rs : List ExprRoot) (i t : ℕ)
    (lower : (k : ℕ) (d : ExprRoot) → k < i → end_of kind (slice_index_or rs k d) ≤ t)
    (upper : (k : ℕ) (d : ExprRoot) → i ≤ k → k < length rs → t < end_of kind (slice_index_or rs k d)) (within : i ≤ length rs) where
  root_is : root_of kind t rs ≡ root_id (slice_get rs i)
  root_is = ap root_id (first_is (is_past kind t) rs i
      (λ k d less. let ends = lower k d less in grind (arith, ends))
      (λ d less. let ends = upper i d (omega arith) less in grind (arith, ends)) within)

  pub root_is_some : (r : ExprRoot) → i < length rs → r ≡ slice_index_or rs i r → Some r.root ≡ root_of kind t rs
  root_is_some r less is = ap (λ s. Some s.root) is ∙ sym (root_is ∙ ap root_id (slice_get-get_or rs i r less))

  pub root_is_none : length rs ≤ i → None ≡ root_of kind t rs
  root_is_none past = sym (root_is ∙ ap root_id (slice_get_past rs i past))
