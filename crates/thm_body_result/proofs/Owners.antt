-- What owns bindings, counted from elsewhere, and what owns them once what is stored last owns those that nothing owned.
use Rattle.std.proofs.Common.{arith, ◌≡◌, ◌∙◌, refl, sym, ap, ℕ, suc, ◌+◌, ◌-◌, List, [], ◌∷◌, ◌++◌, length, length-append, map}
use Rattle.std.proofs.Common.{append-nil, append_assoc, Option, Some, None}
use Rattle.std.proofs.lemmas.List.{length-map, map-append}
use Rattle.hir_store.specs.Bindings.{own_from}
use Rattle.hir_store.specs.StoreSink.{expr_id}
use Rattle.hir_store.specs.declared.ids.ExprId.{ExprId}
use Rattle.thm_body_result.specs.Size.{later_owner, owned_else_last, placed_owners, placed_owner}

-- counted from elsewhere

none_before : (k : ℕ) → 0 + k ≡ k
none_before k = omega arith

further_by : (n m k : ℕ) → n + (m + k) ≡ (n + m) + k
further_by n m k = omega arith

pub further_none : (os : List (Option ℕ)) → map (later_owner 0) os ≡ os
further_none [] = refl
further_none (None ∷ os) = ap (λ ps. None ∷ ps) (further_none os)
further_none (Some k ∷ os) = λ i. Some (none_before k i) ∷ further_none os i

further_then : (n m : ℕ) (os : List (Option ℕ)) → map (later_owner n) (map (later_owner m) os) ≡ map (later_owner (n + m)) os
further_then n m [] = refl
further_then n m (None ∷ os) = ap (λ ps. None ∷ ps) (further_then n m os)
further_then n m (Some k ∷ os) = λ i. Some (further_by n m k i) ∷ further_then n m os i

pub owners_joined : (n m : ℕ) (os ps qs : List (Option ℕ))
    → os ++ map (later_owner n) (ps ++ map (later_owner m) qs) ≡ (os ++ map (later_owner n) ps) ++ map (later_owner (n + m)) qs
owners_joined n m os ps qs =
    let apart = map-append (later_owner n) ps (map (later_owner m) qs) ∙ ap (λ rs. map (later_owner n) ps ++ rs) (further_then n m qs) in
    ap (λ rs. os ++ rs) apart ∙ sym (append_assoc os (map (later_owner n) ps) (map (later_owner (n + m)) qs))

-- where they are stored

placed_further : (l n : ℕ) (os : List (Option ℕ)) → placed_owners l (map (later_owner n) os) ≡ placed_owners (l + n) os
placed_further l n [] = refl
placed_further l n (None ∷ os) = ap (λ ps. None ∷ ps) (placed_further l n os)
placed_further l n (Some k ∷ os) = λ i. Some (expr_id (further_by l n k i - 1)) ∷ placed_further l n os i

-- those of the one, and then those of the other
pub owners_then : (xs : List (Option ExprId)) (l n : ℕ) (os ps : List (Option ℕ)) {l' : ℕ} {ys zs : List (Option ExprId)} → l' ≡ l + n
    → ys ≡ xs ++ placed_owners l os → zs ≡ ys ++ placed_owners l' ps → zs ≡ xs ++ placed_owners l (os ++ map (later_owner n) ps)
owners_then xs l n os ps e f g =
    let behind = ap (λ k. placed_owners k ps) e ∙ sym (placed_further l n ps) in
    let both = map-append (placed_owner l) os (map (later_owner n) ps) in
    g ∙ ((λ i. f i ++ behind i)
    ∙ (append_assoc xs (placed_owners l os) (placed_owners l (map (later_owner n) ps)) ∙ ap (λ rs. xs ++ rs) (sym both)))

-- nothing more is bound
pub no_owners : (os : List (Option ExprId)) {ps : List (Option ExprId)} → ps ≡ os → ps ≡ os ++ []
no_owners os e = e ∙ sym (append-nil os)

-- how many

pub as_many_both : (n : ℕ) (os ps : List (Option ℕ)) {k m : ℕ} → length os ≡ k → length ps ≡ m
    → length (os ++ map (later_owner n) ps) ≡ k + m
as_many_both n os ps e f =
    let l = length-append os (map (later_owner n) ps) in
    let more = length-map ps (later_owner n) in
    omega (arith, e, f, l, more)

pub as_many_placed : (xs : List (Option ExprId)) (l : ℕ) (os : List (Option ℕ)) {ys : List (Option ExprId)} → ys ≡ xs ++ placed_owners l os
    → length ys ≡ length xs + length os
as_many_placed xs l os e =
    let n = length-append xs (placed_owners l os) in
    let k = length-map os (placed_owner l) in
    let m = ap length e in
    omega (arith, n, k, m)

-- what the last expression owns

pub as_many_owned : (n : ℕ) (os : List (Option ℕ)) {k : ℕ} → length os ≡ k → length (map (owned_else_last n) os) ≡ k
as_many_owned n os e = length-map os (owned_else_last n) ∙ e

same_id : (i j : ExprId) → i.0 ≡ j.0 → i ≡ j
same_id i j e = λ k. record { 0 = e k }

pub past_start : (id : ExprId) (xs ys : List (Option ExprId)) → own_from (length xs) id (xs ++ ys) ≡ xs ++ own_from 0 id ys
past_start id [] ys = refl
past_start id (x ∷ xs) ys = ap (λ zs. x ∷ zs) (past_start id xs ys)

from_start : (l n : ℕ) (id : ExprId) → suc id.0 ≡ l + n → (os : List (Option ℕ))
    → own_from 0 id (placed_owners l os) ≡ placed_owners l (map (owned_else_last n) os)
from_start l n id e [] = refl
from_start l n id e (None ∷ os) =
    let last : id ≡ expr_id (l + n - 1) = same_id id (expr_id (l + n - 1)) (omega (arith, e)) in
    λ i. Some (last i) ∷ from_start l n id e os i
from_start l n id e (Some k ∷ os) = ap (λ ps. Some (expr_id (l + k - 1)) ∷ ps) (from_start l n id e os)

-- where there was one for each binding before, and this is stored last
pub last_owns : (xs : List (Option ExprId)) (l n : ℕ) (os : List (Option ℕ)) (id : ExprId) (start : ℕ) {ys : List (Option ExprId)}
    → length xs ≡ start → suc id.0 ≡ l + n → ys ≡ xs ++ placed_owners l os
    → own_from start id ys ≡ xs ++ placed_owners l (map (owned_else_last n) os)
last_owns xs l n os id start e last is =
    (λ i. own_from (sym e i) id (is i)) ∙ (past_start id xs (placed_owners l os) ∙ ap (λ ps. xs ++ ps) (from_start l n id last os))
