-- Each entry still names only earlier ones once one more is stored.
use Rattle.std.proofs.Common.{arith, ◌≡◌, ℕ, zero, suc, ◌≤◌, ◌<◌, ap, refl, inl, inr, ◌⊎◌}
use Rattle.std.proofs.Common.{List, [], ◌∷◌, ◌++◌, length, Some}
use Rattle.std.specs.Prelude.{slice_get}
use Rattle.std.proofs.lemmas.Option.{same_Some}
use Rattle.hir_store.specs.Arenas.{past}
use Rattle.hir_store.specs.Past.{Past, past_each, past_pat, past_pats, past_type}
use Rattle.hir_store.specs.Range.{NamesEarlier, StoreDescends, TargetsEarlier, exprs_in, pats_in}
use Rattle.hir_store.specs.declared.hir.Expr.{Expr}
use Rattle.hir_store.specs.declared.hir.Expr.TheVariants as hir
use Rattle.hir_store.specs.declared.pat.Pat.{Pat}
use Rattle.hir_store.specs.declared.type_ref.TypeRef.{TypeRef}

-- an element in front of the last one is an old one
pushed_old : {A : Type 0} (xs : List A) (y : A) (n : ℕ) (x : A) → n < length xs → slice_get (xs ++ y ∷ []) n ≡ Some x
    → slice_get xs n ≡ Some x
pushed_old [] y n x h e = absurd (omega (arith, h))
pushed_old (z ∷ xs) y zero x h e = e
pushed_old (z ∷ xs) y (suc n) x h e = pushed_old xs y n x (omega (arith, h)) e

-- an element is an old one or, at the end, the new one
pushed_at : {A : Type 0} (xs : List A) (y : A) (n : ℕ) (x : A) → slice_get (xs ++ y ∷ []) n ≡ Some x
    → (slice_get xs n ≡ Some x) ⊎ ((n ≡ length xs) × (y ≡ x))
pushed_at [] y zero x e = inr (refl, same_Some y x e)
pushed_at [] y (suc n) x e = cc
pushed_at (z ∷ xs) y zero x e = inl e
pushed_at (z ∷ xs) y (suc n) x e = next (pushed_at xs y n x e)
  where
    next : (slice_get xs n ≡ Some x) ⊎ ((n ≡ length xs) × (y ≡ x)) → (slice_get xs n ≡ Some x) ⊎ ((suc n ≡ suc (length xs)) × (y ≡ x))
    next (inl h) = inl h
    next (inr h) = inr (ap suc h.0, h.1)

earlier_push : {A : Type 0} (named : A → ℕ) (xs : List A) (y : A) → NamesEarlier named xs → named y ≤ length xs
    → NamesEarlier named (xs ++ y ∷ [])
earlier_push named xs y h k n x e = by (pushed_at xs y n x e)
  where
    by : (slice_get xs n ≡ Some x) ⊎ ((n ≡ length xs) × (y ≡ x)) → named x ≤ n
    by (inl old) = h n x old
    by (inr new) =
        let is = ap named new.1 in
        let at = new.0 in omega (arith, is, at, k)

pub past_member : {A : Type 0} (f : A → ℕ) (xs : List A) (n : ℕ) (x : A) → slice_get xs n ≡ Some x → f x ≤ past f xs
past_member f [] n x e = cc
past_member f (y ∷ xs) zero x e = let is = ap f (same_Some y x e) in omega (arith, is)
past_member f (y ∷ xs) (suc n) x e = let le = past_member f xs n x e in omega (arith, le)

each_member : {A : Type 0} (f : A → Past) (xs : List A) (n : ℕ) (x : A) → slice_get xs n ≡ Some x → (f x).exprs ≤ (past_each f xs).exprs
each_member f [] n x e = cc
each_member f (y ∷ xs) zero x e = let is = ap (λ z. (f z).exprs) (same_Some y x e) in omega (arith, is)
each_member f (y ∷ xs) (suc n) x e = let le = each_member f xs n x e in omega (arith, le)

targets_expr : (es : List Expr) (e : Expr) (ps : List Pat) → TargetsEarlier es ps → (past_pats ps).exprs ≤ length es
    → TargetsEarlier (es ++ e ∷ []) ps
targets_expr es e ps h k n target value at i p le is_pat = by (pushed_at es e n (hir.Assignment target value) at)
  where
    by : (slice_get es n ≡ Some (hir.Assignment target value)) ⊎ ((n ≡ length es) × (e ≡ hir.Assignment target value))
        → (past_pat p).exprs ≤ n
    by (inl old) = h n target value old i p le is_pat
    by (inr new) =
        let m = each_member past_pat ps i p is_pat in
        let is = new.0 in omega (arith, m, is, k)

targets_pat : (es : List Expr) (ps : List Pat) (x : Pat) → TargetsEarlier es ps → past pats_in es ≤ length ps
    → TargetsEarlier es (ps ++ x ∷ [])
targets_pat es ps x h k n target value at i p le is_pat =
    let m = past_member pats_in es n (hir.Assignment target value) at in
    h n target value at i p le (pushed_old ps x i p (omega (arith, m, le, k)) is_pat)

pub nothing_descends : StoreDescends [] [] []
nothing_descends = record {
  exprs = λ n x e. cc;
  types = λ n x e. cc;
  pats = λ n x e. cc;
  targets = λ n target value at i p le is_pat. cc;
}

pub descends_expr : (es : List Expr) (ts : List TypeRef) (ps : List Pat) (e : Expr) → StoreDescends es ts ps → exprs_in e ≤ length es
    → (past_pats ps).exprs ≤ length es → StoreDescends (es ++ e ∷ []) ts ps
descends_expr es ts ps e h k m = record {
  exprs = earlier_push exprs_in es e h.exprs k;
  types = h.types;
  pats = h.pats;
  targets = targets_expr es e ps h.targets m;
}

pub descends_type : (es : List Expr) (ts : List TypeRef) (ps : List Pat) (t : TypeRef) → StoreDescends es ts ps
    → (past_type t).types ≤ length ts → StoreDescends es (ts ++ t ∷ []) ps
descends_type es ts ps t h k = record {
  exprs = h.exprs;
  types = earlier_push (λ t. (past_type t).types) ts t h.types k;
  pats = h.pats;
  targets = h.targets;
}

pub descends_pat : (es : List Expr) (ts : List TypeRef) (ps : List Pat) (p : Pat) → StoreDescends es ts ps
    → (past_pat p).pats ≤ length ps → past pats_in es ≤ length ps → StoreDescends es ts (ps ++ p ∷ [])
descends_pat es ts ps p h k m = record {
  exprs = h.exprs;
  types = h.types;
  pats = earlier_push (λ p. (past_pat p).pats) ps p h.pats k;
  targets = targets_pat es ps p h.targets m;
}
