-- Pages and the entries on them.
use Rattle.std.proofs.Common.{vec_capacity, ◌≡◌, ℕ, zero, suc, ◌+◌, ◌-◌, ◌*◌, ◌/◌, ◌%◌, ◌<◌, List, [], ◌∷◌, ◌++◌, length, get_or}
use Rattle.std.proofs.Common.{slice_get, refl, ap, sym, ◌∙◌, append_assoc, append-nil, arith, length-append, set, subst}
use Rattle.std.proofs.lemmas.Option.{slice_get_past}
use Rattle.std.specs.declared.vec.Vec.{Vec}
use Rattle.std.specs.declared.alloc.Global.{Global}
use Rattle.hir_store.specs.Pages.{joined, IsPageBefore, ArePages, entry_at}

-- a page at the end

pub joined_push : {T : Type 0} (ps : List (Vec T Global)) (q : Vec T Global) → joined (ps ++ q ∷ []) ≡ joined ps ++ q.items
joined_push [] q = append-nil q.items
joined_push (p ∷ ps) q = ap (λ xs. p.items ++ xs) (joined_push ps q) ∙ sym (append_assoc p.items (joined ps) q.items)

pub pages_more : {T : Type 0} (ps : List (Vec T Global)) (q : Vec T Global) → ArePages ps → length (joined ps) % 1024 ≡ 0
    → IsPageBefore q [] → ArePages (ps ++ q ∷ [])
pages_more [] q a e h = (h, tt)
pages_more (p ∷ []) q a e h = (omega (arith, length-append p.items []), (h, tt))
pages_more (p ∷ p2 ∷ ps) q a e h =
    let n : length (joined (p2 ∷ ps)) % 1024 ≡ 0 = omega (arith, length-append p.items (joined (p2 ∷ ps)), a.0) in
    (a.0, pages_more (p2 ∷ ps) q a.1 n h)

-- the last page

pub some_page : {T : Type 0} (ps : List (Vec T Global)) → 0 < length (joined ps) % 1024 → 0 < length ps
some_page [] h = absurd (omega arith)
some_page (p ∷ ps) h = omega arith

page_along : {T : Type 0} → (p q : Vec T Global) → q ≡ p → IsPageBefore p [] → IsPageBefore q []
page_along p q e h = subst (λ (v : Vec _ Global). IsPageBefore v []) (sym e) h

pub last_page : {T : Type 0} (ps : List (Vec T Global)) (i : ℕ) (q : Vec T Global) → ArePages ps → suc i ≡ length ps → q ≡ get_or ps i q
    → (length (joined ps) ≡ 1024 * i + length q.items) × IsPageBefore q []
last_page [] i q a e h = absurd (omega arith)
last_page (p ∷ []) zero q a e h = (omega (arith, length-append p.items [], ap (λ v. length v.items) h), page_along p q h a.0)
last_page (p ∷ []) (suc i) q a e h = absurd (omega arith)
last_page (p ∷ p2 ∷ ps) zero q a e h = absurd (omega arith)
last_page (p ∷ p2 ∷ ps) (suc i) q a e h =
    let r = last_page (p2 ∷ ps) i q a.1 (omega arith) h in
    (omega (arith, length-append p.items (joined (p2 ∷ ps)), r.0, a.0), r.1)

pub joined_set : {T : Type 0} (ps : List (Vec T Global)) (i : ℕ) (q r : Vec T Global) (x : T) → suc i ≡ length ps → q ≡ get_or ps i q
    → r.items ≡ q.items ++ x ∷ [] → joined (set ps i r) ≡ joined ps ++ x ∷ []
joined_set [] i q r x e h f = absurd (omega arith)
joined_set (p ∷ []) zero q r x e h f = append-nil r.items ∙ f ∙ ap (λ v. v.items ++ x ∷ []) h
    ∙ ap (λ xs. xs ++ x ∷ []) (sym (append-nil p.items))
joined_set (p ∷ []) (suc i) q r x e h f = absurd (omega arith)
joined_set (p ∷ p2 ∷ ps) zero q r x e h f = absurd (omega arith)
joined_set (p ∷ p2 ∷ ps) (suc i) q r x e h f =
    ap (λ xs. p.items ++ xs) (joined_set (p2 ∷ ps) i q r x (omega arith) h f) ∙ sym (append_assoc p.items (joined (p2 ∷ ps)) (x ∷ []))

pub pages_set : {T : Type 0} (ps : List (Vec T Global)) (i : ℕ) (q : Vec T Global) → suc i ≡ length ps → ArePages ps → IsPageBefore q []
    → ArePages (set ps i q)
pages_set [] i q e a h = absurd (omega arith)
pages_set (p ∷ []) zero q e a h = (h, tt)
pages_set (p ∷ []) (suc i) q e a h = absurd (omega arith)
pages_set (p ∷ p2 ∷ ps) zero q e a h = absurd (omega arith)
pages_set (p ∷ p2 ∷ []) (suc zero) q e a h = (a.0, (h, tt))
pages_set (p ∷ p2 ∷ []) (suc (suc i)) q e a h = absurd (omega arith)
pages_set (p ∷ p2 ∷ p3 ∷ ps) (suc zero) q e a h = absurd (omega arith)
pages_set (p ∷ p2 ∷ p3 ∷ ps) (suc (suc i)) q e a h = (a.0, pages_set (p2 ∷ p3 ∷ ps) (suc i) q (omega arith) a.1 h)

-- an entry by its place

get_left : {T : Type 0} (xs ys : List T) (n : ℕ) → n < length xs → slice_get (xs ++ ys) n ≡ slice_get xs n
get_left [] ys n h = absurd (omega arith)
get_left (x ∷ xs) ys zero h = refl
get_left (x ∷ xs) ys (suc n) h = get_left xs ys n (omega arith)

get_right : {T : Type 0} (xs ys : List T) (m n : ℕ) → n ≡ length xs + m → slice_get (xs ++ ys) n ≡ slice_get ys m
get_right [] ys m n e = ap (slice_get ys) (omega arith)
get_right (x ∷ xs) ys m zero e = absurd (omega arith)
get_right (x ∷ xs) ys m (suc n) e = get_right xs ys m n (omega arith)

pub get_joined : {T : Type 0} (ps : List (Vec T Global)) (n i j : ℕ) → ArePages ps → i ≡ n / 1024 → j ≡ n % 1024
    → slice_get (joined ps) n ≡ entry_at ps i j
get_joined [] n i j a e f = refl
get_joined (p ∷ []) n zero j a e f = ap (slice_get (p.items ++ [])) (omega arith) ∙ ap (λ xs. slice_get xs j) (append-nil p.items)
get_joined (p ∷ []) n (suc i) j a e f = slice_get_past (p.items ++ []) n (omega (arith, length-append p.items [], a.0))
get_joined (p ∷ q ∷ ps) n zero j a e f = ap (slice_get (p.items ++ joined (q ∷ ps))) (omega arith)
    ∙ get_left p.items (joined (q ∷ ps)) j (omega (arith, a.0))
get_joined (p ∷ q ∷ ps) n (suc i) j a e f =
    get_right p.items (joined (q ∷ ps)) (n - 1024) n (omega (arith, a.0))
    ∙ get_joined (q ∷ ps) (n - 1024) i j a.1 (omega arith) (omega arith)

-- an entry changed

set_left : {T : Type 0} (xs ys : List T) (n : ℕ) (x : T) → n < length xs → set (xs ++ ys) n x ≡ set xs n x ++ ys
set_left [] ys n x h = absurd (omega arith)
set_left (y ∷ xs) ys zero x h = refl
set_left (y ∷ xs) ys (suc n) x h = ap (λ zs. y ∷ zs) (set_left xs ys n x (omega arith))

set_right : {T : Type 0} (xs ys : List T) (m n : ℕ) (x : T) → n ≡ length xs + m → set (xs ++ ys) n x ≡ xs ++ set ys m x
set_right [] ys m n x e = ap (λ k. set ys k x) (omega arith)
set_right (y ∷ xs) ys m zero x e = absurd (omega arith)
set_right (y ∷ xs) ys m (suc n) x e = ap (λ zs. y ∷ zs) (set_right xs ys m n x (omega arith))

-- the page and the place on it are there
pub place_within : {T : Type 0} (ps : List (Vec T Global)) (n i j : ℕ) (q : Vec T Global) → ArePages ps → n < length (joined ps)
    → i ≡ n / 1024 → j ≡ n % 1024
    → (i < length ps) × (q ≡ get_or ps i q → j < length q.items)
place_within [] n i j q a h e f = absurd (omega arith)
place_within (p ∷ []) n zero j q a h e f = (omega arith, λ g. omega (arith, length-append p.items [], ap (λ v. length v.items) g))
place_within (p ∷ []) n (suc i) j q a h e f = absurd (omega (arith, length-append p.items [], a.0))
place_within (p ∷ p2 ∷ ps) n zero j q a h e f = (omega arith, λ g. omega (arith, a.0, ap (λ v. length v.items) g))
place_within (p ∷ p2 ∷ ps) n (suc i) j q a h e f =
    let l = length-append p.items (joined (p2 ∷ ps)) in
    let r = place_within (p2 ∷ ps) (n - 1024) i j q a.1 (omega (arith, l, a.0)) (omega arith) (omega arith) in
    (omega (arith, r.0), r.1)

pub page_within : {T : Type 0} (ps : List (Vec T Global)) (n i : ℕ) → ArePages ps → n < length (joined ps) → i ≡ n / 1024 → i < length ps
page_within [] n i a h e = absurd (omega arith)
page_within (p ∷ []) n zero a h e = omega arith
page_within (p ∷ []) n (suc i) a h e = absurd (omega (arith, length-append p.items [], a.0))
page_within (p ∷ p2 ∷ ps) n zero a h e = omega arith
page_within (p ∷ p2 ∷ ps) n (suc i) a h e =
    let r = page_within (p2 ∷ ps) (n - 1024) i a.1 (omega (arith, length-append p.items (joined (p2 ∷ ps)), a.0)) (omega arith) in
    omega arith

pub set_joined : {T : Type 0} (ps : List (Vec T Global)) (n i j : ℕ) (q r : Vec T Global) (x : T) → ArePages ps → n < length (joined ps)
    → i ≡ n / 1024 → j ≡ n % 1024
    → q ≡ get_or ps i q → r.items ≡ set q.items j x → joined (set ps i r) ≡ set (joined ps) n x
set_joined [] n i j q r x a h e f g k = absurd (omega arith)
set_joined (p ∷ []) n zero j q r x a h e f g k =
    ap (λ xs. xs ++ []) (k ∙ ap (λ v. set v.items j x) g ∙ ap (λ m. set p.items m x) (omega arith))
    ∙ sym (set_left p.items [] n x (omega (arith, length-append p.items [])))
set_joined (p ∷ []) n (suc i) j q r x a h e f g k = absurd (omega (arith, length-append p.items [], a.0))
set_joined (p ∷ p2 ∷ ps) n zero j q r x a h e f g k =
    ap (λ xs. xs ++ joined (p2 ∷ ps)) (k ∙ ap (λ v. set v.items j x) g ∙ ap (λ m. set p.items m x) (omega arith))
    ∙ sym (set_left p.items (joined (p2 ∷ ps)) n x (omega (arith, a.0)))
set_joined (p ∷ p2 ∷ ps) n (suc i) j q r x a h e f g k =
    let l = length-append p.items (joined (p2 ∷ ps)) in
    ap (λ xs. p.items ++ xs)
    (set_joined (p2 ∷ ps) (n - 1024) i j q r x a.1 (omega (arith, l, a.0)) (omega arith) (omega arith) g k)
    ∙ sym (set_right p.items (joined (p2 ∷ ps)) (n - 1024) n x (omega (arith, a.0)))

pub pages_set_at : {T : Type 0} (ps : List (Vec T Global)) (i : ℕ) (q r : Vec T Global) → ArePages ps → i < length ps → q ≡ get_or ps i q
    → length r.items ≡ length q.items → vec_capacity r ≡ vec_capacity q → ArePages (set ps i r)
pages_set_at [] i q r a h g k c = absurd (omega arith)
pages_set_at (p ∷ []) zero q r a h g k c = (
  (
    omega (arith, a.0, ap (λ v. length v.items) g),
    omega (arith, a.0, ap (λ v. length v.items) g),
    c ∙ ap (λ v. vec_capacity v) g
        ∙ a.0.2,
  ),
  tt,
)
pages_set_at (p ∷ []) (suc i) q r a h g k c = absurd (omega arith)
pages_set_at (p ∷ p2 ∷ ps) zero q r a h g k c = (k ∙ ap (λ v. length v.items) g ∙ a.0, a.1)
pages_set_at (p ∷ p2 ∷ []) (suc zero) q r a h g k c = (a.0, pages_set_at (p2 ∷ []) zero q r a.1 (omega arith) g k c)
pages_set_at (p ∷ p2 ∷ []) (suc (suc i)) q r a h g k c = absurd (omega arith)
pages_set_at (p ∷ p2 ∷ p3 ∷ ps) (suc zero) q r a h g k c = (a.0, pages_set_at (p2 ∷ p3 ∷ ps) zero q r a.1 (omega arith) g k c)
pages_set_at (p ∷ p2 ∷ p3 ∷ ps) (suc (suc i)) q r a h g k c = (a.0, pages_set_at (p2 ∷ p3 ∷ ps) (suc i) q r a.1 (omega arith) g k c)
