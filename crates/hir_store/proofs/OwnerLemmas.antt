-- What owns bindings, and those that nothing owns yet.
use Rattle.std.proofs.Common.{arith, ℕ, zero, suc, ◌≡◌, ◌≤◌, ◌<◌, ◌+◌, ◌-◌, ◌∙◌, ap, refl, subst, sym}
use Rattle.std.proofs.Common.{List, [], ◌∷◌, ◌++◌, length, length-append, take, Option, Some, None}
use Rattle.std.specs.Prelude.{map, slice_get, slice_set}
use Rattle.std.proofs.lemmas.List.{map_push}
use Rattle.std.proofs.lemmas.Option.{none-some, same_Some, slice_get-get_or, slice_get_within}
use Rattle.hir_store.specs.Arenas.{past, past_option}
use Rattle.hir_store.specs.Bindings.{StayOwned, own_from, owned_else, owner_at, unowned_from}
use Rattle.hir_store.specs.Range.{past_expr}
use Rattle.hir_store.specs.declared.ids.BindingId.{BindingId}
use Rattle.hir_store.specs.declared.ids.ExprId.{ExprId}

-- what stays

pub stay_refl : (os : List (Option ExprId)) → StayOwned os os
stay_refl [] = tt
stay_refl (None ∷ os) = stay_refl os
stay_refl (Some id ∷ os) = (refl, stay_refl os)

pub stay_trans : (os ps qs : List (Option ExprId)) → StayOwned os ps → StayOwned ps qs → StayOwned os qs
stay_trans [] ps qs g h = tt
stay_trans (o ∷ os) [] qs g h = absurd g
stay_trans (o ∷ os) (p ∷ ps) [] g h = absurd h
stay_trans (None ∷ os) (None ∷ ps) (q ∷ qs) g h = stay_trans os ps qs g h
stay_trans (None ∷ os) (Some p ∷ ps) (q ∷ qs) g h = stay_trans os ps qs g h.1
stay_trans (Some id ∷ os) (None ∷ ps) (q ∷ qs) g h = absurd (none-some id g.0)
stay_trans (Some id ∷ os) (Some p ∷ ps) (q ∷ qs) g h = (h.0 ∙ g.0, stay_trans os ps qs g.1 h.1)

pub stay_more : (os : List (Option ExprId)) (o : Option ExprId) → StayOwned os (os ++ o ∷ [])
stay_more [] o = tt
stay_more (None ∷ os) o = stay_more os o
stay_more (Some id ∷ os) o = (refl, stay_more os o)

pub stay_owned : (n : ℕ) (id : ExprId) (os : List (Option ExprId)) → StayOwned os (own_from n id os)
stay_owned n id [] = tt
stay_owned zero id (None ∷ os) = stay_owned zero id os
stay_owned zero id (Some owner ∷ os) = (refl, stay_owned zero id os)
stay_owned (suc n) id (None ∷ os) = stay_owned n id os
stay_owned (suc n) id (Some owner ∷ os) = (refl, stay_owned n id os)

pub length_owned : (n : ℕ) (id : ExprId) (os : List (Option ExprId)) → length (own_from n id os) ≡ length os
length_owned n id [] = refl
length_owned zero id (o ∷ os) = ap suc (length_owned zero id os)
length_owned (suc n) id (o ∷ os) = ap suc (length_owned n id os)

-- range

past_else : (id : ExprId) (o : Option ExprId) (m : ℕ) → past_option past_expr o ≤ m → suc id.0 ≤ m
    → past_option past_expr (owned_else id o) ≤ m
past_else id None m h k = k
past_else id (Some owner) m h k = h

pub past_owned : (n : ℕ) (id : ExprId) (os : List (Option ExprId)) (m : ℕ) → past (past_option past_expr) os ≤ m → suc id.0 ≤ m
    → past (past_option past_expr) (own_from n id os) ≤ m
past_owned n id [] m h k = h
past_owned zero id (o ∷ os) m h k =
    let first = past_else id o m (omega (arith, h)) k in
    let others = past_owned zero id os m (omega (arith, h)) k in
    omega (arith, first, others)
past_owned (suc n) id (o ∷ os) m h k = let others = past_owned n id os m (omega (arith, h)) k in omega (arith, h, others)

-- what is read

pub owner_read : (os : List (Option ExprId)) (n : ℕ) (o : Option ExprId) → slice_get os n ≡ Some o → owner_at os n ≡ o
owner_read [] n o h = absurd (none-some o h)
owner_read (p ∷ os) zero o h = same_Some p o h
owner_read (p ∷ os) (suc n) o h = owner_read os n o h

pub owner_missing : (os : List (Option ExprId)) (n : ℕ) → slice_get os n ≡ None → owner_at os n ≡ None
owner_missing [] n h = refl
owner_missing (o ∷ os) zero h = absurd (none-some o (sym h))
owner_missing (o ∷ os) (suc n) h = owner_missing os n h

-- the last that nothing owns

-- where nothing is left that nothing owns, all stays as it is
pub all_owned : (k n : ℕ) (id : ExprId) (os : List (Option ExprId)) → unowned_from k os ≡ [] → own_from n id os ≡ os
all_owned k n id [] h = refl
all_owned k n id (None ∷ os) h = cc
all_owned k zero id (Some owner ∷ os) h = ap (λ ps. Some owner ∷ ps) (all_owned (suc k) zero id os h)
all_owned k (suc n) id (Some owner ∷ os) h = ap (λ ps. Some owner ∷ ps) (all_owned (suc k) n id os h)

-- This place is the last that nothing owns: `ms` are those before it.
pub record LastAt (k : ℕ) (id : ExprId) (os : List (Option ExprId)) (ms : List ℕ) (place : ℕ) : Type 0 where
  pub below : place < length os
  pub others : unowned_from k (slice_set os place (Some id)) ≡ ms
  pub same : (n : ℕ) → n ≤ place → own_from n id (slice_set os place (Some id)) ≡ own_from n id os
  pub behind : (n : ℕ) → place < n → own_from n id os ≡ os

at_first : (k : ℕ) (id : ExprId) (os : List (Option ExprId)) → unowned_from (suc k) os ≡ [] → LastAt k id (None ∷ os) [] 0
at_first k id os none = record { below = omega arith; others = none; same = same; behind = behind }
  where
    same : (n : ℕ) → n ≤ 0 → own_from n id (Some id ∷ os) ≡ own_from n id (None ∷ os)
    same zero h = refl
    same (suc n) h = absurd (omega (arith, h))

    behind : (n : ℕ) → 0 < n → own_from n id (None ∷ os) ≡ None ∷ os
    behind zero h = absurd (omega (arith, h))
    behind (suc n) h = ap (λ ps. None ∷ ps) (all_owned (suc k) n id os none)

at_further : (k : ℕ) (id : ExprId) (o : Option ExprId) (os : List (Option ExprId)) (ms ls : List ℕ) (place : ℕ)
    → LastAt (suc k) id os ms place → unowned_from k (o ∷ slice_set os place (Some id)) ≡ ls → LastAt k id (o ∷ os) ls (suc place)
at_further k id o os ms ls place r others =
    let below = r.below in record { below = omega (arith, below); others = others; same = same; behind = behind }
  where
    same : (n : ℕ) → n ≤ suc place → own_from n id (o ∷ slice_set os place (Some id)) ≡ own_from n id (o ∷ os)
    same zero h = ap (λ ps. owned_else id o ∷ ps) (r.same zero (omega arith))
    same (suc n) h = ap (λ ps. o ∷ ps) (r.same n (omega (arith, h)))

    behind : (n : ℕ) → suc place < n → own_from n id (o ∷ os) ≡ o ∷ os
    behind zero h = absurd (omega (arith, h))
    behind (suc n) h = ap (λ ps. o ∷ ps) (r.behind n (omega (arith, h)))

last_from : (k : ℕ) (id : ExprId) (os : List (Option ExprId)) (ms : List ℕ) (m : ℕ) → unowned_from k os ≡ ms ++ m ∷ []
    → (place : ℕ) × (m ≡ k + place) × LastAt k id os ms place
last_from k id [] [] m h = cc
last_from k id [] (l ∷ ms) m h = cc
last_from k id (None ∷ os) [] m h =
    let is : k ≡ m = cc in
    let none : unowned_from (suc k) os ≡ [] = cc in
    (0, omega (arith, is), at_first k id os none)
last_from k id (None ∷ os) (l ∷ ms) m h =
    let is : k ≡ l = cc in
    let more : unowned_from (suc k) os ≡ ms ++ m ∷ [] = cc in
    let r = last_from (suc k) id os ms m more in
    let e = r.1 in (
      suc r.0,
      omega (arith, e),
      at_further k id None os ms (l ∷ ms) r.0 r.2 (ap (λ js. k ∷ js) r.2.others ∙ ap (λ j. j ∷ ms) is),
    )
last_from k id (Some owner ∷ os) ms m h =
    let r = last_from (suc k) id os ms m h in
    let e = r.1 in
    (suc r.0, omega (arith, e), at_further k id (Some owner) os ms ms r.0 r.2 r.2.others)

pub last_unowned : (id : ExprId) (os : List (Option ExprId)) (ms : List ℕ) (m : ℕ) → unowned_from 0 os ≡ ms ++ m ∷ []
    → LastAt 0 id os ms m
last_unowned id os ms m h =
    let r = last_from 0 id os ms m h in
    let e = r.1 in
    subst (λ n. LastAt 0 id os ms n) (omega (arith, e)) r.2

-- the same of their numbers

-- a list that isn't empty by its last
pub split_last : {A : Type 0} (xs : List A) (n : ℕ) (x : A) → length xs ≡ suc n → slice_get xs n ≡ Some x → xs ≡ take n xs ++ x ∷ []
split_last [] n x l h = absurd (none-some x h)
split_last (y ∷ []) zero x l h = ap (λ z. z ∷ []) (same_Some y x h)
split_last (y ∷ (z ∷ xs)) zero x l h = absurd (omega (arith, l))
split_last (y ∷ xs) (suc n) x l h = ap (λ ys. y ∷ ys) (split_last xs n x (omega (arith, l)) h)

pub none_left : {A : Type 0} (xs : List A) → slice_get xs (length xs - 1) ≡ None → xs ≡ []
none_left [] h = refl
none_left (x ∷ xs) h =
    let l : length (x ∷ xs) ≡ suc (length xs) = refl in
    absurd (none-some _ (sym h ∙ slice_get-get_or (x ∷ xs) (length (x ∷ xs) - 1) x (omega (arith, l))))

abbrev pub number : BindingId → ℕ
number b = b.0

-- one more that nothing owns
pub one_unowned : (k : ℕ) (os : List (Option ExprId)) → unowned_from k (os ++ None ∷ []) ≡ unowned_from k os ++ (k + length os) ∷ []
one_unowned k [] = ap (λ n. n ∷ []) (omega arith)
one_unowned k (None ∷ os) = ap (λ ns. k ∷ ns)
    (one_unowned (suc k) os ∙ ap (λ n. unowned_from (suc k) os ++ n ∷ []) (omega arith))
one_unowned k (Some owner ∷ os) = one_unowned (suc k) os ∙ ap (λ n. unowned_from (suc k) os ++ n ∷ []) (omega arith)

pub numbered : (os : List (Option ExprId)) (xs : List BindingId) (b : BindingId) → map number xs ≡ unowned_from 0 os
    → b.0 ≡ length os → map number (xs ++ b ∷ []) ≡ unowned_from 0 (os ++ None ∷ [])
numbered os xs b kept is =
    let e : b.0 ≡ 0 + length os = omega (arith, is) in
    map_push number xs b ∙ (ap (λ ns. ns ++ b.0 ∷ []) kept ∙ (ap (λ n. unowned_from 0 os ++ n ∷ []) e ∙ sym (one_unowned 0 os)))

module _ (id : ExprId) (os : List (Option ExprId)) (xs : List BindingId) (kept : map number xs ≡ unowned_from 0 os) where
  -- nothing is left that nothing owns
  pub nothing_left : (n : ℕ) → slice_get xs (length xs - 1) ≡ None → own_from n id os ≡ os
  nothing_left n is = all_owned 0 n id os (sym kept ∙ ap (map number) (none_left xs is))

  module _ (last : BindingId) (is : slice_get xs (length xs - 1) ≡ Some last) where
    split : xs ≡ take (length xs - 1) xs ++ last ∷ []
    split = let within = slice_get_within xs (length xs - 1) last is in split_last xs (length xs - 1) last (omega (arith, within)) is

    numbers : unowned_from 0 os ≡ map number (take (length xs - 1) xs) ++ last.0 ∷ []
    numbers = sym kept ∙ (ap (map number) split ∙ map_push number (take (length xs - 1) xs) last)

    pub found : LastAt 0 id os (map number (take (length xs - 1) xs)) last.0
    found = last_unowned id os (map number (take (length xs - 1) xs)) last.0 numbers

    -- once it is owned there is one less
    pub fewer : length (unowned_from 0 (slice_set os last.0 (Some id))) < length (unowned_from 0 os)
    fewer =
        let was = ap length numbers ∙ length-append (map number (take (length xs - 1) xs)) (last.0 ∷ []) in
        let is = ap length found.others in
        omega (arith, was, is)
