-- What is known of numbers by first printing.
use Rattle.std.proofs.Common.{arith, ◌≡◌, ◌∙◌, refl, sym, ap, ℕ, suc, ◌+◌, ◌<◌, ◌≤◌, Bool, true, false, not, ◌||◌, cond, eqb-true}
use Rattle.std.proofs.Common.{List, [], ◌∷◌, ◌++◌, length, length-append, get_or, set, Option, None, Some, is_some, if◌then◌else◌}
use Rattle.std.specs.Prelude.{nat_eq, nat_lt}
use Rattle.std.specs.List.{list_any, position, position_or_len}
use Rattle.std.proofs.lemmas.Grind.{common_steps}
use Rattle.std.proofs.lemmas.List.Folds.{position_or_len_push}
use Rattle.std.proofs.lemmas.Option.{cond_some, none-some}
use Rattle.indexmap.specs.IndexSet.{insert_key}
use Rattle.lower_listing.specs.Numbering.{Placed}

-- the first place at which a test passes

module _ {X : Type 0} (p : X → Bool) where
  any_is : (xs : List X) → list_any p xs ≡ nat_lt (position_or_len p xs) (length xs)
  any_is [] = refl
  any_is (x ∷ xs) = by (p x) (any_is xs)
    where
      by : (b : Bool) → list_any p xs ≡ nat_lt (position_or_len p xs) (length xs)
          → (b || list_any p xs) ≡ nat_lt (cond (not b) (1 + position_or_len p xs) 0) (suc (length xs))
      by true rest = grind arith
      by false rest = grind (arith, rest)

  at_most : (xs : List X) → position_or_len p xs ≤ length xs
  at_most [] = omega arith
  at_most (x ∷ xs) = by (p x) (at_most xs)
    where
      by : (b : Bool) → position_or_len p xs ≤ length xs → cond (not b) (1 + position_or_len p xs) 0 ≤ suc (length xs)
      by true rest = omega arith
      by false rest = omega (arith, rest)

  pub found : (xs : List X) (k : ℕ) → position p xs ≡ Some k → (position_or_len p xs ≡ k) × (list_any p xs ≡ true)
  found xs k h =
      let parts = cond_some (nat_lt (position_or_len p xs) (length xs)) (position_or_len p xs) k h in
      (parts.1, any_is xs ∙ parts.0)

  pub missing : (xs : List X) → position p xs ≡ None → (position_or_len p xs ≡ length xs) × (list_any p xs ≡ false)
  missing xs h = by (nat_lt (position_or_len p xs) (length xs)) refl h
    where
      by : (b : Bool) → nat_lt (position_or_len p xs) (length xs) ≡ b → cond b (Some (position_or_len p xs)) None ≡ None
          → (position_or_len p xs ≡ length xs) × (list_any p xs ≡ false)
      by true e g = absurd (none-some (position_or_len p xs) (sym g))
      by false e g = (grind (arith, at_most xs, e), any_is xs ∙ e)

  pub emitted : (xs : List X) → is_some (position p xs) ≡ list_any p xs
  emitted xs = by (nat_lt (position_or_len p xs) (length xs)) ∙ sym (any_is xs)
    where
      by : (b : Bool) → is_some (cond b (Some (position_or_len p xs)) None) ≡ b
      by true = refl
      by false = refl

-- one item more

step : (len n : ℕ) (b : Bool) → n ≤ len → (b ≡ true → n ≡ len)
    → cond (nat_lt (cond (nat_eq n len) (len + cond b 0 1) n) (len + 1)) (Some (cond (nat_eq n len) (len + cond b 0 1) n)) None
    ≡ cond b (Some len) (cond (nat_lt n len) (Some n) None)
step len n true within last = let e = last refl in grind (arith, e)
step len n false within last = by (nat_eq n len) refl
  where
    by : (b : Bool) → nat_eq n len ≡ b
        → cond (nat_lt (cond b (len + 1) n) (len + 1)) (Some (cond b (len + 1) n)) None ≡ cond (nat_lt n len) (Some n) None
    by true e = grind (arith, e)
    by false e = grind (arith, e, within)

pushed : (xs : List ℕ) (item x : ℕ) → position (nat_eq item) xs ≡ None
    → position (nat_eq x) (xs ++ item ∷ []) ≡ cond (nat_eq x item) (Some (length xs)) (position (nat_eq x) xs)
pushed xs item x new =
    ap (λ n. cond (nat_lt n (length (xs ++ item ∷ []))) (Some n) None) (position_or_len_push (nat_eq x) xs item)
    ∙ (ap (λ l. cond (nat_lt there l) (Some there) None) (length-append xs (item ∷ []))
    ∙ step (length xs) (position_or_len (nat_eq x) xs) (nat_eq x item) (at_most (nat_eq x) xs) last)
  where
    there : ℕ
    there = cond (nat_eq (position_or_len (nat_eq x) xs) (length xs)) (length xs + cond (nat_eq x item) 0 1) (position_or_len (nat_eq x) xs)

    last : nat_eq x item ≡ true → position_or_len (nat_eq x) xs ≡ length xs
    last same = ap (λ y. position_or_len (nat_eq y) xs) (eqb-true x item same) ∙ (missing (nat_eq item) xs new).0

-- where it is noted where a new item stands, this holds of all
pub placed_more : (xs : List ℕ) (places now : List (Option ℕ)) (item : ℕ) → Placed xs places → position (nat_eq item) xs ≡ None
    → ((x : ℕ) → get_or now x None ≡ cond (nat_eq x item) (Some (length xs)) (get_or places x None))
    → Placed (xs ++ item ∷ []) now
placed_more xs places now item placed new tracked x =
    tracked x ∙ (ap (λ o. cond (nat_eq x item) (Some (length xs)) o) (placed x) ∙ sym (pushed xs item x new))

-- what is in the set already, and what isn't

pub stays : (xs : List ℕ) (item k : ℕ) → position (nat_eq item) xs ≡ Some k → xs ≡ insert_key nat_eq xs item
stays xs item k h = sym (ap (λ b. if b then xs else xs ++ item ∷ []) (found (nat_eq item) xs k h).1)

pub comes : (xs : List ℕ) (item : ℕ) → position (nat_eq item) xs ≡ None → xs ++ item ∷ [] ≡ insert_key nat_eq xs item
comes xs item h = sym (ap (λ b. if b then xs else xs ++ item ∷ []) (missing (nat_eq item) xs h).1)

-- what is noted of each number

-- a longer list, with nothing in what is new
pub reaches : (old new : List (Option ℕ)) (n : ℕ) → length new ≡ n → length old ≤ n
    → ((k : ℕ) (d : Option ℕ) → k < n → k < length old → get_or new k d ≡ get_or old k d)
    → ((k : ℕ) (d : Option ℕ) → length old ≤ k → k < n → get_or new k d ≡ None)
    → (x : ℕ) → get_or new x None ≡ get_or old x None
reaches old new n long longer kept fresh x = by (nat_lt x (length old)) refl (nat_lt x n) refl
  where
    by : (b : Bool) → nat_lt x (length old) ≡ b → (c : Bool) → nat_lt x n ≡ c → get_or new x None ≡ get_or old x None
    by true e c f = kept x None (grind (arith, e, longer)) (grind (arith, e))
    by false e true f = fresh x None (grind (arith, e)) (grind (arith, f)) ∙ sym (grind (arith, common_steps, e))
    by false e false f = grind (arith, common_steps, e, f, long)

pub tracked_at : (old : List (Option ℕ)) (item x : ℕ) (o : Option ℕ) → item < length old
    → get_or (set old item o) x None ≡ cond (nat_eq x item) o (get_or old x None)
tracked_at old item x o within = by (nat_eq x item) refl
  where
    by : (b : Bool) → nat_eq x item ≡ b → get_or (set old item o) x None ≡ cond b o (get_or old x None)
    by true e = grind (arith, common_steps, e, within)
    by false e = grind (arith, common_steps, e, within)
