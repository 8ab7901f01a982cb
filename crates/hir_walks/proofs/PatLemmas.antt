-- Patterns are handed on one after another, and no more than there is room for.
use Rattle.std.proofs.Common.{arith, ◌≡◌, ◌∙◌, refl, sym, ap, ◌≤◌, ◌-◌, ℕ, zero, suc, List, [], ◌∷◌, ◌++◌}
use Rattle.std.proofs.Common.{Some, None, length, take, slice_get}
use Rattle.std.proofs.lemmas.List.{append_assoc, append-nil, length-append}
use Rattle.std.specs.List.{flat_map}
use Rattle.hir_store.specs.declared.ids.PatId.{PatId}
use Rattle.hir_store.specs.declared.pat.Pat.{Pat}
use Rattle.hir_store.specs.Stored.{Store}
use Rattle.hir_walks.specs.Pats.{pat_children, pats_to, taken, with_parts}

pub none_behind : (ids : List PatId) → ids ++ [] ≡ ids
none_behind = append-nil

pub taken_none : {V A : Type 0} (f : V → A → V) (xs : List A) (v : V) → taken f (take 0 xs) v ≡ v
taken_none f [] v = refl
taken_none f (x ∷ xs) v = refl

same_room : {V A : Type 0} (f : V → A → V) (n m : ℕ) (xs : List A) (v : V) → n ≡ m → taken f (take n xs) v ≡ taken f (take m xs) v
same_room f n m xs v same = ap (λ k. taken f (take k xs) v) same

-- of two lists, one behind the other, there is room for less of the second
pub taken_some : {V A : Type 0} (f : V → A → V) (n m : ℕ) (xs ys : List A) (v : V) → m ≡ n - length xs
    → taken f (take n (xs ++ ys)) v ≡ taken f (take m ys) (taken f (take n xs) v)
taken_some f zero m [] ys v left = same_room f zero m ys v (omega (arith, left))
taken_some f (suc n) m [] ys v left = same_room f (suc n) m ys v (omega (arith, left))
taken_some f zero m (x ∷ xs) ys v left = sym (taken_none f ys v) ∙ same_room f zero m ys v (omega (arith, left))
taken_some f (suc n) m (x ∷ xs) ys v left = taken_some f n m xs ys (f v x) (omega (arith, left))

pub part_walked : {V A B : Type 0} (f : V → B → V) (g : A → List B) (j : A) (js : List A) (n m : ℕ) (v w : V)
    → w ≡ taken f (take n (g j)) v → m ≡ n - length (g j)
    → taken f (take n (flat_map g (j ∷ js))) v ≡ taken f (take m (flat_map g js)) w
part_walked f g j js n m v w is left =
    taken_some f n m (g j) (flat_map g js) v left ∙ ap (taken f (take m (flat_map g js))) (sym is)

pub part_counted : {A B : Type 0} (g : A → List B) (j : A) (js : List A) (n m : ℕ)
    → m ≡ n - length (g j) → n - length (flat_map g (j ∷ js)) ≡ m - length (flat_map g js)
part_counted g j js n m left = omega (arith, left, length-append (g j) (flat_map g js))

-- a pattern that isn't there
pub none_walked : {V : Type 0} (f : V → PatId → V) (store : Store) (i : PatId) (n : ℕ) (v : V) → slice_get store.pats i.0 ≡ None
    → (d : ℕ) → n ≤ d → v ≡ taken f (take n (pats_to store d i)) v
unfolding pats_to
none_walked f store i zero v none zero less = refl
none_walked f store i (suc n) v none zero less = refl
none_walked f store i zero v none (suc d) less = ap (λ o. taken f (take zero (with_parts store i (pats_to store d) o)) v) (sym none)
none_walked f store i (suc n) v none (suc d) less = ap (λ o. taken f (take (suc n) (with_parts store i (pats_to store d) o)) v) (sym none)

pub none_counted : (store : Store) (i : PatId) (n : ℕ) → slice_get store.pats i.0 ≡ None
    → (d : ℕ) → n ≤ d → n ≡ n - length (pats_to store d i)
unfolding pats_to
none_counted store i n none zero less = omega (arith)
none_counted store i n none (suc d) less = omega (arith, ap (λ o. length (with_parts store i (pats_to store d) o)) none)

-- a pattern whose parts were walked
pub all_walked : {V : Type 0} (f : V → PatId → V) (store : Store) (i : PatId) (p : Pat) (parts : List PatId) (n m : ℕ) (v first w : V)
    → slice_get store.pats i.0 ≡ Some p → parts ≡ pat_children p → first ≡ f v i → n ≡ suc m
    → ((d : ℕ) → n ≤ suc d → taken f (take m (flat_map (pats_to store d) parts)) first ≡ w)
    → (d : ℕ) → n ≤ d → w ≡ taken f (take n (pats_to store d i)) v
unfolding pats_to
all_walked f store i p parts n m v first w is are begun room walked zero less = absurd (omega (arith, less, room))
all_walked f store i p parts n m v first w is are begun room walked (suc d) less =
    sym (walked d less)
    ∙ (ap (λ ps. taken f (take m (flat_map (pats_to store d) ps)) first) are
    ∙ (ap (λ u. taken f (take m (flat_map (pats_to store d) (pat_children p))) u) begun
    ∙ (ap (λ o. taken f (take (suc m) (with_parts store i (pats_to store d) o)) v) (sym is)
    ∙ ap (λ k. taken f (take k (pats_to store (suc d) i)) v) (sym room))))

pub all_counted : (store : Store) (i : PatId) (p : Pat) (parts : List PatId) (n m left : ℕ)
    → slice_get store.pats i.0 ≡ Some p → parts ≡ pat_children p → n ≡ suc m
    → ((d : ℕ) → n ≤ suc d → m - length (flat_map (pats_to store d) parts) ≡ left)
    → (d : ℕ) → n ≤ d → left ≡ n - length (pats_to store d i)
unfolding pats_to
all_counted store i p parts n m left is are room counted zero less = absurd (omega (arith, less, room))
all_counted store i p parts n m left is are room counted (suc d) less =
    let fm = flat_map (pats_to store d) in
    omega (arith, room, counted d less, ap (λ ps. length (fm ps)) are, ap (λ o. length (with_parts store i (pats_to store d) o)) is)

-- where no room is left, and where no part is
pub full_walked : {V A B : Type 0} (f : V → B → V) (g : A → List B) (js : List A) (n : ℕ) (v : V) → n ≡ 0
    → taken f (take n (flat_map g js)) v ≡ v
full_walked f g js n v full = ap (λ k. taken f (take k (flat_map g js)) v) full ∙ taken_none f (flat_map g js) v

pub end_walked : {V A B : Type 0} (f : V → B → V) (g : A → List B) (js : List A) (n : ℕ) (v : V) → js ≡ []
    → taken f (take n (flat_map g js)) v ≡ v
end_walked f g js zero v end = ap (λ ks. taken f (take zero (flat_map g ks)) v) end
end_walked f g js (suc n) v end = ap (λ ks. taken f (take (suc n) (flat_map g ks)) v) end

pub end_counted : {A B : Type 0} (g : A → List B) (js : List A) (n : ℕ) → js ≡ [] → n - length (flat_map g js) ≡ n
end_counted g js n end = omega (arith, ap (λ ks. length (flat_map g ks)) end)

pub full_counted : {A B : Type 0} (g : A → List B) (js : List A) (n : ℕ) → n ≡ 0 → n - length (flat_map g js) ≡ 0
full_counted g js n full = omega (arith, full)

-- the next part of those that are left
pub next_walked : {V A B : Type 0} (f : V → B → V) (g : A → List B) (all : List A) (j : A) (js : List A) (n m : ℕ) (v w : V) → all ≡ j ∷ js
    → w ≡ taken f (take n (g j)) v → m ≡ n - length (g j)
    → taken f (take n (flat_map g all)) v ≡ taken f (take m (flat_map g js)) w
next_walked f g all j js n m v w is walked left =
    ap (λ ks. taken f (take n (flat_map g ks)) v) is ∙ part_walked f g j js n m v w walked left

pub next_counted : {A B : Type 0} (g : A → List B) (all : List A) (j : A) (js : List A) (n m : ℕ) → all ≡ j ∷ js
    → m ≡ n - length (g j) → n - length (flat_map g all) ≡ m - length (flat_map g js)
next_counted g all j js n m is left = ap (λ ks. n - length (flat_map g ks)) is ∙ part_counted g j js n m left

pub taken_append : {V A : Type 0} (f : V → A → V) (xs ys : List A) (v : V) → taken f (xs ++ ys) v ≡ taken f ys (taken f xs v)
taken_append f [] ys v = refl
taken_append f (x ∷ xs) ys v = taken_append f xs ys (f v x)

-- What hands on several of each one, within a value that keeps its other parts: `put u v` is `u` with `v` for what takes them.
module _ {U V A B : Type 0} (get : U → V) (put : U → V → U) (f : V → B → V) (g : A → List B) (step : U → A → U) where
  taken_put : (xs : List A) (u : U) (v : V) → ((w : V) (x : A) → step (put u w) x ≡ put u (taken f (g x) w))
      → taken step xs (put u v) ≡ put u (taken f (flat_map g xs) v)
  taken_put [] u v steps = refl
  taken_put (x ∷ xs) u v steps =
      ap (taken step xs) (steps v x)
      ∙ (taken_put xs u (taken f (g x) v) steps ∙ ap (put u) (sym (taken_append f (g x) (flat_map g xs) v)))

  pub taken_within : (xs : List A) (u : U) → u ≡ put u (get u) → ((w : V) (x : A) → step (put u w) x ≡ put u (taken f (g x) w))
      → taken step xs u ≡ put u (taken f (flat_map g xs) (get u))
  taken_within xs u same steps = ap (taken step xs) same ∙ taken_put xs u (get u) steps

-- what takes each to the end of a list
pub taken_to_end : {U A : Type 0} (get : U → List A) (step : U → A → U) → ((u : U) (x : A) → get (step u x) ≡ get u ++ x ∷ [])
    → (xs : List A) (u : U) → get (taken step xs u) ≡ get u ++ xs
taken_to_end get step steps [] u = sym (append-nil (get u))
taken_to_end get step steps (x ∷ xs) u =
    taken_to_end get step steps xs (step u x) ∙ (ap (λ ys. ys ++ xs) (steps u x) ∙ append_assoc (get u) (x ∷ []) xs)
