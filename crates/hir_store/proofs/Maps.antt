-- Where nodes lead once one more does.
use Rattle.std.proofs.Common.{arith, ◌≡◌, ◌∙◌, refl, sym, ap, subst, ℕ, suc, length, List, [], ◌∷◌, ◌++◌}
use Rattle.std.proofs.Common.{Bool, true, false, ◌&&◌, if◌then◌else◌, nat_eq, Option, Some, None, is_some}
use Rattle.std.proofs.Common.{◌⊎◌, inl, inr, ⊎_elim, true≢false}
use Rattle.std.specs.Prelude.{zero, slice_get}
use Rattle.std.proofs.lemmas.Bool.{eqb-true, eq-eqb}
use Rattle.std.proofs.lemmas.Option.{slice_get_within, same_Some}
use Rattle.std.specs.Cmp.Derive.{both_true}
use Rattle.indexmap.specs.IndexMap.{insert_entry}
use Rattle.hir_store.specs.Pointers.{Pointer, same_pointer, value_at}
use Rattle.hir_store.specs.Arenas.{Sourced, Leads, MapsBack, none_yet, with_entry}

both : (a b : Bool) → (a && b) ≡ true → (a ≡ true) × (b ≡ true)
both true b h = (refl, h)
both false b h = absurd (true≢false (sym h))

pub pointer_is : (p q : Pointer) → same_pointer p q ≡ true → p ≡ q
pointer_is p q h =
    let one = both _ _ h in
    let two = both _ _ one.1 in
    let three = both _ _ two.1 in
    let file = eqb-true p.file_id.0 q.file_id.0 one.0 in
    let node = eqb-true p.value.node.0 q.value.node.0 two.0 in
    let start = eqb-true p.value.range.start q.value.range.start three.0 in
    let end = eqb-true p.value.range.end q.value.range.end three.1 in
    λ j. record {
      file_id = record { 0 = file j };
      value = record { node = record { 0 = node j }; range = record { start = start j; end = end j } };
    }

pub same_self : (p : Pointer) → same_pointer p p ≡ true
same_self p =
    let self : (n : ℕ) → nat_eq n n ≡ true = λ n. eq-eqb n n refl in
    both_true (self p.file_id.0) (both_true (self p.value.node.0) (both_true (self p.value.range.start) (self p.value.range.end)))

module _ {T : Type 0} (p : Pointer) (t : T) where
  abbrev pub entered : List (Pointer × T) → List (Pointer × T)
  entered es = insert_entry same_pointer es p t

  pub found_new : (es : List (Pointer × T)) → value_at (entered es) p ≡ Some t
  found_new [] = ap (λ b. if b then Some t else None) (same_self p)
  found_new (e ∷ es) = by (same_pointer p e.0) refl (found_new es)
    where
      by : (b : Bool) → same_pointer p e.0 ≡ b → value_at (entered es) p ≡ Some t
          → value_at (if b then (e.0, t) ∷ es else e ∷ entered es) p ≡ Some t
      by true h k = ap (λ b. if b then Some t else value_at es p) h
      by false h k = ap (λ b. if b then Some e.1 else value_at (entered es) p) h ∙ k

  -- what is found was found before, or is the new one
  pub found_split : (es : List (Pointer × T)) (q : Pointer) (u : T) → value_at (entered es) q ≡ Some u
      → (value_at es q ≡ Some u) ⊎ ((p ≡ q) × (t ≡ u))
  found_split [] q u h = by (same_pointer q p) refl h
    where
      by : (b : Bool) → same_pointer q p ≡ b → (if b then Some t else None) ≡ Some u
          → (value_at {T = T} [] q ≡ Some u) ⊎ ((p ≡ q) × (t ≡ u))
      by true e k = inr (sym (pointer_is q p e), cc)
      by false e k = inl k
  found_split (e ∷ es) q u h = by (found_split es q u) (same_pointer p e.0) refl (same_pointer q e.0) refl h
    where
      by : (value_at (entered es) q ≡ Some u → (value_at es q ≡ Some u) ⊎ ((p ≡ q) × (t ≡ u)))
          → (b : Bool) → same_pointer p e.0 ≡ b → (c : Bool) → same_pointer q e.0 ≡ c
          → value_at (if b then (e.0, t) ∷ es else e ∷ entered es) q ≡ Some u
          → (value_at (e ∷ es) q ≡ Some u) ⊎ ((p ≡ q) × (t ≡ u))
      by others true m true n k =
          let w : Some t ≡ Some u = sym (ap (λ b. if b then Some t else value_at es q) n) ∙ k in
          inr (pointer_is p e.0 m ∙ sym (pointer_is q e.0 n), cc)
      by others true m false n k =
          inl (ap (λ b. if b then Some e.1 else value_at es q) n ∙ (sym (ap (λ b. if b then Some t else value_at es q) n) ∙ k))
      by others false m true n k =
          inl (ap (λ b. if b then Some e.1 else value_at es q) n ∙ (sym (ap (λ b. if b then Some e.1 else value_at (entered es) q) n) ∙ k))
      by others false m false n k =
          let later = others (sym (ap (λ b. if b then Some e.1 else value_at (entered es) q) n) ∙ k) in
          ⊎_elim (λ x. inl (ap (λ b. if b then Some e.1 else value_at es q) n ∙ x)) (λ x. inr x) later

  -- another node leads to where it led
  pub found_other : (es : List (Pointer × T)) (q : Pointer) → same_pointer p q ≡ false → value_at (entered es) q ≡ value_at es q
  found_other [] q h = by (same_pointer q p) refl
    where
      by : (b : Bool) → same_pointer q p ≡ b → value_at (entered []) q ≡ value_at {T = T} [] q
      by true e = absurd (true≢false (sym (ap (same_pointer p) (pointer_is q p e) ∙ same_self p) ∙ h))
      by false e = ap (λ b. if b then Some t else None) e
  found_other (e ∷ es) q h = by (found_other es q h) (same_pointer p e.0) refl (same_pointer q e.0) refl
    where
      by : value_at (entered es) q ≡ value_at es q → (b : Bool) → same_pointer p e.0 ≡ b → (c : Bool) → same_pointer q e.0 ≡ c
          → value_at (if b then (e.0, t) ∷ es else e ∷ entered es) q ≡ value_at (e ∷ es) q
      by others true m true n =
          absurd (true≢false (sym (same_self p) ∙ (ap (same_pointer p) (pointer_is p e.0 m ∙ sym (pointer_is q e.0 n)) ∙ h)))
      by others true m false n = ap (λ b. if b then Some t else value_at es q) n ∙ sym (ap (λ b. if b then Some e.1 else value_at es q) n)
      by others false m c n = ap (λ r. if same_pointer q e.0 then Some e.1 else r) others

-- a list with one item more

push_new : {A : Type 0} (xs : List A) (x : A) → slice_get (xs ++ x ∷ []) (length xs) ≡ Some x
push_new [] x = refl
push_new (y ∷ xs) x = push_new xs x

push_old : {A : Type 0} (xs : List A) (x y : A) (n : ℕ) → slice_get xs n ≡ Some y → slice_get (xs ++ x ∷ []) n ≡ Some y
push_old [] x y n h = absurd (true≢false (sym (ap is_some h)))
push_old (z ∷ xs) x y zero h = h
push_old (z ∷ xs) x y (suc n) h = push_old xs x y n h

push_cases : {A : Type 0} (xs : List A) (x y : A) (n : ℕ) → slice_get (xs ++ x ∷ []) n ≡ Some y
    → (slice_get xs n ≡ Some y) ⊎ ((n ≡ length xs) × (x ≡ y))
push_cases [] x y zero h = inr (refl, same_Some x y h)
push_cases [] x y (suc n) h = inl h
push_cases (z ∷ xs) x y zero h = inl h
push_cases (z ∷ xs) x y (suc n) h = ⊎_elim (λ l. inl l) (λ e. inr (ap suc e.0, e.1)) (push_cases xs x y n h)

-- sources and ways

abbrev new_id : {T I : Type 0} → (ℕ → I) → Sourced T I → I
new_id number a = number (length a.entries)

abbrev led : {T I : Type 0} → (ℕ → I) → Sourced T I → Pointer → List (Pointer × I)
led number a s = insert_entry same_pointer a.map s (new_id number a)

module _ {T I : Type 0} (place : I → ℕ) where
  pub maps_back_none : (limit : ℕ) → MapsBack place (none_yet {T = T} limit)
  maps_back_none limit = record {
    to_source = λ p id f. absurd (true≢false (sym (ap is_some f)));
    to_entry = λ n p g. absurd (true≢false (sym (ap is_some g)));
  }

  module _ (number : ℕ → I) (placed : (n : ℕ) → place (number n) ≡ n) (a : Sourced T I) (x : T)
      (paired : length a.sources ≡ length a.entries) (h : MapsBack place a) where
    from_nothing : MapsBack place (with_entry number a x None)
    from_nothing = record {
      to_source = λ p id f. push_old a.sources None (Some p) (place id) (h.to_source p id f);
      to_entry = λ n p g. ⊎_elim
          (λ l. old n p (h.to_entry n p l))
          (λ e. absurd (true≢false (ap is_some (sym e.1))))
          (push_cases a.sources None (Some p) n g);
    }
      where
        old : (n : ℕ) (p : Pointer) → Leads place a p n → Leads place (with_entry number a x None) p n
        old n p l = record { id = l.id; is = l.is; from = l.from }

    from_node : (s : Pointer) → MapsBack place (with_entry number a x (Some s))
    from_node s = record {
      to_source = λ p id f. ⊎_elim
          (λ o. push_old a.sources (Some s) (Some p) (place id) (h.to_source p id o))
          (λ e. subst (λ i. slice_get (a.sources ++ Some s ∷ []) (place i) ≡ Some (Some p)) e.1 (newest p e.0))
          (found_split s (new_id number a) a.map p id f);
      to_entry = λ n p g. ⊎_elim
          (λ o. still n p (h.to_entry n p o) (same_pointer s p) refl)
          (λ e. last n p e.0 (same_Some s p e.1))
          (push_cases a.sources (Some s) (Some p) n g);
    }
      where
        at : place (new_id number a) ≡ length a.sources
        at = placed (length a.entries) ∙ sym paired

        newest : (p : Pointer) → s ≡ p → slice_get (a.sources ++ Some s ∷ []) (place (new_id number a)) ≡ Some (Some p)
        newest p e = ap (slice_get (a.sources ++ Some s ∷ [])) at ∙ (push_new a.sources (Some s) ∙ ap (λ y. Some (Some y)) e)

        last : (n : ℕ) (p : Pointer) → n ≡ length a.sources → s ≡ p → Leads place (with_entry number a x (Some s)) p n
        last n p e same =
            record {
              id = new_id number a;
              is = subst (λ y. value_at (led number a s) y ≡ Some (new_id number a)) same (found_new s (new_id number a) a.map);
              from = omega (arith, e, at);
            }

        still : (n : ℕ) (p : Pointer) → Leads place a p n → (c : Bool) → same_pointer s p ≡ c
            → Leads place (with_entry number a x (Some s)) p n
        still n p l true e =
            let below = slice_get_within a.sources (place l.id) (Some p) (h.to_source p l.id l.is) in
            let same = pointer_is s p e in
            let from = l.from in record {
              id = new_id number a;
              is = subst (λ y. value_at (led number a s) y ≡ Some (new_id number a)) same (found_new s (new_id number a) a.map);
              from = omega (arith, below, from, at);
            }
        still n p l false e = record { id = l.id; is = found_other s (new_id number a) a.map p e ∙ l.is; from = l.from }

    pub maps_back_entry : (source : Option Pointer) → MapsBack place (with_entry number a x source)
    maps_back_entry None = from_nothing
    maps_back_entry (Some s) = from_node s
