-- Where the nodes of patterns and types lead once those are stored.
use Rattle.std.proofs.Common.{arith, ◌≡◌, ◌∙◌, ◌⊎◌, inl, inr, ⊎_elim, refl, sym, ap, subst, ℕ, zero, suc, ◌+◌, ◌-◌, ◌<◌, ◌≤◌}
use Rattle.std.proofs.Common.{List, [], ◌∷◌, ◌++◌}
use Rattle.std.proofs.Common.{append-nil, append_assoc, length, length-append, Bool, true, false, true≢false, Option, Some, None, is_some}
use Rattle.std.proofs.Common.{slice_get, Contains}
use Rattle.std.proofs.lemmas.List.Elements.{Contains-append_left, Contains-push}
use Rattle.std.proofs.lemmas.Option.{same_Some}
use Rattle.indexmap.specs.IndexMap.{insert_entry}
use Rattle.hir_store.specs.Pointers.{Pointer, value_at, same_pointer}
use Rattle.hir_store.proofs.Maps.{entered, found_new, found_other, found_split, pointer_is}
use Rattle.thm_body_result.specs.Leads.{LeadBack}
use Rattle.thm_body_result.specs.Size.{NodeLeads, assigned_at, called_at, calls_led, led_by, sources_led, stored_from, target_leads}
use Rattle.thm_body_result.specs.Size.{targets_led}

none_further : (n : ℕ) → n ≡ n + 0
none_further n = omega arith

one_further : (n k : ℕ) → suc n + k ≡ n + suc k
one_further n k = omega arith

pub sources_both : (xs ys : List NodeLeads) → sources_led (xs ++ ys) ≡ sources_led xs ++ sources_led ys
sources_both [] ys = refl
sources_both (stored_from s ∷ xs) ys = ap (λ zs. s ∷ zs) (sources_both xs ys)
sources_both (called_at p ∷ xs) ys = sources_both xs ys
sources_both (assigned_at p ∷ xs) ys = sources_both xs ys

module _ {I : Type 0} (number : ℕ → I) where
  -- once the one and then the other are stored
  led_then : (n : ℕ) (xs ys : List NodeLeads) (es : List (Pointer × I))
      → led_by number n (xs ++ ys) es ≡ led_by number (n + length (sources_led xs)) ys (led_by number n xs es)
  led_then n [] ys es = ap (λ k. led_by number k ys es) (none_further n)
  led_then n (stored_from s ∷ xs) ys es =
      let now = led_by number n (stored_from s ∷ []) es in
      led_then (suc n) xs ys now
      ∙ ap (λ k. led_by number k ys (led_by number (suc n) xs now)) (one_further n (length (sources_led xs)))
  led_then n (called_at p ∷ xs) ys es = led_then n xs ys (led_by number n (called_at p ∷ []) es)
  led_then n (assigned_at p ∷ xs) ys es = led_then n xs ys es

  -- where what came before is known
  pub led_behind : (n : ℕ) (xs ys : List NodeLeads) (es : List (Pointer × I)) {k : ℕ} {fs gs : List (Pointer × I)}
      → k ≡ n + length (sources_led xs) → fs ≡ led_by number n xs es → gs ≡ led_by number k ys fs → gs ≡ led_by number n (xs ++ ys) es
  led_behind n xs ys es e f g = g ∙ ((λ i. led_by number (e i) ys (f i)) ∙ sym (led_then n xs ys es))

  -- the same of the assignee expression
  targets_then : (n : ℕ) (xs ys : List NodeLeads) (es : List (Pointer × I))
      → targets_led number n (xs ++ ys) es ≡ targets_led number (n + length (sources_led xs)) ys (targets_led number n xs es)
  targets_then n [] ys es = ap (λ k. targets_led number k ys es) (none_further n)
  targets_then n (stored_from s ∷ xs) ys es = targets_then (suc n) xs ys es
      ∙ ap (λ k. targets_led number k ys (targets_led number (suc n) xs es)) (one_further n (length (sources_led xs)))
  targets_then n (called_at p ∷ xs) ys es = targets_then n xs ys es
  targets_then n (assigned_at p ∷ xs) ys es = targets_then n xs ys (targets_led number n (assigned_at p ∷ []) es)

  pub targets_behind : (n : ℕ) (xs ys : List NodeLeads) (es : List (Pointer × I)) {k : ℕ} {fs gs : List (Pointer × I)}
      → k ≡ n + length (sources_led xs) → fs ≡ targets_led number n xs es → gs ≡ targets_led number k ys fs
      → gs ≡ targets_led number n (xs ++ ys) es
  targets_behind n xs ys es e f g = g ∙ ((λ i. targets_led number (e i) ys (f i)) ∙ sym (targets_then n xs ys es))

  one_back : (n : ℕ) → n ≡ suc n - 1
  one_back n = omega arith

  -- as if those that are assigned to were those that patterns are stored from
  pub targets_as_led : (n : ℕ) (xs : List NodeLeads) (es : List (Pointer × I))
      → targets_led number n xs es ≡ led_by number n (target_leads xs) es
  targets_as_led n [] es = refl
  targets_as_led n (stored_from s ∷ []) es = refl
  targets_as_led n (stored_from s ∷ (stored_from q ∷ xs)) es = targets_as_led (suc n) (stored_from q ∷ xs) es
  targets_as_led n (stored_from s ∷ (called_at q ∷ xs)) es = targets_as_led (suc n) (called_at q ∷ xs) es
  targets_as_led n (stored_from s ∷ (assigned_at q ∷ xs)) es =
      targets_as_led (suc n) xs (insert_entry same_pointer es q (number (suc n - 1)))
      ∙ ap (λ k. led_by number (suc n) (target_leads xs) (insert_entry same_pointer es q (number k))) (sym (one_back n))
  targets_as_led n (called_at p ∷ xs) es = targets_as_led n xs es
  targets_as_led n (assigned_at p ∷ xs) es = targets_as_led n xs (insert_entry same_pointer es p (number (n - 1)))

-- where nothing was stored before

push_new : {A : Type 0} (xs : List A) (x : A) → slice_get (xs ++ x ∷ []) (length xs) ≡ Some x
push_new [] x = refl
push_new (y ∷ xs) x = push_new xs x

push_old : {A : Type 0} (xs : List A) (x y : A) (n : ℕ) → slice_get xs n ≡ Some y → slice_get (xs ++ x ∷ []) n ≡ Some y
push_old [] x y n h = absurd (true≢false (sym (ap is_some h)))
push_old (z ∷ xs) x y zero h = h
push_old (z ∷ xs) x y (suc n) h = push_old xs x y n h

push_cases : {A : Type 0} (xs : List A) (x y : A) (n : ℕ) → slice_get (xs ++ x ∷ []) n ≡ Some y
    → (slice_get xs n ≡ Some y) ⊎ ((n ≡ length xs) × (x ≡ y))
push_cases [] x y zero h = inr (refl, same_Some x y h)
push_cases [] x y (suc n) h = inl h
push_cases (z ∷ xs) x y zero h = inl h
push_cases (z ∷ xs) x y (suc n) h = ⊎_elim (λ l. inl l) (λ e. inr (ap suc e.0, e.1)) (push_cases xs x y n h)

below : {A : Type 0} (xs : List A) (x : A) (n : ℕ) → slice_get xs n ≡ Some x → n < length xs
below [] x n h = absurd (true≢false (sym (ap is_some h)))
below (y ∷ xs) x zero h = omega arith
below (y ∷ xs) x (suc n) h = let b = below xs x n h in omega (arith, b)

module _ {I : Type 0} (place : I → ℕ) (number : ℕ → I) (placed : (n : ℕ) → place (number n) ≡ n) where
  abbrev Back : List (Option Pointer) → List Pointer → List (Pointer × I) → Type 0
  Back ss cs es = LeadBack place es ss cs

  back_none : Back [] [] []
  back_none = record {
    to_source = λ p i f. absurd (true≢false (sym (ap is_some f)));
    to_entry = λ n p g. absurd (true≢false (sym (ap is_some g)));
  }

  module _ (ss : List (Option Pointer)) (cs : List Pointer) (es : List (Pointer × I)) (h : Back ss cs es) where
    back_stored_none : Back (ss ++ None ∷ []) cs es
    back_stored_none = record {
      to_source = λ p i f. ⊎_elim (λ o. inl (push_old ss None (Some p) (place i) o)) (λ c. inr c) (h.to_source p i f);
      to_entry = λ n p g.
          ⊎_elim (λ o. h.to_entry n p o) (λ e. absurd (true≢false (ap is_some (sym e.1)))) (push_cases ss None (Some p) n g);
    }

    -- a node leads to what is the last by then
    module _ (s : Pointer) (ts : List (Option Pointer)) (last : I) where
      still_led : (n : ℕ) (p : Pointer) → n ≤ place last → (i : I) × (value_at es p ≡ Some i) × (n ≤ place i)
          → (i : I) × (value_at (entered s last es) p ≡ Some i) × (n ≤ place i)
      still_led n p le l = by (same_pointer s p) refl
        where
          by : (c : Bool) → same_pointer s p ≡ c → (i : I) × (value_at (entered s last es) p ≡ Some i) × (n ≤ place i)
          by true e = (last, subst (λ q. value_at (entered s last es) q ≡ Some last) (pointer_is s p e) (found_new s last es), le)
          by false e = (l.0, found_other s last es p e ∙ l.1, l.2)

    back_stored : (s : Pointer) → Back (ss ++ Some s ∷ []) cs (entered s (number (length ss)) es)
    back_stored s = record {
      to_source = λ p i f. ⊎_elim
          (λ o. ⊎_elim (λ x. inl (push_old ss (Some s) (Some p) (place i) x)) (λ c. inr c) (h.to_source p i o))
          (λ e. inl (ap (λ j. slice_get (ss ++ Some s ∷ []) (place j)) (sym e.1)
          ∙ (ap (slice_get (ss ++ Some s ∷ [])) (placed (length ss)) ∙ (push_new ss (Some s) ∙ ap (λ y. Some (Some y)) e.0))))
          (found_split s (number (length ss)) es p i f);
      to_entry = λ n p g. ⊎_elim
          (λ o. let b = below ss (Some p) n o in
          still_led s ss (number (length ss)) n p (let k = placed (length ss) in omega (arith, k, b)) (h.to_entry n p o))
          (λ e. (
            number (length ss),
            subst (λ q. value_at (entered s (number (length ss)) es) q ≡ Some (number (length ss)))
                (same_Some s p e.1) (found_new s (number (length ss)) es),
            let k = placed (length ss) in omega (arith, k, e.0),
          ))
          (push_cases ss (Some s) (Some p) n g);
    }

    back_called : (s : Pointer) → Back ss (cs ++ s ∷ []) (entered s (number (length ss - 1)) es)
    back_called s = record {
      to_source = λ p i f. ⊎_elim
          (λ o. ⊎_elim (λ x. inl x) (λ c. inr (Contains-append_left cs (s ∷ []) p c)) (h.to_source p i o))
          (λ e. inr (subst (Contains (cs ++ s ∷ [])) e.0 (Contains-push cs s)))
          (found_split s (number (length ss - 1)) es p i f);
      to_entry = λ n p g. let b = below ss (Some p) n g in
          still_led s ss (number (length ss - 1)) n p (let k = placed (length ss - 1) in omega (arith, k, b)) (h.to_entry n p g);
    }

  back_from : (ss : List (Option Pointer)) (cs : List Pointer) (xs : List NodeLeads) (es : List (Pointer × I)) → Back ss cs es
      → Back (ss ++ sources_led xs) (cs ++ calls_led xs) (led_by number (length ss) xs es)
  back_from ss cs [] es h = subst (λ ts. Back ts (cs ++ []) es) (sym (append-nil ss))
      (subst (λ ds. Back ss ds es) (sym (append-nil cs)) h)
  back_from ss cs (stored_from s ∷ xs) es h =
      let more = length-append ss (s ∷ []) in
      let long : length (ss ++ s ∷ []) ≡ suc (length ss) = omega (arith, more) in
      let now = led_by number (length ss) (stored_from s ∷ []) es in
      subst (λ ts. Back ts (cs ++ calls_led xs) (led_by number (suc (length ss)) xs now)) (append_assoc ss (s ∷ []) (sources_led xs))
      (subst (λ n. Back ((ss ++ s ∷ []) ++ sources_led xs) (cs ++ calls_led xs) (led_by number n xs now)) long
      (back_from (ss ++ s ∷ []) cs xs now (one s)))
    where
      one : (s : Option Pointer) → Back (ss ++ s ∷ []) cs (led_by number (length ss) (stored_from s ∷ []) es)
      one None = back_stored_none ss cs es h
      one (Some p) = back_stored ss cs es h p
  back_from ss cs (assigned_at p ∷ xs) es h = back_from ss cs xs es h
  back_from ss cs (called_at p ∷ xs) es h =
      let now = led_by number (length ss) (called_at p ∷ []) es in
      subst (λ ds. Back (ss ++ sources_led xs) ds (led_by number (length ss) xs now)) (append_assoc cs (p ∷ []) (calls_led xs))
      (back_from ss (cs ++ p ∷ []) xs now (back_called ss cs es h p))

  pub leads_back : (xs : List NodeLeads) → LeadBack place (led_by number 0 xs []) (sources_led xs) (calls_led xs)
  leads_back xs = back_from [] [] xs [] back_none

  -- so it is of the assignee expression
  pub targets_back : (xs : List NodeLeads)
      → LeadBack place (targets_led number 0 xs []) (sources_led (target_leads xs)) (calls_led (target_leads xs))
  targets_back xs = subst (λ es. LeadBack place es (sources_led (target_leads xs)) (calls_led (target_leads xs)))
      (sym (targets_as_led number 0 xs [])) (leads_back (target_leads xs))
