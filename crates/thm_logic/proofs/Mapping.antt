-- Where nodes lead once one more does, or once an entry is made up for one.
use Rattle.std.proofs.Common.{◌≡◌, ◌∙◌, sym, ap, subst, refl, ℕ, zero, suc, length, List, [], ◌∷◌, ◌++◌}
use Rattle.std.proofs.Common.{◌⊎◌, inl, inr, ⊎_elim, Bool, true, false, true≢false, Option, Some, None, is_some, slice_get}
use Rattle.std.proofs.lemmas.Option.{same_Some}
use Rattle.hir_store.specs.Pointers.{Pointer, same_pointer, value_at}
use Rattle.hir_store.specs.Arenas.{Sourced, none_yet, with_entry, with_made, with_mapping}
use Rattle.hir_store.proofs.Maps.{entered, found_new, found_other, pointer_is}
use Rattle.thm_logic.specs.Keeps.{EachLeads, LeadsSomewhere}

-- a list with one item more: what stands in it stood there, or is the new one
push_cases : {A : Type 0} (xs : List A) (x y : A) (n : ℕ) → slice_get (xs ++ x ∷ []) n ≡ Some y → (slice_get xs n ≡ Some y) ⊎ (x ≡ y)
push_cases [] x y zero h = inr (same_Some x y h)
push_cases [] x y (suc n) h = inl h
push_cases (z ∷ xs) x y zero h = inl h
push_cases (z ∷ xs) x y (suc n) h = push_cases xs x y n h

module _ {T I : Type 0} where
  pub leads_none : (limit : ℕ) → EachLeads (none_yet {T = T} {I = I} limit)
  leads_none limit = record { to_entry = λ n p g. absurd (true≢false (sym (ap is_some g))) }

  -- a node that leads somewhere does so once another one, or it, leads to this
  led_still : (a : Sourced T I) (s : Pointer) (i : I) (p : Pointer) → LeadsSomewhere a p → LeadsSomewhere (with_mapping a s i) p
  led_still a s i p l = by (same_pointer s p) refl
    where
      by : (c : Bool) → same_pointer s p ≡ c → LeadsSomewhere (with_mapping a s i) p
      by true e = record { id = i; is = subst (λ q. value_at (entered s i a.map) q ≡ Some i) (pointer_is s p e) (found_new s i a.map) }
      by false e = record { id = l.id; is = found_other s i a.map p e ∙ l.is }

  pub leads_mapping : (a : Sourced T I) → EachLeads a → (s : Pointer) (i : I) → EachLeads (with_mapping a s i)
  leads_mapping a h s i = record {
    to_entry = λ n p g. let l = led_still a s i p (h.to_entry n p g) in record { id = l.id; is = l.is };
  }

  module _ (a : Sourced T I) (x : T) (h : EachLeads a) where
    -- made up for no node
    made_for_none : EachLeads (with_made a x None)
    made_for_none = record {
      to_entry = λ n p g. ⊎_elim
          (λ l. let was = h.to_entry n p l in record { id = was.id; is = was.is })
          (λ e. absurd (true≢false (ap is_some (sym e))))
          (push_cases a.sources None (Some p) n g);
    }

    from_node : (number : ℕ → I) (s : Pointer) → EachLeads (with_entry number a x (Some s))
    from_node number s = record {
      to_entry = λ n p g. ⊎_elim
          (λ o. let l = led_still a s id p (h.to_entry n p o) in record { id = l.id; is = l.is })
          (λ e. record {
            id = id;
            is = subst (λ q. value_at (entered s id a.map) q ≡ Some id) (same_Some s p e) (found_new s id a.map);
          })
          (push_cases a.sources (Some s) (Some p) n g);
    }
      where
        id : I
        id = number (length a.entries)

    pub leads_entry : (number : ℕ → I) (source : Option Pointer) → EachLeads (with_entry number a x source)
    leads_entry number None = record { to_entry = λ n p g. made_for_none.to_entry n p g }
    leads_entry number (Some s) = from_node number s
