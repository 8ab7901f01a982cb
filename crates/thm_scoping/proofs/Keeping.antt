-- What keeps names the same on both sides.
use Rattle.std.proofs.Common.{◌≡◌, ◌∙◌, refl, sym, ap, subst, Bool, true, false, ◌&&◌, if◌then◌else◌, ℕ, List, [], ◌∷◌, ◌++◌, Option}
use Rattle.std.proofs.Common.{Some, None}
use Rattle.std.proofs.Common.{append_assoc, map, slice_get, option_map, is_some, true≢false}
use Rattle.std.proofs.lemmas.Option.{same_Some, slice_get-map}
use Rattle.std.specs.List.{flat_map}
use Rattle.hir_store.specs.Names.{IsWritten, same_name}
use Rattle.hir_store.specs.Stored.{Store, SourceMap}
use Rattle.hir_store.specs.declared.ids.BindingId.{BindingId}
use Rattle.hir_store.specs.declared.ids.HygieneId.{HygieneId}
use Rattle.hir_store.specs.declared.ids.MacroDefId.{MacroDefId}
use Rattle.hir_store.specs.declared.ids.PatId.{PatId}
use Rattle.hir_store.specs.declared.name.Name.{Name}
use Rattle.hir_store.specs.declared.name.Name.TheVariants as name
use Rattle.hir_store.specs.declared.pat.Binding.{Binding}
use Rattle.hir_lower_scope.specs.ScopeRibs.{Rib, label_rib, macro_rib, Sought, search, number_found, reachable, is_for, past_macro}
use Rattle.hir_env.specs.Answers.{Contexts}
use Rattle.hir_env.specs.ResolvedTree.{OptionPat, Use}
use Rattle.spec_data.specs.Patterns.{first_uses}
use Rattle.spec_data.specs.Uses.{use_of}
use Rattle.spec_scopes.specs.Scopes.{binding_rib, binding_ribs}
use Rattle.spec_scoping.specs.Bound.{InScope, Meaning, name_in, name_rib}
use Rattle.thm_body_result.specs.Corresponds.{NamesOf}
use Rattle.thm_body_result.specs.CorrespondsReads.{made_for}
use Rattle.thm_scoping.specs.Meant.{IsNameIn, Means, MeansSame, SameRibs}

-- The bindings are those of names with these numbers, one for one.
abbrev pub Pairs : List BindingId → List BindingId → List ℕ → Type 0
Pairs ks [] [] = Unit {0}
Pairs ks (b ∷ bs) (k ∷ js) = (slice_get ks k ≡ Some b) × Pairs ks bs js
Pairs ks bs js = ⊥

pub pairs-append : (ks as' bs : List BindingId) (is js : List ℕ) → Pairs ks as' is → Pairs ks bs js → Pairs ks (as' ++ bs) (is ++ js)
pairs-append ks [] bs [] js p q = q
pairs-append ks (a ∷ as') bs (i ∷ is) js p q = (p.0, pairs-append ks as' bs is js p.1 q)
pairs-append ks [] bs (i ∷ is) js p q = absurd p
pairs-append ks (a ∷ as') bs [] js p q = absurd p

module _ (store : Store) (source_map : SourceMap) (self : Option BindingId) where
  -- the definition of a macro on both sides
  pub same_macro : (d : MacroDefId) (rs : List (Rib BindingId)) (ns : InScope) → SameRibs store source_map self rs ns
      → SameRibs store source_map self (macro_rib d ∷ rs) (macro_rib d ∷ ns)
  same_macro d rs ns h contexts n s w = h contexts n (past_macro contexts d s s.context) w

  -- a name on both sides that means the same
  pub same_name_rib : (m : Name) (y : HygieneId) (b : BindingId) (k : Meaning) (rs : List (Rib BindingId)) (ns : InScope)
      → Means store source_map self b k → SameRibs store source_map self rs ns
      → SameRibs store source_map self (label_rib m y b ∷ rs) (label_rib m y k ∷ ns)
  same_name_rib m y b k rs ns means h contexts n s w = by (is_for n s m y)
    where
      by : (t : Bool) → MeansSame store source_map self
          (number_found (if t then reachable b else search contexts n s rs))
          (number_found (if t then reachable k else search contexts n s ns))
      by true = means
      by false = h contexts n s w

  -- a name that lowering makes up, on the stored side
  pub same_generated : (i : ℕ) (y : HygieneId) (b : BindingId) (rs : List (Rib BindingId)) (ns : InScope)
      → SameRibs store source_map self rs ns → SameRibs store source_map self (label_rib (name.Generated i) y b ∷ rs) ns
  same_generated i y b rs ns h contexts (name.Text t) s w = h contexts (name.Text t) s w
  same_generated i y b rs ns h contexts name.Missing s w = h contexts name.Missing s w
  same_generated i y b rs ns h contexts (name.Generated k) s w = absurd w

  -- A binding and its name are met by the same text and hygiene.
  pair_ribs : (p : OptionPat) (q : PatId) (ks : List BindingId) (k : ℕ) (b : BindingId) (rs : List (Rib BindingId)) (ns : InScope)
      → NamesOf store source_map p q ks → slice_get ks k ≡ Some b → SameRibs store source_map self rs ns
      → SameRibs store source_map self (binding_rib store b (slice_get store.bindings b.0) ++ rs)
      (name_rib p k (slice_get (first_uses p) k) ++ ns)
  pair_ribs p q ks k b rs ns names found h = go (slice_get (first_uses p) k) (slice_get store.bindings b.0) made
    where
      made : option_map Some (slice_get (first_uses p) k) ≡ Some (made_for store b)
      made = sym (slice_get-map Some (first_uses p) k) ∙ (ap (λ l. slice_get l k) (sym names.one_for_each)
          ∙ (slice_get-map (made_for store) ks k ∙ ap (λ o. option_map (made_for store) o) found))

      go : (u : Option Use) (x : Option Binding) → option_map Some u ≡ Some (option_map use_of x)
          → SameRibs store source_map self (binding_rib store b x ++ rs) (name_rib p k u ++ ns)
      go None x e = absurd (true≢false (sym (ap is_some e)))
      go (Some u) None e = absurd (true≢false (ap is_some (same_Some _ _ e)))
      go (Some u) (Some x) e = subst
          (λ (v : Use). SameRibs store source_map self (label_rib x.name x.hygiene b ∷ rs) (label_rib v.name v.hygiene (name_in p k) ∷ ns))
          (sym (same_Some _ _ (same_Some _ _ e)))
          (same_name_rib x.name x.hygiene b (name_in p k) rs ns
          (record { pattern = q; bindings = ks; names = names; is = found }) h)

  abbrev names_at : OptionPat → List ℕ → InScope
  names_at p js = flat_map (λ k. name_rib p k (slice_get (first_uses p) k)) js

  -- the names of a top pattern on both sides
  pub same_pairs : (p : OptionPat) (q : PatId) (ks bs : List BindingId) (js : List ℕ) (rs : List (Rib BindingId)) (ns : InScope)
      → NamesOf store source_map p q ks → Pairs ks bs js → SameRibs store source_map self rs ns
      → SameRibs store source_map self (binding_ribs store bs ++ rs) (names_at p js ++ ns)
  same_pairs p q ks [] [] rs ns names pairs h = h
  same_pairs p q ks [] (k ∷ js) rs ns names pairs h = absurd pairs
  same_pairs p q ks (b ∷ bs) [] rs ns names pairs h = absurd pairs
  same_pairs p q ks (b ∷ bs) (k ∷ js) rs ns names pairs h = rw (
    append_assoc (binding_rib store b (slice_get store.bindings b.0)) (binding_ribs store bs) rs,
    append_assoc (name_rib p k (slice_get (first_uses p) k)) (names_at p js) ns,
  )
      (pair_ribs p q ks k b (binding_ribs store bs ++ rs) (names_at p js ++ ns) names pairs.0
      (same_pairs p q ks bs js rs ns names pairs.1 h))
