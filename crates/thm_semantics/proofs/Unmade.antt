-- What is written is no made name, so the store runs it as what it reads back as.
use Rattle.std.proofs.Common.{◌≡◌, ◌∙◌, ◌⊎◌, inl, inr, ⊎_elim, refl, sym, ap, subst, ℕ, zero, suc, ◌+◌, ◌<◌, ◌≤◌, false}
use Rattle.std.proofs.Common.{true≢false, slice_get, length}
use Rattle.std.proofs.Common.{List, [], ◌∷◌, Option, Some, None, arith}
use Rattle.hir_store.specs.Pointers.{Pointer}
use Rattle.hir_store.specs.Stored.{Stored, store_of, map_of}
use Rattle.hir_store.specs.declared.ids.PatId.{PatId}
use Rattle.hir_store.specs.declared.ids.TypeRefId.{TypeRefId}
use Rattle.hir_store.specs.declared.name.Name.{Name}
use Rattle.hir_store.specs.declared.name.Name.TheVariants as name
use Rattle.hir_store.specs.declared.pat.Binding.{Binding}
use Rattle.hir_store.specs.declared.pat.Pat.{Pat as HirPat}
use Rattle.hir_store.specs.declared.pat.Pat.TheVariants as pat
use Rattle.hir_env.specs.ResolvedTree.{OptionPat}
use Rattle.spec_data.specs.Data.{OptionPatData, OptionTypeData, PatData, pat_at}
use Rattle.spec_data.specs.GeneratedNames.{is_made}
use Rattle.spec_data.specs.Patterns.{written_pat}
use Rattle.spec_data.specs.Reading.{Readers, bind_layer, binding_found, name_layer, pattern_found, pattern_source, readers}
use Rattle.spec_data.specs.Reading.{stored_option_type, stored_pat, subpattern_layer}
use Rattle.spec_data.proofs.GeneratedNames.{Unmade, part_is_made, written_part_unmade, written_unmade}
use Rattle.spec_semantics.specs.Run.{Value, binds, tests_pattern}
use Rattle.spec_semantics.specs.Store.{binds_or_takes, bound_to, fits, fits_or_takes, made_by, made_inside, name_bound, number_made}
use Rattle.spec_semantics.specs.Store.{part_made}
use Rattle.spec_semantics.specs.Store.{whole_made}
use Rattle.thm_logic.proofs.Frames.{Frame}
use Rattle.thm_semantics.proofs.Relation.{SameWhere, same_binds, same_tests_pattern}

pub written_is_unmade : (p : OptionPat) → Unmade (written_pat p)
written_is_unmade p = record { whole = written_unmade p; part = written_part_unmade p }

-- places in lists

abbrev is_none : {A : Type 0} → Option A → Type 0
is_none None = Unit {0}
is_none (Some x) = ⊥

place_below : {A : Type 0} (xs : List A) (n : ℕ) (x : A) → slice_get xs n ≡ Some x → n < length xs
place_below [] n x e = absurd (subst (λ o. is_none o) e tt)
place_below (y ∷ xs) zero x e = omega arith
place_below (y ∷ xs) (suc n) x e = let lt = place_below xs n x e in omega (arith, lt)

some_deep : (n : ℕ) → 1 ≤ n → (P : ℕ → Type 0) → ((k : ℕ) → P (suc k)) → P n
some_deep zero le P h = absurd (omega (arith, le))
some_deep (suc k) le P h = h k

-- patterns

abbrev pub pat_read : Stored → ℕ → PatId → PatData
pat_read final d p = (readers (store_of final) (map_of final) d).pat p

abbrev pub made_whole : Stored → PatId → Option ℕ
made_whole final p = whole_made (store_of final) (map_of final) p

-- by what is read of the pattern, with these readings of its parts
module _ (final : Stored) (r : Readers) (source : Option Pointer) where
  bound_unmade : (b : Option Binding) (sub : OptionPatData)
      → is_made (pat_at source (bind_layer (store_of final) (map_of final) r b sub)) ≡ false
      → name_bound b ≡ None
  bound_unmade None sub e = refl
  bound_unmade (Some b) sub e = by b.name e
    where
      by : (n : Name) → is_made (pat_at source (name_layer (store_of final) (map_of final) r n b.hygiene b.mode sub)) ≡ false
          → number_made n ≡ None
      by (name.Text t) e = refl
      by name.Missing e = refl
      by (name.Generated n) e = absurd (true≢false e)

  found_unmade : (o : Option HirPat) → is_made (pat_at source (pattern_found (store_of final) (map_of final) r o)) ≡ false
      → made_by (store_of final) (map_of final) o ≡ None
  found_unmade None e = refl
  found_unmade (Some (pat.Bind i sub)) e =
      bound_unmade (binding_found (store_of final) (map_of final) i) (subpattern_layer (store_of final) (map_of final) r sub) e
  found_unmade (Some p) e = refl

whole_at : (final : Stored) (k : ℕ) (p : PatId) → is_made (pat_read final (suc k) p) ≡ false → made_whole final p ≡ None
unfolding readers
whole_at final k p h = found_unmade final (readers (store_of final) (map_of final) k)
    (pattern_source (store_of final) (map_of final) p) (slice_get final.pats.entries p.0) h

-- a bind, where anything is read
bind_below : (final : Stored) (p : PatId) (o : Option HirPat) → slice_get final.pats.entries p.0 ≡ o
    → (p.0 < length final.pats.entries) ⊎ (made_by (store_of final) (map_of final) o ≡ None)
bind_below final p None e = inr refl
bind_below final p (Some q) e = inl (place_below final.pats.entries p.0 q e)

abbrev pub all_of : Stored → ℕ
all_of final = length final.types.entries + length final.pats.entries

pub whole_unmade : (final : Stored) (p : PatId) → is_made (stored_pat (store_of final) (map_of final) p) ≡ false → made_whole final p ≡ None
unfolding stored_pat
whole_unmade final p h = ⊎_elim
    (λ lt. some_deep (all_of final) (omega (arith, lt)) (λ d. is_made (pat_read final d p) ≡ false → made_whole final p ≡ None)
    (λ k. whole_at final k p) h)
    (λ e. e) (bind_below final p (slice_get final.pats.entries p.0) refl)

-- the only part of a pattern, which is no bind itself

abbrev is_bind : Option HirPat → Type 0
is_bind (Some (pat.Bind i sub)) = Unit {0}
is_bind _ = ⊥

two_places : {A : Type 0} (xs : List A) (n m : ℕ) (x y : A) → slice_get xs n ≡ Some x → slice_get xs m ≡ Some y → (n ≡ m → ⊥)
    → 2 ≤ length xs
two_places [] n m x y e f apart = let lt = place_below [] n x e in absurd (omega (arith, lt))
two_places (z ∷ []) zero zero x y e f apart = absurd (apart refl)
two_places {A = A} (z ∷ []) (suc n) m x y e f apart = let lt = place_below {A = A} [] n x e in absurd (omega (arith, lt))
two_places {A = A} (z ∷ []) zero (suc m) x y e f apart = let lt = place_below {A = A} [] m y f in absurd (omega (arith, lt))
two_places (z ∷ (w ∷ zs)) n m x y e f apart = omega arith

module _ (final : Stored) (k : ℕ) (full : suc k ≡ all_of final) (p q : PatId) (own : HirPat)
    (here : slice_get final.pats.entries p.0 ≡ Some own) (other : is_bind (Some own) → ⊥) where
  -- a bind is another entry, so there are two, and the part is looked into
  part_unmade : (o : Option HirPat) → slice_get final.pats.entries q.0 ≡ o → is_made (pat_read final k q) ≡ false
      → made_by (store_of final) (map_of final) o ≡ None
  part_unmade None e h = refl
  part_unmade (Some (pat.Bind i sub)) e h =
      let apart : p.0 ≡ q.0 → ⊥ = λ same. other (subst is_bind (sym (ap (slice_get final.pats.entries) same ∙ e) ∙ here) tt) in
      let two = two_places final.pats.entries p.0 q.0 own (pat.Bind i sub) here e apart in
      subst (λ o. made_by (store_of final) (map_of final) o ≡ None) e
      (some_deep k (omega (arith, full, two)) (λ d. is_made (pat_read final d q) ≡ false → made_whole final q ≡ None)
      (λ d. whole_at final d q) h)
  part_unmade (Some x) e h = refl

-- what is read of a pattern, by its entry
abbrev entry_read : Stored → ℕ → PatId → Option HirPat → PatData
entry_read final k p o =
    pat_at (pattern_source (store_of final) (map_of final) p)
    (pattern_found (store_of final) (map_of final) (readers (store_of final) (map_of final) k) o)

inside_at : (final : Stored) (k : ℕ) → suc k ≡ all_of final → (p : PatId) (o : Option HirPat) → slice_get final.pats.entries p.0 ≡ o
    → part_is_made (entry_read final k p o) ≡ false → made_inside (store_of final) (map_of final) o ≡ None
inside_at final k full p None e h = refl
inside_at final k full p (Some (pat.TupleStruct d ellipsis [])) e h = refl
inside_at final k full p (Some (pat.TupleStruct d ellipsis (q ∷ []))) e h =
    part_unmade final k full p q (pat.TupleStruct d ellipsis (q ∷ [])) e (λ none. none) (slice_get final.pats.entries q.0) refl h
inside_at final k full p (Some (pat.TupleStruct d ellipsis (q ∷ (r ∷ qs)))) e h = refl
inside_at final k full p (Some x) e h = refl

abbrev pub inside_made : Stored → PatId → Option ℕ
inside_made final p = part_made (store_of final) (map_of final) p

-- in full, where there is anything to read
inside_full : (final : Stored) (p : PatId) (n : ℕ) → n ≡ all_of final → 1 ≤ n → part_is_made (pat_read final n p) ≡ false
    → inside_made final p ≡ None
unfolding readers
inside_full final p zero full le h = absurd (omega (arith, le))
inside_full final p (suc k) full le h = inside_at final k full p (slice_get final.pats.entries p.0) refl h

nothing_inside : (final : Stored) (p : PatId) (o : Option HirPat) → slice_get final.pats.entries p.0 ≡ o
    → (p.0 < length final.pats.entries) ⊎ (made_inside (store_of final) (map_of final) o ≡ None)
nothing_inside final p None e = inr refl
nothing_inside final p (Some q) e = inl (place_below final.pats.entries p.0 q e)

pub inside_unmade : (final : Stored) (p : PatId) → part_is_made (stored_pat (store_of final) (map_of final) p) ≡ false
    → inside_made final p ≡ None
unfolding stored_pat
inside_unmade final p h = ⊎_elim (λ lt. inside_full final p (all_of final) refl (omega (arith, lt)) h) (λ e. e)
    (nothing_inside final p (slice_get final.pats.entries p.0) refl)

-- runs

module _ {names : ℕ} {ps : List Frame} where
  fits_by : (a b : Option ℕ) → a ≡ None → b ≡ None → (d : PatData) (v : Value)
      → SameWhere names ps (fits_or_takes a b d v) (tests_pattern d v)
  fits_by a b e e' d v = rw (e, e') (same_tests_pattern d v)

  binds_by : (a : Option ℕ) → a ≡ None → (d : PatData) (t : OptionTypeData) (vs : List Value)
      → SameWhere names ps (binds_or_takes a d t vs) (binds d t vs)
  binds_by a e d t vs = rw e (same_binds d t vs)

  -- of a pattern that reads back as what is no made name
  pub fits_same : (final : Stored) (p : PatId) (d : PatData) → stored_pat (store_of final) (map_of final) p ≡ d → Unmade d → (v : Value)
      → SameWhere names ps (fits (store_of final) (map_of final) p v) (tests_pattern d v)
  fits_same final p d is u v = subst (λ k. SameWhere names ps (fits (store_of final) (map_of final) p v) (tests_pattern k v)) is
      (fits_by (made_whole final p) (inside_made final p) (whole_unmade final p (subst (λ k. is_made k ≡ false) (sym is) u.whole))
      (inside_unmade final p (subst (λ k. part_is_made k ≡ false) (sym is) u.part)) (stored_pat (store_of final) (map_of final) p) v)

  pub binds_same : (final : Stored) (p : PatId) (t : Option TypeRefId) (d : PatData) (x : OptionTypeData)
      → stored_pat (store_of final) (map_of final) p ≡ d → stored_option_type (store_of final) (map_of final) t ≡ x → Unmade d
      → (vs : List Value) → SameWhere names ps (bound_to (store_of final) (map_of final) p t vs) (binds d x vs)
  binds_same final p t d x is same u vs =
      let whole = whole_unmade final p (subst (λ k. is_made k ≡ false) (sym is) u.whole) in
      subst (λ k. SameWhere names ps (bound_to (store_of final) (map_of final) p t vs) (binds k x vs)) is
      (subst (λ y. SameWhere names ps (bound_to (store_of final) (map_of final) p t vs)
      (binds (stored_pat (store_of final) (map_of final) p) y vs)) same
      (binds_by (made_whole final p) whole (stored_pat (store_of final) (map_of final) p)
      (stored_option_type (store_of final) (map_of final) t) vs))
