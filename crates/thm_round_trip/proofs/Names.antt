-- The names of a top pattern: those of which the tree knows the first uses, and those of which lowering knows the bindings.
use Rattle.std.proofs.Common.{◌≡◌, refl, sym, ap, subst, Bool, true, false, true≢false, List, [], ◌∷◌, ◌++◌, Option, Some, None}
use Rattle.std.specs.Prelude.{◌&&◌, cond, if◌then◌else◌, length, nat_eq}
use Rattle.std.specs.Map.{lookup}
use Rattle.hir_store.specs.Names.{IsWritten, same_name}
use Rattle.hir_store.specs.Stored.{Stored, store_of, map_of}
use Rattle.hir_store.specs.declared.ids.BindingId.{BindingId}
use Rattle.hir_store.specs.declared.name.Name.{Name}
use Rattle.hir_store.specs.declared.name.Name.TheVariants as name
use Rattle.hir_store.specs.declared.pat.Binding.{Binding}
use Rattle.hir_env.specs.ResolvedTree.{Use}
use Rattle.hir_lower_builder.specs.Pats.{Key, same_key, key_of, Table, no_names, binding_of, number_of, with_name, with_use as tracks_use}
use Rattle.hir_lower_builder.specs.Pats.{new_binding, use_of_known, use_name}
use Rattle.thm_logic.proofs.Frames.{Frame}
use Rattle.thm_logic.proofs.Steps.{Mark, Correct, correct_bind, correct_as, correct_pure}
use Rattle.thm_logic.proofs.PatSteps.{correct_alloc_binding}
use Rattle.spec_data.specs.Reading.{binding_found}
use Rattle.spec_data.specs.Uses.{FirstUses, is_of, first_use, with_use}

-- a binding, as it lasts
abbrev pub found_in : Stored → BindingId → Option Binding
found_in final b = binding_found (store_of final) (map_of final) b

-- each binding was made for the first use in the same place of the list
abbrev pub AreFor : Stored → FirstUses → List (Key × BindingId) → Type 0
AreFor final [] [] = Unit {0}
AreFor final (u ∷ us) (e ∷ es) = (e.0 ≡ key_of u) × (found_in final e.1 ≡ Some (new_binding u)) × AreFor final us es
AreFor final [] (e ∷ es) = ⊥
AreFor final (u ∷ us) [] = ⊥

pub record Named (final : Stored) (us : FirstUses) (t : Table) : Type 0 where
  pub each : AreFor final us t.bindings

pub none_named : (final : Stored) → Named final [] no_names
none_named final = record { each = tt }

are_more : (final : Stored) (u : Use) (b : BindingId) → found_in final b ≡ Some (new_binding u) → (us : FirstUses)
    (es : List (Key × BindingId)) → AreFor final us es → AreFor final (us ++ u ∷ []) (es ++ (key_of u, b) ∷ [])
are_more final u b h [] [] k = (refl, h, tt)
are_more final u b h [] (e ∷ es) k = absurd k
are_more final u b h (f ∷ us) [] k = absurd k
are_more final u b h (f ∷ us) (e ∷ es) k = (k.0, k.1, are_more final u b h us es k.2)

-- What is known of a name on both sides, where w are the uses with this one, and f is the first of them: a binding that was made for
-- f, or nothing.
abbrev KnownBy : Stored → Use → FirstUses → Option BindingId → FirstUses → Use → Type 0
KnownBy final u us (Some b) w f = (w ≡ us) × (found_in final b ≡ Some (new_binding f))
KnownBy final u us None w f = (w ≡ us ++ u ∷ []) × (f ≡ u)

known_later : (final : Stored) (u g : Use) (us : FirstUses) (o : Option BindingId) (w : FirstUses) (f : Use) → KnownBy final u us o w f
    → KnownBy final u (g ∷ us) o (g ∷ w) f
known_later final u g us (Some b) w f k = (ap (λ v. g ∷ v) k.0, k.1)
known_later final u g us None w f k = (ap (λ v. g ∷ v) k.0, k.1)

known : (final : Stored) (u : Use) (us : FirstUses) (es : List (Key × BindingId)) → AreFor final us es
    → KnownBy final u us (lookup (same_key (key_of u)) es) (with_use us u) (first_use us u)
known final u [] [] h = (refl, refl)
known final u [] (e ∷ es) h = absurd h
known final u (f ∷ us) [] h = absurd h
known final u (f ∷ us) (e ∷ es) h = rw h.0 (by (is_of u.name u.hygiene f) (known final u us es h.2))
  where
    by : (t : Bool) → KnownBy final u us (lookup (same_key (key_of u)) es) (with_use us u) (first_use us u)
        → KnownBy final u (f ∷ us) (cond t (Some e.1) (lookup (same_key (key_of u)) es))
        (if t then f ∷ us else f ∷ with_use us u) (if t then f else first_use us u)
    by true k = (refl, h.1)
    by false k = known_later final u f us (lookup (same_key (key_of u)) es) (with_use us u) (first_use us u) k

-- The binding of a use was made for the first one of its name, which is known from then on.
pub record UsedAs (u : Use) (t : Table) (final : Stored) (ps : List Frame) (m m' : Mark) (r : BindingId × Table) : Type 0 where
  pub uses : (us : FirstUses) → Named final us t → Named final (with_use us u) r.1
  pub first : (us : FirstUses) → Named final us t → found_in final r.0 ≡ Some (new_binding (first_use us u))

-- by what is known of the name
record UsedBy (u : Use) (t : Table) (o : Option BindingId) (final : Stored) (ps : List Frame) (m m' : Mark) (r : BindingId × Table)
    : Type 0 where
  uses : (us w : FirstUses) (f : Use) → Named final us t → KnownBy final u us o w f → Named final w r.1
  first : (us w : FirstUses) (f : Use) → KnownBy final u us o w f → found_in final r.0 ≡ Some (new_binding f)

used_by : (u : Use) (t : Table) (o : Option BindingId) → Correct (use_of_known u t o) (UsedBy u t o)
used_by u t (Some b) = correct_as (correct_pure (b, tracks_use (number_of (key_of u) t) u.mode t))
    (λ final ps m m' r g row. rw row.is (record {
      uses = λ us w f named k. record { each = subst (λ v. AreFor final v t.bindings) (sym k.0) named.each };
      first = λ us w f k. k.1;
    }))
used_by u t None = correct_as (correct_bind (correct_alloc_binding (new_binding u))
    (λ b. correct_pure (b, tracks_use (length t.bindings) u.mode (with_name (key_of u) b t))))
    (λ final ps m m' r g row.
    let here : found_in final row.one ≡ Some (new_binding u) = rw row.first.number row.first.here in rw row.second.is (record {
      uses = λ us w f named k. record {
        each = subst (λ v. AreFor final v (t.bindings ++ (key_of u, row.one) ∷ [])) (sym k.0)
            (are_more final u row.one here us t.bindings named.each);
      };
      first = λ us w f k. rw k.1 here;
    }))

pub correct_use_name : (u : Use) (t : Table) → Correct (use_name u t) (UsedAs u t)
unfolding use_name
correct_use_name u t = correct_as (used_by u t (binding_of (key_of u) t))
    (λ final ps m m' r g row. record {
      uses = λ us named. row.uses us (with_use us u) (first_use us u) named (known final u us t.bindings named.each);
      first = λ us named. row.first us (with_use us u) (first_use us u) (known final u us t.bindings named.each);
    })

-- the first use of a written name has one

as_written : (n k : Name) → same_name n k ≡ true → IsWritten n → IsWritten k
as_written n (name.Text t) e w = tt
as_written n name.Missing e w = tt
as_written (name.Text t) (name.Generated k) e w = absurd (true≢false (sym e))
as_written name.Missing (name.Generated k) e w = absurd (true≢false (sym e))
as_written (name.Generated n) (name.Generated k) e w = absurd w

pub first_written : (us : FirstUses) (u : Use) → IsWritten u.name → IsWritten (first_use us u).name
first_written [] u w = w
first_written (f ∷ us) u w = by (same_name u.name f.name) refl (nat_eq u.hygiene.0 f.hygiene.0) (first_written us u w)
  where
    by : (t : Bool) → same_name u.name f.name ≡ t → (b : Bool) → IsWritten (first_use us u).name
        → IsWritten (if t && b then f else first_use us u).name
    by true e true h = as_written u.name f.name e w
    by true e false h = h
    by false e b h = h
