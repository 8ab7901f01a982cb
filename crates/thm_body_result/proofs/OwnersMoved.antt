-- What owns the bindings at the ends of ways, along with the steps that make them.
use Rattle.std.proofs.Common.{arith, ◌≡◌, ◌∙◌, sym, ap, subst, ℕ, zero, suc, ◌≤◌, length, length-append, map, slice_get}
use Rattle.std.proofs.Common.{List, [], ◌∷◌, ◌++◌, Option, Some, None, is_some, true≢false, Contains, ⊎_elim}
use Rattle.std.proofs.lemmas.List.Elements.{Contains-append_cases}
use Rattle.std.proofs.lemmas.Option.{same_Some}
use Rattle.hir_store.specs.Arenas.{Prefix}
use Rattle.hir_store.specs.Bindings.{binding_id, own_from, owned_else}
use Rattle.hir_store.specs.Stored.{Stored}
use Rattle.hir_store.specs.declared.ids.BindingId.{BindingId}
use Rattle.hir_store.specs.declared.ids.ExprId.{ExprId}
use Rattle.hir_store.specs.declared.pat.Binding.{Binding}
use Rattle.hir_store.proofs.Arenas.{prefix_push, prefix_refl, prefix_trans}
use Rattle.hir_store.proofs.OwnerLemmas.{length_owned}
use Rattle.thm_logic.proofs.Logic as logic
use Rattle.thm_logic.proofs.Logic.{longer}
use Rattle.thm_logic.proofs.Owning.{with_owned}
use Rattle.thm_logic.proofs.PatSteps.{with_new_binding}
use Rattle.thm_body_result.specs.Theorems.{MayBeOwned}
use Rattle.thm_body_result.specs.Leads.{Mapping, expr_mapping, label_mapping, unled_mapping, field_mapping, pat_field_mapping}
use Rattle.thm_body_result.specs.Leads.{binding_mapping, owned_mapping, OwnersAre}
use Rattle.thm_body_result.proofs.Lasting.{in_prefix}
use Rattle.thm_body_result.proofs.Members.{map_contains, none_in, only_one}
use Rattle.thm_body_result.proofs.Owners.{past_start}

-- What owns older bindings stays, and the ways, which end at newer ones, say what owns those.
pub record OwnersMoved (a b : Stored) (mappings : List Mapping) : Type 0 where
  pub stay : Prefix a.bindings.owners b.bindings.owners
  pub may_be_owned : MayBeOwned b
  pub are : OwnersAre b.bindings.owners mappings
  pub newer : (x : BindingId) (o : Option ExprId) → Contains mappings (binding_mapping x o) → length a.bindings.owners ≤ x.0

-- where nothing is bound

-- none of these ways ends at a binding
abbrev pub BindsNone : List Mapping → Type 0
BindsNone [] = Unit {0}
BindsNone (expr_mapping p i ∷ ws) = BindsNone ws
BindsNone (label_mapping p n ∷ ws) = BindsNone ws
BindsNone (unled_mapping i ∷ ws) = BindsNone ws
BindsNone (field_mapping i p ∷ ws) = BindsNone ws
BindsNone (pat_field_mapping i p ∷ ws) = BindsNone ws
BindsNone (binding_mapping b o ∷ ws) = ⊥

module _ (x : BindingId) (o : Option ExprId) where
  -- a way that isn't the first
  behind_first : (v : Mapping) (ws : List Mapping) → (v ≡ binding_mapping x o → ⊥) → Contains (v ∷ ws) (binding_mapping x o)
      → Contains ws (binding_mapping x o)
  behind_first v ws other c =
      ⊎_elim (λ y. absurd (other (only_one v (binding_mapping x o) y))) (λ y. y) (Contains-append_cases (v ∷ []) ws (binding_mapping x o) c)

  binds_none : (ws : List Mapping) → BindsNone ws → Contains ws (binding_mapping x o) → ⊥
  binds_none [] h c = none_in (binding_mapping x o) c
  binds_none (expr_mapping p i ∷ ws) h c = binds_none ws h (behind_first (expr_mapping p i) ws (λ e. cc) c)
  binds_none (label_mapping p n ∷ ws) h c = binds_none ws h (behind_first (label_mapping p n) ws (λ e. cc) c)
  binds_none (unled_mapping i ∷ ws) h c = binds_none ws h (behind_first (unled_mapping i) ws (λ e. cc) c)
  binds_none (field_mapping i p ∷ ws) h c = binds_none ws h (behind_first (field_mapping i p) ws (λ e. cc) c)
  binds_none (pat_field_mapping i p ∷ ws) h c = binds_none ws h (behind_first (pat_field_mapping i p) ws (λ e. cc) c)
  binds_none (binding_mapping b u ∷ ws) h c = h

pub owners_still : {a b : Stored} {ws : List Mapping} → b.bindings.owners ≡ a.bindings.owners
    → length b.bindings.entries ≡ length a.bindings.entries → BindsNone ws → MayBeOwned a → OwnersMoved a b ws
owners_still {a = a} {ws = ws} same n none may = record {
  stay = subst (λ os. Prefix a.bindings.owners os) (sym same) (prefix_refl a.bindings.owners);
  may_be_owned = ap length same ∙ (may ∙ sym n);
  are = λ x o c. absurd (binds_none x o ws none c);
  newer = λ x o c. absurd (binds_none x o ws none c);
}

-- one after another

pub owners_then : {a b c : Stored} (us vs : List Mapping) → OwnersMoved a b us → OwnersMoved b c vs → OwnersMoved a c (us ++ vs)
owners_then us vs g h = let more = longer g.stay in record {
  stay = prefix_trans g.stay h.stay;
  may_be_owned = h.may_be_owned;
  are =
      λ x o c. ⊎_elim (λ u. in_prefix h.stay x.0 o (g.are x o u)) (λ v. h.are x o v) (Contains-append_cases us vs (binding_mapping x o) c);
  newer = λ x o c. ⊎_elim (λ u. g.newer x o u) (λ v. let late = h.newer x o v in omega (arith, more, late))
      (Contains-append_cases us vs (binding_mapping x o) c);
}

-- the same bindings
pub owners_as : {a b : Stored} {us vs : List Mapping}
    → ((x : BindingId) (o : Option ExprId) → Contains vs (binding_mapping x o) → Contains us (binding_mapping x o))
    → OwnersMoved a b us → OwnersMoved a b vs
owners_as back g = record {
  stay = g.stay;
  may_be_owned = g.may_be_owned;
  are = λ x o c. g.are x o (back x o c);
  newer = λ x o c. g.newer x o (back x o c);
}

-- a binding more, which nothing owns

pub owners_binding : (y : Binding) (a : Stored) → MayBeOwned a
    → OwnersMoved a (with_new_binding y a) (binding_mapping (binding_id (length a.bindings.entries)) None ∷ [])
owners_binding y a may =
    let n = length a.bindings.entries in
    let more = length-append a.bindings.owners (None ∷ []) in
    let entries = length-append a.bindings.entries (y ∷ []) in
    record {
      stay = prefix_push a.bindings.owners None;
      may_be_owned = omega (arith, may, more, entries);
      are = λ x o c.
          let is = only_one (binding_mapping (binding_id n) None) (binding_mapping x o) c in
          let at : binding_id n ≡ x = cc in
          let unowned : None ≡ o = cc in
          let place : x.0 ≡ length a.bindings.owners = sym (ap (λ k. k.0) at) ∙ sym may in
          logic.in_prefix a.bindings.owners None x.0 place (prefix_refl (a.bindings.owners ++ None ∷ [])) ∙ ap Some unowned;
      newer = λ x o c.
          let is = only_one (binding_mapping (binding_id n) None) (binding_mapping x o) c in
          let at : binding_id n ≡ x = cc in
          let place : n ≡ x.0 = ap (λ k. k.0) at in
          omega (arith, may, place);
    }

-- what owns them from then on

own_at : (n : ℕ) (id : ExprId) (os : List (Option ExprId)) (k : ℕ) (o : Option ExprId) → n ≤ k → slice_get os k ≡ Some o
    → slice_get (own_from n id os) k ≡ Some (owned_else id o)
own_at n id [] k o le e = absurd (true≢false (sym (ap is_some e)))
own_at zero id (x ∷ os) zero o le e = ap (λ y. Some (owned_else id y)) (same_Some x o e)
own_at zero id (x ∷ os) (suc k) o le e = own_at zero id os k o (omega arith) e
own_at (suc n) id (x ∷ os) zero o le e = absurd (omega (arith, le))
own_at (suc n) id (x ∷ os) (suc k) o le e = own_at n id os k o (omega (arith, le)) e

-- what ended there before
pub was_bound : (id : ExprId) (v : Mapping) (x : BindingId) (o : Option ExprId) → owned_mapping id v ≡ binding_mapping x o
    → (u : Option ExprId) × (v ≡ binding_mapping x u) × (owned_else id u ≡ o)
was_bound id (expr_mapping p i) x o e = absurd cc
was_bound id (label_mapping p n) x o e = absurd cc
was_bound id (unled_mapping i) x o e = absurd cc
was_bound id (field_mapping i p) x o e = absurd cc
was_bound id (pat_field_mapping i p) x o e = absurd cc
was_bound id (binding_mapping y u) x o e =
    let same : y ≡ x = cc in
    let owner : owned_else id u ≡ o = cc in
    (u, ap (λ z. binding_mapping z u) same, owner)

pub owners_owned : {a b : Stored} (start : BindingId) (id : ExprId) (vs : List Mapping) → start.0 ≡ length a.bindings.owners
    → OwnersMoved a b vs → OwnersMoved a (with_owned start id b) (map (owned_mapping id) vs)
owners_owned {a = a} {b = b} start id vs begins g = record {
  stay = record {
    more = own_from 0 id g.stay.more;
    is = (λ j. own_from (begins j) id (g.stay.is j)) ∙ past_start id a.bindings.owners g.stay.more;
  };
  may_be_owned = length_owned start.0 id b.bindings.owners ∙ g.may_be_owned;
  are = λ x o c.
      let r = map_contains (owned_mapping id) vs (binding_mapping x o) c in
      let was = was_bound id r.0 x o r.2 in
      let before = subst (λ v. Contains vs v) was.1 r.1 in
      let late = g.newer x was.0 before in
      own_at start.0 id b.bindings.owners x.0 was.0 (omega (arith, begins, late)) (g.are x was.0 before) ∙ ap Some was.2;
  newer = λ x o c.
      let r = map_contains (owned_mapping id) vs (binding_mapping x o) c in
      let was = was_bound id r.0 x o r.2 in
      g.newer x was.0 (subst (λ v. Contains vs v) was.1 r.1);
}
