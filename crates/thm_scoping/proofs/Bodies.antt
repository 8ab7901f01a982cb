-- A whole body behind its parameters.
use Rattle.std.proofs.Common.{◌≡◌, ◌∙◌, refl, sym, ap, subst, ◌<◌, List, [], ◌∷◌, ◌++◌, append_assoc, append-nil, length, Option, Some}
use Rattle.std.proofs.Common.{None}
use Rattle.std.proofs.Common.{option_to_list, slice_get}
use Rattle.std.specs.List.{flat_map}
use Rattle.hir_store.specs.Stored.{Store, SourceMap}
use Rattle.hir_store.specs.declared.ids.BindingId.{BindingId}
use Rattle.hir_store.specs.declared.ids.PatId.{PatId}
use Rattle.hir_lower_scope.specs.ScopeRibs.{Rib, label_rib}
use Rattle.hir_env.specs.ResolvedTree as tree
use Rattle.hir_env.specs.ResolvedTree.{Expr, OptionExpr, OptionPat, SelfFormal}
use Rattle.hir_walks.specs.Pats.{bindings_in}
use Rattle.spec_data.specs.Tops.{Tops}
use Rattle.spec_scopes.specs.Placed.{outermost}
use Rattle.spec_scopes.specs.Scopes.{binding_rib, binding_ribs}
use Rattle.spec_scoping.specs.Bound.{InScope, self_name, top_names, with_tops}
use Rattle.spec_scoping.specs.Scoping.{Where, outside, self_names}
use Rattle.thm_body_result.specs.Corresponds.{Open}
use Rattle.thm_body_result.specs.Leads.{Mapping}
use Rattle.thm_body_result.specs.OneResult.{CorrespondsSelf, CorrespondsTops}
use Rattle.thm_scoping.specs.Agree.{BodiesAgree}
use Rattle.thm_scoping.specs.Meant.{SameAt, SameRibs}
use Rattle.thm_scoping.proofs.Orderly.{AllKnown, Orderly, all_known, orderly}
use Rattle.thm_scoping.proofs.Once.{given_there, given_whole, named_whole}
use Rattle.thm_scoping.proofs.Agreement.{scopes_agree}
use Rattle.thm_scoping.proofs.Keeping.{same_name_rib}
use Rattle.thm_scoping.proofs.Tops.{ribs-append, same_top}

module _ (store : Store) (source_map : SourceMap) (self : Option BindingId) (o : Orderly store) where
  same_tops : (rs : Open) (ps : Tops) (is : List PatId) (ms : List Mapping) → AllKnown store is
      → CorrespondsTops store source_map rs ps is ms
      → (below : List (Rib BindingId)) (ns : InScope) → SameRibs store source_map self below ns
      → SameRibs store source_map self (binding_ribs store (flat_map (bindings_in store) is) ++ below) (with_tops ps ns)
  same_tops rs [] is ms there h below ns same = subst
      (λ l. SameRibs store source_map self (binding_ribs store (flat_map (bindings_in store) l) ++ below) ns) (sym h.0) same
  same_tops rs (p ∷ ps) is ms there h below ns same =
      let q = h.0 in
      let lower = subst (λ l. AllKnown store l) h.2 there in
      let outer : List (Rib BindingId) = binding_ribs store (flat_map (bindings_in store) h.1) ++ below in
      let whole = ap (λ l. binding_ribs store (flat_map (bindings_in store) l) ++ below) h.2
      ∙ (ap (λ l. l ++ below) (ribs-append store source_map self o (bindings_in store q) (flat_map (bindings_in store) h.1))
      ∙ append_assoc (binding_ribs store (bindings_in store q)) (binding_ribs store (flat_map (bindings_in store) h.1)) below) in
      subst (λ l. SameRibs store source_map self l (with_tops (p ∷ ps) ns)) (sym whole)
      (subst (λ l. SameRibs store source_map self (binding_ribs store (bindings_in store q) ++ outer) l)
      (sym (append_assoc (top_names p) (flat_map top_names ps) ns))
      (same_top store source_map self o rs p q h.3.left lower.0 h.3.first outer (with_tops ps ns)
      (same_tops rs ps h.1 h.3.right lower.1 h.3.second below ns same)))

  same_self : (s : SelfFormal) (ms : List Mapping) → CorrespondsSelf store s self ms → (below : List (Rib BindingId)) (ns : InScope)
      → SameRibs store source_map self below ns
      → SameRibs store source_map self (binding_ribs store (option_to_list self) ++ below) (self_names s ++ ns)
  same_self tree.no_self ms h below ns same =
      subst (λ b. SameRibs store source_map self (binding_ribs store (option_to_list b) ++ below) ns) (sym h.0) same
  same_self (tree.disabled_self at by) ms h below ns same =
      subst (λ b. SameRibs store source_map self (binding_ribs store (option_to_list b) ++ below) ns) (sym h.0) same
  same_self (tree.self_formal at u w) ms h below ns same =
      let rib : binding_ribs store (option_to_list self) ≡ label_rib u.name u.hygiene h.0 ∷ [] =
      ap (λ b. binding_ribs store (option_to_list b)) h.1 ∙ ap (λ x. binding_rib store h.0 x ++ []) h.2 in
      subst (λ l. SameRibs store source_map self (l ++ below) (label_rib u.name u.hygiene self_name ∷ ns)) (sym rib)
      (same_name_rib store source_map self u.name u.hygiene h.0 self_name below ns h.1 same)

  same_outside : (s : SelfFormal) (rs : Open) (ps : Tops) (is : List PatId) (ms ns : List Mapping) → AllKnown store is
      → CorrespondsSelf store s self ms → CorrespondsTops store source_map rs ps is ns
      → SameAt store source_map self (outermost store self is) (outside s ps)
  same_outside s rs ps is ms ns there h k = record { names = all; items = all }
    where
      inner : SameRibs store source_map self (binding_ribs store (flat_map (bindings_in store) is) ++ []) (with_tops ps [])
      inner = same_tops rs ps is ns there k [] [] (λ contexts n s w. tt)

      whole : binding_ribs store (option_to_list self ++ flat_map (bindings_in store) is) ++ []
          ≡ binding_ribs store (option_to_list self) ++ (binding_ribs store (flat_map (bindings_in store) is) ++ [])
      whole = ap (λ l. l ++ []) (ribs-append store source_map self o (option_to_list self) (flat_map (bindings_in store) is))
          ∙ append_assoc (binding_ribs store (option_to_list self)) (binding_ribs store (flat_map (bindings_in store) is)) []

      all : SameRibs store source_map self (binding_ribs store (option_to_list self ++ flat_map (bindings_in store) is) ++ [])
          (self_names s ++ with_tops ps [])
      all = subst (λ l. SameRibs store source_map self l (self_names s ++ with_tops ps [])) (sym whole)
          (same_self s ms h (binding_ribs store (flat_map (bindings_in store) is) ++ []) (with_tops ps []) inner)

pub bodies_agree : BodiesAgree
bodies_agree store source_map owed skipped f e given range once nothing r c w stands =
    let body = r.corresponds.1 in
    let whole = named_whole store range given.0.1 once in
    let known = all_known store given.0.1 (given_there store range given.0.1 once) (given_whole store range given.0.1 once) in
    scopes_agree store source_map given.0.0 range whole nothing [] e r.root body.right body.second _ _
    (same_outside store source_map given.0.0 (orderly store range whole nothing) f.receiver [] _ given.0.1 body.first.left body.first.right
    known body.first.first body.first.second) c w stands
