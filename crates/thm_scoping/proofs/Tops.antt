-- The scopes that patterns open, as stored and as written.
use Rattle.std.proofs.Common.{arith, ◌≡◌, ◌∙◌, refl, sym, ap, subst, ◌<◌, ◌≤◌, ◌+◌, ℕ, suc, List, [], ◌∷◌, ◌++◌, append_assoc, append-nil}
use Rattle.std.proofs.Common.{Option, Some, None, slice_get, length}
use Rattle.std.specs.List.{flat_map}
use Rattle.hir_binding.specs.declared.binding.BindingAnnotation.{BindingAnnotation}
use Rattle.hir_store.specs.Stored.{Store, SourceMap}
use Rattle.hir_store.specs.declared.ids.BindingId.{BindingId}
use Rattle.hir_store.specs.declared.ids.HygieneId.{HygieneId}
use Rattle.hir_store.specs.declared.ids.PatId.{PatId}
use Rattle.hir_store.specs.declared.pat.Pat.{Pat as HirPat}
use Rattle.hir_store.specs.declared.pat.Pat.TheVariants as pat
use Rattle.hir_store.specs.declared.path.Path.{Path}
use Rattle.hir_env.specs.ResolvedTree as tree
use Rattle.hir_env.specs.ResolvedTree.{OptionPat, Params}
use Rattle.hir_walks.specs.Pats.{binding_at, bindings_in, pat_binding, pat_children, pats_to, with_parts}
use Rattle.hir_walks.proofs.WholeLemmas.{pats_in_whole, same_levels}
use Rattle.hir_lower_scope.specs.ScopeRibs.{Rib}
use Rattle.spec_data.specs.Reading.{entries, stored_pat}
use Rattle.spec_data.specs.Tops.{params_tops}
use Rattle.spec_scopes.specs.Scopes.{Scopes, binding_rib, binding_ribs, pat_scope, pats_scope, ribs_of}
use Rattle.spec_scoping.specs.Bound.{InScope, names_of_part, top_names, with_top, with_tops}
use Rattle.thm_body_result.specs.Corresponds.{CorrespondsParams, CorrespondsPatPart, NamesOf, Open, WithNames}
use Rattle.thm_body_result.specs.CorrespondsMade.{CorrespondsMadeBind, StoredParams}
use Rattle.thm_body_result.specs.Leads.{Mapping}
use Rattle.thm_scoping.specs.Meant.{SameNames, SameRibs}
use Rattle.thm_scoping.proofs.Orderly.{AllKnown, Known, Orderly}
use Rattle.thm_scoping.proofs.Keeping.{Pairs, same_generated, same_pairs}
use Rattle.thm_scoping.proofs.Patterns.{binds_found, part_pairs}

module _ (store : Store) (source_map : SourceMap) (self : Option BindingId) (o : Orderly store) where
  bindings_whole : (q : PatId) (d : ℕ) → Known store q → q.0 < d
      → bindings_in store q ≡ flat_map (binding_at store) (pats_to store d q)
  bindings_whole q d there less = ap (λ l. flat_map (binding_at store) l)
      (pats_in_whole store o.patterns q there.0 there.1 ∙ same_levels store o.patterns (suc q.0) d q (omega arith) less)

  pub top_pairs : (ks : List BindingId) (rs : Open) (p : OptionPat) (q : PatId) (ms : List Mapping) → Known store q
      → NamesOf store source_map p q ks → CorrespondsPatPart store source_map ks rs p [] q ms
      → Pairs ks (bindings_in store q) (names_of_part p [])
  unfolding stored_pat
  top_pairs ks rs p q ms there names h =
      let d : ℕ = length store.types + length store.pats in
      let less : q.0 < d = omega (arith, there.0) in
      subst (λ l. Pairs ks l (names_of_part p [])) (sym (bindings_whole q d there less))
      (part_pairs store source_map o.patterns ks p [] rs q ms d less h names.is_read)

  -- a top pattern on both sides
  pub same_top : (rs : Open) (p : OptionPat) (q : PatId) (ms : List Mapping) → Known store q
      → WithNames store source_map p (λ ks. CorrespondsPatPart store source_map ks rs p [] q) q ms
      → (below : List (Rib BindingId)) (ns : InScope) → SameRibs store source_map self below ns
      → SameRibs store source_map self (binding_ribs store (bindings_in store q) ++ below) (with_top p ns)
  same_top rs p q ms there h below ns same = same_pairs store source_map self p q h.0 (bindings_in store q)
      (names_of_part p []) below ns h.1
      (top_pairs h.0 rs p q ms there h.1 h.2) same

  pub ribs-append : (as' bs : List BindingId) → binding_ribs store (as' ++ bs) ≡ binding_ribs store as' ++ binding_ribs store bs
  ribs-append [] bs = refl
  ribs-append (a ∷ as') bs = ap (λ l. binding_rib store a (slice_get store.bindings a.0) ++ l) (ribs-append as' bs)
      ∙ sym (append_assoc (binding_rib store a (slice_get store.bindings a.0)) (binding_ribs store as') (binding_ribs store bs))

  -- the parameters of a closure on both sides
  pub same_params : (rs : Open) (xs : Params) (l : StoredParams) (ms : List Mapping) → AllKnown store l.0
      → CorrespondsParams store source_map rs xs l ms
      → (below : List (Rib BindingId)) (ns : InScope) → SameRibs store source_map self below ns
      → SameRibs store source_map self (binding_ribs store (flat_map (bindings_in store) l.0) ++ below) (with_tops (params_tops xs) ns)
  same_params rs tree.no_params l ms there h below ns same = subst
      (λ (k : StoredParams). SameRibs store source_map self (binding_ribs store (flat_map (bindings_in store) k.0) ++ below) ns)
      (sym h.0) same
  same_params rs (tree.more_params (tree.disabled_param at by x) xs) l ms there h below ns same =
      same_params rs xs l ms there h below ns same
  same_params rs (tree.more_params (tree.param p t) xs) l ms there h below ns same =
      let q = h.0 in
      let others = h.2 in
      let lower = subst (λ (k : StoredParams). AllKnown store k.0) h.3 there in
      let outer : List (Rib BindingId) = binding_ribs store (flat_map (bindings_in store) others.0) ++ below in
      let whole = ap (λ (k : StoredParams). binding_ribs store (flat_map (bindings_in store) k.0) ++ below) h.3
      ∙ (ap (λ l. l ++ below) (ribs-append (bindings_in store q) (flat_map (bindings_in store) others.0))
      ∙ append_assoc (binding_ribs store (bindings_in store q)) (binding_ribs store (flat_map (bindings_in store) others.0)) below) in
      subst (λ rs. SameRibs store source_map self rs (with_tops (params_tops (tree.more_params (tree.param p t) xs)) ns)) (sym whole)
      (subst (λ ns. SameRibs store source_map self (binding_ribs store (bindings_in store q) ++ outer) ns)
      (sym (append_assoc (top_names p) (flat_map top_names (params_tops xs)) ns))
      (same_top rs p q h.4.first.left lower.0 h.4.first.first outer (with_tops (params_tops xs) ns)
      (same_params rs xs others h.4.right lower.1 h.4.second below ns same)))

  -- patterns that lowering makes up

  pub one_step : (q : PatId) (f : HirPat) → slice_get store.pats q.0 ≡ Some f → Known store q
      → bindings_in store q ≡ pat_binding f ++ flat_map (binding_at store) (flat_map (pats_to store q.0) (pat_children f))
  one_step q f found there = bindings_whole q (suc q.0) there (omega arith) ∙ binds_found store source_map o.patterns [] q.0 q f found

  -- a name that is made up
  pub same_made : (mode : BindingAnnotation) (n : ℕ) (q : PatId) (ms : List Mapping) → Known store q
      → CorrespondsMadeBind store source_map mode n q ms
      → (below : List (Rib BindingId)) (ns : InScope) → SameRibs store source_map self below ns
      → SameRibs store source_map self (binding_ribs store (bindings_in store q) ++ below) ns
  same_made mode n q ms there h below ns same =
      let b = h.0 in
      let alone : bindings_in store q ≡ b ∷ [] = one_step q (pat.Bind b None) h.1.stored there in
      let rib : binding_ribs store (bindings_in store q) ≡ binding_ribs store (b ∷ []) = ap (λ l. binding_ribs store l) alone in
      subst (λ l. SameRibs store source_map self (l ++ below) ns) (sym rib)
      (subst (λ x. SameRibs store source_map self ((binding_rib store b x ++ []) ++ below) ns) (sym h.2)
      (same_generated store source_map self n _ b below ns same))

  one_inside : (q p : PatId) (path : Path) → slice_get store.pats q.0 ≡ Some (pat.TupleStruct path None (p ∷ []))
      → pats_to store (suc q.0) q ≡ q ∷ (pats_to store q.0 p ++ [])
  unfolding pats_to
  one_inside q p path found = ap (λ f. with_parts store q (pats_to store q.0) f) found

  -- a pattern of an item that holds another one
  pub inside_item : (path : Path) (q p : PatId) → slice_get store.pats q.0 ≡ Some (pat.TupleStruct path None (p ∷ []))
      → Known store q
      → Known store p × (bindings_in store q ≡ bindings_in store p)
  inside_item path q p found there =
      let lower = o.patterns q (pat.TupleStruct path None (p ∷ [])) found in
      let same = same_levels store o.patterns q.0 (suc p.0) p lower.0 (omega arith) in
      let inner = ap (λ l. length l) (one_inside q p path found ∙ ap (λ l. q ∷ l) (append-nil (pats_to store q.0 p) ∙ same)) in
      let within : Known store p = (omega (arith, there.0, lower.0), omega (arith, inner, there.1)) in (
        within,
        one_step q _ found there
            ∙ (ap (λ l. flat_map (binding_at store) l) (append-nil (pats_to store q.0 p)) ∙ sym (bindings_whole p q.0 within lower.0)),
      )

  -- an item alone binds nothing
  pub item_alone : (path : Path) (q : PatId) (h : HygieneId) → slice_get store.pats q.0 ≡ Some (pat.Path path h) → Known store q
      → bindings_in store q ≡ []
  item_alone path q h found there = one_step q (pat.Path path h) found there
