-- The body of a closure with `async` or `gen`, behind the `let`s of its parameters.
use Rattle.std.proofs.Common.{◌≡◌, ◌∙◌, refl, sym, ap, subst, inl, inr, ◌⊎◌, ◌<◌, ℕ, Bool, true, false, true≢false, ◌&&◌, List, [], ◌∷◌}
use Rattle.std.proofs.Common.{◌++◌}
use Rattle.std.proofs.Common.{append_assoc, append-nil, length, map, Option, Some, None, option_to_list, slice_get}
use Rattle.std.specs.List.{flat_map}
use Rattle.std.proofs.lemmas.Grind.{flat_map-append}
use Rattle.hir_binding.specs.declared.binding.BindingAnnotation.{BindingAnnotation}
use Rattle.hir_binding.specs.declared.binding.BindingAnnotation.TheVariants as annotation
use Rattle.hir_binding.specs.declared.binding.BindingAnnotation.TheVariants.{Mutable}
use Rattle.hir_store.specs.Pointers.{Pointer}
use Rattle.hir_store.specs.Names.{IsWritten}
use Rattle.hir_store.specs.Stored.{Store, SourceMap}
use Rattle.hir_store.specs.Children.{statement_children}
use Rattle.hir_store.specs.declared.hir.CoroutineKind.{CoroutineKind}
use Rattle.hir_store.specs.declared.hir.Expr.TheVariants as hir
use Rattle.hir_store.specs.declared.hir.Statement.{Statement}
use Rattle.hir_store.specs.declared.hir.Statement.TheVariants as statement
use Rattle.hir_store.specs.declared.ids.BindingId.{BindingId}
use Rattle.hir_store.specs.declared.ids.ExprId.{ExprId}
use Rattle.hir_store.specs.declared.ids.HygieneId.{HygieneId}
use Rattle.hir_store.specs.declared.ids.PatId.{PatId}
use Rattle.hir_store.specs.declared.name.Name.{Name}
use Rattle.hir_store.specs.declared.name.Name.TheVariants as name
use Rattle.hir_store.specs.declared.pat.Pat.TheVariants as pat
use Rattle.hir_lower_scope.specs.ScopeRibs.{Rib, Sought, is_for, label_rib}
use Rattle.hir_env.specs.Answers.{Contexts}
use Rattle.hir_env.specs.ResolvedTree as tree
use Rattle.hir_env.specs.ResolvedTree.{OptionExpr, OptionPat, Params}
use Rattle.hir_walks.specs.Exprs.{statement_pats}
use Rattle.hir_walks.specs.Pats.{bindings_in}
use Rattle.spec_data.specs.Data as datum
use Rattle.spec_data.specs.Data.{OptionPatData, PatData, PatShape, pat_at}
use Rattle.spec_data.specs.Patterns.{first_uses, written_pat}
use Rattle.spec_data.specs.Preludes.{HandedIn, by_generated_name, by_its_name, by_mode, by_name, handed_in, source_of}
use Rattle.spec_data.specs.Tops.{Tops, params_tops}
use Rattle.spec_scopes.specs.Placed.{Among, Sees, Spot, after_part, in_scope, inside, past_statement, placed_block}
use Rattle.spec_scopes.specs.Scopes.{Scopes, binding_rib, binding_ribs, binding_scope, block_scope, pat_scope, ribs_of}
use Rattle.spec_scoping.specs.Scoping.{Where, in_turn, naming, part}
use Rattle.spec_scoping.specs.Bound.{InScope, names_of_part, with_each, with_top}
use Rattle.thm_body_result.specs.Corresponds.{Corresponds, CorrespondsParams, CorrespondsPatPart, Open, WithNames}
use Rattle.thm_body_result.specs.CorrespondsMade.{StoredParams}
use Rattle.thm_body_result.specs.CorrespondsPreludes.{CorrespondsBind, CorrespondsHanded, CorrespondsLet, CorrespondsLetAs}
use Rattle.thm_body_result.specs.CorrespondsPreludes.{CorrespondsLets, CorrespondsRead}
use Rattle.thm_body_result.specs.CorrespondsPreludes.{CorrespondsTwoLets}
use Rattle.thm_body_result.specs.CorrespondsPreludes.{IsHandedBy, Named, let_from, the_name}
use Rattle.thm_body_result.specs.Forms.{path_of_name}
use Rattle.thm_body_result.specs.Leads.{Mapping}
use Rattle.thm_scoping.specs.Meant.{SameAt, SameNames}
use Rattle.thm_scoping.proofs.Orderly.{AllKnown, Known, Orderly, known_left, known_right}
use Rattle.thm_scoping.proofs.Afters.{part_passed}
use Rattle.thm_scoping.proofs.Contents.{block_end, block_split}
use Rattle.thm_scoping.proofs.Hits.{BindsFirst, MeansAt, binds_as, first_at, pairs_at, part_binds, passed_at}
use Rattle.thm_scoping.proofs.Keeping.{Pairs}
use Rattle.thm_scoping.proofs.Operands.{each_below_right, silent_after}
use Rattle.thm_scoping.proofs.Patterns.{shape_of}
use Rattle.thm_scoping.proofs.Steps.{AllSee, At, among_right, part_see}
use Rattle.thm_scoping.proofs.Tops.{one_step, ribs-append, top_pairs}

-- what a pattern that is handed in by a name binds

data_name : HandedIn → Name → Name
data_name (by_name n h) m = n
data_name (by_its_name n h) m = n
data_name by_generated_name m = m

abbrev binds_named : HandedIn → PatData → Type 0
binds_named (by_name n h) D = binds_as D n h
binds_named (by_its_name n h) D = binds_as D n h
binds_named by_generated_name D = Unit {0}

by_mode_binds : (mode : BindingAnnotation) (n : Name) (h : HygieneId) (D : PatData) → binds_as D n h → binds_named (by_mode mode n h) D
by_mode_binds annotation.Unannotated n h D b = b
by_mode_binds annotation.Mutable n h D b = b
by_mode_binds mode n h D b = b

handed_binds : (D : PatData) → binds_named (handed_in D) D
handed_binds (pat_at from (datum.bind_pattern n h mode datum.no_pattern)) =
    by_mode_binds mode n h (pat_at from (datum.bind_pattern n h mode datum.no_pattern)) (mode, datum.no_pattern, refl)
handed_binds (pat_at from (datum.bind_pattern n h mode (datum.some_pattern p))) = (mode, datum.some_pattern p, refl)
handed_binds D = tt

no_generated : (n : Name) (s : Sought) (k : ℕ) (h : HygieneId) → IsWritten n → is_for n s (name.Generated k) h ≡ false
no_generated (name.Text t) s k h w = refl
no_generated name.Missing s k h w = refl
no_generated (name.Generated i) s k h w = absurd w

module _ (store : Store) (source_map : SourceMap) (self : Option BindingId) (o : Orderly store) where
  -- a binding alone
  bind_ribs : (mode : BindingAnnotation) (x : Named) (from : Option Pointer) (q : PatId) (ms : List Mapping) → Known store q
      → CorrespondsBind store source_map mode x from q ms
      → (b : BindingId) × (binding_ribs store (bindings_in store q) ≡ label_rib x.name x.hygiene b ∷ [])
  bind_ribs mode x from q ms there h =
      let b = h.0 in (
        b,
        ap (λ l. binding_ribs store l) (one_step store source_map self o q (pat.Bind b None) h.1.stored there)
            ∙ ap (λ f. binding_rib store b f ++ []) h.2,
      )

  read_after : (x : Named) (i : ExprId) (ms : List Mapping) → CorrespondsRead store source_map x i ms → (g : ExprId) (ss : Scopes)
      → after_part store g i ss ≡ ss
  read_after x i ms h g ss = part_passed store g i ss (silent_after store source_map self i _ h.0.stored (λ f ts. refl) ss)

  end-append : (g : ExprId → Scopes → Scopes) (as' bs : List Statement) (x : Spot)
      → block_end store source_map self o g (as' ++ bs) x ≡ block_end store source_map self o g bs
      (block_end store source_map self o g as' x)
  unfolding block_end
  end-append g [] bs x = refl
  end-append g (a ∷ as') bs x = end-append g as' bs (past_statement store g a x)

  -- What stands behind the `let`s of one parameter: the names of its pattern, and maybe the name that it is handed in by.
  record Behind (q : PatId) (x : Named) (rs below : List (Rib BindingId)) : Type 0 where
    between : List (Rib BindingId)
    are : rs ≡ binding_ribs store (bindings_in store q) ++ (between ++ below)
    is_handed : (between ≡ []) ⊎ ((b : BindingId) × (between ≡ label_rib x.name x.hygiene b ∷ []))

  one_let : (x : Named) (q : PatId) (own : List Statement) (ms : List Mapping) (g : ExprId) (y : Spot)
      → CorrespondsLet store source_map x q own ms
      → Behind q x (ribs_of store (block_end store source_map self o (after_part store g) own y).names) (ribs_of store y.names)
  unfolding block_end
  one_let x q own ms g y h = record {
    between = [];
    are = ap (λ l. ribs_of store (block_end store source_map self o (after_part store g) l y).names) h.1
        ∙ ap (λ ss. binding_ribs store (bindings_in store q) ++ ribs_of store ss) (read_after x h.0 ms h.2 g y.names);
    is_handed = inl refl;
  }

  two_lets : (x : Named) (from : Option Pointer) (q : PatId) (own : List Statement) (ms : List Mapping) (g : ExprId) (y : Spot)
      → AllKnown store (flat_map statement_pats own) → CorrespondsTwoLets store source_map x from q own ms
      → Behind q x (ribs_of store (block_end store source_map self o (after_part store g) own y).names) (ribs_of store y.names)
  unfolding block_end
  two_lets x from q own ms g y there h =
      let lower = subst (λ l. AllKnown store (flat_map statement_pats l)) h.3 there in
      let rib = bind_ribs Mutable x from h.0 h.4.left lower.0 h.4.first in
      let inner : Scopes = pat_scope store h.0 ∷ after_part store g h.1 y.names in
      record {
        between = binding_ribs store (bindings_in store h.0);
        are = ap (λ l. ribs_of store (block_end store source_map self o (after_part store g) l y).names) h.3
            ∙ (ap (λ ss. binding_ribs store (bindings_in store q) ++ ribs_of store ss)
            (read_after x h.2 h.4.second.right h.4.second.second g inner)
            ∙ ap (λ ss. binding_ribs store (bindings_in store q) ++ (binding_ribs store (bindings_in store h.0) ++ ribs_of store ss))
            (read_after x h.1 h.4.second.left h.4.second.first g y.names));
        is_handed = inr rib;
      }

  lets_behind : (hd : HandedIn) (x : Named) (from : Option Pointer) (q : PatId) (own : List Statement) (ms : List Mapping) (g : ExprId)
      (y : Spot) → AllKnown store (flat_map statement_pats own) → CorrespondsLetAs store source_map hd x from q own ms
      → Behind q x (ribs_of store (block_end store source_map self o (after_part store g) own y).names) (ribs_of store y.names)
  lets_behind (by_name n h) x from q own ms g y there c = one_let x q own ms g y c
  lets_behind (by_its_name n h) x from q own ms g y there c = two_lets x from q own ms g y there c
  lets_behind by_generated_name x from q own ms g y there c = two_lets x from q own ms g y there c

  let_there : (hd : HandedIn) (x : Named) (from : Option Pointer) (q : PatId) (own : List Statement) (ms : List Mapping)
      → AllKnown store (flat_map statement_pats own) → CorrespondsLetAs store source_map hd x from q own ms
      → Known store q
  let_there (by_name n h) x from q own ms there c = (subst (λ l. AllKnown store (flat_map statement_pats l)) c.1 there).0
  let_there (by_its_name n h) x from q own ms there c =
      (subst (λ l. AllKnown store (flat_map statement_pats l)) c.3 there).1.0
  let_there by_generated_name x from q own ms there c =
      (subst (λ l. AllKnown store (flat_map statement_pats l)) c.3 there).1.0

  module _ (contexts : Contexts) (n : Name) (s : Sought) (written : IsWritten n) where
    abbrev Here : List (Rib BindingId) → InScope → Type 0
    Here rs ns = MeansAt store source_map self contexts n s rs ns

    -- the name is one that a parameter is still to be handed in by
    Pending : List Named → Type 0
    Pending [] = ⊥
    Pending (x ∷ xs) = (is_for n s x.name x.hygiene ≡ true) ⊎ Pending xs

    abbrev So : List Named → List (Rib BindingId) → InScope → Type 0
    So xs rs ns = Here rs ns ⊎ Pending xs

    handed_so : (xs : List Named) (ys : List PatData) (is : List PatId) (ms : List Mapping) (rs : List (Rib BindingId)) (ns : InScope)
        → CorrespondsHanded store source_map xs ys is ms → AllKnown store is → Here rs ns
        → So xs (binding_ribs store (flat_map (bindings_in store) is) ++ rs) ns
    unfolding Pending
    handed_so [] [] is ms rs ns h there same =
        inl (subst (λ l. Here (binding_ribs store (flat_map (bindings_in store) l) ++ rs) ns) (sym h.0) same)
    handed_so [] (y ∷ ys) is ms rs ns h there same = absurd h
    handed_so (x ∷ xs) [] is ms rs ns h there same = absurd h
    handed_so (x ∷ xs) (y ∷ ys) is ms rs ns h there same =
        let q = h.0 in
        let lower = subst (λ l. AllKnown store l) h.2 there in
        let rib = bind_ribs Mutable x (source_of y) q h.3.left lower.0 h.3.first in
        let outer = binding_ribs store (flat_map (bindings_in store) h.1) ++ rs in
        let whole = ap (λ l. binding_ribs store (flat_map (bindings_in store) l) ++ rs) h.2
        ∙ (ap (λ l. l ++ rs) (ribs-append store source_map self o (bindings_in store q) (flat_map (bindings_in store) h.1))
        ∙ (append_assoc (binding_ribs store (bindings_in store q)) (binding_ribs store (flat_map (bindings_in store) h.1)) rs
        ∙ ap (λ l. l ++ outer) rib.1)) in
        subst (λ l. So (x ∷ xs) l ns) (sym whole)
        (by (is_for n s x.name x.hygiene) refl rib.0 outer (handed_so xs ys h.1 h.3.right rs ns h.3.second lower.1 same))
      where
        by : (t : Bool) → is_for n s x.name x.hygiene ≡ t → (b : BindingId) (out : List (Rib BindingId)) → So xs out ns
            → So (x ∷ xs) (label_rib x.name x.hygiene b ∷ out) ns
        by true is b out rest = inr (inl is)
        by false off b out (inl m) = inl (passed_at store source_map self contexts n s x.name x.hygiene b out ns off m)
        by false off b out (inr k) = inr (inr k)

    -- the pattern that was handed in by the name binds it
    found_in : (p : OptionPat) (q : PatId) (rs : Open) (ms : List Mapping) (x : Named) (hd : HandedIn) (below : List (Rib BindingId))
        (ns : InScope) → Known store q
        → WithNames store source_map p (λ ks. CorrespondsPatPart store source_map ks rs p [] q) q ms
        → binds_named hd (written_pat p) → IsHandedBy hd x → is_for n s x.name x.hygiene ≡ true
        → Here (binding_ribs store (bindings_in store q) ++ below) (with_top p ns)
    found_in p q rs ms x (by_name m y) below ns there h binds handed is =
        first_at store source_map self contexts n s p q h.0 h.1 (bindings_in store q) (names_of_part p []) m y below ns
        (part_binds p [] m y binds) (top_pairs store source_map self o h.0 rs p q ms there h.1 h.2)
        (ap (λ (z : Named). is_for n s z.name z.hygiene) (sym handed) ∙ is)
    found_in p q rs ms x (by_its_name m y) below ns there h binds handed is =
        first_at store source_map self contexts n s p q h.0 h.1 (bindings_in store q) (names_of_part p []) m y below ns
        (part_binds p [] m y binds) (top_pairs store source_map self o h.0 rs p q ms there h.1 h.2)
        (ap (λ (z : Named). is_for n s z.name z.hygiene) (sym handed) ∙ is)
    found_in p q rs ms x by_generated_name below ns there h binds handed is = absurd (true≢false (sym is
        ∙ (ap (λ (z : Named). is_for n s z.name z.hygiene) handed.1 ∙ no_generated n s handed.0 _ written)))

    -- behind the `let` of one parameter
    bound_so : (p : OptionPat) (q : PatId) (rs : Open) (ms : List Mapping) (x : Named) (xs : List Named)
        (between below : List (Rib BindingId))
        (ns : InScope) → Known store q
        → WithNames store source_map p (λ ks. CorrespondsPatPart store source_map ks rs p [] q) q ms
        → IsHandedBy (handed_in (written_pat p)) x
        → (is_for n s x.name x.hygiene ≡ false → Here below ns → Here (between ++ below) ns)
        → So (x ∷ xs) below ns → So xs (binding_ribs store (bindings_in store q) ++ (between ++ below)) (with_top p ns)
    unfolding Pending
    bound_so p q rs ms x xs between below ns there h handed passes so = by (is_for n s x.name x.hygiene) refl so
      where
        by : (t : Bool) → is_for n s x.name x.hygiene ≡ t → So (x ∷ xs) below ns
            → So xs (binding_ribs store (bindings_in store q) ++ (between ++ below)) (with_top p ns)
        by true is so = inl (found_in p q rs ms x (handed_in (written_pat p)) (between ++ below) ns there h
            (handed_binds (written_pat p)) handed is)
        by false off (inl m) = inl (pairs_at store source_map self contexts n s p q h.0 h.1 (bindings_in store q) (names_of_part p [])
            (between ++ below) ns (top_pairs store source_map self o h.0 rs p q ms there h.1 h.2) (passes off m))
        by false off (inr (inl is)) = absurd (true≢false (sym is ∙ off))
        by false off (inr (inr k)) = inr k

    none_so : (xs : List Named) (lets : List Statement) (ms : List Mapping) (g : ExprId) (y : Spot) (ns : InScope)
        → CorrespondsLets store source_map xs [] [] lets ms → So xs (ribs_of store y.names) ns
        → Here (ribs_of store (block_end store source_map self o (after_part store g) lets y).names) ns
    unfolding Pending block_end
    none_so [] lets ms g y ns h (inl m) =
        subst (λ l. Here (ribs_of store (block_end store source_map self o (after_part store g) l y).names) ns) (sym h.0) m
    none_so [] lets ms g y ns h (inr k) = absurd k
    none_so (x ∷ xs) lets ms g y ns h so = absurd h

    one_so : (p : OptionPat) (q : PatId) (rs : Open) (ms : List Mapping) (x : Named) (xs : List Named) (names below : List (Rib BindingId))
        (ns : InScope) → Known store q
        → WithNames store source_map p (λ ks. CorrespondsPatPart store source_map ks rs p [] q) q ms
        → IsHandedBy (handed_in (written_pat p)) x → Behind q x names below → So (x ∷ xs) below ns → So xs names (with_top p ns)
    one_so p q rs ms x xs names below ns there h handed b so = subst (λ l. So xs l (with_top p ns)) (sym b.are)
        (bound_so p q rs ms x xs b.between below ns there h handed (λ off m. passes b.is_handed off m) so)
      where
        passes : (b.between ≡ []) ⊎ ((c : BindingId) × (b.between ≡ label_rib x.name x.hygiene c ∷ []))
            → is_for n s x.name x.hygiene ≡ false
            → Here below ns → Here (b.between ++ below) ns
        passes (inl none) off m = subst (λ l. Here (l ++ below) ns) (sym none) m
        passes (inr one) off m = subst (λ l. Here (l ++ below) ns) (sym one.1)
            (passed_at store source_map self contexts n s x.name x.hygiene one.0 below ns off m)

    lets_so : (params : Params) (l : StoredParams) (rs : Open) (ms : List Mapping) (xs : List Named) (lets : List Statement)
        (ks : List Mapping) (g : ExprId) (y : Spot) (ns : InScope)
        → AllKnown store (flat_map statement_pats lets)
        → CorrespondsParams store source_map rs params l ms
        → CorrespondsLets store source_map xs (map written_pat (params_tops params)) l.0 lets ks
        → So xs (ribs_of store y.names) ns
        → Here (ribs_of store (block_end store source_map self o (after_part store g) lets y).names) (with_each (params_tops params) ns)
    lets_so tree.no_params l rs ms xs lets ks g y ns known h c so = none_so xs lets ks g y ns
        (subst (λ (k : StoredParams). CorrespondsLets store source_map xs [] k.0 lets ks) h.0 c) so
    lets_so (tree.more_params (tree.disabled_param at by x) params) l rs ms xs lets ks g y ns known h c so =
        lets_so params l rs ms xs lets ks g y ns known h c so
    lets_so (tree.more_params (tree.param p t) params) l rs ms [] lets ks g y ns known h c so =
        absurd (subst (λ (k : StoredParams). CorrespondsLets store source_map []
        (map written_pat (params_tops (tree.more_params (tree.param p t) params)))
        k.0 lets ks) h.3 c)
    lets_so (tree.more_params (tree.param p t) params) l rs ms (x ∷ xs) lets ks g y ns known h c so =
        let d = subst (λ (k : StoredParams). CorrespondsLets store source_map (x ∷ xs)
        (map written_pat (params_tops (tree.more_params (tree.param p t) params))) k.0 lets ks) h.3 c in
        let split = subst (λ is. AllKnown store is) (flat_map-append statement_pats d.0 d.1)
        (subst (λ ss. AllKnown store (flat_map statement_pats ss)) d.2 known) in
        let own = flat_map statement_pats d.0 in
        let more = flat_map statement_pats d.1 in
        let z = block_end store source_map self o (after_part store g) d.0 y in
        let b = lets_behind (handed_in (written_pat p)) x (source_of (written_pat p)) h.0 d.0 d.4.left g y
        (known_left store own more split) d.4.first in
        let within = let_there (handed_in (written_pat p)) x (source_of (written_pat p)) h.0 d.0 d.4.left
        (known_left store own more split) d.4.first in
        let next = one_so p h.0 rs h.4.first.left x xs (ribs_of store z.names) (ribs_of store y.names) ns within h.4.first.first d.3 b so in
        subst (λ (v : Spot). Here (ribs_of store v.names) (with_each (params_tops params) (with_top p ns)))
        (sym (ap (λ ss. block_end store source_map self o (after_part store g) ss y) d.2 ∙ end-append (after_part store g) d.0 d.1 y))
        (lets_so params h.2 rs h.4.right xs d.1 d.4.right g z (with_top p ns) (known_right store own more split) h.4.second
        d.4.second next)

  own_items : (hd : HandedIn) (x : Named) (from : Option Pointer) (q : PatId) (own : List Statement) (ms : List Mapping)
      (g : ExprId → Scopes → Scopes) (y : Spot) → CorrespondsLetAs store source_map hd x from q own ms
      → (block_end store source_map self o g own y).items ≡ y.items
  unfolding block_end
  own_items (by_name n h) x from q own ms g y c = ap (λ l. (block_end store source_map self o g l y).items) c.1
  own_items (by_its_name n h) x from q own ms g y c = ap (λ l. (block_end store source_map self o g l y).items) c.3
  own_items by_generated_name x from q own ms g y c = ap (λ l. (block_end store source_map self o g l y).items) c.3

  end_items : (xs : List Named) (ys : List PatData) (ps : List PatId) (ss : List Statement) (ms : List Mapping)
      (g : ExprId → Scopes → Scopes)
      (y : Spot) → CorrespondsLets store source_map xs ys ps ss ms → (block_end store source_map self o g ss y).items ≡ y.items
  unfolding block_end
  end_items [] [] [] ss ms g y h = ap (λ l. (block_end store source_map self o g l y).items) h.0
  end_items (x ∷ xs) (d ∷ ys) (p ∷ ps) ss ms g y h =
      ap (λ l. (block_end store source_map self o g l y).items) h.2
      ∙ (ap (λ (z : Spot). z.items) (end-append g h.0 h.1 y)
      ∙ (end_items xs ys ps h.1 h.4.right g (block_end store source_map self o g h.0 y) h.4.second
      ∙ own_items (handed_in d) x (source_of d) p h.0 h.4.left g y h.4.first))
  end_items [] [] (p ∷ ps) ss ms g y h = absurd h
  end_items [] (d ∷ ys) ps ss ms g y h = absurd h
  end_items (x ∷ xs) [] ps ss ms g y h = absurd h
  end_items (x ∷ xs) (d ∷ ys) [] ss ms g y h = absurd h

  -- the body of such a closure, or of such a function, behind the `let`s
  pub body_same : (params : Params) (l : StoredParams) (rs : Open) (ms ks ns : List Mapping) (xs : List Named) (lets : List Statement)
      (formals : List PatId) (g : ExprId) (y : Spot) (w : Where) (outer : Scopes)
      → AllKnown store formals → AllKnown store (flat_map statement_pats lets)
      → CorrespondsParams store source_map rs params l ms
      → CorrespondsLets store source_map xs (map written_pat (params_tops params)) l.0 lets ks
      → CorrespondsHanded store source_map xs (map written_pat (params_tops params)) formals ns
      → SameNames store source_map self outer w.names → SameNames store source_map self y.items w.items
      → ribs_of store y.names ≡ binding_ribs store (flat_map (bindings_in store) formals) ++ ribs_of store outer
      → SameAt store source_map self (block_end store source_map self o (after_part store g) lets y)
      (naming w (with_each (params_tops params) w.names))
  body_same params l rs ms ks ns xs lets formals g y w outer there known h c handed names items are = record {
    names = λ contexts n s written. lets_so contexts n s written params l rs ms xs lets ks g y w.names known h c
        (subst (λ rs. So contexts n s written xs rs w.names) (sym are)
        (handed_so contexts n s written xs (map written_pat (params_tops params)) formals ns (ribs_of store outer) w.names handed there
        (names contexts n s written)));
    items = subst (λ ss. SameNames store source_map self ss w.items)
        (sym (end_items xs (map written_pat (params_tops params)) l.0 lets ks (after_part store g) y c)) items;
  }

  module _ (root : ExprId) (start : Spot) where
    pub coroutine_closure_see : (rs : Open) (at : Pointer) (kind : CoroutineKind) (moves : Bool) (xs : Params) (t : tree.OptionType)
        (e : OptionExpr) (i : ExprId) (ms : List Mapping) (w : Where)
        → Corresponds store source_map rs (tree.coroutine_closure_expr at kind moves xs t e) i ms
        → At store source_map self o root start i w
        → AllSee store source_map self o root start (in_turn (part e) (naming w (with_each (params_tops xs) w.names)))
    coroutine_closure_see rs at kind moves xs t e i ms w h a =
        let c = h.2 in
        let body = c.2 in
        let lets = c.4 in
        let block = c.5 in
        let coroutine = c.6 in
        let formals = c.7 in
        let owned = c.11.first.2 in
        let x = a.spot in
        let first : Spot = in_scope x (binding_scope (flat_map (bindings_in store) formals) ∷ x.names) in
        let second : Spot = in_scope first (binding_scope [] ∷ first.names) in
        let third : Spot = record { names = block_scope None None ∷ second.names; items = second.items } in
        let g = after_part store block in
        let closure_found = c.8.stored in
        let coroutine_found = c.10.around.stored in
        let block_found = c.10.inside.stored in
        let end = block_end store source_map self o g lets third in
        let at_coroutine : Sees store root start coroutine first =
        inside _ a.sees closure_found (inl refl) (o.parts i _ closure_found).0 in
        let at_block : Sees store root start block second =
        inside _ at_coroutine coroutine_found (inl refl) (o.parts coroutine _ coroutine_found).0 in
        let at_body : Sees store root start body end = inside _ at_block block_found
        (subst (λ l. Among body end l) (sym (block_split store source_map self o g lets (Some body) third))
        (among_right body end (placed_block store g lets None third) ((body, end) ∷ []) (inl refl)))
        (each_below_right block.0 (flat_map statement_children lets) (body ∷ []) (o.parts block _ block_found)).0 in
        part_see store source_map self o root start _ e body owned.second.second.left (naming w (with_each (params_tops xs) w.names))
        owned.second.second.first
        (record {
          spot = end;
          sees = at_body;
          same = body_same xs c.0 _ owned.left owned.second.second.second.left c.11.second.left c.3 lets formals block third w x.names
              (o.patterns_there i _ closure_found) (o.patterns_there block _ block_found) owned.first owned.second.second.second.first
              c.11.second.first a.same.names a.same.items refl;
        })
