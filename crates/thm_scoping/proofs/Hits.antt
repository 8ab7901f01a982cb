-- One name at a time: what is found where a pattern binds it, whatever is outside.
use Rattle.std.proofs.Common.{◌≡◌, ◌∙◌, refl, sym, ap, subst, Bool, true, false, ◌&&◌, if◌then◌else◌, ℕ, suc, List, [], ◌∷◌, ◌++◌}
use Rattle.std.proofs.Common.{Option, Some, None, append_assoc, map, slice_get, option_map, is_some, true≢false}
use Rattle.std.proofs.lemmas.Option.{same_Some, slice_get-map}
use Rattle.std.specs.List.{flat_map}
use Rattle.hir_binding.specs.declared.binding.BindingAnnotation.{BindingAnnotation}
use Rattle.hir_store.specs.Pointers.{Pointer}
use Rattle.hir_store.specs.Stored.{Store, SourceMap}
use Rattle.hir_store.specs.declared.ids.BindingId.{BindingId}
use Rattle.hir_store.specs.declared.ids.HygieneId.{HygieneId}
use Rattle.hir_store.specs.declared.ids.PatId.{PatId}
use Rattle.hir_store.specs.declared.name.Name.{Name}
use Rattle.hir_store.specs.declared.pat.Binding.{Binding}
use Rattle.hir_lower_scope.specs.ScopeRibs.{Rib, Sought, is_for, label_rib, number_found, reachable, search}
use Rattle.hir_env.specs.Answers.{Contexts}
use Rattle.hir_env.specs.ResolvedTree as tree
use Rattle.hir_env.specs.ResolvedTree.{OptionPat, Pat, PatLeaf, PatUnary, Pats, Use}
use Rattle.hir_base.specs.declared.op.RangeOp.{RangeOp}
use Rattle.spec_data.specs.Data as datum
use Rattle.spec_data.specs.Data.{OptionPatData, OptionSideData, PatData, PatShape, PathData, PatsData, absent_pattern, pat_at}
use Rattle.spec_data.specs.Patterns.{alternatives_data, first_uses, if_path, leaf_pattern, path_pattern_of, pattern_data, pattern_part_data}
use Rattle.spec_data.specs.Patterns.{patterns_data, range_shape, side_data, unary_pattern, uses_after, uses_after_each, uses_after_part}
use Rattle.spec_data.specs.Rule.{PathRead, data_of}
use Rattle.spec_data.specs.Uses.{FirstUses, first_use, is_of, number_of, use_of, with_use}
use Rattle.spec_data.specs.Written.{path_of}
use Rattle.spec_scopes.specs.Scopes.{binding_rib, binding_ribs}
use Rattle.spec_scoping.specs.Bound.{InScope, Meaning, name_in, name_rib, names_of, names_of_each, names_of_part}
use Rattle.thm_body_result.specs.Corresponds.{NamesOf}
use Rattle.thm_body_result.specs.CorrespondsReads.{made_for}
use Rattle.thm_scoping.specs.Meant.{Means, MeansSame}
use Rattle.thm_scoping.proofs.Keeping.{Pairs}
use Rattle.thm_scoping.proofs.Patterns.{is_binding, shape_of}

abbrev pub names_at : OptionPat → List ℕ → InScope
names_at p js = flat_map (λ k. name_rib p k (slice_get (first_uses p) k)) js

-- a use has the number of the first use of its name
number_found_at : (us : FirstUses) (u : Use) → slice_get (with_use us u) (number_of us u) ≡ Some (first_use us u)
number_found_at [] u = refl
number_found_at (f ∷ us) u = by (is_of u.name u.hygiene f) (number_found_at us u)
  where
    by : (t : Bool) → slice_get (with_use us u) (number_of us u) ≡ Some (first_use us u)
        → slice_get (if t then f ∷ us else f ∷ with_use us u) (if t then 0 else suc (number_of us u))
        ≡ Some (if t then f else first_use us u)
    by true rest = refl
    by false rest = rest

-- A pattern that is a name as a whole binds this name first.
pub record BindsFirst (us after : FirstUses) (numbers : List ℕ) (n : Name) (h : HygieneId) : Type 0 where
  pub k : ℕ
  pub more : List ℕ
  pub numbered : numbers ≡ k ∷ more
  pub first : Use
  pub found : slice_get after k ≡ Some first
  pub name : first.name ≡ n
  pub hygiene : first.hygiene ≡ h

abbrev pub binds_as : PatData → Name → HygieneId → Type 0
binds_as D n h = (mode : BindingAnnotation) × (sub : OptionPatData) × (shape_of D ≡ datum.bind_pattern n h mode sub)

not_binding : {A : Type 0} (D : PatData) (n : Name) (h : HygieneId) → is_binding (shape_of D) ≡ false → binds_as D n h → A
not_binding D n h negative b = absurd (true≢false (sym (ap is_binding b.2) ∙ negative))

leaf_no : (form : PatLeaf) → is_binding (leaf_pattern form) ≡ false
leaf_no tree.wild_leaf = refl
leaf_no tree.rest_leaf = refl
leaf_no tree.not_null_leaf = refl
leaf_no tree.broken_leaf = refl

path_no : (o : Option PathRead) → is_binding (path_pattern_of o) ≡ false
path_no None = refl
path_no (Some p) = refl

unary_no : (form : PatUnary) (D : PatData) → is_binding (unary_pattern form D) ≡ false
unary_no (tree.ref_to m) D = refl
unary_no tree.box_of D = refl
unary_no tree.deref_of D = refl

range_no : (op : Option RangeOp) (low high : OptionSideData) → is_binding (range_shape op low high) ≡ false
range_no None low high = refl
range_no (Some op) low high = refl

abbrev bound_name : PatShape → Name → Name
bound_name (datum.bind_pattern n h mode sub) m = n
bound_name shape m = m

abbrev bound_hygiene : PatShape → HygieneId → HygieneId
bound_hygiene (datum.bind_pattern n h mode sub) y = h
bound_hygiene shape y = y

abbrev is_empty : PatsData → Bool
is_empty datum.no_patterns = true
is_empty (datum.more_patterns p ps) = false

nothing_after : (ps : Pats) (us : FirstUses) → patterns_data ps us ≡ datum.no_patterns → uses_after_each ps us ≡ us
nothing_after tree.no_pats us e = refl
nothing_after (tree.more_pats p ps) us e = absurd (true≢false (sym (ap is_empty e)))
nothing_after (tree.tracked_pats called ps) us e = nothing_after ps us e

-- one alternative alone, or none
abbrev alone : PatsData → Option PatData
alone (datum.more_patterns p datum.no_patterns) = Some p
alone ps = None

alternatives_bind : (at : Pointer) (D : PatsData) (n : Name) (h : HygieneId) → binds_as (alternatives_data at D) n h
    → (p : PatData) × (D ≡ datum.more_patterns p datum.no_patterns) × binds_as p n h
alternatives_bind at datum.no_patterns n h b = not_binding (pat_at (Some at) (datum.or_pattern datum.no_patterns)) n h refl b
alternatives_bind at (datum.more_patterns p datum.no_patterns) n h b = (p, refl, b)
alternatives_bind at (datum.more_patterns p (datum.more_patterns q ps)) n h b =
    not_binding (pat_at (Some at) (datum.or_pattern (datum.more_patterns p (datum.more_patterns q ps)))) n h refl b

abbrev head_of : PatData → PatsData → PatData
head_of D datum.no_patterns = D
head_of D (datum.more_patterns p ps) = p

abbrev rest_of : PatsData → PatsData
rest_of datum.no_patterns = datum.no_patterns
rest_of (datum.more_patterns p ps) = ps

if_path_no : {A : Type 0} (q : Option PathRead) (f : PathData → PatData) (n : Name) (h : HygieneId)
    → ((d : PathData) → is_binding (shape_of (f d)) ≡ false) → binds_as (if_path q f absent_pattern) n h → A
if_path_no None f n h negative b = not_binding absent_pattern n h refl b
if_path_no (Some q) f n h negative b = not_binding (f (data_of q)) n h (negative (data_of q)) b

-- from one alternative to all, of which it is the only one
all_of_first : (one all after : FirstUses) (us : FirstUses) (js more : List ℕ) (n : Name) (h : HygieneId) → after ≡ one
    → BindsFirst us one js n h → BindsFirst us after (js ++ more) n h
all_of_first one all after us js more n h same b = record {
  k = b.k;
  more = b.more ++ more;
  numbered = ap (λ l. l ++ more) b.numbered;
  first = b.first;
  found = ap (λ l. slice_get l b.k) same ∙ b.found;
  name = b.name;
  hygiene = b.hygiene;
}

mutual
  pub binds_first : (p : Pat) (us : FirstUses) (n : Name) (h : HygieneId) → binds_as (pattern_data p us) n h
      → BindsFirst us (uses_after p us) (names_of p us) n h
  binds_first (tree.leaf_pat at form) us n h b = not_binding (pat_at (Some at) (leaf_pattern form)) n h (leaf_no form) b
  binds_first (tree.bind_pat at u _ sub) us n h b =
      let before = uses_after_part sub us in
      record {
        k = number_of before u;
        more = names_of_part sub us;
        numbered = refl;
        first = first_use before u;
        found = number_found_at before u;
        name = ap (λ s. bound_name s n) b.2;
        hygiene = ap (λ s. bound_hygiene s h) b.2;
      }
  binds_first (tree.name_pat at u k) us n h b = not_binding (pattern_data (tree.name_pat at u k) us) n h refl b
  binds_first (tree.path_pat at p) us n h b = not_binding (pat_at (Some at) (path_pattern_of (path_of p))) n h (path_no (path_of p)) b
  binds_first (tree.tuple_struct_pat at p comma ps) us n h b = if_path_no (path_of p) _ n h (λ d. refl) b
  binds_first (tree.tuple_pat at comma ps) us n h b = not_binding (pattern_data (tree.tuple_pat at comma ps) us) n h refl b
  binds_first (tree.record_pat at p fs dots) us n h b = if_path_no (path_of p) _ n h (λ d. refl) b
  binds_first (tree.or_pat at ps) us n h b =
      let one = alternatives_bind at (patterns_data ps us) n h b in
      only_binds ps us one.0 n h one.1 one.2
  binds_first (tree.paren_pat at p) us n h b = part_binds p us n h b
  binds_first (tree.macro_pat at called p) us n h b = part_binds p us n h b
  binds_first (tree.barred_pat at) us n h b = not_binding absent_pattern n h refl b
  binds_first (tree.slice_pat at before middle behind) us n h b =
      not_binding (pattern_data (tree.slice_pat at before middle behind) us) n h refl b
  binds_first (tree.over_pat at form p) us n h b =
      not_binding (pat_at (Some at) (unary_pattern form (pattern_part_data p us))) n h (unary_no form (pattern_part_data p us)) b
  binds_first (tree.literal_pat at own l) us n h b = not_binding (pattern_data (tree.literal_pat at own l) us) n h refl b
  binds_first (tree.range_pat at op low high) us n h b =
      not_binding (pat_at (Some at) (range_shape op (side_data low) (side_data high))) n h (range_no op (side_data low) (side_data high)) b

  pub part_binds : (p : OptionPat) (us : FirstUses) (n : Name) (h : HygieneId) → binds_as (pattern_part_data p us) n h
      → BindsFirst us (uses_after_part p us) (names_of_part p us) n h
  part_binds tree.no_pat us n h b = not_binding absent_pattern n h refl b
  part_binds (tree.some_pat p) us n h b = binds_first p us n h b

  only_binds : (ps : Pats) (us : FirstUses) (D : PatData) (n : Name) (h : HygieneId)
      → patterns_data ps us ≡ datum.more_patterns D datum.no_patterns → binds_as D n h
      → BindsFirst us (uses_after_each ps us) (names_of_each ps us) n h
  only_binds tree.no_pats us D n h e b = absurd (true≢false (ap is_empty e))
  only_binds (tree.more_pats p ps) us D n h e b =
      all_of_first (uses_after p us) us (uses_after_each ps (uses_after p us)) us (names_of p us) (names_of_each ps (uses_after p us)) n h
      (nothing_after ps (uses_after p us) (ap rest_of e))
      (binds_first p us n h (subst (λ (d : PatData). binds_as d n h) (sym (ap (λ ds. head_of D ds) e)) b))
  only_binds (tree.tracked_pats called ps) us D n h e b = only_binds ps us D n h e b

-- one name

module _ (store : Store) (source_map : SourceMap) (self : Option BindingId) (contexts : Contexts) (n : Name) (s : Sought) where
  abbrev pub MeansAt : List (Rib BindingId) → InScope → Type 0
  MeansAt rs ns = MeansSame store source_map self (number_found (search contexts n s rs)) (number_found (search contexts n s ns))

  rib_at : (m : Name) (y : HygieneId) (b : BindingId) (k : Meaning) (rs : List (Rib BindingId)) (ns : InScope)
      → Means store source_map self b k → MeansAt rs ns → MeansAt (label_rib m y b ∷ rs) (label_rib m y k ∷ ns)
  rib_at m y b k rs ns means h = by (is_for n s m y)
    where
      by : (t : Bool) → MeansSame store source_map self
          (number_found (if t then reachable b else search contexts n s rs))
          (number_found (if t then reachable k else search contexts n s ns))
      by true = means
      by false = h

  hit_at : (m : Name) (y : HygieneId) (b : BindingId) (k : Meaning) (rs : List (Rib BindingId)) (ns : InScope)
      → is_for n s m y ≡ true → Means store source_map self b k → MeansAt (label_rib m y b ∷ rs) (label_rib m y k ∷ ns)
  hit_at m y b k rs ns is means = by (is_for n s m y) is
    where
      by : (t : Bool) → t ≡ true → MeansSame store source_map self
          (number_found (if t then reachable b else search contexts n s rs))
          (number_found (if t then reachable k else search contexts n s ns))
      by true e = means
      by false e = absurd (true≢false (sym e))

  -- one that is not sought is passed
  pub passed_at : (m : Name) (y : HygieneId) (b : BindingId) (rs : List (Rib BindingId)) (ns : InScope) → is_for n s m y ≡ false
      → MeansAt rs ns → MeansAt (label_rib m y b ∷ rs) ns
  passed_at m y b rs ns off h = by (is_for n s m y) off
    where
      by : (t : Bool) → t ≡ false → MeansSame store source_map self
          (number_found (if t then reachable b else search contexts n s rs)) (number_found (search contexts n s ns))
      by true e = absurd (true≢false e)
      by false e = h

  module _ (p : OptionPat) (q : PatId) (ks : List BindingId) (names : NamesOf store source_map p q ks) where
    made_alike : (k : ℕ) (b : BindingId) → slice_get ks k ≡ Some b
        → option_map Some (slice_get (first_uses p) k) ≡ Some (made_for store b)
    made_alike k b found = sym (slice_get-map Some (first_uses p) k) ∙ (ap (λ l. slice_get l k) (sym names.one_for_each)
        ∙ (slice_get-map (made_for store) ks k ∙ ap (λ x. option_map (made_for store) x) found))

    pair_at : (k : ℕ) (b : BindingId) (rs : List (Rib BindingId)) (ns : InScope) → slice_get ks k ≡ Some b → MeansAt rs ns
        → MeansAt (binding_rib store b (slice_get store.bindings b.0) ++ rs) (name_rib p k (slice_get (first_uses p) k) ++ ns)
    pair_at k b rs ns found h = go (slice_get (first_uses p) k) (slice_get store.bindings b.0) (made_alike k b found)
      where
        go : (u : Option Use) (x : Option Binding) → option_map Some u ≡ Some (option_map use_of x)
            → MeansAt (binding_rib store b x ++ rs) (name_rib p k u ++ ns)
        go None x e = absurd (true≢false (sym (ap is_some e)))
        go (Some u) None e = absurd (true≢false (ap is_some (same_Some _ _ e)))
        go (Some u) (Some x) e = subst
            (λ (v : Use). MeansAt (label_rib x.name x.hygiene b ∷ rs) (label_rib v.name v.hygiene (name_in p k) ∷ ns))
            (sym (same_Some _ _ (same_Some _ _ e)))
            (rib_at x.name x.hygiene b (name_in p k) rs ns (record { pattern = q; bindings = ks; names = names; is = found }) h)

    pub pairs_at : (bs : List BindingId) (js : List ℕ) (rs : List (Rib BindingId)) (ns : InScope) → Pairs ks bs js → MeansAt rs ns
        → MeansAt (binding_ribs store bs ++ rs) (names_at p js ++ ns)
    pairs_at [] [] rs ns pairs h = h
    pairs_at [] (k ∷ js) rs ns pairs h = absurd pairs
    pairs_at (b ∷ bs) [] rs ns pairs h = absurd pairs
    pairs_at (b ∷ bs) (k ∷ js) rs ns pairs h = rw (
      append_assoc (binding_rib store b (slice_get store.bindings b.0)) (binding_ribs store bs) rs,
      append_assoc (name_rib p k (slice_get (first_uses p) k)) (names_at p js) ns,
    )
        (pair_at k b (binding_ribs store bs ++ rs) (names_at p js ++ ns) pairs.0 (pairs_at bs js rs ns pairs.1 h))

    -- Where the first name is the one that is sought it is found, whatever is outside.
    pub first_at : (bs : List BindingId) (js : List ℕ) (m : Name) (y : HygieneId) (rs : List (Rib BindingId)) (ns : InScope)
        → BindsFirst [] (first_uses p) js m y → Pairs ks bs js → is_for n s m y ≡ true
        → MeansAt (binding_ribs store bs ++ rs) (names_at p js ++ ns)
    first_at bs js m y rs ns first pairs is = by bs js first.numbered pairs
      where
        go : (b : BindingId) (x : Option Binding) (us : List (Rib BindingId)) (ms : InScope) → slice_get ks first.k ≡ Some b
            → option_map Some (Some first.first) ≡ Some (option_map use_of x)
            → MeansAt (binding_rib store b x ++ us) (name_rib p first.k (Some first.first) ++ ms)
        go b None us ms found e = absurd (true≢false (ap is_some (same_Some _ _ e)))
        go b (Some x) us ms found e =
            let same : first.first ≡ use_of x = same_Some _ _ (same_Some _ _ e) in
            subst (λ (v : Use). MeansAt (label_rib x.name x.hygiene b ∷ us) (label_rib v.name v.hygiene (name_in p first.k) ∷ ms))
            (sym same)
            (hit_at x.name x.hygiene b (name_in p first.k) us ms
            (ap (λ (v : Use). is_for n s v.name v.hygiene) (sym same)
            ∙ (ap (λ a. is_for n s a first.first.hygiene) first.name ∙ (ap (λ z. is_for n s m z) first.hygiene ∙ is)))
            (record { pattern = q; bindings = ks; names = names; is = found }))

        by : (bs : List BindingId) (js : List ℕ) → js ≡ first.k ∷ first.more → Pairs ks bs js
            → MeansAt (binding_ribs store bs ++ rs) (names_at p js ++ ns)
        by bs js same pairs = subst (λ l. MeansAt (binding_ribs store bs ++ rs) (names_at p l ++ ns)) (sym same)
            (split bs (subst (λ l. Pairs ks bs l) same pairs))
          where
            split : (bs : List BindingId) → Pairs ks bs (first.k ∷ first.more)
                → MeansAt (binding_ribs store bs ++ rs) (names_at p (first.k ∷ first.more) ++ ns)
            split [] pairs = absurd pairs
            split (b ∷ bs) pairs = rw (
              append_assoc (binding_rib store b (slice_get store.bindings b.0)) (binding_ribs store bs) rs,
              append_assoc (name_rib p first.k (slice_get (first_uses p) first.k)) (names_at p first.more) ns,
            )
                (subst (λ u. MeansAt (binding_rib store b (slice_get store.bindings b.0) ++ (binding_ribs store bs ++ rs))
                (name_rib p first.k u ++ (names_at p first.more ++ ns))) (sym first.found)
                (go b (slice_get store.bindings b.0) (binding_ribs store bs ++ rs) (names_at p first.more ++ ns) pairs.0
                (ap (λ u. option_map Some u) (sym first.found) ∙ made_alike first.k b pairs.0)))
