-- The bindings that stand in a stored pattern are those of the names that stand in the written one.
use Rattle.std.proofs.Common.{arith, ◌≡◌, ◌∙◌, refl, sym, ap, subst, ◌<◌, ◌≤◌, ℕ, zero, suc, Bool, true, false, List, [], ◌∷◌, ◌++◌, map}
use Rattle.std.proofs.Common.{Option, Some, None, slice_get, option_map, option_to_list, append-nil, is_some, true≢false, if◌then◌else◌}
use Rattle.std.specs.List.{flat_map}
use Rattle.std.proofs.lemmas.Grind.{flat_map-append}
use Rattle.hir_store.specs.Pointers.{Pointer}
use Rattle.hir_store.specs.Stored.{Store, SourceMap}
use Rattle.hir_store.specs.declared.ids.BindingId.{BindingId}
use Rattle.hir_store.specs.declared.ids.ExprId.{ExprId}
use Rattle.hir_store.specs.declared.path.Path.{Path}
use Rattle.hir_base.specs.declared.op.RangeOp.{RangeOp}
use Rattle.hir_store.specs.declared.ids.PatId.{PatId}
use Rattle.hir_store.specs.declared.name.Name.TheVariants as name
use Rattle.hir_store.specs.declared.pat.Binding.{Binding}
use Rattle.hir_store.specs.declared.pat.Pat.{Pat as HirPat}
use Rattle.hir_store.specs.declared.pat.Pat.TheVariants as pat
use Rattle.hir_store.specs.declared.pat.RecordFieldPat.{RecordFieldPat}
use Rattle.hir_env.specs.ResolvedTree as tree
use Rattle.hir_env.specs.ResolvedTree.{OptionPat, Pat, PatFields, PatLeaf, PatUnary, Pats, Use}
use Rattle.hir_store.specs.declared.name.Name.{Name}
use Rattle.hir_store.specs.declared.ids.HygieneId.{HygieneId}
use Rattle.hir_binding.specs.declared.binding.BindingAnnotation.{BindingAnnotation}
use Rattle.hir_walks.specs.Pats.{AllBelow, Descends, binding_at, field_pat, of_found, pat_binding, pat_children, pats_to, with_parts}
use Rattle.spec_data.specs.Data as datum
use Rattle.spec_data.specs.Data.{OptionPatData, PatData, PatFieldsData, PatShape, PatsData, absent_pattern, pat_at}
use Rattle.spec_data.specs.Patterns.{alternatives_data, behind_comma, bind_as, ellipsis_of, fields_data, if_path, is_dots}
use Rattle.spec_data.specs.Patterns.{leaf_pattern, patterns_data, pattern_data, pattern_part_data, path_pattern_of, range_shape}
use Rattle.spec_data.specs.Patterns.{side_data, subpattern_data, tuple_parts_data, unary_pattern, uses_after, uses_after_each}
use Rattle.spec_data.specs.Patterns.{uses_after_part}
use Rattle.spec_data.specs.Reading.{Readers, bind_layer, binding_found, name_layer, patterns_layer, pattern_fields_layer, pattern_found}
use Rattle.spec_data.specs.Reading.{pattern_layer, pattern_source, readers, subpattern_layer}
use Rattle.spec_data.specs.Rule.{PathRead, data_of}
use Rattle.spec_data.specs.Uses.{FirstUses, first_use, number_of}
use Rattle.spec_data.specs.Written.{path_of}
use Rattle.spec_scoping.specs.Bound.{names_of, names_of_each, names_of_fields, names_of_part}
use Rattle.thm_body_result.specs.Corresponds.{BehindFront, CorrespondsBefore, CorrespondsElements, CorrespondsPat, CorrespondsPatFields}
use Rattle.thm_body_result.specs.Corresponds.{CorrespondsPatPart}
use Rattle.thm_body_result.specs.Corresponds.{CorrespondsPats, CorrespondsSubpat, CorrespondsTuple, Open, OrIs, RangeIs, WherePath}
use Rattle.thm_body_result.specs.Forms.{pat_unary_form}
use Rattle.thm_body_result.specs.Leads.{Mapping, Mappings, No}
use Rattle.thm_scoping.proofs.Keeping.{Pairs, pairs-append}

-- data

abbrev pub shape_of : PatData → PatShape
shape_of (pat_at from shape) = shape

-- what holds no other pattern and no name
abbrev pub is_bare : PatShape → Bool
is_bare datum.missing_pattern = true
is_bare datum.wild_pattern = true
is_bare datum.rest_pattern = true
is_bare datum.not_null_pattern = true
is_bare (datum.path_pattern p h) = true
is_bare shape = false

abbrev pub listed : PatShape → PatsData
listed (datum.tuple_struct_pattern p ellipsis ps) = ps
listed (datum.tuple_pattern ellipsis ps) = ps
listed (datum.or_pattern ps) = ps
listed shape = datum.no_patterns

abbrev pub fielded : PatShape → PatFieldsData
fielded (datum.record_pattern p fs dots) = fs
fielded shape = datum.no_pattern_fields

abbrev pointed : PatShape → PatData
pointed (datum.ref_pattern m p) = p
pointed (datum.box_pattern p) = p
pointed (datum.deref_pattern p) = p
pointed shape = absent_pattern

abbrev pub sub_of : PatShape → OptionPatData
sub_of (datum.bind_pattern n h mode sub) = sub
sub_of (datum.slice_pattern before middle behind) = middle
sub_of shape = datum.no_pattern

abbrev pub front_of : PatShape → PatsData
front_of (datum.slice_pattern before middle behind) = before
front_of shape = datum.no_patterns

abbrev pub back_of : PatShape → PatsData
back_of (datum.slice_pattern before middle behind) = behind
back_of shape = datum.no_patterns

abbrev pub is_binding : PatShape → Bool
is_binding (datum.bind_pattern n h mode sub) = true
is_binding shape = false

abbrev pub first_of : PatsData → PatData
first_of (datum.more_patterns p ps) = p
first_of datum.no_patterns = absent_pattern

abbrev pub others_of : PatsData → PatsData
others_of (datum.more_patterns p ps) = ps
others_of datum.no_patterns = datum.no_patterns

abbrev pub first_field : PatFieldsData → PatData
first_field (datum.more_pattern_fields n p fs) = p
first_field datum.no_pattern_fields = absent_pattern

abbrev pub other_fields : PatFieldsData → PatFieldsData
other_fields (datum.more_pattern_fields n p fs) = fs
other_fields datum.no_pattern_fields = datum.no_pattern_fields

abbrev pub some_pat : OptionPatData → PatData
some_pat (datum.some_pattern p) = p
some_pat datum.no_pattern = absent_pattern

-- lists below a number

pub below_more : (m n : ℕ) (is : List PatId) → m ≤ n → AllBelow m is → AllBelow n is
below_more m n [] le below = tt
below_more m n (i ∷ is) le below = (omega (arith, le, below.0), below_more m n is le below.1)

pub below_left : (n : ℕ) (is js : List PatId) → AllBelow n (is ++ js) → AllBelow n is
below_left n [] js below = tt
below_left n (i ∷ is) js below = (below.0, below_left n is js below.1)

pub below_right : (n : ℕ) (is js : List PatId) → AllBelow n (is ++ js) → AllBelow n js
below_right n [] js below = below
below_right n (i ∷ is) js below = below_right n is js below.1

dots_are_nothing : (p : Pat) (us : FirstUses) → is_dots p ≡ true → (names_of p us ≡ []) × (uses_after p us ≡ us)
dots_are_nothing (tree.leaf_pat at form) us e = (refl, refl)
dots_are_nothing p us e = absurd (true≢false (sym e))

module _ (store : Store) (source_map : SourceMap) (descends : Descends store) (ks : List BindingId) where
  abbrev pub reader : ℕ → Readers
  reader d = readers store source_map d

  abbrev pub binds : ℕ → PatId → List BindingId
  binds d i = flat_map (binding_at store) (pats_to store d i)

  abbrev pub binds_each : ℕ → List PatId → List BindingId
  binds_each d is = flat_map (binding_at store) (flat_map (pats_to store d) is)

  binds_cons : (d : ℕ) (i : PatId) (is : List PatId) → binds_each d (i ∷ is) ≡ binds d i ++ binds_each d is
  binds_cons d i is = flat_map-append (binding_at store) (pats_to store d i) (flat_map (pats_to store d) is)

  binds_append : (d : ℕ) (is js : List PatId) → binds_each d (is ++ js) ≡ binds_each d is ++ binds_each d js
  binds_append d is js = ap (λ l. flat_map (binding_at store) l) (flat_map-append (pats_to store d) is js)
      ∙ flat_map-append (binding_at store) (flat_map (pats_to store d) is) (flat_map (pats_to store d) js)

  pub binds_found : (d : ℕ) (i : PatId) (f : HirPat) → slice_get store.pats i.0 ≡ Some f
      → binds (suc d) i ≡ pat_binding f ++ binds_each d (pat_children f)
  unfolding pats_to
  binds_found d i f found =
      ap (λ o. flat_map (binding_at store) (with_parts store i (pats_to store d) o)) found
      ∙ ap (λ o. of_found pat_binding o ++ binds_each d (pat_children f)) found

  pub reads_shape : (d : ℕ) (i : PatId) (o : Option HirPat) (D : PatData) → slice_get store.pats i.0 ≡ o → (reader (suc d)).pat i ≡ D
      → pattern_found store source_map (reader d) o ≡ shape_of D
  unfolding readers
  reads_shape d i o D found e = ap (λ x. pattern_found store source_map (reader d) x) (sym found) ∙ ap shape_of e

  -- a pattern that reads as a bare shape binds nothing

  name_is_not_bare : (r : Readers) (n : Name) (h : HygieneId) (m : BindingAnnotation) (sub : OptionPatData) → is_bare
      (name_layer store source_map r n h m sub) ≡ true → ⊥
  name_is_not_bare r (name.Text t) h m sub k = true≢false (sym k)
  name_is_not_bare r name.Missing h m sub k = true≢false (sym k)
  name_is_not_bare r (name.Generated n) h m sub k = true≢false (sym k)

  pub bind_is_not_bare : (r : Readers) (b : Option Binding) (sub : OptionPatData) → is_bare (bind_layer store source_map r b sub) ≡ true → ⊥
  bind_is_not_bare r None sub k = true≢false (sym k)
  bind_is_not_bare r (Some b) sub k = name_is_not_bare r b.name b.hygiene b.mode sub k

  Nothing : Option HirPat → Type 0
  Nothing o = (of_found pat_binding o ≡ []) × (of_found pat_children o ≡ [])

  bare_pat : (r : Readers) (o : Option HirPat) → is_bare (pattern_found store source_map r o) ≡ true → Nothing o
  unfolding Nothing
  bare_pat r None k = (refl, refl)
  bare_pat r (Some pat.Missing) k = (refl, refl)
  bare_pat r (Some pat.Wild) k = (refl, refl)
  bare_pat r (Some pat.Rest) k = (refl, refl)
  bare_pat r (Some pat.NotNull) k = (refl, refl)
  bare_pat r (Some (pat.Path p h)) k = (refl, refl)
  bare_pat r (Some (pat.Lit e)) k = (refl, refl)
  bare_pat r (Some (pat.Range op low high)) k = (refl, refl)
  bare_pat r (Some (pat.Expr e)) k = (refl, refl)
  bare_pat r (Some (pat.Bind i sub)) k = absurd
      (bind_is_not_bare r (binding_found store source_map i) (subpattern_layer store source_map r sub) k)
  bare_pat r (Some (pat.TupleStruct p ellipsis ps)) k = absurd (true≢false (sym k))
  bare_pat r (Some (pat.Tuple ellipsis ps)) k = absurd (true≢false (sym k))
  bare_pat r (Some (pat.Record p fs ellipsis)) k = absurd (true≢false (sym k))
  bare_pat r (Some (pat.Or ps)) k = absurd (true≢false (sym k))
  bare_pat r (Some (pat.Slice before middle behind)) k = absurd (true≢false (sym k))
  bare_pat r (Some (pat.Ref m p)) k = absurd (true≢false (sym k))
  bare_pat r (Some (pat.Box p)) k = absurd (true≢false (sym k))
  bare_pat r (Some (pat.Deref p)) k = absurd (true≢false (sym k))

  bare : (d : ℕ) (i : PatId) (D : PatData) → i.0 < d → (reader d).pat i ≡ D → is_bare (shape_of D) ≡ true → binds d i ≡ []
  unfolding pats_to Nothing
  bare zero i D less e k = absurd (omega (arith, less))
  bare (suc d) i D less e k = go (slice_get store.pats i.0) refl
    where
      go : (o : Option HirPat) → slice_get store.pats i.0 ≡ o → binds (suc d) i ≡ []
      go None found = ap (λ o. flat_map (binding_at store) (with_parts store i (pats_to store d) o)) found
      go (Some f) found =
          let nothing = bare_pat (reader d) (Some f) (ap is_bare (reads_shape d i (Some f) D found e) ∙ k) in
          binds_found d i f found
          ∙ (ap (λ l. l ++ binds_each d (pat_children f)) nothing.0 ∙ ap (λ l. binds_each d l) nothing.1)

  bare_pairs : (d : ℕ) (i : PatId) (D : PatData) → i.0 < d → (reader d).pat i ≡ D → is_bare (shape_of D) ≡ true → Pairs ks (binds d i) []
  bare_pairs d i D less e k = subst (λ l. Pairs ks l []) (sym (bare d i D less e k)) tt

  -- one step inward

  inner : (d : ℕ) (i : PatId) (f : HirPat) (D : PatData) (js : List ℕ) → i.0 < d → slice_get store.pats i.0 ≡ Some f
      → (reader d).pat i ≡ D
      → ((c : ℕ) → AllBelow c (pat_children f) → pattern_layer store source_map (reader c) f ≡ shape_of D
      → Pairs ks (pat_binding f ++ binds_each c (pat_children f)) js)
      → Pairs ks (binds d i) js
  inner zero i f D js less found e rec = absurd (omega (arith, less))
  inner (suc d) i f D js less found e rec = subst (λ l. Pairs ks l js) (sym (binds_found d i f found))
      (rec d (below_more i.0 d (pat_children f) (omega (arith, less)) (descends i f found)) (reads_shape d i (Some f) D found e))

  cons_pairs : (d : ℕ) (is : List PatId) (i : PatId) (others : List PatId) (js more : List ℕ) → is ≡ i ∷ others
      → Pairs ks (binds d i) js → Pairs ks (binds_each d others) more → Pairs ks (binds_each d is) (js ++ more)
  cons_pairs d is i others js more same p q = subst (λ l. Pairs ks l (js ++ more))
      (sym (ap (λ l. binds_each d l) same ∙ binds_cons d i others))
      (pairs-append ks (binds d i) (binds_each d others) js more p q)

  one_pairs : (d : ℕ) (i : PatId) (js : List ℕ) → Pairs ks (binds d i) js → Pairs ks (binds_each d (i ∷ [])) js
  one_pairs d i js p = subst (λ l. Pairs ks l js) (sym (binds_cons d i [] ∙ append-nil (binds d i))) p

  from_one : (d : ℕ) (i : PatId) (js : List ℕ) → Pairs ks (binds_each d (i ∷ [])) js → Pairs ks (binds d i) js
  from_one d i js p = subst (λ l. Pairs ks l js) (binds_cons d i [] ∙ append-nil (binds d i)) p

  append_pairs : (d : ℕ) (is others : List PatId) (js more : List ℕ) → Pairs ks (binds_each d is) js → Pairs ks (binds_each d others) more
      → Pairs ks (binds_each d (is ++ others)) (js ++ more)
  append_pairs d is others js more p q = subst (λ l. Pairs ks l (js ++ more)) (sym (binds_append d is others))
      (pairs-append ks (binds_each d is) (binds_each d others) js more p q)

  no_pairs : (d : ℕ) (is : List PatId) → is ≡ [] → Pairs ks (binds_each d is) []
  no_pairs d is none = subst (λ l. Pairs ks (binds_each d l) []) (sym none) tt

  -- In front of the parts behind a leading comma stands a missing one.
  front_pairs : (comma : Bool) (is others : List PatId) (D : PatsData) (js : List ℕ) (d : ℕ) → BehindFront comma is others → AllBelow d is
      → patterns_layer store source_map (reader d) is ≡ behind_comma comma D
      → (AllBelow d others → patterns_layer store source_map (reader d) others ≡ D → Pairs ks (binds_each d others) js)
      → Pairs ks (binds_each d is) js
  front_pairs false is others D js d h below e rec = subst (λ l. Pairs ks (binds_each d l) js) (sym h)
      (rec (subst (λ l. AllBelow d l) h below) (ap (λ l. patterns_layer store source_map (reader d) l) (sym h) ∙ e))
  front_pairs true is others D js d h below e rec =
      let lower = subst (λ l. AllBelow d l) h.1 below in
      let reads = ap (λ l. patterns_layer store source_map (reader d) l) (sym h.1) ∙ e in
      cons_pairs d is h.0 others [] js h.1 (bare_pairs d h.0 absent_pattern lower.0 (ap first_of reads) refl)
      (rec lower.1 (ap others_of reads))

  leaf_is_bare : (form : PatLeaf) → is_bare (leaf_pattern form) ≡ true
  leaf_is_bare tree.wild_leaf = refl
  leaf_is_bare tree.rest_leaf = refl
  leaf_is_bare tree.not_null_leaf = refl
  leaf_is_bare tree.broken_leaf = refl

  path_is_bare : (o : Option PathRead) → is_bare (path_pattern_of o) ≡ true
  path_is_bare None = refl
  path_is_bare (Some p) = refl

  -- what stands behind `@`
  name_sub : (r : Readers) (n : Name) (h : HygieneId) (m : BindingAnnotation) (S T : OptionPatData) (u : Use)
      → name_layer store source_map r n h m S ≡ bind_as u T → S ≡ T
  name_sub r (name.Text t) h m S T u e = ap sub_of e
  name_sub r name.Missing h m S T u e = ap sub_of e
  name_sub r (name.Generated n) h m S T u e = absurd (true≢false (sym (ap is_binding e)))

  bind_sub : (r : Readers) (b : Option Binding) (S T : OptionPatData) (u : Use) → bind_layer store source_map r b S ≡ bind_as u T → S ≡ T
  bind_sub r None S T u e = absurd (true≢false (sym (ap is_binding e)))
  bind_sub r (Some b) S T u e = name_sub r b.name b.hygiene b.mode S T u e

  tuple_pairs : (comma : Bool) (S : List PatId → Mappings) (i : PatId) (ms : List Mapping) (d : ℕ) → i.0 < d
      → CorrespondsTuple store source_map (λ dots is. pat.Tuple dots is) comma S i ms
      → (from : Option Pointer) (ellipsis : Option ℕ) (D : PatsData) (js : List ℕ)
      → (reader d).pat i ≡ pat_at from (datum.tuple_pattern ellipsis (behind_comma comma D))
      → ((c : ℕ) (others : List PatId) (ns : List Mapping) → AllBelow c others → S others ns
      → patterns_layer store source_map (reader c) others ≡ D → Pairs ks (binds_each c others) js)
      → Pairs ks (binds d i) js
  tuple_pairs comma S i ms d less h from ellipsis D js e rec = inner d i (pat.Tuple h.0 h.1) _ js less h.3 e
      (λ c below shape. front_pairs comma h.1 h.2 D js c h.4 below (ap listed shape) (λ lower reads. rec c h.2 ms lower h.5 reads))

  struct_pairs : (comma : Bool) (S : List PatId → Mappings) (o : Option PathRead) (i : PatId) (ms : List Mapping) (d : ℕ) → i.0 < d
      → WherePath (option_map data_of o) (λ p ws. (path : Path) × CorrespondsTuple store source_map
      (λ dots is. pat.TupleStruct path dots is)
      comma S i ws) No ms
      → (from : Option Pointer) (ellipsis : Option ℕ) (D : PatsData) (js : List ℕ)
      → (reader d).pat i ≡ if_path o (λ p. pat_at from (datum.tuple_struct_pattern p ellipsis (behind_comma comma D))) absent_pattern
      → ((c : ℕ) (others : List PatId) (ns : List Mapping) → AllBelow c others → S others ns
      → patterns_layer store source_map (reader c) others ≡ D → Pairs ks (binds_each c others) js)
      → Pairs ks (binds d i) (if_path o (λ _. js) [])
  struct_pairs comma S None i ms d less h from ellipsis D js e rec = bare_pairs d i absent_pattern less e refl
  struct_pairs comma S (Some p) i ms d less h from ellipsis D js e rec =
      let t = h.1 in
      inner d i (pat.TupleStruct h.0 t.0 t.1) _ js less t.3 e
      (λ c below shape. front_pairs comma t.1 t.2 D js c t.4 below (ap listed shape) (λ lower reads. rec c t.2 ms lower t.5 reads))

  record_pairs : (F : List RecordFieldPat → Mappings) (o : Option PathRead) (i : PatId) (ms : List Mapping) (dots : Bool) (d : ℕ) → i.0 < d
      → WherePath (option_map data_of o) (λ p ws. (path : Path) × (is : List RecordFieldPat)
      × (slice_get store.pats i.0 ≡ Some (pat.Record path is dots)) × F is ws) No ms
      → (from : Option Pointer) (D : PatFieldsData) (js : List ℕ)
      → (reader d).pat i ≡ if_path o (λ p. pat_at from (datum.record_pattern p D dots)) absent_pattern
      → ((c : ℕ) (is : List RecordFieldPat) (ns : List Mapping) → AllBelow c (map field_pat is) → F is ns
      → pattern_fields_layer store source_map (reader c) is ≡ D → Pairs ks (binds_each c (map field_pat is)) js)
      → Pairs ks (binds d i) (if_path o (λ _. js) [])
  record_pairs F None i ms dots d less h from D js e rec = bare_pairs d i absent_pattern less e refl
  record_pairs F (Some p) i ms dots d less h from D js e rec = inner d i (pat.Record h.0 h.1 dots) _ js less h.2 e
      (λ c below shape. rec c h.1 ms below h.3 (ap fielded shape))

  over_pairs : (form : PatUnary) (i j : PatId) (d : ℕ) → i.0 < d → slice_get store.pats i.0 ≡ Some (pat_unary_form form j)
      → (from : Option Pointer) (D : PatData) (js : List ℕ) → (reader d).pat i ≡ pat_at from (unary_pattern form D)
      → ((c : ℕ) → j.0 < c → (reader c).pat j ≡ D → Pairs ks (binds c j) js)
      → Pairs ks (binds d i) js
  over_pairs (tree.ref_to m) i j d less found from D js e rec =
      inner d i _ _ js less found e (λ c below shape. one_pairs c j js (rec c below.0 (ap pointed shape)))
  over_pairs tree.box_of i j d less found from D js e rec =
      inner d i _ _ js less found e (λ c below shape. one_pairs c j js (rec c below.0 (ap pointed shape)))
  over_pairs tree.deref_of i j d less found from D js e rec =
      inner d i _ _ js less found e (λ c below shape. one_pairs c j js (rec c below.0 (ap pointed shape)))

  range_pairs : (op : Option RangeOp) (low high : Option ExprId) (i : PatId) (D : PatData) (d : ℕ) → i.0 < d
      → RangeIs store source_map op i low high → (reader d).pat i ≡ D → Pairs ks (binds d i) []
  range_pairs None low high i D d less found e = inner d i _ _ [] less found e (λ c below shape. tt)
  range_pairs (Some op) low high i D d less found e = inner d i _ _ [] less found e (λ c below shape. tt)

  -- alternatives

  AsMany : List PatId → PatsData → Type 0
  AsMany [] datum.no_patterns = Unit {0}
  AsMany (i ∷ is) (datum.more_patterns p ps) = AsMany is ps
  AsMany is ps = ⊥

  as_many : (ps : Pats) (us : FirstUses) (rs : Open) (is : List PatId) (ms : List Mapping)
      → CorrespondsPats store source_map ks rs ps us is ms → AsMany is (patterns_data ps us)
  unfolding AsMany
  as_many tree.no_pats us rs is ms h = subst (λ l. AsMany l datum.no_patterns) (sym h.0) tt
  as_many (tree.more_pats p ps) us rs is ms h =
      subst (λ l. AsMany l (datum.more_patterns (pattern_data p us) (patterns_data ps (uses_after p us)))) (sym h.2)
      (as_many ps (uses_after p us) rs h.1 h.3.right h.3.second)
  as_many (tree.tracked_pats called ps) us rs is ms h = as_many ps us rs is ms h

  alternatives_pairs : (is : List PatId) (D : PatsData) (at : Pointer) (i : PatId) (js : List ℕ) (d : ℕ) → i.0 < d
      → OrIs store source_map is i → AsMany is D → (reader d).pat i ≡ alternatives_data at D
      → ((c : ℕ) → AllBelow c is → patterns_layer store source_map (reader c) is ≡ D → Pairs ks (binds_each c is) js)
      → Pairs ks (binds d i) js
  unfolding AsMany
  alternatives_pairs [] datum.no_patterns at i js d less found many e rec =
      inner d i _ _ js less found e (λ c below shape. rec c below (ap listed shape))
  alternatives_pairs [] (datum.more_patterns p ps) at i js d less found many e rec = absurd many
  alternatives_pairs (j ∷ []) datum.no_patterns at i js d less found many e rec = absurd many
  alternatives_pairs (j ∷ []) (datum.more_patterns p datum.no_patterns) at i js d less same many e rec =
      subst (λ (k : PatId). Pairs ks (binds d k) js) same (from_one d j js
      (rec d (subst (λ (k : PatId). k.0 < d) (sym same) less, tt)
      (ap (λ x. datum.more_patterns x datum.no_patterns) (ap (λ k. (reader d).pat k) same ∙ e))))
  alternatives_pairs (j ∷ []) (datum.more_patterns p (datum.more_patterns q ps)) at i js d less found many e rec = absurd many
  alternatives_pairs (j ∷ k ∷ is) datum.no_patterns at i js d less found many e rec = absurd many
  alternatives_pairs (j ∷ k ∷ is) (datum.more_patterns p datum.no_patterns) at i js d less found many e rec = absurd many
  alternatives_pairs (j ∷ k ∷ is) (datum.more_patterns p (datum.more_patterns q ps)) at i js d less found many e rec =
      inner d i _ _ js less found e (λ c below shape. rec c below (ap listed shape))

  -- an element of a tuple, which may be two dots
  element_pairs : (p : Pat) (ps : Pats) (us : FirstUses) (rs : Open) (dots : Bool) → is_dots p ≡ dots → (is : List PatId)
      (ms : List Mapping)
      (d : ℕ) → AllBelow d is
      → CorrespondsBefore dots (λ i. CorrespondsPat store source_map ks rs p us i)
      (λ others. CorrespondsElements store source_map ks rs ps (uses_after p us) others) is ms
      → patterns_layer store source_map (reader d) is ≡ (if dots then tuple_parts_data ps us
      else datum.more_patterns (pattern_data p us) (tuple_parts_data ps (uses_after p us)))
      → ((i : PatId) (ns : List Mapping) → i.0 < d → CorrespondsPat store source_map ks rs p us i ns → (reader d).pat i ≡ pattern_data p us
      → Pairs ks (binds d i) (names_of p us))
      → ((others : List PatId) (ns : List Mapping) → AllBelow d others
      → CorrespondsElements store source_map ks rs ps (uses_after p us) others ns
      → patterns_layer store source_map (reader d) others ≡ tuple_parts_data ps (uses_after p us)
      → Pairs ks (binds_each d others) (names_of_each ps (uses_after p us)))
      → Pairs ks (binds_each d is) (names_of p us ++ names_of_each ps (uses_after p us))
  element_pairs p ps us rs true dots is ms d below h e one rest =
      let nothing = dots_are_nothing p us dots in
      subst (λ l. Pairs ks (binds_each d is) (l ++ names_of_each ps (uses_after p us))) (sym nothing.0)
      (rest is ms below h (e ∙ ap (λ l. tuple_parts_data ps l) (sym nothing.1)))
  element_pairs p ps us rs false dots is ms d below h e one rest =
      let lower = subst (λ l. AllBelow d l) h.2 below in
      let reads = ap (λ l. patterns_layer store source_map (reader d) l) (sym h.2) ∙ e in
      cons_pairs d is h.0 h.1 (names_of p us) (names_of_each ps (uses_after p us)) h.2
      (one h.0 h.3.left lower.0 h.3.first (ap first_of reads)) (rest h.1 h.3.right lower.1 h.3.second (ap others_of reads))

  mutual
    pub pat_pairs : (p : Pat) (us : FirstUses) (rs : Open) (i : PatId) (ms : List Mapping) (d : ℕ) → i.0 < d
        → CorrespondsPat store source_map ks rs p us i ms → (reader d).pat i ≡ pattern_data p us → Pairs ks (binds d i) (names_of p us)
    pat_pairs (tree.leaf_pat at form) us rs i ms d less h e = bare_pairs d i _ less e (leaf_is_bare form)
    pat_pairs (tree.bind_pat at u _ sub) us rs i ms d less h e =
        inner d i (pat.Bind h.0 h.1) _ (number_of (uses_after_part sub us) u ∷ names_of_part sub us) less h.2 e
        (λ c below shape. (
          h.3.second.0,
          subpat_pairs sub us rs h.1 h.3.left c below h.3.first
              (bind_sub (reader c) (binding_found store source_map h.0) _ _ (first_use (uses_after_part sub us) u) shape),
        ))
    pat_pairs (tree.name_pat at u _) us rs i ms d less h e = bare_pairs d i _ less e refl
    pat_pairs (tree.path_pat at p) us rs i ms d less h e = bare_pairs d i _ less e (path_is_bare (path_of p))
    pat_pairs (tree.tuple_struct_pat at p comma ps) us rs i ms d less h e =
        struct_pairs comma (λ is. CorrespondsElements store source_map ks rs ps us is) (path_of p) i h.right d less h.second (Some at)
        (ellipsis_of comma ps) (tuple_parts_data ps us) (names_of_each ps us)
        e (λ c others ns below k reads. elements_pairs ps us rs others ns c below k reads)
    pat_pairs (tree.tuple_pat at comma ps) us rs i ms d less h e =
        tuple_pairs comma (λ is. CorrespondsElements store source_map ks rs ps us is) i ms d less h (Some at) (ellipsis_of comma ps)
        (tuple_parts_data ps us) (names_of_each ps us) e
        (λ c others ns below k reads. elements_pairs ps us rs others ns c below k reads)
    pat_pairs (tree.record_pat at p fs dots) us rs i ms d less h e =
        record_pairs (λ is. CorrespondsPatFields store source_map ks rs fs us is) (path_of p) i h.right dots d less h.second (Some at)
        (fields_data fs us) (names_of_fields fs us) e
        (λ c is ns below k reads. fields_pairs fs us rs is ns c below k reads)
    pat_pairs (tree.or_pat at ps) us rs i ms d less h e =
        alternatives_pairs h.0 (patterns_data ps us) at i (names_of_each ps us) d less h.1 (as_many ps us rs h.0 ms h.2) e
        (λ c below reads. each_pairs ps us rs h.0 ms c below h.2 reads)
    pat_pairs (tree.paren_pat at p) us rs i ms d less h e = part_pairs p us rs i ms d less h e
    pat_pairs (tree.macro_pat at called p) us rs i ms d less h e = part_pairs p us rs i ms d less h e
    pat_pairs (tree.barred_pat at) us rs i ms d less h e = bare_pairs d i _ less e refl
    pat_pairs (tree.slice_pat at before middle behind) us rs i ms d less h e =
        let between = uses_after_each before us in
        let past = uses_after_part middle between in
        let parts = h.4 in
        let last = parts.second in
        inner d i (pat.Slice h.0 h.1 h.2) _ (names_of_each before us ++
        (names_of_part middle between ++ names_of_each behind past)) less h.3 e
        (λ c below shape.
        let others = below_right c h.0 (option_to_list h.1 ++ h.2) below in
        append_pairs c h.0 (option_to_list h.1 ++ h.2) (names_of_each before us) (names_of_part middle between ++ names_of_each behind past)
        (each_pairs before us rs h.0 parts.left c (below_left c h.0 (option_to_list h.1 ++ h.2) below) parts.first (ap front_of shape))
        (append_pairs c (option_to_list h.1) h.2 (names_of_part middle between) (names_of_each behind past)
        (subpat_pairs middle between rs h.1 last.left c (below_left c (option_to_list h.1) h.2 others) last.first (ap sub_of shape))
        (each_pairs behind past rs h.2 last.right c (below_right c (option_to_list h.1) h.2 others) last.second (ap back_of shape))))
    pat_pairs (tree.over_pat at form p) us rs i ms d less h e =
        over_pairs form i h.0 d less h.1 (Some at) (pattern_part_data p us) (names_of_part p us) e
        (λ c lower reads. part_pairs p us rs h.0 ms c lower h.2 reads)
    pat_pairs (tree.literal_pat at own l) us rs i ms d less h e = inner d i (pat.Lit h.0) _ [] less h.1 e (λ c below shape. tt)
    pat_pairs (tree.range_pat at op low high) us rs i ms d less h e = range_pairs op h.0 h.1 i _ d less h.2 e

    pub part_pairs : (p : OptionPat) (us : FirstUses) (rs : Open) (i : PatId) (ms : List Mapping) (d : ℕ) → i.0 < d
        → CorrespondsPatPart store source_map ks rs p us i ms → (reader d).pat i ≡ pattern_part_data p us
        → Pairs ks (binds d i) (names_of_part p us)
    part_pairs tree.no_pat us rs i ms d less h e = bare_pairs d i absent_pattern less e refl
    part_pairs (tree.some_pat p) us rs i ms d less h e = pat_pairs p us rs i ms d less h e

    subpat_pairs : (p : OptionPat) (us : FirstUses) (rs : Open) (o : Option PatId) (ms : List Mapping) (d : ℕ)
        → AllBelow d (option_to_list o) → CorrespondsSubpat store source_map ks rs p us o ms
        → subpattern_layer store source_map (reader d) o ≡ subpattern_data p us → Pairs ks (binds_each d (option_to_list o))
        (names_of_part p us)
    subpat_pairs tree.no_pat us rs o ms d below h e = no_pairs d (option_to_list o) (ap option_to_list h.0)
    subpat_pairs (tree.some_pat p) us rs o ms d below h e =
        let lower = subst (λ x. AllBelow d (option_to_list x)) h.1 below in
        subst (λ x. Pairs ks (binds_each d (option_to_list x)) (names_of p us)) (sym h.1)
        (one_pairs d h.0 (names_of p us)
        (pat_pairs p us rs h.0 ms d lower.0 h.2 (ap some_pat (ap (λ x. subpattern_layer store source_map (reader d) x) (sym h.1) ∙ e))))

    each_pairs : (ps : Pats) (us : FirstUses) (rs : Open) (is : List PatId) (ms : List Mapping) (d : ℕ) → AllBelow d is
        → CorrespondsPats store source_map ks rs ps us is ms → patterns_layer store source_map (reader d) is ≡ patterns_data ps us
        → Pairs ks (binds_each d is) (names_of_each ps us)
    each_pairs tree.no_pats us rs is ms d below h e = no_pairs d is h.0
    each_pairs (tree.more_pats p ps) us rs is ms d below h e =
        let lower = subst (λ l. AllBelow d l) h.2 below in
        let reads = ap (λ l. patterns_layer store source_map (reader d) l) (sym h.2) ∙ e in
        cons_pairs d is h.0 h.1 (names_of p us) (names_of_each ps (uses_after p us)) h.2
        (pat_pairs p us rs h.0 h.3.left d lower.0 h.3.first (ap first_of reads))
        (each_pairs ps (uses_after p us) rs h.1 h.3.right d lower.1 h.3.second (ap others_of reads))
    each_pairs (tree.tracked_pats called ps) us rs is ms d below h e = each_pairs ps us rs is ms d below h e

    elements_pairs : (ps : Pats) (us : FirstUses) (rs : Open) (is : List PatId) (ms : List Mapping) (d : ℕ) → AllBelow d is
        → CorrespondsElements store source_map ks rs ps us is ms → patterns_layer store source_map (reader d) is ≡ tuple_parts_data ps us
        → Pairs ks (binds_each d is) (names_of_each ps us)
    elements_pairs tree.no_pats us rs is ms d below h e = no_pairs d is h.0
    elements_pairs (tree.more_pats p ps) us rs is ms d below h e =
        element_pairs p ps us rs (is_dots p) refl is ms d below h e
        (λ i ns lower k reads. pat_pairs p us rs i ns d lower k reads)
        (λ others ns lower k reads. elements_pairs ps (uses_after p us) rs others ns d lower k reads)
    elements_pairs (tree.tracked_pats called ps) us rs is ms d below h e = elements_pairs ps us rs is ms d below h e

    fields_pairs : (fs : PatFields) (us : FirstUses) (rs : Open) (is : List RecordFieldPat) (ms : List Mapping) (d : ℕ)
        → AllBelow d (map field_pat is) → CorrespondsPatFields store source_map ks rs fs us is ms
        → pattern_fields_layer store source_map (reader d) is ≡ fields_data fs us → Pairs ks (binds_each d (map field_pat is))
        (names_of_fields fs us)
    fields_pairs tree.no_pat_fields us rs is ms d below h e = no_pairs d (map field_pat is) (ap (λ l. map field_pat l) h.0)
    fields_pairs (tree.more_pat_fields (tree.pat_field at None p) fs) us rs is ms d below h e =
        fields_pairs fs (uses_after p us) rs is h.1.right d below h.1.second e
    fields_pairs (tree.more_pat_fields (tree.pat_field at (Some n) p) fs) us rs is ms d below h e =
        let lower = subst (λ l. AllBelow d (map field_pat l)) h.2 below in
        let reads = ap (λ l. pattern_fields_layer store source_map (reader d) l) (sym h.2) ∙ e in
        cons_pairs d (map field_pat is) h.0 (map field_pat h.1) (names_of p us) (names_of_fields fs (uses_after p us))
        (ap (λ l. map field_pat l) h.2)
        (pat_pairs p us rs h.0 h.3.first.left d lower.0 h.3.first.first (ap first_field reads))
        (fields_pairs fs (uses_after p us) rs h.1 h.3.right d lower.1 h.3.second (ap other_fields reads))
    fields_pairs (tree.more_pat_fields (tree.disabled_pat_field at by f) fs) us rs is ms d below h e =
        fields_pairs fs us rs is ms d below h e
    fields_pairs (tree.more_pat_fields tree.partless_pat_field fs) us rs is ms d below h e = fields_pairs fs us rs is ms d below h e
