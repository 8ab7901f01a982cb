-- The expressions in a stored assignee are the written places, and constants among arguments.
use Rattle.std.proofs.Common.{arith, ◌≡◌, ◌∙◌, refl, sym, ap, subst, ◌<◌, ◌+◌, ℕ, zero, suc, Bool, true, false, List, [], ◌∷◌, ◌++◌, map}
use Rattle.std.proofs.Common.{Option, Some, None, slice_get, option_map, option_to_list, append-nil, true≢false, length}
use Rattle.std.specs.List.{flat_map}
use Rattle.std.proofs.lemmas.Grind.{flat_map-append}
use Rattle.hir_store.specs.Pointers.{Pointer}
use Rattle.hir_store.specs.Stored.{Store, SourceMap}
use Rattle.hir_store.specs.declared.hir.Expr.{Expr as StoredExpr}
use Rattle.hir_store.specs.declared.hir.Expr.TheVariants as hir
use Rattle.hir_store.specs.declared.ids.BindingId.{BindingId}
use Rattle.hir_store.specs.declared.ids.ExprId.{ExprId}
use Rattle.hir_store.specs.declared.ids.HygieneId.{HygieneId}
use Rattle.hir_store.specs.declared.ids.PatId.{PatId}
use Rattle.hir_store.specs.declared.pat.Pat.{Pat as HirPat}
use Rattle.hir_store.specs.declared.pat.Pat.TheVariants as pat
use Rattle.hir_store.specs.declared.pat.RecordFieldPat.{RecordFieldPat}
use Rattle.hir_store.specs.declared.path.Path.{Path}
use Rattle.hir_env.specs.ResolvedTree as tree
use Rattle.hir_env.specs.ResolvedTree.{Expr, OptionExpr, Target, TargetFields, Targets}
use Rattle.hir_env.specs.Targets.{source_of}
use Rattle.hir_walks.proofs.WholeLemmas.{pats_in_whole, same_levels}
use Rattle.hir_walks.specs.Exprs.{exprs_at, exprs_in_pat, pat_exprs, path_constants}
use Rattle.hir_walks.specs.Pats.{AllBelow, field_pat, of_found, pat_children, pats_to, with_parts}
use Rattle.spec_data.specs.Data as datum
use Rattle.spec_data.specs.Data.{OptionPatData, PatData, PatFieldsData, PatsData, pat_at}
use Rattle.spec_data.specs.Patterns.{if_path}
use Rattle.spec_data.specs.Reading.{Readers, binding_found, expr_found, literal_layer, pattern_fields_layer, pattern_layer, patterns_layer}
use Rattle.spec_data.specs.Reading.{stored_pat, subpattern_layer}
use Rattle.spec_data.specs.Rule.{PathRead, data_of}
use Rattle.spec_data.specs.Targets.{dots_pattern, path_target_of, target_data, target_dots, target_fields_data, targets_data}
use Rattle.spec_data.specs.Written.{path_of}
use Rattle.spec_scoping.specs.Scoping.{part, places, places_of_each, places_of_fields}
use Rattle.thm_body_result.specs.Corresponds.{Corresponds, CorrespondsTarget, CorrespondsTargetFields, CorrespondsTargets, CorrespondsTuple}
use Rattle.thm_body_result.specs.Corresponds.{Open, WherePath}
use Rattle.thm_body_result.specs.Leads.{Mapping, Mappings, No}
use Rattle.thm_scoping.specs.Agree.{pat_constants}
use Rattle.thm_scoping.proofs.Named.{EachBelow}
use Rattle.thm_scoping.proofs.Orderly.{Orderly}
use Rattle.thm_scoping.proofs.Operands.{Lined, Plain, each_below_left, each_below_right, ended, lined-append, lined_constants, part_lined}
use Rattle.thm_scoping.proofs.Operands.{stood}
use Rattle.thm_scoping.proofs.Patterns.{back_of, below_left, below_more, below_right, bind_is_not_bare, fielded, first_field, first_of}
use Rattle.thm_scoping.proofs.Patterns.{front_of}
use Rattle.thm_scoping.proofs.Patterns.{is_bare, listed, other_fields, others_of, reader, reads_shape, shape_of, some_pat, sub_of}

path_target_is_bare : (q : Option PathRead) (h : HygieneId) → is_bare (path_target_of q h) ≡ true
path_target_is_bare None h = refl
path_target_is_bare (Some q) h = refl

literal_is_not_bare : (store : Store) (source_map : SourceMap) (r : Readers) (e : Option StoredExpr) → is_bare
    (literal_layer store source_map r e) ≡ true → ⊥
literal_is_not_bare store source_map r None k = true≢false (sym k)
literal_is_not_bare store source_map r (Some (hir.Literal l)) k = true≢false (sym k)
literal_is_not_bare store source_map r (Some e) k = true≢false (sym k)

module _ (store : Store) (source_map : SourceMap) (self : Option BindingId) (o : Orderly store) where
  abbrev InLine : ℕ → List ExprId → List Expr → Type 0
  InLine n is es = Lined store source_map self n is es

  abbrev read : ℕ → Readers
  read d = reader store source_map o.patterns [] d

  abbrev exprs_to : ℕ → PatId → List ExprId
  exprs_to d i = flat_map (exprs_at store) (pats_to store d i)

  abbrev exprs_each : ℕ → List PatId → List ExprId
  exprs_each d is = flat_map (exprs_at store) (flat_map (pats_to store d) is)

  exprs_cons : (d : ℕ) (i : PatId) (is : List PatId) → exprs_each d (i ∷ is) ≡ exprs_to d i ++ exprs_each d is
  exprs_cons d i is = flat_map-append (exprs_at store) (pats_to store d i) (flat_map (pats_to store d) is)

  exprs_append : (d : ℕ) (is js : List PatId) → exprs_each d (is ++ js) ≡ exprs_each d is ++ exprs_each d js
  exprs_append d is js = ap (λ l. flat_map (exprs_at store) l) (flat_map-append (pats_to store d) is js)
      ∙ flat_map-append (exprs_at store) (flat_map (pats_to store d) is) (flat_map (pats_to store d) js)

  exprs_found : (d : ℕ) (i : PatId) (f : HirPat) → slice_get store.pats i.0 ≡ Some f
      → exprs_to (suc d) i ≡ pat_exprs f ++ exprs_each d (pat_children f)
  unfolding pats_to
  exprs_found d i f found =
      ap (λ x. flat_map (exprs_at store) (with_parts store i (pats_to store d) x)) found
      ∙ ap (λ x. of_found pat_exprs x ++ exprs_each d (pat_children f)) found

  constants : (n : ℕ) (i : PatId) (f : HirPat) (p : Path) → slice_get store.pats i.0 ≡ Some f → pat_constants f ≡ path_constants p
      → InLine n (path_constants p) []
  constants n i f p found are = subst (λ l. InLine n l []) are
      (lined_constants store source_map self (pat_constants f) (o.constants_of_pats i f found) ended)

  bare_form : (n d : ℕ) (i : PatId) (f : HirPat) (r : Readers) → slice_get store.pats i.0 ≡ Some f
      → is_bare (pattern_layer store source_map r f) ≡ true → InLine n (pat_exprs f ++ exprs_each d (pat_children f)) []
  bare_form n d i pat.Missing r found k = ended
  bare_form n d i pat.Wild r found k = ended
  bare_form n d i pat.Rest r found k = ended
  bare_form n d i pat.NotNull r found k = ended
  bare_form n d i (pat.Path p h) r found k = subst (λ l. InLine n l []) (sym (append-nil (path_constants p)))
      (constants n i (pat.Path p h) p found refl)
  bare_form n d i (pat.Bind b sub) r found k =
      absurd (bind_is_not_bare store source_map o.patterns [] r (binding_found store source_map b)
      (subpattern_layer store source_map r sub) k)
  bare_form n d i (pat.TupleStruct p ellipsis ps) r found k = absurd (true≢false (sym k))
  bare_form n d i (pat.Tuple ellipsis ps) r found k = absurd (true≢false (sym k))
  bare_form n d i (pat.Record p fs ellipsis) r found k = absurd (true≢false (sym k))
  bare_form n d i (pat.Or ps) r found k = absurd (true≢false (sym k))
  bare_form n d i (pat.Slice before middle behind) r found k = absurd (true≢false (sym k))
  bare_form n d i (pat.Ref m p) r found k = absurd (true≢false (sym k))
  bare_form n d i (pat.Box p) r found k = absurd (true≢false (sym k))
  bare_form n d i (pat.Deref p) r found k = absurd (true≢false (sym k))
  bare_form n d i (pat.Lit e) r found k = absurd (literal_is_not_bare store source_map r (expr_found store source_map e) k)
  bare_form n d i (pat.Range op low high) r found k = absurd (true≢false (sym k))
  bare_form n d i (pat.Expr e) r found k = absurd (true≢false (sym k))

  bare_target : (n d : ℕ) (i : PatId) (D : PatData) → i.0 < d → (read d).pat i ≡ D → is_bare (shape_of D) ≡ true
      → InLine n (exprs_to d i) []
  unfolding pats_to
  bare_target n zero i D less e k = absurd (omega (arith, less))
  bare_target n (suc d) i D less e k = go (slice_get store.pats i.0) refl
    where
      go : (x : Option HirPat) → slice_get store.pats i.0 ≡ x → InLine n (exprs_to (suc d) i) []
      go None found = subst (λ l. InLine n l [])
          (sym (ap (λ x. flat_map (exprs_at store) (with_parts store i (pats_to store d) x)) found)) ended
      go (Some f) found = subst (λ l. InLine n l []) (sym (exprs_found d i f found))
          (bare_form n d i f (read d) found (ap is_bare (reads_shape store source_map o.patterns [] d i (Some f) D found e) ∙ k))

  inner : (n d : ℕ) (i : PatId) (f : HirPat) (D : PatData) (es : List Expr) → i.0 < d → slice_get store.pats i.0 ≡ Some f
      → (read d).pat i ≡ D → EachBelow n (exprs_to d i)
      → ((c : ℕ) → AllBelow c (pat_children f) → pattern_layer store source_map (read c) f ≡ shape_of D
      → EachBelow n (pat_exprs f ++ exprs_each c (pat_children f)) → InLine n (pat_exprs f ++ exprs_each c (pat_children f)) es)
      → InLine n (exprs_to d i) es
  inner n zero i f D es less found e below rec = absurd (omega (arith, less))
  inner n (suc d) i f D es less found e below rec =
      let same = exprs_found d i f found in
      subst (λ l. InLine n l es) (sym same)
      (rec d (below_more i.0 d (pat_children f) (omega (arith, less)) (o.patterns i f found))
      (reads_shape store source_map o.patterns [] d i (Some f) D found e) (subst (λ l. EachBelow n l) same below))

  none_in_line : (n d : ℕ) (is : List PatId) → is ≡ [] → InLine n (exprs_each d is) []
  none_in_line n d is none = subst (λ l. InLine n (exprs_each d l) []) (sym none) ended

  cons_in_line : (n d : ℕ) (is : List PatId) (i : PatId) (others : List PatId) (es fs : List Expr) → is ≡ i ∷ others
      → EachBelow n (exprs_each d is)
      → (EachBelow n (exprs_to d i) → InLine n (exprs_to d i) es) → (EachBelow n (exprs_each d others) → InLine n (exprs_each d others) fs)
      → InLine n (exprs_each d is) (es ++ fs)
  cons_in_line n d is i others es fs same below one rest =
      let whole = ap (λ l. exprs_each d l) same ∙ exprs_cons d i others in
      let lower = subst (λ l. EachBelow n l) whole below in
      subst (λ l. InLine n l (es ++ fs)) (sym whole)
      (lined-append store source_map self (one (each_below_left n (exprs_to d i) (exprs_each d others) lower))
      (rest (each_below_right n (exprs_to d i) (exprs_each d others) lower)))

  tuple_target : (S : List PatId → Mappings) (n d : ℕ) (i : PatId) (ms : List Mapping) → i.0 < d
      → CorrespondsTuple store source_map (λ dots is. pat.Tuple dots is) false S i ms
      → (from : Option Pointer) (ellipsis : Option ℕ) (D : PatsData) (es : List Expr)
      → (read d).pat i ≡ pat_at from (datum.tuple_pattern ellipsis D) → EachBelow n (exprs_to d i)
      → ((c : ℕ) (is : List PatId) (ns : List Mapping) → AllBelow c is → EachBelow n (exprs_each c is) → S is ns
      → patterns_layer store source_map (read c) is ≡ D → InLine n (exprs_each c is) es)
      → InLine n (exprs_to d i) es
  tuple_target S n d i ms less h from ellipsis D es e below rec = inner n d i (pat.Tuple h.0 h.1) _ es less h.3 e below
      (λ c lower shape under. rec c h.1 ms lower under (subst (λ l. S l ms) (sym h.4) h.5) (ap listed shape))

  struct_target : (S : List PatId → Mappings) (q : Option PathRead) (n d : ℕ) (i : PatId) (ms : List Mapping) → i.0 < d
      → WherePath (option_map data_of q) (λ p ws. (path : Path) × CorrespondsTuple store source_map
      (λ dots is. pat.TupleStruct path dots is)
      false S i ws) No ms
      → (from at : Option Pointer) (ellipsis : Option ℕ) (D : PatsData) (es : List Expr)
      → (read d).pat i ≡ if_path q (λ p. pat_at from (datum.tuple_struct_pattern p ellipsis D)) (pat_at at datum.missing_pattern)
      → EachBelow n (exprs_to d i)
      → ((c : ℕ) (is : List PatId) (ns : List Mapping) → AllBelow c is → EachBelow n (exprs_each c is) → S is ns
      → patterns_layer store source_map (read c) is ≡ D → InLine n (exprs_each c is) es)
      → InLine n (exprs_to d i) (if_path q (λ _. es) [])
  struct_target S None n d i ms less h from at ellipsis D es e below rec = bare_target n d i (pat_at at datum.missing_pattern) less e refl
  struct_target S (Some q) n d i ms less h from at ellipsis D es e below rec =
      let t = h.1 in
      let f : HirPat = pat.TupleStruct h.0 t.0 t.1 in
      inner n d i f _ es less t.3 e below
      (λ c lower shape under. lined-append store source_map self (constants n i f h.0 t.3 refl)
      (rec c t.1 ms lower (each_below_right n (path_constants h.0) (exprs_each c t.1) under) (subst (λ l. S l ms) (sym t.4) t.5)
      (ap listed shape)))

  record_target : (F : List RecordFieldPat → Mappings) (q : Option PathRead) (n d : ℕ) (i : PatId) (ms : List Mapping) (dots : Bool)
      → i.0 < d
      → WherePath (option_map data_of q) (λ p ws. (path : Path) × (is : List RecordFieldPat)
      × (slice_get store.pats i.0 ≡ Some (pat.Record path is dots)) × F is ws) No ms
      → (from at : Option Pointer) (D : PatFieldsData) (es : List Expr)
      → (read d).pat i ≡ if_path q (λ p. pat_at from (datum.record_pattern p D dots)) (pat_at at datum.missing_pattern)
      → EachBelow n (exprs_to d i)
      → ((c : ℕ) (is : List RecordFieldPat) (ns : List Mapping) → AllBelow c (map field_pat is) → EachBelow n
      (exprs_each c (map field_pat is))
      → F is ns → pattern_fields_layer store source_map (read c) is ≡ D → InLine n (exprs_each c (map field_pat is)) es)
      → InLine n (exprs_to d i) (if_path q (λ _. es) [])
  record_target F None n d i ms dots less h from at D es e below rec = bare_target n d i (pat_at at datum.missing_pattern) less e refl
  record_target F (Some q) n d i ms dots less h from at D es e below rec =
      let f : HirPat = pat.Record h.0 h.1 dots in
      inner n d i f _ es less h.2 e below
      (λ c lower shape under. lined-append store source_map self (constants n i f h.0 h.2 refl)
      (rec c h.1 ms lower (each_below_right n (path_constants h.0) (exprs_each c (map field_pat h.1)) under) h.3 (ap fielded shape)))

  -- two dots among the elements of an array
  dots_in_line : (n d : ℕ) (dots : Option Pointer) (m : Option PatId) → AllBelow d (option_to_list m)
      → subpattern_layer store source_map (read d) m ≡ dots_pattern dots → InLine n (exprs_each d (option_to_list m)) []
  dots_in_line n d dots None below e = ended
  dots_in_line n d None (Some m) below e = absurd (true≢false (sym (ap is_none e)))
    where
      is_none : OptionPatData → Bool
      is_none datum.no_pattern = true
      is_none (datum.some_pattern p) = false
  dots_in_line n d (Some at) (Some m) below e =
      cons_in_line' (bare_target n d m _ below.0 (ap some_pat e) refl)
    where
      cons_in_line' : InLine n (exprs_to d m) [] → InLine n (exprs_each d (m ∷ [])) []
      cons_in_line' h = subst (λ l. InLine n l []) (sym (exprs_cons d m [] ∙ append-nil (exprs_to d m))) h

  mutual
    target_in_line : (t : Target) (rs : Open) (n d : ℕ) (i : PatId) (ms : List Mapping) → i.0 < d
        → CorrespondsTarget store source_map rs t i ms → (read d).pat i ≡ target_data t → EachBelow n (exprs_to d i)
        → InLine n (exprs_to d i) (places t)
    target_in_line (tree.absent_target call) rs n d i ms less h e below = bare_target n d i _ less e refl
    target_in_line (tree.place_target at e) rs n d i ms less h reads below =
        inner n d i (pat.Expr h.0) _ (e ∷ []) less h.1 reads below (λ c lower shape under. stood under.0 rs ms h.2 ended)
    target_in_line (tree.macro_target at called t) rs n d i ms less h e below = target_in_line t rs n d i ms less h e below
    target_in_line (tree.wild_target at) rs n d i ms less h e below = bare_target n d i _ less e refl
    target_in_line (tree.path_target at p hygiene) rs n d i ms less h e below =
        bare_target n d i _ less e (path_target_is_bare (path_of (tree.some_path p)) hygiene)
    target_in_line (tree.tuple_target at ts) rs n d i ms less h e below =
        tuple_target (λ is. CorrespondsTargets store source_map rs ts is) n d i ms less h (Some (source_of at)) (target_dots ts)
        (targets_data ts) (places_of_each ts) e below
        (λ c is ns lower under k reads. targets_in_line ts rs n c is ns lower under k reads)
    target_in_line (tree.call_target at p ts) rs n d i ms less h e below =
        struct_target (λ is. CorrespondsTargets store source_map rs ts is) (path_of p) n d i h.right less h.second
        (Some (source_of at)) at.call
        (target_dots ts) (targets_data ts) (places_of_each ts) e below
        (λ c is ns lower under k reads. targets_in_line ts rs n c is ns lower under k reads)
    target_in_line (tree.array_target at before dots behind) rs n d i ms less h e below =
        inner n d i (pat.Slice h.0 h.1 h.2) _ (places_of_each before ++ places_of_each behind) less h.3 e below
        (λ c lower shape under.
        let rest = option_to_list h.1 ++ h.2 in
        let whole = exprs_append c h.0 rest in
        let after = exprs_append c (option_to_list h.1) h.2 in
        let split = subst (λ l. EachBelow n l) whole under in
        let later = subst (λ l. EachBelow n l) after (each_below_right n (exprs_each c h.0) (exprs_each c rest) split) in
        let others = below_right c h.0 rest lower in
        subst (λ l. InLine n l (places_of_each before ++ places_of_each behind)) (sym whole)
        (lined-append store source_map self
        (targets_in_line before rs n c h.0 h.4.left (below_left c h.0 rest lower)
        (each_below_left n (exprs_each c h.0) (exprs_each c rest) split) h.4.first (ap front_of shape))
        (subst (λ l. InLine n l (places_of_each behind)) (sym after)
        (lined-append store source_map self
        (dots_in_line n c dots h.1 (below_left c (option_to_list h.1) h.2 others) (ap sub_of shape))
        (targets_in_line behind rs n c h.2 h.4.right (below_right c (option_to_list h.1) h.2 others)
        (each_below_right n (exprs_each c (option_to_list h.1)) (exprs_each c h.2) later) h.4.second (ap back_of shape))))))
    target_in_line (tree.record_target at p fs dots spread) rs n d i ms less h e below =
        record_target (λ is. CorrespondsTargetFields store source_map rs fs is) (path_of p) n d i h.right dots less h.second
        (Some (source_of at))
        at.call (target_fields_data fs) (places_of_fields fs) e below
        (λ c is ns lower under k reads. fields_in_line fs rs n c is ns lower under k reads)

    targets_in_line : (ts : Targets) (rs : Open) (n d : ℕ) (is : List PatId) (ms : List Mapping) → AllBelow d is
        → EachBelow n (exprs_each d is) → CorrespondsTargets store source_map rs ts is ms → patterns_layer store source_map
        (read d) is ≡ targets_data ts
        → InLine n (exprs_each d is) (places_of_each ts)
    targets_in_line tree.no_targets rs n d is ms below under h e = none_in_line n d is h.0
    targets_in_line (tree.more_targets t ts) rs n d is ms below under h e =
        let lower = subst (λ l. AllBelow d l) h.2 below in
        let reads = ap (λ l. patterns_layer store source_map (read d) l) (sym h.2) ∙ e in
        cons_in_line n d is h.0 h.1 (places t) (places_of_each ts) h.2 under
        (λ one. target_in_line t rs n d h.0 h.3.left lower.0 h.3.first (ap first_of reads) one)
        (λ more. targets_in_line ts rs n d h.1 h.3.right lower.1 more h.3.second (ap others_of reads))
    targets_in_line (tree.dots_targets ts) rs n d is ms below under h e = targets_in_line ts rs n d is ms below under h e
    targets_in_line (tree.tracked_targets called ts) rs n d is ms below under h e = targets_in_line ts rs n d is ms below under h e

    fields_in_line : (fs : TargetFields) (rs : Open) (n d : ℕ) (is : List RecordFieldPat) (ms : List Mapping) → AllBelow d
        (map field_pat is)
        → EachBelow n (exprs_each d (map field_pat is)) → CorrespondsTargetFields store source_map rs fs is ms
        → pattern_fields_layer store source_map (read d) is ≡ target_fields_data fs → InLine n (exprs_each d (map field_pat is))
        (places_of_fields fs)
    fields_in_line tree.no_target_fields rs n d is ms below under h e = none_in_line n d (map field_pat is) (ap (λ l. map field_pat l) h.0)
    fields_in_line (tree.more_target_fields (tree.target_field at None t) fs) rs n d is ms below under h e =
        fields_in_line fs rs n d is h.1.right below under h.1.second e
    fields_in_line (tree.more_target_fields (tree.target_field at (Some name) t) fs) rs n d is ms below under h e =
        let lower = subst (λ l. AllBelow d (map field_pat l)) h.2 below in
        let reads = ap (λ l. pattern_fields_layer store source_map (read d) l) (sym h.2) ∙ e in
        cons_in_line n d (map field_pat is) h.0 (map field_pat h.1) (places t) (places_of_fields fs) (ap (λ l. map field_pat l) h.2) under
        (λ one. target_in_line t rs n d h.0 h.3.first.left lower.0 h.3.first.first (ap first_field reads) one)
        (λ more. fields_in_line fs rs n d h.1 h.3.right lower.1 more h.3.second (ap other_fields reads))
    fields_in_line (tree.more_target_fields (tree.disabled_target_field at by) fs) rs n d is ms below under h e =
        fields_in_line fs rs n d is ms below under h e
    fields_in_line (tree.more_target_fields tree.partless_target_field fs) rs n d is ms below under h e =
        fields_in_line fs rs n d is ms below under h e

  pub assign_plain : (at : Pointer) (own : OptionExpr) (t : Target) (e : OptionExpr) (rs : Open) (i : ExprId) (ms : List Mapping)
      → Corresponds store source_map rs (tree.assign_expr at own t e) i ms → Plain store source_map self i (places t ++ part e)
  unfolding stored_pat
  assign_plain at own t e rs i ms h =
      let q = h.0 in
      let x = h.1 in
      let found = h.2.stored in
      let d : ℕ = length store.types + length store.pats in
      let there = (o.patterns_there i (hir.Assignment q x) found).0 in
      let less : q.0 < d = omega (arith, there.0) in
      let whole : exprs_in_pat store q ≡ exprs_to d q = ap (λ l. flat_map (exprs_at store) l)
      (pats_in_whole store o.patterns q there.0 there.1 ∙ same_levels store o.patterns (suc q.0) d q (omega arith) less) in
      let below = subst (λ l. EachBelow i.0 l) whole (o.targets i q x found) in
      record {
        form = hir.Assignment q x;
        found = found;
        after_it = λ g ss. refl;
        in_it = λ g y. refl;
        lined = subst (λ l. InLine i.0 (l ++ x ∷ []) (places t ++ part e)) (sym whole)
            (lined-append store source_map self
            (target_in_line t rs i.0 d q h.3.left less h.3.first.1 h.3.first.0 below)
            (part_lined store source_map self i.0 rs e x h.3.second.left (o.parts i (hir.Assignment q x) found).0 h.3.second.first));
      }
