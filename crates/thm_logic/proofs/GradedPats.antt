-- What is done with the parts of patterns, in types too, by what is told of the parts: one lemma a form, for all claims. Steps that hand
-- the table of names on do so from these names to those.
use Rattle.std.proofs.Common.{◌≡◌, ◌∙◌, refl, sym, subst, ℕ, suc, Bool, true, false, not, if◌then◌else◌}
use Rattle.std.proofs.Common.{List, [], ◌∷◌, ◌++◌, length, Option, Some, None, is_some, option_map}
use Rattle.hir_base.specs.declared.op.RangeOp.{RangeOp}
use Rattle.hir_store.specs.Names.{IsWritten}
use Rattle.hir_store.specs.Pointers.{Pointer}
use Rattle.hir_store.specs.declared.ids.BindingId.{BindingId}
use Rattle.hir_store.specs.declared.ids.ExprId.{ExprId}
use Rattle.hir_store.specs.declared.ids.LangItemId.{LangItemId}
use Rattle.hir_store.specs.declared.ids.PatId.{PatId}
use Rattle.hir_store.specs.declared.name.Name.{Name}
use Rattle.hir_store.specs.declared.name.Name.TheVariants as name
use Rattle.hir_store.specs.declared.pat.RecordFieldPat.{RecordFieldPat}
use Rattle.hir_store.specs.declared.path.Path.{Path as HirPath}
use Rattle.hir_env.specs.ResolvedTree as tree
use Rattle.hir_env.specs.ResolvedTree.{Pat, Pats, PatUnary, Signed, Use}
use Rattle.spec_data.specs.Patterns.{is_dots, moved_by}
use Rattle.spec_data.specs.Uses.{FirstUses, with_use}
use Rattle.hir_lower_builder.specs.Forms.{ExprSteps}
use Rattle.hir_lower_builder.specs.Lower.{lower_later, lower_pat}
use Rattle.hir_lower_builder.specs.Lowering.{Lowering, ◌>>=◌}
use Rattle.hir_lower_builder.specs.Pats as forms
use Rattle.hir_lower_builder.specs.Pats.{Elements, PatSteps, Table, enter_or, key_of, leave_or, missing_pat, no_elements}
use Rattle.hir_lower_builder.specs.Ranges as ranges
use Rattle.thm_logic.proofs.TupleDots.{dots_behind, dots_here, one_further}
use Rattle.thm_logic.specs.PathSeen.{Seen}
use Rattle.thm_logic.specs.PatNames.{is_known, names_after}
use Rattle.thm_logic.proofs.PathAnswers.{GivesPath, option_seen}
use Rattle.thm_logic.proofs.PatAnswers.{AsMany, Keyed, dots_use_none, from_none}
use Rattle.thm_logic.specs.Grading.{Grading, if_so, or_missing, grade_name, behind_comma, grade_or, grade_name_side}
use Rattle.thm_logic.proofs.Answering.{answering_any, answering_less, answering_pure, answering_then}
use Rattle.thm_logic.proofs.Graded.{Graded, Emitted, HandsEmitted, MadeEmitted, next, made_next, expr_claim, map_is, emitted_any, hand_pure}
use Rattle.thm_logic.proofs.Graded.{hand_as, hand_less, hand_then, hand_end, hand_map, hand_last, pat_beside, pat_hands, pat_last}
use Rattle.thm_logic.proofs.Graded.{pat_named, pat_next, pat_then}
use Rattle.thm_logic.proofs.GradedAnswers.{KnownBy, keyed_more, known_by, same_dots}
use Rattle.thm_logic.proofs.GradedTypes.{claim_by_path, hand_by_path}

module _ {ℓ} {S : Grading {ℓ}} (L : Graded S) where
  abbrev pub PatEmitted : {A : Type 0} → S.G → FirstUses → FirstUses → (Table → Lowering (A × Table)) → Type 0
  PatEmitted {A = A} g us vs p = (t : Table) → Keyed us t → HandsEmitted L {A = A} t g (λ r. Keyed vs r.1) (p t)

  -- a pattern that is made
  abbrev pub PatMade : S.G → FirstUses → FirstUses → PatSteps → Type 0
  PatMade g us vs p = (t : Table) → Keyed us t → MadeEmitted L t g (λ r. Keyed vs r.1) (p t)

  pub only_names : {g : S.G} {us vs : FirstUses} {p : PatSteps} → PatMade g us vs p → PatEmitted g us vs p
  only_names h t k = pat_hands L (h t k)

  -- the parts of a tuple, with the place of the first two dots
  abbrev pub ElementsEmitted : S.G → FirstUses → FirstUses → Option ℕ → (Table → Lowering (Elements × Table)) → Type 0
  ElementsEmitted g us vs d p = (t : Table) → Keyed us t → HandsEmitted L {A = Elements} t g (λ r. Keyed vs r.1 × (r.0.1 ≡ d)) (p t)

  -- parts behind those that are done
  abbrev pub PartsEmitted : S.G → FirstUses → FirstUses → Option ℕ → (Elements → Table → Lowering (Elements × Table)) → Type 0
  PartsEmitted g us vs d p = (done : Elements) (t : Table) → Keyed us t
      → HandsEmitted L {A = Elements} t g (λ r. Keyed vs r.1 × (r.0.1 ≡ dots_behind (length done.0) done.1 d)) (p done t)

  -- the alternatives behind these, as many as there are patterns
  abbrev pub LaterEmitted : S.G → FirstUses → FirstUses → Pats → (List PatId → Table → Lowering (List PatId × Table)) → Type 0
  LaterEmitted g us vs ps p = (done : List PatId) (t : Table) → Keyed us t
      → HandsEmitted L {A = List PatId} t g (λ r. Keyed vs r.1 × ((new : List PatId) × (r.0 ≡ done ++ new) × AsMany ps new))
      (p done t)

  pub missing_pat_graded : L.MadePat (S.pat_at None) missing_pat
  unfolding missing_pat
  missing_pat_graded = L.pat_is _ None

  pub alone_graded : (us : FirstUses) {g : S.G} {p : Lowering PatId} → L.MadePat g p → PatMade g us us (forms.alone p)
  alone_graded us h t k = pat_last L t refl h (λ i. k)

  -- names

  used_graded : (u : Use) → IsWritten u.name → (us : FirstUses) (t : Table) (o : Option BindingId) (w : FirstUses) (b : Bool) → Keyed us t
      → KnownBy us u o w b → HandsEmitted L {A = BindingId} t (if_so S (not b) S.binding) (λ r. Keyed w r.1) (forms.use_of_known u t o)
  used_graded u is us t (Some i) w b k x = rw x.0 (rw x.1 (hand_pure L i _ refl (record { each = k.each })))
  used_graded u is us t None w b k x = rw x.0 (rw x.1 (record {
    claim = L.new_name_is u is t (λ i. forms.with_use (length t.bindings) u.mode (forms.with_name (key_of u) i t)) (λ i. refl);
    known = answering_then (answering_any _) (λ i y. answering_pure _ (record { each = keyed_more u i us t.bindings k.each }));
  }))

  pub name_graded : (u : Use) → IsWritten u.name → (us : FirstUses) → PatEmitted (grade_name S us u) us (with_use us u) (forms.use_name u)
  unfolding forms.use_name
  name_graded u is us t k =
      used_graded u is us t (forms.binding_of (key_of u) t) (with_use us u) (is_known us u) k (known_by u us t.bindings k.each)

  -- parts of a tuple

  pub elements_graded : (comma : Bool) (es : Elements) (d : Option ℕ) → es.1 ≡ d
      → L.Claim (behind_comma S comma (S.dots (moved_by comma d))) (forms.elements_form comma es)
  unfolding forms.elements_form
  elements_graded comma es d e =
      subst (λ k. L.Claim (behind_comma S comma (S.dots (moved_by comma k))) (forms.elements_form comma es)) e (by comma)
    where
      by : (comma : Bool) → L.Claim (behind_comma S comma (S.dots (moved_by comma es.1))) (forms.elements_form comma es)
      by false = L.end_is (L.dots_is false es.1) (λ dots. L.pure_is _)
      by true = next L (L.dots_is true es.1) (λ dots. map_is L _ (map_is L _ (L.pat_made_is missing_pat_graded)))

  -- Two dots are no part, but say where parts are left out.
  step_graded : (dots : Bool) (done : Elements) (t : Table) {g : S.G} {us vs : FirstUses} (d : Option ℕ) {p : PatSteps}
      → (dots ≡ true → vs ≡ us) → PatEmitted g us vs p → Keyed us t → HandsEmitted L {A = Elements} t (if_so S (not dots) g)
      (λ r. Keyed vs r.1
      × (dots_behind (length r.0.0) r.0.1 d ≡ dots_behind (length done.0) done.1 (if dots then Some 0 else option_map suc d)))
      (forms.element_form dots done p t)
  step_graded true done t d same h k =
      hand_pure L (done.0, forms.dots_after done.0 done.1) t refl (subst (λ v. Keyed v t) (sym (same refl)) k, dots_here done.0 done.1 d)
  step_graded false done t d same h k = hand_map L (λ r. (done.0 ++ r.0 ∷ [], done.1)) (h t k) (λ r e. (e, one_further done.0 r.0 done.1 d))

  pub element_graded : (p : Pat) {g h : S.G} {us vs : FirstUses} {d : Option ℕ} {q : Elements → Table → Lowering (Elements × Table)}
      → PatEmitted g us (names_after p us) (lower_pat p) → PartsEmitted h (names_after p us) vs d q
      → PartsEmitted (S.then' (if_so S (not (is_dots p)) g) h) us vs (if is_dots p then Some 0 else option_map suc d)
      (λ done t. forms.element_form (forms.is_dots p) done (lower_pat p) t >>= (λ r. q r.0 r.1))
  element_graded p {g = g} {us = us} {d = d} one more done t k =
      hand_then L (subst (λ b. HandsEmitted L {A = Elements} t (if_so S (not (is_dots p)) g)
      (λ r. Keyed (names_after p us) r.1
      × (dots_behind (length r.0.0) r.0.1 d ≡ dots_behind (length done.0) done.1 (if is_dots p then Some 0 else option_map suc d)))
      (forms.element_form b done (lower_pat p) t)) (same_dots p)
      (step_graded (is_dots p) done t d (λ e. dots_use_none p e us) one k))
      (λ r e. hand_less L (λ s x. (x.0, x.1 ∙ e.1)) (more r.0 r.1 e.0))

  pub all_parts : {g : S.G} {us vs : FirstUses} {d : Option ℕ} {p : Elements → Table → Lowering (Elements × Table)}
      → PartsEmitted g us vs d p → ElementsEmitted g us vs d (p no_elements)
  all_parts {d = d} h t k = hand_less L (λ r e. (e.0, e.1 ∙ from_none d)) (h no_elements t k)

  pub named_graded : (at : Pointer) (n : Option Name) (i : PatId) → L.Claim S.none (forms.named_part at n i)
  named_graded at None i = L.pure_is None
  named_graded at (Some n) i = map_is L _ (L.field_is i at)

  -- alternatives

  or_of_graded : (at : Pointer) (ps : Pats) (i : PatId) (is : List PatId) → AsMany ps is
      → L.Claim (grade_or S at ps) (forms.or_of at (i ∷ is))
  or_of_graded at tree.no_pats i [] h = L.pure_is i
  or_of_graded at tree.no_pats i (j ∷ is) h = absurd h
  or_of_graded at (tree.more_pats p ps) i [] h = absurd h
  or_of_graded at (tree.more_pats p ps) i (j ∷ is) h = L.pat_made_is (L.pat_is _ (Some at))
  or_of_graded at (tree.tracked_pats c ps) i is h = or_of_graded at ps i is h

  alternatives_graded : (at : Pointer) (ps : Pats) {g h : S.G} {us vs ws : FirstUses} {first : PatSteps} → PatEmitted g us vs first
      → LaterEmitted h vs ws ps (lower_later ps)
      → PatEmitted (S.then' g (S.then' h (grade_or S at ps))) us ws (forms.or_form at first (lower_later ps))
  unfolding forms.or_form
  alternatives_graded at ps one more t k = hand_then L (hand_as L (enter_or t) refl (one (enter_or t) (record { each = k.each }))) (λ r e.
      hand_then L (more (r.0 ∷ []) r.1 e) (λ rs x.
      hand_last L (λ i. i) (leave_or rs.1) refl (subst (λ is. L.Claim (grade_or S at ps) (forms.or_of at is)) (sym x.1.1)
      (or_of_graded at ps r.0 x.1.0 x.1.2)) (λ i. record { each = x.0.each })))

  pub or_graded : (at : Pointer) (ps : Pats) {g h : S.G} {us vs ws : FirstUses} {first : PatSteps} → PatMade g us vs first
      → LaterEmitted h vs ws ps (lower_later ps)
      → PatMade (S.then' g (S.then' h (grade_or S at ps))) us ws (forms.or_form at first (lower_later ps))
  or_graded at ps {first = first} one more t k =
      let whole = alternatives_graded at ps (only_names one) more t k in
      let before = one (enter_or t) (record { each = k.each }) in record {
        claim = L.or_is at ps t first before.claim before.known (λ r e. (more (r.0 ∷ []) r.1 e).claim)
            (λ r e. answering_less (λ rs x. (x.1.0, x.1.1)) (more (r.0 ∷ []) r.1 e).known) whole.claim;
        known = whole.known;
      }

  -- forms of patterns

  side_of_graded : (at : Pointer) (p : Option HirPath) → L.Claim (if_so S (is_some (option_seen p)) S.expr) (forms.path_side_of at p)
  side_of_graded at None = L.pure_is None
  side_of_graded at (Some p) = map_is L _ (expr_claim L _ (Some at))

  module _ (at : Pointer) where
    pub path_pat_graded : {g : S.G} {q : Lowering (Option HirPath)} → L.Claim g q
        → L.MadePat (S.then' g (S.pat_at (Some at))) (forms.path_pat_form at q)
    unfolding forms.path_pat_form
    path_pat_graded h = pat_next L h (λ p. L.pat_is _ _)

    pub bind_graded : (u : Use) → IsWritten u.name → {g : S.G} {us vs : FirstUses} {s : Table → Lowering (Option PatId × Table)}
        → PatEmitted g us vs s
        → PatMade (S.then' g (S.then' (grade_name S vs u) (S.pat_at (Some at)))) us (with_use vs u) (forms.bind_form at u s)
    unfolding forms.bind_form
    bind_graded u is {vs = vs} h t k = pat_then L (h t k) (λ s e. pat_then L (name_graded u is vs s.1 e) (λ b e'.
        pat_named L b.0 b.1 refl (L.pat_is _ (Some at)) (λ i. e')))

    pub over_pat_graded : (form : PatUnary) {g : S.G} {us vs : FirstUses} {p : PatSteps} → PatEmitted g us vs p
        → PatMade (S.then' g (S.pat_at (Some at))) us vs (forms.over_pat_form at form p)
    unfolding forms.over_pat_form
    over_pat_graded form h t k = pat_then L (h t k) (λ r e. pat_last L r.1 refl (L.pat_is _ (Some at)) (λ i. e))

    pub tuple_pat_graded : (comma : Bool) {g : S.G} {us vs : FirstUses} {d : Option ℕ} {p : Table → Lowering (Elements × Table)}
        → ElementsEmitted g us vs d p
        → PatMade (S.then' g (S.then' (behind_comma S comma (S.dots (moved_by comma d))) (S.pat_at (Some at)))) us vs
        (forms.tuple_pat_form at comma p)
    unfolding forms.tuple_pat_form
    tuple_pat_graded comma {d = d} h t k =
        pat_then L (h t k) (λ r e. pat_beside L (emitted_any L (elements_graded comma r.0 d e.1)) (λ es x.
        pat_last L r.1 refl (L.pat_is _ (Some at)) (λ i. e.0)))

    struct_of_graded : (comma : Bool) {g : S.G} {us vs : FirstUses} {d : Option ℕ} {p : Table → Lowering (Elements × Table)}
        → ElementsEmitted g us vs d p → (t : Table) → Keyed us t → (o : Option HirPath) → MadeEmitted L t
        (or_missing S (is_some (option_seen o))
        (S.then' g (S.then' (behind_comma S comma (S.dots (moved_by comma d))) (S.pat_at (Some at)))))
        (λ r. Keyed (if is_some (option_seen o) then vs else us) r.1) (forms.tuple_struct_of at comma p o t)
    struct_of_graded comma {us = us} h t k None = alone_graded us missing_pat_graded t k
    struct_of_graded comma {d = d} h t k (Some o) =
        pat_then L (h t k) (λ r e. pat_beside L (emitted_any L (elements_graded comma r.0 d e.1)) (λ es x.
        pat_last L r.1 refl (L.pat_is _ (Some at)) (λ i. e.0)))

    pub tuple_struct_graded : (comma : Bool) {x : Option Seen} {f g : S.G} {us vs : FirstUses} {d : Option ℕ}
        {q : Lowering (Option HirPath)} {p : Table → Lowering (Elements × Table)} → Emitted L f (GivesPath x) q
        → ElementsEmitted g us vs d p
        → PatMade (S.then' f (or_missing S (is_some x)
        (S.then' g (S.then' (behind_comma S comma (S.dots (moved_by comma d))) (S.pat_at (Some at)))))) us
        (if is_some x then vs else us) (forms.tuple_struct_form at comma p q)
    unfolding forms.tuple_struct_form
    tuple_struct_graded comma {g = g} {us = us} {vs = vs} {d = d} hq h t k = hand_by_path L
        (λ y. or_missing S (is_some y) (S.then' g (S.then' (behind_comma S comma (S.dots (moved_by comma d))) (S.pat_at (Some at)))))
        (λ y r. Keyed (if is_some y then vs else us) r.1) hq (λ o. struct_of_graded comma h t k o)

    record_of_graded : (dots : Bool) {g : S.G} {us vs : FirstUses} {fs : Table → Lowering (List RecordFieldPat × Table)}
        → PatEmitted g us vs fs → (t : Table) → Keyed us t → (o : Option HirPath) → MadeEmitted L t
        (or_missing S (is_some (option_seen o)) (S.then' g (S.pat_at (Some at))))
        (λ r. Keyed (if is_some (option_seen o) then vs else us) r.1) (forms.record_pat_of at dots fs o t)
    record_of_graded dots {us = us} h t k None = alone_graded us missing_pat_graded t k
    record_of_graded dots h t k (Some o) =
        pat_then L (h t k) (λ r e. pat_last L r.1 refl (L.pat_is _ (Some at)) (λ i. e))

    pub record_pat_graded : (dots : Bool) {x : Option Seen} {f g : S.G} {us vs : FirstUses} {q : Lowering (Option HirPath)}
        {fs : Table → Lowering (List RecordFieldPat × Table)} → Emitted L f (GivesPath x) q → PatEmitted g us vs fs
        → PatMade (S.then' f (or_missing S (is_some x) (S.then' g (S.pat_at (Some at))))) us (if is_some x then vs else us)
        (forms.record_pat_form at dots fs q)
    unfolding forms.record_pat_form
    record_pat_graded dots {g = g} {us = us} {vs = vs} hq h t k = hand_by_path L
        (λ y. or_missing S (is_some y) (S.then' g (S.pat_at (Some at))))
        (λ y r. Keyed (if is_some y then vs else us) r.1) hq (λ o. record_of_graded dots h t k o)

    pub pat_field_graded : (n : Option Name) {g : S.G} {us vs : FirstUses} {p : PatSteps} → PatEmitted g us vs p
        → PatEmitted g us vs (forms.pat_field_form at n p)
    unfolding forms.pat_field_form
    pat_field_graded n h t k =
        hand_end L (h t k) (λ r. L.beside_end_is r.1 (named_graded at n r.0) (λ f. L.hands_pure_is f r.1 r.1 refl))
        (λ r e. answering_then (answering_any _) (λ f x. answering_pure (f, r.1) e))

    pub slice_graded : {f g h : S.G} {us vs ws xs : FirstUses} {b a : Table → Lowering (List PatId × Table)}
        {c : Table → Lowering (Option PatId × Table)} → PatEmitted f us vs b → PatEmitted g vs ws c → PatEmitted h ws xs a
        → PatMade (S.then' f (S.then' g (S.then' h (S.pat_at (Some at))))) us xs (forms.slice_pat_form at b c a)
    unfolding forms.slice_pat_form
    slice_graded hb hc ha t k = pat_then L (hb t k) (λ b e. pat_then L (hc b.1 e) (λ m e. pat_then L (ha m.1 e) (λ a e.
        pat_last L a.1 refl (L.pat_is _ (Some at)) (λ i. e))))

    pub literal_pat_graded : (own : Option Pointer) (s : Signed)
        → L.MadePat (S.then' S.expr (S.pat_at (Some at))) (forms.literal_pat_form at own s)
    unfolding forms.literal_pat_form
    literal_pat_graded own s = pat_next L (expr_claim L _ _) (λ e. L.pat_is _ (Some at))

    pub literal_side_graded : (s : Signed) → L.Claim S.expr (forms.literal_side_form at s)
    unfolding forms.literal_side_form
    literal_side_graded s = map_is L _ (expr_claim L _ (Some at))

    pub name_side_graded : (n : Name) → L.Claim (grade_name_side S n) (forms.name_side_of at n)
    name_side_graded name.Missing = L.pure_is None
    name_side_graded n = map_is L _ (expr_claim L _ (Some at))

    pub path_side_graded : {x : Option Seen} {g : S.G} {q : Lowering (Option HirPath)} → Emitted L g (GivesPath x) q
        → L.Claim (S.then' g (if_so S (is_some x) S.expr)) (forms.path_side_form at q)
    unfolding forms.path_side_form
    path_side_graded h = claim_by_path L (λ y. if_so S (is_some y) S.expr) h (λ p. side_of_graded at p)

    pub range_pat_graded : (op : Option RangeOp) {g h : S.G} {s e : Lowering (Option ExprId)} → L.Claim g s → L.Claim h e
        → L.MadePat (S.then' g (S.then' h (S.pat_at (Some at)))) (forms.range_pat_form at op s e)
    unfolding forms.range_pat_form
    range_pat_graded op hs he = pat_next L hs (λ s. pat_next L he (λ e. L.pat_is _ (Some at)))

    -- patterns of types

    pub literal_limit_graded : (s : Signed) → L.Made S.expr (ranges.literal_limit_form at s)
    unfolding ranges.literal_limit_form
    literal_limit_graded s = L.expr_is _ (Some at)

    pub name_limit_graded : (n : Name) → L.Made S.expr (ranges.name_limit_form at n)
    unfolding ranges.name_limit_form
    name_limit_graded n = L.expr_is _ (Some at)

    pub path_limit_graded : {g : S.G} {q : Lowering (Option HirPath)} → L.Claim g q
        → L.Made (S.then' g S.expr) (ranges.path_limit_form at q)
    unfolding ranges.path_limit_form
    path_limit_graded h = made_next L h (λ p. L.expr_is _ (Some at))

    pub limits_graded : {g h : S.G} {s e : ExprSteps} → L.Claim g s → L.Claim h e
        → L.MadePat (S.then' g (S.then' h (S.pat_at (Some at)))) (ranges.limits_form at s e)
    unfolding ranges.limits_form
    limits_graded hs he = pat_next L hs (λ s. pat_next L he (λ e. L.pat_is _ (Some at)))

    pub type_alternatives_graded : {g : S.G} {ps : Lowering (List PatId)} → L.Claim g ps
        → L.MadePat (S.then' g (S.pat_at (Some at))) (ranges.type_alternatives_form at ps)
    unfolding ranges.type_alternatives_form
    type_alternatives_graded h = pat_next L h (λ ps. L.pat_is _ (Some at))

  pub item_graded : (item : Option LangItemId) → L.Made S.expr (ranges.item_form item)
  unfolding ranges.item_form
  item_graded item = L.expr_is _ None

  pub before_graded : (item : Option LangItemId) {g : S.G} {e : ExprSteps} → L.Made g e
      → L.Made (S.then' g (S.then' S.expr S.expr)) (ranges.before_form item e)
  unfolding ranges.before_form
  before_graded item h = made_next L (L.made_is h) (λ e. made_next L (expr_claim L _ None) (λ f. L.expr_is _ None))
