-- The same of the forms with patterns: the assignee expression, `match`, `let` and ranges.
use Rattle.std.proofs.Common.{◌≡◌, ◌∙◌, ℕ, zero, suc, ◌≤◌, inl, inr, Bool, false, List, [], ◌∷◌, ◌++◌, append-nil, append_assoc}
use Rattle.std.proofs.Common.{length, slice_get, Option, Some, None, refl, sym, ap, arith}
use Rattle.hir_store.specs.Pointers.{Pointer}
use Rattle.hir_store.specs.Stored.{Stored, Store, store_of}
use Rattle.hir_store.specs.declared.diagnostics.ExpressionStoreDiagnostics.TheVariants.{InactiveCode}
use Rattle.hir_store.specs.declared.hir.Expr.TheVariants as hir
use Rattle.hir_store.specs.declared.hir.MatchArm.{MatchArm}
use Rattle.hir_store.specs.declared.hir.RecordSpread.TheVariants as spread
use Rattle.hir_store.specs.declared.hir.Statement.{Statement}
use Rattle.hir_store.specs.declared.hir.Statement.TheVariants as statement
use Rattle.hir_store.specs.declared.ids.CfgId.{CfgId}
use Rattle.hir_store.specs.declared.ids.ExprId.{ExprId}
use Rattle.hir_store.specs.declared.ids.HygieneId.{HygieneId}
use Rattle.hir_store.specs.declared.ids.LangItemId.{LangItemId}
use Rattle.hir_store.specs.declared.ids.PatId.{PatId}
use Rattle.hir_store.specs.declared.name.Name.{Name}
use Rattle.hir_store.specs.declared.pat.Pat.{Pat as HirPat}
use Rattle.hir_store.specs.declared.pat.Pat.TheVariants as pat
use Rattle.hir_store.specs.declared.pat.RecordFieldPat.{RecordFieldPat}
use Rattle.hir_store.specs.declared.path.Path.{Path as HirPath}
use Rattle.hir_store.specs.declared.path.Path.TheVariants.{LangItem}
use Rattle.hir_env.specs.ResolvedTree as tree
use Rattle.hir_env.specs.ResolvedTree.{Called, Origin, OptionPat, OptionType, RangeForm}
use Rattle.hir_env.specs.Targets.{origin}
use Rattle.hir_lower_builder.specs.Calls.{emitted}
use Rattle.hir_lower_builder.specs.Forms.{ExprSteps, push_some, let_form, match_form, arm_form, assign_form, let_stmt_form}
use Rattle.hir_lower_builder.specs.Lower.{lower_top, present_type}
use Rattle.hir_lower_builder.specs.Lowering.{Lowering, ◌>>=◌, pure, report}
use Rattle.hir_lower_builder.specs.Pats.{Elements, no_elements, elements_form}
use Rattle.hir_lower_builder.specs.Ranges.{range_fields, end_operand, item_expr, made_range, range_form}
use Rattle.hir_lower_builder.specs.Targets as forms
use Rattle.hir_lower_builder.specs.Targets.{alloc_target}
use Rattle.spec_semantics.specs.Places.{places, places_to, places_found, places_in, places_in_each, places_in_fields}
use Rattle.spec_semantics.specs.Places.{places_in_present}
use Rattle.thm_logic.proofs.Calls.{correct_point_target, correct_emitted}
use Rattle.thm_logic.proofs.Frames.{Frame}
use Rattle.thm_logic.proofs.Keeping.{top_any, present_type_any}
use Rattle.thm_logic.proofs.PatSteps.{AllocatedPatBy, PutPat, correct_alloc_desugared_pat, correct_point_pat_field}
use Rattle.thm_logic.proofs.TargetSteps.{correct_alloc_target}
use Rattle.thm_logic.proofs.Steps.{Mark, Grows, Rel, Correct, correct_bind, correct_as, correct_in_store, correct_pure, correct_alloc}
use Rattle.thm_logic.proofs.Steps.{correct_report}
use Rattle.thm_semantics.specs.Reached.{of_some, of_each, of_fields, of_statement, of_arms, below, reached_to, Spread}
use Rattle.thm_semantics.proofs.Forms.{Pushed, pushed_one}
use Rattle.thm_semantics.proofs.Owning.{OwnsAs, Owns, OwnsSome, owns_at, owns2, leaf_owns}
use Rattle.thm_semantics.proofs.Spread.{spread_none, spread_wider, spread_append}
use Rattle.thm_semantics.proofs.TargetPlaces.{parts_of, spread_any}

-- places come in front of those behind them

each_append : (f : ExprId → List ℕ) (is js : List ExprId) → of_each f (is ++ js) ≡ of_each f is ++ of_each f js
each_append f [] js = refl
each_append f (i ∷ is) js = ap (λ ks. f i ++ ks) (each_append f is js) ∙ sym (append_assoc (f i) (of_each f is) (of_each f js))

module _ (part : PatId → List ExprId → List ExprId) (front : (p : PatId) (is : List ExprId) → part p is ≡ part p [] ++ is) where
  -- a pattern in front of others
  further : (p : PatId) (js : List ExprId) {ks : List ExprId} (is : List ExprId) → ks ≡ js ++ is → part p ks ≡ part p js ++ is
  further p js {ks = ks} is e = front p ks
      ∙ (ap (λ ls. part p [] ++ ls) e
      ∙ (sym (append_assoc (part p []) js is) ∙ ap (λ ls. ls ++ is) (sym (front p js))))

  each_front : (ps : List PatId) (is : List ExprId) → places_in_each part ps is ≡ places_in_each part ps [] ++ is
  each_front [] is = refl
  each_front (p ∷ ps) is = further p (places_in_each part ps []) is (each_front ps is)

  present_front : (o : Option PatId) (is : List ExprId) → places_in_present part o is ≡ places_in_present part o [] ++ is
  present_front None is = refl
  present_front (Some p) is = front p is

  fields_front : (fs : List RecordFieldPat) (is : List ExprId) → places_in_fields part fs is ≡ places_in_fields part fs [] ++ is
  fields_front [] is = refl
  fields_front (f ∷ fs) is = further f.pat (places_in_fields part fs []) is (fields_front fs is)

  slice_front : (b : List PatId) (m : Option PatId) (a : List PatId) (is : List ExprId)
      → places_in part (pat.Slice b m a) is ≡ places_in part (pat.Slice b m a) [] ++ is
  slice_front b m a is =
      let as' = places_in_each part a [] in
      let ms = places_in_present part m as' in
      each_front b _
      ∙ (ap (λ ks. places_in_each part b [] ++ ks) (present_front m _ ∙ (ap (λ ks. places_in_present part m [] ++ ks) (each_front a is)
      ∙ (sym (append_assoc (places_in_present part m []) as' is) ∙ ap (λ ks. ks ++ is) (sym (present_front m as')))))
      ∙ (sym (append_assoc (places_in_each part b []) ms is) ∙ ap (λ ks. ks ++ is) (sym (each_front b ms))))

  in_front : (p : HirPat) (is : List ExprId) → places_in part p is ≡ places_in part p [] ++ is
  in_front pat.Missing is = refl
  in_front pat.Wild is = refl
  in_front pat.Rest is = refl
  in_front pat.NotNull is = refl
  in_front (pat.Bind i sub) is = present_front sub is
  in_front (pat.Path p h) is = refl
  in_front (pat.TupleStruct p dots ps) is = each_front ps is
  in_front (pat.Tuple dots ps) is = each_front ps is
  in_front (pat.Record p fs dots) is = fields_front fs is
  in_front (pat.Or ps) is = each_front ps is
  in_front (pat.Slice b m a) is = slice_front b m a is
  in_front (pat.Ref m p) is = front p is
  in_front (pat.Box p) is = front p is
  in_front (pat.Deref p) is = front p is
  in_front (pat.Lit e) is = refl
  in_front (pat.Range op s e) is = refl
  in_front (pat.Expr e) is = refl

-- so it is in a store, however deep one looks
in_store_front : (s : Store) (c : ℕ) (p : PatId) (is : List ExprId) → places_to s c p is ≡ places_to s c p [] ++ is
unfolding places_to
in_store_front s zero p is = refl
in_store_front s (suc c) p is = by (slice_get s.pats p.0) (in_store_front s c)
  where
    by : (o : Option HirPat) → ((q : PatId) (is : List ExprId) → places_to s c q is ≡ places_to s c q [] ++ is)
        → places_found (places_to s c) o is ≡ places_found (places_to s c) o [] ++ is
    by None front = refl
    by (Some q) front = in_front (places_to s c) front q is

-- the assignee expression

-- the places of what was answered, in front of none
abbrev pub PlacesOf : Type 0 → Type 0
PlacesOf A = (PatId → List ExprId → List ExprId) → A → List ExprId

pub record OwnsIn {A : Type 0} (k : PlacesOf A) (final : Stored) (ps : List Frame) (m m' : Mark) (a : A) : Type 0 where
  pub spread : (c d : ℕ) → m'.pats ≤ c → m'.nodes ≤ d
      → Spread m.nodes m'.nodes (of_each (reached_to (store_of final) d) (k (places_to (store_of final) c) a))

abbrev pub of_target : PlacesOf PatId
of_target part i = part i []

abbrev pub of_targets : PlacesOf (List PatId)
of_targets part is = places_in_each part is []

abbrev pub of_present : PlacesOf (Option PatId)
of_present part o = places_in_present part o []

abbrev pub of_target_fields : PlacesOf (List RecordFieldPat)
of_target_fields part fs = places_in_fields part fs []

abbrev pub of_target_field : PlacesOf (Option RecordFieldPat)
of_target_field part None = []
of_target_field part (Some f) = part f.pat []

abbrev pub OwnsPlaces : Rel PatId
OwnsPlaces = OwnsIn of_target

-- a pattern that was stored under the number from
place_at : {put : PutPat} {p : HirPat} {from : Option Pointer} {final : Stored} {ps qs : List Frame} (m : Mark) {m1 m' : Mark} {i : PatId}
    → AllocatedPatBy put p from final qs m1 m' i → m.nodes ≤ m1.nodes
    → ((c d : ℕ) → m1.pats ≤ c → m'.nodes ≤ d
    → Spread m.nodes m1.nodes (of_each (reached_to (store_of final) d) (places_in (places_to (store_of final) c) p [])))
    → OwnsPlaces final ps m m' i
unfolding places_to
place_at {final = final} m {m1 = m1} {m' = m'} {i = i} at le h = record { spread = go }
  where
    go : (c d : ℕ) → m'.pats ≤ c → m'.nodes ≤ d
        → Spread m.nodes m'.nodes (of_each (reached_to (store_of final) d) (places_to (store_of final) c i []))
    go zero d ge ge' = absurd (omega (arith, ge, at.next))
    go (suc c) d ge ge' = rw (at.number, at.here, at.nodes) (h c d (omega (arith, ge, at.next)) ge')

-- without a place
abbrev Placeless : HirPat → Type 0
Placeless p = (part : PatId → List ExprId → List ExprId) → places_in part p [] ≡ []

none_at : {put : PutPat} {p : HirPat} {from : Option Pointer} {final : Stored} {ps qs : List Frame} {m m' : Mark} {i : PatId}
    → Placeless p → AllocatedPatBy put p from final qs m m' i → OwnsPlaces final ps m m' i
none_at {final = final} {m = m} e at =
    place_at m at (omega arith) (λ c d le le'. rw (e (places_to (store_of final) c)) (spread_none m.nodes m.nodes))

placeless : (p : HirPat) (at : Origin) → Placeless p → Correct (alloc_target p at) OwnsPlaces
placeless p at e = correct_as (correct_alloc_target p at) (λ final ps m m' i g at. none_at e at)

pub absent_owns : (call : Option Pointer) → Correct (forms.missing_target call) OwnsPlaces
absent_owns call = correct_as (correct_alloc_desugared_pat pat.Missing call) (λ final ps m m' i g at. none_at (λ part. refl) at)

pub wild_owns : (at : Origin) → Correct (alloc_target pat.Wild at) OwnsPlaces
wild_owns at = placeless pat.Wild at (λ part. refl)

-- a call is what it stands for
emitted_owns : (c : Called) {p : Lowering PatId} → Correct p OwnsPlaces → Correct (emitted c >>= (λ u. p)) OwnsPlaces
emitted_owns c h = correct_as (correct_bind (correct_emitted c) (λ u. h)) (λ final ps m m' i g row. record {
  spread = λ c d le le'. spread_wider m.nodes m'.nodes row.before.nodes (omega arith) (row.second.spread c d le le');
})

pub called_owns : (at : Option Pointer) (c : Called) {p : Lowering PatId} → Correct p OwnsPlaces
    → Correct (forms.called_target at c p) OwnsPlaces
called_owns None c h = emitted_owns c h
called_owns (Some at) c h =
    emitted_owns c (correct_as (correct_bind h (λ i. correct_bind (correct_point_target at i) (λ u. correct_pure i)))
    (λ final ps m m' i g row. rw row.second.second.is (record {
      spread = λ c d le le'. spread_wider m.nodes m'.nodes (omega arith) row.after.nodes
          (row.first.spread c d (omega (le, row.after.pats, arith)) (omega (le', row.after.nodes, arith)));
    })))

module _ {R : Rel (Option HirPath)} {q : Lowering (Option HirPath)} (hq : Correct q R) where
  -- behind a path, or nothing of it
  behind_path : {g : Option HirPath → Lowering PatId} → ((o : Option HirPath) → Correct (g o) OwnsPlaces) → Correct (q >>= g) OwnsPlaces
  behind_path h = correct_as (correct_bind hq h) (λ final ps m m' i u row. record {
    spread = λ c d le le'. spread_wider m.nodes m'.nodes row.before.nodes (omega arith) (row.second.spread c d le le');
  })

  pub path_target_owns : (at : Origin) (h : HygieneId) → Correct (forms.path_target_form at h q) OwnsPlaces
  unfolding forms.path_target_form
  path_target_owns at h = behind_path by
    where
      by : (o : Option HirPath) → Correct (alloc_target (forms.path_target_of h o) at) OwnsPlaces
      by None = placeless pat.Missing at (λ part. refl)
      by (Some p) = placeless (forms.path_target_of h (Some p)) at (λ part. refl)

pub place_owns : (at : Pointer) {e : ExprSteps} → Correct e Owns → Correct (forms.place_form at e) OwnsPlaces
unfolding forms.place_form
place_owns at h = correct_as (correct_bind h (λ e. correct_alloc_desugared_pat (pat.Expr e) (Some at)))
    (λ final ps m m' i g row. place_at m row.second row.before.nodes (λ c d le le'.
    rw (append-nil (reached_to (store_of final) d row.one)) (row.first.spread d (omega (le', row.after.nodes, arith)))))

pub record ElementsOwn (done : Elements) (final : Stored) (ps : List Frame) (m m' : Mark) (r : Elements) : Type 0 where
  pub new : List PatId
  pub is : r.0 ≡ done.0 ++ new
  pub rel : OwnsIn of_targets final ps m m' new

pub none_own : (done : Elements) → Correct (pure done) (ElementsOwn done)
none_own done = correct_as (correct_pure done) (λ final ps m m' r g row. rw row.is (record {
  new = [];
  is = sym (append-nil done.0);
  rel = record { spread = λ c d le le'. spread_none m.nodes m'.nodes };
}))

-- those of a pattern, and of others behind it
both_own : {final : Stored} {ps : List Frame} {m n m' : Mark} {i : PatId} (is : ℕ → List ExprId) → Grows m n → Grows n m'
    → OwnsPlaces final ps m n i
    → ((c d : ℕ) → m'.pats ≤ c → m'.nodes ≤ d → Spread n.nodes m'.nodes (of_each (reached_to (store_of final) d) (is c)))
    → (c d : ℕ) → m'.pats ≤ c → m'.nodes ≤ d
    → Spread m.nodes m'.nodes (of_each (reached_to (store_of final) d) (places_to (store_of final) c i (is c)))
both_own {final = final} {m = m} {m' = m'} {i = i} is g g' h k c d le le' =
    let s = store_of final in
    rw (in_store_front s c i (is c), each_append (reached_to s d) (places_to s c i []) (is c))
    (spread_append m.nodes m'.nodes (inl (omega arith)) (omega arith)
    (h.spread c d (omega (le, g'.pats, arith)) (omega (le', g'.nodes, arith))) (k c d le le'))

pub more_own : {p : Lowering PatId} {q : Elements → Lowering Elements} → Correct p OwnsPlaces
    → ((done : Elements) → Correct (q done) (ElementsOwn done)) → (done : Elements)
    → Correct (p >>= (λ i. q (forms.add_target done i))) (ElementsOwn done)
more_own h hs done = correct_as (correct_bind h (λ i. hs (forms.add_target done i)))
    (λ final ps m m' r g row. let s = row.second in record {
      new = row.one ∷ s.new;
      is = pushed_one done.0 row.one s.new s.is;
      rel = record {
        spread = both_own (λ c. places_in_each (places_to (store_of final) c) s.new []) row.before row.after row.first s.rel.spread;
      };
    })

pub dots_own : {q : Elements → Lowering Elements} → ((done : Elements) → Correct (q done) (ElementsOwn done)) → (done : Elements)
    → Correct (q (forms.add_target_dots done)) (ElementsOwn done)
dots_own hs done =
    correct_as (hs (forms.add_target_dots done)) (λ final ps m m' r g row. record { new = row.new; is = row.is; rel = row.rel })

-- behind a call that stands for two dots
pub tracked_own : (c : Called) {done : Elements} {p : Lowering Elements} → Correct p (ElementsOwn done)
    → Correct (emitted c >>= (λ u. p)) (ElementsOwn done)
tracked_own c h = correct_as (correct_bind (correct_emitted c) (λ u. h)) (λ final ps m m' r g row. let s = row.second in record {
  new = s.new;
  is = s.is;
  rel = record {
    spread = λ c d le le'. spread_wider m.nodes m'.nodes row.before.nodes (omega arith) (s.rel.spread c d le le');
  };
})

-- what is a list of patterns as it is stored
list_own : {p : Lowering Elements} (at : Origin) (con : Option ℕ → List PatId → HirPat)
    → ((part : PatId → List ExprId → List ExprId) (n : Option ℕ) (is : List PatId)
    → places_in part (con n is) [] ≡ places_in_each part is [])
    → Correct p (ElementsOwn no_elements)
    → Correct (p >>= (λ r. elements_form false r >>= (λ es. alloc_target (con es.0 es.1) at))) OwnsPlaces
list_own at con e h = correct_as (correct_bind h (λ r. correct_bind (parts_of r) (λ es. correct_alloc_target (con es.0 es.1) at)))
    (λ final ps m m' i g row. let s = row.second in
    place_at m s.second (omega (row.before.nodes, s.before.nodes, arith)) (λ c d le le'.
    rw (e (places_to (store_of final) c) s.one.0 s.one.1, s.first, row.first.is)
    (spread_wider m.nodes s.middle.nodes (omega arith) s.before.nodes
    (row.first.rel.spread c d (omega (le, s.before.pats, arith)) (omega (le', s.before.nodes, s.after.nodes, arith))))))

module _ (at : Origin) {b : Lowering Elements} (hb : Correct b (ElementsOwn no_elements)) where
  pub tuple_target_owns : Correct (forms.tuple_target_form at b) OwnsPlaces
  unfolding forms.tuple_target_form
  tuple_target_owns = list_own at pat.Tuple (λ part n is. refl) hb

  pub call_target_owns : {R : Rel (Option HirPath)} {q : Lowering (Option HirPath)} → Correct q R
      → Correct (forms.call_target_form at b q) OwnsPlaces
  unfolding forms.call_target_form
  call_target_owns hq = behind_path hq by
    where
      by : (o : Option HirPath) → Correct (forms.call_target_of at b o) OwnsPlaces
      by None = absent_owns at.call
      by (Some p) = list_own at (pat.TupleStruct p) (λ part n is. refl) hb

  rest_owns : (dots : Option Pointer) → Correct (forms.rest_target dots) (OwnsIn of_present)
  rest_owns None = correct_as (correct_pure None)
      (λ final ps m m' o g row. rw row.is (record { spread = λ c d le le'. spread_none m.nodes m'.nodes }))
  rest_owns (Some p) = correct_as (correct_bind (placeless pat.Rest (origin None p) (λ part. refl)) (λ i. correct_pure (Some i)))
      (λ final ps m m' o g row. rw (row.second.is, row.second.still) (record { spread = row.first.spread }))

  pub array_target_owns : (dots : Option Pointer) {a : Lowering Elements} → Correct a (ElementsOwn no_elements)
      → Correct (forms.array_target_form at dots b a) OwnsPlaces
  unfolding forms.array_target_form
  array_target_owns dots ha = correct_as (correct_bind hb (λ b. correct_bind ha (λ a. correct_bind (rest_owns dots)
      (λ o. correct_alloc_target (pat.Slice b.0 o a.0) at))))
      (λ final ps m m' i g row. let x = row.first in let s = row.second in let y = s.first in let u = s.second in
      place_at m u.second (omega (row.before.nodes, s.before.nodes, u.before.nodes, arith)) (λ c d le le'.
      let part = places_to (store_of final) c in
      let front = in_store_front (store_of final) c in
      let f = reached_to (store_of final) d in
      rw (
        x.is,
        y.is,
        each_front part front x.new (places_in_present part u.one (places_in_each part y.new [])),
        present_front part front u.one (places_in_each part y.new []),
        each_append f (places_in_each part x.new []) (places_in_present part u.one [] ++ places_in_each part y.new []),
        each_append f (places_in_present part u.one []) (places_in_each part y.new []),
      )
      (spread_append m.nodes u.middle.nodes (inl (omega arith)) (omega (s.before.nodes, u.before.nodes, row.before.nodes, arith))
      (x.rel.spread c d (omega (le, s.before.pats, u.before.pats, arith))
      (omega (le', s.before.nodes, u.before.nodes, u.after.nodes, arith)))
      (spread_append row.middle.nodes u.middle.nodes (inr (omega arith)) (omega (s.before.nodes, u.before.nodes, arith))
      (u.first.spread c d le (omega (le', u.after.nodes, arith)))
      (y.rel.spread c d (omega (le, u.before.pats, arith)) (omega (le', u.before.nodes, u.after.nodes, arith)))))))

-- fields of a record

pub no_field_owns : Correct (pure None) (OwnsIn of_target_field)
no_field_owns = correct_as (correct_pure None)
    (λ final ps m m' o g row. rw row.is (record { spread = λ c d le le'. spread_none m.nodes m'.nodes }))

pub disabled_field_owns : (at : Pointer) (by : CfgId)
    → Correct (report (InactiveCode at by) >>= (λ u. pure None)) (OwnsIn of_target_field)
disabled_field_owns at by = correct_as (correct_bind (correct_report (InactiveCode at by)) (λ u. correct_pure None))
    (λ final ps m m' o g row. rw row.second.is (record { spread = λ c d le le'. spread_none m.nodes m'.nodes }))

pub target_field_owns : (at : Pointer) (n : Option Name) {p : Lowering PatId} → Correct p OwnsPlaces
    → Correct (forms.target_field_form at n p) (OwnsIn of_target_field)
unfolding forms.target_field_form
target_field_owns at None h = correct_as (correct_bind h (λ i. correct_pure None))
    (λ final ps m m' o g row. rw row.second.is (record { spread = λ c d le le'. spread_none m.nodes m'.nodes }))
target_field_owns at (Some n) h = correct_as (correct_bind h (λ i. correct_bind (correct_point_pat_field i at)
    (λ u. correct_pure (Some (record { name = n; pat = i })))))
    (λ final ps m m' o g row. rw row.second.second.is (record {
      spread = λ c d le le'. spread_wider m.nodes m'.nodes (omega arith) row.after.nodes
          (row.first.spread c d (omega (le, row.after.pats, arith)) (omega (le', row.after.nodes, arith)));
    }))

pub target_fields_more : {final : Stored} {ps : List Frame} {m n m' : Mark} {r : List RecordFieldPat} (done : List RecordFieldPat)
    (o : Option RecordFieldPat) → Grows m n → Grows n m' → OwnsIn of_target_field final ps m n o
    → Pushed (push_some done o) (OwnsIn of_target_fields) final ps n m' r → Pushed done (OwnsIn of_target_fields) final ps m m' r
target_fields_more {m = m} {m' = m'} done None g g' h p = record {
  new = p.new;
  is = p.is;
  rel = record { spread = λ c d le le'. spread_wider m.nodes m'.nodes g.nodes (omega arith) (p.rel.spread c d le le') };
}
target_fields_more {final = final} {ps = ps} {m = m} {n = n} {m' = m'} done (Some f) g g' h p = record {
  new = f ∷ p.new;
  is = pushed_one done f p.new p.is;
  rel = record {
    spread = both_own {final = final} {ps = ps} {m = m} {n = n} {m' = m'} {i = f.pat}
        (λ c. places_in_fields (places_to (store_of final) c) p.new []) g g' (record { spread = h.spread }) p.rel.spread;
  };
}

pub record_target_owns : (at : Origin) (dots : Bool) (spread : Option Pointer) {fs : Lowering (List RecordFieldPat)}
    {R : Rel (Option HirPath)} {q : Lowering (Option HirPath)} → Correct q R → Correct fs (Pushed [] (OwnsIn of_target_fields))
    → Correct (forms.record_target_form at dots spread fs q) OwnsPlaces
unfolding forms.record_target_form
record_target_owns at dots spread {fs = fs} hq h = behind_path hq by
  where
    by : (o : Option HirPath) → Correct (forms.record_target_of at dots spread fs o) OwnsPlaces
    by None = absent_owns at.call
    by (Some p) = correct_as (correct_bind (spread_any spread) (λ u. correct_bind h
        (λ fs. correct_alloc_target (pat.Record p fs dots) at)))
        (λ final ps m m' i g row. let s = row.second in
        place_at m s.second (omega (row.before.nodes, s.before.nodes, arith)) (λ c d le le'. rw s.first.is
        (spread_wider m.nodes s.middle.nodes row.before.nodes (omega arith)
        (s.first.rel.spread c d le (omega (le', s.after.nodes, arith))))))

pub assign_owns : (at : Pointer) {t : Lowering PatId} {v : ExprSteps} → Correct t OwnsPlaces → Correct v Owns
    → Correct (assign_form at t v) Owns
unfolding assign_form places
assign_owns at ht hv = correct_as
    (correct_bind (correct_in_store ht) (λ i. correct_bind hv (λ e. correct_alloc (hir.Assignment i e) (Some at))))
    (λ final ps m m' k g row. let s = row.second in
    owns_at m s.second (omega (row.before.nodes, s.before.nodes, arith)) (λ d le. spread_append m.nodes s.middle.nodes (inl (omega arith))
    (omega (row.before.nodes, s.before.nodes, arith))
    (row.first.rel.spread (length final.pats.entries) d row.first.pats (omega (le, s.before.nodes, arith))) (s.first.spread d le)))

-- `let`, `match` and ranges

pub let_owns : (at : Pointer) (p : OptionPat) {e : ExprSteps} → Correct e Owns → Correct (let_form at (lower_top p) e) Owns
unfolding let_form
let_owns at p h = correct_as (correct_bind (top_any p) (λ i. correct_bind h (λ e. correct_alloc (hir.Let i e) (Some at))))
    (λ final ps m m' k g row. let s = row.second in
    owns_at m s.second (omega (row.before.nodes, s.before.nodes, arith)) (λ d le.
    spread_wider m.nodes s.middle.nodes row.before.nodes (omega arith) (s.first.spread d le)))

pub match_owns : (at : Pointer) {e : ExprSteps} {arms : Lowering (List MatchArm)} → Correct e Owns → Correct arms (OwnsAs of_arms)
    → Correct (match_form at e arms) Owns
unfolding match_form
match_owns at he ha = owns2 hir.Match (Some at) (λ f s e arms. refl) he ha

abbrev pub of_arm : (ExprId → List ℕ) → Option MatchArm → List ℕ
of_arm f None = []
of_arm f (Some a) = f a.expr ++ of_some f a.guard

pub arm_owns : (p : OptionPat) {e : ExprSteps} {g : Lowering (Option ExprId)} → Correct e Owns → Correct g OwnsSome
    → Correct (arm_form (lower_top p) e g) (OwnsAs of_arm)
unfolding arm_form
arm_owns p he hg = correct_as (correct_bind (top_any p) (λ i. correct_bind he (λ e. correct_bind hg
    (λ g. correct_pure (Some (record { pat = i; guard = g; expr = e }))))))
    (λ final ps m m' a g row. let s = row.second in let u = s.second in rw (u.second.is, u.second.still) (record {
      spread = λ d le. spread_append m.nodes u.middle.nodes (inl (omega arith))
          (omega (row.before.nodes, s.before.nodes, u.before.nodes, arith))
          (s.first.spread d (omega (le, u.before.nodes, arith))) (u.first.spread d le);
    }))

pub arms_more : {final : Stored} {ps : List Frame} {m m1 m' : Mark} {r : List MatchArm} (done : List MatchArm)
    (o : Option MatchArm) → Grows m m1 → Grows m1 m' → OwnsAs of_arm final ps m m1 o
    → Pushed (push_some done o) (OwnsAs of_arms) final ps m1 m' r → Pushed done (OwnsAs of_arms) final ps m m' r
arms_more {m = m} {m' = m'} done None g g' h p = record {
  new = p.new;
  is = p.is;
  rel = record { spread = λ d le. spread_wider m.nodes m'.nodes (omega arith) (omega arith) (p.rel.spread d le) };
}
arms_more {m = m} {m' = m'} done (Some a) g g' h p = record {
  new = a ∷ p.new;
  is = pushed_one done a p.new p.is;
  rel = record {
    spread = λ d le. spread_append m.nodes m'.nodes (inl (omega arith)) (omega arith) (h.spread d (omega arith)) (p.rel.spread d le);
  };
}

-- the numbers of both ends
abbrev of_ends : (ExprId → List ℕ) → Option ExprId → Option ExprId → List ℕ
of_ends f s e = of_some f s ++ of_some f e

fields_below : (f : ExprId → List ℕ) (last : Name) (s e : Option ExprId) → of_fields f (range_fields last s e) ++ [] ≡ of_ends f s e
fields_below f last None None = refl
fields_below f last None (Some e) = append-nil (f e ++ []) ∙ append-nil (f e)
fields_below f last (Some s) None = append-nil (f s ++ [])
fields_below f last (Some s) (Some e) = append-nil (f s ++ (f e ++ [])) ∙ ap (λ ks. f s ++ ks) (append-nil (f e))

operands_below : (f : ExprId → List ℕ) (s e : Option ExprId) → of_each f (end_operand s ++ end_operand e) ≡ of_ends f s e
operands_below f None None = refl
operands_below f None (Some e) = append-nil (f e)
operands_below f (Some s) None = refl
operands_below f (Some s) (Some e) = ap (λ ks. f s ++ ks) (append-nil (f e))

item_below : (item : Option LangItemId) (f : ExprId → List ℕ) (s : Store) → below f s (item_expr item) ≡ []
item_below None f s = refl
item_below (Some i) f s = refl

-- what is made of ends that have their numbers by then
abbrev MadeOwns : Option ExprId → Option ExprId → Rel ExprId
MadeOwns s e final ps m m' i = (from : Mark) → from.nodes ≤ m.nodes
    → ((d : ℕ) → m.nodes ≤ d → Spread from.nodes m.nodes (of_ends (reached_to (store_of final) d) s e)) → Owns final ps from m' i

made_owns : (at : Pointer) (form : RangeForm) (s e : Option ExprId) → Correct (made_range at form s e) (MadeOwns s e)
made_owns at (tree.record_range item last) s e =
    correct_as (correct_alloc (hir.RecordLit (LangItem item) (range_fields last s e) spread.None) (Some at))
    (λ final ps m m' i g a from le h. owns_at from a le
    (λ d ge. rw (fields_below (reached_to (store_of final) d) last s e) (h d ge)))
made_owns at (tree.call_range item) s e = correct_as
    (correct_bind (leaf_owns (item_expr item) None (item_below item))
    (λ c. correct_alloc (hir.Call c (end_operand s ++ end_operand e)) (Some at)))
    (λ final ps m m' i g row from le h. owns_at from row.second (omega (le, row.before.nodes, arith)) (λ d ge.
    rw (operands_below (reached_to (store_of final) d) s e)
    (spread_append from.nodes row.middle.nodes (inr (omega arith)) (omega (le, row.before.nodes, arith))
    (row.first.spread d ge) (h d (omega (ge, row.before.nodes, arith))))))
made_owns at tree.itemless_range s e = correct_as (correct_alloc hir.Missing (Some at))
    (λ final ps m m' i g a from le h. owns_at from a le (λ d ge. spread_none from.nodes m.nodes))

pub range_owns : (at : Pointer) (form : RangeForm) {q r : Lowering (Option ExprId)} → Correct q OwnsSome → Correct r OwnsSome
    → Correct (range_form at form q r) Owns
unfolding range_form
range_owns at form hq hr = correct_as (correct_bind hq (λ s. correct_bind hr (λ e. made_owns at form s e)))
    (λ final ps m m' i g row. let u = row.second in u.second m (omega (row.before.nodes, u.before.nodes, arith)) (λ d le.
    spread_append m.nodes u.middle.nodes (inl (omega arith)) (omega (row.before.nodes, u.before.nodes, arith))
    (row.first.spread d (omega (le, u.before.nodes, arith))) (u.first.spread d le)))

-- `let` statements

pub record AsLet (final : Stored) (ps : List Frame) (m m' : Mark) (o : Option Statement) : Type 0 where
  pub held : Statement
  pub is : o ≡ Some held
  pub rel : OwnsAs of_statement final ps m m' held

pub let_stmt_owns : (p : OptionPat) (t : OptionType) {q r : Lowering (Option ExprId)} → Correct q OwnsSome → Correct r OwnsSome
    → Correct (let_stmt_form (lower_top p) (present_type t) q r) AsLet
unfolding let_stmt_form
let_stmt_owns p t hq hr = correct_as (correct_bind (top_any p) (λ i. correct_bind (present_type_any t) (λ k. correct_bind hq
    (λ j. correct_bind hr (λ l. correct_pure (Some (statement.Let i k j l)))))))
    (λ final ps m m' o g row. let s = row.second in let u = s.second in let v = u.second in record {
      held = statement.Let row.one s.one u.one v.one;
      is = v.second.is;
      rel = rw v.second.still (record {
        spread = λ d le. spread_append m.nodes v.middle.nodes (inl (omega arith))
            (omega (row.before.nodes, s.before.nodes, u.before.nodes, v.before.nodes, arith))
            (u.first.spread d (omega (le, v.before.nodes, arith))) (v.first.spread d le);
      });
    })
