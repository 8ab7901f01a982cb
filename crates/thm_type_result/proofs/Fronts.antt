-- The places in the assignee expression come in front of those behind them.
use Rattle.std.proofs.Common.{◌≡◌, ◌∙◌, refl, sym, ap, ℕ, zero, suc, ◌+◌, List, [], ◌∷◌, ◌++◌, append_assoc, slice_get, Option}
use Rattle.std.proofs.Common.{Some, None}
use Rattle.hir_store.specs.Stored.{Store}
use Rattle.hir_store.specs.declared.ids.ExprId.{ExprId}
use Rattle.hir_store.specs.declared.ids.PatId.{PatId}
use Rattle.hir_store.specs.declared.pat.Pat.{Pat}
use Rattle.hir_store.specs.declared.pat.Pat.TheVariants as pat
use Rattle.hir_store.specs.declared.pat.RecordFieldPat.{RecordFieldPat}
use Rattle.spec_semantics.specs.Places.{places_to, places_found, places_in, places_in_each, places_in_fields, places_in_present}
use Rattle.thm_semantics.specs.Reached.{of_each}
use Rattle.thm_type_result.proofs.Counted.{times, times_append}

module _ (part : PatId → List ExprId → List ExprId) (front : (p : PatId) (is : List ExprId) → part p is ≡ part p [] ++ is) where
  -- a pattern in front of others
  further : (p : PatId) (js : List ExprId) {ks : List ExprId} (is : List ExprId) → ks ≡ js ++ is → part p ks ≡ part p js ++ is
  further p js {ks = ks} is e = front p ks
      ∙ (ap (λ ls. part p [] ++ ls) e
      ∙ (sym (append_assoc (part p []) js is) ∙ ap (λ ls. ls ++ is) (sym (front p js))))

  pub each_front : (ps : List PatId) (is : List ExprId) → places_in_each part ps is ≡ places_in_each part ps [] ++ is
  each_front [] is = refl
  each_front (p ∷ ps) is = further p (places_in_each part ps []) is (each_front ps is)

  pub present_front : (o : Option PatId) (is : List ExprId) → places_in_present part o is ≡ places_in_present part o [] ++ is
  present_front None is = refl
  present_front (Some p) is = front p is

  pub fields_front : (fs : List RecordFieldPat) (is : List ExprId) → places_in_fields part fs is ≡ places_in_fields part fs [] ++ is
  fields_front [] is = refl
  fields_front (f ∷ fs) is = further f.pat (places_in_fields part fs []) is (fields_front fs is)

  slice_front : (b : List PatId) (m : Option PatId) (a : List PatId) (is : List ExprId)
      → places_in part (pat.Slice b m a) is ≡ places_in part (pat.Slice b m a) [] ++ is
  slice_front b m a is =
      let as' = places_in_each part a [] in
      let ms = places_in_present part m as' in
      each_front b _
      ∙ (ap (λ ks. places_in_each part b [] ++ ks) (present_front m _ ∙ (ap (λ ks. places_in_present part m [] ++ ks) (each_front a is)
      ∙ (sym (append_assoc (places_in_present part m []) as' is) ∙ ap (λ ks. ks ++ is) (sym (present_front m as')))))
      ∙ (sym (append_assoc (places_in_each part b []) ms is) ∙ ap (λ ks. ks ++ is) (sym (each_front b ms))))

  in_front : (p : Pat) (is : List ExprId) → places_in part p is ≡ places_in part p [] ++ is
  in_front pat.Missing is = refl
  in_front pat.Wild is = refl
  in_front pat.Rest is = refl
  in_front pat.NotNull is = refl
  in_front (pat.Bind i sub) is = present_front sub is
  in_front (pat.Path p h) is = refl
  in_front (pat.TupleStruct p dots ps) is = each_front ps is
  in_front (pat.Tuple dots ps) is = each_front ps is
  in_front (pat.Record p fs dots) is = fields_front fs is
  in_front (pat.Or ps) is = each_front ps is
  in_front (pat.Slice b m a) is = slice_front b m a is
  in_front (pat.Ref m p) is = front p is
  in_front (pat.Box p) is = front p is
  in_front (pat.Deref p) is = front p is
  in_front (pat.Lit e) is = refl
  in_front (pat.Range op s e) is = refl
  in_front (pat.Expr e) is = refl

-- so it is in a store, however deep one looks
pub in_store_front : (s : Store) (c : ℕ) (p : PatId) (is : List ExprId) → places_to s c p is ≡ places_to s c p [] ++ is
unfolding places_to
in_store_front s zero p is = refl
in_store_front s (suc c) p is = by (slice_get s.pats p.0) (in_store_front s c)
  where
    by : (o : Option Pat) → ((q : PatId) (is : List ExprId) → places_to s c q is ≡ places_to s c q [] ++ is)
        → places_found (places_to s c) o is ≡ places_found (places_to s c) o [] ++ is
    by None front = refl
    by (Some q) front = in_front (places_to s c) front q is

-- how often a number is reached from them

each_append : (f : ExprId → List ℕ) (is js : List ExprId) → of_each f (is ++ js) ≡ of_each f is ++ of_each f js
each_append f [] js = refl
each_append f (i ∷ is) js = ap (λ ks. f i ++ ks) (each_append f is js) ∙ sym (append_assoc (f i) (of_each f is) (of_each f js))

-- in front and behind
pub times_each : (k : ℕ) (f : ExprId → List ℕ) {ls : List ExprId} (is js : List ExprId) → ls ≡ is ++ js
    → times k (of_each f ls) ≡ times k (of_each f is) + times k (of_each f js)
times_each k f is js e =
    ap (λ ks. times k (of_each f ks)) e
    ∙ (ap (times k) (each_append f is js) ∙ times_append k (of_each f is) (of_each f js))
