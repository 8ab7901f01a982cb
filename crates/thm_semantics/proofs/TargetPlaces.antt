-- The places of the assignee expression are stored in their order, and run as they are written.
use Rattle.std.proofs.Common.{◌≡◌, ℕ, zero, suc, ◌≤◌, Bool, false, List, [], ◌∷◌, ◌++◌, append-nil, append_assoc, length}
use Rattle.std.proofs.Common.{Option, Some, None, refl, sym, subst, ◌∙◌, arith}
use Rattle.hir_store.specs.Pointers.{Pointer}
use Rattle.hir_store.specs.Stored.{Stored, store_of, map_of}
use Rattle.hir_store.specs.declared.diagnostics.ExpressionStoreDiagnostics.TheVariants.{InactiveCode}
use Rattle.hir_store.specs.declared.hir.Expr.TheVariants as hir
use Rattle.hir_store.specs.declared.ids.CfgId.{CfgId}
use Rattle.hir_store.specs.declared.ids.ExprId.{ExprId}
use Rattle.hir_store.specs.declared.ids.HygieneId.{HygieneId}
use Rattle.hir_store.specs.declared.ids.PatId.{PatId}
use Rattle.hir_store.specs.declared.name.Name.{Name}
use Rattle.hir_store.specs.declared.pat.Pat.{Pat as HirPat}
use Rattle.hir_store.specs.declared.pat.Pat.TheVariants as pat
use Rattle.hir_store.specs.declared.pat.RecordFieldPat.{RecordFieldPat}
use Rattle.hir_store.specs.declared.path.Path.{Path as HirPath}
use Rattle.hir_env.specs.Answering.{site_of}
use Rattle.hir_env.specs.ResolvedTree.{Called, Origin, Target}
use Rattle.hir_env.specs.Targets.{origin}
use Rattle.hir_lower_builder.specs.Calls.{emitted}
use Rattle.hir_lower_builder.specs.Forms.{ExprSteps, push_some, assign_form}
use Rattle.hir_lower_builder.specs.Lower.{lower_target}
use Rattle.hir_lower_builder.specs.Lowering.{Lowering, ◌>>=◌ as ◌then◌, pure, report}
use Rattle.hir_lower_builder.specs.Pats.{Elements, no_elements, elements_form}
use Rattle.hir_lower_builder.specs.Targets as forms
use Rattle.hir_lower_builder.specs.Targets.{alloc_target}
use Rattle.thm_logic.proofs.Calls.{correct_point_target, correct_emitted}
use Rattle.thm_logic.proofs.Frames.{Frame, scopes, Falls, falls_more}
use Rattle.thm_logic.proofs.PatAny.{dots_any}
use Rattle.thm_logic.proofs.PatSteps.{AllocatedPatBy, PutPat, correct_alloc_desugared_pat, correct_point_pat_field}
use Rattle.thm_logic.proofs.Steps.{Mark, Grows, Rel, Correct, Allocated, correct_bind, correct_as, correct_both, correct_in_store}
use Rattle.thm_logic.proofs.Steps.{correct_pure, correct_alloc, correct_report}
use Rattle.thm_logic.proofs.TargetSteps.{correct_alloc_target}
use Rattle.thm_logic.proofs.TypeAny.{Any, any, pure_any}
use Rattle.spec_data.specs.Data.{PatData}
use Rattle.spec_data.specs.Reading.{stored_pat}
use Rattle.spec_data.specs.Rule.{PathRead}
use Rattle.spec_data.specs.Targets.{target_data}
use Rattle.thm_round_trip.proofs.Going.{PathIs}
use Rattle.thm_round_trip.proofs.Targets.{target_now}
use Rattle.thm_round_trip.proofs.Walk.{Answers}
use Rattle.spec_semantics.specs.Run.{Value, ◌>>=◌, assigns}
use Rattle.spec_semantics.specs.Run.{pure as gives}
use Rattle.spec_semantics.specs.Jumps.{EnclosedTo}
use Rattle.spec_semantics.specs.Places.{places, places_to, places_in, places_in_each, places_in_fields, places_in_present}
use Rattle.spec_semantics.specs.Store.{run_each}
use Rattle.spec_semantics.specs.Syntax.{SyntaxRun, if_read}
use Rattle.hir_lower_scope.specs.Each.{Each}
use Rattle.hir_lower_scope.specs.Scopes.{Scope}
use Rattle.thm_semantics.proofs.Views.{numbers}
use Rattle.thm_semantics.proofs.Relation.{SameWhere, same_fewer, same_pure, same_bind, same_assigns}
use Rattle.thm_semantics.proofs.Senses.{Base, Under, base_of, under_grown, under_trans}
use Rattle.thm_semantics.proofs.Senses.{Walk, run_in, one, Goes, Runs, goes_within, goes_at}
use Rattle.thm_semantics.proofs.Forms.{Pushed, pushed_one}

-- places before others
abbrev pub Placing : Type 0
Placing = ℕ → List Scope → SyntaxRun (List Value) → SyntaxRun (List Value)

-- These expressions before others run as these places do before others.
pub record Put (base : Base) (nodes : ℕ) (x : Placing) (final : Stored) (ps : List Frame) (put : List ExprId → List ExprId) : Type 0 where
  pub same : (fuel d : ℕ) → nodes ≤ d → Falls base.labels ps → (names : ℕ) → names ≤ base.names → (is : List ExprId)
      (m : SyntaxRun (List Value)) → SameWhere names ps (run_each fuel (run_in final d fuel) is) m
      → SameWhere names ps (run_each fuel (run_in final d fuel) (put is)) (x fuel (scopes ps) m)
  pub jumps : (d : ℕ) → nodes ≤ d → (is : List ExprId) → Each (EnclosedTo (store_of final) d (numbers ps)) is
      → Each (EnclosedTo (store_of final) d (numbers ps)) (put is)

abbrev nothing : Placing
nothing fuel ss m = m

abbrev both : Placing → Placing → Placing
both x y fuel ss m = x fuel ss (y fuel ss m)

pub put_nothing : {base : Base} {nodes : ℕ} {final : Stored} {ps : List Frame} → Put base nodes nothing final ps (λ is. is)
put_nothing = record { same = λ fuel d le f names few is m h. h; jumps = λ d le is h. h }

put_both : {base : Base} {nodes : ℕ} {final : Stored} {ps : List Frame} {x y : Placing} {f g : List ExprId → List ExprId}
    → Put base nodes x final ps f → Put base nodes y final ps g → Put base nodes (both x y) final ps (λ is. f (g is))
put_both h k = record {
  same = λ fuel d le f names few is m s. h.same fuel d le f names few _ _ (k.same fuel d le f names few is m s);
  jumps = λ d le is s. h.jumps d le _ (k.jumps d le is s);
}

put_within : {base base' : Base} {nodes nodes' : ℕ} {final : Stored} {ps : List Frame} {x : Placing} {f : List ExprId → List ExprId}
    → Under base' base → nodes ≤ nodes' → Put base nodes x final ps f → Put base' nodes' x final ps f
put_within {base = base} {base' = base'} {ps = ps} le le' h = record {
  same = λ fuel d ge f names few is m s. h.same fuel d (omega (ge, le', arith)) (falls_more ps base'.labels base.labels le.labels f)
      names (omega (few, le.names, arith)) is m s;
  jumps = λ d ge is s. h.jumps d (omega (ge, le', arith)) is s;
}

-- looked into past the patterns that are stored by then
pub record PlacesAre (x : Placing) (final : Stored) (ps : List Frame) (m m' : Mark) (i : PatId) : Type 0 where
  pub put : (c : ℕ) → m'.pats ≤ c → Put (base_of m) m'.nodes x final ps (places_to (store_of final) c i)

-- one that was stored under the number from
places_at : {set : PutPat} {p : HirPat} {source : Option Pointer} {x : Placing} {final : Stored} {ps qs : List Frame} {m0 m m' : Mark}
    {i : PatId} → AllocatedPatBy set p source final qs m m' i
    → ((c : ℕ) → m.pats ≤ c → Put (base_of m0) m'.nodes x final ps (places_in (places_to (store_of final) c) p))
    → PlacesAre x final ps m0 m' i
unfolding places_to
places_at {p = p} {x = x} {final = final} {ps = ps} {m0 = m0} {m' = m'} {i = i} at h = record { put = by }
  where
    by : (c : ℕ) → m'.pats ≤ c → Put (base_of m0) m'.nodes x final ps (places_to (store_of final) c i)
    by zero le = absurd (omega (arith, le, at.next))
    by (suc c) le =
        let found : (is : List ExprId) → places_to (store_of final) (suc c) i is ≡ places_in (places_to (store_of final) c) p is
        = λ is. rw (at.number, at.here) refl in
        subst (λ k. Put (base_of m0) m'.nodes x final ps k) (λ j is. sym (found is) j) (h c (omega (arith, le, at.next)))

-- without places

-- it holds none
abbrev Placeless : HirPat → Type 0
Placeless p = (part : PatId → List ExprId → List ExprId) (is : List ExprId) → places_in part p is ≡ is

none_at : {set : PutPat} {p : HirPat} {source : Option Pointer} {final : Stored} {ps qs : List Frame} {m m' : Mark} {i : PatId}
    → Placeless p → AllocatedPatBy set p source final qs m m' i → PlacesAre nothing final ps m m' i
none_at {final = final} e at = places_at at (λ c le. record {
  same = λ fuel d ge f names few is n h. rw (e (places_to (store_of final) c) is) h;
  jumps = λ d ge is h. rw (e (places_to (store_of final) c) is) h;
})

without : (p : HirPat) (at : Origin) → Placeless p → Correct (alloc_target p at) (PlacesAre nothing)
without p at e = correct_as (correct_alloc_target p at) (λ final ps m m' i g at. none_at e at)

pub absent_places : (call : Option Pointer) → Correct (forms.missing_target call) (PlacesAre nothing)
absent_places call = correct_as (correct_alloc_desugared_pat pat.Missing call) (λ final ps m m' i g at. none_at (λ part is. refl) at)

pub wild_places : (at : Origin) → Correct (alloc_target pat.Wild at) (PlacesAre nothing)
wild_places at = without pat.Wild at (λ part is. refl)

-- a call is what it stands for
emitted_places : (c : Called) {x : Placing} {p : Lowering PatId} → Correct p (PlacesAre x)
    → Correct (◌then◌ (emitted c) (λ u. p)) (PlacesAre x)
emitted_places c h = correct_as (correct_bind (correct_emitted c) (λ u. h))
    (λ final ps m m' i g row. record { put = λ c le. put_within (omega arith) (omega arith) (row.second.put c le) })

pub called_places : (at : Option Pointer) (c : Called) {x : Placing} {p : Lowering PatId} → Correct p (PlacesAre x)
    → Correct (forms.called_target at c p) (PlacesAre x)
called_places None c h = emitted_places c h
called_places (Some at) c h =
    emitted_places c (correct_as (correct_bind h (λ i. correct_bind (correct_point_target at i) (λ u. correct_pure i)))
    (λ final ps m m' i g row. rw row.second.second.is (record {
      put = λ c le. put_within (omega arith) row.after.nodes (row.first.put c (omega (le, row.after.pats, arith)));
    })))

pub path_places : (at : Origin) (h : HygieneId) (y : Option PathRead) {q : Lowering (Option HirPath)} → Correct q (PathIs y)
    → Correct (forms.path_target_form at h q) (PlacesAre nothing)
unfolding forms.path_target_form
path_places at h y hq = correct_as (correct_bind hq stored)
    (λ final ps m m' i g row. record { put = λ c le. put_within (omega arith) (omega arith) (row.second.put c le) })
  where
    stored : (o : Option HirPath) → Correct (alloc_target (forms.path_target_of h o) at) (PlacesAre nothing)
    stored None = without pat.Missing at (λ part is. refl)
    stored (Some p) = without (forms.path_target_of h (Some p)) at (λ part is. refl)

-- a place

abbrev pub place : Walk Value → Placing
place x fuel ss m = x fuel ss >>= (λ v. m >>= (λ vs. gives (v ∷ vs)))

pub place_places : (at : Pointer) {e : ExprSteps} {x : Walk Value} → Correct e (Runs one x)
    → Correct (forms.place_form at e) (PlacesAre (place x))
unfolding forms.place_form
place_places at h = correct_as (correct_bind h (λ e. correct_alloc_desugared_pat (pat.Expr e) (Some at)))
    (λ final ps m m' i g row. places_at row.second (λ c le.
    let e = goes_within {base' = base_of m} {nodes' = m'.nodes} (omega arith) row.first in record {
      same = λ fuel d ge f names few is n s. same_bind (same_fewer few (e.same fuel d ge f))
          (λ v. same_bind s (λ vs. same_pure (v ∷ vs)));
      jumps = λ d ge is s. (e.jumps d ge, s);
    }))

-- lists

pub record ElementsPlace (done : Elements) (x : Placing) (final : Stored) (ps : List Frame) (m m' : Mark) (r : Elements) : Type 0 where
  pub new : List PatId
  pub is : r.0 ≡ done.0 ++ new
  pub put : (c : ℕ) → m'.pats ≤ c → Put (base_of m) m'.nodes x final ps (places_in_each (places_to (store_of final) c) new)

pub none_place : (done : Elements) → Correct (pure done) (ElementsPlace done nothing)
none_place done = correct_as (correct_pure done) (λ final ps m m' r g row. rw row.is (record {
  new = [];
  is = sym (append-nil done.0);
  put = λ c le. put_nothing;
}))

pub more_place : {x y : Placing} {p : Lowering PatId} {q : Elements → Lowering Elements} → Correct p (PlacesAre x)
    → ((done : Elements) → Correct (q done) (ElementsPlace done y)) → (done : Elements)
    → Correct (◌then◌ p (λ i. q (forms.add_target done i))) (ElementsPlace done (both x y))
more_place h hs done = correct_as (correct_bind h (λ i. hs (forms.add_target done i)))
    (λ final ps m m' r g row. let s = row.second in record {
      new = row.one ∷ s.new;
      is = s.is ∙ append_assoc done.0 (row.one ∷ []) s.new;
      put = λ c le. put_both
          (put_within (omega arith) (omega arith) (row.first.put c (omega (le, row.after.pats, arith))))
          (put_within (omega arith) (omega arith) (s.put c le));
    })

pub dots_place : {x : Placing} {q : Elements → Lowering Elements} → ((done : Elements) → Correct (q done) (ElementsPlace done x))
    → (done : Elements) → Correct (q (forms.add_target_dots done)) (ElementsPlace done x)
dots_place hs done = correct_as (hs (forms.add_target_dots done)) (λ final ps m m' r g row. record {
  new = row.new;
  is = row.is;
  put = row.put;
})

-- behind a call that stands for two dots
pub tracked_place : (c : Called) {done : Elements} {x : Placing} {p : Lowering Elements} → Correct p (ElementsPlace done x)
    → Correct (◌then◌ (emitted c) (λ u. p)) (ElementsPlace done x)
tracked_place c h = correct_as (correct_bind (correct_emitted c) (λ u. h)) (λ final ps m m' r g row. let s = row.second in record {
  new = s.new;
  is = s.is;
  put = λ c le. put_within (omega arith) (omega arith) (s.put c le);
})

-- forms of lists

-- the parts as they are stored, with no comma in front
abbrev pub PartsOf : Elements → Rel (Option ℕ × List PatId)
PartsOf es final ps m m' r = r.1 ≡ es.0

pub parts_of : (es : Elements) → Correct (elements_form false es) (PartsOf es)
unfolding elements_form
parts_of es = correct_as (correct_bind (dots_any false es.1) (λ place. correct_bind (correct_pure es.0) (λ ids. correct_pure (place, ids))))
    (λ final ps m m' r g row. let s = row.second in rw s.second.is s.first.is)

pub tuple_places : {x : Placing} {p : Lowering Elements} (at : Origin) → Correct p (ElementsPlace no_elements x)
    → Correct (forms.tuple_target_form at p) (PlacesAre x)
unfolding forms.tuple_target_form
tuple_places at h = correct_as (correct_bind h (λ r. correct_bind (parts_of r)
    (λ es. correct_alloc_target (pat.Tuple es.0 es.1) at)))
    (λ final ps m m' i g row. let e = row.first in let s = row.second in
    places_at s.second (λ c le. rw (s.first, e.is)
    (put_within (omega arith) (omega (s.before.nodes, s.after.nodes, arith)) (e.put c (omega (le, s.before.pats, arith))))))

-- beside a path that is absent or refused nothing runs
abbrev Found : Option HirPath → Placing → Rel PatId
Found None x = PlacesAre nothing
Found (Some o) x = PlacesAre x

found_places : (y : Option PathRead) {x : Placing} {q : Lowering (Option HirPath)} → Correct q (PathIs y)
    → (g : Option HirPath → Lowering PatId) → Correct (g None) (PlacesAre nothing)
    → ((o : HirPath) → Correct (g (Some o)) (PlacesAre x))
    → Correct (◌then◌ q g) (PlacesAre (λ fuel ss m. if_read y (x fuel ss m) m))
found_places y {x = x} hq g none' some' = correct_as (correct_bind hq found)
    (λ final ps m m' i u row. join final ps m row.middle m' y row.one i row.first.is row.second (under_grown row.before))
  where
    found : (o : Option HirPath) → Correct (g o) (Found o x)
    found None = none'
    found (Some o) = some' o

    join : (final : Stored) (ps : List Frame) (m n m' : Mark) (y : Option PathRead) (o : Option HirPath) (i : PatId)
        → Answers final n.entries y o → Found o x final ps n m' i → Under (base_of m) (base_of n)
        → PlacesAre (λ fuel ss v. if_read y (x fuel ss v) v) final ps m m' i
    join final ps m n m' None None i a h le = record { put = λ c ge. put_within le (omega arith) (h.put c ge) }
    join final ps m n m' None (Some o) i a h le = absurd a
    join final ps m n m' (Some z) None i a h le = absurd a
    join final ps m n m' (Some z) (Some o) i a h le = record { put = λ c ge. put_within le (omega arith) (h.put c ge) }

pub call_places : {x : Placing} {p : Lowering Elements} {q : Lowering (Option HirPath)} (y : Option PathRead) (at : Origin)
    → Correct q (PathIs y) → Correct p (ElementsPlace no_elements x)
    → Correct (forms.call_target_form at p q) (PlacesAre (λ fuel ss m. if_read y (x fuel ss m) m))
unfolding forms.call_target_form
call_places {x = x} {p = p} y at hq h = found_places y hq (forms.call_target_of at p) (absent_places at.call) there
  where
    there : (o : HirPath) → Correct (forms.call_target_of at p (Some o)) (PlacesAre x)
    there o = correct_as (correct_bind h (λ r. correct_bind (parts_of r)
        (λ es. correct_alloc_target (pat.TupleStruct o es.0 es.1) at)))
        (λ final ps m m' i g row. let e = row.first in let s = row.second in
        places_at s.second (λ c le. rw (s.first, e.is)
        (put_within (omega arith) (omega (s.before.nodes, s.after.nodes, arith)) (e.put c (omega (le, s.before.pats, arith))))))

-- the dots of an array hold no place
record RestIs (final : Stored) (ps : List Frame) (m m' : Mark) (o : Option PatId) : Type 0 where
  put : (c : ℕ) → m'.pats ≤ c → Put (base_of m) m'.nodes nothing final ps (places_in_present (places_to (store_of final) c) o)

rest_places : (dots : Option Pointer) → Correct (forms.rest_target dots) RestIs
rest_places None = correct_as (correct_pure None) (λ final ps m m' o g row. rw row.is (record { put = λ c le. put_nothing }))
rest_places (Some at) = correct_as (correct_bind (without pat.Rest (origin None at) (λ part is. refl)) (λ i. correct_pure (Some i)))
    (λ final ps m m' o g row. rw (row.second.is, row.second.still) (record { put = row.first.put }))

pub array_places : {x y : Placing} {p q : Lowering Elements} (at : Origin) (dots : Option Pointer)
    → Correct p (ElementsPlace no_elements x) → Correct q (ElementsPlace no_elements y)
    → Correct (forms.array_target_form at dots p q) (PlacesAre (both x y))
unfolding forms.array_target_form
array_places at dots h k = correct_as (correct_bind h (λ b. correct_bind k (λ a. correct_bind (rest_places dots)
    (λ o. correct_alloc_target (pat.Slice b.0 o a.0) at))))
    (λ final ps m m' i g row. let b = row.first in let s = row.second in let a = s.first in let u = s.second in
    places_at u.second (λ c le. rw (b.is, a.is) (put_both
    (put_within (omega arith) (omega (s.before.nodes, u.before.nodes, u.after.nodes, arith)) (b.put c
    (omega (le, s.before.pats, u.before.pats, arith))))
    (put_both
    (put_within (under_trans (under_grown row.before) (under_grown s.before)) (omega (u.after.nodes, arith)) (u.first.put c le))
    (put_within (under_grown row.before) (omega (u.before.nodes, u.after.nodes, arith)) (a.put c (omega (le, u.before.pats, arith))))))))

-- fields of a record

abbrev places_in_field : (PatId → List ExprId → List ExprId) → Option RecordFieldPat → List ExprId → List ExprId
places_in_field part None is = is
places_in_field part (Some f) is = part f.pat is

pub record FieldPlace (x : Placing) (final : Stored) (ps : List Frame) (m m' : Mark) (o : Option RecordFieldPat) : Type 0 where
  pub put : (c : ℕ) → m'.pats ≤ c → Put (base_of m) m'.nodes x final ps (places_in_field (places_to (store_of final) c) o)

pub record FieldsPlace (x : Placing) (final : Stored) (ps : List Frame) (m m' : Mark) (fs : List RecordFieldPat) : Type 0 where
  pub put : (c : ℕ) → m'.pats ≤ c → Put (base_of m) m'.nodes x final ps (places_in_fields (places_to (store_of final) c) fs)

pub no_field : Correct (pure None) (FieldPlace nothing)
no_field = correct_as (correct_pure None) (λ final ps m m' o g row. rw row.is (record { put = λ c le. put_nothing }))

-- one that is left out
pub disabled_place : (at : Pointer) (by : CfgId) → Correct (◌then◌ (report (InactiveCode at by)) (λ u. pure None)) (FieldPlace nothing)
disabled_place at by = correct_as (correct_bind (correct_report (InactiveCode at by)) (λ u. no_field))
    (λ final ps m m' o g row. record { put = λ c le. put_within (under_grown row.before) (omega arith) (row.second.put c le) })

pub nameless_place : {p : Lowering PatId} (at : Pointer) → Correct p Any
    → Correct (forms.target_field_form at None p) (FieldPlace nothing)
unfolding forms.target_field_form
nameless_place at h = correct_as (correct_bind h (λ i. correct_pure None))
    (λ final ps m m' o g row. rw row.second.is (record { put = λ c le. put_nothing }))

pub field_place : {x : Placing} {p : Lowering PatId} (at : Pointer) (n : Name) → Correct p (PlacesAre x)
    → Correct (forms.target_field_form at (Some n) p) (FieldPlace x)
unfolding forms.target_field_form
field_place at n h = correct_as (correct_bind h (λ i. correct_bind (correct_point_pat_field i at)
    (λ u. correct_pure (Some (record { name = n; pat = i })))))
    (λ final ps m m' o g row. let s = row.second in rw s.second.is (record {
      put = λ c le. put_within (omega arith) row.after.nodes (row.first.put c (omega (le, row.after.pats, arith)));
    }))

pub field_before : {x y : Placing} {p : Lowering (Option RecordFieldPat)} {q : List RecordFieldPat → Lowering (List RecordFieldPat)}
    → Correct p (FieldPlace x) → ((done : List RecordFieldPat) → Correct (q done) (Pushed done (FieldsPlace y)))
    → (done : List RecordFieldPat)
    → Correct (◌then◌ p (λ o. q (push_some done o))) (Pushed done (FieldsPlace (both x y)))
field_before {x = x} {y = y} h hs done = correct_as (correct_bind h (λ o. hs (push_some done o)))
    (λ final ps m m' r g row. go final ps m row.middle m' r row.one row.first row.second row.before row.after)
  where
    go : (final : Stored) (ps : List Frame) (m n m' : Mark) (r : List RecordFieldPat) (o : Option RecordFieldPat)
        → FieldPlace x final ps m n o → Pushed (push_some done o) (FieldsPlace y) final ps n m' r → Grows m n → Grows n m'
        → Pushed done (FieldsPlace (both x y)) final ps m m' r
    go final ps m n m' r None one rest g g' = record {
      new = rest.new;
      is = rest.is;
      rel = record {
        put = λ c le. put_both (put_within (omega arith) g'.nodes (one.put c (omega (le, g'.pats, arith))))
            (put_within (under_grown g) (omega arith) (rest.rel.put c le));
      };
    }
    go final ps m n m' r (Some f) one rest g g' = record {
      new = f ∷ rest.new;
      is = pushed_one done f rest.new rest.is;
      rel = record {
        put = λ c le. put_both (put_within (omega arith) g'.nodes (one.put c (omega (le, g'.pats, arith))))
            (put_within (under_grown g) (omega arith) (rest.rel.put c le));
      };
    }

pub spread_any : (spread : Option Pointer) → Correct (forms.report_spread spread) Any
spread_any None = pure_any tt
spread_any (Some at) = any (correct_report _)

pub record_places : {x : Placing} {p : Lowering (List RecordFieldPat)} {q : Lowering (Option HirPath)} (y : Option PathRead)
    (at : Origin) (dots : Bool) (spread : Option Pointer) → Correct q (PathIs y) → Correct p (Pushed [] (FieldsPlace x))
    → Correct (forms.record_target_form at dots spread p q) (PlacesAre (λ fuel ss m. if_read y (x fuel ss m) m))
unfolding forms.record_target_form
record_places {x = x} {p = p} y at dots spread hq h =
    found_places y hq (forms.record_target_of at dots spread p) (absent_places at.call) there
  where
    there : (o : HirPath) → Correct (forms.record_target_of at dots spread p (Some o)) (PlacesAre x)
    there o = correct_as (correct_bind (spread_any spread) (λ u. correct_bind h
        (λ fs. correct_alloc_target (pat.Record o fs dots) at)))
        (λ final ps m m' i g row. let s = row.second in let e = s.first in
        places_at s.second (λ c le. rw e.is (put_within (under_grown row.before) s.after.nodes (e.rel.put c le))))

-- assignments

abbrev pub assigned : Pointer → PatData → Placing → Walk Value → Walk Value
assigned at d y x fuel ss = x fuel ss
    >>= (λ w. y fuel ss (gives []) >>= (λ ws. assigns d (w ∷ ws) (Some (site_of at))))

goes_assign : {base : Base} {m m' : Mark} {at : Pointer} {final : Stored} {ps qs : List Frame} {i e : ExprId} {x : Walk Value} {y : Placing}
    (p : PatId) (d : PatData) → stored_pat (store_of final) (map_of final) p ≡ d
    → Put base m.nodes y final ps (places (store_of final) p) → Goes base m.nodes one x final ps e
    → Allocated (hir.Assignment p e) (Some at) final qs m m' i → Goes base m'.nodes one (assigned at d y x) final ps i
goes_assign {base = base} {m' = m'} {at = at} {final = final} {ps = ps} {i = i} {x = x} {y = y} p d is put h a =
    subst (λ k. Goes base m'.nodes one (assigned at k y x) final ps i) is (goes_at a
    (λ fuel n le f. same_bind (h.same fuel n le f) (λ w. same_bind (put.same fuel n le f base.names (omega arith) [] (gives [])
    (same_pure []))
    (λ ws. same_assigns (stored_pat (store_of final) (map_of final) p) (w ∷ ws) (Some (site_of at)))))
    (λ n le. (h.jumps n le, put.jumps n le [] tt)))

pub assign_fine : (at : Pointer) (t : Target) {q : ExprSteps} {x : Walk Value} {y : Placing} → Correct (lower_target t) (PlacesAre y)
    → Correct q (Runs one x) → Correct (assign_form at (lower_target t) q) (Runs one (assigned at (target_data t) y x))
unfolding assign_form places
assign_fine at t ht hq = correct_as (correct_bind (correct_in_store (correct_both ht (target_now t)))
    (λ i. correct_bind hq (λ e. correct_alloc (hir.Assignment i e) (Some at))))
    (λ final ps m m' k g row. let f = row.first in let s = row.second in
    goes_assign row.one (target_data t) f.rel.other.is
    (put_within (omega arith) s.before.nodes (f.rel.one.put (length final.pats.entries) f.pats))
    (goes_within (omega arith) s.first) s.second)
