-- What lowering stores for the assignee expression reads back as what is written.
use Rattle.std.proofs.Common.{◌≡◌, ◌∙◌, refl, sym, ap, ℕ, suc, ◌+◌, ◌≤◌, Bool, false, List, [], ◌∷◌, ◌++◌, append-nil, append_assoc}
use Rattle.std.proofs.Common.{length, arith}
use Rattle.std.specs.Prelude.{Option, Some, None, option_map}
use Rattle.hir_store.specs.Pointers.{Pointer}
use Rattle.hir_store.specs.Stored.{Stored, store_of, map_of}
use Rattle.hir_store.specs.declared.ids.HygieneId.{HygieneId}
use Rattle.hir_store.specs.declared.ids.PatId.{PatId}
use Rattle.hir_store.specs.declared.name.Name.{Name}
use Rattle.hir_store.specs.declared.pat.Pat.TheVariants as pat
use Rattle.hir_store.specs.declared.pat.RecordFieldPat.{RecordFieldPat}
use Rattle.hir_store.specs.declared.path.Path.{Path as HirPath}
use Rattle.hir_env.specs.ResolvedTree as tree
use Rattle.hir_env.specs.ResolvedTree.{Called, Origin, Target, Targets, TargetFields}
use Rattle.hir_env.specs.Targets.{origin, source_of}
use Rattle.hir_lower_builder.specs.Calls.{emitted}
use Rattle.hir_lower_builder.specs.Forms.{ExprSteps, push_some}
use Rattle.hir_lower_builder.specs.Lower as lower
use Rattle.hir_lower_builder.specs.Lowering.{Lowering, ◌>>=◌, ◌>>◌, pure}
use Rattle.hir_lower_builder.specs.Pats.{Elements, no_elements}
use Rattle.hir_lower_builder.specs.Targets as forms
use Rattle.hir_lower_builder.specs.Targets.{alloc_target}
use Rattle.thm_logic.proofs.Calls.{correct_emitted}
use Rattle.thm_logic.proofs.Frames.{Frame}
use Rattle.thm_logic.proofs.Keeping.{part_any}
use Rattle.thm_logic.proofs.PatSteps.{correct_alloc_desugared_pat, correct_point_pat_field}
use Rattle.thm_logic.proofs.Steps.{Mark, Rel, Correct, correct_bind, correct_as, correct_in_store, correct_pure, correct_report}
use Rattle.thm_logic.proofs.TargetSteps.{correct_alloc_target}
use Rattle.thm_logic.proofs.TypeAny.{Any, any, pure_any}
use Rattle.spec_data.specs.Data as datum
use Rattle.spec_data.specs.Data.{PathData, PatData, pat_at, PatsData, PatFieldsData}
use Rattle.spec_data.specs.Lookup.{lookup_hygiene}
use Rattle.spec_data.specs.Patterns.{if_path, put_field}
use Rattle.spec_data.specs.Reading as reading
use Rattle.spec_data.specs.Reading.{stored_pat}
use Rattle.spec_data.specs.Rule.{PathRead, data_of}
use Rattle.spec_data.specs.Targets as written
use Rattle.spec_data.specs.Written.{path_of}
use Rattle.thm_round_trip.proofs.Calls.{called_target_reads}
use Rattle.thm_round_trip.proofs.Going.{PathIs}
use Rattle.thm_round_trip.proofs.Layers.{Reads, Pushed, pushed_all, within, a_path}
use Rattle.thm_round_trip.proofs.Lookup.{looked_up_by}
use Rattle.thm_logic.proofs.TupleDots.{dots_behind, no_dots, dots_here, one_further}
use Rattle.thm_round_trip.proofs.PatParts.{plus_none, list_is, maybe_field}
use Rattle.thm_round_trip.proofs.PatTree.{PatNow}
use Rattle.thm_round_trip.proofs.Pats.{a_pat, maybe_pat, many_pats, a_pattern, many_fields, pat_stored}
use Rattle.thm_round_trip.proofs.Tree.{path_reads}
use Rattle.thm_round_trip.proofs.Walk.{Answers, matches_read}

-- forms

missing_target_reads : (call : Option Pointer) → Correct (forms.missing_target call) (Reads a_pat (pat_at call datum.missing_pattern))
missing_target_reads call = correct_as (correct_alloc_desugared_pat pat.Missing call)
    (λ final ps m m' i g row. record { is = pat_stored row (λ d le. refl) })

wild_target_reads : (at : Origin) → Correct (alloc_target pat.Wild at) (Reads a_pat (pat_at (Some (source_of at)) datum.wild_pattern))
wild_target_reads at = correct_as (correct_alloc_target pat.Wild at)
    (λ final ps m m' i g row. record { is = pat_stored row (λ d le. refl) })

place_reads : {e : ExprSteps} (at : Pointer) → Correct e Any
    → Correct (forms.place_form at e) (Reads a_pat (pat_at (Some at) datum.place_pattern))
unfolding forms.place_form
place_reads at h = correct_as (correct_bind h (λ e. correct_alloc_desugared_pat (pat.Expr e) (Some at)))
    (λ final ps m m' i g row. record { is = pat_stored row.second (λ d le. refl) })

path_target_reads : (y : Option PathRead) {q : Lowering (Option HirPath)} (at : Origin) (h : HygieneId) → Correct q (PathIs y)
    → Correct (forms.path_target_form at h q) (Reads a_pat (pat_at (Some (source_of at)) (written.path_target_of y h)))
unfolding forms.path_target_form
path_target_reads y at h hq = correct_as (correct_bind hq (λ o. correct_alloc_target (forms.path_target_of h o) at))
    (λ final ps m m' i g row. record {
      is = pat_stored row.second (λ d le. go final row.middle.entries y row.one row.first.is d le);
    })
  where
    go : (final : Stored) (n : ℕ) (y : Option PathRead) (o : Option HirPath) → Answers final n y o → (d : ℕ) → n ≤ d
        → a_pattern final (within final d) (forms.path_target_of h o) ≡ written.path_target_of y h
    go final n None None a d le = refl
    go final n None (Some p) a d le = absurd a
    go final n (Some x) None a d le = absurd a
    go final n (Some x) (Some p) a d le =
        ap (datum.path_pattern (a_path final (within final d) p)) (looked_up_by (store_of final) (map_of final) (within final d) p h)
        ∙ ap (λ q. datum.path_pattern q (lookup_hygiene q h)) (matches_read final n x p a d le)

-- where the path is absent or refused the parts aren't read
abbrev WithTarget : HirPath → (PathData → PatData) → Rel PatId
WithTarget o x final ps m m' i =
    (z : PathData) → ((d : ℕ) → m.entries ≤ d → a_path final (within final d) o ≡ z) → (d : ℕ) → m'.entries ≤ d
    → (within final d).pat i ≡ x z

found_target : (y : Option PathRead) {x : PathData → PatData} {absent : PatData} {q : Lowering (Option HirPath)} → Correct q (PathIs y)
    → (g : Option HirPath → Lowering PatId) → Correct (g None) (Reads a_pat absent)
    → ((o : HirPath) → Correct (g (Some o)) (WithTarget o x)) → Correct (q >>= g) (Reads a_pat (if_path y x absent))
found_target y {x = x} {absent = absent} hq g none' some' = correct_as (correct_bind hq found)
    (λ final ps m m' i _ row. join final ps m row.middle m' y row.one i row.first.is row.second)
  where
    Found : Option HirPath → Rel PatId
    Found None final ps m m' i = Reads a_pat absent final ps m m' i
    Found (Some o) final ps m m' i = WithTarget o x final ps m m' i

    found : (o : Option HirPath) → Correct (g o) (Found o)
    found None = none'
    found (Some o) = some' o

    join : (final : Stored) (ps : List Frame) (m n m' : Mark) (y : Option PathRead) (o : Option HirPath) (i : PatId)
        → Answers final n.entries y o → Found o final ps n m' i → Reads a_pat (if_path y x absent) final ps m m' i
    join final ps m n m' None None i a h = record { is = h.is }
    join final ps m n m' None (Some o) i a h = absurd a
    join final ps m n m' (Some z) None i a h = absurd a
    join final ps m n m' (Some z) (Some o) i a h =
        record { is = h (data_of z) (λ d le. matches_read final n.entries z o a d le) }

-- lists

-- parts behind those that are done, with the place of the first two dots
record TargetsAre (done : Elements) (x : PatsData) (dots : Option ℕ) (final : Stored) (ps : List Frame) (m m' : Mark) (r : Elements)
    : Type 0 where
  new : List PatId
  ids : r.0 ≡ done.0 ++ new
  place : r.1 ≡ dots_behind (length done.0) done.1 dots
  reads : (d : ℕ) → m'.entries ≤ d → many_pats final (within final d) new ≡ x

no_targets_are : (done : Elements) → Correct (pure done) (TargetsAre done datum.no_patterns None)
no_targets_are done = correct_as (correct_pure done) (λ final ps m m' r g row. rw row.is (record {
  new = [];
  ids = sym (append-nil done.0);
  place = no_dots (length done.0) done.1;
  reads = λ d le. refl;
}))

target_before : {x : PatData} {y : PatsData} {d : Option ℕ} {p : Lowering PatId} {q : Elements → Lowering Elements}
    → Correct p (Reads a_pat x) → ((done : Elements) → Correct (q done) (TargetsAre done y d)) → (done : Elements)
    → Correct (p >>= (λ i. q (forms.add_target done i))) (TargetsAre done (datum.more_patterns x y) (option_map suc d))
target_before {d = d} h hs done = correct_as (correct_bind h (λ i. hs (forms.add_target done i)))
    (λ final ps m m' r g row. let s = row.second in record {
      new = row.one ∷ s.new;
      ids = s.ids ∙ append_assoc done.0 (row.one ∷ []) s.new;
      place = s.place ∙ one_further done.0 row.one done.1 d;
      reads = λ c le. λ j. datum.more_patterns (row.first.is c (omega (le, row.after.entries, arith)) j) (s.reads c le j);
    })

dots_before : {x : PatsData} {d : Option ℕ} {q : Elements → Lowering Elements}
    → ((done : Elements) → Correct (q done) (TargetsAre done x d)) → (done : Elements)
    → Correct (q (forms.add_target_dots done)) (TargetsAre done x (Some 0))
dots_before {d = d} hs done = correct_as (hs (forms.add_target_dots done)) (λ final ps m m' r g row. record {
  new = row.new;
  ids = row.ids;
  place = row.place ∙ dots_here done.0 done.1 d;
  reads = row.reads;
})

tracked_before : {x : PatsData} {d : Option ℕ} {done : Elements} {p : Lowering Elements} (c : Called) → Correct p (TargetsAre done x d)
    → Correct (emitted c >> p) (TargetsAre done x d)
tracked_before c h = correct_as (correct_bind (correct_emitted c) (λ u. h)) (λ final ps m m' r g row. let s = row.second in
    record { new = s.new; ids = s.ids; place = s.place; reads = s.reads })

tuple_target_reads : {x : PatsData} {d : Option ℕ} {p : Lowering Elements} (at : Origin) → Correct p (TargetsAre no_elements x d)
    → Correct (forms.tuple_target_form at p) (Reads a_pat (pat_at (Some (source_of at)) (datum.tuple_pattern d x)))
unfolding forms.tuple_target_form
tuple_target_reads {d = d} at h = correct_as (correct_bind h (λ r. correct_bind (list_is false r)
    (λ es. correct_alloc_target (pat.Tuple es.0 es.1) at)))
    (λ final ps m m' i g row. let e = row.first in let s = row.second in record {
      is = pat_stored s.second (λ n le.
          let ids = ap (many_pats final (within final n)) e.ids ∙ e.reads n (omega (le, s.before.entries, arith)) in
          λ j. datum.tuple_pattern ((s.first.place ∙ (e.place ∙ plus_none d)) j) ((s.first.reads n le ∙ ids) j));
    })

call_target_reads : {x : PatsData} {d : Option ℕ} {p : Lowering Elements} {q : Lowering (Option HirPath)} (y : Option PathRead)
    (at : Origin) → Correct q (PathIs y) → Correct p (TargetsAre no_elements x d)
    → Correct (forms.call_target_form at p q)
    (Reads a_pat (if_path y (λ z. pat_at (Some (source_of at)) (datum.tuple_struct_pattern z d x)) (pat_at at.call datum.missing_pattern)))
unfolding forms.call_target_form
call_target_reads {x = x} {d = d} {p = p} y at hq h = found_target y hq (forms.call_target_of at p) (missing_target_reads at.call) there
  where
    there : (o : HirPath) → Correct (forms.call_target_of at p (Some o))
        (WithTarget o (λ z. pat_at (Some (source_of at)) (datum.tuple_struct_pattern z d x)))
    there o = correct_as (correct_bind h (λ r. correct_bind (list_is false r)
        (λ es. correct_alloc_target (pat.TupleStruct o es.0 es.1) at)))
        (λ final ps m m' i g row z path. let e = row.first in let s = row.second in
        pat_stored s.second (λ n le.
        let ids = ap (many_pats final (within final n)) e.ids ∙ e.reads n (omega (le, s.before.entries, arith)) in
        λ j. datum.tuple_struct_pattern (path n (omega (le, row.before.entries, s.before.entries, arith)) j)
        ((s.first.place ∙ (e.place ∙ plus_none d)) j) ((s.first.reads n le ∙ ids) j)))

rest_reads : (dots : Option Pointer) → Correct (forms.rest_target dots) (Reads maybe_pat (written.dots_pattern dots))
rest_reads None = correct_as (correct_pure None) (λ final ps m m' o g row. rw row.is (record { is = λ d le. refl }))
rest_reads (Some at) = correct_as (correct_bind (correct_alloc_target pat.Rest (origin None at)) (λ i. correct_pure (Some i)))
    (λ final ps m m' o g row. rw (row.second.is, row.second.still) (record {
      is = λ d le. ap datum.some_pattern (pat_stored row.first (λ n ge. refl) d le);
    }))

array_target_reads : {x y : PatsData} {c d : Option ℕ} {p q : Lowering Elements} (at : Origin) (dots : Option Pointer)
    → Correct p (TargetsAre no_elements x c) → Correct q (TargetsAre no_elements y d)
    → Correct (forms.array_target_form at dots p q)
    (Reads a_pat (pat_at (Some (source_of at)) (datum.slice_pattern x (written.dots_pattern dots) y)))
unfolding forms.array_target_form
array_target_reads at dots h k = correct_as (correct_bind h (λ b. correct_bind k (λ a. correct_bind (rest_reads dots)
    (λ m. correct_alloc_target (pat.Slice b.0 m a.0) at))))
    (λ final ps m m' i g row. let s = row.second in let u = s.second in record {
      is = pat_stored u.second (λ n le.
          let front = ap (many_pats final (within final n)) row.first.ids
          ∙ row.first.reads n (omega (le, s.before.entries, u.before.entries, arith)) in
          let back = ap (many_pats final (within final n)) s.first.ids ∙ s.first.reads n (omega (le, u.before.entries, arith)) in
          λ j. datum.slice_pattern (front j) (u.first.is n le j) (back j));
    })

-- records

no_field : Correct (pure None) (Reads maybe_field (λ fs. fs))
no_field = correct_as (correct_pure None) (λ final ps m m' o g row. rw row.is (record { is = λ d le. refl }))

target_field_reads : {x : PatData} {p : Lowering PatId} (at : Pointer) (n : Option Name) → Correct p (Reads a_pat x)
    → Correct (forms.target_field_form at n p) (Reads maybe_field (put_field n x))
unfolding forms.target_field_form
target_field_reads at None h = correct_as (correct_bind h (λ i. correct_pure None))
    (λ final ps m m' o g row. rw row.second.is (record { is = λ d le. refl }))
target_field_reads at (Some n) h = correct_as (correct_bind h (λ i. correct_bind (correct_point_pat_field i at)
    (λ u. correct_pure (Some (record { name = n; pat = i })))))
    (λ final ps m m' o g row. rw row.second.second.is (record {
      is = λ d le. λ j fs. datum.more_pattern_fields n (row.first.is d (omega (le, row.after.entries, arith)) j) fs;
    }))

field_before : {x : PatFieldsData → PatFieldsData} {y : PatFieldsData} {p : Lowering (Option RecordFieldPat)}
    {q : List RecordFieldPat → Lowering (List RecordFieldPat)} → Correct p (Reads maybe_field x)
    → ((done : List RecordFieldPat) → Correct (q done) (Pushed done (Reads many_fields y))) → (done : List RecordFieldPat)
    → Correct (p >>= (λ o. q (push_some done o))) (Pushed done (Reads many_fields (x y)))
field_before {x = x} {y = y} h hs done = correct_as (correct_bind h (λ o. hs (push_some done o)))
    (λ final ps m m' r g row. go final ps m row.middle m' r row.one row.first row.second (omega (row.after.entries, arith)))
  where
    go : (final : Stored) (ps : List Frame) (m n m' : Mark) (r : List RecordFieldPat) (o : Option RecordFieldPat)
        → Reads maybe_field x final ps m n o → Pushed (push_some done o) (Reads many_fields y) final ps n m' r
        → n.entries ≤ m'.entries → Pushed done (Reads many_fields (x y)) final ps m m' r
    go final ps m n m' r None one rest le = record {
      new = rest.new;
      is = rest.is;
      rel = record { is = λ d ge. rest.rel.is d ge ∙ ap (λ g. g y) (one.is d (omega (ge, le, arith))) };
    }
    go final ps m n m' r (Some a) one rest le = record {
      new = a ∷ rest.new;
      is = rest.is ∙ append_assoc done (a ∷ []) rest.new;
      rel = record {
        is = λ d ge. ap (reading.pattern_field_layer (store_of final) (map_of final) (within final d) a) (rest.rel.is d ge)
            ∙ ap (λ g. g y) (one.is d (omega (ge, le, arith)));
      };
    }

spread_any : (spread : Option Pointer) → Correct (forms.report_spread spread) Any
spread_any None = pure_any tt
spread_any (Some at) = any (correct_report _)

record_target_reads : {x : PatFieldsData} {p : Lowering (List RecordFieldPat)} {q : Lowering (Option HirPath)} (y : Option PathRead)
    (at : Origin) (dots : Bool) (spread : Option Pointer) → Correct q (PathIs y) → Correct p (Reads many_fields x)
    → Correct (forms.record_target_form at dots spread p q)
    (Reads a_pat (if_path y (λ z. pat_at (Some (source_of at)) (datum.record_pattern z x dots)) (pat_at at.call datum.missing_pattern)))
unfolding forms.record_target_form
record_target_reads {x = x} {p = p} y at dots spread hq h =
    found_target y hq (forms.record_target_of at dots spread p) (missing_target_reads at.call) there
  where
    there : (o : HirPath) → Correct (forms.record_target_of at dots spread p (Some o))
        (WithTarget o (λ z. pat_at (Some (source_of at)) (datum.record_pattern z x dots)))
    there o = correct_as (correct_bind (spread_any spread) (λ u. correct_bind h
        (λ fs. correct_alloc_target (pat.Record o fs dots) at)))
        (λ final ps m m' i g row z path. let s = row.second in
        pat_stored s.second (λ n le. λ j.
        datum.record_pattern (path n (omega (le, row.before.entries, s.before.entries, arith)) j) (s.first.is n le j) dots))

-- by induction

mutual
  pub target_reads : (t : Target) → Correct (lower.lower_target t) (Reads a_pat (written.target_data t))
  target_reads (tree.absent_target call) = missing_target_reads call
  target_reads (tree.place_target at e) = place_reads at (part_any (tree.some_expr e))
  target_reads (tree.macro_target at c t) = called_target_reads at c (target_reads t)
  target_reads (tree.wild_target at) = wild_target_reads at
  target_reads (tree.path_target at p h) = path_target_reads (path_of (tree.some_path p)) at h (path_reads (tree.some_path p))
  target_reads (tree.tuple_target at ts) = tuple_target_reads at (targets_read ts no_elements)
  target_reads (tree.call_target at p ts) = call_target_reads (path_of p) at (path_reads p) (targets_read ts no_elements)
  target_reads (tree.array_target at before dots behind) =
      array_target_reads at dots (targets_read before no_elements) (targets_read behind no_elements)
  target_reads (tree.record_target at p fs dots spread) =
      record_target_reads (path_of p) at dots spread (path_reads p) (pushed_all (fields_read fs []))

  targets_read : (ts : Targets) (done : Elements)
      → Correct (lower.lower_targets done ts) (TargetsAre done (written.targets_data ts) (written.target_dots ts))
  targets_read tree.no_targets done = no_targets_are done
  targets_read (tree.more_targets t ts) done = target_before (target_reads t) (targets_read ts) done
  targets_read (tree.dots_targets ts) done = dots_before (targets_read ts) done
  targets_read (tree.tracked_targets called ts) done = tracked_before called (targets_read ts done)

  fields_read : (fs : TargetFields) (done : List RecordFieldPat)
      → Correct (lower.lower_target_fields done fs) (Pushed done (Reads many_fields (written.target_fields_data fs)))
  fields_read tree.no_target_fields done = correct_as (correct_pure done) (λ final ps m m' r g row. rw row.is (record {
    new = [];
    is = sym (append-nil done);
    rel = record { is = λ d le. refl };
  }))
  fields_read (tree.more_target_fields (tree.disabled_target_field at by) fs) done =
      field_before (correct_as (correct_bind (correct_report _) (λ u. no_field)) (λ final ps m m' o g row. record { is = row.second.is }))
      (fields_read fs) done
  fields_read (tree.more_target_fields tree.partless_target_field fs) done = field_before no_field (fields_read fs) done
  fields_read (tree.more_target_fields (tree.target_field at n t) fs) done =
      field_before (target_field_reads at n (target_reads t)) (fields_read fs) done

pub target_now : (t : Target) → Correct (lower.lower_target t) (PatNow (written.target_data t))
unfolding stored_pat
target_now t = correct_as (correct_in_store (target_reads t))
    (λ final ps m m' i g row. record { is = row.rel.is (length final.types.entries + length final.pats.entries) row.entries })
