-- What is stored for tuples, records, alternatives and ranges reads back.
use Rattle.std.proofs.Common.{◌≡◌, ◌∙◌, refl, sym, ap, subst, ℕ, suc, ◌+◌, ◌≤◌, Bool, true, false, if◌then◌else◌}
use Rattle.std.proofs.Common.{List, [], ◌∷◌, ◌++◌, add-one, append-nil, append_assoc, length, nat_lt, arith}
use Rattle.std.specs.Prelude.{◌^◌, Option, Some, None, option_map, unwrap_or}
use Rattle.hir_base.specs.declared.op.RangeOp.{RangeOp}
use Rattle.hir_store.specs.Pointers.{Pointer}
use Rattle.hir_store.specs.Stored.{Stored, store_of, map_of}
use Rattle.hir_store.specs.declared.hir.Expr.TheVariants as hir
use Rattle.hir_store.specs.declared.ids.ExprId.{ExprId}
use Rattle.hir_store.specs.declared.ids.PatId.{PatId}
use Rattle.hir_store.specs.declared.name.Name.{Name}
use Rattle.hir_store.specs.declared.name.Name.TheVariants as name
use Rattle.hir_store.specs.declared.pat.Pat.TheVariants as pat
use Rattle.hir_store.specs.declared.pat.RecordFieldPat.{RecordFieldPat}
use Rattle.hir_store.specs.declared.path.Path.{Path as HirPath}
use Rattle.hir_env.specs.ResolvedTree.{Signed}
use Rattle.hir_lower_builder.specs.Forms.{push_some, root_hygiene}
use Rattle.hir_lower_builder.specs.Lowering.{Lowering, ◌>>=◌, pure}
use Rattle.hir_lower_builder.specs.Pats as forms
use Rattle.hir_lower_builder.specs.Pats.{Table, enter_or, leave_or, next_alternative, Elements, no_elements, name_path}
use Rattle.thm_logic.proofs.Frames.{Frame}
use Rattle.thm_logic.proofs.Steps.{Mark, Rel, Correct, correct_bind, correct_as, correct_pure, correct_alloc, correct_count_out}
use Rattle.thm_logic.proofs.PatSteps.{correct_alloc_pat, correct_point_pat_field}
use Rattle.thm_logic.proofs.TupleDots.{dots_behind, no_dots, dots_here, one_further}
use Rattle.spec_data.specs.Data as datum
use Rattle.spec_data.specs.Data.{PatData, pat_at, absent_pattern, PatsData, PatFieldsData, OptionSideData}
use Rattle.spec_data.specs.Patterns as written
use Rattle.spec_data.specs.Reading as reading
use Rattle.spec_data.specs.Rule.{PathRead}
use Rattle.spec_data.specs.Uses.{FirstUses}
use Rattle.spec_data.specs.Written.{signed_data}
use Rattle.thm_round_trip.proofs.Going.{PathIs}
use Rattle.thm_round_trip.proofs.Layers.{Layer, Reads, within}
use Rattle.thm_round_trip.proofs.Pats.{a_pat, maybe_pat, many_pats, a_pattern, many_fields, maybe_side, PatIs, PatFine, pat_stored}
use Rattle.thm_round_trip.proofs.Pats.{alone_reads, WithPath, found_reads, PushedNamed, more_named}
use Rattle.thm_round_trip.proofs.Walk.{Answers, matches_read}

-- parts of a tuple

-- parts behind those that are done, with the place of the first two dots
pub record ElementsAre (done : Elements) (x : FirstUses → PatsData) (dots : Option ℕ) (f : FirstUses → FirstUses) (t : Table)
    (final : Stored) (ps : List Frame) (m m' : Mark) (r : Elements × Table) : Type 0 where
  pub new : List PatId
  pub ids : r.0.0 ≡ done.0 ++ new
  pub place : r.0.1 ≡ dots_behind (length done.0) done.1 dots
  pub rel : PatIs many_pats x f t final ps m m' (new, r.1)

pub no_elements_are : (done : Elements) (t : Table)
    → Correct (pure (done, t)) (ElementsAre done (λ us. datum.no_patterns) None (λ us. us) t)
no_elements_are done t = correct_as (correct_pure (done, t)) (λ final ps m m' r g row. rw row.is (record {
  new = [];
  ids = sym (append-nil done.0);
  place = no_dots (length done.0) done.1;
  rel = record { uses = λ us named. named; reads = λ us named d le. refl };
}))

-- two dots are no part
pub dots_are : {x : FirstUses → PatsData} {d : Option ℕ} {f : FirstUses → FirstUses} {q : Elements → Table → Lowering (Elements × Table)}
    (part : Table → Lowering (PatId × Table))
    → ((done : Elements) (t : Table) → Correct (q done t) (ElementsAre done x d f t)) → (done : Elements) (t : Table)
    → Correct (forms.element_form true done part t >>= (λ r. q r.0 r.1)) (ElementsAre done x (Some 0) f t)
dots_are {x = x} {d = d} {f = f} part h done t =
    correct_as (correct_bind (correct_pure ((done.0, forms.dots_after done.0 done.1), t)) (λ r. h r.0 r.1))
    (λ final ps m m' r g row. go final ps m row.middle m' r row.one row.first.is row.first.still row.second)
  where
    go : (final : Stored) (ps : List Frame) (m n m' : Mark) (r one : Elements × Table)
        → one ≡ ((done.0, forms.dots_after done.0 done.1), t) → n ≡ m → ElementsAre one.0 x d f one.1 final ps n m' r
        → ElementsAre done x (Some 0) f t final ps m m' r
    go final ps m n m' r one e s h =
        let k = subst (λ v. ElementsAre v.0 x d f v.1 final ps n m' r) e h in record {
          new = k.new;
          ids = k.ids;
          place = k.place ∙ dots_here done.0 done.1 d;
          rel = record { uses = k.rel.uses; reads = k.rel.reads };
        }

-- a part before others
pub part_is : {x : FirstUses → PatData} {y : FirstUses → PatsData} {d : Option ℕ} {f k : FirstUses → FirstUses}
    {p : Table → Lowering (PatId × Table)} {q : Elements → Table → Lowering (Elements × Table)} → PatFine a_pat p x f
    → ((done : Elements) (t : Table) → Correct (q done t) (ElementsAre done y d k t)) → (done : Elements) (t : Table)
    → Correct (forms.element_form false done p t >>= (λ r. q r.0 r.1))
    (ElementsAre done (λ us. datum.more_patterns (x us) (y (f us))) (option_map suc d) (λ us. k (f us)) t)
part_is {x = x} {y = y} {d = d} {f = f} {k = k} {p = p} h hs done t =
    correct_as (correct_bind (correct_bind (h t) (λ r. correct_pure ((done.0 ++ r.0 ∷ [], done.1), r.1))) (λ r. hs r.0 r.1))
    (λ final ps m m' r g row. let a = row.first in
    go final ps m a.middle row.middle m' r a.one row.one a.first a.second.is a.second.still row.second
    (omega (row.after.entries, arith)))
  where
    go : (final : Stored) (ps : List Frame) (m l n m' : Mark) (r : Elements × Table) (a : PatId × Table) (one : Elements × Table)
        → PatIs a_pat x f t final ps m l a → one ≡ ((done.0 ++ a.0 ∷ [], done.1), a.1) → n ≡ l
        → ElementsAre one.0 y d k one.1 final ps n m' r → n.entries ≤ m'.entries
        → ElementsAre done (λ us. datum.more_patterns (x us) (y (f us))) (option_map suc d) (λ us. k (f us)) t final ps m m' r
    go final ps m l n m' r a one first e s h le =
        let b = subst (λ v. ElementsAre v.0 y d k v.1 final ps n m' r) e h in
        let past : l.entries ≤ m'.entries = subst (λ v. v.entries ≤ m'.entries) s le in record {
          new = a.0 ∷ b.new;
          ids = b.ids ∙ append_assoc done.0 (a.0 ∷ []) b.new;
          place = b.place ∙ one_further done.0 a.0 done.1 d;
          rel = record {
            uses = λ us named. b.rel.uses (f us) (first.uses us named);
            reads = λ us named c ge. λ j. datum.more_patterns (first.reads us named c (omega (ge, past, arith)) j)
                (b.rel.reads (f us) (first.uses us named) c ge j);
          };
        }

-- the list of a tuple

counted_is : (comma : Bool) (place : Option ℕ)
    → Correct (forms.counted_dots comma place) (λ final ps m m' r. (r ≡ written.moved_by comma place) × (m'.entries ≡ m.entries))
counted_is comma None = correct_as (correct_pure None) (λ final ps m m' r g row. (row.is ∙ none comma, ap (λ n. n.entries) row.still))
  where
    none : (comma : Bool) → None ≡ written.moved_by comma None
    none false = refl
    none true = refl
counted_is comma (Some n) = by comma (nat_lt (forms.moved_dots comma n) (2 ^ 32))
  where
    moved : (comma : Bool) → Some (forms.moved_dots comma n) ≡ written.moved_by comma (Some n)
    moved false = refl
    moved true = ap Some (add-one n)

    by : (comma room : Bool) → Correct (forms.counted_place (if room then Some (forms.moved_dots comma n) else None))
        (λ final ps m m' r. (r ≡ written.moved_by comma (Some n)) × (m'.entries ≡ m.entries))
    by comma true = correct_as (correct_pure _)
        (λ final ps m m' r g row. (row.is ∙ moved comma, ap (λ v. v.entries) row.still))
    by comma false = correct_count_out _

-- the parts as they are stored
pub record ListIs (comma : Bool) (es : Elements) (final : Stored) (ps : List Frame) (m m' : Mark) (r : Option ℕ × List PatId) : Type 0 where
  pub place : r.0 ≡ written.moved_by comma es.1
  pub reads : (d : ℕ) → m'.entries ≤ d
      → many_pats final (within final d) r.1 ≡ written.behind_comma comma (many_pats final (within final d) es.0)

record FrontIs (comma : Bool) (ids : List PatId) (final : Stored) (ps : List Frame) (m m' : Mark) (r : List PatId) : Type 0 where
  reads : (d : ℕ) → m'.entries ≤ d
      → many_pats final (within final d) r ≡ written.behind_comma comma (many_pats final (within final d) ids)

front_is : (comma : Bool) (ids : List PatId) → Correct (forms.with_first_missing comma ids) (FrontIs comma ids)
unfolding forms.missing_pat
front_is false ids =
    correct_as (correct_pure ids) (λ final ps m m' r g row. record { reads = λ d le. ap (many_pats final (within final d)) row.is })
front_is true ids = correct_as (correct_bind (correct_alloc_pat pat.Missing None) (λ i. correct_pure (i ∷ ids)))
    (λ final ps m m' r g row. rw (row.second.is, row.second.still) (record {
      reads = λ d le. ap (λ p. datum.more_patterns p (many_pats final (within final d) ids))
          (pat_stored {x = datum.missing_pattern} row.first (λ n ge. refl) d le);
    }))

pub list_is : (comma : Bool) (es : Elements) → Correct (forms.elements_form comma es) (ListIs comma es)
unfolding forms.elements_form
list_is comma es = correct_as
    (correct_bind (counted_is comma es.1) (λ place. correct_bind (front_is comma es.0) (λ ids. correct_pure (place, ids))))
    (λ final ps m m' r g row. let s = row.second in rw (s.second.is, s.second.still) (record {
      place = row.first.0;
      reads = λ d le. s.first.reads d le;
    }))

pub plus_none : (n : Option ℕ) → option_map (λ k. k + 0) n ≡ n
plus_none None = refl
plus_none (Some n) = ap Some (omega arith)

pub tuple_reads : {x : FirstUses → PatsData} {d : Option ℕ} {f : FirstUses → FirstUses} {p : Table → Lowering (Elements × Table)}
    (at : Pointer) (comma : Bool) → ((t : Table) → Correct (p t) (ElementsAre no_elements x d f t))
    → PatFine a_pat (forms.tuple_pat_form at comma p)
    (λ us. pat_at (Some at) (datum.tuple_pattern (written.moved_by comma d) (written.behind_comma comma (x us)))) f
unfolding forms.tuple_pat_form
tuple_reads {d = d} at comma h t =
    correct_as (correct_bind (h t) (λ r. correct_bind (list_is comma r.0)
    (λ es. correct_bind (correct_alloc_pat (pat.Tuple es.0 es.1) (Some at)) (λ i. correct_pure (i, r.1)))))
    (λ final ps m m' r g row. let e = row.first in let s = row.second in let u = s.second in rw (u.second.is, u.second.still) (record {
      uses = e.rel.uses;
      reads = λ us named. pat_stored u.first (λ n le.
          let ids = ap (many_pats final (within final n)) e.ids
          ∙ e.rel.reads us named n (omega (le, s.before.entries, arith)) in
          let place = s.first.place ∙ ap (written.moved_by comma) (e.place ∙ plus_none d) in
          λ j. datum.tuple_pattern (place j) ((s.first.reads n (omega (le, arith)) ∙ ap (written.behind_comma comma) ids) j));
    }))

-- behind a path
pub tuple_struct_reads : {x : FirstUses → PatsData} {d : Option ℕ} {f : FirstUses → FirstUses} {q : Lowering (Option HirPath)}
    {p : Table → Lowering (Elements × Table)} (y : Option PathRead) (at : Pointer) (comma : Bool) → Correct q (PathIs y)
    → ((t : Table) → Correct (p t) (ElementsAre no_elements x d f t))
    → PatFine a_pat (forms.tuple_struct_form at comma p q) (λ us. written.if_path y (λ z. pat_at (Some at)
    (datum.tuple_struct_pattern z (written.moved_by comma d) (written.behind_comma comma (x us)))) absent_pattern)
    (λ us. written.if_path y (λ z. f us) us)
unfolding forms.tuple_struct_form
tuple_struct_reads {x = x} {d = d} {f = f} {p = p} y at comma hq h =
    found_reads y hq (forms.tuple_struct_of at comma p) (λ t. refl) there
  where
    there : (o : HirPath) (t : Table) → Correct (forms.tuple_struct_of at comma p (Some o) t)
        (WithPath o (λ z us. pat_at (Some at) (datum.tuple_struct_pattern z (written.moved_by comma d) (written.behind_comma comma (x us))))
        f t)
    there o t = correct_as (correct_bind (h t) (λ r. correct_bind (list_is comma r.0)
        (λ es. correct_bind (correct_alloc_pat (pat.TupleStruct o es.0 es.1) (Some at)) (λ i. correct_pure (i, r.1)))))
        (λ final ps m m' r g row z path. let e = row.first in let s = row.second in let u = s.second in
        rw (u.second.is, u.second.still) (record {
          uses = e.rel.uses;
          reads = λ us named. pat_stored u.first (λ n le.
              let ids = ap (many_pats final (within final n)) e.ids
              ∙ e.rel.reads us named n (omega (le, s.before.entries, arith)) in
              let place = s.first.place ∙ ap (written.moved_by comma) (e.place ∙ plus_none d) in
              λ j. datum.tuple_struct_pattern (path n (omega (le, row.before.entries, s.before.entries, arith)) j) (place j)
              ((s.first.reads n (omega (le, arith)) ∙ ap (written.behind_comma comma) ids) j));
        }))

-- records

-- what a field puts before others
abbrev pub maybe_field : Layer (Option RecordFieldPat) (PatFieldsData → PatFieldsData)
maybe_field final r None = λ fs. fs
maybe_field final r (Some f) = λ fs. reading.pattern_field_layer (store_of final) (map_of final) r f fs

-- nothing of a field
pub no_field_reads : (t : Table) → Correct (pure (None, t)) (PatIs maybe_field (λ us fs. fs) (λ us. us) t)
no_field_reads t = correct_as (correct_pure (None, t)) (λ final ps m m' r g row. rw row.is (record {
  uses = λ us named. named;
  reads = λ us named d le. refl;
}))

pub field_reads : {x : FirstUses → PatData} {f : FirstUses → FirstUses} {p : Table → Lowering (PatId × Table)} (at : Pointer)
    (n : Option Name) → PatFine a_pat p x f
    → PatFine maybe_field (forms.pat_field_form at n p) (λ us fs. written.put_field n (x us) fs) f
unfolding forms.pat_field_form
field_reads at None h t =
    correct_as (correct_bind (h t) (λ r. correct_bind (correct_pure None) (λ o. correct_pure (o, r.1))))
    (λ final ps m m' r g row. let s = row.second in rw (s.second.is, s.second.still, s.first.is) (record {
      uses = row.first.uses;
      reads = λ us named d le. refl;
    }))
field_reads at (Some n) h t =
    correct_as (correct_bind (h t) (λ r. correct_bind
    (correct_bind (correct_point_pat_field r.0 at) (λ v. correct_pure (Some (record { name = n; pat = r.0 }))))
    (λ o. correct_pure (o, r.1))))
    (λ final ps m m' r g row. let s = row.second in rw (s.second.is, s.second.still, s.first.second.is) (record {
      uses = row.first.uses;
      reads = λ us named d le. λ j fs.
          datum.more_pattern_fields n (row.first.reads us named d (omega (le, row.after.entries, arith)) j) fs;
    }))

-- a field before others
pub more_fields_named : {x : FirstUses → PatFieldsData → PatFieldsData} {y : FirstUses → PatFieldsData} {f k : FirstUses → FirstUses}
    {p : Table → Lowering (Option RecordFieldPat × Table)}
    {q : List RecordFieldPat → Table → Lowering (List RecordFieldPat × Table)} → PatFine maybe_field p x f
    → ((done : List RecordFieldPat) (t : Table) → Correct (q done t) (PushedNamed done many_fields y k t))
    → (done : List RecordFieldPat) (t : Table) → Correct (p t >>= (λ r. q (push_some done r.0) r.1))
    (PushedNamed done many_fields (λ us. x us (y (f us))) (λ us. k (f us)) t)
more_fields_named {x = x} {y = y} {f = f} {k = k} h hs done t = correct_as (correct_bind (h t) (λ r. hs (push_some done r.0) r.1))
    (λ final ps m m' r g row. go final ps m row.middle m' r row.one.0 row.one.1 row.first row.second (omega (row.after.entries, arith)))
  where
    go : (final : Stored) (ps : List Frame) (m n m' : Mark) (r : List RecordFieldPat × Table) (o : Option RecordFieldPat) (s : Table)
        → PatIs maybe_field x f t final ps m n (o, s) → PushedNamed (push_some done o) many_fields y k s final ps n m' r
        → n.entries ≤ m'.entries → PushedNamed done many_fields (λ us. x us (y (f us))) (λ us. k (f us)) t final ps m m' r
    go final ps m n m' r None s one rest le = record {
      new = rest.new;
      is = rest.is;
      rel = record {
        uses = λ us named. rest.rel.uses (f us) (one.uses us named);
        reads = λ us named d ge. rest.rel.reads (f us) (one.uses us named) d ge
            ∙ ap (λ g. g (y (f us))) (one.reads us named d (omega (ge, le, arith)));
      };
    }
    go final ps m n m' r (Some a) s one rest le = record {
      new = a ∷ rest.new;
      is = rest.is ∙ append_assoc done (a ∷ []) rest.new;
      rel = record {
        uses = λ us named. rest.rel.uses (f us) (one.uses us named);
        reads = λ us named d ge.
            ap (reading.pattern_field_layer (store_of final) (map_of final) (within final d) a)
            (rest.rel.reads (f us) (one.uses us named) d ge)
            ∙ ap (λ g. g (y (f us))) (one.reads us named d (omega (ge, le, arith)));
      };
    }

pub record_reads : {x : FirstUses → PatFieldsData} {f : FirstUses → FirstUses} {q : Lowering (Option HirPath)}
    {p : Table → Lowering (List RecordFieldPat × Table)} (y : Option PathRead) (at : Pointer) (dots : Bool) → Correct q (PathIs y)
    → PatFine many_fields p x f
    → PatFine a_pat (forms.record_pat_form at dots p q)
    (λ us. written.if_path y (λ z. pat_at (Some at) (datum.record_pattern z (x us) dots)) absent_pattern)
    (λ us. written.if_path y (λ z. f us) us)
unfolding forms.record_pat_form
record_reads {x = x} {f = f} {p = p} y at dots hq h = found_reads y hq (forms.record_pat_of at dots p) (λ t. refl) there
  where
    there : (o : HirPath) (t : Table) → Correct (forms.record_pat_of at dots p (Some o) t)
        (WithPath o (λ z us. pat_at (Some at) (datum.record_pattern z (x us) dots)) f t)
    there o t = correct_as (correct_bind (h t)
        (λ r. correct_bind (correct_alloc_pat (pat.Record o r.0 dots) (Some at)) (λ i. correct_pure (i, r.1))))
        (λ final ps m m' r g row z path. let s = row.second in rw (s.second.is, s.second.still) (record {
          uses = row.first.uses;
          reads = λ us named. pat_stored s.first (λ n le.
              λ j. datum.record_pattern (path n (omega (le, row.before.entries, arith)) j) (row.first.reads us named n le j) dots);
        }))

-- slices

pub slice_reads : {x y : FirstUses → PatsData} {z : FirstUses → datum.OptionPatData} {f h k : FirstUses → FirstUses}
    {p q : Table → Lowering (List PatId × Table)} {o : Table → Lowering (Option PatId × Table)} (at : Pointer) → PatFine many_pats p x f
    → PatFine maybe_pat o z h → PatFine many_pats q y k
    → PatFine a_pat (forms.slice_pat_form at p o q)
    (λ us. pat_at (Some at) (datum.slice_pattern (x us) (z (f us)) (y (h (f us))))) (λ us. k (h (f us)))
unfolding forms.slice_pat_form
slice_reads {f = f} {h = h} at hp ho hq t =
    correct_as (correct_bind (hp t) (λ b. correct_bind (ho b.1) (λ m. correct_bind (hq m.1)
    (λ a. correct_bind (correct_alloc_pat (pat.Slice b.0 m.0 a.0) (Some at)) (λ i. correct_pure (i, a.1))))))
    (λ final ps m m' r g row. let s = row.second in let u = s.second in let v = u.second in
    rw (v.second.is, v.second.still) (record {
      uses = λ us named. u.first.uses (h (f us)) (s.first.uses (f us) (row.first.uses us named));
      reads = λ us named. pat_stored v.first (λ n le.
          let first = row.first.uses us named in
          λ j. datum.slice_pattern (row.first.reads us named n (omega (le, s.before.entries, u.before.entries, arith)) j)
          (s.first.reads (f us) first n (omega (le, u.before.entries, arith)) j)
          (u.first.reads (h (f us)) (s.first.uses (f us) first) n le j));
    }))

-- alternatives

-- into an alternative behind others
pub later_named : {x : FirstUses → PatData} {y : FirstUses → PatsData} {f k : FirstUses → FirstUses}
    {p : Table → Lowering (PatId × Table)} {q : List PatId → Table → Lowering (List PatId × Table)} → PatFine a_pat p x f
    → ((done : List PatId) (t : Table) → Correct (q done t) (PushedNamed done many_pats y k t)) → (done : List PatId) (t : Table)
    → Correct (p (next_alternative t) >>= (λ r. q (done ++ r.0 ∷ []) r.1))
    (PushedNamed done many_pats (λ us. datum.more_patterns (x us) (y (f us))) (λ us. k (f us)) t)
later_named h hs done t = correct_as (more_named h hs done (next_alternative t)) (λ final ps m m' r g row. record {
  new = row.new;
  is = row.is;
  rel = record {
    uses = λ us named. row.rel.uses us (record { each = named.each });
    reads = λ us named. row.rel.reads us (record { each = named.each });
  };
})

-- one alternative is that pattern
record OrIs (at : Pointer) (ids : List PatId) (final : Stored) (ps : List Frame) (m m' : Mark) (i : PatId) : Type 0 where
  reads : (x : PatsData) → ((d : ℕ) → m.entries ≤ d → many_pats final (within final d) ids ≡ x) → (d : ℕ) → m'.entries ≤ d
      → (within final d).pat i ≡ written.alternatives_data at x

or_is : (at : Pointer) (ids : List PatId) → Correct (forms.or_of at ids) (OrIs at ids)
or_is at [] = correct_as (correct_alloc_pat (pat.Or []) (Some at)) (λ final ps m m' i g row. record {
  reads = λ x h d le. pat_stored row (λ n ge. refl) d le
      ∙ ap (written.alternatives_data at) (h m.entries (omega arith));
})
or_is at (i ∷ []) = correct_as (correct_pure i) (λ final ps m m' k g row. rw (row.is, row.still) (record {
  reads = λ x h d le. ap (written.alternatives_data at) (h d le);
}))
or_is at (i ∷ (k ∷ is)) = correct_as (correct_alloc_pat (pat.Or (i ∷ (k ∷ is))) (Some at)) (λ final ps m m' v g row. record {
  reads = λ x h d le. pat_stored row (λ n ge. ap datum.or_pattern (h n ge)) d le
      ∙ subst (λ z. pat_at (Some at) (datum.or_pattern z) ≡ written.alternatives_data at z) (h m.entries (omega arith)) refl;
})

pub or_reads : {x : FirstUses → PatData} {y : FirstUses → PatsData} {f k : FirstUses → FirstUses} {p : Table → Lowering (PatId × Table)}
    {q : List PatId → Table → Lowering (List PatId × Table)} (at : Pointer) → PatFine a_pat p x f
    → ((done : List PatId) (t : Table) → Correct (q done t) (PushedNamed done many_pats y k t))
    → PatFine a_pat (forms.or_form at p q) (λ us. written.alternatives_data at (datum.more_patterns (x us) (y (f us)))) (λ us. k (f us))
unfolding forms.or_form
or_reads {f = f} at h hs t =
    correct_as (correct_bind (h (enter_or t)) (λ r. correct_bind (hs (r.0 ∷ []) r.1)
    (λ rs. correct_bind (or_is at rs.0) (λ i. correct_pure (i, leave_or rs.1)))))
    (λ final ps m m' r g row. let s = row.second in let u = s.second in rw (u.second.is, u.second.still) (record {
      uses = λ us named. record { each = (s.first.rel.uses (f us) (row.first.uses us (record { each = named.each }))).each };
      reads = λ us named.
          let first = row.first.uses us (record { each = named.each }) in
          u.first.reads _ (λ d le. ap (many_pats final (within final d)) s.first.is
          ∙ (λ j. datum.more_patterns
          (row.first.reads us (record { each = named.each }) d (omega (le, s.before.entries, arith)) j)
          (s.first.rel.reads (f us) first d le j)));
    }))

-- literals and ranges

literal_pattern_reads : (at : Pointer) (own : Option Pointer) (l : Signed)
    → Correct (forms.literal_pat_form at own l) (Reads a_pat (pat_at (Some at) (datum.literal_pattern (signed_data l))))
unfolding forms.literal_pat_form
literal_pattern_reads at own l =
    correct_as (correct_bind (correct_alloc (hir.Literal (forms.signed_literal l)) (Some (unwrap_or own at)))
    (λ e. correct_alloc_pat (pat.Lit e) (Some at)))
    (λ final ps m m' i g row. record { is = pat_stored row.second (λ d le. rw (row.first.number, row.first.here) refl) })

pub literal_reads : (at : Pointer) (own : Option Pointer) (l : Signed)
    → PatFine a_pat (forms.alone (forms.literal_pat_form at own l)) (λ us. pat_at (Some at) (datum.literal_pattern (signed_data l)))
    (λ us. us)
literal_reads at own l = alone_reads (literal_pattern_reads at own l)

pub literal_side_reads : (at : Pointer) (l : Signed)
    → Correct (forms.literal_side_form at l) (Reads maybe_side (datum.some_side (datum.literal_side (signed_data l))))
unfolding forms.literal_side_form
literal_side_reads at l =
    correct_as (correct_bind (correct_alloc (hir.Literal (forms.signed_literal l)) (Some at)) (λ e. correct_pure (Some e)))
    (λ final ps m m' r g row. rw row.second.is (record { is = λ d le. rw (row.first.number, row.first.here) refl }))

-- a path that is there
path_side_is : (at : Pointer) (p : HirPath) → Correct (forms.path_side_of at (Some p))
    (λ final ps m m' o. (d : ℕ) → m'.entries ≤ d → maybe_side final (within final d) o
    ≡ datum.some_side (datum.path_side (reading.path_layer (store_of final) (map_of final) (within final d) p) root_hygiene))
path_side_is at p = correct_as (correct_bind (correct_alloc (hir.Path p root_hygiene) (Some at)) (λ e. correct_pure (Some e)))
    (λ final ps m m' r g row. rw row.second.is (λ d le. rw (row.first.number, row.first.here) refl))

pub no_side_reads : Correct (pure None) (Reads maybe_side datum.no_side)
no_side_reads = correct_as (correct_pure None) (λ final ps m m' r g row. rw row.is (record { is = λ d le. refl }))

pub name_side_reads : (at : Pointer) (n : Name) → Correct (forms.name_side_of at n) (Reads maybe_side (written.name_side_of n))
name_side_reads at name.Missing = no_side_reads
name_side_reads at (name.Text t) = correct_as (path_side_is at (name_path (name.Text t)))
    (λ final ps m m' r g row. record { is = λ d le. row d le })
name_side_reads at (name.Generated k) = correct_as (path_side_is at (name_path (name.Generated k)))
    (λ final ps m m' r g row. record { is = λ d le. row d le })

pub path_side_reads : (y : Option PathRead) {q : Lowering (Option HirPath)} (at : Pointer) → Correct q (PathIs y)
    → Correct (forms.path_side_form at q) (Reads maybe_side (written.path_side_of y))
unfolding forms.path_side_form
path_side_reads y at h = correct_as (correct_bind h side)
    (λ final ps m m' r g row. go final ps m row.middle m' y row.one r row.first.is row.second (omega (row.after.entries, arith)))
  where
    SideIs : Option HirPath → Rel (Option ExprId)
    SideIs None final ps m m' o = o ≡ None
    SideIs (Some p) final ps m m' o = (d : ℕ) → m'.entries ≤ d → maybe_side final (within final d) o
        ≡ datum.some_side (datum.path_side (reading.path_layer (store_of final) (map_of final) (within final d) p) root_hygiene)

    side : (o : Option HirPath) → Correct (forms.path_side_of at o) (SideIs o)
    side None = correct_as (correct_pure None) (λ final ps m m' r g row. row.is)
    side (Some p) = path_side_is at p

    go : (final : Stored) (ps : List Frame) (m n m' : Mark) (y : Option PathRead) (o : Option HirPath) (r : Option ExprId)
        → Answers final n.entries y o → SideIs o final ps n m' r → n.entries ≤ m'.entries
        → Reads maybe_side (written.path_side_of y) final ps m m' r
    go final ps m n m' None None r a h le = record { is = λ d ge. ap (maybe_side final (within final d)) h }
    go final ps m n m' None (Some p) r a h le = absurd a
    go final ps m n m' (Some z) None r a h le = absurd a
    go final ps m n m' (Some z) (Some p) r a h le = record {
      is = λ d ge. h d ge
          ∙ ap (λ q. datum.some_side (datum.path_side q root_hygiene)) (matches_read final n.entries z p a d (omega (ge, le, arith)));
    }

range_pattern_reads : {x y : OptionSideData} {p q : Lowering (Option ExprId)} (at : Pointer) (op : Option RangeOp)
    → Correct p (Reads maybe_side x) → Correct q (Reads maybe_side y)
    → Correct (forms.range_pat_form at op p q) (Reads a_pat (pat_at (Some at) (written.range_shape op x y)))
unfolding forms.range_pat_form
range_pattern_reads {x = x} {y = y} at op hp hq =
    correct_as (correct_bind hp (λ s. correct_bind hq (λ e. correct_alloc_pat (forms.stored_range op s e) (Some at))))
    (λ final ps m m' i g row. let s = row.second in record {
      is = pat_stored s.second (λ d le. go final d op row.one s.one
          (row.first.is d (omega (le, s.before.entries, arith))) (s.first.is d le));
    })
  where
    go : (final : Stored) (d : ℕ) (op : Option RangeOp) (s e : Option ExprId) → maybe_side final (within final d) s ≡ x
        → maybe_side final (within final d) e ≡ y
        → a_pattern final (within final d) (forms.stored_range op s e) ≡ written.range_shape op x y
    go final d None s e h k = refl
    go final d (Some op) s e h k = λ j. datum.range_pattern op (h j) (k j)

pub range_reads : {x y : OptionSideData} {p q : Lowering (Option ExprId)} (at : Pointer) (op : Option RangeOp)
    → Correct p (Reads maybe_side x) → Correct q (Reads maybe_side y)
    → PatFine a_pat (forms.alone (forms.range_pat_form at op p q)) (λ us. pat_at (Some at) (written.range_shape op x y)) (λ us. us)
range_reads at op hp hq = alone_reads (range_pattern_reads at op hp hq)
