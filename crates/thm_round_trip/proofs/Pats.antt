-- What is stored for patterns reads back, with the first uses of their names: a line for each kind, of what its parts read back as.
use Rattle.std.proofs.Common.{◌≡◌, ◌∙◌, refl, sym, ap, ℕ, zero, suc, ◌≤◌, List, [], ◌∷◌}
use Rattle.std.proofs.Common.{◌++◌, append-nil, append_assoc, arith}
use Rattle.std.specs.Prelude.{Option, Some, None}
use Rattle.hir_store.specs.Names.{IsWritten}
use Rattle.hir_store.specs.Pointers.{Pointer}
use Rattle.hir_store.specs.Stored.{Stored, store_of, map_of}
use Rattle.hir_store.specs.declared.ids.ExprId.{ExprId}
use Rattle.hir_store.specs.declared.ids.PatId.{PatId}
use Rattle.hir_store.specs.declared.name.Name.{Name}
use Rattle.hir_store.specs.declared.name.Name.TheVariants as name
use Rattle.hir_store.specs.declared.pat.Pat.{Pat as HirPat}
use Rattle.hir_store.specs.declared.pat.Pat.TheVariants as pat
use Rattle.hir_store.specs.declared.pat.RecordFieldPat.{RecordFieldPat}
use Rattle.hir_store.specs.declared.path.Path.{Path as HirPath}
use Rattle.hir_env.specs.ResolvedTree as tree
use Rattle.hir_env.specs.ResolvedTree.{PatLeaf, PatUnary, Use}
use Rattle.hir_lower_builder.specs.Forms.{root_hygiene}
use Rattle.hir_lower_builder.specs.Lowering.{Lowering, ◌>>=◌, pure, alloc_pat}
use Rattle.hir_lower_builder.specs.Pats as forms
use Rattle.hir_lower_builder.specs.Pats.{Table}
use Rattle.thm_logic.proofs.Frames.{Frame}
use Rattle.thm_logic.proofs.Steps.{Mark, Rel, Correct, correct_bind, correct_as, correct_pure}
use Rattle.thm_logic.proofs.PatSteps.{AllocatedPatBy, PutPat, correct_alloc_pat, correct_define}
use Rattle.spec_data.specs.Data as datum
use Rattle.spec_data.specs.Data.{PathData, PatData, pat_at, absent_pattern, PatShape, PatsData, OptionPatData, PatFieldsData}
use Rattle.spec_data.specs.Data.{OptionSideData}
use Rattle.spec_data.specs.Patterns as written
use Rattle.spec_data.specs.Reading as reading
use Rattle.spec_data.specs.Reading.{Readers, readers}
use Rattle.spec_data.specs.Rule.{PathRead, data_of}
use Rattle.spec_data.specs.Uses.{FirstUses, first_use, with_use}
use Rattle.thm_round_trip.proofs.Going.{PathIs}
use Rattle.thm_round_trip.proofs.Layers.{Layer, Reads, within, a_path}
use Rattle.thm_round_trip.proofs.Names.{Named, correct_use_name, first_written}
use Rattle.thm_round_trip.proofs.Walk.{Answers, matches_read}

-- what is read at a pattern

abbrev pub a_pat : Layer PatId PatData
a_pat final r i = r.pat i

abbrev pub maybe_pat : Layer (Option PatId) OptionPatData
maybe_pat final r o = reading.subpattern_layer (store_of final) (map_of final) r o

abbrev pub many_pats : Layer (List PatId) PatsData
many_pats final r is = reading.patterns_layer (store_of final) (map_of final) r is

abbrev pub a_pattern : Layer HirPat PatShape
a_pattern final r p = reading.pattern_layer (store_of final) (map_of final) r p

abbrev pub many_fields : Layer (List RecordFieldPat) PatFieldsData
many_fields final r fs = reading.pattern_fields_layer (store_of final) (map_of final) r fs

abbrev pub maybe_side : Layer (Option ExprId) OptionSideData
maybe_side final r o = reading.option_side_layer (store_of final) (map_of final) r o

-- Where us are the first uses of the names in the table t, and f us are those once a is read too, a gives x us.
pub record PatIs {A D : Type 0} (l : Layer A D) (x : FirstUses → D) (f : FirstUses → FirstUses) (t : Table)
    (final : Stored) (ps : List Frame) (m m' : Mark) (r : A × Table) : Type 0 where
  pub uses : (us : FirstUses) → Named final us t → Named final (f us) r.1
  pub reads : (us : FirstUses) → Named final us t → (d : ℕ) → m'.entries ≤ d → l final (within final d) r.0 ≡ x us

-- wherever in a top pattern
abbrev pub PatFine : {A D : Type 0} → Layer A D → (Table → Lowering (A × Table)) → (FirstUses → D) → (FirstUses → FirstUses) → Type 0
PatFine l p x f = (t : Table) → Correct (p t) (PatIs l x f t)

-- one that was stored under the number from the source
pub pat_stored : {put : PutPat} {p : HirPat} {source : Option Pointer} {x : PatShape} {final : Stored} {ps : List Frame} {m m' : Mark}
    {i : PatId} → AllocatedPatBy put p source final ps m m' i → ((d : ℕ) → m.entries ≤ d → a_pattern final (within final d) p ≡ x)
    → (d : ℕ) → m'.entries ≤ d → (within final d).pat i ≡ pat_at source x
unfolding readers
pat_stored at h zero le = absurd (omega (arith, le, at.entries))
pat_stored {source = source} at h (suc d) le = rw (at.number, at.here, at.from) (ap (pat_at source) (h d (omega (arith, le, at.entries))))

-- patterns that hand the table on

-- those that know of no name
pub alone_reads : {x : PatData} {p : Lowering PatId} → Correct p (Reads a_pat x) → PatFine a_pat (forms.alone p) (λ us. x) (λ us. us)
alone_reads h t = correct_as (correct_bind h (λ i. correct_pure (i, t)))
    (λ final ps m m' r g row. rw (row.second.is, row.second.still) (record {
      uses = λ us named. named;
      reads = λ us named d le. row.first.is d le;
    }))

pub plain_reads : {x : PatShape} (at : Pointer) (form : HirPat) → ((final : Stored) (r : Readers) → a_pattern final r form ≡ x)
    → PatFine a_pat (forms.alone (alloc_pat form (Some at))) (λ us. pat_at (Some at) x) (λ us. us)
plain_reads at form e = alone_reads (correct_as (correct_alloc_pat form (Some at))
    (λ final ps m m' i g row. record { is = pat_stored row (λ d le. e final (within final d)) }))

pub leaf_reads : (at : Pointer) (l : PatLeaf)
    → PatFine a_pat (forms.alone (alloc_pat (forms.stored_pat_leaf l) (Some at))) (λ us. pat_at (Some at) (written.leaf_pattern l))
    (λ us. us)
leaf_reads at tree.wild_leaf = plain_reads at pat.Wild (λ final r. refl)
leaf_reads at tree.rest_leaf = plain_reads at pat.Rest (λ final r. refl)
leaf_reads at tree.not_null_leaf = plain_reads at pat.NotNull (λ final r. refl)
leaf_reads at tree.broken_leaf = plain_reads at pat.Missing (λ final r. refl)

-- what is absent comes from no node
pub absent_reads : PatFine a_pat (forms.alone forms.missing_pat) (λ us. absent_pattern) (λ us. us)
unfolding forms.missing_pat
absent_reads = alone_reads (correct_as (correct_alloc_pat pat.Missing None)
    (λ final ps m m' i g row. record { is = pat_stored row (λ d le. refl) }))

-- of parts that are one value
pub pat1 : {A D : Type 0} {l : Layer A D} {x : FirstUses → D} {f : FirstUses → FirstUses} {p : Table → Lowering (A × Table)}
    (at : Pointer) (con : A → HirPat) (k : D → PatShape)
    → ((final : Stored) (r : Readers) (a : A) → a_pattern final r (con a) ≡ k (l final r a)) → PatFine l p x f
    → PatFine a_pat (λ t. p t >>= (λ a. alloc_pat (con a.0) (Some at) >>= (λ i. pure (i, a.1)))) (λ us. pat_at (Some at) (k (x us))) f
pat1 at con k e h t =
    correct_as (correct_bind (h t) (λ a. correct_bind (correct_alloc_pat (con a.0) (Some at)) (λ i. correct_pure (i, a.1))))
    (λ final ps m m' r g row. let s = row.second in rw (s.second.is, s.second.still) (record {
      uses = row.first.uses;
      reads = λ us named. pat_stored s.first
          (λ d le. e final (within final d) row.one.0 ∙ ap k (row.first.reads us named d le));
    }))

pub over_reads : {x : FirstUses → PatData} {f : FirstUses → FirstUses} {p : Table → Lowering (PatId × Table)} (at : Pointer)
    (u : PatUnary) → PatFine a_pat p x f
    → PatFine a_pat (forms.over_pat_form at u p) (λ us. pat_at (Some at) (written.unary_pattern u (x us))) f
unfolding forms.over_pat_form
over_reads at (tree.ref_to mutability) h = pat1 at (pat.Ref mutability) (datum.ref_pattern mutability) (λ final r a. refl) h
over_reads at tree.box_of h = pat1 at pat.Box datum.box_pattern (λ final r a. refl) h
over_reads at tree.deref_of h = pat1 at pat.Deref datum.deref_pattern (λ final r a. refl) h

-- what may stay absent
pub no_pat_reads : (t : Table) → Correct (pure (None, t)) (PatIs maybe_pat (λ us. datum.no_pattern) (λ us. us) t)
no_pat_reads t = correct_as (correct_pure (None, t)) (λ final ps m m' r g row. rw row.is (record {
  uses = λ us named. named;
  reads = λ us named d le. refl;
}))

pub some_pat_reads : {x : FirstUses → PatData} {f : FirstUses → FirstUses} {p : Table → Lowering (PatId × Table)} → PatFine a_pat p x f
    → PatFine maybe_pat (λ t. p t >>= (λ r. pure (Some r.0, r.1))) (λ us. datum.some_pattern (x us)) f
some_pat_reads h t = correct_as (correct_bind (h t) (λ r. correct_pure (Some r.0, r.1)))
    (λ final ps m m' r g row. rw (row.second.is, row.second.still) (record {
      uses = row.first.uses;
      reads = λ us named d le. ap datum.some_pattern (row.first.reads us named d le);
    }))

-- names

-- a name that is written
name_bound : (final : Stored) (r : Readers) (u : Use) → IsWritten u.name → (sub : OptionPatData)
    → reading.bind_layer (store_of final) (map_of final) r (Some (forms.new_binding u)) sub ≡ written.bind_as u sub
name_bound final r u w sub = by u.name w
  where
    by : (n : Name) → IsWritten n
        → reading.name_layer (store_of final) (map_of final) r n u.hygiene u.mode sub ≡ datum.bind_pattern n u.hygiene u.mode sub
    by (name.Text t) w = refl
    by name.Missing w = refl
    by (name.Generated k) w = absurd w

-- what stands behind `@` comes first, and the name is bound as by its first use
pub bind_reads : {x : FirstUses → OptionPatData} {f : FirstUses → FirstUses} {p : Table → Lowering (Option PatId × Table)} (at : Pointer)
    (u : Use) → IsWritten u.name → PatFine maybe_pat p x f
    → PatFine a_pat (forms.bind_form at u p) (λ us. pat_at (Some at) (written.bind_as (first_use (f us) u) (x us)))
    (λ us. with_use (f us) u)
unfolding forms.bind_form
bind_reads {x = x} {f = f} at u w h t =
    correct_as (correct_bind (h t) (λ s. correct_bind (correct_use_name u s.1)
    (λ b. correct_bind (correct_alloc_pat (pat.Bind b.0 s.0) (Some at)) (λ i. correct_bind (correct_define b.0 i)
    (λ v. correct_pure (i, b.1))))))
    (λ final ps m m' r g row. let s = row.second in let k = s.second in let v = k.second in
    rw (v.second.is, v.second.still) (record {
      uses = λ us named. s.first.uses (f us) (row.first.uses us named);
      reads = λ us named d le. pat_stored k.first
          (λ n ge. (λ j. reading.bind_layer (store_of final) (map_of final) (within final n)
          (s.first.first (f us) (row.first.uses us named) j) (row.first.reads us named n (omega (ge, s.before.entries, arith)) j))
          ∙ name_bound final (within final n) (first_use (f us) u) (first_written (f us) u w) (x us))
          d (omega (le, k.after.entries, arith));
    }))

-- what may be refused

-- a path that is absent or refused is missing
path_pattern_reads : (y : Option PathRead) {p : Lowering (Option HirPath)} (at : Pointer) → Correct p (PathIs y)
    → Correct (forms.path_pat_form at p) (Reads a_pat (pat_at (Some at) (written.path_pattern_of y)))
unfolding forms.path_pat_form
path_pattern_reads y at h = correct_as (correct_bind h (λ o. correct_alloc_pat (forms.path_pat_of o) (Some at)))
    (λ final ps m m' i g row. record { is = pat_stored row.second (λ d le. go final row.middle.entries y row.one row.first.is d le) })
  where
    go : (final : Stored) (n : ℕ) (y : Option PathRead) (o : Option HirPath) → Answers final n y o → (d : ℕ) → n ≤ d
        → a_pattern final (within final d) (forms.path_pat_of o) ≡ written.path_pattern_of y
    go final n None None h d le = refl
    go final n None (Some p) h d le = absurd h
    go final n (Some x) None h d le = absurd h
    go final n (Some x) (Some p) h d le = ap (λ q. datum.path_pattern q root_hygiene) (matches_read final n x p h d le)

pub path_reads : (y : Option PathRead) {p : Lowering (Option HirPath)} (at : Pointer) → Correct p (PathIs y)
    → PatFine a_pat (forms.alone (forms.path_pat_form at p)) (λ us. pat_at (Some at) (written.path_pattern_of y)) (λ us. us)
path_reads y at h = alone_reads (path_pattern_reads y at h)

-- with a path that is read so
abbrev pub WithPath : HirPath → (PathData → FirstUses → PatData) → (FirstUses → FirstUses) → Table → Rel (PatId × Table)
WithPath o x f t final ps m m' r =
    (z : PathData) → ((d : ℕ) → m.entries ≤ d → a_path final (within final d) o ≡ z) → PatIs a_pat (x z) f t final ps m m' r

-- Where the path is absent or refused the parts aren't read, and the pattern is missing.
pub found_reads : (y : Option PathRead) {x : PathData → FirstUses → PatData} {f : FirstUses → FirstUses}
    {q : Lowering (Option HirPath)} → Correct q (PathIs y)
    → (g : Option HirPath → Table → Lowering (PatId × Table)) → ((t : Table) → g None t ≡ forms.alone forms.missing_pat t)
    → ((o : HirPath) (t : Table) → Correct (g (Some o) t) (WithPath o x f t))
    → PatFine a_pat (λ t. q >>= (λ o. g o t)) (λ us. written.if_path y (λ z. x z us) absent_pattern)
    (λ us. written.if_path y (λ z. f us) us)
found_reads y {x = x} {f = f} hq g none' some' t =
    correct_as (correct_bind hq found)
    (λ final ps m m' r _ row. join final ps m row.middle m' y row.one r row.first.is row.second)
  where
    Found : Option HirPath → Rel (PatId × Table)
    Found None final ps m m' r = PatIs a_pat (λ us. absent_pattern) (λ us. us) t final ps m m' r
    Found (Some o) final ps m m' r = WithPath o x f t final ps m m' r

    found : (o : Option HirPath) → Correct (g o t) (Found o)
    found None = rw (none' t) (absent_reads t)
    found (Some o) = some' o t

    join : (final : Stored) (ps : List Frame) (m n m' : Mark) (y : Option PathRead) (o : Option HirPath) (r : PatId × Table)
        → Answers final n.entries y o → Found o final ps n m' r
        → PatIs a_pat (λ us. written.if_path y (λ z. x z us) absent_pattern) (λ us. written.if_path y (λ z. f us) us) t final ps m m' r
    join final ps m n m' None None r a h = record { uses = h.uses; reads = h.reads }
    join final ps m n m' None (Some o) r a h = absurd a
    join final ps m n m' (Some z) None r a h = absurd a
    join final ps m n m' (Some z) (Some o) r a h =
        let is = h (data_of z) (λ d le. matches_read final n.entries z o a d le) in
        record { uses = is.uses; reads = is.reads }

-- lists

-- what is pushed on a list that grows, with the table by then
pub record PushedNamed {A D : Type 0} (done : List A) (l : Layer (List A) D) (x : FirstUses → D) (f : FirstUses → FirstUses) (t : Table)
    (final : Stored) (ps : List Frame) (m m' : Mark) (r : List A × Table) : Type 0 where
  pub new : List A
  pub is : r.0 ≡ done ++ new
  pub rel : PatIs l x f t final ps m m' (new, r.1)

pub none_named : {A D : Type 0} (l : Layer (List A) D) (x : D) → ((final : Stored) (r : Readers) → l final r [] ≡ x) → (done : List A)
    (t : Table) → Correct (pure (done, t)) (PushedNamed done l (λ us. x) (λ us. us) t)
none_named l x e done t = correct_as (correct_pure (done, t)) (λ final ps m m' r g row. rw row.is (record {
  new = [];
  is = sym (append-nil done);
  rel = record { uses = λ us named. named; reads = λ us named d le. e final (within final d) };
}))

pub all_named : {A D : Type 0} {l : Layer (List A) D} {x : FirstUses → D} {f : FirstUses → FirstUses} {t : Table}
    {p : Lowering (List A × Table)} → Correct p (PushedNamed [] l x f t) → Correct p (PatIs l x f t)
all_named {l = l} h = correct_as h (λ final ps m m' r g row. record {
  uses = row.rel.uses;
  reads = λ us named d le. ap (l final (within final d)) row.is ∙ row.rel.reads us named d le;
})

-- an alternative, or a part of a slice, before others
pub more_named : {x : FirstUses → PatData} {y : FirstUses → PatsData} {f k : FirstUses → FirstUses}
    {p : Table → Lowering (PatId × Table)} {q : List PatId → Table → Lowering (List PatId × Table)} → PatFine a_pat p x f
    → ((done : List PatId) (t : Table) → Correct (q done t) (PushedNamed done many_pats y k t)) → (done : List PatId) (t : Table)
    → Correct (p t >>= (λ r. q (done ++ r.0 ∷ []) r.1))
    (PushedNamed done many_pats (λ us. datum.more_patterns (x us) (y (f us))) (λ us. k (f us)) t)
more_named {f = f} h hs done t = correct_as (correct_bind (h t) (λ r. hs (done ++ r.0 ∷ []) r.1))
    (λ final ps m m' r g row. let s = row.second in record {
      new = row.one.0 ∷ s.new;
      is = s.is ∙ append_assoc done (row.one.0 ∷ []) s.new;
      rel = record {
        uses = λ us named. s.rel.uses (f us) (row.first.uses us named);
        reads = λ us named d le. λ j. datum.more_patterns
            (row.first.reads us named d (omega (le, row.after.entries, arith)) j)
            (s.rel.reads (f us) (row.first.uses us named) d le j);
      };
    })
