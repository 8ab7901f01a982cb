-- What is stored for patterns, and for the assignee expression, holds what their parts hold.
use Rattle.std.proofs.Common.{◌≡◌, ◌∙◌, refl, sym, ap, subst, ℕ, zero, suc, ◌+◌, ◌≤◌, Bool, true, false, List, [], ◌∷◌, ◌++◌, arith}
use Rattle.std.proofs.Common.{append-nil, append_assoc, Option, Some, None}
use Rattle.hir_base.specs.declared.op.RangeOp.{RangeOp}
use Rattle.hir_store.specs.Pointers.{Pointer}
use Rattle.hir_store.specs.Stored.{Stored}
use Rattle.hir_store.specs.declared.hir.Expr.TheVariants as hir
use Rattle.hir_store.specs.declared.ids.ExprId.{ExprId}
use Rattle.hir_store.specs.declared.ids.PatId.{PatId}
use Rattle.hir_store.specs.declared.name.Name.{Name}
use Rattle.hir_store.specs.declared.name.Name.TheVariants as name
use Rattle.hir_store.specs.declared.pat.Pat.{Pat as HirPat}
use Rattle.hir_store.specs.declared.pat.Pat.TheVariants as pat
use Rattle.hir_store.specs.declared.pat.RecordFieldPat.{RecordFieldPat}
use Rattle.hir_store.specs.declared.path.Path.{Path as HirPath}
use Rattle.hir_env.specs.ResolvedTree as tree
use Rattle.hir_env.specs.ResolvedTree.{PatLeaf, PatUnary, Signed, Use}
use Rattle.spec_data.specs.Rule.{PathRead}
use Rattle.hir_lower_builder.specs.Forms.{push_some, root_hygiene}
use Rattle.hir_lower_builder.specs.Lowering.{Lowering, ◌>>=◌, pure, alloc_pat}
use Rattle.hir_lower_builder.specs.Pats as forms
use Rattle.hir_lower_builder.specs.Pats.{Table, Elements, missing_pat, elements_form}
use Rattle.spec_semantics.specs.Inner.{Bodies, Inners, inners, all_of, of_present, of_path, of_pat, of_pat_field, if_read, if_present}
use Rattle.thm_round_trip.proofs.Going.{PathIs}
use Rattle.thm_round_trip.proofs.Walk.{Answers}
use Rattle.thm_logic.proofs.Frames.{Frame}
use Rattle.thm_logic.proofs.PatAny.{dots_any, name_any}
use Rattle.thm_logic.proofs.PatSteps.{AllocatedPat, correct_alloc_pat, correct_define, correct_point_pat_field}
use Rattle.thm_logic.proofs.Steps.{Mark, Rel, Correct, correct_bind, correct_as, correct_both, correct_pure, correct_alloc}
use Rattle.thm_semantics.proofs.HeldForms.{push_option, newly_pushed, newly_holds}
use Rattle.thm_semantics.proofs.HeldTypes.{a_path}
use Rattle.thm_semantics.proofs.Holding.{SameIn, inners_in, same_append, same_ids, Ids, an_expr, a_pat, each, maybe, Holds, holds_none}
use Rattle.thm_semantics.proofs.Holding.{holds_one, holds_behind, expr_held, expr0, pat_held, pat0, pat1}

-- with the names that were used by then

abbrev pub named : {A : Type 0} → Ids A → Ids (A × Table)
named f r x = f r x.0

abbrev pub PatHeld : {A : Type 0} → Ids A → (Table → Lowering (A × Table)) → Bodies → Type 0
PatHeld f p es = (t : Table) → Correct (p t) (Holds (named f) es)

pub alone_held : {p : Lowering PatId} {es : Bodies} → Correct p (Holds a_pat es) → PatHeld a_pat (forms.alone p) es
alone_held h t = holds_one (λ i. (i, t)) (λ r i. refl) h

pub absent_held : Correct missing_pat (Holds a_pat [])
unfolding missing_pat
absent_held = pat0 pat.Missing None (λ r. refl)

leaf_is : (l : PatLeaf) (r : Inners) → of_pat r (forms.stored_pat_leaf l) ≡ []
leaf_is tree.wild_leaf r = refl
leaf_is tree.rest_leaf r = refl
leaf_is tree.not_null_leaf r = refl
leaf_is tree.broken_leaf r = refl

unary_is : (u : PatUnary) (r : Inners) (i : PatId) → of_pat r (forms.stored_pat_unary u i) ≡ r.pat i
unary_is (tree.ref_to m) r i = refl
unary_is tree.box_of r i = refl
unary_is tree.deref_of r i = refl

path_is : (r : Inners) (p : Option HirPath) → of_pat r (forms.path_pat_of p) ≡ a_path r p
path_is r None = refl
path_is r (Some p) = refl

-- a pattern that is made of parts, and then names are handed on
pat_of : {A : Type 0} {f : Ids A} {es : Bodies} {p : Table → Lowering (A × Table)} (from : Option Pointer) (con : A → HirPat)
    → ((r : Inners) (a : A) → of_pat r (con a) ≡ f r a) → PatHeld f p es
    → PatHeld a_pat (λ t. p t >>= (λ x. alloc_pat (con x.0) from >>= (λ i. pure (i, x.1)))) es
pat_of {es = es} from con e h t =
    correct_as (correct_bind (h t) (λ x. correct_bind (correct_alloc_pat (con x.0) from) (λ i. correct_pure (i, x.1))))
    (λ final ps m m' x g row. let s = row.second in rw (s.second.is, s.second.still) (record {
      same = (pat_held {ps = ps} {n = m} s.first
          (λ d le. same_ids final es (e (inners_in final d) row.one.0) (row.first.same d le))).same;
    }))

module _ (at : Pointer) where
  pub leaf_held : (l : PatLeaf) → PatHeld a_pat (forms.alone (alloc_pat (forms.stored_pat_leaf l) (Some at))) []
  leaf_held l = alone_held (pat0 (forms.stored_pat_leaf l) (Some at) (leaf_is l))

  pub name_held : (u : Use) → PatHeld a_pat (forms.alone (alloc_pat (forms.name_pat_of u) (Some at))) []
  name_held u = alone_held (pat0 (forms.name_pat_of u) (Some at) (λ r. refl))

  path_pattern_held : {q : Lowering (Option HirPath)} {es : Bodies} → Correct q (Holds a_path es)
      → Correct (forms.path_pat_form at q) (Holds a_pat es)
  unfolding forms.path_pat_form
  path_pattern_held h = pat1 (Some at) forms.path_pat_of path_is h

  pub path_held : {q : Lowering (Option HirPath)} {es : Bodies} → Correct q (Holds a_path es)
      → PatHeld a_pat (forms.alone (forms.path_pat_form at q)) es
  path_held h = alone_held (path_pattern_held h)

  pub over_held : (u : PatUnary) {p : Table → Lowering (PatId × Table)} {es : Bodies} → PatHeld a_pat p es
      → PatHeld a_pat (forms.over_pat_form at u p) es
  unfolding forms.over_pat_form
  over_held u h t = pat_of (Some at) (forms.stored_pat_unary u) (unary_is u) h t

  pub bind_held : (u : Use) {s : Table → Lowering (Option PatId × Table)} {es : Bodies} → PatHeld (maybe a_pat) s es
      → PatHeld a_pat (forms.bind_form at u s) es
  unfolding forms.bind_form
  bind_held u h t =
      correct_as (correct_bind (h t) (λ s. correct_bind (name_any u s.1)
      (λ b. correct_bind (correct_alloc_pat (pat.Bind b.0 s.0) (Some at)) (λ i. correct_bind (correct_define b.0 i)
      (λ v. correct_pure (i, b.1))))))
      (λ final ps m m' r g row. let s = row.second in let k = s.second in let v = k.second in
      rw (v.second.is, v.second.still) (record {
        same = λ d le. (pat_held {ps = ps} {n = m} k.first
            (λ n ge. row.first.same n (omega (ge, s.before.nodes, s.before.entries, arith)))).same d
            (omega (le, v.before.nodes, v.before.entries, arith));
      }))

-- lists that grow

-- what is added to a list in what is handed on
pub record Added {A B : Type 0} (ids : Ids B) (list : A → List B) (done : List B) (es : Bodies) (final : Stored) (ps : List Frame)
    (m m' : Mark) (r : A) : Type 0 where
  pub new : List B
  pub is : list r ≡ done ++ new
  pub rel : Holds (each ids) es final ps m m' new

pub added_none : {A B : Type 0} {ids : Ids B} (list : A → List B) (a : A) → Correct (pure a) (Added ids list (list a) [])
added_none list a = correct_as (correct_pure a)
    (λ final ps m m' r g row. rw row.is (record { new = []; is = sym (append-nil (list a)); rel = record { same = λ d le. tt } }))

pub added_more : {A C : Type 0} {list : C → List PatId} {part : A → PatId} {p : Lowering A} {q : A → Lowering C} {es fs : Bodies}
    (done : List PatId) → Correct p (Holds (λ r a. r.pat (part a)) es)
    → ((a : A) → Correct (q a) (Added a_pat list (done ++ part a ∷ []) fs)) → Correct (p >>= q) (Added a_pat list done (es ++ fs))
added_more {part = part} {es = es} {fs = fs} done h k = correct_as (correct_bind h k)
    (λ final ps m m' r g row. let s = row.second in record {
      new = part row.one ∷ s.new;
      is = s.is ∙ append_assoc done (part row.one ∷ []) s.new;
      rel = record {
        same = λ d le. let i = inners_in final d in same_append final (i.pat (part row.one)) (all_of i.pat s.new) es fs
            (row.first.same d (omega (le, row.after.nodes, row.after.entries, arith))) (s.rel.same d le);
      };
    })

-- one that may be left out
pub added_some : {A B C : Type 0} {ids : Ids B} {list : C → List B} (part : A → Option B) {p : Lowering A}
    {q : A → Lowering C} {es fs : Bodies} (done : List B) → Correct p (Holds (λ r a. of_present (ids r) (part a)) es)
    → ((a : A) → Correct (q a) (Added ids list (push_some done (part a)) fs)) → Correct (p >>= q) (Added ids list done (es ++ fs))
added_some {ids = ids} part {es = es} {fs = fs} done h k = correct_as (correct_bind h k)
    (λ final ps m m' r g row. let s = row.second in record {
      new = push_option (part row.one) s.new;
      is = s.is ∙ newly_pushed done (part row.one) s.new;
      rel = record {
        same = λ d le. let i = inners_in final d in same_ids final (es ++ fs) (newly_holds (ids i) (part row.one) s.new)
            (same_append final (of_present (ids i) (part row.one)) (all_of (ids i) s.new) es fs
            (row.first.same d (omega (le, row.after.nodes, row.after.entries, arith))) (s.rel.same d le));
      };
    })

pub added_all : {A B : Type 0} {ids : Ids B} {list : A → List B} {p : Lowering A} {es : Bodies} → Correct p (Added ids list [] es)
    → Correct p (Holds (λ r a. all_of (ids r) (list a)) es)
added_all {ids = ids} {es = es} h = correct_as h (λ final ps m m' r g row. record {
  same = λ d le. same_ids final es (ap (all_of (ids (inners_in final d))) row.is) (row.rel.same d le);
})

-- behind steps that hold nothing
pub added_behind : {A B C : Type 0} {R : Rel C} {ids : Ids B} {list : A → List B} {done : List B} {es : Bodies} {q : Lowering C}
    {p : C → Lowering A} → Correct q R → ((c : C) → Correct (p c) (Added ids list done es)) → Correct (q >>= p) (Added ids list done es)
added_behind h k = correct_as (correct_bind h k) (λ final ps m m' r g row. let s = row.second in
    record { new = s.new; is = s.is; rel = record { same = s.rel.same } })

-- parts of a tuple

abbrev pub parts : Elements × Table → List PatId
parts r = r.0.0

pub element_held : (dots : Bool) {p : Table → Lowering (PatId × Table)} {q : Elements → Table → Lowering (Elements × Table)}
    {es fs : Bodies} → (dots ≡ true → es ≡ []) → PatHeld a_pat p es
    → ((done : Elements) (t : Table) → Correct (q done t) (Added a_pat parts done.0 fs)) → (done : Elements) (t : Table)
    → Correct (forms.element_form dots done p t >>= (λ r. q r.0 r.1)) (Added a_pat parts done.0 (es ++ fs))
element_held true {q = q} {fs = fs} none h hs done t =
    subst (λ ks. Correct (q (done.0, forms.dots_after done.0 done.1) t) (Added a_pat parts done.0 (ks ++ fs))) (sym (none refl))
    (hs (done.0, forms.dots_after done.0 done.1) t)
element_held false {es = es} {fs = fs} none h hs done t =
    correct_as (correct_bind (correct_bind (h t) (λ r. correct_pure ((done.0 ++ r.0 ∷ [], done.1), r.1))) (λ r. hs r.0 r.1))
    (λ final ps m m' r g row. let a = row.first in
    let s = subst (λ v. Added a_pat parts v.0.0 fs final ps row.middle m' r) a.second.is row.second in record {
      new = a.one.0 ∷ s.new;
      is = s.is ∙ append_assoc done.0 (a.one.0 ∷ []) s.new;
      rel = record {
        same = λ d le. let i = inners_in final d in same_append final (i.pat a.one.0) (all_of i.pat s.new) es fs
            (a.first.same d (omega (le, a.after.nodes, a.after.entries, row.after.nodes, row.after.entries, arith))) (s.rel.same d le);
      };
    })

-- the parts as they are stored hold no more
pub record StoredParts (ids : List PatId) (final : Stored) (ps : List Frame) (m m' : Mark) (r : Option ℕ × List PatId) : Type 0 where
  pub same : (d : ℕ) → m'.nodes + m'.entries ≤ d → all_of (inners_in final d).pat r.1 ≡ all_of (inners_in final d).pat ids

missing_holds : {final : Stored} {ps : List Frame} {m m' : Mark} {i : PatId} → AllocatedPat pat.Missing None final ps m m' i → (d : ℕ)
    → (inners_in final d).pat i ≡ []
unfolding inners
missing_holds at zero = refl
missing_holds at (suc d) = rw (at.number, at.here) refl

front_held : (comma : Bool) (ids : List PatId)
    → Correct (forms.with_first_missing comma ids) (λ final ps m m' r. (d : ℕ) → all_of (inners_in final d).pat r
    ≡ all_of (inners_in final d).pat ids)
unfolding missing_pat
front_held false ids = correct_as (correct_pure ids) (λ final ps m m' r g row d. ap (all_of (inners_in final d).pat) row.is)
front_held true ids = correct_as (correct_bind (correct_alloc_pat pat.Missing None) (λ i. correct_pure (i ∷ ids)))
    (λ final ps m m' r g row d. let i = inners_in final d in
    ap (all_of i.pat) row.second.is ∙ ap (λ is. is ++ all_of i.pat ids) (missing_holds row.first d))

pub elements_held : (comma : Bool) (es : Elements) → Correct (elements_form comma es) (StoredParts es.0)
unfolding elements_form
elements_held comma es =
    correct_as (correct_bind (dots_any comma es.1) (λ place. correct_bind (front_held comma es.0) (λ ids. correct_pure (place, ids))))
    (λ final ps m m' r g row. let s = row.second in rw s.second.is (record { same = λ d le. s.first d }))

-- parts of a pattern that is made of a list of them
list_held : {es : Bodies} {p : Table → Lowering (Elements × Table)} (from : Option Pointer) (comma : Bool)
    (con : Option ℕ → List PatId → HirPat) → ((t : Table) → Correct (p t) (Added a_pat parts [] es)) → (t : Table)
    → Correct (p t >>= (λ r. elements_form comma r.0 >>= (λ k. alloc_pat (con k.0 k.1) from >>= (λ i. pure (i, r.1)))))
    (λ final ps m m' r. (fs : Bodies) → ((d : ℕ) → m.nodes + m.entries ≤ d → (n : Option ℕ) (is : List PatId)
    → SameIn final (all_of (inners_in final d).pat is) es → SameIn final (of_pat (inners_in final d) (con n is)) fs)
    → Holds (named a_pat) fs final ps m m' r)
list_held {es = es} from comma con h t =
    correct_as (correct_bind (h t) (λ r. correct_bind (elements_held comma r.0)
    (λ k. correct_bind (correct_alloc_pat (con k.0 k.1) from) (λ i. correct_pure (i, r.1)))))
    (λ final ps m m' x g row fs make. let e = row.first in let s = row.second in let u = s.second in
    rw (u.second.is, u.second.still) (record {
      same = (pat_held {ps = ps} {n = m} u.first (λ d le. make d
          (omega (le, row.before.nodes, row.before.entries, s.before.nodes, s.before.entries, arith)) s.one.0 s.one.1
          (same_ids final es (s.first.same d le ∙ ap (all_of (inners_in final d).pat) e.is)
          (e.rel.same d (omega (le, s.before.nodes, s.before.entries, arith)))))).same;
    }))

pub tuple_held : {es : Bodies} {p : Table → Lowering (Elements × Table)} (at : Pointer) (comma : Bool)
    → ((t : Table) → Correct (p t) (Added a_pat parts [] es)) → PatHeld a_pat (forms.tuple_pat_form at comma p) es
unfolding forms.tuple_pat_form
tuple_held {es = es} at comma h t =
    correct_as (list_held (Some at) comma pat.Tuple h t) (λ final ps m m' r g row. row es (λ d le n is same. same))

-- behind a path

abbrev if_some : Option HirPath → Bodies → Bodies
if_some None bs = []
if_some (Some p) bs = bs

-- where the path became this
abbrev pub WithPath : {A : Type 0} → Ids A → Bodies → Bodies → Option HirPath → Rel A
WithPath ids es fs o final ps m m' a =
    (n : Mark) → Holds a_path es final ps n m o → Holds ids (if_some o (es ++ fs)) final ps m m' a

-- it is read where its path is
pub behind_path : {A : Type 0} {ids : Ids A} {es : Bodies} (fs : Bodies) (y : Option PathRead) {q : Lowering (Option HirPath)}
    {g : Option HirPath → Lowering A} → Correct q (PathIs y) → Correct q (Holds a_path es)
    → ((o : Option HirPath) → Correct (g o) (WithPath ids es fs o)) → Correct (q >>= g) (Holds ids (if_read y (es ++ fs)))
behind_path {A = A} {ids = ids} {es = es} fs y says hq k = correct_as (correct_bind (correct_both says hq) k)
    (λ final ps m m' a g row. go final ps row.middle m m' a y row.one row.first.one.is (row.second m row.first.other))
  where
    go : (final : Stored) (ps : List Frame) (n m m' : Mark) (a : A) (y : Option PathRead) (o : Option HirPath)
        → Answers final n.entries y o → Holds ids (if_some o (es ++ fs)) final ps n m' a → Holds ids (if_read y (es ++ fs)) final ps m m' a
    go final ps n m m' a None None e h = record { same = h.same }
    go final ps n m m' a None (Some p) e h = absurd e
    go final ps n m m' a (Some x) None e h = absurd e
    go final ps n m m' a (Some x) (Some p) e h = record { same = h.same }

-- a pattern that isn't there
pub refused_held : {es : Bodies} (fs : Bodies) (t : Table) → Correct (forms.alone missing_pat t) (WithPath (named a_pat) es fs None)
refused_held fs t = correct_as (alone_held absent_held t) (λ final ps m m' a g row n h. row)

module _ (at : Pointer) {es fs : Bodies} (y : Option PathRead) {q : Lowering (Option HirPath)} (says : Correct q (PathIs y))
    (hq : Correct q (Holds a_path es)) where
  pub tuple_struct_held : (comma : Bool) {p : Table → Lowering (Elements × Table)}
      → ((t : Table) → Correct (p t) (Added a_pat parts [] fs))
      → PatHeld a_pat (forms.tuple_struct_form at comma p q) (if_read y (es ++ fs))
  unfolding forms.tuple_struct_form
  tuple_struct_held comma {p = p} h t = behind_path fs y says hq by
    where
      by : (o : Option HirPath) → Correct (forms.tuple_struct_of at comma p o t) (WithPath (named a_pat) es fs o)
      by None = refused_held fs t
      by (Some o) = correct_as (list_held (Some at) comma (pat.TupleStruct o) h t)
          (λ final ps m m' r g row n path. row (es ++ fs) (λ d le k is same. let i = inners_in final d in
          same_append final (of_path i o) (all_of i.pat is) es fs (path.same d le) same))

  pub record_held : (dots : Bool) {p : Table → Lowering (List RecordFieldPat × Table)}
      → ((t : Table) → Correct (p t) (Added (λ r f. of_pat_field r f) (λ r. r.0) [] fs))
      → PatHeld a_pat (forms.record_pat_form at dots p q) (if_read y (es ++ fs))
  unfolding forms.record_pat_form
  record_held dots {p = p} h t = behind_path fs y says hq by
    where
      by : (o : Option HirPath) → Correct (forms.record_pat_of at dots p o t) (WithPath (named a_pat) es fs o)
      by None = refused_held fs t
      by (Some o) = correct_as (correct_bind (added_all (h t))
          (λ r. correct_bind (correct_alloc_pat (pat.Record o r.0 dots) (Some at)) (λ i. correct_pure (i, r.1))))
          (λ final ps m m' x g row n path. let s = row.second in rw (s.second.is, s.second.still) (record {
            same = (pat_held {ps = ps} {n = m} s.first (λ d le. let i = inners_in final d in
                same_append final (of_path i o) (all_of (of_pat_field i) row.one.0) es fs
                (path.same d (omega (le, row.before.nodes, row.before.entries, arith))) (row.first.same d le))).same;
          }))

-- a field without a name is left out
pub field_held : {es : Bodies} (at : Pointer) (n : Name) {p : Table → Lowering (PatId × Table)} → PatHeld a_pat p es
    → PatHeld (maybe (λ r f. of_pat_field r f)) (forms.pat_field_form at (Some n) p) es
unfolding forms.pat_field_form
field_held at n h t = correct_as (correct_bind (h t) (λ r. correct_bind (correct_bind (correct_point_pat_field r.0 at)
    (λ u. correct_pure (Some (record { name = n; pat = r.0 })))) (λ f. correct_pure (f, r.1))))
    (λ final ps m m' x g row. let s = row.second in let f = s.first in rw (s.second.is, s.second.still, f.second.is) (record {
      same = λ d le. row.first.same d (omega (le, s.before.nodes, s.before.entries, arith));
    }))

pub nameless_held : {R : Rel (PatId × Table)} (at : Pointer) (p : Table → Lowering (PatId × Table)) (t : Table) → Correct (p t) R
    → Correct (forms.pat_field_form at None p t) (Holds (named (maybe (λ r f. of_pat_field r f))) [])
unfolding forms.pat_field_form
nameless_held at p t h = holds_behind h (λ r. holds_none (None, r.1) (λ i. refl))

-- slices, alternatives, literals and ranges

module _ (at : Pointer) {es fs gs : Bodies} where
  pub slice_held : {b a : Table → Lowering (List PatId × Table)} {o : Table → Lowering (Option PatId × Table)}
      → PatHeld (each a_pat) b es → PatHeld (maybe a_pat) o fs → PatHeld (each a_pat) a gs
      → PatHeld a_pat (forms.slice_pat_form at b o a) (es ++ (fs ++ gs))
  unfolding forms.slice_pat_form
  slice_held hb ho ha t = correct_as (correct_bind (hb t) (λ b. correct_bind (ho b.1) (λ o. correct_bind (ha o.1)
      (λ a. correct_bind (correct_alloc_pat (pat.Slice b.0 o.0 a.0) (Some at)) (λ i. correct_pure (i, a.1))))))
      (λ final ps m m' x g row. let s = row.second in let u = s.second in let v = u.second in rw (v.second.is, v.second.still) (record {
        same = (pat_held {ps = ps} {n = m} v.first (λ d le. let i = inners_in final d in
            same_append final (all_of i.pat row.one.0) (of_present i.pat s.one.0 ++ all_of i.pat u.one.0) es (fs ++ gs)
            (row.first.same d (omega (le, s.before.nodes, s.before.entries, u.before.nodes, u.before.entries, arith)))
            (same_append final (of_present i.pat s.one.0) (all_of i.pat u.one.0) fs gs
            (s.first.same d (omega (le, u.before.nodes, u.before.entries, arith))) (u.first.same d le)))).same;
      }))

-- of one alternative, or of more
record OrIs (ids : List PatId) (final : Stored) (ps : List Frame) (m m' : Mark) (i : PatId) : Type 0 where
  holds : (es : Bodies) → Holds (each a_pat) es final ps m m ids → Holds a_pat es final ps m m' i

or_is : (at : Pointer) (ids : List PatId) → Correct (forms.or_of at ids) (OrIs ids)
or_is at [] = correct_as (correct_alloc_pat (pat.Or []) (Some at))
    (λ final ps m m' i g row. record { holds = λ es h. pat_held {ps = ps} {n = m} row h.same })
or_is at (i ∷ []) = correct_as (correct_pure i) (λ final ps m m' k g row. rw (row.is, row.still) (record {
  holds = λ es h. record {
    same = λ d le. same_ids final es (sym (append-nil ((inners_in final d).pat i))) (h.same d le);
  };
}))
or_is at (i ∷ (k ∷ is)) = correct_as (correct_alloc_pat (pat.Or (i ∷ (k ∷ is))) (Some at))
    (λ final ps m m' x g row. record { holds = λ es h. pat_held {ps = ps} {n = m} row h.same })

pub or_held : {es fs : Bodies} (at : Pointer) {p : Table → Lowering (PatId × Table)}
    {later : List PatId → Table → Lowering (List PatId × Table)} → PatHeld a_pat p es
    → ((done : List PatId) (t : Table) → Correct (later done t) (Added a_pat (λ r. r.0) done fs))
    → PatHeld a_pat (forms.or_form at p later) (es ++ fs)
unfolding forms.or_form
or_held {es = es} {fs = fs} at h hs t = correct_as
    (correct_bind (h (forms.enter_or t)) (λ r. correct_bind (hs (r.0 ∷ []) r.1)
    (λ rs. correct_bind (or_is at rs.0) (λ i. correct_pure (i, forms.leave_or rs.1)))))
    (λ final ps m m' x g row. let u = row.second in let s = u.second in rw (s.second.is, s.second.still) (record {
      same = (s.first.holds (es ++ fs) (record {
        same = λ d le. let i = inners_in final d in same_ids final (es ++ fs) (ap (all_of i.pat) u.first.is)
            (same_append final (i.pat row.one.0) (all_of i.pat u.first.new) es fs
            (row.first.same d (omega (le, u.before.nodes, u.before.entries, arith))) (u.first.rel.same d le));
      })).same;
    }))

module _ (at : Pointer) where
  literal_pattern_held : (own : Option Pointer) (l : Signed) → Correct (forms.literal_pat_form at own l) (Holds a_pat [])
  unfolding forms.literal_pat_form
  literal_pattern_held own l = holds_behind (expr0 _ _ (λ r. refl)) (λ e. pat0 (pat.Lit e) (Some at) (λ r. refl))

  pub literal_held : (own : Option Pointer) (l : Signed) → PatHeld a_pat (forms.alone (forms.literal_pat_form at own l)) []
  literal_held own l = alone_held (literal_pattern_held own l)

  pub literal_side_held : (l : Signed) → Correct (forms.literal_side_form at l) (Holds (maybe an_expr) [])
  unfolding forms.literal_side_form
  literal_side_held l = holds_one Some (λ r i. refl) (expr0 (hir.Literal (forms.signed_literal l)) (Some at) (λ r. refl))

  name_path_held : (n : Name) → Correct (forms.path_side_of at (Some (forms.name_path n))) (Holds (maybe an_expr) [])
  name_path_held n = holds_one Some (λ r i. refl) (expr0 (hir.Path (forms.name_path n) root_hygiene) (Some at) (λ r. refl))

  pub name_side_held : (n : Name) → Correct (forms.name_side_of at n) (Holds (maybe an_expr) [])
  name_side_held name.Missing = holds_none None (λ r. refl)
  name_side_held n = name_path_held n

  pub path_side_held : {es : Bodies} {q : Lowering (Option HirPath)} → Correct q (Holds a_path es)
      → Correct (forms.path_side_form at q) (Holds (maybe an_expr) es)
  unfolding forms.path_side_form
  path_side_held {es = es} hq = correct_as (correct_bind hq side) (λ final ps m m' o g row. row.second m row.first)
    where
      side : (o : Option HirPath) → Correct (forms.path_side_of at o)
          (λ final ps m m' a. (n : Mark) → Holds a_path es final ps n m o → Holds (maybe an_expr) es final ps n m' a)
      side None = correct_as (correct_pure None)
          (λ final ps m m' a g row n h. rw (row.is, row.still) (record { same = h.same }))
      side (Some p) = correct_as (correct_bind (correct_alloc (hir.Path p root_hygiene) (Some at)) (λ e. correct_pure (Some e)))
          (λ final ps m m' a g row n h. rw (row.second.is, row.second.still) (record {
            same = (expr_held {ps = ps} {n = m} row.first row.before h.same).same;
          }))

  -- without its operator it is missing
  range_pattern_held : {es fs : Bodies} (op : Option RangeOp) {p q : Lowering (Option ExprId)} → Correct p (Holds (maybe an_expr) es)
      → Correct q (Holds (maybe an_expr) fs) → Correct (forms.range_pat_form at op p q) (Holds a_pat (if_present op (es ++ fs)))
  unfolding forms.range_pat_form
  range_pattern_held None hp hq = holds_behind hp (λ s. holds_behind hq (λ e. pat0 pat.Missing (Some at) (λ r. refl)))
  range_pattern_held {es = es} {fs = fs} (Some op) hp hq =
      correct_as (correct_bind hp (λ s. correct_bind hq (λ e. correct_alloc_pat (pat.Range op s e) (Some at))))
      (λ final ps m m' i g row. let s = row.second in pat_held {ps = ps} {n = m} s.second (λ d le. let i = inners_in final d in
      same_append final (of_present i.expr row.one) (of_present i.expr s.one) es fs
      (row.first.same d (omega (le, s.before.nodes, s.before.entries, arith))) (s.first.same d le)))

  pub range_held : {es fs : Bodies} (op : Option RangeOp) {p q : Lowering (Option ExprId)} → Correct p (Holds (maybe an_expr) es)
      → Correct q (Holds (maybe an_expr) fs)
      → PatHeld a_pat (forms.alone (forms.range_pat_form at op p q)) (if_present op (es ++ fs))
  range_held op hp hq = alone_held (range_pattern_held op hp hq)
