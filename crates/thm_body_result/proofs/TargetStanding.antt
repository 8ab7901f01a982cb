-- The assignee expression stands for what is written.
use Rattle.std.proofs.Common.{◌≡◌, ◌∙◌, refl, sym, ap, subst, ℕ, Bool, false, List, [], ◌∷◌, append_assoc, append-nil}
use Rattle.std.proofs.Common.{Option, Some, None}
use Rattle.hir_store.specs.Pointers.{Pointer}
use Rattle.hir_store.specs.Stored.{Stored, store_of, map_of}
use Rattle.hir_store.specs.declared.diagnostics.ExpressionStoreDiagnostics.TheVariants.{FruInDestructuringAssignment}
use Rattle.hir_store.specs.declared.ids.ExprId.{ExprId}
use Rattle.hir_store.specs.declared.ids.HygieneId.{HygieneId}
use Rattle.hir_store.specs.declared.ids.PatId.{PatId}
use Rattle.hir_store.specs.declared.name.Name.{Name}
use Rattle.hir_store.specs.declared.pat.Pat.{Pat as HirPat}
use Rattle.hir_store.specs.declared.pat.Pat.TheVariants as pat
use Rattle.hir_store.specs.declared.pat.RecordFieldPat.{RecordFieldPat}
use Rattle.hir_store.specs.declared.path.Path.{Path as HirPath}
use Rattle.hir_env.specs.ResolvedTree.{OptionPath, Origin}
use Rattle.hir_env.specs.Targets.{origin, source_of}
use Rattle.spec_data.specs.Written.{written_path}
use Rattle.hir_lower_builder.specs.Forms.{ExprSteps, push_some}
use Rattle.hir_lower_builder.specs.Lower.{lower_path}
use Rattle.hir_lower_builder.specs.Lowering.{Lowering, ◌>>=◌, pure, alloc_desugared_pat, point_target}
use Rattle.hir_lower_builder.specs.Pats as forms
use Rattle.hir_lower_builder.specs.Pats.{Elements}
use Rattle.hir_lower_builder.specs.Targets as targets
use Rattle.hir_lower_builder.specs.Targets.{alloc_target, missing_target}
use Rattle.thm_logic.proofs.Calls.{correct_point_target}
use Rattle.thm_logic.proofs.Frames.{ribs}
use Rattle.thm_body_result.specs.Leads.{Mapping, Mappings, No, ◌&◌}
use Rattle.thm_body_result.specs.Corresponds.{Open, PatIs, CorrespondsBefore, CorrespondsTuple, WherePath}
use Rattle.thm_body_result.proofs.Defining.{MakesNone}
use Rattle.thm_body_result.proofs.Lasting.{Correct, correct_alloc_desugared_pat, correct_as, correct_bind, correct_pure, correct_report}
use Rattle.thm_body_result.proofs.Lasting.{keeping}
use Rattle.thm_body_result.proofs.Lasting.{settled_as}
use Rattle.thm_body_result.proofs.Leading.{shown_as, shown_after, shown_before, shown_both, shown_none, moved_assigned, moved_made_pat}
use Rattle.thm_body_result.proofs.Leading.{moved_report}
use Rattle.thm_body_result.proofs.Leading.{moved_to}
use Rattle.thm_body_result.proofs.Naming.{facts_as, facts_bind, facts_pure, pat_at, with_second}
use Rattle.thm_body_result.proofs.PatForms.{CorrespondsField, CorrespondsFieldBefore, field_before, named_corresponds}
use Rattle.thm_body_result.proofs.PatStanding.{Behind, elements_facts, leaves_then, path_then, where_as}
use Rattle.thm_body_result.proofs.Standing.{Of, Shows, Facts, Leaves, moved_pure}

-- steps

pub shows_as : {A : Type 0} {S T : Of A} {p : Lowering A} → Correct p (Shows S)
    → ((final : Stored) (rs : Open) (a : A) (ws : List Mapping) → S final rs a ws → T final rs a ws) → Correct p (Shows T)
shows_as h less = correct_as h (λ final ps m m' a g row. record { shown = shown_as row.shown (less final (ribs ps) a) })

pub shows_bind : {A B : Type 0} {S : Of A} {T : A → Of B} {p : Lowering A} {f : A → Lowering B} → Correct p (Shows S)
    → ((a : A) → Correct (f a) (Shows (T a)))
    → Correct (p >>= f) (Shows (λ final rs b ws. (a : A) × (S final rs a & T a final rs b) ws))
shows_bind h k = correct_as (correct_bind h k) (λ final ps m m' b g row.
    record { shown = shown_as (shown_both row.first.shown row.second.shown) (λ ws y. (row.one, y)) })

-- what follows leads to nothing
pub shows_tail : {A B : Type 0} {S : Of A} {Q : A → Stored → B → Type 0} {p : Lowering A} {f : A → Lowering B} → Correct p (Shows S)
    → ((a : A) → Correct (f a) (Facts (Q a)))
    → Correct (p >>= f) (Shows (λ final rs b ws. (a : A) × Q a final b × S final rs a ws))
shows_tail h k = correct_as (correct_bind h k) (λ final ps m m' b g row.
    record { shown = shown_as (shown_before row.first.shown row.second.moved) (λ ws y. (row.one, row.second.fact, y)) })

pub leaves_shown : {A : Type 0} {W : Stored → Open → Mappings} {p : Lowering A} → Correct p (Leaves W)
    → Correct p (Shows (λ final rs a. W final rs))
leaves_shown h = correct_as h (λ final ps m m' a g row. record { shown = row.shown })

-- patterns of the assignee expression, to which nodes may lead

pub made_facts : (p : HirPat) (source : Option Pointer) → MakesNone p
    → Correct (alloc_desugared_pat p source) (Facts (λ final i. PatIs (store_of final) (map_of final) i p))
made_facts p source none = correct_as (correct_alloc_desugared_pat p source)
    (λ final ps m m' i g row. record { fact = pat_at row; moved = moved_to row.stored (moved_made_pat p source m.stored none) })

pub assigned_facts : (at : Pointer) (i : PatId) → Correct (point_target at i) (Facts (λ final u. Unit {0}))
assigned_facts at i = correct_as
    (keeping (correct_point_target at i) (λ final ps m m' u row. settled_as m.stored m'.stored (ap (λ s. s.bindings) row.stored)))
    (λ final ps m m' u g row. record { fact = tt; moved = moved_to row.stored (moved_assigned at i m.stored) })

pub target_facts : (p : HirPat) (at : Origin) → MakesNone p
    → Correct (alloc_target p at) (Facts (λ final i. PatIs (store_of final) (map_of final) i p))
unfolding alloc_target
target_facts p at none = facts_as
    (facts_bind (made_facts p (Some (source_of at)) none) (λ i. facts_bind (assigned_facts at.node i) (λ u. facts_pure i)))
    (λ final j x. subst (λ k. PatIs (store_of final) (map_of final) k p) (sym x.2.2) x.1)

-- without expressions
pub facts_leave : {A : Type 0} {P : Stored → A → Type 0} {p : Lowering A} → Correct p (Facts P)
    → Correct p (Shows (λ final rs a. No))
facts_leave h = correct_as h (λ final ps m m' a g row. record { shown = shown_none row.moved refl })

pub missing_target_corresponds : (call : Option Pointer) → Correct (missing_target call) (Shows (λ final rs i. No))
missing_target_corresponds call = facts_leave (made_facts pat.Missing call tt)

-- one that has this part
part_then : {A : Type 0} {X : Of A} {q : Lowering A} (con : A → HirPat) (at : Origin) → ((a : A) → MakesNone (con a)) → Correct q (Shows X)
    → Correct (q >>= (λ a. alloc_target (con a) at))
    (Shows (λ final rs i ws. (a : A) × PatIs (store_of final) (map_of final) i (con a) × X final rs a ws))
part_then con at none h = shows_tail h (λ a. target_facts (con a) at (none a))

-- the node of a call leads to what it stands for
pub pointed_corresponds : (at : Pointer) {S : Of PatId} {p : Lowering PatId} → Correct p (Shows S)
    → Correct (p >>= (λ i. point_target at i >>= (λ u. pure i))) (Shows S)
pointed_corresponds at {S = S} h = shows_as
    (shows_tail h (λ i. facts_bind (assigned_facts at i) (λ u. facts_pure i)))
    (λ final rs j ws z. subst (λ k. S final rs k ws) (sym z.1.2) z.2)

-- lists

pub done_stand : {A : Type 0} (done : List A)
    → Correct (pure done) (Shows (λ final rs is. Behind done (λ js ws. (js ≡ []) × No ws) is))
done_stand done = correct_as (correct_pure done) (λ final ps m m' is g row.
    record { shown = shown_none (moved_pure row.still) ([], row.is ∙ sym (append-nil done), (refl, refl)) })

-- forms

pub place_corresponds : (at : Pointer) {e : ExprSteps} {S : Of ExprId} → Correct e (Shows S)
    → Correct (targets.place_form at e)
    (Shows (λ final rs i ws. (x : ExprId) × PatIs (store_of final) (map_of final) i (pat.Expr x) × S final rs x ws))
unfolding targets.place_form
place_corresponds at h = shows_tail h (λ x. made_facts (pat.Expr x) (Some at) tt)

-- what came of a field, where it has a name, and where it has none
pub target_field_corresponds : (at : Pointer) (n : Option Name) {S : Of PatId} {p : Lowering PatId} → Correct p (Shows S)
    → Correct (targets.target_field_form at n p) (Shows (λ final rs o. CorrespondsField at n (λ i. S final rs i) o))
unfolding targets.target_field_form
target_field_corresponds at None h = shows_tail h (λ i. facts_pure None)
target_field_corresponds at (Some n) h = shows_as (shows_bind h (λ i. named_corresponds at n i))
    (λ final rs o ws z. (z.0, z.1.second.0, with_second z.1 z.1.second.1))

module _ (at : Origin) where
  path_none : (h : HygieneId) (o : Option HirPath) → MakesNone (targets.path_target_of h o)
  path_none h None = tt
  path_none h (Some o) = tt

  pub path_target_corresponds : (h : HygieneId) {W : Stored → Open → Mappings} {q : Lowering (Option HirPath)} → Correct q (Leaves W)
      → Correct (targets.path_target_form at h q) (Shows (λ final rs i. W final rs))
  unfolding targets.path_target_form
  path_target_corresponds h hq = leaves_then hq (λ o. target_facts (targets.path_target_of h o) at (path_none h o))

  tuple_over : (con : Option ℕ → List PatId → HirPat) → ((dots : Option ℕ) (is : List PatId) → MakesNone (con dots is))
      → (S : Of (List PatId)) {p : Lowering Elements} → Correct p (Shows (λ final rs es. S final rs es.0))
      → Correct (p >>= (λ r. forms.elements_form false r >>= (λ es. alloc_target (con es.0 es.1) at)))
      (Shows (λ final rs i. CorrespondsTuple (store_of final) (map_of final) con false (λ is. S final rs is) i))
  tuple_over con none S h = shows_as
      (shows_tail h (λ r. facts_bind (elements_facts false r) (λ es. target_facts (con es.0 es.1) at (none es.0 es.1))))
      (λ final rs i ws z. let es = z.1.0 in (es.0, es.1, z.0.0, z.1.2, z.1.1, z.2))

  pub tuple_target_corresponds : (S : Of (List PatId)) {p : Lowering Elements} → Correct p (Shows (λ final rs es. S final rs es.0))
      → Correct (targets.tuple_target_form at p) (Shows (λ final rs i. CorrespondsTuple (store_of final) (map_of final)
      (λ dots is. pat.Tuple dots is) false (λ is. S final rs is) i))
  unfolding targets.tuple_target_form
  tuple_target_corresponds S h = tuple_over (λ dots is. pat.Tuple dots is) (λ dots is. tt) S h

  pub call_target_corresponds : (p : OptionPath) {W : Stored → Open → Mappings} (S : Of (List PatId)) {q : Lowering Elements}
      → Correct (lower_path p) (Leaves W) → Correct q (Shows (λ final rs es. S final rs es.0))
      → Correct (targets.call_target_form at q (lower_path p)) (Shows (λ final rs i. W final rs & WherePath (written_path p)
      (λ d ws. (path : HirPath) × CorrespondsTuple (store_of final) (map_of final) (λ dots is. pat.TupleStruct path dots is) false
      (λ is. S final rs is) i ws) No))
  unfolding targets.call_target_form
  call_target_corresponds p S {q = q} hp h = shows_as
      (path_then p (targets.call_target_of at q) hp (missing_target_corresponds at.call)
      (λ o. tuple_over (λ dots is. pat.TupleStruct o dots is) (λ dots is. tt) S h))
      (λ final rs i ws z. with_second z (where_as _ _ _ (written_path p) z.right (λ d us y. (y.0, y.2)) z.second))

  rest_facts : (dots : Option Pointer) → Correct (targets.rest_target dots) (Facts (λ final r. Unit {0}))
  rest_facts None = facts_as (facts_pure None) (λ final r x. tt)
  rest_facts (Some p) = facts_as (facts_bind (target_facts pat.Rest (origin None p) tt) (λ i. facts_pure (Some i))) (λ final r x. tt)

  pub array_target_corresponds : (dots : Option Pointer) (S T : Of (List PatId)) {b c : Lowering Elements}
      → Correct b (Shows (λ final rs es. S final rs es.0)) → Correct c (Shows (λ final rs es. T final rs es.0))
      → Correct (targets.array_target_form at dots b c) (Shows (λ final rs i ws. (bs : List PatId) × (m : Option PatId)
      × (as' : List PatId) × PatIs (store_of final) (map_of final) i (pat.Slice bs m as') × (S final rs bs & T final rs as') ws))
  unfolding targets.array_target_form
  array_target_corresponds dots S T hb hc = shows_as
      (shows_bind hb (λ b. shows_tail hc (λ c. facts_bind (rest_facts dots) (λ m. target_facts (pat.Slice b.0 m c.0) at tt))))
      (λ final rs i ws z.
      let y = z.1.second in
      (z.0.0, y.1.0, y.0.0, y.1.2, with_second z.1 y.2))

  spread_facts : (spread : Option Pointer) → Correct (targets.report_spread spread) (Facts (λ final u. Unit {0}))
  spread_facts None = facts_as (facts_pure tt) (λ final u x. tt)
  spread_facts (Some p) = correct_as (correct_report (FruInDestructuringAssignment p)) (λ final ps m m' u g row.
      record { fact = tt; moved = moved_to row.stored (moved_report (FruInDestructuringAssignment p) m.stored) })

  record_over : (o : HirPath) (dots : Bool) (spread : Option Pointer) {S : Of (List RecordFieldPat)} {fs : Lowering (List RecordFieldPat)}
      → Correct fs (Shows S)
      → Correct (targets.record_target_of at dots spread fs (Some o)) (Shows (λ final rs i ws. (is : List RecordFieldPat)
      × PatIs (store_of final) (map_of final) i (pat.Record o is dots) × S final rs is ws))
  record_over o dots spread h = correct_as
      (correct_bind (spread_facts spread) (λ u. part_then (λ is. pat.Record o is dots) at (λ is. tt) h))
      (λ final ps m m' i g row. record { shown = shown_after row.first.moved row.second.shown })

  pub record_target_corresponds : (p : OptionPath) (dots : Bool) (spread : Option Pointer) {W : Stored → Open → Mappings}
      {S : Of (List RecordFieldPat)} {fs : Lowering (List RecordFieldPat)} → Correct (lower_path p) (Leaves W) → Correct fs (Shows S)
      → Correct (targets.record_target_form at dots spread fs (lower_path p)) (Shows (λ final rs i. W final rs & WherePath (written_path p)
      (λ d ws. (path : HirPath) × (is : List RecordFieldPat) × PatIs (store_of final) (map_of final) i (pat.Record path is dots)
      × S final rs is ws) No))
  unfolding targets.record_target_form
  record_target_corresponds p dots spread {fs = fs} hp h = shows_as
      (path_then p (targets.record_target_of at dots spread fs) hp (missing_target_corresponds at.call)
      (λ o. record_over o dots spread h))
      (λ final rs i ws z. with_second z (where_as _ _ _ (written_path p) z.right (λ d us y. (y.0, y.2.0, y.2.1, y.2.2)) z.second))

-- parts

-- one target before others
pub targets_more : {S : Of PatId} {T : Of (List PatId)} {p : Lowering PatId} {q : Elements → Lowering Elements} → Correct p (Shows S)
    → ((done : Elements) → Correct (q done) (Shows (λ final rs es. Behind done.0 (λ js. T final rs js) es.0))) → (done : Elements)
    → Correct (p >>= (λ i. q (targets.add_target done i)))
    (Shows (λ final rs es. Behind done.0 (CorrespondsBefore false (λ i. S final rs i) (λ others. T final rs others)) es.0))
targets_more h hs done = shows_as (shows_bind h (λ i. hs (targets.add_target done i)))
    (λ final rs es ws z.
    let y = z.1.second in
    (z.0 ∷ y.0, y.1 ∙ append_assoc done.0 (z.0 ∷ []) y.0, (z.0, y.0, refl, with_second z.1 y.2)))

pub target_fields_more : (at : Pointer) (n : Option Name) {S : Of PatId} {T : Of (List RecordFieldPat)} {p : Lowering PatId}
    {q : List RecordFieldPat → Lowering (List RecordFieldPat)} → Correct p (Shows S)
    → ((done : List RecordFieldPat) → Correct (q done) (Shows (λ final rs is. Behind done (λ js. T final rs js) is)))
    → (done : List RecordFieldPat)
    → Correct (targets.target_field_form at n p >>= (λ o. q (push_some done o)))
    (Shows (λ final rs is. Behind done (CorrespondsFieldBefore at n (λ i. S final rs i) (λ others. T final rs others)) is))
target_fields_more at n {S = S} {T = T} h hs done = shows_as (shows_bind (target_field_corresponds at n h) (λ o. hs (push_some done o)))
    (λ final rs is ws z. field_before at n (λ i. S final rs i) (λ others. T final rs others) done z.0 is ws z.1)
