-- The assignee expression reaches its places, and holds what its parts do.
use Rattle.std.proofs.Common.{◌≡◌, ◌∙◌, refl, ap, ℕ, ◌+◌, ◌≤◌, Bool, false, List, [], ◌∷◌, ◌++◌, length, Option, Some, None, arith}
use Rattle.hir_store.specs.Pointers.{Pointer}
use Rattle.hir_store.specs.Stored.{Stored}
use Rattle.hir_store.specs.declared.hir.Expr.TheVariants as hir
use Rattle.hir_store.specs.declared.ids.ExprId.{ExprId}
use Rattle.hir_store.specs.declared.ids.HygieneId.{HygieneId}
use Rattle.hir_store.specs.declared.ids.PatId.{PatId}
use Rattle.hir_store.specs.declared.name.Name.{Name}
use Rattle.hir_store.specs.declared.pat.Pat.{Pat}
use Rattle.hir_store.specs.declared.pat.Pat.TheVariants as pat
use Rattle.hir_store.specs.declared.pat.RecordFieldPat.{RecordFieldPat}
use Rattle.hir_store.specs.declared.path.Path.{Path as HirPath}
use Rattle.hir_env.specs.ResolvedTree.{Origin}
use Rattle.hir_env.specs.Targets.{origin, source_of}
use Rattle.hir_lower_builder.specs.Forms.{ExprSteps, push_some, assign_form}
use Rattle.hir_lower_builder.specs.Lowering.{Lowering, ◌>>=◌, pure, point_target}
use Rattle.hir_lower_builder.specs.Pats.{Elements, elements_form, named_part, with_first_missing}
use Rattle.hir_lower_builder.specs.Targets as targets
use Rattle.hir_lower_builder.specs.Targets.{alloc_target, missing_target}
use Rattle.spec_semantics.specs.Inner.{all_of, of_pat_field, of_path, of_present}
use Rattle.spec_semantics.specs.Places.{places, places_in_each, places_in_fields, places_in_present, places_to}
use Rattle.spec_data.specs.Tracking.{none as nothing}
use Rattle.thm_generics.proofs.Logic.{SideOutput, tracks_pure}
use Rattle.thm_semantics.specs.Reached.{of_each}
use Rattle.thm_type_result.proofs.Counted.{times, times_append}
use Rattle.thm_type_result.proofs.Fronts.{in_store_front, each_front, fields_front, present_front, times_each}
use Rattle.thm_type_result.proofs.Weights as weights
use Rattle.thm_type_result.proofs.Asked.{Correct}
use Rattle.thm_type_result.proofs.Weighed.{View, Cost, free, beside, an_expr, a_target, in_expr, in_target, sum, sum_append, view}
use Rattle.thm_type_result.proofs.Weighing.{Adds, adds_pure, adds_then, adds_beside, adds_any, adds_from, adds_expr_at, adds_made_target}
use Rattle.thm_generics.proofs.Steps.{tracks_report, tracks_point_pat_field, tracks_point_target}
use Rattle.thm_generics.proofs.PatForms.{dots_track}
use Rattle.thm_type_result.proofs.InsideTypes.{maybe_path}
use Rattle.thm_type_result.proofs.InsideForms.{both}

-- costs

-- the places of a pattern, in front of others
abbrev pub part : View → PatId → List ExprId → List ExprId
part v = places_to v.store v.place

front : (v : View) (p : PatId) (is : List ExprId) → part v p is ≡ part v p [] ++ is
front v p is = in_store_front v.store v.place p is

-- how often the number is reached from these places
abbrev pub from_places : List ExprId → View → ℕ
from_places is v = times v.number (of_each v.reach is)

abbrev pub all_targets : List PatId → Cost
all_targets is v = from_places (places_in_each (part v) is []) v + sum v.weight (all_of v.held.pat is)

abbrev pub maybe_target : Option PatId → Cost
maybe_target o v = from_places (places_in_present (part v) o []) v + sum v.weight (of_present v.held.pat o)

abbrev pub target_fields : List RecordFieldPat → Cost
target_fields fs v = from_places (places_in_fields (part v) fs []) v + sum v.weight (all_of (of_pat_field v.held) fs)

abbrev pub maybe_target_field : Option RecordFieldPat → Cost
maybe_target_field None v = 0
maybe_target_field (Some f) v = a_target f.pat v

abbrev pub target_elements : Elements → Cost
target_elements es v = all_targets es.0 v

-- one more

each_push : (part : PatId → List ExprId → List ExprId) (is : List PatId) (i : PatId)
    → places_in_each part (is ++ i ∷ []) [] ≡ places_in_each part is (part i [])
each_push part [] i = refl
each_push part (j ∷ is) i = ap (part j) (each_push part is i)

fields_push : (part : PatId → List ExprId → List ExprId) (fs : List RecordFieldPat) (f : RecordFieldPat)
    → places_in_fields part (fs ++ f ∷ []) [] ≡ places_in_fields part fs (part f.pat [])
fields_push part [] f = refl
fields_push part (g ∷ fs) f = ap (part g.pat) (fields_push part fs f)

pub pushed : (is : List PatId) (i : PatId) (v : View) → all_targets (is ++ i ∷ []) v ≤ all_targets is v + a_target i v
pushed is i v =
    let e = weights.each_push v.weight v.held.pat is i in
    let x = times_each v.number v.reach (places_in_each (part v) is []) (part v i [])
    (each_push (part v) is i ∙ each_front (part v) (front v) is (part v i [])) in omega (arith, e, x)

pub field_pushed : (fs : List RecordFieldPat) (o : Option RecordFieldPat) (v : View)
    → target_fields (push_some fs o) v ≤ target_fields fs v + maybe_target_field o v
field_pushed fs None v = omega arith
field_pushed fs (Some f) v =
    let e = weights.each_push v.weight (of_pat_field v.held) fs f in
    let x = times_each v.number v.reach (places_in_fields (part v) fs []) (part v f.pat [])
    (fields_push (part v) fs f ∙ fields_front (part v) (front v) fs (part v f.pat [])) in omega (arith, e, x)

-- forms

-- a node that is assigned to leads to the pattern
pub pointed_adds : (at : Pointer) {was : Cost} {p : Lowering PatId} → Correct p (Adds was a_target)
    → Correct (p >>= (λ i. point_target at i >>= (λ u. pure i))) (Adds was a_target)
pointed_adds at h = adds_then h (λ i. adds_then (adds_any (tracks_point_target at i)) (λ u. adds_pure i (λ v. omega arith)))

pub adds_target : {was : Cost} (p : Pat) (at : Origin) → ((v : View) → in_target p v ≤ was v)
    → Correct (alloc_target p at) (Adds was a_target)
unfolding alloc_target
adds_target p at h = pointed_adds at.node (adds_made_target p (Some (source_of at)) h)

pub missing_target_adds : {was : Cost} (call : Option Pointer) → Correct (missing_target call) (Adds was a_target)
missing_target_adds call = adds_made_target pat.Missing call (λ v. omega arith)

path_target_less : (h : HygieneId) (o : Option HirPath) (v : View) → in_target (targets.path_target_of h o) v ≤ maybe_path o v
path_target_less h None v = omega arith
path_target_less h (Some p) v = omega arith

call_less : (p : HirPath) (dots : Option ℕ) (is : List PatId) (v : View)
    → in_target (pat.TupleStruct p dots is) v ≤ maybe_path (Some p) v + all_targets is v
call_less p dots is v = let x = sum_append v.weight (of_path v.held p) (all_of v.held.pat is) in omega arith

record_less : (p : HirPath) (fs : List RecordFieldPat) (dots : Bool) (v : View)
    → in_target (pat.Record p fs dots) v ≤ maybe_path (Some p) v + target_fields fs v
record_less p fs dots v = let x = sum_append v.weight (of_path v.held p) (all_of (of_pat_field v.held) fs) in omega arith

array_less : (b : List PatId) (m : Option PatId) (a : List PatId) (v : View)
    → in_target (pat.Slice b m a) v ≤ (all_targets b v + all_targets a v) + maybe_target m v
array_less b m a v =
    let as' = places_in_each (part v) a [] in
    let ms = places_in_present (part v) m as' in
    let x = times_each v.number v.reach (places_in_each (part v) b []) ms (each_front (part v) (front v) b ms) in
    let y = times_each v.number v.reach (places_in_present (part v) m []) as' (present_front (part v) (front v) m as') in
    let z = sum_append v.weight (all_of v.held.pat b) (of_present v.held.pat m ++ all_of v.held.pat a) in
    let w = sum_append v.weight (of_present v.held.pat m) (all_of v.held.pat a) in omega (arith, x, y, z, w)

-- no comma stands in front
elements_add : (more : Cost) (es : Elements)
    → Correct (elements_form false es) (Adds (beside more (target_elements es)) (λ r. beside more (all_targets r.1)))
unfolding elements_form
elements_add more es = adds_then (adds_any (dots_track false es.1))
    (λ place. adds_then (front_adds es.0) (λ ids. adds_pure (place, ids) (λ v. omega arith)))
  where
    front_adds : (ids : List PatId)
        → Correct (with_first_missing false ids) (Adds (beside more (all_targets ids)) (λ is. beside more (all_targets is)))
    front_adds ids = adds_pure ids (λ v. omega arith)

named_part_adds : (at : Pointer) (n : Option Name) (i : PatId) → Correct (named_part at n i) (Adds (a_target i) maybe_target_field)
named_part_adds at None i = adds_pure None (λ v. omega arith)
named_part_adds at (Some n) i = adds_then (adds_any (tracks_point_pat_field i at)) (λ u. adds_pure _ (λ v. omega arith))

pub place_adds : (at : Pointer) {e : ExprSteps} → Correct e (Adds free an_expr) → Correct (targets.place_form at e) (Adds free a_target)
unfolding targets.place_form
place_adds at h = adds_then h (λ e. adds_made_target (pat.Expr e) (Some at)
    (λ v. let x = times_append v.number (v.reach e) [] in omega (arith, x)))

pub target_field_adds : (at : Pointer) (n : Option Name) {p : Lowering PatId} → Correct p (Adds free a_target)
    → Correct (targets.target_field_form at n p) (Adds free maybe_target_field)
unfolding targets.target_field_form
target_field_adds at n h = adds_then h (λ i. named_part_adds at n i)

module _ (at : Origin) where
  pub path_target_adds : (h : HygieneId) {q : Lowering (Option HirPath)} → Correct q (Adds free maybe_path)
      → Correct (targets.path_target_form at h q) (Adds free a_target)
  unfolding targets.path_target_form
  path_target_adds h hq = adds_then hq (λ o. adds_target _ at (path_target_less h o))

  pub tuple_target_adds : {p : Lowering Elements} → Correct p (Adds free target_elements)
      → Correct (targets.tuple_target_form at p) (Adds free a_target)
  unfolding targets.tuple_target_form
  tuple_target_adds h = adds_then h (λ r. adds_then (adds_from (λ v. omega arith) (elements_add free r))
      (λ es. adds_target (pat.Tuple es.0 es.1) at (λ v. omega arith)))

  call_target_of_adds : {p : Lowering Elements} → Correct p (Adds free target_elements) → (o : Option HirPath)
      → Correct (targets.call_target_of at p o) (Adds (maybe_path o) a_target)
  call_target_of_adds h None = missing_target_adds at.call
  call_target_of_adds h (Some o) = adds_then (adds_beside (maybe_path (Some o)) h)
      (λ r. adds_then (elements_add (maybe_path (Some o)) r)
      (λ es. adds_target (pat.TupleStruct o es.0 es.1) at (call_less o es.0 es.1)))

  pub call_target_adds : {p : Lowering Elements} {q : Lowering (Option HirPath)} → Correct p (Adds free target_elements)
      → Correct q (Adds free maybe_path) → Correct (targets.call_target_form at p q) (Adds free a_target)
  unfolding targets.call_target_form
  call_target_adds h hq = adds_then hq (λ o. call_target_of_adds h o)

  rest_adds : (dots : Option Pointer) → Correct (targets.rest_target dots) (Adds free maybe_target)
  rest_adds None = adds_pure None (λ v. omega arith)
  rest_adds (Some p) = adds_then (adds_target pat.Rest (origin None p) (λ v. omega arith)) (λ i. adds_pure (Some i) (λ v. omega arith))

  pub array_target_adds : (dots : Option Pointer) {b a : Lowering Elements} → Correct b (Adds free target_elements)
      → Correct a (Adds free target_elements) → Correct (targets.array_target_form at dots b a) (Adds free a_target)
  unfolding targets.array_target_form
  array_target_adds dots hb ha = adds_then hb (λ b. adds_then (adds_beside (target_elements b) ha)
      (λ a. adds_then (adds_beside (beside (target_elements b) (target_elements a)) (rest_adds dots))
      (λ m. adds_target (pat.Slice b.0 m a.0) at (array_less b.0 m a.0))))

  spread_tracks : (spread : Option Pointer) → SideOutput nothing (targets.report_spread spread)
  spread_tracks None = tracks_pure tt
  spread_tracks (Some p) = tracks_report _

  record_target_of_adds : (dots : Bool) (spread : Option Pointer) {fs : Lowering (List RecordFieldPat)}
      → Correct fs (Adds free target_fields) → (o : Option HirPath)
      → Correct (targets.record_target_of at dots spread fs o) (Adds (maybe_path o) a_target)
  record_target_of_adds dots spread h None = missing_target_adds at.call
  record_target_of_adds dots spread h (Some o) = adds_then (adds_any (spread_tracks spread))
      (λ u. adds_then (adds_beside (maybe_path (Some o)) h) (λ fs. adds_target (pat.Record o fs dots) at (record_less o fs dots)))

  pub record_target_adds : (dots : Bool) (spread : Option Pointer) {fs : Lowering (List RecordFieldPat)}
      {q : Lowering (Option HirPath)} → Correct fs (Adds free target_fields) → Correct q (Adds free maybe_path)
      → Correct (targets.record_target_form at dots spread fs q) (Adds free a_target)
  unfolding targets.record_target_form
  record_target_adds dots spread h hq = adds_then hq (λ o. record_target_of_adds dots spread h o)

module _ (at : Pointer) where
  -- where all places are looked for
  assign_less : (t : PatId) (e : ExprId) (final : Stored) (all number reach hold : ℕ)
      → in_expr (hir.Assignment t e) (view final all number reach hold (length final.pats.entries))
      ≤ a_target t (view final all number reach hold (length final.pats.entries))
      + an_expr e (view final all number reach hold (length final.pats.entries))
  unfolding places
  assign_less t e final all number reach hold =
      let v = view final all number reach hold (length final.pats.entries) in
      let x = both v (of_each v.reach (part v t [])) (v.reach e) (v.held.pat t) (v.held.expr e) in omega (arith, x)

  pub assign_adds : {t : Lowering PatId} {e : ExprSteps} → Correct t (Adds free a_target) → Correct e (Adds free an_expr)
      → Correct (assign_form at t e) (Adds free an_expr)
  unfolding assign_form
  assign_adds ht he = adds_then ht (λ t. adds_then (adds_beside (a_target t) he)
      (λ e. adds_expr_at (hir.Assignment t e) (Some at) (assign_less t e)))
