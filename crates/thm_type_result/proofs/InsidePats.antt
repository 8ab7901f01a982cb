-- What patterns, targets and what they stand in become reaches and holds what the parts do.
use Rattle.std.proofs.Common.{◌≡◌, refl, ℕ, ◌+◌, ◌≤◌, Bool, true, false, List, [], ◌∷◌, ◌++◌, Option, Some, None, arith}
use Rattle.hir_base.specs.declared.op.RangeOp.{RangeOp}
use Rattle.hir_base.specs.declared.op.RangeOp.TheVariants as op
use Rattle.hir_store.specs.Pointers.{Pointer}
use Rattle.hir_store.specs.Stored.{Stored}
use Rattle.hir_store.specs.declared.hir.Expr.TheVariants as hir
use Rattle.hir_store.specs.declared.hir.MatchArm.{MatchArm}
use Rattle.hir_store.specs.declared.hir.RecordSpread.TheVariants as spread
use Rattle.hir_store.specs.declared.hir.Statement.TheVariants as statement
use Rattle.hir_store.specs.declared.ids.ExprId.{ExprId}
use Rattle.hir_store.specs.declared.ids.LangItemId.{LangItemId}
use Rattle.hir_store.specs.declared.ids.PatId.{PatId}
use Rattle.hir_store.specs.declared.ids.TypeRefId.{TypeRefId}
use Rattle.hir_store.specs.declared.name.Name.{Name}
use Rattle.hir_store.specs.declared.name.Name.TheVariants as name
use Rattle.hir_store.specs.declared.pat.Pat.TheVariants as pat
use Rattle.hir_store.specs.declared.pat.RecordFieldPat.{RecordFieldPat}
use Rattle.hir_store.specs.declared.path.Path.{Path as HirPath}
use Rattle.hir_store.specs.declared.path.Path.TheVariants.{LangItem}
use Rattle.hir_env.specs.ResolvedTree as tree
use Rattle.hir_env.specs.ResolvedTree.{Called, PatLeaf, PatUnary, RangeForm, Signed, Use}
use Rattle.hir_lower_builder.specs.Forms.{ExprSteps, push_some, let_form, match_form, arm_form, let_stmt_form}
use Rattle.hir_lower_builder.specs.Lowering.{Lowering, alloc_expr, alloc_pat}
use Rattle.hir_lower_builder.specs.Pats as forms
use Rattle.hir_lower_builder.specs.Pats.{Table, Elements, PatSteps, missing_pat}
use Rattle.hir_lower_builder.specs.Ranges as ranges
use Rattle.spec_semantics.specs.Inner as inner
use Rattle.spec_semantics.specs.Inner.{all_of, of_limit, of_path, of_pat_field, of_present}
use Rattle.thm_semantics.specs.Reached.{of_arms, of_some}
use Rattle.thm_type_result.proofs.Counted.{times, times_append}
use Rattle.thm_type_result.proofs.Weights as weights
use Rattle.thm_type_result.proofs.Asked.{Correct}
use Rattle.thm_type_result.proofs.Weighed.{View, Cost, free, beside, an_expr, a_limit, a_pat, a_type_pat, in_expr, in_pat, in_type_pat}
use Rattle.thm_type_result.proofs.Weighed.{view, sum, sum_append}
use Rattle.thm_type_result.proofs.Weighing.{Adds, adds_pure, adds_then, adds_beside, adds_any, adds_aside, adds_from, adds_expr, adds_pat}
use Rattle.thm_type_result.proofs.Weighing.{adds_type_pat}
use Rattle.thm_generics.proofs.Steps.{tracks_define, tracks_point_pat, tracks_point_pat_field, tracks_report, tracks_emitted}
use Rattle.thm_generics.proofs.PatForms.{dots_track, name_tracks}
use Rattle.thm_type_result.proofs.InsideTypes.{maybe_path, maybe_type}
use Rattle.thm_type_result.proofs.InsideForms.{maybe, each, a_field, a_statement, both, maybe_is, first_less}
use Rattle.thm_type_result.proofs.InsideForms as of_exprs

-- costs

abbrev pub maybe_pat : Option PatId → Cost
maybe_pat o v = sum v.weight (of_present v.held.pat o)

abbrev pub pats : List PatId → Cost
pats is v = sum v.weight (all_of v.held.pat is)

abbrev pub fields : List RecordFieldPat → Cost
fields fs v = sum v.weight (all_of (of_pat_field v.held) fs)

abbrev pub maybe_field : Option RecordFieldPat → Cost
maybe_field o v = sum v.weight (of_present (of_pat_field v.held) o)

abbrev pub elements : Elements → Cost
elements es v = pats es.0 v

abbrev pub type_pats : List PatId → Cost
type_pats is v = sum v.weight (all_of v.held.type_pat is)

-- what is answered beside a table
abbrev pub first : {A : Type 0} → (A → Cost) → A × Table → Cost
first cost r v = cost r.0 v

-- steps that hand a table on
abbrev pub Each : {A : Type 0} → Cost → (A → Cost) → (Table → Lowering (A × Table)) → Type 0
Each was now p = (t : Table) → Correct (p t) (Adds was (first now))

missing_adds : {was : Cost} → Correct missing_pat (Adds was a_pat)
unfolding missing_pat
missing_adds = adds_pat pat.Missing None (λ v. omega arith)

pub missing_pat_adds : Correct missing_pat (Adds free a_pat)
missing_pat_adds = missing_adds

pub alone_adds : {was : Cost} {p : Lowering PatId} → Correct p (Adds was a_pat) → Each was a_pat (forms.alone p)
alone_adds h t = adds_then h (λ i. adds_pure (i, t) (λ v. omega arith))

-- what a call stands for
pub called_adds : (at : Pointer) (c : Called) {A : Type 0} (pat_in : A → PatId) {now : A → Cost} {p : Lowering A}
    → Correct p (Adds free now) → Correct (forms.called_pat_form at c pat_in p) (Adds free now)
unfolding forms.called_pat_form
called_adds at c pat_in h = adds_then (adds_any (tracks_emitted c)) (λ u. adds_then h
    (λ r. adds_then (adds_any (tracks_point_pat at (pat_in r))) (λ v. adds_pure r (λ w. omega arith))))

pub leaf_pat_adds : (at : Pointer) (form : PatLeaf) → Correct (alloc_pat (forms.stored_pat_leaf form) (Some at)) (Adds free a_pat)
leaf_pat_adds at tree.wild_leaf = adds_pat _ (Some at) (λ v. omega arith)
leaf_pat_adds at tree.rest_leaf = adds_pat _ (Some at) (λ v. omega arith)
leaf_pat_adds at tree.not_null_leaf = adds_pat _ (Some at) (λ v. omega arith)
leaf_pat_adds at tree.broken_leaf = adds_pat _ (Some at) (λ v. omega arith)

-- parts of a tuple

pub pushed : (is : List PatId) (i : PatId) (v : View) → pats (is ++ i ∷ []) v ≤ pats is v + a_pat i v
pushed is i v = let e = weights.each_push v.weight v.held.pat is i in omega arith

pub field_pushed : (fs : List RecordFieldPat) (o : Option RecordFieldPat) (v : View)
    → fields (push_some fs o) v ≤ fields fs v + maybe_field o v
field_pushed fs None v = omega arith
field_pushed fs (Some f) v = let e = weights.each_push v.weight (of_pat_field v.held) fs f in omega arith

pub element_adds : (dots : Bool) (done : Elements) {p : PatSteps} → Each free a_pat p
    → Each (elements done) elements (forms.element_form dots done p)
element_adds true done h t = adds_pure _ (λ v. omega arith)
element_adds false done h t = adds_then (adds_beside (elements done) (h t)) (λ r. adds_pure _ (λ v. pushed done.0 r.0 v))

front_adds : (more : Cost) (comma : Bool) (ids : List PatId)
    → Correct (forms.with_first_missing comma ids) (Adds (beside more (pats ids)) (λ is. beside more (pats is)))
front_adds more false ids = adds_pure ids (λ v. omega arith)
front_adds more true ids = adds_then (adds_beside (beside more (pats ids)) missing_pat_adds)
    (λ i. adds_pure (i ∷ ids) (λ v. let x = sum_append v.weight (v.held.pat i) (all_of v.held.pat ids) in omega arith))

pub elements_add : (more : Cost) (comma : Bool) (es : Elements)
    → Correct (forms.elements_form comma es) (Adds (beside more (elements es)) (λ r. beside more (pats r.1)))
unfolding forms.elements_form
elements_add more comma es = adds_then (adds_any (dots_track comma es.1))
    (λ place. adds_then (front_adds more comma es.0) (λ ids. adds_pure (place, ids) (λ v. omega arith)))

-- records

named_part_adds : (at : Pointer) (n : Option Name) (i : PatId) → Correct (forms.named_part at n i) (Adds (a_pat i) maybe_field)
named_part_adds at None i = adds_pure None (λ v. omega arith)
named_part_adds at (Some n) i = adds_then (adds_any (tracks_point_pat_field i at)) (λ u. adds_pure _ (λ v. omega arith))

pub pat_field_adds : (at : Pointer) (n : Option Name) {p : PatSteps} → Each free a_pat p
    → Each free maybe_field (forms.pat_field_form at n p)
unfolding forms.pat_field_form
pat_field_adds at n h t = adds_then (h t) (λ r. adds_then (named_part_adds at n r.0) (λ f. adds_pure (f, r.1) (λ v. omega arith)))

-- forms of patterns

unary_pat : (form : PatUnary) (i : PatId) (v : View) → in_pat (forms.stored_pat_unary form i) v ≤ a_pat i v
unary_pat (tree.ref_to mutability) i v = omega arith
unary_pat tree.box_of i v = omega arith
unary_pat tree.deref_of i v = omega arith

path_pat : (o : Option HirPath) (v : View) → in_pat (forms.path_pat_of o) v ≤ maybe_path o v
path_pat None v = omega arith
path_pat (Some p) v = omega arith

-- a side is held
side_is : (o : Option ExprId) (v : View) → sum v.weight (of_present (of_limit v.held) o) ≡ maybe a_limit o v
side_is None v = refl
side_is (Some e) v = refl

range_pat : (o : Option RangeOp) (s e : Option ExprId) (v : View)
    → in_pat (forms.stored_range o s e) v ≤ maybe a_limit s v + maybe a_limit e v
range_pat None s e v = omega arith
range_pat (Some o) s e v =
    let x = sum_append v.weight (of_present (of_limit v.held) s) (of_present (of_limit v.held) e) in
    let y = side_is s v in
    let z = side_is e v in omega arith

literal_aside : (e : ExprId) (final : Stored) (all number reach hold place : ℕ)
    → a_limit e (view final all number reach hold place) ≤ an_expr e (view final all number all hold place)
literal_aside e final all number reach hold place = omega arith

literal_held : (s : Signed) (source : Option Pointer)
    → Correct (alloc_expr (hir.Literal (forms.signed_literal s)) source) (Adds free a_limit)
literal_held s source = adds_aside literal_aside (adds_expr (hir.Literal (forms.signed_literal s)) source (λ v. omega arith))

side_aside : (o : Option ExprId) (final : Stored) (all number reach hold place : ℕ)
    → maybe a_limit o (view final all number reach hold place) ≤ maybe an_expr o (view final all number all hold place)
side_aside None final all number reach hold place = omega arith
side_aside (Some e) final all number reach hold place = literal_aside e final all number reach hold place

tuple_struct_less : (p : HirPath) (dots : Option ℕ) (is : List PatId) (v : View)
    → in_pat (pat.TupleStruct p dots is) v ≤ maybe_path (Some p) v + pats is v
tuple_struct_less p dots is v = let x = sum_append v.weight (of_path v.held p) (all_of v.held.pat is) in omega arith

record_less : (p : HirPath) (fs : List RecordFieldPat) (dots : Bool) (v : View)
    → in_pat (pat.Record p fs dots) v ≤ maybe_path (Some p) v + fields fs v
record_less p fs dots v = let x = sum_append v.weight (of_path v.held p) (all_of (of_pat_field v.held) fs) in omega arith

slice_less : (b : List PatId) (m : Option PatId) (a : List PatId) (v : View)
    → in_pat (pat.Slice b m a) v ≤ (pats b v + maybe_pat m v) + pats a v
slice_less b m a v =
    let x = sum_append v.weight (all_of v.held.pat b) (of_present v.held.pat m ++ all_of v.held.pat a) in
    let y = sum_append v.weight (of_present v.held.pat m) (all_of v.held.pat a) in omega arith

module _ (at : Pointer) where
  or_of_adds : (is : List PatId) → Correct (forms.or_of at is) (Adds (pats is) a_pat)
  or_of_adds [] = adds_pat _ (Some at) (λ v. omega arith)
  or_of_adds (i ∷ []) = adds_pure i (λ v. let s = sum_append v.weight (v.held.pat i) [] in omega arith)
  or_of_adds (i ∷ (j ∷ is)) = adds_pat _ (Some at) (λ v. omega arith)

  path_side_of_adds : (o : Option HirPath) → Correct (forms.path_side_of at o) (Adds (maybe_path o) (maybe an_expr))
  path_side_of_adds None = adds_pure None (λ v. omega arith)
  path_side_of_adds (Some p) = adds_then (adds_expr (hir.Path p _) (Some at) (λ v. omega arith))
      (λ e. adds_pure (Some e) (λ v. omega arith))

  pub path_pat_adds : {q : Lowering (Option HirPath)} → Correct q (Adds free maybe_path)
      → Correct (forms.path_pat_form at q) (Adds free a_pat)
  unfolding forms.path_pat_form
  path_pat_adds h = adds_then h (λ o. adds_pat _ (Some at) (path_pat o))

  pub bind_adds : (u : Use) {s : Table → Lowering (Option PatId × Table)} → Each free maybe_pat s
      → Each free a_pat (forms.bind_form at u s)
  unfolding forms.bind_form
  bind_adds u h t = adds_then (h t) (λ s. adds_then (adds_any (name_tracks u s.1))
      (λ b. adds_then (adds_pat (pat.Bind b.0 s.0) (Some at) (λ v. omega arith))
      (λ i. adds_then (adds_any (tracks_define b.0 i)) (λ w. adds_pure (i, b.1) (λ v. omega arith)))))

  pub over_pat_adds : (form : PatUnary) {p : PatSteps} → Each free a_pat p → Each free a_pat (forms.over_pat_form at form p)
  unfolding forms.over_pat_form
  over_pat_adds form h t = adds_then (h t) (λ r. adds_then (adds_pat _ (Some at) (unary_pat form r.0))
      (λ i. adds_pure (i, r.1) (λ v. omega arith)))

  pub tuple_pat_adds : (comma : Bool) {p : Table → Lowering (Elements × Table)} → Each free elements p
      → Each free a_pat (forms.tuple_pat_form at comma p)
  unfolding forms.tuple_pat_form
  tuple_pat_adds comma h t = adds_then (h t) (λ r. adds_then (adds_from (λ v. omega arith) (elements_add free comma r.0))
      (λ es. adds_then (adds_pat (pat.Tuple es.0 es.1) (Some at) (λ v. omega arith)) (λ i. adds_pure (i, r.1) (λ v. omega arith))))

  tuple_struct_of_adds : (comma : Bool) {p : Table → Lowering (Elements × Table)} → Each free elements p → (o : Option HirPath)
      → Each (maybe_path o) a_pat (forms.tuple_struct_of at comma p o)
  tuple_struct_of_adds comma h None t = alone_adds missing_adds t
  tuple_struct_of_adds comma h (Some o) t = adds_then (adds_beside (maybe_path (Some o)) (h t))
      (λ r. adds_then (elements_add (maybe_path (Some o)) comma r.0)
      (λ es. adds_then (adds_pat (pat.TupleStruct o es.0 es.1) (Some at) (tuple_struct_less o es.0 es.1))
      (λ i. adds_pure (i, r.1) (λ v. omega arith))))

  pub tuple_struct_adds : (comma : Bool) {p : Table → Lowering (Elements × Table)} {q : Lowering (Option HirPath)}
      → Each free elements p → Correct q (Adds free maybe_path) → Each free a_pat (forms.tuple_struct_form at comma p q)
  unfolding forms.tuple_struct_form
  tuple_struct_adds comma h hq t = adds_then hq (λ o. tuple_struct_of_adds comma h o t)

  record_pat_of_adds : (dots : Bool) {fs : Table → Lowering (List RecordFieldPat × Table)} → Each free fields fs
      → (o : Option HirPath) → Each (maybe_path o) a_pat (forms.record_pat_of at dots fs o)
  record_pat_of_adds dots h None t = alone_adds missing_adds t
  record_pat_of_adds dots h (Some o) t = adds_then (adds_beside (maybe_path (Some o)) (h t))
      (λ r. adds_then (adds_pat (pat.Record o r.0 dots) (Some at) (record_less o r.0 dots))
      (λ i. adds_pure (i, r.1) (λ v. omega arith)))

  pub record_pat_adds : (dots : Bool) {fs : Table → Lowering (List RecordFieldPat × Table)} {q : Lowering (Option HirPath)}
      → Each free fields fs → Correct q (Adds free maybe_path) → Each free a_pat (forms.record_pat_form at dots fs q)
  unfolding forms.record_pat_form
  record_pat_adds dots h hq t = adds_then hq (λ o. record_pat_of_adds dots h o t)

  pub slice_pat_adds : {b a : Table → Lowering (List PatId × Table)} {m : Table → Lowering (Option PatId × Table)}
      → Each free pats b → Each free maybe_pat m → Each free pats a → Each free a_pat (forms.slice_pat_form at b m a)
  unfolding forms.slice_pat_form
  slice_pat_adds hb hm ha t = adds_then (hb t) (λ b. adds_then (adds_beside (pats b.0) (hm b.1))
      (λ m. adds_then (adds_beside (beside (pats b.0) (maybe_pat m.0)) (ha m.1))
      (λ a. adds_then (adds_pat (pat.Slice b.0 m.0 a.0) (Some at) (slice_less b.0 m.0 a.0))
      (λ i. adds_pure (i, a.1) (λ v. omega arith)))))

  pub or_adds : {p : PatSteps} {later : List PatId → Table → Lowering (List PatId × Table)} → Each free a_pat p
      → ((done : List PatId) → Each (pats done) pats (later done)) → Each free a_pat (forms.or_form at p later)
  unfolding forms.or_form
  or_adds h hs t = adds_then (h (forms.enter_or t)) (λ r. adds_then
      (adds_from (λ v. let s = sum_append v.weight (v.held.pat r.0) [] in omega arith) (hs (r.0 ∷ []) r.1))
      (λ rs. adds_then (or_of_adds rs.0) (λ i. adds_pure (i, forms.leave_or rs.1) (λ v. omega arith))))

  pub literal_pat_adds : (own : Option Pointer) (s : Signed) → Correct (forms.literal_pat_form at own s) (Adds free a_pat)
  unfolding forms.literal_pat_form
  literal_pat_adds own s = adds_then (literal_held s _) (λ e. adds_pat (pat.Lit e) (Some at) (λ v. omega arith))

  pub literal_side_adds : (s : Signed) → Correct (forms.literal_side_form at s) (Adds free (maybe an_expr))
  unfolding forms.literal_side_form
  literal_side_adds s = adds_then (adds_expr (hir.Literal _) (Some at) (λ v. omega arith)) (λ e. adds_pure (Some e) (λ v. omega arith))

  text_side_adds : (n : Name) → Correct (forms.path_side_of at (Some (forms.name_path n))) (Adds free (maybe an_expr))
  text_side_adds n = adds_then (adds_expr (hir.Path (forms.name_path n) _) (Some at) (λ v. omega arith))
      (λ e. adds_pure (Some e) (λ v. omega arith))

  pub name_side_adds : (n : Name) → Correct (forms.name_side_of at n) (Adds free (maybe an_expr))
  name_side_adds name.Missing = adds_pure None (λ v. omega arith)
  name_side_adds n = text_side_adds n

  pub path_side_adds : {q : Lowering (Option HirPath)} → Correct q (Adds free maybe_path)
      → Correct (forms.path_side_form at q) (Adds free (maybe an_expr))
  unfolding forms.path_side_form
  path_side_adds h = adds_then h (λ p. path_side_of_adds p)

  pub range_pat_adds : (o : Option RangeOp) {s e : Lowering (Option ExprId)} → Correct s (Adds free (maybe an_expr))
      → Correct e (Adds free (maybe an_expr)) → Correct (forms.range_pat_form at o s e) (Adds free a_pat)
  unfolding forms.range_pat_form
  range_pat_adds o hs he = adds_then (adds_aside side_aside hs) (λ s. adds_then (adds_beside (maybe a_limit s) (adds_aside side_aside he))
      (λ e. adds_pat _ (Some at) (range_pat o s e)))

  -- patterns of types

  pub literal_limit_adds : (s : Signed) → Correct (ranges.literal_limit_form at s) (Adds free an_expr)
  unfolding ranges.literal_limit_form
  literal_limit_adds s = adds_expr _ (Some at) (λ v. omega arith)

  pub name_limit_adds : (n : Name) → Correct (ranges.name_limit_form at n) (Adds free an_expr)
  unfolding ranges.name_limit_form
  name_limit_adds n = adds_expr _ (Some at) (λ v. omega arith)

  path_limit_less : (o : Option HirPath) (v : View) → in_expr (ranges.path_limit_of o) v ≤ maybe_path o v
  path_limit_less None v = omega arith
  path_limit_less (Some p) v = omega arith

  pub path_limit_adds : {q : Lowering (Option HirPath)} → Correct q (Adds free maybe_path)
      → Correct (ranges.path_limit_form at q) (Adds free an_expr)
  unfolding ranges.path_limit_form
  path_limit_adds h = adds_then h (λ o. adds_expr _ (Some at) (path_limit_less o))

  limits_less : (o : RangeOp) (s e : ExprId) (v : View) → in_type_pat (pat.Range o (Some s) (Some e)) v ≤ a_limit s v + a_limit e v
  limits_less o s e v = let x = sum_append v.weight (of_limit v.held s) (of_limit v.held e) in omega arith

  pub limits_adds : {s e : ExprSteps} → Correct s (Adds free a_limit) → Correct e (Adds free a_limit)
      → Correct (ranges.limits_form at s e) (Adds free a_type_pat)
  unfolding ranges.limits_form
  limits_adds hs he = adds_then hs (λ s. adds_then (adds_beside (a_limit s) he)
      (λ e. adds_type_pat (pat.Range op.Inclusive (Some s) (Some e)) (Some at) (limits_less op.Inclusive s e)))

  pub type_alternatives_adds : {ps : Lowering (List PatId)} → Correct ps (Adds free type_pats)
      → Correct (ranges.type_alternatives_form at ps) (Adds free a_type_pat)
  unfolding ranges.type_alternatives_form
  type_alternatives_adds h = adds_then h (λ ps. adds_type_pat (pat.Or ps) (Some at) (λ v. omega arith))

pub missing_type_pat_adds : Correct missing_pat (Adds free a_type_pat)
unfolding missing_pat
missing_type_pat_adds = adds_type_pat pat.Missing None (λ v. omega arith)

pub uncalled_pat_adds : (at : Pointer) (c : Called) → Correct (forms.uncalled_pat at c) (Adds free a_pat)
uncalled_pat_adds at tree.callless = missing_pat_adds
uncalled_pat_adds at c = called_adds at c (λ i. i) missing_pat_adds

pub barred_pat_adds : (at : Pointer) → Correct (forms.barred_pat_form at) (Adds free a_pat)
barred_pat_adds at = adds_then (adds_any (tracks_report _)) (λ u. missing_pat_adds)

pub uncalled_type_pat_adds : (at : Pointer) (c : Called) → Correct (forms.uncalled_pat at c) (Adds free a_type_pat)
uncalled_type_pat_adds at tree.callless = missing_type_pat_adds
uncalled_type_pat_adds at c = called_adds at c (λ i. i) missing_type_pat_adds

-- lang items

item_less : (item : Option LangItemId) (v : View) → in_expr (ranges.item_expr item) v ≤ 0
item_less None v = omega arith
item_less (Some i) v = omega arith

pub item_adds : (item : Option LangItemId) → Correct (ranges.item_form item) (Adds free an_expr)
unfolding ranges.item_form
item_adds item = adds_expr _ None (item_less item)

pub before_adds : (item : Option LangItemId) {e : ExprSteps} → Correct e (Adds free an_expr)
    → Correct (ranges.before_form item e) (Adds free an_expr)
unfolding ranges.before_form
before_adds item h = adds_then h (λ e. adds_then (adds_beside (an_expr e) (adds_expr _ None (item_less item)))
    (λ f. adds_expr _ None (λ v. let x = first_less f (e ∷ []) v in omega arith)))

-- ranges

ends_less : (n : Name) (s e : Option ExprId) (v : View)
    → each a_field (ranges.range_fields n s e) v ≤ maybe an_expr s v + maybe an_expr e v
ends_less n None None v = omega arith
ends_less n None (Some e) v = omega arith
ends_less n (Some s) None v = omega arith
ends_less n (Some s) (Some e) v = omega arith

operands_less : (s e : Option ExprId) (v : View)
    → each an_expr (ranges.end_operand s ++ ranges.end_operand e) v ≤ maybe an_expr s v + maybe an_expr e v
operands_less None None v = omega arith
operands_less None (Some e) v = omega arith
operands_less (Some s) None v = omega arith
operands_less (Some s) (Some e) v = omega arith

made_range_adds : (at : Pointer) (form : RangeForm) (s e : Option ExprId)
    → Correct (ranges.made_range at form s e) (Adds (beside (maybe an_expr s) (maybe an_expr e)) an_expr)
made_range_adds at (tree.record_range item n) s e = adds_expr _ (Some at) (λ v.
    let x = of_exprs.record_less (LangItem item) (ranges.range_fields n s e, spread.None) v in
    let y = ends_less n s e v in omega arith)
made_range_adds at (tree.call_range item) s e =
    adds_then (adds_beside (beside (maybe an_expr s) (maybe an_expr e)) (adds_expr _ None (item_less item)))
    (λ f. adds_expr _ (Some at) (λ v.
    let x = first_less f (ranges.end_operand s ++ ranges.end_operand e) v in
    let y = operands_less s e v in omega arith))
made_range_adds at tree.itemless_range s e = adds_expr _ (Some at) (λ v. omega arith)

pub range_adds : (at : Pointer) (form : RangeForm) {s e : Lowering (Option ExprId)} → Correct s (Adds free (maybe an_expr))
    → Correct e (Adds free (maybe an_expr)) → Correct (ranges.range_form at form s e) (Adds free an_expr)
unfolding ranges.range_form
range_adds at form hs he =
    adds_then hs (λ s. adds_then (adds_beside (maybe an_expr s) he) (λ e. made_range_adds at form s e))

-- what patterns stand in

pub let_adds : (at : Pointer) {p : Lowering PatId} {e : ExprSteps} → Correct p (Adds free a_pat) → Correct e (Adds free an_expr)
    → Correct (let_form at p e) (Adds free an_expr)
unfolding let_form
let_adds at hp he = adds_then hp (λ p. adds_then (adds_beside (a_pat p) he) (λ e. adds_expr (hir.Let p e) (Some at)
    (λ v. let x = sum_append v.weight (v.held.pat p) (v.held.expr e) in omega arith)))

abbrev pub an_arm : MatchArm → Cost
an_arm a v = times v.number (v.reach a.expr ++ of_some v.reach a.guard) + sum v.weight (inner.of_arm v.held a)

pub arms_are : (as' : List MatchArm) (v : View)
    → times v.number (of_arms v.reach as') + sum v.weight (all_of (inner.of_arm v.held) as') ≡ each an_arm as' v
arms_are [] v = refl
arms_are (a ∷ as') v =
    let x = both v (v.reach a.expr ++ of_some v.reach a.guard) (of_arms v.reach as') (inner.of_arm v.held a)
    (all_of (inner.of_arm v.held) as') in
    let r = arms_are as' v in omega arith

pub match_adds : (at : Pointer) {e : ExprSteps} {as' : Lowering (List MatchArm)} → Correct e (Adds free an_expr)
    → Correct as' (Adds free (each an_arm)) → Correct (match_form at e as') (Adds free an_expr)
unfolding match_form
match_adds at he h = adds_then he (λ e. adds_then (adds_beside (an_expr e) h) (λ as'. adds_expr (hir.Match e as') (Some at) (λ v.
    let x = both v (v.reach e) (of_arms v.reach as') (v.held.expr e) (all_of (inner.of_arm v.held) as') in
    let y = arms_are as' v in omega arith)))

pub arm_less : (p : PatId) (g : Option ExprId) (e : ExprId) (v : View)
    → an_arm (record { pat = p; guard = g; expr = e }) v ≤ (a_pat p v + an_expr e v) + maybe an_expr g v
arm_less p g e v =
    let x = times_append v.number (v.reach e) (of_some v.reach g) in
    let y = sum_append v.weight (v.held.pat p) (of_present v.held.expr g ++ v.held.expr e) in
    let z = sum_append v.weight (of_present v.held.expr g) (v.held.expr e) in
    let w = maybe_is g v in omega arith

pub arm_adds : {p : Lowering PatId} {e : ExprSteps} {g : Lowering (Option ExprId)} → Correct p (Adds free a_pat)
    → Correct e (Adds free an_expr) → Correct g (Adds free (maybe an_expr)) → Correct (arm_form p e g) (Adds free (maybe an_arm))
unfolding arm_form
arm_adds hp he hg = adds_then hp (λ p. adds_then (adds_beside (a_pat p) he)
    (λ e. adds_then (adds_beside (beside (a_pat p) (an_expr e)) hg) (λ g. adds_pure _ (arm_less p g e))))

pub let_less : (p : PatId) (t : Option TypeRefId) (i b : Option ExprId) (v : View)
    → a_statement (statement.Let p t i b) v ≤ ((a_pat p v + maybe_type t v) + maybe an_expr i v) + maybe an_expr b v
let_less p t i b v =
    let x = times_append v.number (of_some v.reach i) (of_some v.reach b) in
    let y = sum_append v.weight (v.held.pat p) (of_present v.held.type t ++ (of_present v.held.expr i ++ of_present v.held.expr b)) in
    let z = sum_append v.weight (of_present v.held.type t) (of_present v.held.expr i ++ of_present v.held.expr b) in
    let w = sum_append v.weight (of_present v.held.expr i) (of_present v.held.expr b) in
    let c = maybe_is i v in
    let d = maybe_is b v in omega arith

pub let_stmt_adds : {p : Lowering PatId} {t : Lowering (Option TypeRefId)} {i b : Lowering (Option ExprId)}
    → Correct p (Adds free a_pat) → Correct t (Adds free maybe_type) → Correct i (Adds free (maybe an_expr))
    → Correct b (Adds free (maybe an_expr)) → Correct (let_stmt_form p t i b) (Adds free (maybe a_statement))
unfolding let_stmt_form
let_stmt_adds hp ht hi hb = adds_then hp (λ p. adds_then (adds_beside (a_pat p) ht)
    (λ t. adds_then (adds_beside (beside (a_pat p) (maybe_type t)) hi)
    (λ i. adds_then (adds_beside (beside (beside (a_pat p) (maybe_type t)) (maybe an_expr i)) hb)
    (λ b. adds_pure _ (let_less p t i b)))))
