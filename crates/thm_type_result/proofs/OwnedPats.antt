-- What is answered for patterns, targets and what they stand in names what the parts name, and patterns that were stored, each once.
use Rattle.std.proofs.Common.{ℕ, Bool, true, false, List, [], ◌∷◌, ◌++◌, Option, Some, None, arith}
use Rattle.hir_base.specs.declared.op.RangeOp.{RangeOp}
use Rattle.hir_store.specs.Pointers.{Pointer}
use Rattle.hir_store.specs.declared.hir.Expr.TheVariants as hir
use Rattle.hir_store.specs.declared.hir.MatchArm.{MatchArm}
use Rattle.hir_store.specs.declared.hir.Statement.{Statement}
use Rattle.hir_store.specs.declared.hir.Statement.TheVariants as statement
use Rattle.hir_store.specs.declared.ids.BindingId.{BindingId}
use Rattle.hir_store.specs.declared.ids.ExprId.{ExprId}
use Rattle.hir_store.specs.declared.ids.HygieneId.{HygieneId}
use Rattle.hir_store.specs.declared.ids.LangItemId.{LangItemId}
use Rattle.hir_store.specs.declared.ids.PatId.{PatId}
use Rattle.hir_store.specs.declared.ids.TypeRefId.{TypeRefId}
use Rattle.hir_store.specs.declared.name.Name.{Name}
use Rattle.hir_store.specs.declared.name.Name.TheVariants as name
use Rattle.hir_store.specs.declared.pat.Pat.{Pat}
use Rattle.hir_store.specs.declared.pat.Pat.TheVariants as pat
use Rattle.hir_store.specs.declared.pat.RecordFieldPat.{RecordFieldPat}
use Rattle.hir_store.specs.declared.path.Path.{Path as HirPath}
use Rattle.hir_env.specs.ResolvedTree as tree
use Rattle.hir_env.specs.Targets.{origin, source_of}
use Rattle.hir_env.specs.ResolvedTree.{Called, Origin, PatLeaf, PatUnary, RangeForm, Signed, Use}
use Rattle.hir_lower_builder.specs.Forms.{ExprSteps, push_some, let_form, match_form, arm_form, assign_form, let_stmt_form}
use Rattle.hir_lower_builder.specs.Lowering.{Lowering, ◌>>=◌, pure, alloc_pat, point_target}
use Rattle.hir_lower_builder.specs.Pats as forms
use Rattle.hir_lower_builder.specs.Pats.{Table, Elements, PatSteps, missing_pat}
use Rattle.hir_lower_builder.specs.Ranges as ranges
use Rattle.hir_lower_builder.specs.Targets as targets
use Rattle.hir_lower_builder.specs.Targets.{alloc_target, missing_target}
use Rattle.thm_logic.proofs.Calls.{only_emitted}
use Rattle.thm_type_result.specs.Reached.{of_each, of_present}
use Rattle.thm_type_result.specs.Named.{Look, of_arm, of_expr, of_pat, of_pat_field, of_statement}
use Rattle.thm_type_result.proofs.Counted.{◌⊑◌, times_append}
use Rattle.thm_type_result.proofs.Numbers.{each_push}
use Rattle.thm_type_result.proofs.Adding.{Numbers, none}
use Rattle.thm_type_result.proofs.Asked.{adds_refused, Correct, Adds, Quiet, adds_pure, adds_then, adds_beside, adds_quiet, adds_from}
use Rattle.thm_type_result.proofs.Asked.{adds_expr}
use Rattle.thm_type_result.proofs.Asked.{adds_made_pat, adds_pat, adds_done, keeps_table, Steps}
use Rattle.thm_type_result.proofs.Naming.{quiet_pure, quiet_then, quiet_alloc, quiet_report, quiet_point_pat_field, quiet_define}
use Rattle.thm_type_result.proofs.Naming.{called_names, ids, name_adds, quiet_only, quiet_point_pat, quiet_point_target}
use Rattle.thm_type_result.proofs.Owned.{a_pat, maybe_path, maybe_type, beside}

-- what each kind of answer names

abbrev pub maybe_pat : Option PatId → Numbers
maybe_pat o l = of_present l.pats o

abbrev pub pats : List PatId → Numbers
pats is l = of_each l.pats is

abbrev pub maybe_field : Option RecordFieldPat → Numbers
maybe_field o l = of_present (of_pat_field l) o

abbrev pub fields : List RecordFieldPat → Numbers
fields fs l = of_each (of_pat_field l) fs

abbrev pub elements : Elements → Numbers
elements es l = of_each l.pats es.0

abbrev pub maybe_arm : Option MatchArm → Numbers
maybe_arm o l = of_present (of_arm l) o

abbrev pub arms : List MatchArm → Numbers
arms as' l = of_each (of_arm l) as'

abbrev pub maybe_statement : Option Statement → Numbers
maybe_statement o l = of_present (of_statement l) o

abbrev pub statements : List Statement → Numbers
statements ss l = of_each (of_statement l) ss

-- what is answered beside a table
abbrev pub first : {A : Type 0} → (A → Numbers) → A × Table → Numbers
first now r l = now r.0 l

-- steps that hand a table on
abbrev pub Each : {A : Type 0} → Numbers → (A → Numbers) → (Table → Lowering (A × Table)) → Type 0
Each was now p = (t : Table) → Correct (p t) (Steps (ids t) was (λ r. ids r.1) (first now))

missing_adds : {was : Numbers} → Correct missing_pat (Adds was a_pat)
unfolding missing_pat
missing_adds = adds_pat pat.Missing None (λ l k. omega arith)

pub missing_named : Correct missing_pat (Adds none a_pat)
missing_named = missing_adds

pub alone_adds : {was : Numbers} {p : Lowering PatId} → Correct p (Adds was a_pat) → Each was a_pat (forms.alone p)
alone_adds h t = adds_then (keeps_table h) (λ i. adds_done (i, t) (λ l k. omega arith) (λ P x. x))

-- what a call stands for
pub called_adds : (at : Pointer) (c : Called) {p : PatSteps} → Each none a_pat p
    → Each none a_pat (λ t. forms.called_pat_form at c (λ r. r.0) (p t))
unfolding forms.called_pat_form
called_adds at c h t = adds_then (keeps_table (quiet_only (only_emitted c))) (λ u. adds_then (h t)
    (λ r. adds_then (keeps_table (adds_quiet (quiet_point_pat at r.0))) (λ v. adds_done r (λ l k. omega arith) (λ P x. x))))

pub uncalled_pat_names : (at : Pointer) (c : Called) → Correct (forms.uncalled_pat at c) (Adds none a_pat)
uncalled_pat_names at tree.callless = missing_named
uncalled_pat_names at c = called_names at c (λ i. i) missing_named

pub barred_pat_names : (at : Pointer) → Correct (forms.barred_pat_form at) (Adds none a_pat)
barred_pat_names at = adds_then (quiet_report _) (λ u. missing_named)

pub leaf_pat_adds : (at : Pointer) (form : PatLeaf) → Correct (alloc_pat (forms.stored_pat_leaf form) (Some at)) (Adds none a_pat)
leaf_pat_adds at tree.wild_leaf = adds_pat _ (Some at) (λ l k. omega arith)
leaf_pat_adds at tree.rest_leaf = adds_pat _ (Some at) (λ l k. omega arith)
leaf_pat_adds at tree.not_null_leaf = adds_pat _ (Some at) (λ l k. omega arith)
leaf_pat_adds at tree.broken_leaf = adds_pat _ (Some at) (λ l k. omega arith)

-- parts of a tuple

-- one more
pub pushed : (is : List PatId) (i : PatId) (l : Look) → pats (is ++ i ∷ []) l ⊑ pats is l ++ a_pat i l
pushed is i l k = let e = each_push l.pats is i k in let s = times_append k (of_each l.pats is) (l.pats i) in omega arith

pub element_adds : (dots : Bool) (done : Elements) {p : PatSteps} → Each none a_pat p
    → Each (elements done) elements (forms.element_form dots done p)
element_adds true done h t = adds_done _ (λ l k. omega arith) (λ P x. x)
element_adds false done h t = adds_then (adds_beside (elements done) (h t)) (λ r. adds_done _ (λ l. pushed done.0 r.0 l) (λ P x. x))

place_quiet : (place : Option ℕ) → Correct (forms.counted_place place) Quiet
place_quiet None = adds_refused
place_quiet (Some n) = quiet_pure (Some n)

dots_quiet : (comma : Bool) (place : Option ℕ) → Correct (forms.counted_dots comma place) Quiet
dots_quiet comma None = quiet_pure None
dots_quiet comma (Some n) = place_quiet (forms.small_place comma n)

-- beside what else is named
front_adds : (more : Numbers) (comma : Bool) (ids : List PatId)
    → Correct (forms.with_first_missing comma ids) (Adds (beside more (pats ids)) (λ is. beside more (pats is)))
front_adds more false ids = adds_pure ids (λ l k. omega arith)
front_adds more true ids = adds_then (adds_beside (beside more (pats ids)) missing_named) (λ i. adds_pure (i ∷ ids) (λ l k.
    let x = times_append k (more l) (l.pats i ++ of_each l.pats ids) in
    let y = times_append k (l.pats i) (of_each l.pats ids) in
    let z = times_append k (more l ++ of_each l.pats ids) (l.pats i) in
    let w = times_append k (more l) (of_each l.pats ids) in omega arith))

pub elements_add : (more : Numbers) (comma : Bool) (es : Elements)
    → Correct (forms.elements_form comma es) (Adds (beside more (elements es)) (λ r. beside more (pats r.1)))
unfolding forms.elements_form
elements_add more comma es = adds_then (adds_quiet (dots_quiet comma es.1))
    (λ place. adds_then (front_adds more comma es.0) (λ ids. adds_pure (place, ids) (λ l k. omega arith)))

-- records

named_part_adds : (at : Pointer) (n : Option Name) (i : PatId) → Correct (forms.named_part at n i) (Adds (a_pat i) maybe_field)
named_part_adds at None i = adds_pure None (λ l k. omega arith)
named_part_adds at (Some n) i = adds_then (adds_quiet (quiet_point_pat_field i at)) (λ u. adds_pure _ (λ l k. omega arith))

pub pat_field_adds : (at : Pointer) (n : Option Name) {p : PatSteps} → Each none a_pat p
    → Each none maybe_field (forms.pat_field_form at n p)
unfolding forms.pat_field_form
pat_field_adds at n h t = adds_then (h t) (λ r. adds_then (keeps_table (named_part_adds at n r.0))
    (λ f. adds_done (f, r.1) (λ l k. omega arith) (λ P x. x)))

-- one more, where there is one
pub field_pushed : (fs : List RecordFieldPat) (o : Option RecordFieldPat) (l : Look)
    → fields (push_some fs o) l ⊑ fields fs l ++ maybe_field o l
field_pushed fs None l k = let s = times_append k (fields fs l) [] in omega arith
field_pushed fs (Some f) l k =
    let e = each_push (of_pat_field l) fs f k in
    let s = times_append k (fields fs l) (of_pat_field l f) in omega arith

-- forms of patterns

unary_pat : (form : PatUnary) (i : PatId) (l : Look) → of_pat l (forms.stored_pat_unary form i) ⊑ a_pat i l
unary_pat (tree.ref_to mutability) i l k = omega arith
unary_pat tree.box_of i l k = omega arith
unary_pat tree.deref_of i l k = omega arith

path_pat : (o : Option HirPath) (l : Look) → of_pat l (forms.path_pat_of o) ⊑ maybe_path o l
path_pat None l k = omega arith
path_pat (Some p) l k = omega arith

bind_named : (b : BindingId) (o : Option PatId) (l : Look) → of_pat l (pat.Bind b o) ⊑ maybe_pat o l ++ l.bindings b
bind_named b o l k =
    let x = times_append k (l.bindings b) (of_present l.pats o) in
    let y = times_append k (of_present l.pats o) (l.bindings b) in omega arith

range_pat : (op : Option RangeOp) (s e : Option ExprId) (l : Look) → of_pat l (forms.stored_range op s e) ⊑ []
range_pat None s e l k = omega arith
range_pat (Some op) s e l k = omega arith

module _ (at : Pointer) where
  or_of_adds : (is : List PatId) → Correct (forms.or_of at is) (Adds (pats is) a_pat)
  or_of_adds [] = adds_pat _ (Some at) (λ l k. omega arith)
  or_of_adds (i ∷ []) = adds_pure i (λ l k. let s = times_append k (l.pats i) [] in omega arith)
  or_of_adds (i ∷ (j ∷ is)) = adds_pat _ (Some at) (λ l k. omega arith)

  path_side_of_adds : (o : Option HirPath) → Correct (forms.path_side_of at o) (Adds (maybe_path o) (λ s. none))
  path_side_of_adds None = adds_pure None (λ l k. omega arith)
  path_side_of_adds (Some p) = adds_then (adds_expr (hir.Path p _) (Some at) (λ l k. omega arith)) (λ e. quiet_pure (Some e))

  pub path_pat_adds : {q : Lowering (Option HirPath)} → Correct q (Adds none maybe_path)
      → Correct (forms.path_pat_form at q) (Adds none a_pat)
  unfolding forms.path_pat_form
  path_pat_adds h = adds_then h (λ o. adds_pat _ (Some at) (path_pat o))

  pub bind_adds : (u : Use) {s : Table → Lowering (Option PatId × Table)} → Each none maybe_pat s
      → Each none a_pat (forms.bind_form at u s)
  unfolding forms.bind_form
  bind_adds u h t = adds_then (h t) (λ s. adds_then (adds_beside (maybe_pat s.0) (name_adds u s.1))
      (λ b. adds_then (keeps_table (adds_pat (pat.Bind b.0 s.0) (Some at) (bind_named b.0 s.0)))
      (λ i. adds_then (keeps_table (adds_quiet (quiet_define b.0 i))) (λ v. adds_done (i, b.1) (λ l k. omega arith) (λ P x. x)))))

  pub over_pat_adds : (form : PatUnary) {p : PatSteps} → Each none a_pat p → Each none a_pat (forms.over_pat_form at form p)
  unfolding forms.over_pat_form
  over_pat_adds form h t = adds_then (h t) (λ r. adds_then (keeps_table (adds_pat _ (Some at) (unary_pat form r.0)))
      (λ i. adds_done (i, r.1) (λ l k. omega arith) (λ P x. x)))

  pub tuple_pat_adds : (comma : Bool) {p : Table → Lowering (Elements × Table)} → Each none elements p
      → Each none a_pat (forms.tuple_pat_form at comma p)
  unfolding forms.tuple_pat_form
  tuple_pat_adds comma h t = adds_then (h t) (λ r. adds_then (keeps_table (elements_add none comma r.0))
      (λ es. adds_then (keeps_table (adds_pat (pat.Tuple es.0 es.1) (Some at) (λ l k. omega arith)))
      (λ i. adds_done (i, r.1) (λ l k. omega arith) (λ P x. x))))

  tuple_struct_of_adds : (comma : Bool) {p : Table → Lowering (Elements × Table)} → Each none elements p → (o : Option HirPath)
      → Each (maybe_path o) a_pat (forms.tuple_struct_of at comma p o)
  tuple_struct_of_adds comma h None t = alone_adds missing_adds t
  tuple_struct_of_adds comma h (Some o) t = adds_then (adds_beside (maybe_path (Some o)) (h t))
      (λ r. adds_then (keeps_table (elements_add (maybe_path (Some o)) comma r.0))
      (λ es. adds_then (keeps_table (adds_pat (pat.TupleStruct o es.0 es.1) (Some at) (λ l k. omega arith)))
      (λ i. adds_done (i, r.1) (λ l k. omega arith) (λ P x. x))))

  pub tuple_struct_adds : (comma : Bool) {p : Table → Lowering (Elements × Table)} {q : Lowering (Option HirPath)}
      → Each none elements p → Correct q (Adds none maybe_path) → Each none a_pat (forms.tuple_struct_form at comma p q)
  unfolding forms.tuple_struct_form
  tuple_struct_adds comma h hq t = adds_then (keeps_table hq) (λ o. tuple_struct_of_adds comma h o t)

  record_pat_of_adds : (dots : Bool) {fs : Table → Lowering (List RecordFieldPat × Table)} → Each none fields fs
      → (o : Option HirPath) → Each (maybe_path o) a_pat (forms.record_pat_of at dots fs o)
  record_pat_of_adds dots h None t = alone_adds missing_adds t
  record_pat_of_adds dots h (Some o) t = adds_then (adds_beside (maybe_path (Some o)) (h t))
      (λ r. adds_then (keeps_table (adds_pat (pat.Record o r.0 dots) (Some at) (λ l k. omega arith)))
      (λ i. adds_done (i, r.1) (λ l k. omega arith) (λ P x. x)))

  pub record_pat_adds : (dots : Bool) {fs : Table → Lowering (List RecordFieldPat × Table)} {q : Lowering (Option HirPath)}
      → Each none fields fs → Correct q (Adds none maybe_path) → Each none a_pat (forms.record_pat_form at dots fs q)
  unfolding forms.record_pat_form
  record_pat_adds dots h hq t = adds_then (keeps_table hq) (λ o. record_pat_of_adds dots h o t)

  slice_named : (b : List PatId) (m : Option PatId) (a : List PatId) (l : Look)
      → of_pat l (pat.Slice b m a) ⊑ (pats b l ++ maybe_pat m l) ++ pats a l
  slice_named b m a l k =
      let x = times_append k (of_each l.pats b) (of_present l.pats m ++ of_each l.pats a) in
      let y = times_append k (of_present l.pats m) (of_each l.pats a) in
      let z = times_append k (of_each l.pats b ++ of_present l.pats m) (of_each l.pats a) in
      let w = times_append k (of_each l.pats b) (of_present l.pats m) in omega arith

  pub slice_pat_adds : {b a : Table → Lowering (List PatId × Table)} {m : Table → Lowering (Option PatId × Table)}
      → Each none pats b → Each none maybe_pat m → Each none pats a → Each none a_pat (forms.slice_pat_form at b m a)
  unfolding forms.slice_pat_form
  slice_pat_adds hb hm ha t = adds_then (hb t) (λ b. adds_then (adds_beside (pats b.0) (hm b.1))
      (λ m. adds_then (adds_beside (beside (pats b.0) (maybe_pat m.0)) (ha m.1))
      (λ a. adds_then (keeps_table (adds_pat (pat.Slice b.0 m.0 a.0) (Some at) (slice_named b.0 m.0 a.0)))
      (λ i. adds_done (i, a.1) (λ l k. omega arith) (λ P x. x)))))

  pub or_adds : {p : PatSteps} {later : List PatId → Table → Lowering (List PatId × Table)} → Each none a_pat p
      → ((done : List PatId) → Each (pats done) pats (later done)) → Each none a_pat (forms.or_form at p later)
  unfolding forms.or_form
  or_adds h hs t = adds_then (h (forms.enter_or t)) (λ r. adds_then
      (adds_from (λ l k. let s = times_append k (l.pats r.0) [] in omega arith) (hs (r.0 ∷ []) r.1))
      (λ rs. adds_then (keeps_table (or_of_adds rs.0)) (λ i. adds_done (i, forms.leave_or rs.1) (λ l k. omega arith) (λ P x. x))))

  pub literal_pat_adds : (own : Option Pointer) (s : Signed) → Correct (forms.literal_pat_form at own s) (Adds none a_pat)
  unfolding forms.literal_pat_form
  literal_pat_adds own s = adds_then (quiet_alloc _ _ (λ l k. omega arith)) (λ e. adds_pat (pat.Lit e) (Some at) (λ l k. omega arith))

  pub literal_side_quiet : (s : Signed) → Correct (forms.literal_side_form at s) Quiet
  unfolding forms.literal_side_form
  literal_side_quiet s = quiet_then (quiet_alloc _ (Some at) (λ l k. omega arith)) (λ e. quiet_pure (Some e))

  text_side_quiet : (n : Name) → Correct (forms.path_side_of at (Some (forms.name_path n))) Quiet
  text_side_quiet n = adds_then (adds_expr (hir.Path (forms.name_path n) _) (Some at) (λ l k. omega arith)) (λ e. quiet_pure (Some e))

  pub name_side_quiet : (n : Name) → Correct (forms.name_side_of at n) Quiet
  name_side_quiet name.Missing = quiet_pure None
  name_side_quiet n = text_side_quiet n

  pub path_side_quiet : {q : Lowering (Option HirPath)} → Correct q (Adds none maybe_path) → Correct (forms.path_side_form at q) Quiet
  unfolding forms.path_side_form
  path_side_quiet h = adds_then h (λ p. path_side_of_adds p)

  pub range_pat_adds : (op : Option RangeOp) {s e : Lowering (Option ExprId)} → Correct s Quiet → Correct e Quiet
      → Correct (forms.range_pat_form at op s e) (Adds none a_pat)
  unfolding forms.range_pat_form
  range_pat_adds op hs he = adds_then hs (λ s. adds_then he (λ e. adds_pat _ (Some at) (range_pat op s e)))

  -- ranges, and patterns of types

  pub literal_limit_quiet : (s : Signed) → Correct (ranges.literal_limit_form at s) Quiet
  unfolding ranges.literal_limit_form
  literal_limit_quiet s = quiet_alloc _ (Some at) (λ l k. omega arith)

  pub name_limit_quiet : (n : Name) → Correct (ranges.name_limit_form at n) Quiet
  unfolding ranges.name_limit_form
  name_limit_quiet n = quiet_alloc _ (Some at) (λ l k. omega arith)

  path_limit_named : (o : Option HirPath) (l : Look) → of_expr l (ranges.path_limit_of o) ⊑ maybe_path o l
  path_limit_named None l k = omega arith
  path_limit_named (Some p) l k = omega arith

  pub path_limit_quiet : {q : Lowering (Option HirPath)} → Correct q (Adds none maybe_path) → Correct (ranges.path_limit_form at q) Quiet
  unfolding ranges.path_limit_form
  path_limit_quiet h = adds_then h (λ o. adds_expr _ (Some at) (path_limit_named o))

  pub limits_adds : {s e : ExprSteps} → Correct s Quiet → Correct e Quiet → Correct (ranges.limits_form at s e) (Adds none a_pat)
  unfolding ranges.limits_form
  limits_adds hs he = adds_then hs (λ s. adds_then he (λ e. adds_pat _ (Some at) (λ l k. omega arith)))

  pub type_alternatives_adds : {ps : Lowering (List PatId)} → Correct ps (Adds none pats)
      → Correct (ranges.type_alternatives_form at ps) (Adds none a_pat)
  unfolding ranges.type_alternatives_form
  type_alternatives_adds h = adds_then h (λ ps. adds_pat (pat.Or ps) (Some at) (λ l k. omega arith))

  -- expressions that patterns stand in

  pub let_quiet : {p : Lowering PatId} {e : ExprSteps} → Correct p (Adds none a_pat) → Correct e Quiet → Correct (let_form at p e) Quiet
  unfolding let_form
  let_quiet hp he = adds_then hp (λ p. adds_then (adds_quiet he) (λ e. adds_expr (hir.Let p e) (Some at) (λ l k. omega arith)))

  pub match_quiet : {e : ExprSteps} {as' : Lowering (List MatchArm)} → Correct e Quiet → Correct as' (Adds none arms)
      → Correct (match_form at e as') Quiet
  unfolding match_form
  match_quiet he h = adds_then he (λ e. adds_then h (λ as'. adds_expr (hir.Match e as') (Some at) (λ l k. omega arith)))

  pub assign_quiet : {t : Lowering PatId} {v : ExprSteps} → Correct t (Adds none a_pat) → Correct v Quiet
      → Correct (assign_form at t v) Quiet
  unfolding assign_form
  assign_quiet ht hv = adds_then ht (λ t. adds_then (adds_quiet hv)
      (λ v. adds_expr (hir.Assignment t v) (Some at) (λ l k. omega arith)))

-- targets

-- a node that is assigned to leads to the pattern
pub pointed_adds : (at : Pointer) {was : Numbers} {p : Lowering PatId} → Correct p (Adds was a_pat)
    → Correct (p >>= (λ i. point_target at i >>= (λ u. pure i))) (Adds was a_pat)
pointed_adds at h = adds_then h (λ i. adds_then (adds_quiet (quiet_point_target at i)) (λ u. adds_pure i (λ l k. omega arith)))

pub adds_target : {was : Numbers} (p : Pat) (at : Origin) → ((l : Look) → of_pat l p ⊑ was l)
    → Correct (alloc_target p at) (Adds was a_pat)
unfolding alloc_target
adds_target p at h = pointed_adds at.node (adds_made_pat p (Some (source_of at)) h)

pub missing_target_adds : {was : Numbers} (call : Option Pointer) → Correct (missing_target call) (Adds was a_pat)
missing_target_adds call = adds_made_pat pat.Missing call (λ l k. omega arith)

pub place_adds : (at : Pointer) {e : ExprSteps} → Correct e Quiet → Correct (targets.place_form at e) (Adds none a_pat)
unfolding targets.place_form
place_adds at h = adds_then h (λ e. adds_made_pat (pat.Expr e) (Some at) (λ l k. omega arith))

pub target_field_adds : (at : Pointer) (n : Option Name) {p : Lowering PatId} → Correct p (Adds none a_pat)
    → Correct (targets.target_field_form at n p) (Adds none maybe_field)
unfolding targets.target_field_form
target_field_adds at n h = adds_then h (λ i. named_part_adds at n i)

module _ (at : Origin) where
  path_target_named : (h : HygieneId) (o : Option HirPath) (l : Look) → of_pat l (targets.path_target_of h o) ⊑ maybe_path o l
  path_target_named h None l k = omega arith
  path_target_named h (Some p) l k = omega arith

  pub path_target_adds : (h : HygieneId) {q : Lowering (Option HirPath)} → Correct q (Adds none maybe_path)
      → Correct (targets.path_target_form at h q) (Adds none a_pat)
  unfolding targets.path_target_form
  path_target_adds h hq = adds_then hq (λ o. adds_target _ at (path_target_named h o))

  pub tuple_target_adds : {p : Lowering Elements} → Correct p (Adds none elements)
      → Correct (targets.tuple_target_form at p) (Adds none a_pat)
  unfolding targets.tuple_target_form
  tuple_target_adds h = adds_then h (λ r. adds_then (elements_add none false r)
      (λ es. adds_target (pat.Tuple es.0 es.1) at (λ l k. omega arith)))

  call_target_of_adds : {p : Lowering Elements} → Correct p (Adds none elements) → (o : Option HirPath)
      → Correct (targets.call_target_of at p o) (Adds (maybe_path o) a_pat)
  call_target_of_adds h None = missing_target_adds at.call
  call_target_of_adds h (Some o) = adds_then (adds_beside (maybe_path (Some o)) h)
      (λ r. adds_then (elements_add (maybe_path (Some o)) false r)
      (λ es. adds_target (pat.TupleStruct o es.0 es.1) at (λ l k. omega arith)))

  pub call_target_adds : {p : Lowering Elements} {q : Lowering (Option HirPath)} → Correct p (Adds none elements)
      → Correct q (Adds none maybe_path) → Correct (targets.call_target_form at p q) (Adds none a_pat)
  unfolding targets.call_target_form
  call_target_adds h hq = adds_then hq (λ o. call_target_of_adds h o)

  rest_adds : (dots : Option Pointer) → Correct (targets.rest_target dots) (Adds none maybe_pat)
  rest_adds None = adds_pure None (λ l k. omega arith)
  rest_adds (Some p) = adds_then (adds_target pat.Rest (origin None p) (λ l k. omega arith)) (λ i. adds_pure (Some i) (λ l k. omega arith))

  array_named : (b : List PatId) (m : Option PatId) (a : List PatId) (l : Look)
      → of_pat l (pat.Slice b m a) ⊑ (pats b l ++ pats a l) ++ maybe_pat m l
  array_named b m a l k =
      let x = times_append k (of_each l.pats b) (of_present l.pats m ++ of_each l.pats a) in
      let y = times_append k (of_present l.pats m) (of_each l.pats a) in
      let z = times_append k (of_each l.pats b ++ of_each l.pats a) (of_present l.pats m) in
      let w = times_append k (of_each l.pats b) (of_each l.pats a) in omega arith

  pub array_target_adds : (dots : Option Pointer) {b a : Lowering Elements} → Correct b (Adds none elements)
      → Correct a (Adds none elements) → Correct (targets.array_target_form at dots b a) (Adds none a_pat)
  unfolding targets.array_target_form
  array_target_adds dots hb ha = adds_then hb (λ b. adds_then (adds_beside (elements b) ha)
      (λ a. adds_then (adds_beside (beside (elements b) (elements a)) (rest_adds dots))
      (λ m. adds_target (pat.Slice b.0 m a.0) at (array_named b.0 m a.0))))

  spread_quiet : (spread : Option Pointer) → Correct (targets.report_spread spread) Quiet
  spread_quiet None = quiet_pure tt
  spread_quiet (Some p) = quiet_report _

  record_target_of_adds : (dots : Bool) (spread : Option Pointer) {fs : Lowering (List RecordFieldPat)} → Correct fs (Adds none fields)
      → (o : Option HirPath) → Correct (targets.record_target_of at dots spread fs o) (Adds (maybe_path o) a_pat)
  record_target_of_adds dots spread h None = missing_target_adds at.call
  record_target_of_adds dots spread h (Some o) = adds_then (adds_quiet (spread_quiet spread))
      (λ u. adds_then (adds_beside (maybe_path (Some o)) h) (λ fs. adds_target (pat.Record o fs dots) at (λ l k. omega arith)))

  pub record_target_adds : (dots : Bool) (spread : Option Pointer) {fs : Lowering (List RecordFieldPat)}
      {q : Lowering (Option HirPath)} → Correct fs (Adds none fields) → Correct q (Adds none maybe_path)
      → Correct (targets.record_target_form at dots spread fs q) (Adds none a_pat)
  unfolding targets.record_target_form
  record_target_adds dots spread h hq = adds_then hq (λ o. record_target_of_adds dots spread h o)

-- lang items

item_named : (item : Option LangItemId) (l : Look) → of_expr l (ranges.item_expr item) ⊑ []
item_named None l k = omega arith
item_named (Some i) l k = omega arith

made_range_quiet : (at : Pointer) (form : RangeForm) (s e : Option ExprId) → Correct (ranges.made_range at form s e) Quiet
made_range_quiet at (tree.record_range i last) s e = quiet_alloc _ (Some at) (λ l k. omega arith)
made_range_quiet at (tree.call_range i) s e =
    quiet_then (quiet_alloc _ None (item_named i)) (λ f. quiet_alloc _ (Some at) (λ l k. omega arith))
made_range_quiet at tree.itemless_range s e = quiet_alloc _ (Some at) (λ l k. omega arith)

pub range_quiet : (at : Pointer) (form : RangeForm) {s e : Lowering (Option ExprId)} → Correct s Quiet → Correct e Quiet
    → Correct (ranges.range_form at form s e) Quiet
unfolding ranges.range_form
range_quiet at form hs he = quiet_then hs (λ s. quiet_then he (λ e. made_range_quiet at form s e))

pub item_quiet : (item : Option LangItemId) → Correct (ranges.item_form item) Quiet
unfolding ranges.item_form
item_quiet item = quiet_alloc _ None (item_named item)

pub before_quiet : (item : Option LangItemId) {e : ExprSteps} → Correct e Quiet → Correct (ranges.before_form item e) Quiet
unfolding ranges.before_form
before_quiet item h = quiet_then h (λ e. quiet_then (quiet_alloc _ None (item_named item))
    (λ f. quiet_alloc _ None (λ l k. omega arith)))

-- arms and statements

pub arm_adds : {p : Lowering PatId} {e : ExprSteps} {g : Lowering (Option ExprId)} → Correct p (Adds none a_pat) → Correct e Quiet
    → Correct g Quiet → Correct (arm_form p e g) (Adds none maybe_arm)
unfolding arm_form
arm_adds hp he hg = adds_then hp (λ p. adds_then (adds_quiet he) (λ e. adds_then (adds_quiet hg)
    (λ g. adds_pure (Some (record { pat = p; guard = g; expr = e })) (λ l k. omega arith))))

pub let_stmt_adds : {p : Lowering PatId} {t : Lowering (Option TypeRefId)} {i b : Lowering (Option ExprId)} → Correct p (Adds none a_pat)
    → Correct t (Adds none maybe_type) → Correct i Quiet → Correct b Quiet → Correct (let_stmt_form p t i b) (Adds none maybe_statement)
unfolding let_stmt_form
let_stmt_adds hp ht hi hb = adds_then hp (λ p. adds_then (adds_beside (a_pat p) ht) (λ t. adds_then (adds_quiet hi)
    (λ i. adds_then (adds_quiet hb) (λ b. adds_pure (Some (statement.Let p t i b)) (λ l k. omega arith)))))
