-- What forms with patterns become holds what their parts hold: targets, `let`, `match` and ranges.
use Rattle.std.proofs.Common.{◌≡◌, ◌∙◌, refl, ap, Bool, false, List, [], ◌++◌, append-nil, ℕ, ◌+◌, arith}
use Rattle.std.proofs.Common.{◌≤◌, Option, Some, None}
use Rattle.hir_store.specs.Pointers.{Pointer}
use Rattle.hir_store.specs.declared.hir.Expr.TheVariants as hir
use Rattle.hir_store.specs.declared.hir.MatchArm.{MatchArm}
use Rattle.hir_store.specs.declared.hir.RecordSpread.TheVariants as spread
use Rattle.hir_store.specs.declared.hir.Statement.TheVariants as statement
use Rattle.hir_store.specs.declared.ids.ExprId.{ExprId}
use Rattle.hir_store.specs.declared.ids.HygieneId.{HygieneId}
use Rattle.hir_store.specs.declared.ids.LangItemId.{LangItemId}
use Rattle.hir_store.specs.declared.ids.PatId.{PatId}
use Rattle.hir_store.specs.declared.ids.TypeRefId.{TypeRefId}
use Rattle.hir_store.specs.declared.name.Name.{Name}
use Rattle.hir_store.specs.declared.pat.Pat.{Pat as HirPat}
use Rattle.hir_store.specs.declared.pat.Pat.TheVariants as pat
use Rattle.hir_store.specs.declared.pat.RecordFieldPat.{RecordFieldPat}
use Rattle.hir_store.specs.declared.path.Path.{Path as HirPath}
use Rattle.hir_store.specs.declared.path.Path.TheVariants.{LangItem}
use Rattle.hir_env.specs.ResolvedTree as tree
use Rattle.hir_env.specs.ResolvedTree.{Called, Origin, RangeForm}
use Rattle.hir_env.specs.Targets.{origin}
use Rattle.spec_data.specs.Rule.{PathRead}
use Rattle.hir_lower_builder.specs.Forms.{ExprSteps, let_form, match_form, arm_form, assign_form, let_stmt_form}
use Rattle.hir_lower_builder.specs.Lowering.{Lowering, ◌>>=◌, pure}
use Rattle.hir_lower_builder.specs.Pats.{Table, Elements, elements_form, settle, no_names}
use Rattle.hir_lower_builder.specs.Ranges.{item_expr, range_fields, end_operand, made_range, range_form}
use Rattle.hir_lower_builder.specs.Targets as forms
use Rattle.hir_lower_builder.specs.Targets.{alloc_target}
use Rattle.spec_semantics.specs.Inner.{Bodies, Inners, all_of, of_present, of_path, of_pat, of_pat_field, of_arm, of_statement}
use Rattle.spec_semantics.specs.Inner.{Inside, of_expr, of_field, if_read, if_made}
use Rattle.thm_round_trip.proofs.Going.{PathIs}
use Rattle.thm_logic.proofs.Calls.{correct_point_target, correct_emitted}
use Rattle.thm_logic.proofs.PatAny.{settle_any}
use Rattle.thm_logic.proofs.PatSteps.{correct_alloc_desugared_pat, correct_point_pat_field}
use Rattle.thm_logic.proofs.Steps.{Rel, Correct, correct_bind, correct_as, correct_pure, correct_alloc}
use Rattle.thm_logic.proofs.TargetSteps.{correct_alloc_target}
use Rattle.thm_semantics.proofs.HeldPats.{Added, added_all, behind_path, WithPath, named}
use Rattle.thm_semantics.proofs.HeldTypes.{a_path}
use Rattle.thm_semantics.proofs.Holding.{SameIn, inners_in, same_append, same_ids, an_expr, a_type, a_pat, each, maybe, Holds}
use Rattle.thm_semantics.proofs.Holding.{holds_one, holds_before, holds_behind, expr_held, expr0, expr2, pat_held}
use Rattle.thm_semantics.proofs.TargetPlaces.{parts_of, spread_any}

-- a whole pattern

-- its bindings get their problems, and nothing else
pub top_held : {es : Bodies} (p : Table → Lowering (PatId × Table)) → Correct (p no_names) (Holds (named a_pat) es)
    → Correct (p no_names >>= (λ r. settle r.1 >>= (λ u. pure r.0))) (Holds a_pat es)
top_held p h = correct_as (correct_bind h (λ r. correct_bind (settle_any r.1) (λ u. correct_pure r.0)))
    (λ final ps m m' i g row. let s = row.second in rw (s.second.is, s.second.still) (record {
      same = λ d le. row.first.same d (omega (le, s.before.nodes, s.before.entries, arith));
    }))

-- the assignee expression

-- the parts so far
abbrev pub parts : Elements → List PatId
parts r = r.0

list_held : {es : Bodies} {p : Lowering Elements} (at : Origin) (con : Option ℕ → List PatId → HirPat)
    → Correct p (Added a_pat parts [] es)
    → Correct (p >>= (λ r. elements_form false r >>= (λ k. alloc_target (con k.0 k.1) at)))
    (λ final ps m m' i. (fs : Bodies) → ((d : ℕ) → m.nodes + m.entries ≤ d → (n : Option ℕ) (is : List PatId)
    → SameIn final (all_of (inners_in final d).pat is) es → SameIn final (of_pat (inners_in final d) (con n is)) fs)
    → Holds a_pat fs final ps m m' i)
list_held {es = es} at con h = correct_as (correct_bind h (λ r. correct_bind (parts_of r) (λ k. correct_alloc_target (con k.0 k.1) at)))
    (λ final ps m m' i g row fs make. let e = row.first in let s = row.second in
    pat_held {ps = ps} {n = m} s.second (λ d le. make d
    (omega (le, row.before.nodes, row.before.entries, s.before.nodes, s.before.entries, arith)) s.one.0 s.one.1
    (same_ids final es (ap (all_of (inners_in final d).pat) (s.first ∙ e.is))
    (e.rel.same d (omega (le, s.before.nodes, s.before.entries, arith))))))

target_path_is : (h : HygieneId) (r : Inners) (p : Option HirPath) → of_pat r (forms.path_target_of h p) ≡ a_path r p
target_path_is h r None = refl
target_path_is h r (Some p) = refl

pub missing_target_held : (call : Option Pointer) → Correct (forms.missing_target call) (Holds a_pat [])
missing_target_held call = correct_as (correct_alloc_desugared_pat pat.Missing call) (λ final ps m m' i g at. pat_held at (λ d le. tt))

pub place_held : (at : Pointer) {es : Bodies} {p : ExprSteps} → Correct p (Holds an_expr es)
    → Correct (forms.place_form at p) (Holds a_pat es)
unfolding forms.place_form
place_held at h = correct_as (correct_bind h (λ e. correct_alloc_desugared_pat (pat.Expr e) (Some at)))
    (λ final ps m m' i g row. pat_held row.second (λ d le. row.first.same d le))

pub called_target_held : (at : Option Pointer) (c : Called) {p : Lowering PatId} {es : Bodies} → Correct p (Holds a_pat es)
    → Correct (forms.called_target at c p) (Holds a_pat es)
called_target_held None c h = holds_behind (correct_emitted c) (λ u. h)
called_target_held (Some at) c h = holds_behind (correct_emitted c) (λ u. holds_before h (λ i. correct_point_target at i))

target0 : (p : HirPat) (at : Origin) → ((r : Inners) → of_pat r p ≡ []) → Correct (alloc_target p at) (Holds a_pat [])
target0 p at e = correct_as (correct_alloc_target p at)
    (λ final ps m m' i g at. pat_held at (λ d le. same_ids final [] (e (inners_in final d)) tt))

pub wild_target_held : (at : Origin) → Correct (alloc_target pat.Wild at) (Holds a_pat [])
wild_target_held at = target0 pat.Wild at (λ r. refl)

rest_held : (dots : Option Pointer) → Correct (forms.rest_target dots) (Holds (maybe a_pat) [])
rest_held None = correct_as (correct_pure None) (λ final ps m m' o g row. rw row.is (record { same = λ d le. tt }))
rest_held (Some p) = holds_one Some (λ r i. refl) (target0 pat.Rest (origin None p) (λ r. refl))

module _ (at : Origin) where
  pub path_target_held : {es : Bodies} (h : HygieneId) {q : Lowering (Option HirPath)} → Correct q (Holds a_path es)
      → Correct (forms.path_target_form at h q) (Holds a_pat es)
  unfolding forms.path_target_form
  path_target_held {es = es} h hq = correct_as (correct_bind hq (λ p. correct_alloc_target (forms.path_target_of h p) at))
      (λ final ps m m' i g row. pat_held row.second (λ d le.
      same_ids final es (target_path_is h (inners_in final d) row.one) (row.first.same d le)))

  pub tuple_target_held : {es : Bodies} {p : Lowering Elements} → Correct p (Added a_pat parts [] es)
      → Correct (forms.tuple_target_form at p) (Holds a_pat es)
  unfolding forms.tuple_target_form
  tuple_target_held {es = es} h =
      correct_as (list_held at pat.Tuple h) (λ final ps m m' i g row. row es (λ d le n is same. same))

  pub array_target_held : {es fs : Bodies} (dots : Option Pointer) {b a : Lowering Elements} → Correct b (Added a_pat parts [] es)
      → Correct a (Added a_pat parts [] fs) → Correct (forms.array_target_form at dots b a) (Holds a_pat (es ++ fs))
  unfolding forms.array_target_form
  array_target_held {es = es} {fs = fs} dots hb ha = correct_as
      (correct_bind (added_all hb) (λ b. correct_bind (added_all ha) (λ a. correct_bind (rest_held dots)
      (λ o. correct_alloc_target (pat.Slice b.0 o a.0) at))))
      (λ final ps m m' i g row. let s = row.second in let u = s.second in
      pat_held {ps = ps} {n = m} u.second (λ d le. let r = inners_in final d in
      same_append final (all_of r.pat row.one.0) (of_present r.pat u.one ++ all_of r.pat s.one.0) es fs
      (row.first.same d (omega (le, s.before.nodes, s.before.entries, u.before.nodes, u.before.entries, arith)))
      (same_append final (of_present r.pat u.one) (all_of r.pat s.one.0) [] fs (u.first.same d le)
      (s.first.same d (omega (le, u.before.nodes, u.before.entries, arith))))))

  module _ {es fs : Bodies} (y : Option PathRead) {q : Lowering (Option HirPath)} (says : Correct q (PathIs y))
      (hq : Correct q (Holds a_path es)) where
    pub call_target_held : {p : Lowering Elements} → Correct p (Added a_pat parts [] fs)
        → Correct (forms.call_target_form at p q) (Holds a_pat (if_read y (es ++ fs)))
    unfolding forms.call_target_form
    call_target_held {p = p} h = behind_path fs y says hq by
      where
        by : (o : Option HirPath) → Correct (forms.call_target_of at p o) (WithPath a_pat es fs o)
        by None = correct_as (missing_target_held at.call) (λ final ps m m' i g row n h. row)
        by (Some o) = correct_as (list_held at (pat.TupleStruct o) h)
            (λ final ps m m' i g row n path. row (es ++ fs) (λ d le k is same. let r = inners_in final d in
            same_append final (of_path r o) (all_of r.pat is) es fs (path.same d le) same))

    pub record_target_held : (dots : Bool) (others : Option Pointer) {p : Lowering (List RecordFieldPat)}
        → Correct p (Holds (each (λ r f. of_pat_field r f)) fs)
        → Correct (forms.record_target_form at dots others p q) (Holds a_pat (if_read y (es ++ fs)))
    unfolding forms.record_target_form
    record_target_held dots others {p = p} h = behind_path fs y says hq by
      where
        by : (o : Option HirPath) → Correct (forms.record_target_of at dots others p o) (WithPath a_pat es fs o)
        by None = correct_as (missing_target_held at.call) (λ final ps m m' i g row n h. row)
        by (Some o) = correct_as (correct_bind (spread_any others) (λ u. correct_bind h
            (λ fs. correct_alloc_target (pat.Record o fs dots) at)))
            (λ final ps m m' i g row n path. let s = row.second in
            pat_held {ps = ps} {n = m} s.second (λ d le. let r = inners_in final d in
            same_append final (of_path r o) (all_of (of_pat_field r) s.one) es fs
            (path.same d (omega (le, row.before.nodes, row.before.entries, s.before.nodes, s.before.entries, arith))) (s.first.same d le)))

module _ (at : Pointer) where
  pub target_field_held : {es : Bodies} (n : Name) {p : Lowering PatId} → Correct p (Holds a_pat es)
      → Correct (forms.target_field_form at (Some n) p) (Holds (maybe (λ r f. of_pat_field r f)) es)
  unfolding forms.target_field_form
  target_field_held n h = correct_as (correct_bind h (λ i. correct_bind (correct_point_pat_field i at)
      (λ u. correct_pure (Some (record { name = n; pat = i })))))
      (λ final ps m m' o g row. rw row.second.second.is (record {
        same = λ d le. row.first.same d (omega (le, row.after.nodes, row.after.entries, arith));
      }))

  pub nameless_target_held : {R : Rel PatId} {p : Lowering PatId} → Correct p R
      → Correct (forms.target_field_form at None p) (Holds (maybe (λ r f. of_pat_field r f)) [])
  unfolding forms.target_field_form
  nameless_target_held h = holds_behind h (λ i. correct_as (correct_pure None)
      (λ final ps m m' o g row. rw row.is (record { same = λ d le. tt })))

  -- `let`, `match`, assignments and ranges

  pub let_held : {es fs : Bodies} {p : Lowering PatId} {e : ExprSteps} → Correct p (Holds a_pat es) → Correct e (Holds an_expr fs)
      → Correct (let_form at p e) (Holds an_expr (es ++ fs))
  unfolding let_form
  let_held hp he = expr2 (Some at) hir.Let (λ r p e. refl) hp he

  pub match_held : {es fs : Bodies} {e : ExprSteps} {arms : Lowering (List MatchArm)} → Correct e (Holds an_expr es)
      → Correct arms (Holds (each (λ r a. of_arm r a)) fs) → Correct (match_form at e arms) (Holds an_expr (es ++ fs))
  unfolding match_form
  match_held he ha = expr2 (Some at) hir.Match (λ r e arms. refl) he ha

  pub assign_held : {es fs : Bodies} {t : Lowering PatId} {v : ExprSteps} → Correct t (Holds a_pat es) → Correct v (Holds an_expr fs)
      → Correct (assign_form at t v) (Holds an_expr (es ++ fs))
  unfolding assign_form
  assign_held ht hv = expr2 (Some at) hir.Assignment (λ r t v. refl) ht hv

-- the ends of a range, as fields and as operands
abbrev of_ends : Inners → Option ExprId → Option ExprId → List Inside
of_ends r s e = of_present r.expr s ++ of_present r.expr e

fields_are : (r : Inners) (last : Name) (s e : Option ExprId) → all_of (of_field r) (range_fields last s e) ++ [] ≡ of_ends r s e
fields_are r last None None = refl
fields_are r last None (Some e) = append-nil (r.expr e ++ []) ∙ append-nil (r.expr e)
fields_are r last (Some s) None = append-nil (r.expr s ++ [])
fields_are r last (Some s) (Some e) = append-nil (r.expr s ++ (r.expr e ++ [])) ∙ ap (λ is. r.expr s ++ is) (append-nil (r.expr e))

operands_are : (r : Inners) (s e : Option ExprId) → all_of r.expr (end_operand s ++ end_operand e) ≡ of_ends r s e
operands_are r None None = refl
operands_are r None (Some e) = append-nil (r.expr e)
operands_are r (Some s) None = refl
operands_are r (Some s) (Some e) = ap (λ is. r.expr s ++ is) (append-nil (r.expr e))

item_is : (item : Option LangItemId) (r : Inners) → of_expr r (item_expr item) ≡ []
item_is None r = refl
item_is (Some item) r = refl

-- whatever its ends hold
abbrev MadeHolds : RangeForm → Option ExprId → Option ExprId → Rel ExprId
MadeHolds form s e final ps m m' i = (es : Bodies)
    → ((d : ℕ) → m.nodes + m.entries ≤ d → SameIn final (of_ends (inners_in final d) s e) es)
    → Holds an_expr (if_made form es) final ps m m' i

made_held : (at : Pointer) (form : RangeForm) (s e : Option ExprId) → Correct (made_range at form s e) (MadeHolds form s e)
made_held at (tree.record_range item last) s e =
    correct_as (correct_alloc (hir.RecordLit (LangItem item) (range_fields last s e) spread.None) (Some at))
    (λ final ps m m' i g a es h. expr_held {ps = ps} {n = m} a g
    (λ d le. same_ids final es (fields_are (inners_in final d) last s e) (h d le)))
made_held at (tree.call_range item) s e = correct_as
    (correct_bind (expr0 (item_expr item) None (item_is item))
    (λ f. correct_alloc (hir.Call f (end_operand s ++ end_operand e)) (Some at)))
    (λ final ps m m' i g row es h. expr_held {ps = ps} {n = m} row.second row.after (λ d le. let r = inners_in final d in
    same_append final (r.expr row.one) (all_of r.expr (end_operand s ++ end_operand e)) [] es (row.first.same d le)
    (same_ids final es (operands_are r s e) (h d (omega (le, row.before.nodes, row.before.entries, arith))))))
made_held at tree.itemless_range s e = correct_as (expr0 hir.Missing (Some at) (λ r. refl)) (λ final ps m m' i g row es h. row)

pub range_held : {es fs : Bodies} (at : Pointer) (form : RangeForm) {p q : Lowering (Option ExprId)} → Correct p (Holds (maybe an_expr) es)
    → Correct q (Holds (maybe an_expr) fs) → Correct (range_form at form p q) (Holds an_expr (if_made form (es ++ fs)))
unfolding range_form
range_held {es = es} {fs = fs} at form hp hq = correct_as (correct_bind hp (λ s. correct_bind hq (λ e. made_held at form s e)))
    (λ final ps m m' i g row. let s = row.second in record {
      same = (s.second (es ++ fs) (λ d le. let r = inners_in final d in
          same_append final (of_present r.expr row.one) (of_present r.expr s.one) es fs
          (row.first.same d (omega (le, s.before.nodes, s.before.entries, arith))) (s.first.same d le))).same;
    })

-- arms and `let` statements

-- the guard is lowered last
pub arm_held : {es fs gs : Bodies} {p : Lowering PatId} {e : ExprSteps} {g : Lowering (Option ExprId)} → Correct p (Holds a_pat es)
    → Correct g (Holds (maybe an_expr) fs) → Correct e (Holds an_expr gs)
    → Correct (arm_form p e g) (Holds (maybe (λ r a. of_arm r a)) (es ++ (fs ++ gs)))
unfolding arm_form
arm_held {es = es} {fs = fs} {gs = gs} hp hg he = correct_as (correct_bind hp (λ p. correct_bind he (λ e. correct_bind hg
    (λ g. correct_pure (Some (record { pat = p; guard = g; expr = e }))))))
    (λ final ps m m' o u row. let s = row.second in let v = s.second in rw (v.second.is, v.second.still) (record {
      same = λ d le. let r = inners_in final d in
          same_append final (r.pat row.one) (of_present r.expr v.one ++ r.expr s.one) es (fs ++ gs)
          (row.first.same d (omega (le, s.before.nodes, s.before.entries, v.before.nodes, v.before.entries, arith)))
          (same_append final (of_present r.expr v.one) (r.expr s.one) fs gs (v.first.same d le)
          (s.first.same d (omega (le, v.before.nodes, v.before.entries, arith))));
    }))

pub let_stmt_held : {es fs gs hs : Bodies} {p : Lowering PatId} {t : Lowering (Option TypeRefId)} {i b : Lowering (Option ExprId)}
    → Correct p (Holds a_pat es) → Correct t (Holds (maybe a_type) fs) → Correct i (Holds (maybe an_expr) gs)
    → Correct b (Holds (maybe an_expr) hs)
    → Correct (let_stmt_form p t i b) (Holds (maybe (λ r s. of_statement r s)) (es ++ (fs ++ (gs ++ hs))))
unfolding let_stmt_form
let_stmt_held {es = es} {fs = fs} {gs = gs} {hs = hs} hp ht hi hb = correct_as
    (correct_bind hp (λ p. correct_bind ht (λ t. correct_bind hi (λ i. correct_bind hb
    (λ b. correct_pure (Some (statement.Let p t i b)))))))
    (λ final ps m m' o u row. let s = row.second in let v = s.second in let w = v.second in rw (w.second.is, w.second.still) (record {
      same = λ d le. let r = inners_in final d in
          same_append final (r.pat row.one) (of_present r.type s.one ++ (of_present r.expr v.one ++ of_present r.expr w.one))
          es (fs ++ (gs ++ hs))
          (row.first.same d
          (omega (le, s.before.nodes, s.before.entries, v.before.nodes, v.before.entries, w.before.nodes, w.before.entries, arith)))
          (same_append final (of_present r.type s.one) (of_present r.expr v.one ++ of_present r.expr w.one) fs (gs ++ hs)
          (s.first.same d (omega (le, v.before.nodes, v.before.entries, w.before.nodes, w.before.entries, arith)))
          (same_append final (of_present r.expr v.one) (of_present r.expr w.one) gs hs
          (v.first.same d (omega (le, w.before.nodes, w.before.entries, arith))) (w.first.same d le)));
    }))
