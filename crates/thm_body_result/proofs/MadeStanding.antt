-- What `?` and `try` become stands for them: what is made up, beside what their parts became.
use Rattle.std.proofs.Common.{arith, ◌∙◌, refl, sym, ap, subst, ℕ, Bool, true, false, length, length-append, List, [], ◌∷◌, ◌++◌}
use Rattle.std.proofs.Common.{slice_get, Option, Some, None}
use Rattle.hir_binding.specs.declared.binding.BindingAnnotation.{BindingAnnotation}
use Rattle.hir_store.specs.Arenas.{Prefix}
use Rattle.hir_store.specs.Pointers.{Pointer}
use Rattle.hir_store.specs.Stored.{Stored, store_of, map_of}
use Rattle.hir_store.specs.declared.hir.Expr.{Expr as HirExpr}
use Rattle.hir_store.specs.declared.hir.Expr.TheVariants as hir
use Rattle.hir_store.specs.declared.ids.BlockId.{BlockId}
use Rattle.hir_store.specs.declared.ids.ExprId.{ExprId}
use Rattle.hir_store.specs.declared.ids.LabelId.{LabelId}
use Rattle.hir_store.specs.declared.ids.LangItemId.{LangItemId}
use Rattle.hir_store.specs.declared.ids.PatId.{PatId}
use Rattle.hir_store.specs.declared.ids.TypeRefId.{TypeRefId}
use Rattle.hir_store.specs.declared.pat.Pat.{Pat as HirPat}
use Rattle.hir_store.specs.declared.pat.Pat.TheVariants as pat
use Rattle.hir_store.proofs.Arenas.{prefix_refl, prefix_push}
use Rattle.hir_env.specs.ResolvedTree.{OptionExpr, QuestionItems, Stmts}
use Rattle.hir_lower_scope.specs.ScopeRibs.{Try, try_rib, innermost_try_rib}
use Rattle.spec_semantics.specs.Left.{is_left, gives_value}
use Rattle.hir_lower_builder.specs.Forms.{ExprSteps, StoredContents, settled, settled_block}
use Rattle.hir_lower_builder.specs.Lower.{kept_part, lower_stmts}
use Rattle.hir_lower_builder.specs.Lowering.{Lowering, alloc_desugared}
use Rattle.hir_lower_builder.specs.Made.{made_path_form, made_binding, made_bind_form, item_or_missing, made_call, item_call_form, item_pat}
use Rattle.hir_lower_builder.specs.Made.{conversion, leaving_node, flow_arm_form, residual_form, question_form, value_or_unit, wrapped_form}
use Rattle.hir_lower_builder.specs.Made.{try_block_form, bound_block, typed_try_form, condition_form, held_block, held_form, hold_form}
use Rattle.thm_logic.proofs.Frames.{Frame, ribs}
use Rattle.thm_logic.proofs.Logic as logic
use Rattle.thm_logic.proofs.PatSteps as pats
use Rattle.thm_logic.proofs.PatSteps.{AllocatedPat, defining, with_pat}
use Rattle.thm_logic.proofs.Steps as steps
use Rattle.thm_logic.proofs.Steps.{Mark}
use Rattle.thm_body_result.specs.Forms as results
use Rattle.thm_body_result.specs.Leads.{Mapping, Mappings, OneMapping, OneLabelMapping, ◌&◌}
use Rattle.thm_body_result.specs.CorrespondsMade.{PatMade, LabelMade, CorrespondsMade, CorrespondsMadeBind, CorrespondsItemCall}
use Rattle.thm_body_result.specs.CorrespondsMade.{CorrespondsFlowArm, CorrespondsResidual}
use Rattle.thm_body_result.specs.CorrespondsMade.{CorrespondsCondition, CorrespondsQuestion, CorrespondsValue, CorrespondsWrapped}
use Rattle.thm_body_result.specs.CorrespondsMade.{CorrespondsTry, CorrespondsTypedTry}
use Rattle.thm_body_result.proofs.Contents.{has_contents}
use Rattle.thm_body_result.proofs.Lasting.{Correct, correct_alloc, correct_alloc_desugared, correct_alloc_pat, correct_as, correct_bind}
use Rattle.thm_body_result.proofs.Lasting.{correct_enter_block, correct_made_number, correct_opened_try, correct_pure, correct_try_target}
use Rattle.thm_body_result.proofs.Leading.{shown_as, shown_after, shown_before, shown_binding, shown_both, shown_none, moved_bind}
use Rattle.thm_body_result.proofs.Leading.{moved_pat, moved_same, moved_to}
use Rattle.thm_body_result.proofs.PatStanding.{Behind}
use Rattle.thm_body_result.proofs.Standing.{Of, Placed, Shows, block_leads, expr_at, hidden, label_at, moved_pure, own, own_label}
use Rattle.thm_body_result.proofs.TreeParts.{behind_none, contents}

-- what is made up

pub made_corresponds : (e : HirExpr) (at : Pointer)
    → Correct (alloc_desugared e (Some at)) (Shows (λ final rs i. CorrespondsMade (store_of final) (map_of final) e at i))
made_corresponds e at = correct_as (correct_alloc_desugared e (Some at)) (λ final ps m m' i g row.
    record { shown = shown_as (hidden row) (λ ws x. (expr_at row, x)) })

made_item_corresponds : (item : Option LangItemId) (at : Pointer) → Correct (alloc_desugared (item_or_missing item) (Some at))
    (Shows (λ final rs i. CorrespondsMade (store_of final) (map_of final) (results.item_or_missing item) at i))
made_item_corresponds None at = made_corresponds _ at
made_item_corresponds (Some item) at = made_corresponds _ at

pub made_path_corresponds : (at : Pointer) (n : ℕ)
    → Correct (made_path_form at n) (Shows (λ final rs i. CorrespondsMade (store_of final) (map_of final) (results.generated_name n) at i))
unfolding made_path_form
made_path_corresponds at n = made_corresponds _ at

pub item_call_corresponds : (at : Pointer) (item : Option LangItemId) (argument : ExprId)
    → Correct (item_call_form at item argument)
    (Shows (λ final rs i. CorrespondsItemCall (store_of final) (map_of final) at item argument i))
unfolding item_call_form
item_call_corresponds at item argument = correct_as
    (correct_bind (made_item_corresponds item at) (λ f. made_corresponds (made_call f argument) at))
    (λ final ps m m' i g row. record { shown = shown_as (shown_both row.first.shown row.second.shown) (λ ws y. (row.one, y)) })

module _ {p : HirPat} {final : Stored} {ps : List Frame} {m m' : Mark} {i : PatId} where
  pub made_pat_at : AllocatedPat p None final ps m m' i → PatMade (store_of final) (map_of final) i p
  made_pat_at row =
      record {
        stored = ap (λ n. slice_get final.pats.entries n) row.number ∙ row.here;
        source = ap (λ n. slice_get final.pats.sources n) row.number ∙ row.from;
      }

-- a binding of a name that is made up stays as it is
pub made_bind_corresponds : (mode : BindingAnnotation) (n : ℕ)
    → Correct (made_bind_form mode n) (Shows (λ final rs p. CorrespondsMadeBind (store_of final) (map_of final) mode n p))
unfolding made_bind_form
made_bind_corresponds mode n = steps.correct_as
    (steps.correct_bind (pats.correct_alloc_binding (made_binding mode n)) (λ b.
    steps.correct_bind (pats.correct_alloc_pat (pat.Bind b None) None)
    (λ q. steps.correct_bind (pats.correct_define b q) (λ u. steps.correct_pure q))))
    (λ final ps m m' p g row.
    let b = row.one in
    let between = row.middle.stored in
    let two = row.second.first in
    let q = row.second.one in
    let three = row.second.second in
    let before = m.stored.bindings.entries in
    let x = made_binding mode n in
    let number = row.first.number ∙ row.first.last in
    let is = ap (λ k. k.stored) three.second.still
    ∙ (three.first.stored ∙ ap (defining b q) two.stored) in
    let whole = is ∙ ap (λ s. defining b q (with_pat (pat.Bind b None) None s)) row.first.stored in
    let here = logic.in_prefix before x b.0 number (prefix_refl (before ++ x ∷ [])) in
    let more = ap (λ s. length s.bindings.entries) row.first.stored ∙ length-append before (x ∷ []) in
    let binds = moved_bind b None None q between (two.number ∙ two.last) (omega (arith, number, more)) in
    record {
      settled = subst (λ s. Prefix before s.bindings.entries) (sym whole) (prefix_push before x);
      rel = λ k.
          let stays = k.at b.0 x (omega (arith, number)) (ap (λ s. slice_get s.bindings.entries b.0) whole ∙ here) in
          let placed = subst (λ z. PatMade (store_of final) (map_of final) z (pat.Bind b None)) (sym three.second.is) (made_pat_at two) in
          record {
            shown = shown_as (shown_before (shown_binding x b number row.first.stored) (moved_to is binds))
                (λ ws y. (b, placed, stays, y));
          };
    })

-- `?`

flow_arm_corresponds : (item : LangItemId) {body : ℕ → ExprSteps} {S : ℕ → Of ExprId} → ((n : ℕ) → Correct (body n) (Shows (S n)))
    → Correct (flow_arm_form item body)
    (Shows (λ final rs a. CorrespondsFlowArm (store_of final) (map_of final) item (λ n x. S n final rs x) a))
unfolding flow_arm_form
flow_arm_corresponds item h = correct_as
    (correct_bind correct_made_number (λ n. correct_bind (made_bind_corresponds _ n)
    (λ p. correct_bind (correct_alloc_pat (item_pat item p) None) (λ q. correct_bind (h n) (λ e. correct_pure _)))))
    (λ final ps m m' a g row.
    let r = row.second in
    let s = r.second in
    let t = s.second in
    let found = moved_to s.first.stored (moved_pat (item_pat item r.one) None r.middle.stored tt) in
    let parts = shown_both r.first.shown (shown_after found (shown_before t.first.shown (moved_pure t.second.still))) in
    record {
      shown = shown_as (shown_after (moved_same row.first.stored) parts)
          (λ ws y. (row.one, r.one, s.one, t.one, t.second.is, made_pat_at s.first, y));
    })

-- as it is told of the innermost `try`
module _ (final : Stored) (at : Pointer) (r e i : ExprId) (A : Mappings) (ws : List Mapping) where
  abbrev Left : Option LangItemId → HirExpr → Type 0
  Left item x =
      (A & CorrespondsItemCall (store_of final) (map_of final) at item r e & CorrespondsMade (store_of final) (map_of final) x at i) ws

  left_as : (items : QuestionItems) (t : Option (Try LabelId)) → Left (conversion items t) (leaving_node t e)
      → Left (results.conversion items t) (results.leaving_node t e)
  left_as items None h = h
  left_as items (Some t) h = h

residual_corresponds : (at : Pointer) (items : QuestionItems) (n : ℕ) → Correct (residual_form at items n)
    (Shows (λ final rs i. CorrespondsResidual (store_of final) (map_of final) at items (innermost_try_rib rs) n i))
unfolding residual_form
residual_corresponds at items n = correct_as
    (correct_bind (made_path_corresponds at n) (λ r. correct_bind correct_try_target (λ t.
    correct_bind (item_call_corresponds at (conversion items t) r) (λ e. made_corresponds (leaving_node t e) at))))
    (λ final ps m m' i g row.
    let q = row.second in
    let s = q.second in
    let A = CorrespondsMade (store_of final) (map_of final) (results.generated_name n) at row.one in
    let parts = shown_both row.first.shown (shown_after (moved_pure q.first.still) (shown_both s.first.shown s.second.shown)) in
    record {
      shown = shown_as parts (λ ws y. (
        row.one,
        s.one,
        subst (λ t. Left final at row.one s.one i A ws (results.conversion items t) (results.leaving_node t s.one)) q.first.is
            (left_as final at row.one s.one i A ws items q.one y),
      ));
    })

pub question_corresponds : (at : Pointer) (items : QuestionItems) {e : ExprSteps} {S : Of ExprId} → Correct e (Shows S)
    → Correct (question_form at items e)
    (Shows (λ final rs i. CorrespondsQuestion (store_of final) (map_of final) at items (innermost_try_rib rs) (λ x. S final rs x) i))
unfolding question_form
question_corresponds at items h = correct_as
    (correct_bind h (λ e. correct_bind (item_call_corresponds at (Some items.branch) e)
    (λ b. correct_bind (flow_arm_corresponds items.goes_on (made_path_corresponds at))
    (λ a. correct_bind (flow_arm_corresponds items.breaks (residual_corresponds at items))
    (λ c. correct_alloc (hir.Match b (a ∷ c ∷ [])) (Some at))))))
    (λ final ps m m' i g row.
    let q = row.second in
    let s = q.second in
    let t = s.second in
    let arms = shown_both s.first.shown (shown_both t.first.shown (own t.second)) in
    let parts = shown_both row.first.shown (shown_both q.first.shown arms) in
    record { shown = shown_as parts (λ ws y. (row.one, q.one, s.one, t.one, expr_at t.second, y)) })

-- `try`

tried_value_corresponds : (at : Pointer) (tail : Option ExprId)
    → Correct (value_or_unit at tail) (Shows (λ final rs v. CorrespondsValue (store_of final) (map_of final) at tail v))
unfolding value_or_unit
tried_value_corresponds at (Some e) =
    correct_as (correct_pure e) (λ final ps m m' v g row. record { shown = shown_none (moved_pure row.still) (row.is, refl) })
tried_value_corresponds at None = made_corresponds _ at

wrapped_corresponds : (at : Pointer) (item : Option LangItemId) (tail : Option ExprId)
    → Correct (wrapped_form at item tail) (Shows (λ final rs i. CorrespondsWrapped (store_of final) (map_of final) at item tail i))
unfolding wrapped_form
wrapped_corresponds at item tail = correct_as
    (correct_bind (made_item_corresponds item at)
    (λ f. correct_bind (tried_value_corresponds at tail) (λ v. made_corresponds (made_call f v) at)))
    (λ final ps m m' i g row. let r = row.second in record {
      shown = shown_as (shown_both row.first.shown (shown_both r.first.shown r.second.shown)) (λ ws y. (row.one, r.one, y));
    })

-- a `try` over what is in it
abbrev Tried : Pointer → Option LangItemId → Bool → Option BlockId → Of StoredContents → Of ExprId
Tried at item typed number C final rs i = λ ws. (label : LabelId) × (n : ℕ) × LabelMade (store_of final) (map_of final) label n at
    × (r : StoredContents) × (value : ExprId)
    × Placed final i (hir.Block false (Some label) number (settled r.0 r.1).0 (Some value)) (Some at)
    × (OneLabelMapping at label & C final (try_rib label typed ∷ rs) r
    & CorrespondsWrapped (store_of final) (map_of final) at item (settled r.0 r.1).1 value & OneMapping at i) ws

tried : (at : Pointer) (item : Option LangItemId) (typed : Bool) (number : Option BlockId) {c : Lowering StoredContents}
    {C : Of StoredContents} → Correct c (Shows C) → Correct (try_block_form at item typed number c) (Shows (Tried at item typed number C))
unfolding try_block_form
tried at item typed number h = correct_as
    (correct_opened_try at typed (correct_enter_block number) h (λ l r. correct_bind (wrapped_corresponds at item (settled r.0 r.1).1)
    (λ v. correct_alloc (settled_block false (Some l) number ((settled r.0 r.1).0, Some v)) (Some at))))
    (λ final ps m m' i g row.
    let q = row.second in
    let enters = moved_to row.first.first.stored (block_leads number row.entered.stored) in
    let inside = shown_after enters row.first.second.shown in
    let parts = shown_both (own_label row) (shown_both inside (shown_both q.first.shown (own q.second))) in
    let at' = label_at row in
    let named : LabelMade (store_of final) (map_of final) row.number m.names at = record { stored = at'.stored; source = at'.source } in
    record { shown = shown_as parts (λ ws y. (row.number, m.names, named, row.one, q.one, expr_at q.second, y)) })

pub try_corresponds : (at : Pointer) (item : Option LangItemId) (typed : Bool) (number : Option BlockId) (ss : Stmts) (e : OptionExpr)
    → Correct (lower_stmts [] ss (kept_part e)) (Shows (λ final rs r. Behind [] (λ is. contents final rs ss e is r.1) r.0))
    → Correct (try_block_form at item typed number (lower_stmts [] ss (kept_part e)))
    (Shows (λ final rs i. CorrespondsTry (store_of final) (map_of final) at item number (gives_value ss (is_left e))
    (λ label is o. contents final (try_rib label typed ∷ rs) ss e is o) i))
try_corresponds at item typed number ss e h = correct_as
    (tried at item typed number {C = λ final rs r. contents final rs ss e r.0 r.1}
    (correct_as h (λ final ps m m' r g row. record { shown = behind_none (λ is. contents final (ribs ps) ss e is r.1) row.shown })))
    (λ final ps m m' i g row. record {
      shown = shown_as row.shown (λ ws y.
          let r = y.3 in
          let inner = y.6.second in
          let is = has_contents (store_of final) (map_of final) (try_rib y.0 typed ∷ ribs ps) ss e r.0 r.1 inner.left inner.first in
          (y.0, y.1, y.2, r.0, r.1, settled r.0 r.1, is, y.4, y.5, y.6));
    })

pub typed_try_corresponds : (at : Pointer) {b : ExprSteps} {t : Lowering TypeRefId} {B : Of ExprId} {T : Of TypeRefId} → Correct b (Shows B)
    → Correct t (Shows T) → Correct (typed_try_form at b t)
    (Shows (λ final rs i. CorrespondsTypedTry (store_of final) (map_of final) at (λ x. B final rs x) (λ y. T final rs y) i))
unfolding typed_try_form
typed_try_corresponds at hb ht = correct_as
    (correct_bind hb (λ b. correct_bind correct_made_number (λ n. correct_bind ht (λ t. correct_bind (made_bind_corresponds _ n)
    (λ p. correct_bind (made_path_corresponds at n) (λ e. made_corresponds (bound_block p t b e) at))))))
    (λ final ps m m' i g row.
    let q = row.second in
    let s = q.second in
    let u = s.second in
    let v = u.second in
    let last = shown_both u.first.shown (shown_both v.first.shown v.second.shown) in
    let parts = shown_both row.first.shown (shown_after (moved_same q.first.stored) (shown_both s.first.shown last)) in
    record { shown = shown_as parts (λ ws y. (row.one, s.one, q.one, u.one, v.one, y)) })

-- a condition, where its temporaries end

held_corresponds : (at : Pointer) {c : ExprSteps} {C : Of ExprId} → Correct c (Shows C) → Correct (held_form at c)
    (Shows (λ final rs i. CorrespondsCondition (store_of final) (map_of final) at false (λ x. C final rs x) i))
unfolding held_form hold_form
held_corresponds at hc = correct_as
    (correct_bind hc (λ c. correct_bind correct_made_number (λ n. correct_bind (made_bind_corresponds _ n)
    (λ p. correct_bind (made_path_corresponds at n) (λ e. made_corresponds (held_block p c e) at)))))
    (λ final ps m m' i g row.
    let q = row.second in
    let u = q.second in
    let v = u.second in
    let last = shown_both u.first.shown (shown_both v.first.shown v.second.shown) in
    let parts = shown_both row.first.shown (shown_after (moved_same q.first.stored) last) in
    record { shown = shown_as parts (λ ws y. (row.one, q.one, u.one, v.one, y)) })

pub condition_corresponds : (at : Pointer) (lets : Bool) {c : ExprSteps} {C : Of ExprId} → Correct c (Shows C)
    → Correct (condition_form lets at c)
    (Shows (λ final rs i. CorrespondsCondition (store_of final) (map_of final) at lets (λ x. C final rs x) i))
condition_corresponds at true h = h
condition_corresponds at false h = held_corresponds at h
