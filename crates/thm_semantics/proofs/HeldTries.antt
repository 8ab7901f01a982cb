-- What `?` and `try` become holds what their parts hold: nothing that is made up holds a body.
use Rattle.std.proofs.Common.{◌≡◌, ◌∙◌, refl, sym, ap, subst, ℕ, ◌+◌, ◌≤◌, Bool, true, false, List, [], ◌∷◌, ◌++◌, append-nil, Option}
use Rattle.std.proofs.Common.{Some, None, arith}
use Rattle.hir_binding.specs.declared.binding.BindingAnnotation.{BindingAnnotation}
use Rattle.hir_binding.specs.declared.binding.BindingAnnotation.TheVariants.{Unannotated}
use Rattle.hir_store.specs.Pointers.{Pointer}
use Rattle.hir_store.specs.Stored.{Stored}
use Rattle.hir_store.specs.declared.hir.Expr.{Expr as HirExpr}
use Rattle.hir_store.specs.declared.hir.Expr.TheVariants as hir
use Rattle.hir_store.specs.declared.hir.MatchArm.{MatchArm}
use Rattle.hir_store.specs.declared.ids.BlockId.{BlockId}
use Rattle.hir_store.specs.declared.ids.ExprId.{ExprId}
use Rattle.hir_store.specs.declared.ids.LabelId.{LabelId}
use Rattle.hir_store.specs.declared.ids.LangItemId.{LangItemId}
use Rattle.hir_store.specs.declared.ids.TypeRefId.{TypeRefId}
use Rattle.hir_store.specs.declared.pat.Pat.TheVariants as pat
use Rattle.hir_env.specs.ResolvedTree.{QuestionItems}
use Rattle.hir_lower_builder.specs.Forms.{ExprSteps, StoredContents, root_hygiene, settled, settled_block}
use Rattle.hir_lower_builder.specs.Lowering.{Lowering, alloc_desugared}
use Rattle.hir_lower_builder.specs.Made.{bound_block, conversion, flow_arm_form, item_call_form, item_or_missing, item_pat, leaving_node}
use Rattle.hir_lower_builder.specs.Made.{made_bind_form, made_binding, made_call, made_path, made_path_form, question_form, residual_form}
use Rattle.hir_lower_builder.specs.Made.{condition_form, held_block, held_form, hold_form}
use Rattle.hir_lower_builder.specs.Made.{try_block_form, typed_try_form, value_or_unit, wrapped_form}
use Rattle.spec_semantics.specs.Inner.{Bodies, Inners, of_arm, of_expr, of_present}
use Rattle.hir_lower_scope.specs.ScopeRibs.{Try}
use Rattle.thm_logic.proofs.Frames.{Frame}
use Rattle.thm_logic.proofs.MadeSteps.{correct_alloc_desugared, correct_made_number, correct_opened_try, correct_try_target}
use Rattle.thm_logic.proofs.PatSteps.{correct_alloc_binding, correct_alloc_pat, correct_define}
use Rattle.thm_logic.proofs.Steps.{Correct, Mark, correct_alloc, correct_as, correct_bind, correct_enter_block, correct_pure}
use Rattle.thm_semantics.proofs.HeldForms.{Filled, none_held_by, of_contents, settled_iteration, iteration_all, iteration_ended}
use Rattle.thm_semantics.proofs.Holding.{Holds, Ids, SameIn, a_pat, a_type, an_expr, expr_held, inners_in, pat0, pat_held}
use Rattle.thm_semantics.proofs.Holding.{same_append, same_bodies, same_ids}

abbrev pub an_arm : Ids MatchArm
an_arm r a = of_arm r a

pub made_held : (e : HirExpr) (source : Option Pointer) → ((r : Inners) → of_expr r e ≡ [])
    → Correct (alloc_desugared e source) (Holds an_expr [])
made_held e source is = correct_as (correct_alloc_desugared e source)
    (λ final ps m m' i g at. expr_held at g (λ d le. same_ids final [] (is (inners_in final d)) tt))

pub item_is : (o : Option LangItemId) (r : Inners) → of_expr r (item_or_missing o) ≡ []
item_is None r = refl
item_is (Some i) r = refl

leaving_is : (t : Option (Try LabelId)) (r : Inners) (e : ExprId) → of_expr r (leaving_node t e) ≡ r.expr e
leaving_is None r e = refl
leaving_is (Some t) r e = refl

-- a call holds what its argument does, where the item holds nothing
pub called_is : (r : Inners) (c e : ExprId) → of_expr r (made_call c e) ≡ r.expr c ++ r.expr e
called_is r c e = ap (λ is. r.expr c ++ is) (append-nil (r.expr e))

pub bind_held : (mode : BindingAnnotation) (n : ℕ) → Correct (made_bind_form mode n) (Holds a_pat [])
unfolding made_bind_form
bind_held mode n = correct_as (correct_bind (correct_alloc_binding (made_binding mode n))
    (λ i. correct_bind (pat0 (pat.Bind i None) None (λ r. refl)) (λ p. correct_bind (correct_define i p) (λ u. correct_pure p))))
    (λ final ps m m' q g row. let s = row.second in let v = s.second in rw (v.second.is, v.second.still) (record {
      same = λ d le. s.first.same d (omega (arith, le, v.before.nodes, v.before.entries));
    }))

flow_arm_held : (item : LangItemId) {body : ℕ → ExprSteps} → ((n : ℕ) → Correct (body n) (Holds an_expr []))
    → Correct (flow_arm_form item body) (Holds an_arm [])
unfolding flow_arm_form
flow_arm_held item h = correct_as (correct_bind correct_made_number (λ n. correct_bind (bind_held Unannotated n) (λ p. correct_bind
    (correct_alloc_pat (item_pat item p) None) (λ q. correct_bind (h n) (λ e. correct_pure (record { pat = q; guard = None; expr = e }))))))
    (λ final ps m m' a g row. let p = row.second in let q = p.second in let e = q.second in
    let pattern : Holds a_pat [] final ps row.middle q.middle q.one = pat_held q.first (λ d le. let r = inners_in final d in
    same_ids final [] (append-nil (r.pat p.one)) (p.first.same d le)) in
    rw (e.second.is, e.second.still) (record {
      same = λ d le. let r = inners_in final d in same_append final (r.pat q.one) (r.expr e.one) [] []
          (pattern.same d (omega (arith, le, e.before.nodes, e.before.entries))) (e.first.same d le);
    }))

module _ (at : Pointer) where
  pub name_held : (n : ℕ) → Correct (made_path_form at n) (Holds an_expr [])
  unfolding made_path_form
  name_held n = made_held (hir.Path (made_path n) root_hygiene) (Some at) (λ r. refl)

  residual_held : (items : QuestionItems) (n : ℕ) → Correct (residual_form at items n) (Holds an_expr [])
  unfolding residual_form item_call_form
  residual_held items n = correct_as (correct_bind (name_held n) (λ r. correct_bind correct_try_target (λ t. correct_bind (correct_bind
      (made_held (item_or_missing (conversion items t)) (Some at) (item_is (conversion items t)))
      (λ c. correct_alloc_desugared (made_call c r) (Some at))) (λ e. correct_alloc_desugared (leaving_node t e) (Some at)))))
      (λ final ps m m' i g row. let s = row.second in let u = s.second in let c = u.first in
      let called : Holds an_expr [] final ps m u.middle u.one = expr_held c.second c.after (λ d le. let k = inners_in final d in
      same_ids final [] (called_is k c.one row.one) (same_append final (k.expr c.one) (k.expr row.one) [] [] (c.first.same d le)
      (row.first.same d (omega (arith, le, s.before.nodes, s.before.entries, c.before.nodes, c.before.entries))))) in
      expr_held u.second u.after (λ d le. same_ids final [] (leaving_is s.one (inners_in final d) u.one) (called.same d le)))

  module _ {es : Bodies} where
    pub question_held : (items : QuestionItems) {p : ExprSteps} → Correct p (Holds an_expr es)
        → Correct (question_form at items p) (Holds an_expr es)
    unfolding question_form item_call_form
    question_held items hp = correct_as (correct_bind hp (λ e. correct_bind (correct_bind
        (made_held (item_or_missing (Some items.branch)) (Some at) (item_is (Some items.branch)))
        (λ c. correct_alloc_desugared (made_call c e) (Some at))) (λ b. correct_bind (flow_arm_held items.goes_on name_held)
        (λ a. correct_bind (flow_arm_held items.breaks (residual_held items)) (λ c. correct_alloc (hir.Match b (a ∷ c ∷ [])) (Some at))))))
        (λ final ps m m' i g row. let s = row.second in let c = s.first in let u = s.second in let t = u.second in
        let called : Holds an_expr es final ps m s.middle s.one = expr_held c.second c.after (λ d le. let k = inners_in final d in
        same_ids final es (called_is k c.one row.one) (same_append final (k.expr c.one) (k.expr row.one) [] es (c.first.same d le)
        (row.first.same d (omega (arith, le, c.before.nodes, c.before.entries))))) in
        expr_held t.second t.after (λ d le. let k = inners_in final d in
        same_bodies final (k.expr s.one ++ (of_arm k u.one ++ (of_arm k t.one ++ []))) (append-nil es)
        (same_append final (k.expr s.one) (of_arm k u.one ++ (of_arm k t.one ++ [])) es []
        (called.same d (omega (arith, le, u.before.nodes, u.before.entries, t.before.nodes, t.before.entries)))
        (same_append final (of_arm k u.one) (of_arm k t.one ++ []) [] []
        (u.first.same d (omega (arith, le, t.before.nodes, t.before.entries)))
        (same_ids final [] (append-nil (of_arm k t.one)) (t.first.same d le))))))

    -- a condition, where its temporaries end
    held_held : {c : ExprSteps} → Correct c (Holds an_expr es) → Correct (held_form at c) (Holds an_expr es)
    unfolding held_form hold_form
    held_held hc = correct_as (correct_bind hc (λ c. correct_bind correct_made_number (λ n. correct_bind (bind_held Unannotated n)
        (λ p. correct_bind (name_held n) (λ e. correct_alloc_desugared (held_block p c e) (Some at))))))
        (λ final ps m m' i g row. let s = row.second in let q = s.second in let r = q.second in
        expr_held r.second r.after (λ d le. let k = inners_in final d in
        same_bodies final (of_expr k (held_block q.one row.one r.one)) (front_is es)
        (same_append final ((k.pat q.one ++ (k.expr row.one ++ [])) ++ []) (k.expr r.one) ((es ++ []) ++ []) []
        (same_append final (k.pat q.one ++ (k.expr row.one ++ [])) [] (es ++ []) []
        (same_append final (k.pat q.one) (k.expr row.one ++ []) [] (es ++ [])
        (q.first.same d (omega (arith, le, r.before.nodes, r.before.entries)))
        (same_append final (k.expr row.one) [] es []
        (row.first.same d (omega (
          arith,
          le,
          s.before.nodes,
          s.before.entries,
          q.before.nodes,
          q.before.entries,
          r.before.nodes,
          r.before.entries,
        ))) tt)) tt) (r.first.same d le))))
      where
        front_is : (es : Bodies) → ((es ++ []) ++ []) ++ [] ≡ es
        front_is es = append-nil _ ∙ (append-nil _ ∙ append-nil es)

    pub condition_held : (lets : Bool) {c : ExprSteps} → Correct c (Holds an_expr es)
        → Correct (condition_form lets at c) (Holds an_expr es)
    condition_held true h = h
    condition_held false h = held_held h

  -- what ends a `try` holds what its tail does
  record Ended (tail : Option ExprId) (final : Stored) (ps : List Frame) (m m' : Mark) (i : ExprId) : Type 0 where
    holds : (n : ℕ) → n ≤ m.nodes + m.entries → (bs : Bodies)
        → ((d : ℕ) → n ≤ d → SameIn final (of_present (inners_in final d).expr tail) bs)
        → (d : ℕ) → m'.nodes + m'.entries ≤ d → SameIn final ((inners_in final d).expr i) bs

  value_held : (tail : Option ExprId) → Correct (value_or_unit at tail) (Ended tail)
  unfolding value_or_unit
  value_held (Some e) = correct_as (correct_pure e) (λ final ps m m' i g row. rw (row.is, row.still)
      (record { holds = λ n le bs h d ge. h d (omega (arith, le, ge)) }))
  value_held None = correct_as (made_held (hir.Tuple []) (Some at) (λ r. refl)) (λ final ps m m' i g row. record {
    holds = λ n le bs h d ge. subst (SameIn final ((inners_in final d).expr i)) (sym (nothing final n bs h)) (row.same d ge);
  })
    where
      nothing : (final : Stored) (n : ℕ) (bs : Bodies) → ((d : ℕ) → n ≤ d → SameIn final [] bs) → bs ≡ []
      nothing final n bs h = none_held_by final bs (h n (omega arith))

  wrapped_held : (o : Option LangItemId) (tail : Option ExprId) → Correct (wrapped_form at o tail) (Ended tail)
  unfolding wrapped_form
  wrapped_held o tail = correct_as (correct_bind (made_held (item_or_missing o) (Some at) (item_is o))
      (λ c. correct_bind (value_held tail) (λ v. correct_alloc_desugared (made_call c v) (Some at))))
      (λ final ps m m' i g row. let s = row.second in record {
        holds = λ n le bs h.
            let held : Holds an_expr bs final ps m m' i = expr_held s.second s.after (λ d ge. let k = inners_in final d in
            same_ids final bs (called_is k row.one s.one) (same_append final (k.expr row.one) (k.expr s.one) [] bs
            (row.first.same d (omega (arith, ge, s.before.nodes, s.before.entries)))
            (s.first.holds n (omega (arith, le, row.before.nodes, row.before.entries)) bs h d ge))) in held.same;
      })

  module _ {es fs : Bodies} where
    pub try_held : (o : Option LangItemId) (typed : Bool) (number : Option BlockId) {p : Lowering StoredContents}
        → Correct p (Filled [] es fs) → Correct (try_block_form at o typed number p) (Holds an_expr (es ++ fs))
    unfolding try_block_form
    try_held o typed number hp = correct_as (correct_opened_try at typed (correct_enter_block number) hp
        (λ n r. correct_bind (wrapped_held o (settled r.0 r.1).1)
        (λ v. correct_alloc (settled_block false (Some n) number ((settled r.0 r.1).0, Some v)) (Some at))))
        (λ final ps m m' i g row.
        let r = row.one in let held = row.first.second in let s = row.second in
        let n = row.left.nodes + row.left.entries in let last = s.middle.nodes + s.middle.entries in
        let ends : (bs : Bodies) → ((d : ℕ) → n ≤ d → SameIn final (of_present (inners_in final d).expr (settled held.new r.1).1) bs)
        → (d : ℕ) → last ≤ d → SameIn final ((inners_in final d).expr s.one) bs =
        subst (λ ks. (bs : Bodies) → ((d : ℕ) → n ≤ d → SameIn final (of_present (inners_in final d).expr (settled ks r.1).1) bs)
        → (d : ℕ) → last ≤ d → SameIn final ((inners_in final d).expr s.one) bs) held.is (s.first.holds n (omega arith)) in
        let iteration = iteration_ended final n last (omega (arith, s.before.nodes, s.before.entries)) (settled held.new r.1).1
        (Some s.one) ends
        (settled held.new r.1).0 (es ++ fs) (settled_iteration final n held.new r.1 (es ++ fs) held.held) in
        expr_held s.second s.after (λ d le.
        subst (λ ks. SameIn final (of_contents (inners_in final d) ((settled ks r.1).0, Some s.one)) (es ++ fs)) (sym held.is)
        (iteration_all final last (settled held.new r.1).0 (Some s.one) (es ++ fs) iteration d le)))

    -- the type stands in front of the block
    pub typed_try_held : {p : ExprSteps} {t : Lowering TypeRefId} → Correct p (Holds an_expr fs) → Correct t (Holds a_type es)
        → Correct (typed_try_form at p t) (Holds an_expr (es ++ fs))
    unfolding typed_try_form
    typed_try_held hp ht = correct_as (correct_bind hp (λ b. correct_bind correct_made_number (λ n. correct_bind ht
        (λ k. correct_bind (bind_held Unannotated n) (λ p. correct_bind (name_held n)
        (λ e. correct_alloc_desugared (bound_block p k b e) (Some at)))))))
        (λ final ps m m' i g row. let s = row.second in let u = s.second in let q = u.second in let r = q.second in
        expr_held r.second r.after (λ d le. let k = inners_in final d in
        same_bodies final (of_expr k (bound_block q.one u.one row.one r.one)) (front_is es fs)
        (same_append final ((k.pat q.one ++ (k.type u.one ++ (k.expr row.one ++ []))) ++ []) (k.expr r.one) ((es ++ (fs ++ [])) ++ []) []
        (same_append final (k.pat q.one ++ (k.type u.one ++ (k.expr row.one ++ []))) [] (es ++ (fs ++ [])) []
        (same_append final (k.pat q.one) (k.type u.one ++ (k.expr row.one ++ [])) [] (es ++ (fs ++ []))
        (q.first.same d (omega (arith, le, r.before.nodes, r.before.entries)))
        (same_append final (k.type u.one) (k.expr row.one ++ []) es (fs ++ [])
        (u.first.same d (omega (arith, le, q.before.nodes, q.before.entries, r.before.nodes, r.before.entries)))
        (same_append final (k.expr row.one) [] fs []
        (row.first.same d (omega (
          arith,
          le,
          s.before.nodes,
          s.before.entries,
          u.before.nodes,
          u.before.entries,
          q.before.nodes,
          q.before.entries,
          r.before.nodes,
          r.before.entries,
        ))) tt))) tt) (r.first.same d le))))
      where
        front_is : (es fs : Bodies) → ((es ++ (fs ++ [])) ++ []) ++ [] ≡ es ++ fs
        front_is es fs = append-nil _ ∙ (append-nil _ ∙ ap (λ bs. es ++ bs) (append-nil fs))
