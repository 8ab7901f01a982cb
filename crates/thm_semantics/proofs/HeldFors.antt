-- What `for` becomes holds what its parts hold: nothing that is made up holds a body.
use Rattle.std.proofs.Common.{refl, ℕ, ◌+◌, ◌≤◌, List, [], ◌∷◌, ◌++◌, append-nil, Option, Some, None, arith}
use Rattle.hir_binding.specs.declared.binding.BindingAnnotation.TheVariants.{Mutable}
use Rattle.hir_store.specs.Pointers.{Pointer}
use Rattle.hir_store.specs.Stored.{Stored}
use Rattle.hir_store.specs.declared.hir.Expr.TheVariants as hir
use Rattle.hir_store.specs.declared.hir.LoopSource.TheVariants.{ForLoop}
use Rattle.hir_store.specs.declared.hir.Mutability.TheVariants.{Mut}
use Rattle.hir_store.specs.declared.hir.Rawness.TheVariants.{Ref}
use Rattle.hir_store.specs.declared.ids.LangItemId.{LangItemId}
use Rattle.hir_store.specs.declared.ids.PatId.{PatId}
use Rattle.hir_store.specs.declared.pat.Pat.TheVariants as pat
use Rattle.hir_store.specs.declared.path.Path.TheVariants.{LangItem}
use Rattle.hir_env.specs.ResolvedTree.{ForItems, Label}
use Rattle.hir_lower_builder.specs.Forms.{ExprSteps, root_hygiene}
use Rattle.hir_lower_builder.specs.Lowering.{Lowering}
use Rattle.hir_lower_builder.specs.Made.{arm_for, done_arm_form, for_form, for_iteration_form, gives_arm_form, item_call_form}
use Rattle.hir_lower_builder.specs.Made.{item_or_missing}
use Rattle.hir_lower_builder.specs.Made.{item_pat, made_call, made_loop_form, made_reference_form, next_form, only_tail}
use Rattle.spec_semantics.specs.Inner.{Bodies, of_arm}
use Rattle.thm_logic.proofs.Frames.{Frame, loop_at}
use Rattle.thm_logic.proofs.MadeSteps.{correct_alloc_desugared, correct_made_number}
use Rattle.thm_logic.proofs.PatSteps.{correct_alloc_pat}
use Rattle.thm_logic.proofs.Steps.{Mark, Correct, correct_alloc, correct_as, correct_bind, correct_opened, correct_pure}
use Rattle.thm_semantics.proofs.HeldTries.{an_arm, bind_held, called_is, item_is, made_held, name_held}
use Rattle.thm_semantics.proofs.Holding.{Holds, Ids, SameIn, a_pat, an_expr, expr_held, inners_in, pat0, pat_held}
use Rattle.thm_semantics.proofs.Holding.{same_append, same_ids}

-- what holds these bodies behind those of a pattern that was stored by then
record Behind {A : Type 0} (ids : Ids A) (p : PatId) (fs : Bodies) (final : Stored) (ps : List Frame) (m m' : Mark) (a : A) : Type 0 where
  same : (n : ℕ) → n ≤ m.nodes + m.entries → (es : Bodies) → ((d : ℕ) → n ≤ d → SameIn final ((inners_in final d).pat p) es)
      → (d : ℕ) → m'.nodes + m'.entries ≤ d → SameIn final (ids (inners_in final d) a) (es ++ fs)

module _ (at : Pointer) where
  next_held : (item : LangItemId) (n : ℕ) → Correct (next_form at item n) (Holds an_expr [])
  unfolding next_form made_reference_form item_call_form
  next_held item n = correct_as (correct_bind (correct_bind (name_held at n) (λ e. correct_alloc_desugared (hir.Ref Ref Mut e) (Some at)))
      (λ r. correct_bind (made_held (item_or_missing (Some item)) (Some at) (item_is (Some item)))
      (λ c. correct_alloc_desugared (made_call c r) (Some at))))
      (λ final ps m m' i g row. let r = row.first in let c = row.second in
      let reference : Holds an_expr [] final ps m row.middle row.one = expr_held r.second r.after (λ d le. r.first.same d le) in
      expr_held c.second c.after (λ d le. let k = inners_in final d in
      same_ids final [] (called_is k c.one row.one) (same_append final (k.expr c.one) (k.expr row.one) [] [] (c.first.same d le)
      (reference.same d (omega (arith, le, c.before.nodes, c.before.entries))))))

  done_arm_held : (item : LangItemId) → Correct (done_arm_form at item) (Holds an_arm [])
  unfolding done_arm_form
  done_arm_held item = correct_as (correct_bind (pat0 (pat.Path (LangItem item) root_hygiene) None (λ r. refl))
      (λ p. correct_bind (made_held (hir.Break None None) (Some at) (λ r. refl)) (λ e. correct_pure (arm_for p e))))
      (λ final ps m m' a g row. let e = row.second in rw (e.second.is, e.second.still) (record {
        same = λ d le. let r = inners_in final d in same_append final (r.pat row.one) (r.expr e.one) [] []
            (row.first.same d (omega (arith, le, e.before.nodes, e.before.entries))) (e.first.same d le);
      }))

  module _ {fs : Bodies} where
    gives_arm_held : (item : LangItemId) (p : PatId) {b : ExprSteps} → Correct b (Holds an_expr fs)
        → Correct (gives_arm_form item p b) (Behind an_arm p fs)
    unfolding gives_arm_form
    gives_arm_held item p h = correct_as (correct_bind (correct_alloc_pat (item_pat item p) None)
        (λ q. correct_bind h (λ e. correct_pure (arm_for q e))))
        (λ final ps m m' a g row. let e = row.second in rw (e.second.is, e.second.still) (record {
          same = λ n low es held d le.
              let pattern : Holds a_pat es final ps m row.middle row.one = pat_held row.first (λ c ge. let r = inners_in final c in
              same_ids final es (append-nil (r.pat p)) (held c (omega (arith, low, ge)))) in
              let r = inners_in final d in same_append final (r.pat row.one) (r.expr e.one) es fs
              (pattern.same d (omega (arith, le, e.before.nodes, e.before.entries))) (e.first.same d le);
        }))

    for_iteration_held : (items : ForItems) (n : ℕ) (p : PatId) {b : ExprSteps} → Correct b (Holds an_expr fs)
        → Correct (for_iteration_form at items n p b) (Behind an_expr p fs)
    unfolding for_iteration_form
    for_iteration_held items n p h = correct_as (correct_bind (next_held items.next n) (λ c. correct_bind (done_arm_held items.is_done)
        (λ a. correct_bind (gives_arm_held items.gives p h)
        (λ b. correct_bind (correct_alloc_desugared (hir.Match c (a ∷ b ∷ [])) (Some at))
        (λ e. correct_alloc_desugared (only_tail e) (Some at))))))
        (λ final ps m m' i g row. let u = row.second in let t = u.second in let e = t.second in record {
          same = λ n low es held.
              let matched : Holds an_expr (es ++ fs) final ps m e.middle e.one = expr_held e.first e.before (λ d le.
              let k = inners_in final d in
              same_append final (k.expr row.one) (of_arm k u.one ++ (of_arm k t.one ++ [])) [] (es ++ fs)
              (row.first.same d (omega (arith, le, u.before.nodes, u.before.entries, t.before.nodes, t.before.entries)))
              (same_append final (of_arm k u.one) (of_arm k t.one ++ []) [] (es ++ fs)
              (u.first.same d (omega (arith, le, t.before.nodes, t.before.entries)))
              (same_ids final (es ++ fs) (append-nil (of_arm k t.one)) (t.first.same n
              (omega (arith, low, row.before.nodes, row.before.entries, u.before.nodes, u.before.entries)) es held d le)))) in
              let whole : Holds an_expr (es ++ fs) final ps m m' i = expr_held e.second e.after (λ d le. matched.same d le) in whole.same;
        })

    made_loop_held : (label : Option Label) (p : PatId) {b : ExprSteps} → Correct b (Behind an_expr p fs)
        → Correct (made_loop_form at label b) (Behind an_expr p fs)
    unfolding made_loop_form
    made_loop_held None p h = correct_as (correct_bind h (λ i. correct_alloc_desugared (hir.Loop i None ForLoop) (Some at)))
        (λ final ps m m' i g row. record {
          same = λ n low es held.
              let whole : Holds an_expr (es ++ fs) final ps m m' i = expr_held row.second row.after (λ d le.
              row.first.same n low es held d le) in whole.same;
        })
    made_loop_held (Some l) p h = correct_as
        (correct_opened loop_at l (λ n ps. refl) (λ n. h) (λ n i. correct_alloc_desugared (hir.Loop i (Some n) ForLoop) (Some at)))
        (λ final ps m m' i g row. let nodes = row.nodes in let entries = row.entries in record {
          same = λ n low es held.
              let whole : Holds an_expr (es ++ fs) final ps m m' i = expr_held row.second row.after (λ d le.
              row.first.same n (omega (arith, low)) es held d le) in whole.same;
        })

module _ {es fs gs : Bodies} where
  -- the pattern stands in front of the loop
  pub for_held : (at head_at : Pointer) (items : ForItems) (label : Option Label) {h : ExprSteps} {p : Lowering PatId} {b : ExprSteps}
      → Correct h (Holds an_expr es) → Correct p (Holds a_pat fs) → Correct b (Holds an_expr gs)
      → Correct (for_form at head_at items label h p b) (Holds an_expr (es ++ (fs ++ gs)))
  unfolding for_form item_call_form
  for_held at head_at items label hh hp hb = correct_as (correct_bind hh (λ h. correct_bind (correct_bind
      (made_held (item_or_missing (Some items.into_iter)) (Some head_at) (item_is (Some items.into_iter)))
      (λ c. correct_alloc_desugared (made_call c h) (Some head_at))) (λ i. correct_bind hp (λ p. correct_bind correct_made_number
      (λ n. correct_bind (bind_held Mutable n) (λ q. correct_bind (made_loop_held at label p (for_iteration_held at items n p hb))
      (λ l. correct_alloc (hir.Match i (arm_for q l ∷ [])) (Some at))))))))
      (λ final ps m m' i g row. let s = row.second in let c = s.first in let u = s.second in let v = u.second in let w = v.second in
      let x = w.second in
      let called : Holds an_expr es final ps m s.middle s.one = expr_held c.second c.after (λ d le. let k = inners_in final d in
      same_ids final es (called_is k c.one row.one) (same_append final (k.expr c.one) (k.expr row.one) [] es (c.first.same d le)
      (row.first.same d (omega (arith, le, c.before.nodes, c.before.entries))))) in
      let numbered : u.middle.nodes + u.middle.entries ≤ v.middle.nodes + v.middle.entries =
      omega (arith, v.before.nodes, v.before.entries) in
      let bound : v.middle.nodes + v.middle.entries ≤ w.middle.nodes + w.middle.entries =
      omega (arith, w.before.nodes, w.before.entries) in
      let begun : w.middle.nodes + w.middle.entries ≤ x.middle.nodes + x.middle.entries =
      omega (arith, x.before.nodes, x.before.entries) in
      let low : u.middle.nodes + u.middle.entries ≤ w.middle.nodes + w.middle.entries = omega (arith, numbered, bound) in
      expr_held x.second x.after (λ d le. let k = inners_in final d in
      same_append final (k.expr s.one) ((k.pat w.one ++ k.expr x.one) ++ []) es (fs ++ gs)
      (called.same d (omega (arith, le, u.before.nodes, u.before.entries, low, begun)))
      (same_ids final (fs ++ gs) (append-nil (k.pat w.one ++ k.expr x.one))
      (same_append final (k.pat w.one) (k.expr x.one) [] (fs ++ gs) (w.first.same d (omega (arith, le, begun)))
      (x.first.same (u.middle.nodes + u.middle.entries) low fs u.first.same d le)))))
