-- What a `for` becomes reaches and holds what its parts do, and what is made up, each once. Its pattern lies deeper than what stands around
-- the loop.
use Rattle.std.proofs.Common.{ℕ, ◌+◌, ◌≤◌, false, [], ◌∷◌, Option, Some, None, arith}
use Rattle.hir_binding.specs.declared.binding.BindingAnnotation.TheVariants.{Mutable}
use Rattle.hir_store.specs.Pointers.{Pointer}
use Rattle.hir_store.specs.declared.hir.Expr.TheVariants as hir
use Rattle.hir_store.specs.declared.hir.LoopSource.TheVariants.{ForLoop}
use Rattle.hir_store.specs.declared.hir.MatchArm.{MatchArm}
use Rattle.hir_store.specs.declared.ids.ExprId.{ExprId}
use Rattle.hir_store.specs.declared.ids.LangItemId.{LangItemId}
use Rattle.hir_store.specs.declared.ids.PatId.{PatId}
use Rattle.hir_store.specs.declared.pat.Pat.TheVariants as pat
use Rattle.hir_store.specs.declared.path.Path.TheVariants.{LangItem}
use Rattle.hir_env.specs.ResolvedTree.{ForItems, Label}
use Rattle.hir_lower_builder.specs.Forms.{ExprSteps, root_hygiene}
use Rattle.hir_lower_builder.specs.Lowering.{Lowering, ◌>>=◌, alloc_desugared}
use Rattle.hir_lower_builder.specs.Made.{item_pat, arm_for, only_tail, made_reference_form, next_form, done_arm_form, gives_arm_form}
use Rattle.hir_lower_builder.specs.Made.{for_iteration_form, made_loop_form, for_form}
use Rattle.spec_semantics.specs.Inner as inner
use Rattle.spec_semantics.specs.Inner.{all_of}
use Rattle.thm_semantics.specs.Reached.{of_arms}
use Rattle.thm_generics.proofs.Steps.{tracks_made_number}
use Rattle.thm_logic.proofs.Steps.{mark}
use Rattle.thm_type_result.proofs.Asked.{Correct, correct_as, correct_bind}
use Rattle.thm_type_result.proofs.Weighed.{View, Cost, free, beside, an_expr, a_pat, in_expr, DeepView}
use Rattle.thm_type_result.proofs.Weighing.{Adds, adds_any, adds_beside, adds_expr, adds_made, adds_opened, adds_pat, adds_pure, adds_then}
use Rattle.thm_type_result.proofs.Weighing.{came_of, deep_before, still_deep}
use Rattle.thm_type_result.proofs.InsideForms.{both, block_less}
use Rattle.thm_type_result.proofs.InsidePats.{an_arm, arms_are, arm_less}
use Rattle.thm_type_result.proofs.InsideMade.{item_pat_less, made_bind_adds, made_path_adds, item_call_adds, two_arms_less}

only_tail_less : (e : ExprId) (v : View) → in_expr (only_tail e) v ≤ an_expr e v
only_tail_less e v = let x = block_less false None None [] (Some e) v in omega (arith, x)

-- of an arm without a guard
plain_arm_less : (p : PatId) (e : ExprId) (v : View) → an_arm (arm_for p e) v ≤ a_pat p v + an_expr e v
plain_arm_less p e v = let x = arm_less p None e v in omega (arith, x)

one_arm_less : (i : ExprId) (q : PatId) (l : ExprId) (v : View)
    → in_expr (hir.Match i (arm_for q l ∷ [])) v ≤ (an_expr i v + a_pat q v) + an_expr l v
one_arm_less i q l v =
    let arms = arm_for q l ∷ [] in
    let x = both v (v.reach i) (of_arms v.reach arms) (v.held.expr i) (all_of (inner.of_arm v.held) arms) in
    let y = arms_are arms v in
    let z = plain_arm_less q l v in omega (arith, x, y, z)

module _ (at : Pointer) where
  next_adds : (item : LangItemId) (n : ℕ) → Correct (next_form at item n) (Adds free an_expr)
  unfolding next_form made_reference_form
  next_adds item n = adds_then (adds_then (made_path_adds at n) (λ e. adds_made _ (Some at) (λ v. omega arith)))
      (λ r. item_call_adds at (Some item) r)

  done_adds : (item : LangItemId) → Correct (done_arm_form at item) (Adds free an_arm)
  unfolding done_arm_form
  done_adds item = adds_then (adds_pat (pat.Path (LangItem item) root_hygiene) None (λ v. omega arith))
      (λ p. adds_then (adds_beside (a_pat p) (adds_made (hir.Break None None) (Some at) (λ v. omega arith)))
      (λ e. adds_pure (arm_for p e) (plain_arm_less p e)))

  gives_adds : (item : LangItemId) (p : PatId) {body : ExprSteps} → Correct body (Adds free an_expr)
      → Correct (gives_arm_form item p body) (Adds (a_pat p) an_arm)
  unfolding gives_arm_form
  gives_adds item p h = adds_then (adds_pat (item_pat item p) None (item_pat_less item p))
      (λ q. adds_then (adds_beside (a_pat q) h) (λ e. adds_pure (arm_for q e) (plain_arm_less q e)))

  choice_adds : (c : ExprId) (a b : MatchArm)
      → Correct (alloc_desugared (hir.Match c (a ∷ b ∷ [])) (Some at) >>= (λ e. alloc_desugared (only_tail e) (Some at)))
      (Adds (beside (beside (an_expr c) (an_arm a)) (an_arm b)) an_expr)
  choice_adds c a b = adds_then (adds_made (hir.Match c (a ∷ b ∷ [])) (Some at) (two_arms_less at c a b))
      (λ e. adds_made (only_tail e) (Some at) (only_tail_less e))

  for_iteration_adds : (items : ForItems) (n : ℕ) (p : PatId) {body : ExprSteps} → Correct body (Adds free an_expr)
      → Correct (for_iteration_form at items n p body) (Adds (a_pat p) an_expr)
  unfolding for_iteration_form
  for_iteration_adds items n p h = correct_as
      (correct_bind (next_adds items.next n) (λ c. correct_bind (done_adds items.is_done)
      (λ a. correct_bind (gives_adds items.gives p h) (λ b. choice_adds c a b))))
      (λ final b0 e0 i g row.
      let q = row.second in
      let s = q.second in record {
        asks = λ all number.
            let f = row.first.asks all number in
            let h = q.first.asks all number in
            let j = s.first.asks all number in
            let l = s.second.asks all number in omega (arith, f, h, j, l);
        earlier = λ all number reach hold place d.
            let far = s.after.exprs in
            let y = s.second.earlier all number reach hold place d in
            let seen : ℕ × ℕ × ℕ = (y.reach, y.hold, y.place) in
            let deep : DeepView (mark s.middle) all seen = record {
              all_of = omega (arith, d.all_of, far);
              deep = y.deep;
              inside = y.inside;
              placed = y.placed;
            } in
            let x = s.first.earlier all number y.reach y.hold y.place deep in
            let between = deep_before seen s.before deep in
            let w = q.first.earlier all number y.reach y.hold y.place between in
            let u = row.first.earlier all number y.reach y.hold y.place (deep_before seen q.before between) in
            let one = row.before in
            let two = q.before in record {
              reach = x.reach;
              hold = x.hold;
              place = x.place;
              deep = omega (arith, x.deep, one.exprs, two.exprs);
              inside = omega (arith, x.inside, one.exprs, one.types, one.pats, two.exprs, two.types, two.pats);
              placed = omega (arith, x.placed, one.pats, two.pats);
              counted =
                  let a = y.counted in
                  let b = x.counted in
                  let c = w.counted in
                  let e = u.counted in omega (arith, a, b, c, e);
            };
      })

  made_loop_adds : (label : Option Label) {was : Cost} {body : ExprSteps} → Correct body (Adds was an_expr)
      → Correct (made_loop_form at label body) (Adds was an_expr)
  unfolding made_loop_form
  made_loop_adds None h = adds_then h (λ b. adds_made (hir.Loop b None ForLoop) (Some at) (λ v. omega arith))
  made_loop_adds (Some l) h =
      adds_opened l (λ n. h) (λ n b. adds_made (hir.Loop b (Some n) ForLoop) (Some at) (λ v. omega arith))

pub for_adds : (at head_at : Pointer) (items : ForItems) (label : Option Label) {head : ExprSteps} {pattern : Lowering PatId}
    {body : ExprSteps} → Correct head (Adds free an_expr) → Correct pattern (Adds free a_pat) → Correct body (Adds free an_expr)
    → Correct (for_form at head_at items label head pattern body) (Adds free an_expr)
unfolding for_form
for_adds at head_at items label hh hp hb = correct_as
    (correct_bind hh (λ h. correct_bind (item_call_adds head_at (Some items.into_iter) h)
    (λ i. correct_bind hp (λ p. correct_bind (adds_any {was = free} tracks_made_number) (λ n. correct_bind (made_bind_adds Mutable n)
    (λ q. correct_bind (made_loop_adds at label (for_iteration_adds at items n p hb))
    (λ l. adds_expr {was = beside (beside (an_expr i) (a_pat q)) (an_expr l)} (hir.Match i (arm_for q l ∷ [])) (Some at)
    (one_arm_less i q l))))))))
    (λ final b0 e0 i g row. record {
      asks = λ all k.
          let called = row.second in
          let fits = called.second in
          let counts = fits.second in
          let binds = counts.second in
          let loops = binds.second in
          let a = row.first.asks all k in
          let b = called.first.asks all k in
          let c = fits.first.asks all k in
          let e = counts.first.asks all k in
          let f = binds.first.asks all k in
          let h = loops.first.asks all k in
          let j = loops.second.asks all k in omega (arith, a, b, c, e, f, h, j);
      earlier = λ all k reach hold place d.
          let called = row.second in
          let fits = called.second in
          let counts = fits.second in
          let binds = counts.second in
          let loops = binds.second in
          let far = loops.after.exprs in
          let y = loops.second.earlier all k reach hold place d in
          let seen : ℕ × ℕ × ℕ = (y.reach, y.hold, y.place) in
          let deep : DeepView (mark loops.middle) all seen = record {
            all_of = omega (arith, d.all_of, far);
            deep = y.deep;
            inside = y.inside;
            placed = y.placed;
          } in
          let x = loops.first.earlier all k y.reach y.hold y.place deep in
          let looked : ℕ × ℕ × ℕ = (x.reach, x.hold, x.place) in
          let bound = deep_before seen loops.before deep in
          let deeper : DeepView (mark binds.middle) all looked =
          record { all_of = bound.all_of; deep = x.deep; inside = x.inside; placed = x.placed } in
          let u = binds.first.earlier all k y.reach y.hold y.place bound in
          let fitting = deep_before looked counts.before (deep_before looked binds.before deeper) in
          let w = fits.first.earlier all k x.reach x.hold x.place fitting in
          let made = deep_before seen fits.before (deep_before seen counts.before (deep_before seen binds.before bound)) in
          let s = called.first.earlier all k y.reach y.hold y.place made in
          let near = called.before.exprs in
          let of_head : DeepView (mark row.middle) all (s.reach, s.hold, s.place) = record {
            all_of = omega (arith, made.all_of, near);
            deep = s.deep;
            inside = s.inside;
            placed = s.placed;
          } in
          let t = row.first.earlier all k s.reach s.hold s.place of_head in
          let n = came_of {A = ℕ} counts.first all k seen (deep_before seen binds.before bound) in
          still_deep reach hold place g d (
          let a = y.counted in
          let b = x.counted in
          let c = u.counted in
          let e = w.counted in
          let f = s.counted in
          let o = t.counted in omega (arith, a, b, c, e, f, o, n));
    })
