-- A `for` names the patterns and types that are made up for it or are written there, each once. Its pattern is named inside of what stands
-- around the loop.
use Rattle.std.proofs.Common.{arith, ℕ, [], ◌∷◌, ◌++◌, Option, Some, None}
use Rattle.hir_binding.specs.declared.binding.BindingAnnotation.TheVariants.{Mutable}
use Rattle.hir_store.specs.Pointers.{Pointer}
use Rattle.hir_store.specs.declared.hir.Expr.TheVariants as hir
use Rattle.hir_store.specs.declared.hir.LoopSource.TheVariants.{ForLoop}
use Rattle.hir_store.specs.declared.hir.MatchArm.{MatchArm}
use Rattle.hir_store.specs.declared.ids.ExprId.{ExprId}
use Rattle.hir_store.specs.declared.ids.LangItemId.{LangItemId}
use Rattle.hir_store.specs.declared.ids.PatId.{PatId}
use Rattle.hir_store.specs.declared.pat.Pat.TheVariants as pat
use Rattle.hir_store.specs.declared.path.Path.TheVariants.{LangItem}
use Rattle.hir_env.specs.ResolvedTree.{ForItems, Label}
use Rattle.hir_lower_builder.specs.Forms.{ExprSteps, root_hygiene}
use Rattle.hir_lower_builder.specs.Lowering.{Lowering, ◌>>=◌, alloc_desugared}
use Rattle.hir_lower_builder.specs.Made.{item_pat, arm_for, only_tail, made_reference_form, next_form, done_arm_form, gives_arm_form}
use Rattle.hir_lower_builder.specs.Made.{for_iteration_form, made_loop_form, for_form}
use Rattle.thm_semantics.specs.Reached.{Between}
use Rattle.thm_logic.proofs.Steps.{mark}
use Rattle.thm_type_result.specs.Named.{of_bindings_alone}
use Rattle.thm_type_result.proofs.Counted.{times_append}
use Rattle.thm_type_result.proofs.Adding.{Numbers, none, look, each_wider, both, made_then}
use Rattle.thm_type_result.proofs.Asked.{Correct, Adds, Quiet, adds_pure, adds_then, adds_quiet, adds_expr, adds_made, adds_pat}
use Rattle.thm_type_result.proofs.Asked.{correct_as, correct_bind, longer}
use Rattle.thm_type_result.proofs.Naming.{opened_names, quiet_then, quiet_made, quiet_number}
use Rattle.thm_type_result.proofs.NamingMade.{an_arm, made_bind_names, made_path_quiet, item_call_quiet, two_arms}
use Rattle.thm_type_result.proofs.Owned.{a_pat}

-- What was named before is named by a step in the middle, and what the first step names only by the last one, at another depth.
adds_around : {A B C : Type 0} {was : Numbers} {one : A → Numbers} {two : A → B → Numbers} {now : C → Numbers} {p : Lowering A}
    {q : A → Lowering B} {r : A → B → Lowering C} → Correct p (Adds none one) → ((a : A) → Correct (q a) (Adds was (two a)))
    → ((a : A) (b : B) → Correct (r a b) (Adds (λ l. one a l ++ two a b l) now))
    → Correct (p >>= (λ a. q a >>= (λ b. r a b))) (Adds was now)
adds_around {was = was} {one = one} {two = two} hp hq hr = correct_as (correct_bind hp (λ a. correct_bind (hq a) (λ b. hr a b)))
    (λ final old new c g row.
    let s = row.second in
    let mid = row.middle in
    let near = row.before.bindings in
    let then = s.before.bindings in record {
      bound = λ lo le t w.
          let l = of_bindings_alone in
          let x = row.first.bound lo le tt tt in
          let y = s.first.bound lo (omega (arith, le, near)) tt (each_wider lo (mark old).bindings (mark mid).bindings (was l) near w) in
          let kept = each_wider lo (mark mid).bindings (mark s.middle).bindings (one row.one l) then x.named in
          let z = s.second.bound lo (omega (arith, le, near, then)) tt
          (both (Between lo (mark s.middle).bindings) (one row.one l) (two row.one s.one l) kept y.named) in
          let first = made_then lo final (mark old) (mark mid) (mark s.middle) then x.made y.made in record {
            known = tt;
            named = z.named;
            made = made_then lo final (mark old) (mark s.middle) (mark new) s.after.bindings first z.made;
          };
      grown = λ sort d k.
          let x = row.first.grown sort d k in
          let y = s.first.grown sort d k in
          let z = s.second.grown sort d k in omega (arith, x, y, z);
      asks = λ l k.
          let x = row.first.asks l k in
          let y = s.first.asks l k in
          let z = s.second.asks l k in omega (arith, x, y, z);
      earlier = λ sort d all le le'.
          let z = s.second.earlier sort d all le le' in
          let far = longer sort s.after in
          let close = longer sort s.before in
          let y = s.first.earlier sort z.depth all z.deep (omega (arith, le', far)) in
          let deep = z.deep in
          let x = row.first.earlier sort z.depth all (omega (arith, deep, close)) (omega (arith, le', far, close)) in
          let inside = y.deep in
          let before = longer sort row.before in record {
            depth = y.depth;
            deep = omega (arith, inside, before);
            counted = λ k.
                let a = x.counted k in
                let b = y.counted k in
                let c = z.counted k in
                let l = look sort final z.depth in
                let e = times_append k (one row.one l) (two row.one s.one l) in omega (arith, a, b, c, e);
          };
    })

module _ (at : Pointer) where
  next_quiet : (item : LangItemId) (n : ℕ) → Correct (next_form at item n) Quiet
  unfolding next_form made_reference_form
  next_quiet item n = quiet_then (quiet_then (made_path_quiet at n) (λ e. quiet_made _ (Some at) (λ l k. omega arith)))
      (λ r. item_call_quiet at (Some item) r)

  done_names : (item : LangItemId) → Correct (done_arm_form at item) (Adds none an_arm)
  unfolding done_arm_form
  done_names item = adds_then (adds_pat (pat.Path (LangItem item) root_hygiene) None (λ l k. omega arith))
      (λ p. adds_then (adds_quiet (quiet_made (hir.Break None None) (Some at) (λ l k. omega arith)))
      (λ e. adds_pure (arm_for p e) (λ l k. omega arith)))

  gives_names : (item : LangItemId) (p : PatId) {body : ExprSteps} → Correct body Quiet
      → Correct (gives_arm_form item p body) (Adds (a_pat p) an_arm)
  unfolding gives_arm_form
  gives_names item p h = adds_then (adds_pat (item_pat item p) None (λ l k. let x = times_append k (l.pats p) [] in omega arith))
      (λ q. adds_then (adds_quiet h) (λ e. adds_pure (arm_for q e) (λ l k. omega arith)))

  choice_names : (c : ExprId) (a b : MatchArm)
      → Correct (alloc_desugared (hir.Match c (a ∷ b ∷ [])) (Some at) >>= (λ e. alloc_desugared (only_tail e) (Some at)))
      (Adds (λ l. an_arm a l ++ an_arm b l) (λ i. none))
  choice_names c a b = adds_then (adds_made (hir.Match c (a ∷ b ∷ [])) (Some at) (two_arms at c a b))
      (λ e. quiet_made (only_tail e) (Some at) (λ l k. omega arith))

  for_iteration_names : (items : ForItems) (n : ℕ) (p : PatId) {body : ExprSteps} → Correct body Quiet
      → Correct (for_iteration_form at items n p body) (Adds (a_pat p) (λ i. none))
  unfolding for_iteration_form
  for_iteration_names items n p h = adds_then (adds_quiet (next_quiet items.next n))
      (λ c. adds_around {two = λ a b. an_arm b} (done_names items.is_done) (λ a. gives_names items.gives p h) (λ a b. choice_names c a b))

  made_loop_names : (label : Option Label) {was : Numbers} {body : ExprSteps} → Correct body (Adds was (λ i. none))
      → Correct (made_loop_form at label body) (Adds was (λ i. none))
  unfolding made_loop_form
  made_loop_names None h = adds_then h (λ b. quiet_made (hir.Loop b None ForLoop) (Some at) (λ l k. omega arith))
  made_loop_names (Some l) h = opened_names l {one = λ i. none} (λ n. h)
      (λ n b. quiet_made (hir.Loop b (Some n) ForLoop) (Some at) (λ l k. omega arith))

pub for_quiet : (at head_at : Pointer) (items : ForItems) (label : Option Label) {head : ExprSteps} {pattern : Lowering PatId}
    {body : ExprSteps} → Correct head Quiet → Correct pattern (Adds none a_pat) → Correct body Quiet
    → Correct (for_form at head_at items label head pattern body) Quiet
unfolding for_form
for_quiet at head_at items label hh hp hb = quiet_then hh (λ h. quiet_then (item_call_quiet head_at (Some items.into_iter) h)
    (λ i. adds_then hp (λ p. adds_then (adds_quiet quiet_number) (λ n. adds_around {two = λ q l. none} (made_bind_names Mutable n)
    (λ q. made_loop_names at label (for_iteration_names at items n p hb))
    (λ q l. adds_expr (hir.Match i (arm_for q l ∷ [])) (Some at) (λ f k. omega arith))))))
