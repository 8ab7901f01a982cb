-- What a `for` becomes stands for it: what is made up, beside what its parts became.
use Rattle.std.proofs.Common.{refl, ℕ, [], ◌∷◌, Option, Some, None}
use Rattle.hir_binding.specs.declared.binding.BindingAnnotation.TheVariants.{Mutable}
use Rattle.hir_store.specs.Pointers.{Pointer}
use Rattle.hir_store.specs.Stored.{store_of, map_of}
use Rattle.hir_store.specs.declared.hir.Expr.TheVariants as hir
use Rattle.hir_store.specs.declared.hir.LoopSource.TheVariants.{ForLoop}
use Rattle.hir_store.specs.declared.hir.Mutability.TheVariants.{Mut}
use Rattle.hir_store.specs.declared.hir.Rawness.TheVariants.{Ref}
use Rattle.hir_store.specs.declared.ids.ExprId.{ExprId}
use Rattle.hir_store.specs.declared.ids.LangItemId.{LangItemId}
use Rattle.hir_store.specs.declared.ids.PatId.{PatId}
use Rattle.hir_store.specs.declared.pat.Pat.TheVariants as pat
use Rattle.hir_store.specs.declared.path.Path.TheVariants.{LangItem}
use Rattle.hir_env.specs.ResolvedTree.{ForItems, Label}
use Rattle.hir_lower_builder.specs.Forms.{ExprSteps, root_hygiene}
use Rattle.hir_lower_builder.specs.Lowering.{Lowering}
use Rattle.hir_lower_builder.specs.Made.{item_pat, arm_for, only_tail, made_reference_form, next_form, done_arm_form, gives_arm_form}
use Rattle.hir_lower_builder.specs.Made.{for_iteration_form, made_loop_form, for_form}
use Rattle.thm_logic.proofs.Frames.{loop_at}
use Rattle.thm_body_result.specs.Corresponds.{InLabel}
use Rattle.thm_body_result.specs.CorrespondsMade.{CorrespondsNext, CorrespondsDoneArm, CorrespondsGivesArm, CorrespondsToIteration}
use Rattle.thm_body_result.specs.CorrespondsMade.{CorrespondsToLoop, CorrespondsTo}
use Rattle.thm_body_result.proofs.Lasting.{Correct, correct_alloc, correct_alloc_pat, correct_as, correct_bind, correct_made_number}
use Rattle.thm_body_result.proofs.Lasting.{correct_opened, correct_pure}
use Rattle.thm_body_result.proofs.Leading.{shown_as, shown_after, shown_before, shown_both, moved_pat, moved_same, moved_to}
use Rattle.thm_body_result.proofs.MadeStanding.{made_corresponds, made_path_corresponds, item_call_corresponds, made_pat_at}
use Rattle.thm_body_result.proofs.MadeStanding.{made_bind_corresponds}
use Rattle.thm_body_result.proofs.Standing.{Of, Shows, expr_at, label_at, moved_pure, own, own_label}

next_corresponds : (at : Pointer) (item : LangItemId) (n : ℕ)
    → Correct (next_form at item n) (Shows (λ final rs i. CorrespondsNext (store_of final) (map_of final) at item n i))
unfolding next_form made_reference_form
next_corresponds at item n = correct_as
    (correct_bind (correct_bind (made_path_corresponds at n) (λ g. made_corresponds (hir.Ref Ref Mut g) at))
    (λ r. item_call_corresponds at (Some item) r))
    (λ final ps m m' i g row.
    let made = row.first in
    let parts = shown_both (shown_both made.first.shown made.second.shown) row.second.shown in
    record { shown = shown_as parts (λ ws y. (made.one, row.one, y)) })

-- the arms

done_corresponds : (at : Pointer) (item : LangItemId)
    → Correct (done_arm_form at item) (Shows (λ final rs a. CorrespondsDoneArm (store_of final) (map_of final) at item a))
unfolding done_arm_form
done_corresponds at item = correct_as
    (correct_bind (correct_alloc_pat (pat.Path (LangItem item) root_hygiene) None)
    (λ q. correct_bind (made_corresponds (hir.Break None None) at) (λ e. correct_pure (arm_for q e))))
    (λ final ps m m' a g row.
    let r = row.second in
    let found = moved_to row.first.stored (moved_pat (pat.Path (LangItem item) root_hygiene) None m.stored tt) in
    record {
      shown = shown_as (shown_after found (shown_before r.first.shown (moved_pure r.second.still)))
          (λ ws y. (row.one, r.one, r.second.is, made_pat_at row.first, y));
    })

gives_corresponds : (item : LangItemId) (p : PatId) {body : ExprSteps} {B : Of ExprId} → Correct body (Shows B)
    → Correct (gives_arm_form item p body)
    (Shows (λ final rs a. CorrespondsGivesArm (store_of final) (map_of final) item p (λ x. B final rs x) a))
unfolding gives_arm_form
gives_corresponds item p h = correct_as
    (correct_bind (correct_alloc_pat (item_pat item p) None) (λ q. correct_bind h (λ e. correct_pure (arm_for q e))))
    (λ final ps m m' a g row.
    let r = row.second in
    let found = moved_to row.first.stored (moved_pat (item_pat item p) None m.stored tt) in
    record {
      shown = shown_as (shown_after found (shown_before r.first.shown (moved_pure r.second.still)))
          (λ ws y. (row.one, r.one, r.second.is, made_pat_at row.first, y));
    })

-- the turn, the loop, and the match around it

for_iteration_corresponds : (at : Pointer) (items : ForItems) (n : ℕ) (p : PatId) {body : ExprSteps} {B : Of ExprId}
    → Correct body (Shows B)
    → Correct (for_iteration_form at items n p body)
    (Shows (λ final rs i. CorrespondsToIteration (store_of final) (map_of final) at items n p (λ x. B final rs x) i))
unfolding for_iteration_form
for_iteration_corresponds at items n p h = correct_as
    (correct_bind (next_corresponds at items.next n) (λ c. correct_bind (done_corresponds at items.is_done)
    (λ a. correct_bind (gives_corresponds items.gives p h)
    (λ b. correct_bind (made_corresponds (hir.Match c (a ∷ b ∷ [])) at) (λ e. made_corresponds (only_tail e) at)))))
    (λ final ps m m' i g row.
    let q = row.second in
    let s = q.second in
    let t = s.second in
    let last = shown_both s.first.shown (shown_both t.first.shown t.second.shown) in
    let parts = shown_both row.first.shown (shown_both q.first.shown last) in
    record { shown = shown_as parts (λ ws y. (row.one, q.one, s.one, t.one, y)) })

made_loop_corresponds : (at : Pointer) (label : Option Label) {body : ExprSteps} {B : Of ExprId} → Correct body (Shows B)
    → Correct (made_loop_form at label body)
    (Shows (λ final rs i. InLabel (store_of final) (map_of final) rs label
    (λ inner k. CorrespondsToLoop (store_of final) (map_of final) at k (λ t. B final inner t) i)))
unfolding made_loop_form
made_loop_corresponds at None h = correct_as (correct_bind h (λ b. made_corresponds (hir.Loop b None ForLoop) at))
    (λ final ps m m' i g row.
    record { shown = shown_as (shown_both row.first.shown row.second.shown) (λ ws y. (row.one, y)) })
made_loop_corresponds at (Some l) h = correct_as
    (correct_opened loop_at l (λ n ps. refl) (λ n. h) (λ n b. made_corresponds (hir.Loop b (Some n) ForLoop) at))
    (λ final ps m m' i g row.
    let inside = shown_as (shown_both row.first.shown row.second.shown) (λ ws y. (row.one, y)) in
    record { shown = shown_as (shown_both (own_label row) inside) (λ ws y. (row.number, label_at row, y)) })

pub for_corresponds : (at head_at : Pointer) (items : ForItems) (label : Option Label) {head : ExprSteps} {pattern : Lowering PatId}
    {body : ExprSteps} {H : Of ExprId} {P : Of PatId} {B : Of ExprId} → Correct head (Shows H) → Correct pattern (Shows P)
    → Correct body (Shows B)
    → Correct (for_form at head_at items label head pattern body)
    (Shows (λ final rs i. CorrespondsTo (store_of final) (map_of final) at head_at items (λ x. H final rs x) (λ q. P final rs q)
    (λ n q l. InLabel (store_of final) (map_of final) rs label (λ inner k. CorrespondsToLoop (store_of final) (map_of final) at k
    (λ t. CorrespondsToIteration (store_of final) (map_of final) at items n q (λ x. B final inner x) t) l)) i))
unfolding for_form
for_corresponds at head_at items label hh hp hb = correct_as
    (correct_bind hh (λ h. correct_bind (item_call_corresponds head_at (Some items.into_iter) h)
    (λ i. correct_bind hp (λ p. correct_bind correct_made_number (λ n. correct_bind (made_bind_corresponds Mutable n)
    (λ q. correct_bind (made_loop_corresponds at label (for_iteration_corresponds at items n p hb))
    (λ l. correct_alloc (hir.Match i (arm_for q l ∷ [])) (Some at))))))))
    (λ final ps m m' i g row.
    let r = row.second in
    let s = r.second in
    let t = s.second in
    let u = t.second in
    let v = u.second in
    let last = shown_both u.first.shown (shown_both v.first.shown (own v.second)) in
    let inner = shown_both s.first.shown (shown_after (moved_same t.first.stored) last) in
    let parts = shown_both row.first.shown (shown_both r.first.shown inner) in
    record { shown = shown_as parts (λ ws y. (row.one, r.one, s.one, t.one, u.one, v.one, expr_at v.second, y)) })
