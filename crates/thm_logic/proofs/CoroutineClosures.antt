-- A closure whose body is a coroutine: all but its node stands behind a barrier, and no `yield` in it is one of the body around it.
use Rattle.std.proofs.Common.{◌≡◌, ◌∙◌, refl, sym, subst, List, [], ◌∷◌, Bool, Option, Some, Ok, Err}
use Rattle.hir_store.specs.Bindings.{binding_id}
use Rattle.hir_store.specs.Pointers.{Pointer}
use Rattle.hir_store.specs.Stored.{Stored}
use Rattle.hir_store.specs.declared.hir.CoroutineKind.{CoroutineKind}
use Rattle.hir_store.specs.declared.ids.ExprId.{ExprId}
use Rattle.hir_store.specs.declared.ids.PatId.{PatId}
use Rattle.hir_store.specs.declared.ids.TypeRefId.{TypeRefId}
use Rattle.hir_lower_builder.specs.declared.closures.ClosureParams.{ClosureParams}
use Rattle.hir_lower_builder.specs.declared.preludes.Handed.{Handed}
use Rattle.hir_lower_builder.specs.declared.preludes.Within.{Within}
use Rattle.hir_lower_builder.specs.Builder.{Builder}
use Rattle.hir_lower_builder.specs.Forms.{ExprSteps}
use Rattle.hir_lower_builder.specs.Lowering.{Checked, go_on, Lowering, ◌>>=◌, pure, alloc_expr, open_barrier, close_barrier, owning}
use Rattle.hir_lower_builder.specs.Preludes.{coroutine_closure_form, lower_handed, stored_coroutine_closure, within_form}
use Rattle.thm_logic.proofs.Barriers.{correct_behind_barrier, bind_assoc, outside_again, shut}
use Rattle.thm_logic.proofs.Frames.{Frame, barrier_at}
use Rattle.thm_logic.proofs.Logic.{Mark, Grows, Rel, Correct, correct_as, correct_bind, correct_pure}
use Rattle.thm_logic.proofs.MadeSteps.{behind, correct_like}
use Rattle.thm_logic.proofs.Owning.{correct_owning, owned_by}
use Rattle.thm_logic.proofs.Steps.{Allocated, correct_alloc}
use Rattle.thm_logic.proofs.Yields.{LeavesTo, Still, still_expr, still_trans}

-- the coroutine, and what the outside hands its arguments to
abbrev Around : Type 0
Around = Within × List PatId

module _ (w : Lowering Within) where
  abbrev around_of : Lowering Around
  around_of = w >>= (λ a. lower_handed [] a.handed >>= (λ ps. pure (a, ps)))

  around_grouped : {B : Type 0} (f : Around → Lowering B) (b : Builder)
      → (around_of >>= f) b ≡ (w >>= (λ a. lower_handed [] a.handed >>= (λ ps. f (a, ps)))) b
  around_grouped f b = bind_assoc w (λ a. lower_handed [] a.handed >>= (λ ps. pure (a, ps))) f b
      ∙ behind w (λ a c. bind_assoc (lower_handed [] a.handed) (λ ps. pure (a, ps)) f c) b

-- `yield`

-- none of what runs behind a barrier is one of the body around it
module _ {A B : Type 0} (q : Lowering A) {f : A → Lowering B} where
  pub still_behind_barrier : ((a : A) → Still (f a))
      → Still (open_barrier >>= (λ outside. q >>= (λ a. close_barrier outside >>= (λ y. f a))))
  unfolding open_barrier close_barrier
  still_behind_barrier h = record { still = λ b. by b (q (shut b)).0 (q (shut b)).1 }
    where
      out : Bool → A → Lowering B
      out outside a = λ c. f a (outside_again outside c)

      by : (b : Builder) (o : Checked A) (c : Builder) → LeavesTo b (go_on o c (out b.yields)).0 (go_on o c (out b.yields)).1
      by b (Ok a) c =
          let d = outside_again b.yields c in
          still_trans b d refl (f a d).0 (f a d).1 ((h a).still d)
      by b (Err e) c = tt

still_like : {A : Type 0} {p q : Lowering A} → ((b : Builder) → p b ≡ q b) → Still p → Still q
still_like same h = record { still = λ b. subst (λ x. LeavesTo b x.0 x.1) (same b) (h.still b) }

-- closures

-- The coroutine behind a barrier, which owns what is bound by then; what the outside hands its arguments to; and then the node.
pub record CoroutineClosureRow (at : Pointer) (which : CoroutineKind) (moves : Bool) (W : Rel Within) (H : List Handed → Rel (List PatId))
    (final : Stored) (ps : List Frame) (m m' : Mark) (i : ExprId) : Type 0 where
  pub within : Within
  pub formals : List PatId
  pub left : Mark
  pub handed : Mark
  pub to_left : Grows m left
  pub to_handed : Grows left handed
  pub to_end : Grows handed m'
  pub in_within : W final (barrier_at ∷ ps) m left within
  pub in_formals : H within.handed final (barrier_at ∷ ps) (owned_by (binding_id m.bindings) within.coroutine left) handed formals
  pub made : Allocated (stored_coroutine_closure which moves formals within) (Some at) final ps handed m' i

module _ (at : Pointer) (which : CoroutineKind) (moves : Bool) where
  -- the node, of what was made behind the barrier
  abbrev node_of : Around → ExprSteps
  node_of a = alloc_expr (stored_coroutine_closure which moves a.1 a.0) (Some at)

  module _ (p : Lowering ClosureParams) (t : Lowering (Option TypeRefId)) (e : ExprSteps) where
    abbrev owned_within : Lowering Within
    owned_within = owning (λ w. w.coroutine) (within_form which p t e)

    pub correct_coroutine_closure : {W : Rel Within} {H : List Handed → Rel (List PatId)} → Correct (within_form which p t e) W
        → ((xs : List Handed) → Correct (lower_handed [] xs) (H xs))
        → Correct (coroutine_closure_form at which moves p t e) (CoroutineClosureRow at which moves W H)
    unfolding coroutine_closure_form
    correct_coroutine_closure {H = H} hw hh = correct_as
        (correct_like (behind open_barrier (λ outside. around_grouped owned_within (λ a. close_barrier outside >>= (λ y. node_of a))))
        (correct_behind_barrier {p = around_of owned_within}
        (correct_bind (correct_owning (λ w. w.coroutine) hw) (λ a. correct_bind (hh a.handed) (λ ps. correct_pure (a, ps))))
        (λ a y. correct_alloc (stored_coroutine_closure which moves a.1 a.0) (Some at))))
        (λ final ps m m' i g row.
        let one = row.first in let own = one.first in let two = one.second in let last = two.second in
        let mine = owned_by (binding_id m.bindings) one.one.coroutine own.left in record {
          within = one.one;
          formals = two.one;
          left = own.left;
          handed = row.left;
          to_left = own.before;
          to_handed =
              let g = subst (λ k. Grows mine k) (sym last.still) (subst (λ k. Grows k two.middle) own.is two.before) in record {
                nodes = g.nodes;
                labels = g.labels;
                pats = g.pats;
                bindings = g.bindings;
                types = g.types;
                lifetimes = g.lifetimes;
                entries = g.entries;
                names = g.names;
              };
          to_end = row.after;
          in_within = own.first;
          in_formals = subst (λ k. H one.one.handed final (barrier_at ∷ ps) mine k two.one) (sym last.still)
              (subst (λ k. H one.one.handed final (barrier_at ∷ ps) k two.middle two.one) own.is two.first);
          made = subst (λ a. Allocated (stored_coroutine_closure which moves a.1 a.0) (Some at) final ps row.left m' i) last.is
              row.second;
        })

    -- none of what stands in it is one of the body around it
    pub still_coroutine_closure : Still (coroutine_closure_form at which moves p t e)
    unfolding coroutine_closure_form
    still_coroutine_closure =
        still_like (behind open_barrier (λ outside. around_grouped owned_within (λ a. close_barrier outside >>= (λ y. node_of a))))
        (still_behind_barrier (around_of owned_within) {f = node_of}
        (λ a. still_expr (stored_coroutine_closure which moves a.1 a.0) (Some at)))
