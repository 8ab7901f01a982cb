-- What a closure tells, and a coroutine block: as much as their parts do behind a barrier.
use Rattle.std.proofs.Common.{◌∙◌, ap, List, ◌∷◌, ◌++◌, Bool, Option, Some, None}
use Rattle.hir_store.specs.Pointers.{Pointer}
use Rattle.hir_store.specs.declared.hir.CoroutineKind.{CoroutineKind}
use Rattle.hir_store.specs.declared.ids.BlockId.{BlockId}
use Rattle.hir_store.specs.declared.ids.TypeRefId.{TypeRefId}
use Rattle.hir_lower_scope.specs.ScopeRibs.{barrier_rib}
use Rattle.hir_lower_scope.specs.Scopes.{Scope, barrier}
use Rattle.hir_lower_builder.specs.declared.closures.ClosureParams.{ClosureParams}
use Rattle.hir_lower_builder.specs.Forms.{stored_closure}
use Rattle.hir_lower_builder.specs.Lower.{ExprSteps, StoredContents, closure_form, coroutine_block_form, coroutine_form}
use Rattle.hir_lower_builder.specs.Lowering.{Lowering, owning}
use Rattle.hir_lower_builder.specs.Forms.{coroutine_around_form}
use Rattle.thm_logic.proofs.Barriers.{correct_closure, correct_coroutine}
use Rattle.thm_logic.proofs.Steps.{Correct, correct_as}
use Rattle.thm_body_result.proofs.Emission.{Listing, Emits, added_none, added_then, last_none, owning_emits, emits_alloc, emits_bind}
use Rattle.thm_body_result.proofs.Emission.{emits_end, emits_enter_block}

module _ {X : Type 0} (L : Listing X) where
  pub closure_emits : (at : Pointer) (moves is_static : Bool) {D E F : List Scope → List X} {p : Lowering ClosureParams}
      {t : Lowering (Option TypeRefId)} {e : ExprSteps} → Correct p (Emits L D) → Correct t (Emits L E) → Correct e (Emits L F)
      → Correct (owning (λ i. i) (closure_form at moves is_static p t e))
      (Emits L (λ ss. D (barrier ∷ ss) ++ (E (barrier ∷ ss) ++ F (barrier ∷ ss))))
  closure_emits at moves is_static hp ht he = owning_emits L (λ i. i) (correct_as (correct_closure at moves is_static hp ht he)
      (λ final ps m m' i g row.
      let node = stored_closure moves is_static row.params row.ret row.body row.yields in record {
        emitted = λ ss e. let around = ap (λ y. barrier_rib ∷ y) e in let inside = barrier ∷ ss in
            added_then L (row.in_params.emitted inside around) (added_then L (row.in_ret.emitted inside around)
            (last_none L (added_then L (row.in_body.emitted inside around)
            (added_none L (ap L.list row.made.stored ∙ L.expr node (Some at) row.left.stored)))));
      }))

  coroutine_block_emits : (at : Pointer) (kind : CoroutineKind) (moves : Bool) (number : Option BlockId) {D : List Scope → List X}
      {c : Lowering StoredContents} → Correct c (Emits L D)
      → Correct (coroutine_block_form at kind moves number c) (Emits L (λ ss. L.of_block number ++ D ss))
  unfolding coroutine_block_form coroutine_around_form
  coroutine_block_emits at kind moves number h = emits_bind L (emits_enter_block L number)
      (λ u. emits_end L h (λ r. emits_end L (emits_alloc L _ None) (λ b. emits_alloc L _ (Some at))))

  pub coroutine_emits : (at : Pointer) (kind : CoroutineKind) (moves : Bool) (number : Option BlockId) {D : List Scope → List X}
      {c : Lowering StoredContents} → Correct c (Emits L D)
      → Correct (owning (λ i. i) (coroutine_form (coroutine_block_form at kind moves number c)))
      (Emits L (λ ss. L.of_block number ++ D (barrier ∷ ss)))
  coroutine_emits at kind moves number h = owning_emits L (λ i. i)
      (correct_as (correct_coroutine (coroutine_block_emits at kind moves number h))
      (λ final ps m m' i g row. record { emitted = λ ss e. row.inside.emitted (barrier ∷ ss) (ap (λ y. barrier_rib ∷ y) e) }))
