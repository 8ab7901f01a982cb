-- How much a closure that is a coroutine stores.
use Rattle.std.proofs.Common.{Bool, List, [], Some}
use Rattle.hir_store.specs.Pointers.{Pointer}
use Rattle.hir_store.proofs.Extending.{extends_trans}
use Rattle.hir_store.specs.declared.hir.CoroutineKind.{CoroutineKind}
use Rattle.hir_store.specs.declared.hir.CoroutineSource.TheVariants as source
use Rattle.hir_store.specs.declared.ids.PatId.{PatId}
use Rattle.hir_env.specs.ResolvedTree.{OptionExpr, OptionType, Params}
use Rattle.hir_lower_builder.specs.Lower.{lower_params, lower_part, no_closure_params, present_type}
use Rattle.hir_lower_builder.specs.Lowering.{owning}
use Rattle.hir_lower_builder.specs.Preludes.{coroutine_closure_form, no_prelude, within_form}
use Rattle.thm_logic.proofs.Always.{correct_always}
use Rattle.thm_logic.proofs.Keeping.{Any, handed_any, lets_any, part_any, present_type_any}
use Rattle.thm_logic.proofs.Steps.{Correct, correct_as}
use Rattle.spec_data.specs.Data.{PatData}
use Rattle.thm_round_trip.proofs.CoroutineClosures.{params_data, read_at_end, within_hands, within_reads}
use Rattle.thm_round_trip.proofs.Params.{params_now}
use Rattle.thm_round_trip.proofs.Preludes.{ReadAs}
use Rattle.thm_body_result.specs.PreludeRoom.{handed_size, prelude_size}
use Rattle.thm_body_result.specs.Size.{Size, an_expr, owned, ◌∪◌}
use Rattle.thm_body_result.proofs.ClosureRooms.{takes_owning}
use Rattle.thm_body_result.proofs.Knowing.{Known, Lasting, Now, owning_now, takes_always, takes_any, takes_if_then, takes_now}
use Rattle.thm_body_result.proofs.Last.{within_last}
use Rattle.thm_body_result.proofs.Last.{coroutine_closure_last}
use Rattle.thm_body_result.proofs.PreludeRooms.{Froms, froms_last, hand_from, let_params_take, lower_handed_takes, made_coroutine_takes}
use Rattle.thm_body_result.proofs.Rooms.{Takes, takes_alloc, takes_barrier, takes_begin, takes_close_barrier, takes_end, takes_pure}

-- they read so, also in each later store
abbrev pub Written : List PatId → List PatData → Known
Written is ys s = ReadAs s is ys

pub written_lasts : (is : List PatId) (ys : List PatData) → Lasting (Written is ys)
written_lasts is ys s t e h = λ later f. h later (extends_trans e f)

-- nothing is known
abbrev pub Unknown : Known
Unknown s = Unit {0}

module _ (kind : CoroutineKind) (xs : Params) (t : OptionType) (e : OptionExpr) where
  abbrev shapes : List PatData
  shapes = params_data xs

  -- the parameters, once they are stored
  params_known : Correct (lower_params no_closure_params xs) (Now (λ l. Written l.args shapes))
  params_known = correct_as (correct_always (params_now no_closure_params xs))
      (λ final ps m m' l g row. record { now = λ later f. (row.always later f).pats })

  -- how each is handed in, once the coroutine is stored
  pub handed_known : Correct (within_form kind (lower_params no_closure_params xs) (present_type t) (lower_part e))
      (Now (λ w. Froms w.handed shapes))
  handed_known = correct_as (within_reads kind xs t Any (part_any e)) (λ final ps m m' w g row. record {
    now = hand_from w.handed row.params.args shapes m'.stored (within_hands kind xs t Any row) (read_at_end kind xs t Any row);
  })

  module _ {n k j : Size} (hp : Takes n (lower_params no_closure_params xs)) (ht : Takes k (present_type t)) (he : Takes j (lower_part e))
    where
      within_takes : Takes (n ∪ (k ∪ (j ∪ (prelude_size shapes ∪ (an_expr ∪ an_expr)))))
          (within_form kind (lower_params no_closure_params xs) (present_type t) (lower_part e))
      unfolding within_form
      within_takes = takes_always {P = Unknown} (λ s. tt) (takes_now (λ l s t f u k. k) (takes_any {P = Unknown} hp) params_known (λ l.
          takes_if_then {P = Written l.args shapes} {Q = Written l.args shapes} (written_lasts l.args shapes)
          (takes_any ht) (present_type_any t) (λ r.
          takes_if_then {P = Written l.args shapes} {Q = Written l.args shapes} (written_lasts l.args shapes)
          (takes_any he) (part_any e) (λ i.
          takes_if_then {P = Written l.args shapes} {Q = Unknown} (λ s u f h. tt)
          (let_params_take no_prelude l.args shapes) (lets_any no_prelude l.args) (λ p.
          takes_any (takes_end (made_coroutine_takes kind source.Closure p.lets i) (λ c. takes_pure _)))))))

      -- behind the barrier, and in front of the node
      bordered_takes : (at : Pointer) (moves : Bool)
          → Takes (owned (n ∪ (k ∪ (j ∪ (prelude_size shapes ∪ (an_expr ∪ an_expr))))) ∪ (handed_size shapes ∪ an_expr))
          (coroutine_closure_form at kind moves (lower_params no_closure_params xs) (present_type t) (lower_part e))
      unfolding coroutine_closure_form
      bordered_takes at moves = takes_begin takes_barrier (λ outside.
          takes_always {P = Unknown} (λ s. tt) (takes_now (λ w s t f u k. k)
          (takes_any {P = Unknown} (takes_owning (within_last kind _ _ _) within_takes))
          (owning_now (λ w. w.coroutine) (λ w. froms_last w.handed shapes) handed_known) (λ w.
          takes_if_then {P = Froms w.handed shapes} {Q = Unknown} (λ s u f h. tt)
          (lower_handed_takes [] w.handed shapes) (handed_any [] w.handed) (λ ps.
          takes_any (takes_begin (takes_close_barrier outside) (λ y. takes_alloc _ (Some at)))))))

      pub coroutine_closure_takes : (at : Pointer) (moves : Bool)
          → Takes (owned (owned (n ∪ (k ∪ (j ∪ (prelude_size shapes ∪ (an_expr ∪ an_expr))))) ∪ (handed_size shapes ∪ an_expr)))
          (owning (λ i. i) (coroutine_closure_form at kind moves (lower_params no_closure_params xs) (present_type t) (lower_part e)))
      coroutine_closure_takes at moves = takes_owning (coroutine_closure_last at kind moves _ _ _) (bordered_takes at moves)
