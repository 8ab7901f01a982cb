-- The bodies inside the parameters of a body are what is written.
use Rattle.std.proofs.Common.{arith, ◌≡◌, refl, ap, subst, ℕ, ◌+◌, ◌≤◌, Bool, true, false, List, [], ◌∷◌, ◌++◌, Some, None, Ok}
use Rattle.hir_store.specs.Stored.{Stored, store_of}
use Rattle.hir_store.specs.StoreSink.{Extends}
use Rattle.hir_store.specs.declared.ids.PatId.{PatId}
use Rattle.hir_env.specs.ResolvedTree as tree
use Rattle.hir_env.specs.ResolvedTree.{Formal, Formals, SelfFormal}
use Rattle.hir_lower_builder.specs.Builder.{Builder}
use Rattle.hir_lower_builder.specs.Forms.{some}
use Rattle.hir_lower_builder.specs.Lowering.{Lowering}
use Rattle.spec_semantics.specs.Inner.{Bodies, all_of, pat_part_bodies, tops_bodies}
use Rattle.thm_round_trip.proofs.Layers.{Pushed}
use Rattle.thm_logic.specs.Keeps.{Paired}
use Rattle.thm_logic.proofs.Frames.{Frame}
use Rattle.thm_logic.proofs.PatSteps.{correct_alloc_binding}
use Rattle.thm_logic.proofs.Steps.{Mark, Correct, correct_as, correct_bind, correct_in_store, correct_pure, correct_report}
use Rattle.thm_logic.proofs.TypeAny.{Any, any, pure_any, then_any}
use Rattle.thm_semantics.proofs.HeldForms.{some_pushed}
use Rattle.thm_semantics.proofs.HeldTree.{top_holds}
use Rattle.thm_semantics.proofs.Holding.{Holds, SameIn, a_pat, each, holds_behind, holds_none, holds_one, inners_in, maybe, none_held}
use Rattle.thm_semantics.proofs.Holding.{same_ids}
use Rattle.thm_body_result.proofs.AfterLowering.{after_lowering}
use Rattle.hir_lower.specs.Formals.{Received, each_formal, formals_read, lower_formal, lower_formals, lower_self}
use Rattle.hir_lower.specs.Means.{pats_inner_bodies}

abbrev pub read_bodies : Bool → List Formal → Bodies
read_bodies skipped fs = tops_bodies (formals_read skipped fs)

abbrev formal_bodies : Bool → Formal → Bodies
formal_bodies skipped (tree.disabled_formal at by) = []
formal_bodies true (tree.formal p) = []
formal_bodies false (tree.formal p) = pat_part_bodies p

some_holds : {p : Lowering PatId} {es : Bodies} → Correct p (Holds a_pat es) → Correct (some p) (Holds (maybe a_pat) es)
some_holds h = holds_one Some (λ r i. refl) h

formal_holds : (skipped : Bool) (f : Formal) → Correct (lower_formal skipped f) (Holds (maybe a_pat) (formal_bodies skipped f))
formal_holds skipped (tree.disabled_formal at by) = holds_behind (correct_report _) (λ u. holds_none None (λ r. refl))
formal_holds true (tree.formal p) = some_holds (top_holds tree.no_pat)
formal_holds false (tree.formal p) = some_holds (top_holds p)

bodies_apart : (skipped : Bool) (f : Formal) (fs : List Formal)
    → formal_bodies skipped f ++ read_bodies skipped fs ≡ read_bodies skipped (f ∷ fs)
bodies_apart skipped (tree.disabled_formal at by) fs = refl
bodies_apart true (tree.formal p) fs = refl
bodies_apart false (tree.formal p) fs = refl

pub each_hold : (skipped : Bool) (fs : List Formal) (done : List PatId)
    → Correct (each_formal skipped done fs) (Pushed done (Holds (each a_pat) (read_bodies skipped fs)))
each_hold skipped [] done = none_held a_pat done
each_hold skipped (f ∷ fs) done =
    subst (λ es. Correct (each_formal skipped done (f ∷ fs)) (Pushed done (Holds (each a_pat) es))) (bodies_apart skipped f fs)
    (some_pushed {ids = a_pat} (formal_holds skipped f) (each_hold skipped fs) done)

pub self_any : (s : SelfFormal) → Correct (lower_self s) Any
self_any tree.no_self = pure_any None
self_any (tree.disabled_self at by) = then_any (any (correct_report _)) (λ u. pure_any None)
self_any (tree.self_formal at u _) = then_any (any (correct_alloc_binding _)) (λ i. pure_any (Some i))

record ReceivedHolds (es : Bodies) (final : Stored) (ps : List Frame) (m m' : Mark) (received : Received) : Type 0 where
  same : (d : ℕ) → m'.nodes + m'.entries ≤ d → SameIn final (all_of (inners_in final d).pat received.1) es

received_holds : (skipped : Bool) (f : Formals) → Correct (lower_formals skipped f) (ReceivedHolds (read_bodies skipped f.formals))
unfolding lower_formals
received_holds skipped f =
    correct_as (correct_bind (self_any f.receiver) (λ s. correct_bind (each_hold skipped f.formals []) (λ ids. correct_pure (s, ids))))
    (λ final ps m m' received g row.
    let own = row.second in
    let made = own.first in
    rw (own.second.is, own.second.still) (record {
      same = λ d le. same_ids final (read_bodies skipped f.formals) (ap (all_of (inners_in final d).pat) made.is) (made.rel.same d le);
    }))

-- looked into past all that there is
pub bodies_inside : (skipped : Bool) (f : Formals) (b b' : Builder) (received : Received) → Paired b.stored
    → lower_formals skipped f b ≡ (Ok received, b') → (final : Stored) → Extends b'.stored final
    → SameIn final (pats_inner_bodies (store_of final) received.1) (read_bodies skipped f.formals)
unfolding pats_inner_bodies
bodies_inside skipped f b b' received d is final stays =
    let r = after_lowering (correct_in_store (received_holds skipped f)) b received b' d is final stays in
    r.rel.same _ (omega (arith, r.nodes, r.entries))

pub received_any : (skipped : Bool) (f : Formals) → Correct (lower_formals skipped f) Any
received_any skipped f = any (received_holds skipped f)
