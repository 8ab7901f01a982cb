-- What lowering a body answers stands for it and for its parameters.
use Rattle.std.proofs.Common.{arith, ◌≡◌, ◌∙◌, refl, sym, ap, subst, Bool, true, false, List, [], ◌∷◌, ◌++◌, append_assoc, slice_get}
use Rattle.std.proofs.Common.{Option, Some, None}
use Rattle.hir_store.specs.Arenas.{Prefix}
use Rattle.hir_store.specs.Stored.{Stored, store_of, map_of}
use Rattle.hir_store.specs.declared.diagnostics.ExpressionStoreDiagnostics.TheVariants.{InactiveCode}
use Rattle.hir_store.specs.declared.hir.CoroutineKind.{CoroutineKind}
use Rattle.hir_store.specs.declared.ids.BindingId.{BindingId}
use Rattle.hir_store.specs.declared.ids.PatId.{PatId}
use Rattle.hir_store.proofs.Arenas.{prefix_refl, prefix_push}
use Rattle.hir_env.specs.ResolvedTree as tree
use Rattle.hir_env.specs.ResolvedTree.{Formal, Formals, OptionExpr, OptionPat, SelfFormal, Use}
use Rattle.spec_data.specs.Tops.{Tops}
use Rattle.hir_lower_builder.specs.Forms.{push_some, some}
use Rattle.hir_lower_builder.specs.Lowering.{Lowering, ◌>>=◌, alloc_binding}
use Rattle.hir_lower_builder.specs.Pats.{new_binding}
use Rattle.thm_logic.proofs.Frames.{ribs}
use Rattle.thm_logic.proofs.Logic as logic
use Rattle.thm_logic.proofs.PatSteps as pats
use Rattle.thm_logic.proofs.Steps as steps
use Rattle.thm_body_result.specs.Formals.{lower_self, each_formal, lower_formals, lower_body, formals_read, plain_body}
use Rattle.thm_body_result.specs.Leads.{Mappings, OneBindingMapping}
use Rattle.thm_body_result.specs.OneResult.{CorrespondsBody, CorrespondsSelf, CorrespondsTops, CorrespondsGiven}
use Rattle.thm_body_result.specs.Corresponds.{Open}
use Rattle.thm_body_result.specs.CorrespondsWhole.{CorrespondsTop}
use Rattle.thm_body_result.proofs.FunctionStanding.{coroutine_body_corresponds}
use Rattle.thm_body_result.proofs.Lasting.{Correct, correct_as, correct_bind, correct_pure, correct_report}
use Rattle.thm_body_result.proofs.Leading.{shown_as, shown_after, shown_before, shown_both, shown_binding, shown_none, moved_then}
use Rattle.thm_body_result.proofs.PatStanding.{Behind}
use Rattle.thm_body_result.proofs.Settling.{no_top_corresponds}
use Rattle.thm_body_result.proofs.Standing.{Shows, moved_fault, moved_pure, present_none, present_some}
use Rattle.thm_body_result.proofs.TargetStanding.{done_stand}
use Rattle.thm_body_result.proofs.TreeParts.{behind_none, left_out}
use Rattle.thm_body_result.proofs.TreeCorresponds.{part_corresponds, top_corresponds}

-- `self`

-- a binding that no pattern makes stays as it is
own_binding : (u : Use)
    → Correct (some (alloc_binding (new_binding u))) (Shows (λ final rs o ws. (b : BindingId) × (o ≡ Some b)
    × (slice_get final.bindings.entries b.0 ≡ Some (new_binding u)) × OneBindingMapping b ws))
own_binding u = steps.correct_as
    (steps.correct_bind (pats.correct_alloc_binding (new_binding u)) (λ b. steps.correct_pure (Some b)))
    (λ final ps m m' o g row.
    let b = row.one in
    let before = m.stored.bindings.entries in
    let is = ap (λ k. k.stored) row.second.still ∙ row.first.stored in
    let number = row.first.number ∙ row.first.last in
    let here = logic.in_prefix before (new_binding u) b.0 number (prefix_refl (before ++ new_binding u ∷ [])) in
    record {
      settled = subst (λ s. Prefix before s.bindings.entries) (sym is) (prefix_push before (new_binding u));
      rel = λ k.
          let stays = k.at b.0 (new_binding u) (omega (arith, number)) (ap (λ s. slice_get s.bindings.entries b.0) is ∙ here) in
          record { shown = shown_as (shown_binding (new_binding u) b number is) (λ ws y. (b, row.second.is, stays, y)) };
    })

self_corresponds : (s : SelfFormal) → Correct (lower_self s) (Shows (λ final rs o. CorrespondsSelf (store_of final) s o))
self_corresponds tree.no_self = present_none
self_corresponds (tree.disabled_self at by) = correct_as (correct_bind (correct_report (InactiveCode at by)) (λ u. correct_pure None))
    (λ final ps m m' o g row.
    let moved = moved_then (moved_fault (InactiveCode at by) row.first.stored) (moved_pure row.second.still) in
    record { shown = shown_none moved (row.second.is, refl) })
self_corresponds (tree.self_formal at u _) = own_binding u

-- the other parameters

module _ (final : Stored) where
  abbrev tops : Open → Tops → List PatId → Mappings
  tops = CorrespondsTops (store_of final) (map_of final)

  abbrev top : Open → OptionPat → PatId → Mappings
  top = CorrespondsTop (store_of final) (map_of final)

-- one that is kept before others
formal_more : (p : OptionPat) (ts : Tops) {t : Lowering (Option PatId)} {q : List PatId → Lowering (List PatId)}
    → Correct t (Shows (λ final rs o ws. (i : PatId) × (o ≡ Some i) × top final rs p i ws))
    → ((done : List PatId) → Correct (q done) (Shows (λ final rs is. Behind done (tops final rs ts) is))) → (done : List PatId)
    → Correct (t >>= (λ x. q (push_some done x))) (Shows (λ final rs is. Behind done (tops final rs (p ∷ ts)) is))
formal_more p ts h hs done = correct_as (correct_bind h (λ x. hs (push_some done x)))
    (λ final ps m m' is g row. record {
      shown = shown_as (shown_both row.first.shown row.second.shown) (λ ws z.
          let x = z.first in
          let y = z.second in
          let at = y.1 ∙ (ap (λ o. push_some done o ++ y.0) x.1 ∙ append_assoc done (x.0 ∷ []) y.0) in
          (x.0 ∷ y.0, at, (x.0, y.0, refl, record { left = z.left; right = z.right; is = z.is; first = x.2; second = y.2 })));
    })

-- of one at fault nothing is read
formals_stand : (skipped : Bool) (fs : List Formal) (done : List PatId)
    → Correct (each_formal skipped done fs) (Shows (λ final rs is. Behind done (tops final rs (formals_read skipped fs)) is))
formals_stand skipped [] done = done_stand done
formals_stand skipped (tree.disabled_formal at by ∷ fs) done = correct_as
    (correct_bind (correct_bind (correct_report (InactiveCode at by)) (λ u. correct_pure None))
    (λ x. formals_stand skipped fs (push_some done x)))
    (λ final ps m m' is g row.
    let moved = moved_then (moved_fault (InactiveCode at by) row.first.first.stored) (moved_pure row.first.second.still) in
    record {
      shown = shown_after moved
          (left_out (tops final (ribs ps) (formals_read skipped fs)) done row.one row.first.second.is row.second.shown);
    })
formals_stand true (tree.formal p ∷ fs) done =
    formal_more tree.no_pat (formals_read true fs) (present_some no_top_corresponds) (formals_stand true fs) done
formals_stand false (tree.formal p ∷ fs) done =
    formal_more p (formals_read false fs) (present_some (top_corresponds p)) (formals_stand false fs) done

-- the whole

given_corresponds : (skipped : Bool) (f : Formals)
    → Correct (lower_formals skipped f) (Shows (λ final rs r. CorrespondsGiven (store_of final) (map_of final) rs skipped f r))
unfolding lower_formals
given_corresponds skipped f = correct_as
    (correct_bind (self_corresponds f.receiver) (λ s. correct_bind (formals_stand skipped f.formals []) (λ is. correct_pure (s, is))))
    (λ final ps m m' r g row.
    let s = row.second in
    let others = behind_none (tops final (ribs ps) (formals_read skipped f.formals)) s.first.shown in
    let both = shown_before (shown_both row.first.shown others) (moved_pure s.second.still) in
    record {
      shown = shown_as both
          (λ ws y. subst (λ k. CorrespondsGiven (store_of final) (map_of final) (ribs ps) skipped f k ws) (sym s.second.is) y);
    })

pub body_corresponds : (kind : Option CoroutineKind) (skipped : Bool) (f : Formals) (e : OptionExpr) → Correct (lower_body kind skipped f e)
    (Shows (λ final rs r. CorrespondsBody (store_of final) (map_of final) rs kind skipped f e r.0 r.1))
unfolding plain_body
body_corresponds None skipped f e = correct_as
    (correct_bind (given_corresponds skipped f) (λ given. correct_bind (part_corresponds e) (λ root. correct_pure ((given, given), root))))
    (λ final ps m m' r g row.
    let s = row.second in
    let both = shown_before (shown_both row.first.shown s.first.shown) (moved_pure s.second.still) in
    record {
      shown = shown_as both (λ ws y. subst (λ k. CorrespondsBody (store_of final) (map_of final) (ribs ps) None skipped f e k.0 k.1 ws)
          (sym s.second.is) (refl, y));
    })
body_corresponds (Some kind) skipped f e =
    coroutine_body_corresponds kind skipped f e (self_corresponds f.receiver) (formals_stand skipped f.formals []) (part_corresponds e)
