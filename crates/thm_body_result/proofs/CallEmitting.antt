-- What macro calls add to a list of what is told.
use Rattle.std.proofs.Common.{◌∙◌, refl, ap, List, []}
use Rattle.hir_store.specs.Pointers.{Pointer}
use Rattle.hir_store.specs.declared.diagnostics.ExpressionStoreDiagnostics.{ExpressionStoreDiagnostics}
use Rattle.hir_store.specs.declared.ids.PatId.{PatId}
use Rattle.hir_store.specs.declared.ids.TypeRefId.{TypeRefId}
use Rattle.hir_env.specs.ResolvedTree.{Called, Entered, Gone}
use Rattle.hir_lower_builder.specs.Calls.{track, track_gone, emitted}
use Rattle.hir_lower_builder.specs.Lowering.{Lowering, point_pat, point_type}
use Rattle.thm_logic.specs.Calls.{Expansions, called_faults, condition_faults, expansions_of_called, expansions_of_entered}
use Rattle.thm_logic.specs.Calls.{expansions_of_gone}
use Rattle.thm_logic.proofs.Calls.{Only, correct_only, correct_point_pat, correct_point_type, only_gone, only_track, only_emitted}
use Rattle.thm_logic.proofs.Calls.{pointing_pat, pointing_type}
use Rattle.thm_logic.proofs.Steps.{Correct, correct_as}
use Rattle.thm_body_result.proofs.Emission.{Listing, Emits, added_none, added_these, nothing}

module _ {X : Type 0} (L : Listing X) where
  only_emits : {es : Expansions} {ds : List ExpressionStoreDiagnostics} {p : Lowering (Unit {0})} → Only es ds p
      → Correct p (Emits L (λ ss. L.of_emitted es ds))
  only_emits {es = es} {ds = ds} h = correct_as (correct_only h) (λ final ps m m' u g row.
      record { emitted = λ ss e. added_these L (L.of_emitted es ds) (ap L.list row.stored ∙ L.emits es ds m.stored) })

  pub track_emits : (c : Entered) → Correct (track c) (Emits L (λ ss. L.of_emitted (expansions_of_entered c) []))
  track_emits c = only_emits (only_track c)

  pub emitted_emits : (c : Called) → Correct (emitted c) (Emits L (λ ss. L.of_emitted (expansions_of_called c) (called_faults c)))
  emitted_emits c = only_emits (only_emitted c)

  pub gone_emits : (why : Gone)
      → Correct (track_gone why) (Emits L (λ ss. L.of_emitted (expansions_of_gone why) (condition_faults why.condition)))
  gone_emits why = only_emits (only_gone why)

  pub emits_point_pat : (at : Pointer) (i : PatId) → Correct (point_pat at i) (Emits L (nothing L))
  emits_point_pat at i = correct_as (correct_point_pat at i) (λ final ps m m' u g row.
      record { emitted = λ ss e. added_none L (ap L.list row.stored ∙ L.unchanged m.stored (pointing_pat at i m.stored) refl refl refl) })

  pub emits_point_type : (at : Pointer) (i : TypeRefId) → Correct (point_type at i) (Emits L (nothing L))
  emits_point_type at i = correct_as (correct_point_type at i) (λ final ps m m' u g row.
      record { emitted = λ ss e. added_none L (ap L.list row.stored ∙ L.unchanged m.stored (pointing_type at i m.stored) refl refl refl) })
