-- What is told of macro calls, whatever is told of what they stand for.
use Rattle.std.proofs.Common.{Some}
use Rattle.hir_store.specs.Pointers.{Pointer}
use Rattle.hir_store.specs.declared.ids.PatId.{PatId}
use Rattle.hir_env.specs.ResolvedTree as tree
use Rattle.hir_env.specs.ResolvedTree.{Called}
use Rattle.spec_data.specs.Data.{TypeData, error_shape, typed}
use Rattle.spec_data.specs.Uses.{FirstUses}
use Rattle.spec_data.specs.Written.{call_source}
use Rattle.hir_lower_builder.specs.Calls.{emitted}
use Rattle.hir_lower_builder.specs.Forms.{ExprSteps, called_form, paren_form, uncalled_form}
use Rattle.hir_lower_builder.specs.Lowering.{Lowering, ◌>>=◌, ◌>>◌, pure, point_pat}
use Rattle.hir_lower_builder.specs.Pats.{Table, called_pat_form, uncalled_pat}
use Rattle.hir_lower_builder.specs.Types.{TypeSteps, called_type_form, uncalled_type}
use Rattle.thm_logic.proofs.PatAnswers.{Keyed}
use Rattle.thm_logic.specs.Grading.{Grading, grade_uncalled_pat, grade_uncalled_type}
use Rattle.thm_logic.proofs.Answering.{answering_any, answering_pure, answering_then}
use Rattle.thm_logic.proofs.Graded.{Graded, HandsEmitted, MadeEmitted, hand_beside, made_next, pat_beside, pat_next, emitted_any}
use Rattle.thm_logic.proofs.GradedPats.{PatMade, missing_pat_graded}
use Rattle.thm_logic.proofs.GradedTypes.{error_made}

module _ {ℓ} {S : Grading {ℓ}} (L : Graded S) where
  pub emitted_target_graded : (c : Called) {g : S.G} {p : Lowering PatId} → L.MadePat g p
      → L.MadePat (S.then' (S.emitted c) g) (emitted c >> p)
  emitted_target_graded c h = pat_next L (L.emitted_is c) (λ u. h)

  -- before steps that hand names on, and before those that hand a pattern on
  pub emitted_hands : (c : Called) {A : Type 0} {t : Table} {g : S.G} {P : A × Table → Type 0} {p : Lowering (A × Table)}
      → HandsEmitted L t g P p → HandsEmitted L t (S.then' (S.emitted c) g) P (emitted c >> p)
  emitted_hands c h = hand_beside L (emitted_any L (L.emitted_is c)) (λ u x. h)

  pub emitted_pat : (c : Called) {t : Table} {g : S.G} {P : PatId × Table → Type 0} {p : Lowering (PatId × Table)} → MadeEmitted L t g P p
      → MadeEmitted L t (S.then' (S.emitted c) g) P (emitted c >> p)
  emitted_pat c h = pat_beside L (emitted_any L (L.emitted_is c)) (λ u x. h)

  module _ (at : Pointer) where
    pub uncalled_graded : (c : Called) → L.Made (S.then' (S.emitted c) S.expr) (uncalled_form at c)
    unfolding uncalled_form
    uncalled_graded c = made_next L (L.emitted_is c) (λ u. L.expr_is _ (Some at))

    pub called_graded : (c : Called) {g : S.G} {e : ExprSteps} → L.Made g e → L.Made (S.then' (S.emitted c) g) (called_form at c e)
    unfolding called_form paren_form
    called_graded c h = made_next L (L.emitted_is c) (λ u. L.point_is at h)

    pub called_type_graded : (c : Called) {d : TypeData} {g : S.G} {t : TypeSteps} → L.MadeType d g t
        → L.MadeType d (S.then' (S.emitted c) (S.then' g (S.type_call at))) (called_type_form at c t)
    unfolding called_type_form
    called_type_graded c h = L.makes_type_is (L.emitted_is c) (λ u. L.type_call_is at _ h)

    pub uncalled_type_graded : (c : Called)
        → L.MadeType (typed (call_source at c) error_shape) (grade_uncalled_type S at c) (uncalled_type at c)
    uncalled_type_graded tree.callless = L.type_is _ _ _
    uncalled_type_graded tree.unentered = called_type_graded _ (error_made L)
    uncalled_type_graded (tree.unresolved s path) = called_type_graded _ (error_made L)
    uncalled_type_graded (tree.entered c) = called_type_graded _ (error_made L)
    uncalled_type_graded tree.spliced = called_type_graded _ (error_made L)

    pub called_type_pat_graded : (c : Called) {g : S.G} {p : Lowering PatId} → L.MadePat g p
        → L.MadePat (S.then' (S.emitted c) (S.then' g (S.pat_call at))) (called_pat_form at c (λ i. i) p)
    unfolding called_pat_form
    called_type_pat_graded c h = pat_next L (L.emitted_is c) (λ u. L.pat_call_is at h)

    pub uncalled_pat_graded : (c : Called) → L.MadePat (grade_uncalled_pat S at c) (uncalled_pat at c)
    uncalled_pat_graded tree.callless = missing_pat_graded L
    uncalled_pat_graded c = called_type_pat_graded c (missing_pat_graded L)

    -- one that hands names on
    pub called_pat_graded : (c : Called) {g : S.G} {us vs : FirstUses} {p : Table → Lowering (PatId × Table)} → PatMade L g us vs p
        → PatMade L (S.then' (S.emitted c) (S.then' g (S.pat_call at))) us vs (λ t. called_pat_form at c (λ r. r.0) (p t))
    unfolding called_pat_form
    called_pat_graded c {g = g} {vs = vs} {p = p} h t k = emitted_pat c (
        let own : MadeEmitted L t (S.then' g (S.pat_call at)) (λ r. Keyed vs r.1) (p t >>= (λ r. point_pat at r.0 >>= (λ v. pure r))) =
        record {
          claim = L.hands_call_is at t (h t k).claim;
          known = answering_then (h t k).known (λ r y. answering_then (answering_any (point_pat at r.0)) (λ v z. answering_pure r y));
        } in own)
