-- Steps that store patterns and bind names add nothing.
use Rattle.std.proofs.Common.{◌∙◌, refl, ap, ℕ, suc, List, [], ◌∷◌, Option}
use Rattle.hir_binding.specs.declared.binding.BindingProblems.{BindingProblems}
use Rattle.hir_store.specs.Pointers.{Pointer}
use Rattle.hir_store.specs.declared.ids.BindingId.{BindingId}
use Rattle.hir_store.specs.declared.ids.PatId.{PatId}
use Rattle.hir_store.specs.declared.pat.Binding.{Binding}
use Rattle.hir_store.specs.declared.pat.Pat.{Pat as HirPat}
use Rattle.hir_lower_builder.specs.Lowering.{alloc_desugared_pat, alloc_pat, alloc_binding, define, set_problem}
use Rattle.hir_lower_builder.specs.Lowering.{made_number, point_target}
use Rattle.thm_logic.proofs.MadeSteps.{correct_made_number}
use Rattle.hir_lower_builder.specs.Pats as forms
use Rattle.hir_lower_builder.specs.Pats.{Key, SideOutput, Table}
use Rattle.thm_logic.proofs.Calls.{correct_point_target, pointing_target}
use Rattle.thm_logic.proofs.PatSteps.{correct_alloc_desugared_pat, correct_alloc_pat, correct_alloc_binding, correct_define}
use Rattle.thm_logic.proofs.PatSteps.{correct_set_problem}
use Rattle.thm_logic.proofs.PatSteps.{defining, put_made_pat, with_new_binding, with_pat}
use Rattle.thm_logic.proofs.PatSteps.{with_problem_of}
use Rattle.thm_logic.proofs.Steps.{Correct, correct_as}
use Rattle.thm_body_result.proofs.Emission.{Listing, Emits, added_none, nothing, emits_end, emits_pure}

module _ {X : Type 0} (L : Listing X) where
  pub emits_pat : (p : HirPat) (source : Option Pointer) → Correct (alloc_pat p source) (Emits L (nothing L))
  emits_pat p source = correct_as (correct_alloc_pat p source) (λ final ps m m' i g row.
      record { emitted = λ ss e. added_none L (ap L.list row.stored ∙ L.unchanged m.stored (with_pat p source m.stored) refl refl refl) })

  pub emits_made_pat : (p : HirPat) (source : Option Pointer) → Correct (alloc_desugared_pat p source) (Emits L (nothing L))
  emits_made_pat p source = correct_as (correct_alloc_desugared_pat p source) (λ final ps m m' i g row.
      record {
        emitted = λ ss e. added_none L
            (ap L.list row.stored ∙ L.unchanged m.stored (put_made_pat p source m.stored) refl refl refl);
      })

  pub emits_point_target : (at : Pointer) (i : PatId) → Correct (point_target at i) (Emits L (nothing L))
  emits_point_target at i = correct_as (correct_point_target at i) (λ final ps m m' u g row.
      record {
        emitted = λ ss e. added_none L
            (ap L.list row.stored ∙ L.unchanged m.stored (pointing_target at i m.stored) refl refl refl);
      })

  pub emits_binding : (b : Binding) → Correct (alloc_binding b) (Emits L (nothing L))
  emits_binding b = correct_as (correct_alloc_binding b) (λ final ps m m' i g row.
      record { emitted = λ ss e. added_none L (ap L.list row.stored ∙ L.unchanged m.stored (with_new_binding b m.stored) refl refl refl) })

  pub emits_define : (id : BindingId) (p : PatId) → Correct (define id p) (Emits L (nothing L))
  emits_define id p = correct_as (correct_define id p) (λ final ps m m' u g row.
      record { emitted = λ ss e. added_none L (ap L.list row.stored ∙ L.unchanged m.stored (defining id p m.stored) refl refl refl) })

  emits_problem : (id : BindingId) (p : Option BindingProblems) → Correct (set_problem id p) (Emits L (nothing L))
  emits_problem id p = correct_as (correct_set_problem id p) (λ final ps m m' u g row.
      record {
        emitted = λ ss e. added_none L
            (ap L.list row.stored ∙ L.unchanged m.stored (with_problem_of id p m.stored) refl refl refl);
      })

  -- a number for a name that is made up
  pub emits_number : Correct made_number (Emits L (nothing L))
  emits_number = correct_as correct_made_number (λ final ps m m' n g row. record { emitted = λ ss e. added_none L (ap L.list row.stored) })

  -- names

  settle_from_emits : (tracks : SideOutput) (number : ℕ) (es : List (Key × BindingId))
      → Correct (forms.settle_from tracks number es) (Emits L (nothing L))
  settle_from_emits tracks number [] = emits_pure L tt
  settle_from_emits tracks number (e ∷ es) = emits_end L (emits_problem _ _) (λ u. settle_from_emits tracks (suc number) es)

  pub settle_emits : (t : Table) → Correct (forms.settle t) (Emits L (nothing L))
  unfolding forms.settle
  settle_emits t = settle_from_emits t.tracked 0 t.bindings
