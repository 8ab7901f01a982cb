-- What is stored for a macro call holds what it stands for holds.
use Rattle.std.proofs.Common.{refl, [], Some}
use Rattle.hir_store.specs.Pointers.{Pointer}
use Rattle.hir_store.specs.declared.hir.Expr.TheVariants as hir
use Rattle.hir_store.specs.declared.ids.PatId.{PatId}
use Rattle.hir_store.specs.declared.type_ref.TypeRef.TheVariants as ty
use Rattle.hir_env.specs.ResolvedTree as tree
use Rattle.hir_env.specs.ResolvedTree.{Called}
use Rattle.hir_lower_builder.specs.Forms.{ExprSteps, called_form, uncalled_form}
use Rattle.hir_lower_builder.specs.Lowering.{Lowering}
use Rattle.hir_lower_builder.specs.Pats as forms
use Rattle.hir_lower_builder.specs.Types.{TypeSteps, called_type_form, uncalled_type}
use Rattle.spec_semantics.specs.Inner.{Bodies}
use Rattle.thm_logic.proofs.Calls.{correct_emitted, correct_point_pat, correct_point_type}
use Rattle.thm_logic.proofs.Steps.{Correct, correct_report}
use Rattle.thm_semantics.proofs.Holding.{Ids, an_expr, a_type, a_pat, a_type_pat, Holds, holds_behind, holds_before, expr0, type0}
use Rattle.thm_semantics.proofs.HeldForms.{paren_held}
use Rattle.thm_semantics.proofs.HeldTypes.{error_held}
use Rattle.thm_semantics.proofs.HeldPats.{absent_held}
use Rattle.thm_semantics.proofs.HeldLimits.{missing_type_pat_held}

module _ (at : Pointer) where
  pub called_held : (c : Called) {p : ExprSteps} {es : Bodies} → Correct p (Holds an_expr es)
      → Correct (called_form at c p) (Holds an_expr es)
  unfolding called_form
  called_held c h = holds_behind (correct_emitted c) (λ u. paren_held at h)

  pub uncalled_held : (c : Called) → Correct (uncalled_form at c) (Holds an_expr [])
  unfolding uncalled_form
  uncalled_held c = holds_behind (correct_emitted c) (λ u. expr0 hir.Missing (Some at) (λ r. refl))

  pub called_type_held : (c : Called) {p : TypeSteps} {es : Bodies} → Correct p (Holds a_type es)
      → Correct (called_type_form at c p) (Holds a_type es)
  unfolding called_type_form
  called_type_held c h = holds_behind (correct_emitted c) (λ u. holds_before h (λ i. correct_point_type at i))

  pub uncalled_type_held : (c : Called) → Correct (uncalled_type at c) (Holds a_type [])
  uncalled_type_held tree.callless = type0 ty.Error (Some at) (λ r. refl)
  uncalled_type_held c = called_type_held c error_held

  -- of a pattern, also of one in a type, and with what is handed on beside it
  pub called_pat_held : {A : Type 0} {ids : Ids A} (c : Called) (pat_in : A → PatId) {p : Lowering A} {es : Bodies}
      → Correct p (Holds ids es) → Correct (forms.called_pat_form at c pat_in p) (Holds ids es)
  unfolding forms.called_pat_form
  called_pat_held c pat_in h = holds_behind (correct_emitted c) (λ u. holds_before h (λ r. correct_point_pat at (pat_in r)))

  pub uncalled_pat_held : (c : Called) → Correct (forms.uncalled_pat at c) (Holds a_pat [])
  uncalled_pat_held tree.callless = absent_held
  uncalled_pat_held c = called_pat_held c (λ i. i) absent_held

  pub barred_pat_held : Correct (forms.barred_pat_form at) (Holds a_pat [])
  barred_pat_held = holds_behind (correct_report _) (λ u. absent_held)

  pub uncalled_type_pat_held : (c : Called) → Correct (forms.uncalled_pat at c) (Holds a_type_pat [])
  uncalled_type_pat_held tree.callless = missing_type_pat_held
  uncalled_type_pat_held c = called_pat_held c (λ i. i) missing_type_pat_held
