-- Definitions of macros add nothing to a list of what is told, and what is behind one adds to it in one scope more.
use Rattle.std.proofs.Common.{ap, ℕ, List, ◌∷◌, Option}
use Rattle.hir_store.specs.declared.ids.MacroDefId.{MacroDefId}
use Rattle.hir_lower_scope.specs.Scopes.{Scope, macro_scope}
use Rattle.hir_lower_builder.specs.Calls.{define_form, inside_macro}
use Rattle.hir_lower_builder.specs.Lowering.{Lowering}
use Rattle.thm_logic.proofs.Definitions.{correct_define, correct_inside_macro}
use Rattle.thm_logic.proofs.Frames.{ribs}
use Rattle.thm_logic.proofs.Steps.{Correct, correct_as}
use Rattle.thm_body_result.proofs.Around.{macro_is_rib}
use Rattle.thm_body_result.proofs.Emission.{Listing, Emits, added_none, nothing}

module _ {X : Type 0} (L : Listing X) where
  pub define_emits : (k : ℕ) (d : Option MacroDefId) → Correct (define_form k d) (Emits L (nothing L))
  define_emits k d = correct_as (correct_define k d)
      (λ final ps m m' x g row. record { emitted = λ ss e. added_none L (ap (λ y. L.list y.stored) row.still) })

  pub inside_emits : (d : MacroDefId) {A : Type 0} {D : List Scope → List X} {p : Lowering A} → Correct p (Emits L D)
      → Correct (inside_macro d p) (Emits L (λ ss. D (macro_scope d ∷ ss)))
  inside_emits d h = correct_as (correct_inside_macro d h) (λ final ps m m' x g row.
      record { emitted = λ ss e. row.emitted (macro_scope d ∷ ss) ((macro_is_rib d).around ss (ribs ps) e) })
