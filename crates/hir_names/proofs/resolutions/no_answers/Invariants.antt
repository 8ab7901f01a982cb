use Rattle.std.proofs.Common.{◌≡◌, ℕ, Some, length, slice_get}
use Rattle.hir_store.specs.declared.ids.BindingId.{BindingId}
use Rattle.hir_names.proofs.resolutions.no_answers.Given as goal

abbrev pub invariant-loop : goal.invariant-loop
invariant-loop l = (length l.answers ≡ l.counter) × ((e : ℕ) (b : BindingId) → slice_get l.answers e ≡ Some (Some b) → ⊥)
