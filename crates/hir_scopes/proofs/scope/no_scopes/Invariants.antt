use Rattle.std.proofs.Common.{ℕ, ◌≡◌, Some, length, slice_get}
use Rattle.hir_scopes.specs.declared.scope.ScopeId.{ScopeId}
use Rattle.hir_scopes.proofs.scope.no_scopes.Given as goal

abbrev pub invariant-loop : goal.invariant-loop
invariant-loop l = (length l.scope_by_expr ≡ l.counter) × ((e : ℕ) (s : ScopeId) → slice_get l.scope_by_expr e ≡ Some (Some s) → ⊥)
