use Rattle.std.proofs.Common.{◌≡◌, ◌++◌, List, length}
use Rattle.hir_lower_scope.specs.ScopeRibs.{Rib}
use Rattle.hir_store.specs.declared.ids.BindingId.{BindingId}
use Rattle.spec_scopes.specs.Scopes.{binding_ribs}
use Rattle.hir_names.proofs.places.leave_bindings.Given as goal

abbrev pub invariant-loop-split : goal.invariant-loop-split
invariant-loop-split l = (rs : List (Rib BindingId)) → binding_ribs l.store l.fn.left ++ rs ≡ l.fn.stacks
    → l.stacks ≡ binding_ribs l.store l.left ++ rs

abbrev pub decreases-loop-split : goal.decreases-loop-split
decreases-loop-split l = length l.left
