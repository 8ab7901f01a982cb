use Rattle.std.proofs.Common.{◌≡◌, ◌++◌, List, length}
use Rattle.hir_env.specs.Answers.{Contexts}
use Rattle.hir_lower_scope.specs.ScopeRibs.{Rib, search}
use Rattle.hir_store.specs.declared.ids.BindingId.{BindingId}
use Rattle.hir_scopes.specs.Lookup.{sought_of}
use Rattle.spec_scopes.specs.Scopes.{binding_ribs}
use Rattle.hir_scopes.proofs.resolve.find_entry.Given as goal

abbrev pub invariant-loop-left : goal.invariant-loop-left
invariant-loop-left l = (contexts : Contexts) (rs : List (Rib BindingId))
    → search contexts l.name (sought_of l.wanted) (binding_ribs l.store l.fn.left ++ rs)
    ≡ search contexts l.name (sought_of l.wanted) (binding_ribs l.store l.left ++ rs)

abbrev pub decreases-loop-left : goal.decreases-loop-left
decreases-loop-left l = length l.left
