use Rattle.std.proofs.Common.{◌≡◌, ◌++◌, length}
use Rattle.spec_scopes.specs.Scopes.{binding_ribs}
use Rattle.hir_names.proofs.places.enter_bindings.Given as goal

abbrev pub invariant-loop-split : goal.invariant-loop-split
invariant-loop-split l = binding_ribs l.store l.fn.left ++ l.fn.stacks ≡ binding_ribs l.store l.left ++ l.stacks

abbrev pub decreases-loop-split : goal.decreases-loop-split
decreases-loop-split l = length l.left
