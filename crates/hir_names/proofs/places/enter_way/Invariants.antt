use Rattle.std.proofs.Common.{◌≡◌, ◌++◌, length}
use Rattle.std.specs.List.{flat_map}
use Rattle.hir_names.specs.Walk.{own_ribs}
use Rattle.hir_names.proofs.places.enter_way.Given as goal

abbrev pub invariant-loop-scope : goal.invariant-loop-scope
invariant-loop-scope l = flat_map (own_ribs l.store l.scopes) l.fn.left ++ l.fn.stacks
    ≡ flat_map (own_ribs l.store l.scopes) l.left ++ l.stacks

abbrev pub decreases-loop-scope : goal.decreases-loop-scope
decreases-loop-scope l = length l.left
