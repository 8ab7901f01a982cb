use Rattle.std.proofs.Common.{◌≡◌, ◌++◌, length}
use Rattle.std.specs.List.{flat_map}
use Rattle.hir_walks.specs.Pats.{bindings_in}
use Rattle.hir_scopes.proofs.opening.add_params_bindings.Given as goal

-- what is left is added to what was
abbrev pub invariant-loop-left : goal.invariant-loop-left
invariant-loop-left l = record l.fn.scopes { entries = l.fn.scopes.entries ++ flat_map (bindings_in l.store) l.fn.left }
    ≡ record l.scopes { entries = l.scopes.entries ++ flat_map (bindings_in l.store) l.left }

abbrev pub decreases-loop-left : goal.decreases-loop-left
decreases-loop-left l = length l.left
