use Rattle.std.proofs.Common.{length}
use Rattle.hir_names.specs.Walk.{IsInScope, Resolved}
use Rattle.hir_names.proofs.resolutions.resolve_each.Given as goal

abbrev pub invariant-loop-split : goal.invariant-loop-split
invariant-loop-split g l = IsInScope l.store l.scopes l.here l.stacks
    × Resolved l.store l.scopes (g.E.LowerEnv.answers l.env).contexts l.answers l.left

abbrev pub decreases-loop-split : goal.decreases-loop-split
decreases-loop-split g l = length l.left
