use Rattle.std.proofs.Common.{◌+◌}
use Rattle.hir_names.specs.Walk.{IsInScope, Leads, how_far}
use Rattle.hir_names.proofs.places.move_to.Given as goal

-- what is in scope here, and behind what is on the way also at the end
abbrev pub invariant-loop-step : goal.invariant-loop-step
invariant-loop-step l = IsInScope l.store l.scopes l.ends.here l.stacks × Leads l.store l.scopes l.fn.to l.ends.there l.way

abbrev pub decreases-loop-step : goal.decreases-loop-step
decreases-loop-step l = how_far l.ends.here + how_far l.ends.there
