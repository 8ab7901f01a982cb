use Rattle.std.proofs.Common.{◌≡◌}
use Rattle.hir_alias.specs.Tracking.{falses}
use Rattle.hir_alias.proofs.visitor.flags.Given as goal

abbrev pub invariant-loop-at : goal.invariant-loop-at
invariant-loop-at l = l.done ≡ falses l._at
