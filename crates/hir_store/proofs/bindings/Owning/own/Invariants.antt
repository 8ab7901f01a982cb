use Rattle.std.proofs.Common.{◌≡◌, length}
use Rattle.hir_store.specs.Bindings.{own_from, unowned_from}
use Rattle.hir_store.proofs.bindings.Owning.own.Given as goal

-- what is owned in the end stays the same
abbrev pub invariant-loop-start : goal.invariant-loop-start
invariant-loop-start l = own_from l.fn.start.0 l.fn.owner l.self ≡ own_from l.fn.start.0 l.fn.owner l.fn.self

abbrev pub decreases-loop-start : goal.decreases-loop-start
decreases-loop-start l = length (unowned_from 0 l.self)
