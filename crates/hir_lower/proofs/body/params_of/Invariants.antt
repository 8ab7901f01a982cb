use Rattle.std.proofs.Common.{◌≡◌, ◌++◌, length}
use Rattle.hir_lower.specs.Roots.{both}
use Rattle.hir_lower.proofs.body.params_of.Given as goal

abbrev pub invariant-loop-formals : goal.invariant-loop-formals
invariant-loop-formals l = both l.fn.formals l.fn.written ≡ l.params ++ both l.formals l.written

abbrev pub decreases-loop-formals : goal.decreases-loop-formals
decreases-loop-formals l = length l.formals
