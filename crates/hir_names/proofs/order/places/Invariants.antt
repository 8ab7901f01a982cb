use Rattle.std.proofs.Common.{◌≡◌, length}
use Rattle.hir_names.proofs.order.places.Given as goal

abbrev pub invariant-loop-scope : goal.invariant-loop-scope
invariant-loop-scope l = length l.places.items ≡ l.len
