use Rattle.std.proofs.Common.{All}
use Rattle.hir_lower_uses.specs.Uses.{AllOwnedBelow, IsOwned}
use Rattle.hir_lower_uses.proofs.owners.bindings_of.Given as goal

abbrev pub invariant-loop-number : goal.invariant-loop-number
invariant-loop-number l = record {
  owned : All (IsOwned l.store l.closure) l.owned.items;
  all : AllOwnedBelow l.number l.store l.closure l.owned.items;
}
