use Rattle.std.proofs.Common.{◌≡◌, length}
use Rattle.hir_lower_scope.specs.NameSets.{with_names}
use Rattle.hir_lower_builder.specs.Generics.{names_at, lifetime_names}
use Rattle.hir_lower_builder.proofs.generics.push_chosen.Given as goal

abbrev pub invariant-loop-left : goal.invariant-loop-left
invariant-loop-left g l =
    let ls = (g.I.StoreSink.held l.fn.store).lifetimes.entries in
    with_names l.names (names_at l.flags (lifetime_names ls l.left))
    ≡ with_names l.fn.names (names_at l.fn.flags (lifetime_names ls l.fn.left))

abbrev pub decreases-loop-left : goal.decreases-loop-left
decreases-loop-left g l = length l.left
