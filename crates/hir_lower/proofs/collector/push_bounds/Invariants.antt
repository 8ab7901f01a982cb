use Rattle.std.proofs.Common.{◌≡◌, ◌++◌, length}
use Rattle.hir_lower_builder.specs.Generics.{predicates_of}
use Rattle.hir_lower.proofs.collector.push_bounds.Given as goal

abbrev pub invariant-loop-left : goal.invariant-loop-left
invariant-loop-left l = record {
  type_or_consts : l.lists.type_or_consts ≡ l.fn.lists.type_or_consts;
  lifetimes : l.lists.lifetimes ≡ l.fn.lists.lifetimes;
  so_far : l.lists.where_predicates ++ predicates_of l.fn.target l.left
      ≡ l.fn.lists.where_predicates ++ predicates_of l.fn.target l.fn.left;
}

abbrev pub decreases-loop-left : goal.decreases-loop-left
decreases-loop-left l = length l.left
