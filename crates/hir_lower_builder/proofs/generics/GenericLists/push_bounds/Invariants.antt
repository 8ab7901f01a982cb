use Rattle.std.proofs.Common.{◌≡◌, ◌++◌, length}
use Rattle.hir_lower_builder.specs.Generics.{predicates_of}
use Rattle.hir_lower_builder.proofs.generics.GenericLists.push_bounds.Given as goal

abbrev pub invariant-loop-left : goal.invariant-loop-left
invariant-loop-left l = record {
  type_or_consts : l.self.type_or_consts ≡ l.fn.self.type_or_consts;
  lifetimes : l.self.lifetimes ≡ l.fn.self.lifetimes;
  so_far : l.self.where_predicates ++ predicates_of l.fn.target l.left
      ≡ l.fn.self.where_predicates ++ predicates_of l.fn.target l.fn.left;
}

abbrev pub decreases-loop-left : goal.decreases-loop-left
decreases-loop-left l = length l.left
