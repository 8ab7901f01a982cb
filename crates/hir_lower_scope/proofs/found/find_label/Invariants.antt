use Rattle.std.proofs.Common.{◌≡◌, ◌+◌, ◌≤◌, ℕ, length}
use Rattle.hir_lower_scope.specs.ScopeRibs.{sought_first}
use Rattle.hir_lower_scope.specs.Ribs.{labels_of, macros_of}
use Rattle.hir_lower_scope.specs.Walk.{Asked, EndsAfter, sought_of}
use Rattle.hir_lower_scope.proofs.WalkLemmas.{low, walk, count}
use Rattle.hir_lower_scope.proofs.found.find_label.Given as goal

abbrev pub invariant-loop-depth : goal.invariant-loop-depth
invariant-loop-depth g l = record {
  so_far : walk (g.E.LowerEnv.answers l.fn.env).contexts l.fn.name l.barrier (sought_first l.fn.hygiene) l.fn.stacks
      ≡ walk (g.E.LowerEnv.answers l.fn.env).contexts l.fn.name l.barrier (sought_of l.wanted) (low l.below l.fn.stacks);
  asked : Asked (g.E.LowerEnv.answers l.fn.env).contexts l.wanted;
  inside : l.below ≤ length l.fn.stacks;
  counted : l.looks + count l.fn.name (low l.below l.fn.stacks)
      ≤ length (labels_of l.fn.name l.fn.stacks) + length (macros_of l.fn.stacks);
  ends : (k : ℕ) → EndsAfter (g.E.LowerEnv.answers l.fn.env).contexts k (sought_first l.fn.hygiene).context
      → (j : ℕ) × ((k ≡ l.looks + j) × EndsAfter (g.E.LowerEnv.answers l.fn.env).contexts j l.wanted.context);
}

abbrev pub decreases-loop-depth : goal.decreases-loop-depth
decreases-loop-depth g l = l.below
