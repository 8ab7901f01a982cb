use Rattle.std.proofs.Common.{◌≤◌, ◌<◌, ◌-◌, ℕ, length, slice_index_or}
use Rattle.std.specs.List.Sorted.{IsNonDecreasingBy}
use Rattle.hir_store.specs.declared.roots.ExprRoot.{ExprRoot}
use Rattle.hir_walks.specs.Roots.{end_of}
use Rattle.hir_walks.proofs.roots.root_past.Given as goal

-- the roots below `low` don't end past the number, and those from `high` on do
abbrev pub invariant-loop-low : goal.invariant-loop-low
invariant-loop-low l = (l.low ≤ l.high) × ((l.high ≤ length l.roots) × (IsNonDecreasingBy (end_of l.kind) l.roots
    → (((k : ℕ) (d : ExprRoot) → k < l.low → end_of l.kind (slice_index_or l.roots k d) ≤ l.number)
    × ((k : ℕ) (d : ExprRoot) → l.high ≤ k → k < length l.roots → l.number < end_of l.kind (slice_index_or l.roots k d)))))

abbrev pub decreases-loop-low : goal.decreases-loop-low
decreases-loop-low l = l.high - l.low
