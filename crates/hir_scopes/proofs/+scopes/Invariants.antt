-- What is left at the head of a loop adds what it places to what was placed before it.
use Rattle.std.proofs.Common.{◌+◌, ◌*◌, length}
use Rattle.std.specs.List.{flat_map}
use Rattle.hir_scopes.specs.declared.opening.Around.{Around}
use Rattle.hir_scopes.specs.Bounds.{ScopeLists}
use Rattle.hir_scopes.specs.Chains.{Grown, Stands}
use Rattle.hir_scopes.specs.Records.{Kept, Records, SeenFrom, Walks}
use Rattle.spec_scopes.specs.Placed.{Spot, after_each, after_part, in_scope, placed_arm, placed_block, placed_each}
use Rattle.hir_scopes.proofs.+scopes.Given as goal

abbrev pub decreases-compute::compute_expr_scopes : goal.decreases-compute::compute_expr_scopes
decreases-compute::compute_expr_scopes l = 8 * l.id.0 + 7

abbrev pub decreases-compute::expr_scopes : goal.decreases-compute::expr_scopes
decreases-compute::expr_scopes l = 8 * l.id.0 + 6

abbrev pub decreases-compute::form_scopes : goal.decreases-compute::form_scopes
decreases-compute::form_scopes l = 8 * l.id.0 + 5

abbrev pub decreases-compute::block_scopes : goal.decreases-compute::block_scopes
decreases-compute::block_scopes l = 8 * l.id.0 + 5

abbrev pub decreases-compute::plain_scopes : goal.decreases-compute::plain_scopes
decreases-compute::plain_scopes l = 8 * l.id.0 + 4

abbrev pub decreases-blocks::compute_block_scopes : goal.decreases-blocks::compute_block_scopes
decreases-blocks::compute_block_scopes l = 8 * l.whole.0 + 4

abbrev pub decreases-branches::match_scopes : goal.decreases-branches::match_scopes
decreases-branches::match_scopes l = 8 * l.whole.0 + 4

abbrev pub decreases-branches::arms_scopes : goal.decreases-branches::arms_scopes
decreases-branches::arms_scopes l = 8 * l.whole.0 + 3

abbrev pub decreases-blocks::statement_scopes : goal.decreases-blocks::statement_scopes
decreases-blocks::statement_scopes l = 8 * l.whole.0 + 3

abbrev pub decreases-blocks::let_scopes : goal.decreases-blocks::let_scopes
decreases-blocks::let_scopes l = 8 * l.whole.0 + 2

abbrev pub decreases-branches::arm_scopes : goal.decreases-branches::arm_scopes
decreases-branches::arm_scopes l = 8 * l.whole.0 + 2

abbrev pub decreases-branches::if_scopes : goal.decreases-branches::if_scopes
decreases-branches::if_scopes l = 8 * l.whole.0 + 2

abbrev pub decreases-bodies::repeat_scopes : goal.decreases-bodies::repeat_scopes
decreases-bodies::repeat_scopes l = 8 * l.whole.0 + 2

abbrev pub decreases-branches::guard_scopes : goal.decreases-branches::guard_scopes
decreases-branches::guard_scopes l = 8 * l.whole.0 + 1

abbrev pub decreases-branches::condition_scopes : goal.decreases-branches::condition_scopes
decreases-branches::condition_scopes l = 8 * l.whole.0 + 1

abbrev pub decreases-bodies::constant_scopes : goal.decreases-bodies::constant_scopes
decreases-bodies::constant_scopes l = 8 * l.whole.0 + 1

abbrev pub decreases-bodies::loop_scopes : goal.decreases-bodies::loop_scopes
decreases-bodies::loop_scopes l = 8 * l.whole.0 + 1

abbrev pub decreases-bodies::closure_scopes : goal.decreases-bodies::closure_scopes
decreases-bodies::closure_scopes l = 8 * l.whole.0 + 1

abbrev pub decreases-compute::each_part : goal.decreases-compute::each_part
decreases-compute::each_part l = 8 * l.whole.0 + 1

abbrev pub decreases-compute::part_option : goal.decreases-compute::part_option
decreases-compute::part_option l = 8 * l.whole.0 + 1

abbrev pub decreases-compute::part : goal.decreases-compute::part
decreases-compute::part l = 8 * l.whole.0

abbrev pub invariant-compute::each_part-loop-left : goal.invariant-compute::each_part-loop-left
invariant-compute::each_part-loop-left l = Kept l.fn.scopes l.scopes l.behind
    × ((x : Spot) → Stands l.fn.scopes l.fn.around x → (y : Spot) × Stands l.scopes l.behind y
    × ((o : ScopeLists) (r : Around) → Grown l.scopes o
    → Walks l.store l.whole l.scopes o r (placed_each l.store (after_part l.store l.whole) l.left y)
    (in_scope y (after_each l.store (after_part l.store l.whole) l.left y.names))
    → Walks l.store l.whole l.fn.scopes o r (placed_each l.store (after_part l.store l.whole) l.fn.left x)
    (in_scope x (after_each l.store (after_part l.store l.whole) l.fn.left x.names))))

abbrev pub decreases-compute::each_part-loop-left : goal.decreases-compute::each_part-loop-left
decreases-compute::each_part-loop-left l = length l.left

abbrev pub invariant-blocks::compute_block_scopes-loop-left : goal.invariant-blocks::compute_block_scopes-loop-left
invariant-blocks::compute_block_scopes-loop-left l = Kept l.fn.scopes l.scopes l.behind
    × ((x : Spot) → Stands l.fn.scopes l.fn.around x → (y : Spot) × Stands l.scopes l.behind y × ((o : ScopeLists) → Grown l.scopes o
    → Records l.store l.scopes o (SeenFrom l.store l.whole (placed_block l.store (after_part l.store l.whole) l.left l.tail y))
    → Records l.store l.fn.scopes o (SeenFrom l.store l.whole (placed_block l.store (after_part l.store l.whole) l.fn.left l.tail x))))

abbrev pub decreases-blocks::compute_block_scopes-loop-left : goal.decreases-blocks::compute_block_scopes-loop-left
decreases-blocks::compute_block_scopes-loop-left l = length l.left

abbrev pub invariant-branches::arms_scopes-loop-left : goal.invariant-branches::arms_scopes-loop-left
invariant-branches::arms_scopes-loop-left l = Grown l.fn.scopes l.scopes
    × ((x : Spot) → Stands l.fn.scopes l.around x → (o : ScopeLists) → Grown l.scopes o
    → Records l.store l.scopes o (SeenFrom l.store l.whole (flat_map (placed_arm l.store (after_part l.store l.whole) x) l.left))
    → Records l.store l.fn.scopes o (SeenFrom l.store l.whole (flat_map (placed_arm l.store (after_part l.store l.whole) x) l.fn.left)))

abbrev pub decreases-branches::arms_scopes-loop-left : goal.decreases-branches::arms_scopes-loop-left
decreases-branches::arms_scopes-loop-left l = length l.left
