use Rattle.std.proofs.Common.{◌≡◌, drop, length}
use Rattle.serde_json.specs.View.{items_view}
use Rattle.json_errors.specs.Levels.{use_each}
use Rattle.json_errors.proofs.levels.use_each.Given as goal

abbrev pub invariant-loop-item : goal.invariant-loop-item
invariant-loop-item l = record {
  kept : length l.levels ≡ length l.initial.levels;
  same : l.level ≡ l.fn.level;
  so_far : use_each l.level l.initial.levels (items_view l.items) ≡ use_each l.level l.levels (items_view (drop l.item-index l.items));
}
