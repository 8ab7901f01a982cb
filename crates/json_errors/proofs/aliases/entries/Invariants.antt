use Rattle.std.proofs.Common.{◌≡◌, drop, length}
use Rattle.serde_json.specs.View.{items_view}
use Rattle.json_errors.specs.Aliases.{entries}
use Rattle.json_errors.proofs.aliases.entries.Given as goal

abbrev pub invariant-loop-item : goal.invariant-loop-item
invariant-loop-item l = record {
  same : l.kinds ≡ l.fn.kinds;
  kept : length l.levels ≡ length l.initial.levels;
  place : l.at ≡ l.item-index;
  so_far : entries l.kinds 0 (items_view l.items) l.initial.levels
      ≡ entries l.kinds l.at (items_view (drop l.item-index l.items)) l.levels;
}
