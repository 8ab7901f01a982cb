use Rattle.std.proofs.Common.{◌≡◌, drop}
use Rattle.serde_json.specs.View.{items_view}
use Rattle.json_errors.specs.Values.{all_items, is_between}
use Rattle.json_errors.proofs.value.are_between.Given as goal

abbrev pub invariant-loop-item : goal.invariant-loop-item
invariant-loop-item l = all_items (is_between l.low l.high) (items_view l.items)
    ≡ all_items (is_between l.low l.high) (items_view (drop l.item-index l.items))
