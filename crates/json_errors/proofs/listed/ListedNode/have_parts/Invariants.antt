use Rattle.std.proofs.Common.{◌≡◌, drop}
use Rattle.serde_json.specs.View.{items_view}
use Rattle.json_errors.specs.Values.{all_items}
use Rattle.json_errors.specs.Nodes.{has_part}
use Rattle.json_errors.proofs.listed.ListedNode.have_parts.Given as goal

abbrev pub invariant-loop-item : goal.invariant-loop-item
invariant-loop-item l = record {
  same : l.self ≡ l.fn.self;
  so_far : all_items (has_part l.self.kinds.now l.group) (items_view l.items)
      ≡ all_items (has_part l.self.kinds.now l.group) (items_view (drop l.item-index l.items));
}
