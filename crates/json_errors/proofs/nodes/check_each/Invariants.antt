use Rattle.std.proofs.Common.{◌≡◌, ◌≤◌, drop, length}
use Rattle.serde_json.specs.View.{items_view}
use Rattle.json_errors.specs.Members.{all_pairs, pairs}
use Rattle.json_errors.specs.Nodes.{nodes_from}
use Rattle.json_errors.proofs.nodes.check_each.Given as goal

abbrev pub invariant-loop-node : goal.invariant-loop-node
invariant-loop-node l = record {
  same : l.kinds ≡ l.fn.kinds;
  kept : length l.levels ≡ length l.initial.levels;
  place : l.at ≡ l.node-index;
  same_members : l.members ≡ l.fn.members;
  start : l.start ≤ length l.members;
  beside : pairs (drop l.start l.members) ≡ all_pairs (items_view (drop l.node-index l.nodes));
  so_far : nodes_from l.kinds 0 (items_view l.nodes) l.initial.levels
      ≡ nodes_from l.kinds l.at (items_view (drop l.node-index l.nodes)) l.levels;
}
