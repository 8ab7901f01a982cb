use Rattle.std.proofs.Common.{◌≡◌, ◌++◌, drop, length}
use Rattle.serde_json.specs.View.{items_view}
use Rattle.serde_json.specs.Written.{items_have_float}
use Rattle.json_errors.specs.Kinds.{kinds_of}
use Rattle.json_errors.specs.Members.{all_pairs, pairs, starts_from}
use Rattle.json_errors.proofs.kinds.found_in.Given as goal

abbrev pub invariant-loop-node : goal.invariant-loop-node
invariant-loop-node l = record {
  kinds : kinds_of (items_view l.nodes) ≡ l.found.kinds.items ++ kinds_of (items_view (drop l.node-index l.nodes));
  members : all_pairs (items_view l.nodes) ≡ pairs l.found.members.items ++ all_pairs (items_view (drop l.node-index l.nodes));
  starts : starts_from 0 (items_view l.nodes)
      ≡ l.found.starts.items ++ starts_from (length l.found.members.items) (items_view (drop l.node-index l.nodes));
  whole : items_have_float (items_view l.nodes) ≡ items_have_float (items_view (drop l.node-index l.nodes));
}
