use Rattle.std.proofs.Common.{◌≡◌, ◌++◌, drop}
use Rattle.serde_json.specs.View.{items_view}
use Rattle.json_nodes.specs.Kept.{Kept}
use Rattle.json_nodes.specs.Parts.{all_read}
use Rattle.json_nodes.specs.Nodes.{here}
use Rattle.json_nodes.proofs.node.Node.items.Given as goal

abbrev pub invariant-loop-value : goal.invariant-loop-value
invariant-loop-value g l =
    let read = g.I.Item.said (here g.P.ReadParts.parts l.self) in
    record {
      same : l.self ≡ l.fn.self;
      so_far : Kept l.initial.refused l.refused
          (all_read read (items_view l.values) ≡ l.items.items ++ all_read read (items_view (drop l.value-index l.values)));
    }
