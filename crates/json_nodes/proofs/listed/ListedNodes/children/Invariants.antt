use Rattle.std.proofs.Common.{◌≡◌, ◌++◌, drop}
use Rattle.serde_json.specs.View.{items_view}
use Rattle.json_nodes.specs.Kept.{Kept}
use Rattle.json_nodes.specs.Parts.{all_read}
use Rattle.json_nodes.specs.Listed.{child}
use Rattle.json_nodes.specs.Lists.{listed}
use Rattle.json_nodes.proofs.listed.ListedNodes.children.Given as goal

abbrev pub invariant-loop-value : goal.invariant-loop-value
invariant-loop-value g l =
    let read = child (listed g.P.ReadParts.parts l.self) g.I.ItemPart.said in
    record {
      same : l.self ≡ l.fn.self;
      so_far : Kept l.initial.refused l.refused
          (all_read read (items_view l.values) ≡ l.parts.items ++ all_read read (items_view (drop l.value-index l.values)));
    }
