use Rattle.std.proofs.Common.{◌≡◌, ◌++◌, drop}
use Rattle.serde_json.specs.View.{items_view}
use Rattle.json_nodes.specs.Kept.{Kept}
use Rattle.json_nodes.specs.Parts.{all_read}
use Rattle.lower_json.specs.Aliases.{alias_in}
use Rattle.lower_json.proofs.aliases.all.Given as goal

abbrev pub invariant-loop-entry : goal.invariant-loop-entry
invariant-loop-entry l =
    let read = alias_in l.fn.kinds (items_view l.fn.nodes.nodes.now) in
    record {
      kinds : l.kinds ≡ l.fn.kinds;
      nodes : l.nodes ≡ l.fn.nodes;
      so_far : Kept l.initial.refused l.refused
          (all_read read (items_view l.entries) ≡ l.aliases.items ++ all_read read (items_view (drop l.entry-index l.entries)));
    }
