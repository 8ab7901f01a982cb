use Rattle.std.proofs.Common.{◌≡◌, drop}
use Rattle.serde_json.specs.View.{items_view}
use Rattle.lower_json.specs.Macros.{with_expansions}
use Rattle.lower_json.proofs.macros.expand_all.Given as goal

abbrev pub invariant-loop-entry : goal.invariant-loop-entry
invariant-loop-entry l = record {
  kinds : l.kinds ≡ l.fn.kinds;
  nodes : l.nodes ≡ l.fn.nodes;
  so_far : with_expansions l.kinds (items_view l.nodes.nodes.now) (items_view l.entries) l.initial.tables.macros
      ≡ with_expansions l.kinds (items_view l.nodes.nodes.now) (items_view (drop l.entry-index l.entries)) l.tables.macros;
  others : l.tables ≡ record l.initial.tables { macros = l.tables.macros };
}
