use Rattle.std.proofs.Common.{◌≡◌, drop}
use Rattle.serde_json.specs.View.{items_view}
use Rattle.lower_json.specs.Tables.{with_paths}
use Rattle.lower_json.proofs.resolve.resolve_all.Given as goal

abbrev pub invariant-loop-entry : goal.invariant-loop-entry
invariant-loop-entry g l = record {
  so_far : with_paths (items_view l.entries) l.initial.tables.paths
      ≡ with_paths (items_view (drop l.entry-index l.entries)) l.tables.paths;
  others : l.tables ≡ record l.initial.tables { paths = l.tables.paths };
}
