use Rattle.std.proofs.Common.{◌≡◌, drop}
use Rattle.serde_json.specs.View.{items_view}
use Rattle.json_errors.specs.Env as spec
use Rattle.json_errors.specs.Tables.{table_of}
use Rattle.json_errors.proofs.env.entries.Given as goal

abbrev pub invariant-loop-item : goal.invariant-loop-item
invariant-loop-item l = record {
  list : l.table ≡ l.fn.table;
  place : l.at ≡ l.item-index;
  so_far : spec.entries (table_of l.table) 0 (items_view l.items) ≡ spec.entries (table_of l.table) l.at
      (items_view (drop l.item-index l.items));
}
