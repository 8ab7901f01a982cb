use Rattle.std.proofs.Common.{◌≡◌, drop}
use Rattle.serde_json.specs.View.{items_view}
use Rattle.json_errors.specs.Env as spec
use Rattle.json_errors.proofs.env.cells.Given as goal

abbrev pub invariant-loop-cell : goal.invariant-loop-cell
invariant-loop-cell l = record {
  others : l.items ≡ l.fn.items;
  place : l.at ≡ l.cell-index;
  so_far : spec.cells 0 l.cells (items_view l.items) ≡ spec.cells l.at (drop l.cell-index l.cells) (items_view l.items);
}
