use Rattle.std.proofs.Common.{◌≡◌, drop, map}
use Rattle.serde_json.specs.View.{view}
use Rattle.json_errors.specs.Env as spec
use Rattle.json_errors.specs.Tables.{table_of}
use Rattle.json_errors.proofs.env.lists.Given as goal

abbrev pub invariant-loop-table : goal.invariant-loop-table
invariant-loop-table l = record {
  env : l.env ≡ l.fn.env;
  so_far : spec.lists (map table_of l.tables) (view l.env) ≡ spec.lists (map table_of (drop l.table-index l.tables)) (view l.env);
}
