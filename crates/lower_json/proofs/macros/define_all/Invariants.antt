use Rattle.std.proofs.Common.{◌≡◌, drop}
use Rattle.serde_json.specs.View.{items_view}
use Rattle.lower_json.specs.Macros.{with_definitions}
use Rattle.lower_json.proofs.macros.define_all.Given as goal

abbrev pub invariant-loop-entry : goal.invariant-loop-entry
invariant-loop-entry g l = record {
  so_far : with_definitions (items_view l.entries) l.initial.tables.macro_defs
      ≡ with_definitions (items_view (drop l.entry-index l.entries)) l.tables.macro_defs;
  others : l.tables ≡ record l.initial.tables { macro_defs = l.tables.macro_defs };
}
