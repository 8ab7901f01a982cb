use Rattle.std.proofs.Common.{◌≡◌, drop}
use Rattle.serde_json.specs.View.{items_view}
use Rattle.lower_json.specs.Macros.{with_legacy}
use Rattle.lower_json.proofs.macros.define_legacy.Given as goal

abbrev pub invariant-loop-entry : goal.invariant-loop-entry
invariant-loop-entry g l = record {
  so_far : with_legacy (items_view l.entries) l.initial.tables.legacy
      ≡ with_legacy (items_view (drop l.entry-index l.entries)) l.tables.legacy;
  others : l.tables ≡ record l.initial.tables { legacy = l.tables.legacy };
}
