use Rattle.std.proofs.Common.{◌≡◌, drop}
use Rattle.serde_json.specs.View.{items_view}
use Rattle.hir_tables.specs.Tables.{with_first}
use Rattle.lower_json.specs.Tables.{with_all, named_of}
use Rattle.lower_json.proofs.tables.name_all.Given as goal

abbrev pub invariant-loop-entry : goal.invariant-loop-entry
invariant-loop-entry g l = record {
  so_far : with_all with_first named_of (items_view l.entries) l.initial.tables.hygiene
      ≡ with_all with_first named_of (items_view (drop l.entry-index l.entries)) l.tables.hygiene;
  others : l.tables ≡ record l.initial.tables { hygiene = l.tables.hygiene };
}
