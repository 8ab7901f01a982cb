use Rattle.std.proofs.Common.{◌≡◌, drop}
use Rattle.serde_json.specs.View.{items_view}
use Rattle.hir_tables.specs.Tables.{with_context}
use Rattle.lower_json.specs.Tables.{with_all, context_of}
use Rattle.lower_json.proofs.tables.frame_all.Given as goal

abbrev pub invariant-loop-entry : goal.invariant-loop-entry
invariant-loop-entry g l = record {
  so_far : with_all with_context context_of (items_view l.entries) l.initial.tables.contexts
      ≡ with_all with_context context_of (items_view (drop l.entry-index l.entries)) l.tables.contexts;
  others : l.tables ≡ record l.initial.tables { contexts = l.tables.contexts };
}
