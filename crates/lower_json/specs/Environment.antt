-- The environment of a document.
use Rattle.std.specs.Prelude.{codes, List, Option, Some, None}
use Rattle.serde_json.specs.Data.{Data, Items}
use Rattle.serde_json.specs.Find.{get}
use Rattle.hir_tables.specs.Tables.{Tables, empty, with_context, with_first, with_pred}
use Rattle.hir_store.specs.declared.ids.ItemContainerId.{ItemContainerId}
use Rattle.json_errors.specs.declared.kind.Kind.{Kind}
use Rattle.json_nodes.specs.Fields.{flag_of, number_or}
use Rattle.lower_json.specs.Macros.{with_definitions, with_expansions, with_legacy}
use Rattle.lower_json.specs.Tables.{context_of, decided_of, disabled_of, lang_of, named_of, numbered_of, rows, with_all, with_paths}

-- the tables with what an environment writes, whose trees stand among some nodes; of two entries for one node, predicate,
-- context, call, name or path the first counts
abbrev pub with_tables : List (Option Kind) → Items → Data → Tables → Tables
with_tables kinds ns env ts = record ts {
  disabled = with_all with_first disabled_of (rows (codes "disabled") env) ts.disabled;
  preds = with_all with_pred decided_of (rows (codes "preds") env) ts.preds;
  hygiene = with_all with_first named_of (rows (codes "hygiene") env) ts.hygiene;
  contexts = with_all with_context context_of (rows (codes "contexts") env) ts.contexts;
  blocks = with_all with_first numbered_of (rows (codes "blocks") env) ts.blocks;
  paths = with_paths (rows (codes "resolve") env) ts.paths;
  macros = with_expansions kinds ns (rows (codes "macros") env) ts.macros;
  macro_defs = with_definitions (rows (codes "macro_defs") env) ts.macro_defs;
  legacy = with_legacy (rows (codes "legacy") env) ts.legacy;
  lang_items = lang_of (get (codes "lang") env);
  new_range = flag_of (get (codes "new_range") env);
  limit = number_or 16 (get (codes "limit") env);
}

-- of a body that is not skipped and stands in the container; empty ones where there is no environment
abbrev pub tables_of : ItemContainerId → List (Option Kind) → Items → Option Data → Tables
tables_of container kinds ns None = empty container
tables_of container kinds ns (Some env) = with_tables kinds ns env (empty container)
