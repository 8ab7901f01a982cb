-- The aliases of types that an environment names. What is no entry names none.
use Rattle.std.specs.Prelude.{ℕ, List, Option, Some, None, codes, option_and_then}
use Rattle.serde_json.specs.Data.{Data, Items, no_items, item}
use Rattle.serde_json.specs.Find.{as_array}
use Rattle.hir_syntax.specs.declared.items.TypeAlias.{TypeAlias}
use Rattle.json_errors.specs.Values.{small_of}
use Rattle.json_errors.specs.declared.kind.Kind.{Kind}
use Rattle.json_nodes.specs.Parts.{all_read}
use Rattle.lower_json.specs.Reading.{alias_at}
use Rattle.lower_json.specs.Tables.{rows}
use Rattle.lower_json.specs.declared.document.Alias.{Alias}

abbrev numbered : Option ℕ → Option TypeAlias → Option Alias
numbered (Some n) (Some a) = Some (record { id = record { 0 = n }; item = a })
numbered _ _ = None

-- [number, root]
abbrev pub pair_in : List (Option Kind) → Items → Option Items → Option Alias
pair_in kinds ns (Some (item n (item r no_items))) = numbered (small_of n) (option_and_then (alias_at kinds ns) (small_of r))
pair_in kinds ns _ = None

abbrev pub alias_in : List (Option Kind) → Items → Data → Option Alias
alias_in kinds ns d = pair_in kinds ns (as_array d)

-- the entries of the table, none where there is no environment
abbrev pub entries_of : Option Data → Items
entries_of None = no_items
entries_of (Some env) = rows (codes "aliases") env

-- what they name, in order
abbrev pub aliases_of : List (Option Kind) → Items → Option Data → List Alias
aliases_of kinds ns env = all_read (alias_in kinds ns) (entries_of env)
