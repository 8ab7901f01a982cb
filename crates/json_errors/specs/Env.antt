-- The first fault of an environment.
use Rattle.std.specs.Prelude.{◌≡◌, ℕ, suc, ◌==◌, ◌+◌, Bool, true, false, not, ◌&&◌, List, [], ◌∷◌, Option, Some, None}
use Rattle.std.specs.Prelude.{is_some, length, codes, nat_lt, Result, Ok, Err}
use Rattle.serde_json.specs.Data.{Data, Items, no_items, item}
use Rattle.serde_json.specs.Find.{get, get_item, as_array, as_bool, as_object, as_str}
use Rattle.json_errors.specs.Words.{words}
use Rattle.json_errors.specs.declared.words.Words.TheVariants as set
use Rattle.json_errors.specs.Values.{count, flag_if_there, index_of, small_of, is_small_or_null, is_decision, is_resolution}
use Rattle.json_errors.specs.PathTexts.{is_path}
use Rattle.json_errors.specs.Expansions.{expansions_if_there}
use Rattle.json_errors.specs.Aliases.{aliases_if_there}
use Rattle.json_errors.specs.Nodes.{◌>>=◌, wanted}
use Rattle.json_errors.specs.Faults.{Fault, fault_of}
use Rattle.json_errors.specs.Faults as fault
use Rattle.json_errors.specs.Tables.{Table, tables, macro_tables}
use Rattle.json_errors.specs.declared.kind.Kind.{Kind}
use Rattle.json_errors.specs.declared.fault.Fault as rust
use Rattle.json_errors.specs.declared.table.Cell.{Cell}
use Rattle.json_errors.specs.declared.table.Cell.TheVariants as cell

-- a value suits a place
abbrev pub suits : Cell → Data → Bool
suits cell.Small d = is_some (small_of d)
suits cell.SmallOrNull d = is_small_or_null d
suits cell.Truth d = is_some (as_bool d)
suits cell.Decision d = is_decision d
suits cell.Text d = is_some (as_str d)
suits cell.PathText d = is_path d
suits cell.Resolution d = is_resolution (words set.Resolutions) d

abbrev pub cell_in : Cell → Option Data → Bool
cell_in c None = false
cell_in c (Some d) = suits c d

-- the cells from a place on
abbrev pub cells : ℕ → List Cell → Items → Bool
cells at [] ds = true
cells at (c ∷ cs) ds = cell_in c (get_item at ds) && cells (at + 1) cs ds

abbrev pub entry : List Cell → Option Items → Bool
entry cs None = false
entry cs (Some ds) = (count ds == length cs) && cells 0 cs ds

-- the entries of a table from a place on
abbrev pub entries : Table → ℕ → Items → Result (Unit {0}) Fault
entries t at no_items = Ok tt
entries t at (item d ds) = do
  _ ← wanted (entry t.cells (as_array d)) (fault.Env t.name at)
  entries t (suc at) ds

abbrev pub list_of : Table → Option Items → Result (Unit {0}) Fault
list_of t None = Err (fault.Env t.name 0)
list_of t (Some ds) = entries t 0 ds

-- a table, if it is there
abbrev pub list_if_there : Table → Option Data → Result (Unit {0}) Fault
list_if_there t None = Ok tt
list_if_there t (Some d) = list_of t (as_array d)

abbrev pub lists : List Table → Data → Result (Unit {0}) Fault
lists [] env = Ok tt
lists (t ∷ ts) env = do
  _ ← list_if_there t (get t.name env)
  lists ts env

abbrev pub item_if_there : Option Data → Bool
item_if_there None = true
item_if_there (Some d) = is_small_or_null d

-- the members of these names, where they are there
abbrev pub are_items : List (List ℕ) → Data → Bool
are_items [] lang = true
are_items (n ∷ ns) lang = item_if_there (get n lang) && are_items ns lang

-- the lang items, where they are there
abbrev pub items_if_there : Option Data → Bool
items_if_there None = true
items_if_there (Some lang) = is_some (as_object lang) && are_items (words set.LangItems) lang

abbrev at_most : ℕ → Option ℕ → Bool
at_most most None = false
at_most most (Some n) = not (nat_lt most n)

-- how many macro calls may be entered one in the other, where it is said
abbrev pub limit_if_there : Option Data → Bool
limit_if_there None = true
limit_if_there (Some d) = at_most 64 (index_of d)

-- the levels with the trees used that it names, from those before
abbrev pub whole_env : List (Option Kind) → Data → List ℕ → Result (List ℕ) Fault
whole_env kinds env levels = do
  _ ← wanted (limit_if_there (get (codes "limit") env)) (fault.Env (codes "limit") 0)
  _ ← wanted (flag_if_there (get (codes "new_range") env)) (fault.Env (codes "new_range") 0)
  _ ← lists tables env
  expanded ← expansions_if_there kinds (get (codes "macros") env) levels
  _ ← lists macro_tables env
  used ← aliases_if_there kinds (get (codes "aliases") env) expanded
  _ ← wanted (items_if_there (get (codes "lang") env)) (fault.Env (codes "lang") 0)
  Ok used

-- an environment, if it is there
abbrev pub env_if_there : List (Option Kind) → Option Data → List ℕ → Result (List ℕ) Fault
env_if_there kinds None levels = Ok levels
env_if_there kinds (Some env) levels = whole_env kinds env levels

-- what is found is the fault
abbrev pub Finds : Result (Unit {0}) Fault → Result (Unit {0}) rust.Fault → Type 0
Finds found (Ok _) = found ≡ Ok tt
Finds found (Err f) = found ≡ Err (fault_of f)
