-- The table of aliases of types, which names their trees.
use Rattle.std.specs.Prelude.{ℕ, suc, List, Option, Some, None, is_some, codes, if◌then◌else◌, Result, Ok, Err}
use Rattle.serde_json.specs.Data.{Data, Items, no_items, item}
use Rattle.serde_json.specs.Find.{as_array}
use Rattle.json_errors.specs.declared.kind.Kind.{Kind}
use Rattle.json_errors.specs.declared.group.Group.TheVariants as group
use Rattle.json_errors.specs.Values.{index_of, small_of}
use Rattle.json_errors.specs.Kinds.{is_of_group}
use Rattle.json_errors.specs.Levels.{use_at}
use Rattle.json_errors.specs.Nodes.{◌>>=◌, there}
use Rattle.json_errors.specs.Faults.{Fault}
use Rattle.json_errors.specs.Faults as fault

-- the levels with the root of an alias used, which begins at level 1
abbrev pub use_root : List (Option Kind) → Option ℕ → List ℕ → Option (List ℕ)
use_root kinds None levels = None
use_root kinds (Some k) levels = if is_of_group kinds group.TypeAlias k then use_at 1 levels k else None

-- [number, root]
abbrev pub entry : List (Option Kind) → Option Items → List ℕ → Option (List ℕ)
entry kinds (Some (item n (item r no_items))) levels = if is_some (small_of n) then use_root kinds (index_of r) levels else None
entry kinds _ levels = None

-- with those of the entries from a place on
abbrev pub entries : List (Option Kind) → ℕ → Items → List ℕ → Result (List ℕ) Fault
entries kinds at no_items levels = Ok levels
entries kinds at (item d ds) levels = do
  next ← there (entry kinds (as_array d) levels) (fault.Env (codes "aliases") at)
  entries kinds (suc at) ds next

abbrev pub list : List (Option Kind) → Option Items → List ℕ → Result (List ℕ) Fault
list kinds None levels = Err (fault.Env (codes "aliases") 0)
list kinds (Some ds) levels = entries kinds 0 ds levels

-- the table, if it is there
abbrev pub aliases_if_there : List (Option Kind) → Option Data → List ℕ → Result (List ℕ) Fault
aliases_if_there kinds None levels = Ok levels
aliases_if_there kinds (Some d) levels = list kinds (as_array d) levels
