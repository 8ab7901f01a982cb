-- The table of what macro calls are expanded to, which names trees.
use Rattle.std.specs.Prelude.{ℕ, suc, Bool, true, false, ◌&&◌, ◌||◌, List, Option, Some, None, is_some, bytes_eq, codes}
use Rattle.std.specs.Prelude.{if◌then◌else◌, Result, Ok, Err}
use Rattle.serde_json.specs.Data.{Data, null, boolean, number, string, array, object, Items, no_items, item}
use Rattle.serde_json.specs.Find.{as_array, as_str, as_u64}
use Rattle.json_errors.specs.declared.kind.Kind.{Kind}
use Rattle.json_errors.specs.declared.group.Group.TheVariants as group
use Rattle.json_errors.specs.Values.{index_of, small_of}
use Rattle.json_errors.specs.Kinds.{is_of_group}
use Rattle.json_errors.specs.Levels.{use_index}
use Rattle.json_errors.specs.PathTexts.{is_path}
use Rattle.json_errors.specs.Nodes.{◌>>=◌, there}
use Rattle.json_errors.specs.Faults.{Fault}
use Rattle.json_errors.specs.Faults as fault

-- the node at an index is what a call may be expanded to: an expression, a pattern, a type, or statements
abbrev pub is_fragment : List (Option Kind) → ℕ → Bool
is_fragment kinds k = is_of_group kinds group.Expr k || (is_of_group kinds group.Pat k
    || (is_of_group kinds group.Type_ k || is_of_group kinds group.MacroStmts k))

abbrev pub fragment_at : List (Option Kind) → Option ℕ → Bool
fragment_at kinds None = false
fragment_at kinds (Some k) = is_fragment kinds k

-- the root of such a tree, or null
abbrev pub is_tree : List (Option Kind) → Data → Bool
is_tree kinds null = true
is_tree kinds (boolean b) = false
is_tree kinds (number n) = fragment_at kinds (as_u64 n)
is_tree kinds (string s) = false
is_tree kinds (array ds) = false
is_tree kinds (object ms) = false

abbrev is_text : List ℕ → Option (List ℕ) → Bool
is_text word None = false
is_text word (Some text) = bytes_eq text word

-- the value is the word
abbrev pub says : List ℕ → Data → Bool
says word d = is_text word (as_str d)

-- a file, and a node in it
abbrev pub is_site : Data → Data → Bool
is_site file node = is_some (small_of file) && is_some (small_of node)

-- [file, node, "none"], [file, node, "unresolved", path] or [file, node, "file", new file, root or null]
abbrev pub is_entry : List (Option Kind) → Option Items → Bool
is_entry kinds (Some (item f (item n (item w no_items)))) = is_site f n && says (codes "none") w
is_entry kinds (Some (item f (item n (item w (item p no_items))))) = is_site f n && (says (codes "unresolved") w && is_path p)
is_entry kinds (Some (item f (item n (item w (item g (item r no_items)))))) =
    is_site f n && (says (codes "file") w && (is_some (small_of g) && is_tree kinds r))
is_entry kinds _ = false

-- the root of the tree that an entry names
abbrev pub root_in : Option Items → Option ℕ
root_in (Some (item f (item n (item w (item g (item r no_items)))))) = index_of r
root_in _ = None

-- the levels with that root used, which begins at level 1, wherever its call stands
abbrev pub use_root : Option Items → List ℕ → Option (List ℕ)
use_root ds levels = use_index 1 levels (root_in ds)

abbrev pub entry : List (Option Kind) → Option Items → List ℕ → Option (List ℕ)
entry kinds ds levels = if is_entry kinds ds then use_root ds levels else None

-- with those of the entries from a place on
abbrev pub entries : List (Option Kind) → ℕ → Items → List ℕ → Result (List ℕ) Fault
entries kinds at no_items levels = Ok levels
entries kinds at (item d ds) levels = do
  next ← there (entry kinds (as_array d) levels) (fault.Env (codes "macros") at)
  entries kinds (suc at) ds next

abbrev pub list : List (Option Kind) → Option Items → List ℕ → Result (List ℕ) Fault
list kinds None levels = Err (fault.Env (codes "macros") 0)
list kinds (Some ds) levels = entries kinds 0 ds levels

-- the table, if it is there
abbrev pub expansions_if_there : List (Option Kind) → Option Data → List ℕ → Result (List ℕ) Fault
expansions_if_there kinds None levels = Ok levels
expansions_if_there kinds (Some d) levels = list kinds (as_array d) levels
