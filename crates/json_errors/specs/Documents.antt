-- The first fault of a document.
use Rattle.std.specs.Prelude.{◌≡◌, ℕ, ◌==◌, Bool, true, not, ◌&&◌, ◌||◌, List, Option, Some, None, is_some, codes, replicate, nat_lt}
use Rattle.std.specs.Prelude.{option_and_then, Result, Ok, Err, if◌then◌else◌}
use Rattle.serde_json.specs.Data.{Data, Items, no_items}
use Rattle.serde_json.specs.Find.{get, as_array, as_object}
use Rattle.serde_json.specs.Written.{has_float}
use Rattle.json_errors.specs.Words.{words}
use Rattle.json_errors.specs.declared.words.Words.{Words}
use Rattle.json_errors.specs.declared.words.Words.TheVariants as set
use Rattle.json_errors.specs.declared.kind.Kind.{Kind}
use Rattle.json_errors.specs.declared.group.Group.{Group}
use Rattle.json_errors.specs.Values.{count, flag_if_there, index_of, is_word}
use Rattle.json_errors.specs.Kinds.{kinds_of, is_of_group}
use Rattle.json_errors.specs.Levels.{use_at}
use Rattle.json_errors.specs.Nodes.{◌>>=◌, wanted, there, nodes_from, all_levels}
use Rattle.json_errors.specs.Env.{env_if_there}
use Rattle.json_errors.specs.Faults.{Fault, fault_of}
use Rattle.json_errors.specs.Faults as fault
use Rattle.json_errors.specs.declared.refusal.Refusal.{Refusal}
use Rattle.json_errors.specs.declared.refusal.Refusal.TheVariants as refusal

abbrev pub word_if_there : Words → Option Data → Bool
word_if_there s None = true
word_if_there s (Some d) = is_word (words s) d

abbrev pub object_if_there : Option Data → Bool
object_if_there None = true
object_if_there (Some d) = is_some (as_object d)

-- the fields of the document itself hold what they may
abbrev pub has_heading : Data → Bool
has_heading d = word_if_there set.Owners (get (codes "owner") d)
    && (word_if_there set.Containers (get (codes "container") d)
    && (flag_if_there (get (codes "skip") d)
    && (flag_if_there (get (codes "sources") d)
    && (flag_if_there (get (codes "analysis") d)
    && object_if_there (get (codes "env") d)))))

-- the list of nodes
abbrev pub nodes_in : Data → Option Items
nodes_in d = option_and_then as_array (get (codes "nodes") d)

abbrev pub items_or_none : Option Items → Items
items_or_none (Some ds) = ds
items_or_none None = no_items

-- the nodes, none where there is no list of them
abbrev pub nodes : Data → Items
nodes d = items_or_none (nodes_in d)

-- a heading that is one, and a list of nodes
abbrev pub has_frame : Data → Bool
has_frame d = has_heading d && is_some (nodes_in d)

-- also numbers that are all whole ones of 64 bits
abbrev pub is_document : Data → Bool
is_document d = not (has_float d) && has_frame d

abbrev root_in : Option Data → Option ℕ
root_in None = Some 0
root_in (Some d) = index_of d

-- the index of the root, 0 where there is none
abbrev pub root_of : Data → Option ℕ
root_of d = root_in (get (codes "root") d)

-- the levels with the root used, which is of the group; where there is no node, none is used
abbrev pub use_root : List (Option Kind) → Items → Group → ℕ → List ℕ → Option (List ℕ)
use_root kinds ns g root levels = if count ns == 0 then Some levels else (if is_of_group kinds g root then use_at 1 levels root else None)

-- of the trees: the root, each node in order, the environment, which names others, whether each node is used, and none too
-- deep; an optional one may lack its nodes
abbrev pub whole_tree : List (Option Kind) → Items → Group → Bool → Data → List ℕ → Result (List ℕ) Fault
whole_tree kinds ns g optional d levels = do
  root ← there (root_of d) fault.Root
  first ← there (use_root kinds ns g root levels) fault.Root
  next ← nodes_from kinds 0 ns first
  named ← env_if_there kinds (get (codes "env") d) next
  used ← all_levels named
  _ ← wanted (optional || not (count ns == 0)) fault.NoTree
  Ok used

abbrev fault_in : Result (List ℕ) Fault → Option Fault
fault_in (Ok levels) = None
fault_in (Err f) = Some f

-- the first fault of a tree, all of whose nodes are unused at first
abbrev pub tree_fault : Group → Bool → Data → Items → Option Fault
tree_fault g optional d ns = fault_in (whole_tree (kinds_of ns) ns g optional d (replicate (count ns) 0))

-- the first fault of a document with at most so many nodes and a root of the group, which may be optional; none where it
-- is one
abbrev pub document_fault : ℕ → Group → Bool → Data → Option Fault
document_fault most g optional d = if is_document d
    then (if nat_lt most (count (nodes d)) then Some fault.TooManyNodes else tree_fault g optional d (nodes d))
    else Some fault.NotADocument

-- the fault is the first one; memory may be refused for any document
abbrev pub IsRefusalFor : Option Fault → Refusal → Type 0
IsRefusalFor first refusal.Memory = Unit {0}
IsRefusalFor first (refusal.Fault f) = first ≡ Some (fault_of f)
