-- The kinds of the nodes of a list.
use Rattle.std.specs.Prelude.{ℕ, List, [], ◌∷◌, Bool, false, Option, Some, None, codes, option_and_then, slice_index_or}
use Rattle.std.specs.List.{list_any}
use Rattle.serde_json.specs.Data.{Data, Items, no_items, item}
use Rattle.serde_json.specs.Find.{get, as_str}
use Rattle.json_errors.specs.Table.{kind_of, row}
use Rattle.json_errors.specs.declared.kind.Kind.{Kind}
use Rattle.json_errors.specs.declared.group.Group.{Group}
use Rattle.json_errors.specs.contracts.group.GroupPartialEq.TheImpl as same_group

-- the kind of a node, by its field "k"
abbrev pub kind_in : Data → Option Kind
kind_in d = option_and_then kind_of (option_and_then as_str (get (codes "k") d))

-- the kinds of nodes, in order
abbrev pub kinds_of : Items → List (Option Kind)
kinds_of no_items = []
kinds_of (item d ds) = kind_in d ∷ kinds_of ds

abbrev pub serves : Group → Kind → Bool
serves g k = list_any (λ h. same_group.ghosts.eq h g) (row k).groups

-- the kind of the node at an index
abbrev pub kind_at : List (Option Kind) → ℕ → Option Kind
kind_at kinds at = slice_index_or kinds at None

abbrev serves_in : Group → Option Kind → Bool
serves_in g None = false
serves_in g (Some k) = serves g k

-- the node at an index is of the group
abbrev pub is_of_group : List (Option Kind) → Group → ℕ → Bool
is_of_group kinds g at = serves_in g (kind_at kinds at)
