-- The members of nodes, side by side.
use Rattle.std.specs.Prelude.{ℕ, ◌+◌, List, [], ◌∷◌, ◌++◌, length, map}
use Rattle.serde_json.specs.Data.{Data, null, boolean, number, string, array, object, Items, no_items, item}
use Rattle.serde_json.specs.Data.{Members, no_members, member}
use Rattle.serde_json.specs.View.{view}
use Rattle.json_errors.specs.declared.members.Member.{Member}

-- a name and what it holds
abbrev pub Named : Type 0
Named = List ℕ × Data

abbrev pub pair_of : Member → Named
pair_of m = (m.name.now, view m.value.now)

abbrev pub pairs : List Member → List Named
pairs ms = map pair_of ms

abbrev pub members_with : List Named → Members
members_with [] = no_members
members_with (p ∷ ps) = member p.0 p.1 (members_with ps)

-- the node that has these members
unfoldable pub said : List Member → Data
said ms = object (members_with (pairs ms))

abbrev pub pairs_in : Members → List Named
pairs_in no_members = []
pairs_in (member k d ms) = (k, d) ∷ pairs_in ms

-- the members of a node, none where it is no object
abbrev pub pairs_of : Data → List Named
pairs_of null = []
pairs_of (boolean b) = []
pairs_of (number n) = []
pairs_of (string s) = []
pairs_of (array ds) = []
pairs_of (object ms) = pairs_in ms

-- those of all nodes, one behind the other
abbrev pub all_pairs : Items → List Named
all_pairs no_items = []
all_pairs (item d ds) = pairs_of d ++ all_pairs ds

-- where those of each begin, counted from a number
abbrev pub starts_from : ℕ → Items → List ℕ
starts_from n no_items = []
starts_from n (item d ds) = n ∷ starts_from (n + length (pairs_of d)) ds
