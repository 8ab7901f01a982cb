-- What a node knows of itself.
use Rattle.std.specs.Prelude.{ℕ, Option, codes}
use Rattle.serde_json.specs.Data.{Data}
use Rattle.serde_json.specs.Find.{get}
use Rattle.serde_json.specs.View.{view}
use Rattle.json_nodes.specs.Fields.{number_or, range_of}
use Rattle.json_nodes.specs.Parts.{Here}
use Rattle.json_nodes.specs.declared.node.Node.{Node}
use Rattle.json_nodes.specs.Any.{AnyPart}

-- the node, where `parts` says what its reader reads
abbrev pub here : {P : Type 0} → (P → ℕ → Option AnyPart) → Node P → Here
here parts n = record { part = parts n.parts.now; value = view n.value.node.now; id = n.id; range = n.range }

-- a node at an index, by its data, of the parts that stand at others
abbrev pub node_with : (ℕ → Option AnyPart) → ℕ → Data → ℕ → Here
node_with parts at d id = record { part = parts; value = d; id = record { 0 = id }; range = range_of id (get (codes "r") d) }

abbrev pub node_at : (ℕ → Option AnyPart) → ℕ → Data → Here
node_at parts at d = node_with parts at d (number_or at (get (codes "id") d))
