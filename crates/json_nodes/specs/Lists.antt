-- What the nodes of a list know.
use Rattle.std.specs.Prelude.{ℕ, Option}
use Rattle.serde_json.specs.View.{items_view}
use Rattle.json_nodes.specs.Any.{AnyPart}
use Rattle.json_nodes.specs.Listed.{Listed}
use Rattle.json_nodes.specs.declared.listed.ListedNodes.{ListedNodes}

-- the nodes, where `parts` says what their reader reads
abbrev pub listed : {P : Type 0} → (P → ℕ → Option AnyPart) → ListedNodes P → Listed
listed parts l = record { kinds = l.kinds.now; nodes = items_view l.nodes.now.nodes.now; part = parts l.parts.now }
