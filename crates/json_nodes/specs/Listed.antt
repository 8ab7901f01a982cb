-- What stands in the lists of items, by the indexes of its nodes.
use Rattle.std.specs.Prelude.{ℕ, List, Option, Some, None, option_and_then}
use Rattle.serde_json.specs.Data.{Data, Items}
use Rattle.serde_json.specs.Find.{as_array, get, get_item}
use Rattle.json_errors.specs.Kinds.{kind_at}
use Rattle.json_errors.specs.Values.{small_of}
use Rattle.json_errors.specs.declared.kind.ItemNode.{ItemNode}
use Rattle.json_errors.specs.declared.kind.Kind.{Kind}
use Rattle.json_errors.specs.declared.kind.Kind.TheVariants as kind
use Rattle.json_nodes.specs.Any.{AnyPart}
use Rattle.json_nodes.specs.Nodes.{node_at}
use Rattle.json_nodes.specs.Parts.{Here, listed}

-- the nodes of a list with their kinds, and the parts that those in the lists of items are made of, by the indexes of their nodes
pub record Listed : Type 0 where
  pub kinds : List (Option Kind)
  pub nodes : Items
  pub part : ℕ → Option AnyPart

abbrev pub item_kind : Option Kind → Option ItemNode
item_kind (Some (kind.Item k)) = Some k
item_kind _ = None

module _ (l : Listed) where
  abbrev pub kind_of : ℕ → Option Kind
  kind_of at = kind_at l.kinds at

  -- what stands at a node, by its kind
  abbrev pub part_at : {T : Type 0} → (Items → Here → ItemNode → Option T) → ℕ → Option T
  part_at said at = option_and_then
      (λ d. option_and_then (said l.nodes (node_at l.part at d)) (item_kind (kind_of at)))
      (get_item at l.nodes)

  abbrev pub child : {T : Type 0} → (Items → Here → ItemNode → Option T) → Data → Option T
  child said d = option_and_then (part_at said) (small_of d)

  -- the values in a field of the node at an index
  abbrev pub values : List ℕ → ℕ → Option Items
  values name at = option_and_then (λ d. option_and_then as_array (get name d)) (get_item at l.nodes)

  -- what they name
  abbrev pub list_at : {T : Type 0} → (Items → Here → ItemNode → Option T) → List ℕ → ℕ → List T
  list_at said name at = listed (child said) (values name at)
