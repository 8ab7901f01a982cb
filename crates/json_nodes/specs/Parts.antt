-- What stands in the fields for parts. A value that leads to no such part says nothing, and a list passes over it.
use Rattle.std.specs.Prelude.{ℕ, List, [], ◌∷◌, Option, Some, None, option_and_then, option_map}
use Rattle.serde_json.specs.Data.{Data, null, boolean, number, string, array, object, Items, no_items, item}
use Rattle.serde_json.specs.Find.{as_array, as_str, get}
use Rattle.json_errors.specs.Values.{small_of}
use Rattle.json_nodes.specs.Fields.{text_in}
use Rattle.hir_base.specs.declared.node.NodeId.{NodeId}
use Rattle.hir_base.specs.declared.node.TextRange.{TextRange}
use Rattle.json_nodes.specs.Any.{AnyPart}
use Rattle.json_nodes.specs.declared.part.AnyOf.TheVariants as part
use Rattle.json_nodes.specs.declared.name_parts.NamePart.TheVariants as name_part

-- a node, with what stands at each node
pub record Here : Type 0 where
  pub part : ℕ → Option AnyPart
  pub value : Data
  pub id : NodeId
  pub range : TextRange

-- what may be null
abbrev pub or_null : {T : Type 0} → (Data → Option T) → Data → Option (Option T)
or_null f null = Some None
or_null f (boolean b) = option_map Some (f (boolean b))
or_null f (number n) = option_map Some (f (number n))
or_null f (string s) = option_map Some (f (string s))
or_null f (array ds) = option_map Some (f (array ds))
or_null f (object ms) = option_map Some (f (object ms))

-- what a text is, or else the other
abbrev pub text_or : {T : Type 0} → (List ℕ → T) → Option T → Option (List ℕ) → Option T
text_or made other None = other
text_or made other (Some t) = Some (made t)

abbrev pub with_some : {T : Type 0} → Option T → List T → List T
with_some None xs = xs
with_some (Some x) xs = x ∷ xs

-- what there is of the items
abbrev pub all_read : {T : Type 0} → (Data → Option T) → Items → List T
all_read f no_items = []
all_read f (item d ds) = with_some (f d) (all_read f ds)

-- a list, which is empty where it is absent
abbrev pub listed : {T : Type 0} → (Data → Option T) → Option Items → List T
listed f None = []
listed f (Some ds) = all_read f ds

module _ (h : Here) where
  -- a text has the number and the range of the node that holds it
  abbrev pub text_part : List ℕ → Option AnyPart
  text_part t = Some (part.Name (name_part.Text h.id h.range t))

  abbrev pub text_at : List ℕ → Option (List ℕ)
  text_at name = text_in name h.value

  -- a text, which has the number and the range of the node that holds it, or what stands at a node, by its index
  abbrev pub any_part : Data → Option AnyPart
  any_part d = text_or (λ t. part.Name (name_part.Text h.id h.range t)) (option_and_then h.part (small_of d)) (as_str d)

  -- the same as a part of a group
  abbrev pub child : {T : Type 0} → (AnyPart → Option T) → Data → Option T
  child as_group d = option_and_then as_group (any_part d)

  abbrev pub items_in : List ℕ → Option Items
  items_in name = option_and_then as_array (get name h.value)

  abbrev pub part_in : {T : Type 0} → (AnyPart → Option T) → List ℕ → Option T
  part_in as_group name = option_and_then (child as_group) (get name h.value)

  abbrev pub list_in : {T : Type 0} → (AnyPart → Option T) → List ℕ → List T
  list_in as_group name = listed (child as_group) (items_in name)

  abbrev pub list_if_there : {T : Type 0} → (AnyPart → Option T) → List ℕ → Option (List T)
  list_if_there as_group name = option_map (all_read (child as_group)) (items_in name)

  abbrev pub list_with_nulls_in : {T : Type 0} → (AnyPart → Option T) → List ℕ → List (Option T)
  list_with_nulls_in as_group name = listed (or_null (child as_group)) (items_in name)
