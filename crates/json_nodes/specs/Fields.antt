-- What the fields of a node say. One that does not hold what it may says nothing, as if it were absent.
use Rattle.std.specs.Prelude.{ℕ, ◌^◌, ◌+◌, ◌-◌, min, List, Bool, false, Option, Some, None, option_and_then, unwrap_or}
use Rattle.serde_json.specs.Data.{Data, Items, no_items, item}
use Rattle.serde_json.specs.Find.{as_bool, as_str, as_array, get}
use Rattle.json_errors.specs.Values.{small_of}
use Rattle.hir_base.specs.declared.node.TextRange.{TextRange}

-- a number of 32 bits, which is another where none is said
abbrev pub number_or : ℕ → Option Data → ℕ
number_or other d = unwrap_or (option_and_then small_of d) other

abbrev pub range_from : Option ℕ → Option ℕ → Option TextRange
range_from (Some start) (Some end) = Some (record { start = start; end = end })
range_from _ _ = None

abbrev pub range_in : Option Items → Option TextRange
range_in (Some (item a (item b no_items))) = range_from (small_of a) (small_of b)
range_in _ = None

-- the range that goes from a number to the next
abbrev pub range_at : ℕ → TextRange
range_at id = record { start = id; end = min (id + 1) (2 ^ 32 - 1) }

-- the range of a node, which goes from its number to the next where none is said
abbrev pub range_of : ℕ → Option Data → TextRange
range_of id d = unwrap_or (range_in (option_and_then as_array d)) (range_at id)

-- a flag, which is false where it is not said
abbrev pub flag_of : Option Data → Bool
flag_of d = unwrap_or (option_and_then as_bool d) false

-- the text in a field
abbrev pub text_in : List ℕ → Data → Option (List ℕ)
text_in name d = option_and_then as_str (get name d)
