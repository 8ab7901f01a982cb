-- What values are.
use Rattle.std.specs.Prelude.{ℕ, suc, ◌^◌, List, Bool, true, false, ◌&&◌, Option, Some, None, is_some, nat_lt, bytes_eq, codes}
use Rattle.std.specs.Prelude.{option_and_then, if◌then◌else◌}
use Rattle.std.specs.List.{list_any}
use Rattle.serde_json.specs.Data.{Data, null, boolean, number, string, array, object, Items, no_items, item}
use Rattle.serde_json.specs.Find.{as_number, as_str, as_array, as_bool, as_u64}
use Rattle.json_errors.specs.declared.group.Group.{Group}
use Rattle.json_errors.specs.declared.group.Group.TheVariants as group

abbrev pub all_items : (Data → Bool) → Items → Bool
all_items p no_items = true
all_items p (item d ds) = p d && all_items p ds

-- how many there are
abbrev pub count : Items → ℕ
count no_items = 0
count (item d ds) = suc (count ds)

-- the index that a value is
abbrev pub index_of : Data → Option ℕ
index_of d = option_and_then as_u64 (as_number d)

-- a number of 32 bits
abbrev pub small : Option ℕ → Option ℕ
small None = None
small (Some n) = if nat_lt n (2 ^ 32) then Some n else None

abbrev pub small_of : Data → Option ℕ
small_of d = small (index_of d)

-- a number of 32 bits, or null
abbrev pub is_small_or_null : Data → Bool
is_small_or_null null = true
is_small_or_null (boolean b) = false
is_small_or_null (number n) = is_some (small_of (number n))
is_small_or_null (string s) = false
is_small_or_null (array ds) = false
is_small_or_null (object ms) = false

-- decided one way or the other, or undecided
abbrev pub is_decision : Data → Bool
is_decision (boolean b) = true
is_decision null = true
is_decision _ = false

-- `true` or `false`, where it is there
abbrev pub flag_if_there : Option Data → Bool
flag_if_there None = true
flag_if_there (Some d) = is_some (as_bool d)

abbrev pub is_pair : Option Items → Bool
is_pair (Some (item a (item b no_items))) = is_some (small_of a) && is_some (small_of b)
is_pair _ = false

-- a list of two numbers of 32 bits
abbrev pub is_range : Data → Bool
is_range d = is_pair (as_array d)

abbrev pub has_word : List (List ℕ) → List ℕ → Bool
has_word words text = list_any (λ w. bytes_eq w text) words

abbrev word_among : List (List ℕ) → Option (List ℕ) → Bool
word_among words None = false
word_among words (Some text) = has_word words text

-- a text among some
abbrev pub is_word : List (List ℕ) → Data → Bool
is_word words d = word_among words (as_str d)

abbrev is_alias_text : Option (List ℕ) → Bool
is_alias_text None = false
is_alias_text (Some text) = bytes_eq text (codes "alias")

abbrev pub is_alias_word : Data → Bool
is_alias_word d = is_alias_text (as_str d)

-- an alias with its number
abbrev pub is_alias : Option Items → Bool
is_alias (Some (item word (item n no_items))) = is_alias_word word && is_some (small_of n)
is_alias _ = false

-- what a path stands for: a word among some, an alias, or null
abbrev pub is_resolution : List (List ℕ) → Data → Bool
is_resolution known null = true
is_resolution known (string s) = has_word known s
is_resolution known (array ds) = is_alias (Some ds)
is_resolution known (boolean b) = false
is_resolution known (number n) = false
is_resolution known (object ms) = false

-- a text may stand in place of a name or a lifetime, also where either may stand
abbrev pub takes_text : Group → Bool
takes_text group.Name = true
takes_text group.Lifetime = true
takes_text group.UseArg = true
takes_text _ = false

-- what may stand for a part of a group: a number, and also a text or null where these may
abbrev pub is_part : Group → Bool → Data → Bool
is_part g nulls (number n) = true
is_part g nulls (string s) = takes_text g
is_part g nulls null = nulls
is_part g nulls (boolean b) = false
is_part g nulls (array ds) = false
is_part g nulls (object ms) = false

abbrev between : ℕ → ℕ → Option ℕ → Bool
between low high None = false
between low high (Some k) = nat_lt low k && nat_lt k high

-- a number is an index past one place, and in front of another
abbrev pub is_between : ℕ → ℕ → Data → Bool
is_between low high (number n) = between low high (as_u64 n)
is_between low high (string s) = true
is_between low high null = true
is_between low high (boolean b) = true
is_between low high (array ds) = true
is_between low high (object ms) = true
