-- The levels of nodes: 0 for a node that is not used yet, 1 for a root, and one more for a part.
use Rattle.std.specs.Prelude.{◌≡◌, ℕ, ◌+◌, ◌==◌, Bool, true, false, List, [], ◌∷◌, Option, Some, None, nat_lt, length}
use Rattle.std.specs.Prelude.{option_and_then, slice_index_or, slice_set, if◌then◌else◌}
use Rattle.serde_json.specs.Data.{Data, Items, no_items, item}
use Rattle.json_errors.specs.Values.{index_of}

-- the level below; one number stands for all levels that are too deep. A node that is not used yet may still be the root of a tree
abbrev pub below : ℕ → ℕ
below level = if level == 0 then 2 else if nat_lt level 257 then level + 1 else level

-- the levels with one more node used, which was not used yet
abbrev pub use_at : ℕ → List ℕ → ℕ → Option (List ℕ)
use_at level levels k = if nat_lt k (length levels)
    then (if slice_index_or levels k 0 == 0 then Some (slice_set levels k level) else None)
    else Some levels

abbrev pub use_index : ℕ → List ℕ → Option ℕ → Option (List ℕ)
use_index level levels None = Some levels
use_index level levels (Some k) = use_at level levels k

abbrev pub use_one : ℕ → List ℕ → Data → Option (List ℕ)
use_one level levels d = use_index level levels (index_of d)

-- the levels with the nodes used whose indexes stand in values
abbrev pub use_each : ℕ → List ℕ → Items → Option (List ℕ)
use_each level levels no_items = Some levels
use_each level levels (item d ds) = option_and_then (λ next. use_each level next ds) (use_one level levels d)

-- the first node that is not used
abbrev pub first_unused : ℕ → List ℕ → Option ℕ
first_unused at [] = None
first_unused at (l ∷ ls) = if l == 0 then Some at else first_unused (at + 1) ls

-- the first node that is too deep
abbrev pub first_deep : ℕ → List ℕ → Option ℕ
first_deep at [] = None
first_deep at (l ∷ ls) = if nat_lt 256 l then Some at else first_deep (at + 1) ls

-- the nodes are used, or one of them was used before
abbrev pub Uses : Option (List ℕ) → Bool → List ℕ → Type 0
Uses used true new = used ≡ Some new
Uses used false new = used ≡ None
