-- Parts that have no fault.
use Rattle.std.proofs.Common.{◌≡◌, ℕ, List, Bool, true, Some, Ok, length, refl, slice_index_or}
use Rattle.serde_json.specs.Data.{Items}
use Rattle.json_errors.specs.Values.{all_items, is_part, is_between}
use Rattle.json_errors.specs.Levels.{below, use_each}
use Rattle.json_errors.specs.Nodes.{InList, parts, has_part}
use Rattle.json_errors.specs.declared.group.Group.{Group}

pub parts_used : (h : InList) (name : List ℕ) (g : Group) (nulls : Bool) (ds : Items) (levels next : List ℕ)
    → all_items (is_part g nulls) ds ≡ true → all_items (is_between h.at (length h.kinds)) ds ≡ true
    → use_each (below (slice_index_or levels h.at 0)) levels ds ≡ Some next → all_items (has_part h.kinds g) ds ≡ true
    → parts h name g nulls ds levels ≡ Ok next
parts_used h name g nulls ds levels next t b u s = rw t (rw b (rw u (rw s refl)))
