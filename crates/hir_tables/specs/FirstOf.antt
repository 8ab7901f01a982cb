-- What is said first of a key, among entries in the order of their keys.
use Rattle.std.specs.Prelude.{List, [], ◌∷◌, Option, Some, None, if◌then◌else◌, is_some, option_and_then}
use Rattle.std.specs.BTreeMap.{insert_entry, is_at}
use Rattle.std.specs.Map.{lookup, set_value}
use Rattle.std.specs.declared.cmp.Ordering.{Ordering}

module _ {K T : Type 0} (cmp : K → K → Ordering) where
  abbrev pub found_by : List (K × T) → K → Option T
  found_by es k = lookup (is_at (cmp k)) es

  -- one more is said, which counts where nothing was said of the key before
  abbrev pub with_first_by : List (K × T) → K → T → List (K × T)
  with_first_by es k t = if is_some (found_by es k) then es else insert_entry cmp es k t

-- the same by two keys: the answers for the second stand below the first
module _ {K L T : Type 0} (cmp : K → K → Ordering) (order : L → L → Ordering) where
  abbrev pub found_below : List (K × List (L × T)) → K → L → Option T
  found_below es k l = option_and_then (λ below. found_by order below l) (found_by cmp es k)

  abbrev pub with_below : List (K × List (L × T)) → K → L → T → Option (List (L × T)) → List (K × List (L × T))
  with_below es k l t None = insert_entry cmp es k ((l, t) ∷ [])
  with_below es k l t (Some below) = set_value (is_at (cmp k)) es (with_first_by order below l t)

  abbrev pub with_first_below : List (K × List (L × T)) → K → L → T → List (K × List (L × T))
  with_first_below es k l t = with_below es k l t (found_by cmp es k)
