-- What is said first of a key.
use Rattle.std.specs.Prelude.{Bool, List, Option, if◌then◌else◌, is_some}
use Rattle.std.specs.Map.{lookup}
use Rattle.indexmap.specs.IndexMap.{insert_entry}

module _ {K T : Type 0} (same : K → K → Bool) where
  abbrev pub found_by : List (K × T) → K → Option T
  found_by es k = lookup (same k) es

  -- one more is said, which counts where nothing was said of the key before
  abbrev pub with_first_by : List (K × T) → K → T → List (K × T)
  with_first_by es k t = if is_some (found_by es k) then es else insert_entry same es k t
