-- Places of names, among entries in the order of the names.
use Rattle.std.specs.Prelude.{ℕ, List, Option, if◌then◌else◌, is_some}
use Rattle.std.specs.BTreeMap.{insert_entry, is_at}
use Rattle.std.specs.Map.{lookup}
use Rattle.hir_store.specs.NameOrder.{name_cmp}
use Rattle.hir_store.specs.declared.name.Name.{Name}

abbrev pub place_of_name : List (Name × ℕ) → Name → Option ℕ
place_of_name es n = lookup (is_at (name_cmp n)) es

-- one more, which counts where the name had no place before
abbrev pub with_first : List (Name × ℕ) → Name → ℕ → List (Name × ℕ)
with_first es n k = if is_some (place_of_name es n) then es else insert_entry name_cmp es n k
