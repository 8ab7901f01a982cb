-- How a path is looked up.
use Rattle.std.specs.Prelude.{true, false, List, [], ◌∷◌}
use Rattle.hir_store.specs.declared.name.Name.{Name}
use Rattle.hir_store.specs.declared.ids.HygieneId.{HygieneId}
use Rattle.spec_data.specs.Data.{PathData, path_data, item_path, names_in}

-- one of at most one name with the hygiene of its node, a longer one with the root's
abbrev pub hygiene_for : List Name → HygieneId → HygieneId
hygiene_for [] h = h
hygiene_for (n ∷ []) h = h
hygiene_for (n ∷ m ∷ ns) h = record { 0 = 0 }

-- and with the root's one that is relative to a type or has arguments
abbrev pub lookup_hygiene : PathData → HygieneId → HygieneId
lookup_hygiene (path_data k anchor ns true) h = hygiene_for (names_in ns) h
lookup_hygiene (path_data k anchor ns false) h = record { 0 = 0 }
lookup_hygiene (item_path i) h = record { 0 = 0 }
