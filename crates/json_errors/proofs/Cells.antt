-- An entry of which one cell does not suit.
use Rattle.std.proofs.Common.{◌≡◌, ℕ, ◌<◌, List, Bool, false, length, get_or, drop, refl}
use Rattle.std.proofs.lemmas.List.{drop_more}
use Rattle.serde_json.specs.Data.{Items}
use Rattle.serde_json.specs.Find.{get_item}
use Rattle.json_errors.specs.Env.{cells, cell_in}
use Rattle.json_errors.specs.declared.table.Cell.{Cell}

pub cells_stop : (all : Bool) (at i : ℕ) (cs : List Cell) (c : Cell) (ds : Items)
    → all ≡ cells at (drop i cs) ds → i < length cs → cell_in (get_or cs i c) (get_item at ds) ≡ false → false ≡ all
cells_stop all at i cs c ds e l n = rw e (rw (drop_more cs i c l) (rw n refl))
