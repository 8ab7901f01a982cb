-- The tables of an environment.
use Rattle.std.specs.Prelude.{ℕ, List, [], ◌∷◌, codes}
use Rattle.json_errors.specs.declared.table.Table as rust
use Rattle.json_errors.specs.declared.table.Cell.{Cell}
use Rattle.json_errors.specs.declared.table.Cell.TheVariants as cell

-- a table: its name, and what each entry holds
pub record Table : Type 0 where
  pub name : List ℕ
  pub cells : List Cell

abbrev pub table_of : rust.Table → Table
table_of t = record { name = t.name.now; cells = t.cells.now }

infixr 6 ◌∶◌
abbrev ◌∶◌ : List ℕ → List Cell → Table
n ∶ cs = record { name = n; cells = cs }

-- the tables in front of that of expansions, in order
abbrev pub tables : List Table
tables = (codes "disabled" ∶ (cell.Small ∷ cell.Small ∷ cell.Small ∷ []))
    ∷ (codes "preds" ∶ (cell.Small ∷ cell.Decision ∷ []))
    ∷ (codes "hygiene" ∶ (cell.Small ∷ cell.Small ∷ cell.Small ∷ []))
    ∷ (codes "contexts" ∶ (cell.Small ∷ cell.Small ∷ cell.Small ∷ cell.SmallOrNull ∷ cell.Truth ∷ cell.SmallOrNull ∷ []))
    ∷ (codes "blocks" ∶ (cell.Small ∷ cell.Small ∷ cell.Small ∷ cell.Small ∷ []))
    ∷ (codes "resolve" ∶ (cell.Small ∷ cell.PathText ∷ cell.Resolution ∷ cell.Resolution ∷ cell.SmallOrNull ∷ []))
    ∷ []

-- those behind it
abbrev pub macro_tables : List Table
macro_tables = (codes "macro_defs" ∶ (cell.Small ∷ cell.Text ∷ cell.Small ∷ []))
    ∷ (codes "legacy" ∶ (cell.Small ∷ cell.Text ∷ cell.Small ∷ cell.Small ∷ []))
    ∷ []
