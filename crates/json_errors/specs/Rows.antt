-- What is known of a kind.
use Rattle.std.specs.Prelude.{ℕ, List}
use Rattle.json_errors.specs.declared.group.Group.{Group}
use Rattle.json_errors.specs.declared.field.Field.{Field}
use Rattle.json_errors.specs.declared.field.Sort.{Sort}

-- a field: its name, and what it holds
pub record NamedSort : Type 0 where
  pub name : List ℕ
  pub sort : Sort

abbrev pub named_sort : Field → NamedSort
named_sort f = record { name = f.name.now; sort = f.sort }

infixr 6 ◌∶◌
abbrev pub ◌∶◌ : List ℕ → Sort → NamedSort
n ∶ s = record { name = n; sort = s }

-- a kind: its word, the groups that it serves in, and its fields in order
pub record Row : Type 0 where
  pub word : List ℕ
  pub groups : List Group
  pub fields : List NamedSort
