-- What is listed of a part that may be absent, and of parts one after another.
use Rattle.std.specs.Prelude.{List, [], ◌∷◌, ◌++◌, Option, Some, None}

module _ {A B : Type 0} (listed : A → List B) where
  abbrev pub of_option : Option A → List B
  of_option None = []
  of_option (Some x) = listed x

  abbrev pub of_each : List A → List B
  of_each [] = []
  of_each (x ∷ xs) = listed x ++ of_each xs

  -- of those that are there
  abbrev pub of_present : List (Option A) → List B
  of_present [] = []
  of_present (x ∷ xs) = of_option x ++ of_present xs
