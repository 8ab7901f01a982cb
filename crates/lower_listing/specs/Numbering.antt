-- Numbers by first printing.
use Rattle.std.specs.Prelude.{◌≡◌, ℕ, Bool, List, Option, None, nat_eq, slice_index_or}
use Rattle.std.specs.List.{position, position_or_len}

-- the place of the first of these that equals x, or how many there are
abbrev pub place_of : {T : Type 0} → (T → T → Bool) → T → List T → ℕ
place_of eq x xs = position_or_len (eq x) xs

-- at each item's number it is noted where the item stands
abbrev pub Placed : List ℕ → List (Option ℕ) → Type 0
Placed xs places = (x : ℕ) → slice_index_or places x None ≡ position (nat_eq x) xs
