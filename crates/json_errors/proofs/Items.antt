-- The items of a list, by index, and how many they are.
use Rattle.std.proofs.Common.{◌≡◌, ℕ, suc, zero, ◌<◌, ◌≤◌, List, [], ◌∷◌, Some, None, length, get_or, refl, arith}
use Rattle.serde_json.specs.View.{view, items_view}
use Rattle.serde_json.specs.declared.value.Value.{Value}
use Rattle.serde_json.specs.Find.{get_item}
use Rattle.json_errors.specs.Values.{count}

pub found_at : (vs : List Value) (i : ℕ) (d : Value) → i < length vs → get_item i (items_view vs) ≡ Some (view (get_or vs i d))
found_at [] i d l = absurd (omega arith)
found_at (w ∷ vs) zero d l = refl
found_at (w ∷ vs) (suc i) d l = found_at vs i d (omega arith)

pub past_items : (vs : List Value) (i : ℕ) → length vs ≤ i → get_item i (items_view vs) ≡ None
past_items [] zero h = refl
past_items [] (suc i) h = refl
past_items (v ∷ vs) zero h = absurd (omega arith)
past_items (v ∷ vs) (suc i) h = past_items vs i (omega arith)

pub count_items : (vs : List Value) → count (items_view vs) ≡ length vs
count_items [] = refl
count_items (v ∷ vs) = omega (arith, count_items vs)
