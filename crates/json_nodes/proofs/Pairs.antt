-- Lists that are no pairs.
use Rattle.std.proofs.Common.{◌≡◌, ◌<◌, ◌≤◌, List, [], ◌∷◌, length, refl, arith, Some, None}
use Rattle.serde_json.specs.View.{items_view}
use Rattle.serde_json.specs.declared.value.Value.{Value}
use Rattle.json_nodes.specs.Fields.{range_in}

pub too_short : (vs : List Value) → length vs < 2 → None ≡ range_in (Some (items_view vs))
too_short [] h = refl
too_short (v ∷ []) h = refl
too_short (v ∷ w ∷ vs) h = absurd (omega arith)

pub too_long : (vs : List Value) → 3 ≤ length vs → None ≡ range_in (Some (items_view vs))
too_long [] h = absurd (omega arith)
too_long (v ∷ []) h = absurd (omega arith)
too_long (v ∷ w ∷ []) h = absurd (omega arith)
too_long (v ∷ w ∷ u ∷ vs) h = refl
