-- Lists that are no pairs.
use Rattle.std.proofs.Common.{◌≡◌, ◌<◌, ◌≤◌, List, [], ◌∷◌, Some, false, length, refl, arith}
use Rattle.serde_json.specs.View.{items_view}
use Rattle.serde_json.specs.declared.value.Value.{Value}
use Rattle.json_errors.specs.Values.{is_alias, is_pair}

pub too_short : (vs : List Value) → length vs < 2 → false ≡ is_pair (Some (items_view vs))
too_short [] h = refl
too_short (v ∷ []) h = refl
too_short (v ∷ w ∷ vs) h = absurd (omega arith)

pub too_long : (vs : List Value) → 3 ≤ length vs → false ≡ is_pair (Some (items_view vs))
too_long [] h = absurd (omega arith)
too_long (v ∷ []) h = absurd (omega arith)
too_long (v ∷ w ∷ []) h = absurd (omega arith)
too_long (v ∷ w ∷ u ∷ vs) h = refl

pub alias_too_short : (vs : List Value) → length vs < 2 → false ≡ is_alias (Some (items_view vs))
alias_too_short [] h = refl
alias_too_short (v ∷ []) h = refl
alias_too_short (v ∷ w ∷ vs) h = absurd (omega arith)

pub alias_too_long : (vs : List Value) → 3 ≤ length vs → false ≡ is_alias (Some (items_view vs))
alias_too_long [] h = absurd (omega arith)
alias_too_long (v ∷ []) h = absurd (omega arith)
alias_too_long (v ∷ w ∷ []) h = absurd (omega arith)
alias_too_long (v ∷ w ∷ u ∷ vs) h = refl
