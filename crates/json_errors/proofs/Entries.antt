-- Lists that are no entries of the table of expansions, or name no tree.
use Rattle.std.proofs.Common.{◌≡◌, ◌<◌, ◌≤◌, List, [], ◌∷◌, Option, Some, None, false, length, refl, arith}
use Rattle.serde_json.specs.View.{items_view}
use Rattle.serde_json.specs.declared.value.Value.{Value}
use Rattle.json_errors.specs.declared.kind.Kind.{Kind}
use Rattle.json_errors.specs.Expansions.{is_entry, root_in}

pub entry_too_short : (ks : List (Option Kind)) (vs : List Value) → length vs < 3 → false ≡ is_entry ks (Some (items_view vs))
entry_too_short ks [] h = refl
entry_too_short ks (v ∷ []) h = refl
entry_too_short ks (v ∷ w ∷ []) h = refl
entry_too_short ks (v ∷ w ∷ u ∷ vs) h = absurd (omega arith)

pub entry_too_long : (ks : List (Option Kind)) (vs : List Value) → 6 ≤ length vs → false ≡ is_entry ks (Some (items_view vs))
entry_too_long ks [] h = absurd (omega arith)
entry_too_long ks (a ∷ []) h = absurd (omega arith)
entry_too_long ks (a ∷ b ∷ []) h = absurd (omega arith)
entry_too_long ks (a ∷ b ∷ c ∷ []) h = absurd (omega arith)
entry_too_long ks (a ∷ b ∷ c ∷ d ∷ []) h = absurd (omega arith)
entry_too_long ks (a ∷ b ∷ c ∷ d ∷ e ∷ []) h = absurd (omega arith)
entry_too_long ks (a ∷ b ∷ c ∷ d ∷ e ∷ f ∷ vs) h = refl

pub root_too_short : (vs : List Value) → length vs < 5 → None ≡ root_in (Some (items_view vs))
root_too_short [] h = refl
root_too_short (a ∷ []) h = refl
root_too_short (a ∷ b ∷ []) h = refl
root_too_short (a ∷ b ∷ c ∷ []) h = refl
root_too_short (a ∷ b ∷ c ∷ d ∷ []) h = refl
root_too_short (a ∷ b ∷ c ∷ d ∷ e ∷ vs) h = absurd (omega arith)

pub root_too_long : (vs : List Value) → 6 ≤ length vs → None ≡ root_in (Some (items_view vs))
root_too_long [] h = absurd (omega arith)
root_too_long (a ∷ []) h = absurd (omega arith)
root_too_long (a ∷ b ∷ []) h = absurd (omega arith)
root_too_long (a ∷ b ∷ c ∷ []) h = absurd (omega arith)
root_too_long (a ∷ b ∷ c ∷ d ∷ []) h = absurd (omega arith)
root_too_long (a ∷ b ∷ c ∷ d ∷ e ∷ []) h = absurd (omega arith)
root_too_long (a ∷ b ∷ c ∷ d ∷ e ∷ f ∷ vs) h = refl
