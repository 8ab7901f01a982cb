-- Lists that are no entries of the table of aliases.
use Rattle.std.proofs.Common.{◌≡◌, ◌<◌, ◌≤◌, ℕ, List, [], ◌∷◌, Option, Some, None, length, refl, arith}
use Rattle.serde_json.specs.View.{items_view}
use Rattle.serde_json.specs.declared.value.Value.{Value}
use Rattle.json_errors.specs.declared.kind.Kind.{Kind}
use Rattle.json_errors.specs.Aliases.{entry}

pub alias_too_short : (ks : List (Option Kind)) (vs : List Value) (ls : List ℕ) → length vs < 2
    → entry ks (Some (items_view vs)) ls ≡ None
alias_too_short ks [] ls h = refl
alias_too_short ks (v ∷ []) ls h = refl
alias_too_short ks (v ∷ w ∷ vs) ls h = absurd (omega arith)

pub alias_too_long : (ks : List (Option Kind)) (vs : List Value) (ls : List ℕ) → 3 ≤ length vs
    → entry ks (Some (items_view vs)) ls ≡ None
alias_too_long ks [] ls h = absurd (omega arith)
alias_too_long ks (v ∷ []) ls h = absurd (omega arith)
alias_too_long ks (v ∷ w ∷ []) ls h = absurd (omega arith)
alias_too_long ks (v ∷ w ∷ u ∷ vs) ls h = refl
