-- Which words are a call.
use Rattle.std.proofs.Common.{◌≡◌, ◌≢◌, ℕ, List, [], ◌∷◌, None, refl}
use Rattle.lower_lines.specs.Calls.{asked}

pub more_is_not_asked : {W : Type 0} (text : W → List ℕ) (w : W) (ws : List W) → ws ≢ [] → None ≡ asked text (w ∷ ws)
more_is_not_asked text w [] h = absurd (h refl)
more_is_not_asked text w (v ∷ vs) h = refl
