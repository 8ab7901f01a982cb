-- Which words are a call.
use Rattle.std.proofs.Common.{◌≡◌, ◌≢◌, ℕ, List, [], ◌∷◌, None, refl}
use Rattle.lower_run.specs.Words.{called}

pub more_is_no_call : {W : Type 0} (text : W → List ℕ) (w : W) (ws : List W) → ws ≢ [] → None ≡ called text (w ∷ ws)
more_is_no_call text w [] h = absurd (h refl)
more_is_no_call text w (v ∷ vs) h = refl
