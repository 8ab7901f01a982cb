-- Entries by key, and where each stands.
use Rattle.std.specs.Prelude.{◌≡◌, ℕ, zero, suc, List, [], ◌∷◌, Option}
use Rattle.std.specs.BTreeMap.{is_at}
use Rattle.std.specs.List.{position_from}
use Rattle.std.specs.Map.{lookup}
use Rattle.std.specs.Ordering.{is_eq}
use Rattle.std.specs.declared.cmp.Ordering.{Ordering}

module _ {K T : Type 0} where
  -- this value at that place, whose key stays
  abbrev pub written : List (K × T) → ℕ → T → List (K × T)
  written [] k t = []
  written (e ∷ es) zero t = (e.0, t) ∷ es
  written (e ∷ es) (suc k) t = e ∷ written es k t

module _ {K T : Type 0} (cmp : K → K → Ordering) where
  -- the place of the entry of a key, counted from a number
  abbrev pub place_from : ℕ → List (K × T) → K → Option ℕ
  place_from n es q = position_from (λ e. is_eq (cmp q e.0)) n es

  -- each key leads to the place of its entry
  abbrev pub Placed : List (K × T) → List (K × ℕ) → Type 0
  Placed es ps = (q : K) → lookup (is_at (cmp q)) ps ≡ place_from 0 es q
