-- What a pattern does with one name, in sum.
use Rattle.std.proofs.Common.{ℕ, Bool, true, false, not, ◌||◌, ◌&&◌, List, [], ◌∷◌, ◌++◌, Option, Some, unwrap_or, nat_eq, if◌then◌else◌}
use Rattle.hir_binding.specs.declared.binding.BindingAnnotation.{BindingAnnotation}
use Rattle.hir_binding.specs.Uses.{Uses, name_use, product, alternatives, Parts, no_parts, more_parts}
use Rattle.hir_binding.specs.Steps.{same_mode}

abbrev mutual
  pub binds : ℕ → Uses → Bool
  binds k (name_use n m) = nat_eq n k
  binds k (product ps) = binds_some k ps
  binds k (alternatives ps) = binds_some k ps

  pub binds_some : ℕ → Parts → Bool
  binds_some k no_parts = false
  binds_some k (more_parts p ps) = binds k p || binds_some k ps

-- the modes of the uses of the name, in order
abbrev mutual
  pub modes : ℕ → Uses → List BindingAnnotation
  modes k (name_use n m) = if nat_eq n k then m ∷ [] else []
  modes k (product ps) = modes_of k ps
  modes k (alternatives ps) = modes_of k ps

  pub modes_of : ℕ → Parts → List BindingAnnotation
  modes_of k no_parts = []
  modes_of k (more_parts p ps) = modes k p ++ modes_of k ps

-- a product binds the name in two parts
abbrev mutual
  pub twice : ℕ → Uses → Bool
  twice k (name_use n m) = false
  twice k (product ps) = twice_in k ps
  twice k (alternatives ps) = twice_each k ps

  pub twice_in : ℕ → Parts → Bool
  twice_in k no_parts = false
  twice_in k (more_parts p ps) = (twice k p || twice_in k ps) || (binds k p && binds_some k ps)

  pub twice_each : ℕ → Parts → Bool
  twice_each k no_parts = false
  twice_each k (more_parts p ps) = twice k p || twice_each k ps

abbrev pub differ : Bool → Bool → Bool
differ true b = not b
differ false b = b

-- an or-pattern binds the name in some alternatives only
abbrev mutual
  pub partly : ℕ → Uses → Bool
  partly k (name_use n m) = false
  partly k (product ps) = partly_in k ps
  partly k (alternatives ps) = partly_first k ps

  pub partly_in : ℕ → Parts → Bool
  partly_in k no_parts = false
  partly_in k (more_parts p ps) = partly k p || partly_in k ps

  pub partly_first : ℕ → Parts → Bool
  partly_first k no_parts = false
  partly_first k (more_parts p ps) = partly k p || partly_later k (binds k p) ps

  -- after alternatives of which some bind it, or none does
  pub partly_later : ℕ → Bool → Parts → Bool
  partly_later k some no_parts = false
  partly_later k some (more_parts p ps) = (partly k p || differ some (binds k p)) || partly_later k (some || binds k p) ps

abbrev pub mode_after : Option BindingAnnotation → List BindingAnnotation → Option BindingAnnotation
mode_after first [] = first
mode_after first (m ∷ ms) = mode_after (Some (unwrap_or first m)) ms

-- one of the modes isn't the first
abbrev pub clash : Option BindingAnnotation → List BindingAnnotation → Bool
clash first [] = false
clash first (m ∷ ms) = not (same_mode (unwrap_or first m) m) || clash (Some (unwrap_or first m)) ms
