-- Which patterns make each binding.
use Rattle.std.specs.Prelude.{◌≡◌, ◌<◌, ℕ, suc, nat_eq, if◌then◌else◌, List, [], ◌∷◌, ◌++◌, length, Option, Some, slice_get}
use Rattle.hir_store.specs.StoreSink.{pat_id}
use Rattle.hir_store.specs.declared.ids.BindingId.{BindingId}
use Rattle.hir_store.specs.declared.ids.PatId.{PatId}
use Rattle.hir_store.specs.declared.pat.Pat.{Pat}
use Rattle.hir_store.specs.declared.pat.Pat.TheVariants as pat

-- the pattern of this number, where it makes the binding
abbrev pub made_here : BindingId → ℕ → Pat → List PatId
made_here b n (pat.Bind c sub) = if nat_eq c.0 b.0 then pat_id n ∷ [] else []
made_here b n p = []

-- of these patterns, the first of which has this number
abbrev pub makers : BindingId → ℕ → List Pat → List PatId
makers b n [] = []
makers b n (p ∷ ps) = made_here b n p ++ makers b (suc n) ps

-- Each binding has the patterns that make it, in the order of their numbers, and each that a pattern makes is there.
pub record DefinitionsAre (pats : List Pat) (bindings : ℕ) (definitions : List (List PatId)) : Type 0 where
  pub as_many : length definitions ≡ bindings
  pub each : (b : BindingId) (ps : List PatId) → slice_get definitions b.0 ≡ Some ps → ps ≡ makers b 0 pats
  pub known : (n : ℕ) (b : BindingId) (sub : Option PatId) → slice_get pats n ≡ Some (pat.Bind b sub) → b.0 < bindings
