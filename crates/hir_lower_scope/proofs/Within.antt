-- What lies behind the first border bears no number.
use Rattle.std.proofs.Common.{◌≡◌, Bool, true, false, if◌then◌else◌, List, [], ◌∷◌, None, refl}
use Rattle.hir_store.specs.declared.name.Name.{Name}
use Rattle.hir_env.specs.Answers.{Contexts}
use Rattle.hir_env.specs.ResolvedTree.{Jump}
use Rattle.hir_lower_scope.specs.ScopeRibs.{Rib, label_rib, try_rib, macro_rib, barrier_rib, Sought, sought_first, is_for, Target}
use Rattle.hir_lower_scope.specs.ScopeRibs.{reachable}
use Rattle.hir_lower_scope.specs.ScopeRibs.{unreachable, undeclared, behind, past_macro, search, target, number_found, innermost_try_rib}

abbrev pub within : {A : Type 0} → List (Rib A) → List (Rib A)
within [] = []
within (label_rib n h a ∷ rs) = label_rib n h a ∷ within rs
within (try_rib a typed ∷ rs) = try_rib a typed ∷ within rs
within (macro_rib d ∷ rs) = macro_rib d ∷ within rs
within (barrier_rib ∷ rs) = []

module _ {A : Type 0} (contexts : Contexts) (name : Name) where
  either : (t : Bool) (a : A) (x y : Target A) → number_found x ≡ number_found y
      → number_found (if t then reachable a else x) ≡ number_found (if t then reachable a else y)
  either true a x y e = refl
  either false a x y e = e

  no_number : (x : Target A) → number_found (behind x) ≡ None
  no_number (reachable a) = refl
  no_number unreachable = refl
  no_number undeclared = refl

  search_within : (s : Sought) (rs : List (Rib A))
      → number_found (search contexts name s rs) ≡ number_found (search contexts name s (within rs))
  search_within s [] = refl
  search_within s (label_rib n h a ∷ rs) =
      either (is_for name s n h) a (search contexts name s rs) (search contexts name s (within rs)) (search_within s rs)
  search_within s (try_rib a typed ∷ rs) = search_within s rs
  search_within s (macro_rib d ∷ rs) = search_within (past_macro contexts d s s.context) rs
  search_within s (barrier_rib ∷ rs) = no_number (search contexts name s rs)

pub target_within : {A : Type 0} (j : Jump) (rs : List (Rib A)) → number_found (target j rs) ≡ number_found (target j (within rs))
target_within j rs = search_within j.contexts j.name (sought_first j.hygiene) rs
