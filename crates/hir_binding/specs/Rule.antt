-- Which bindings are right (Rust Reference, identifier patterns and or-patterns): all uses of a name have one mode, no two
-- parts of one product bind it, and each or-pattern binds it in all of its alternatives or in none. One without alternatives
-- binds nothing.
use Rattle.std.specs.Prelude.{◌≡◌, ℕ, ◌⊎◌, Option, MatchOption}
use Rattle.hir_binding.specs.declared.binding.BindingAnnotation.{BindingAnnotation}
use Rattle.hir_binding.specs.declared.binding.BindingProblems.{BindingProblems}
use Rattle.hir_binding.specs.declared.binding.BindingProblems.TheVariants.{BoundMoreThanOnce, BoundInconsistently, NotBoundAcrossAll}
use Rattle.hir_binding.specs.Uses.{Uses, name_use, product, alternatives, Parts, no_parts, more_parts}

-- the pattern binds the name with this number
abbrev mutual
  pub Binds : ℕ → Uses → Type 0
  Binds k (name_use n m) = n ≡ k
  Binds k (product ps) = BindsInSome k ps
  Binds k (alternatives ps) = BindsInSome k ps

  pub BindsInSome : ℕ → Parts → Type 0
  BindsInSome k no_parts = ⊥
  BindsInSome k (more_parts p ps) = Binds k p ⊎ BindsInSome k ps

abbrev pub BindsInEach : ℕ → Parts → Type 0
BindsInEach k no_parts = Unit {0}
BindsInEach k (more_parts p ps) = Binds k p × BindsInEach k ps

-- a use of the name has this mode
abbrev mutual
  pub BindsAs : ℕ → BindingAnnotation → Uses → Type 0
  BindsAs k m (name_use n l) = (n ≡ k) × (l ≡ m)
  BindsAs k m (product ps) = BindsAsInSome k m ps
  BindsAs k m (alternatives ps) = BindsAsInSome k m ps

  pub BindsAsInSome : ℕ → BindingAnnotation → Parts → Type 0
  BindsAsInSome k m no_parts = ⊥
  BindsAsInSome k m (more_parts p ps) = BindsAs k m p ⊎ BindsAsInSome k m ps

-- all uses of the name have one mode
abbrev pub HasOneMode : ℕ → Uses → Type 0
HasOneMode k t = (m l : BindingAnnotation) → BindsAs k m t → BindsAs k l t → m ≡ l

-- of these parts at most one binds the name
abbrev pub BindsInOneAtMost : ℕ → Parts → Type 0
BindsInOneAtMost k no_parts = Unit {0}
BindsInOneAtMost k (more_parts p ps) = (Binds k p → ¬ BindsInSome k ps) × BindsInOneAtMost k ps

-- no two parts of one product bind the name
abbrev mutual
  pub BindsOnce : ℕ → Uses → Type 0
  BindsOnce k (name_use n m) = Unit {0}
  BindsOnce k (product ps) = BindsInOneAtMost k ps × BindsOnceInEach k ps
  BindsOnce k (alternatives ps) = BindsOnceInEach k ps

  pub BindsOnceInEach : ℕ → Parts → Type 0
  BindsOnceInEach k no_parts = Unit {0}
  BindsOnceInEach k (more_parts p ps) = BindsOnce k p × BindsOnceInEach k ps

-- each or-pattern binds the name in all of its alternatives or in none
abbrev mutual
  pub BindsAcrossAll : ℕ → Uses → Type 0
  BindsAcrossAll k (name_use n m) = Unit {0}
  BindsAcrossAll k (product ps) = BindsAcrossAllInEach k ps
  BindsAcrossAll k (alternatives ps) = (BindsInEach k ps ⊎ (¬ BindsInSome k ps)) × BindsAcrossAllInEach k ps

  pub BindsAcrossAllInEach : ℕ → Parts → Type 0
  BindsAcrossAllInEach k no_parts = Unit {0}
  BindsAcrossAllInEach k (more_parts p ps) = BindsAcrossAll k p × BindsAcrossAllInEach k ps

-- the binding has no problem
pub record IsRight (k : ℕ) (t : Uses) : Type 0 where
  pub one_mode : HasOneMode k t
  pub once : BindsOnce k t
  pub across_all : BindsAcrossAll k t

-- a problem is true where its part of the rule fails
abbrev pub IsTrueOf : BindingProblems → ℕ → Uses → Type 0
IsTrueOf BoundInconsistently k t = ¬ HasOneMode k t
IsTrueOf BoundMoreThanOnce k t = ¬ BindsOnce k t
IsTrueOf NotBoundAcrossAll k t = ¬ BindsAcrossAll k t

-- a binding shows none where it is right, and else a problem that is true of it
abbrev pub Shows : Option BindingProblems → ℕ → Uses → Type 0
Shows shown k t = MatchOption shown (IsRight k t) (λ p. IsTrueOf p k t)
