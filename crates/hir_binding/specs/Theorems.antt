-- What follows from the steps.
use Rattle.std.specs.Prelude.{◌≡◌, ℕ, Option, Some, None}
use Rattle.hir_binding.specs.declared.binding.BindingAnnotation.{BindingAnnotation}
use Rattle.hir_binding.specs.declared.binding.BindingAnnotation.TheVariants.{Unannotated, Ref}
use Rattle.hir_binding.specs.declared.binding.BindingProblems.{BindingProblems}
use Rattle.hir_binding.specs.declared.binding.BindingProblems.TheVariants.{BoundMoreThanOnce, BoundInconsistently, NotBoundAcrossAll}
use Rattle.hir_binding.specs.Uses.{Uses, name_use, product, alternatives, Parts, no_parts, more_parts}
use Rattle.hir_binding.specs.Rule.{Shows}
use Rattle.hir_binding.specs.Steps.{over_all, over_recent, shown}

-- A binding shows none where the rule says that it is right, and else a problem that is true of it.
abbrev pub ShowsWhatIsTrue : Type 0
ShowsWhatIsTrue = (k : ℕ) (t : Uses) → Shows (shown over_recent k t) k t

-- To look at the names that the alternative before used is enough.
abbrev pub EndsOverRecent : Type 0
EndsOverRecent = (k : ℕ) (t : Uses) → shown over_recent k t ≡ shown over_all k t

-- small patterns of the name x

abbrev pub x : BindingAnnotation → Uses
x m = name_use 0 m

abbrev pub one : Uses → Parts
one p = more_parts p no_parts

abbrev pub both : Uses → Uses → Parts
both p q = more_parts p (one q)

abbrev pub wild : Uses
wild = product no_parts

-- the problem that x shows in the end
abbrev pub x_shows : Uses → Option BindingProblems
x_shows p = shown over_recent 0 p

pub record Examples : Type 0 where
  -- `x @ x`
  pub subpattern : x_shows (product (both (x Unannotated) (x Unannotated))) ≡ Some BoundMoreThanOnce
  -- `(x, ref x)`: two problems are true, and the last stands
  pub last_corresponds : x_shows (product (both (x Unannotated) (x Ref))) ≡ Some BoundMoreThanOnce
  -- `A(x) | B(ref x)`
  pub two_modes : x_shows (alternatives (both (x Unannotated) (x Ref))) ≡ Some BoundInconsistently
  -- `| x`
  pub one_alternative : x_shows (alternatives (one (x Unannotated))) ≡ None
  -- `(x, x) | _`: the first problem doesn't stay
  pub first_goes : x_shows (alternatives (both (product (both (x Unannotated) (x Unannotated))) wild)) ≡ Some NotBoundAcrossAll
  -- `A | B(x)`
  pub new_later : x_shows (alternatives (both wild (x Unannotated))) ≡ Some NotBoundAcrossAll
  -- `A(x) | B | C | (x, x)`: unmarked at one end and missing at the next, and then used twice
  pub back_again :
      x_shows (alternatives (more_parts (x Unannotated) (more_parts wild (both wild (product (both (x Unannotated) (x Unannotated)))))))
      ≡ Some BoundMoreThanOnce
