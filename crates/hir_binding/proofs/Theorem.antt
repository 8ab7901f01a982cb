-- The problem that is shown.
use Rattle.std.proofs.Common.{◌≡◌, ℕ, Bool, true, false, refl, ◌||◌, ◌&&◌, ◌∙◌, Option, None, inl, inr}
use Rattle.hir_binding.specs.declared.binding.BindingProblems.{BindingProblems}
use Rattle.hir_binding.specs.declared.binding.BindingProblems.TheVariants.{BoundMoreThanOnce, BoundInconsistently, NotBoundAcrossAll}
use Rattle.hir_binding.specs.Uses.{Uses}
use Rattle.hir_binding.specs.Rule.{IsTrueOf, HasOneMode, BindsOnce, BindsAcrossAll, Shows}
use Rattle.hir_binding.specs.Steps.{over_all, over_recent, no_use, shown}
use Rattle.hir_binding.proofs.Summary.{binds, modes, twice, partly, clash}
use Rattle.hir_binding.proofs.Faults.{Outcome, outcome_at, at_fault}
use Rattle.hir_binding.proofs.Walks.{walk}
use Rattle.hir_binding.proofs.Recent.{shown_alike}
use Rattle.hir_binding.proofs.Decided.{Denies, denies_once, denies_across, denies_one_mode}

holds_at : {P : Type 0} (b : Bool) → Denies b P → b ≡ false → P
holds_at true d e = cc
holds_at false d e = d

fails_at : {P : Type 0} (b : Bool) → Denies b P → b ≡ true → ¬ P
fails_at true d e = d
fails_at false d e = cc

true_of : (p : BindingProblems) (k : ℕ) (t : Uses) (i w a : Bool) → Denies i (HasOneMode k t) → Denies w (BindsOnce k t) →
    Denies a (BindsAcrossAll k t) → at_fault p i w a ≡ true → IsTrueOf p k t
true_of BoundInconsistently k t i w a d e f h = fails_at i d h
true_of BoundMoreThanOnce k t i w a d e f h = fails_at w e h
true_of NotBoundAcrossAll k t i w a d e f h = fails_at a f h

nothing_more : (x b : Bool) → x || (b && false) ≡ x
nothing_more true b = refl
nothing_more false true = refl
nothing_more false false = refl

outcome : (k : ℕ) (t : Uses) → Outcome None (shown over_all k t) (clash None (modes k t)) (twice k t) (partly k t)
outcome k t = outcome_at (walk k t no_use).problem refl (nothing_more (twice k t) (binds k t)) (nothing_more (partly k t) (binds k t))

shows_over_all : (k : ℕ) (t : Uses) → Shows (shown over_all k t) k t
shows_over_all k t = elim (outcome k t) [
  | inl h ↦ rw h.kept (record {
    one_mode = holds_at _ (denies_one_mode k t) h.one_mode;
    once = holds_at _ (denies_once k t) h.once;
    across_all = holds_at _ (denies_across k t) h.across_all;
  })
  | inr h ↦ rw h.tracked (true_of h.which k t _ _ _ (denies_one_mode k t) (denies_once k t) (denies_across k t) h.fault)
]

pub shows : (k : ℕ) (t : Uses) → Shows (shown over_recent k t) k t
shows k t = rw (shown_alike k t) (shows_over_all k t)

-- the same of a problem that was read of what was noted
pub shows_at : (o p : Option BindingProblems) (k : ℕ) (t : Uses) → o ≡ p → p ≡ shown over_recent k t → Shows o k t
shows_at o p k t e f = rw (e ∙ f) (shows k t)

pub last_at : (o p : Option BindingProblems) (k : ℕ) (t : Uses) → o ≡ p → p ≡ shown over_recent k t → o ≡ shown over_all k t
last_at o p k t e f = e ∙ (f ∙ shown_alike k t)
