-- What a walk makes of the problem that is noted: it stays, and nothing is at fault, or one that is at fault stands in its place.
use Rattle.std.proofs.Common.{◌≡◌, Bool, true, false, not, refl, sym, ◌∙◌, ap, ◌||◌, ◌&&◌, List, [], ◌∷◌, ◌++◌, Option, Some, unwrap_or}
use Rattle.std.proofs.Common.{◌⊎◌, inl, inr, arith}
use Rattle.hir_binding.specs.declared.binding.BindingAnnotation.{BindingAnnotation}
use Rattle.hir_binding.specs.declared.binding.BindingProblems.{BindingProblems}
use Rattle.hir_binding.specs.declared.binding.BindingProblems.TheVariants.{BoundMoreThanOnce, BoundInconsistently, NotBoundAcrossAll}
use Rattle.hir_binding.specs.Steps.{same_mode}
use Rattle.hir_binding.proofs.Summary.{clash, mode_after, differ}

abbrev pub at_fault : BindingProblems → Bool → Bool → Bool → Bool
at_fault BoundInconsistently i t p = i
at_fault BoundMoreThanOnce i t p = t
at_fault NotBoundAcrossAll i t p = p

pub record IsKept (old new : Option BindingProblems) (i t p : Bool) : Type 0 where
  pub kept : new ≡ old
  pub one_mode : i ≡ false
  pub once : t ≡ false
  pub across_all : p ≡ false

pub record IsTracked (new : Option BindingProblems) (i t p : Bool) : Type 0 where
  pub which : BindingProblems
  pub tracked : new ≡ Some which
  pub fault : at_fault which i t p ≡ true

abbrev pub Outcome : Option BindingProblems → Option BindingProblems → Bool → Bool → Bool → Type 0
Outcome old new i t p = IsKept old new i t p ⊎ IsTracked new i t p

or_right : (a b : Bool) → b ≡ true → a || b ≡ true
or_right true b e = refl
or_right false b e = e

or_left : (a b : Bool) → a ≡ true → a || b ≡ true
or_left true b e = refl
or_left false b e = cc

or_none : (a b : Bool) → a ≡ false → b ≡ false → a || b ≡ false
or_none true b e h = cc
or_none false b e h = h

fault_right : (q : BindingProblems) (i t p i' t' p' : Bool) → at_fault q i' t' p' ≡ true → at_fault q (i || i') (t || t') (p || p') ≡ true
fault_right BoundInconsistently i t p i' t' p' e = or_right i i' e
fault_right BoundMoreThanOnce i t p i' t' p' e = or_right t t' e
fault_right NotBoundAcrossAll i t p i' t' p' e = or_right p p' e

fault_left : (q : BindingProblems) (i t p i' t' p' : Bool) → at_fault q i t p ≡ true → at_fault q (i || i') (t || t') (p || p') ≡ true
fault_left BoundInconsistently i t p i' t' p' e = or_left i i' e
fault_left BoundMoreThanOnce i t p i' t' p' e = or_left t t' e
fault_left NotBoundAcrossAll i t p i' t' p' e = or_left p p' e

-- one walk after another
pub in_turn : {a b c : Option BindingProblems} {i t p i' t' p' : Bool} → Outcome a b i t p → Outcome b c i' t' p' →
    Outcome a c (i || i') (t || t') (p || p')
in_turn {i = i} {t = t} {p = p} {i' = i'} {t' = t'} {p' = p'} x (inr n) =
    inr (record { which = n.which; tracked = n.tracked; fault = fault_right n.which i t p i' t' p' n.fault })
in_turn {i = i} {t = t} {p = p} {i' = i'} {t' = t'} {p' = p'} (inr n) (inl k) =
    inr (record { which = n.which; tracked = k.kept ∙ n.tracked; fault = fault_left n.which i t p i' t' p' n.fault })
in_turn {i = i} {t = t} {p = p} {i' = i'} {t' = t'} {p' = p'} (inl k) (inl l) =
    inl (record {
      kept = l.kept ∙ k.kept;
      one_mode = or_none i i' k.one_mode l.one_mode;
      once = or_none t t' k.once l.once;
      across_all = or_none p p' k.across_all l.across_all;
    })

-- the same faults, written otherwise
pub outcome_at : {a b : Option BindingProblems} {i t p i' t' p' : Bool} → Outcome a b i t p → i ≡ i' → t ≡ t' → p ≡ p' →
    Outcome a b i' t' p'
outcome_at o e f g = rw (← e, ← f, ← g) o

or_assoc : (a b c : Bool) → (a || b) || c ≡ a || (b || c)
or_assoc true b c = refl
or_assoc false b c = refl

pub mode_after-append : (f : Option BindingAnnotation) (ms ls : List BindingAnnotation) →
    mode_after f (ms ++ ls) ≡ mode_after (mode_after f ms) ls
mode_after-append f [] ls = refl
mode_after-append f (m ∷ ms) ls = mode_after-append (Some (unwrap_or f m)) ms ls

pub clash-append : (f : Option BindingAnnotation) (ms ls : List BindingAnnotation) →
    clash f (ms ++ ls) ≡ clash f ms || clash (mode_after f ms) ls
clash-append f [] ls = refl
clash-append f (m ∷ ms) ls = ap (λ x. not (same_mode (unwrap_or f m) m) || x) (clash-append (Some (unwrap_or f m)) ms ls)
    ∙ sym (or_assoc (not (same_mode (unwrap_or f m) m)) (clash (Some (unwrap_or f m)) ms) (clash (mode_after (Some (unwrap_or f m)) ms) ls))

-- two parts of a product: the second use finds the name marked
pub twice_in_turn : (t t' b b' m : Bool) → (t || (b && m)) || (t' || (b' && (b || m))) ≡ ((t || t') || (b && b')) || ((b || b') && m)
twice_in_turn t t' b b' m = grind arith

pub partly_in_turn : (p p' b b' u l : Bool) → (p || (b && (u && l))) || (p' || (b' && ((not b && u) && l)))
    ≡ (p || p') || ((b || b') && (u && l))
partly_in_turn p p' b b' u l = grind arith

pub twice_at_end : (t b : Bool) → (t || (b && false)) || false ≡ t
twice_at_end t b = grind arith

pub partly_at_end : (p b some : Bool) → (p || (b && (not some && true))) || (not b && some) ≡ p || differ some b
partly_at_end p b some = grind arith
