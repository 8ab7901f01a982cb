-- The end of an alternative may pass over the names that an earlier end left unmarked: they show the problem already.
use Rattle.std.proofs.Common.{◌≡◌, ℕ, Bool, true, false, refl, sym, ◌∙◌, ap, List, [], ◌∷◌, Option, Some, if◌then◌else◌}
use Rattle.hir_binding.specs.declared.binding.BindingProblems.{BindingProblems}
use Rattle.hir_binding.specs.declared.binding.BindingProblems.TheVariants.{NotBoundAcrossAll}
use Rattle.hir_binding.specs.declared.binding.Mark.{Mark}
use Rattle.hir_binding.specs.declared.binding.Mark.TheVariants.{Unseen, Missing, Unmarked, Marked}
use Rattle.hir_binding.specs.Uses.{Uses, name_use, product, alternatives, Parts, no_parts, more_parts}
use Rattle.hir_binding.specs.Steps.{over_all, over_recent, Set, Tracked, no_use, enter_first, problem_at_end, unmark, next, seen_if}
use Rattle.hir_binding.specs.Steps.{left_to}
use Rattle.hir_binding.specs.Steps.{left}
use Rattle.hir_binding.specs.Steps.{after, after_parts, after_alternatives, after_later, shown}
use Rattle.hir_binding.proofs.Summary.{binds}
use Rattle.hir_binding.proofs.Walks.{walk}
use Rattle.hir_binding.proofs.Unused.{unused}

-- a name that is missing shows the problem
abbrev IsTrackedSo : Tracked → Type 0
IsTrackedSo s = s.here.mark ≡ Missing → s.problem ≡ Some NotBoundAcrossAll

entered_so : (s : Tracked) → IsTrackedSo (enter_first s)
entered_so s = λ e. cc

fresh_so : IsTrackedSo no_use
fresh_so = λ e. cc

ended_so : (m : Mark) (p : Option BindingProblems) → unmark m ≡ Missing → problem_at_end m over_all p ≡ Some NotBoundAcrossAll
ended_so Unseen p e = cc
ended_so Missing p e = refl
ended_so Unmarked p e = refl
ended_so Marked p e = cc

next_so : (s : Tracked) → IsTrackedSo (next over_all s)
next_so s = λ e. ended_so s.here.mark s.problem e

-- a pattern that binds the name leaves it marked, and another leaves what was noted
kept_if : (b : Bool) (s s' : Tracked) → (b ≡ false → s' ≡ s) → s'.here.mark ≡ (if b then Marked else s.here.mark) → IsTrackedSo s →
    IsTrackedSo s'
kept_if true s s' u m h = λ e. let f : Marked ≡ Missing = sym m ∙ e in cc
kept_if false s s' u m h = rw (u refl) h

kept : (k : ℕ) (t : Uses) (s : Tracked) → IsTrackedSo s → IsTrackedSo (after over_all k t s)
kept k t s h = kept_if (binds k t) s (after over_all k t s) (unused k t s) (walk k t s).mark h

kept_later : (k : ℕ) (ps : Parts) (s : Tracked) → IsTrackedSo s → IsTrackedSo (after_later over_all k ps s)
kept_later k no_parts s h = h
kept_later k (more_parts p ps) s h =
    kept_later k ps (after over_all k p (next over_all s)) (kept k p (next over_all s) (next_so s))

end_alike : (m : Mark) (p : Option BindingProblems) → (m ≡ Missing → p ≡ Some NotBoundAcrossAll) →
    problem_at_end m over_recent p ≡ problem_at_end m over_all p
end_alike Unseen p h = refl
end_alike Missing p h = h refl
end_alike Unmarked p h = refl
end_alike Marked p h = refl

abbrev next_with : Tracked → Option BindingProblems → Tracked
next_with s p = record s { problem = p; here = record { mark = unmark s.here.mark; later = true } }

next_alike : (s : Tracked) → IsTrackedSo s → next over_recent s ≡ next over_all s
next_alike s h = ap (λ p. next_with s p) (end_alike s.here.mark s.problem h)

abbrev left_with : Set → List Set → Tracked → Option BindingProblems → Tracked
left_with set sets s p = seen_if s.here.mark (record s { problem = p; here = set; outer = sets })

left_to_alike : (sets : List Set) (s : Tracked) → IsTrackedSo s → left_to over_recent sets s ≡ left_to over_all sets s
left_to_alike [] s h = refl
left_to_alike (set ∷ sets) s h = ap (λ p. left_with set sets s p) (end_alike s.here.mark s.problem h)

left_alike : (s : Tracked) → IsTrackedSo s → left over_recent s ≡ left over_all s
left_alike s h = left_to_alike s.outer s h

mutual
  alike : (k : ℕ) (t : Uses) (s : Tracked) → IsTrackedSo s → after over_recent k t s ≡ after over_all k t s
  alike k (name_use n m) s h = refl
  alike k (product ps) s h = alike_parts k ps s h
  alike k (alternatives ps) s h = alike_alternatives k ps s

  alike_parts : (k : ℕ) (ps : Parts) (s : Tracked) → IsTrackedSo s → after_parts over_recent k ps s ≡ after_parts over_all k ps s
  alike_parts k no_parts s h = refl
  alike_parts k (more_parts p ps) s h = ap (λ x. after_parts over_recent k ps x) (alike k p s h)
      ∙ alike_parts k ps (after over_all k p s) (kept k p s h)

  alike_alternatives : (k : ℕ) (ps : Parts) (s : Tracked) → after_alternatives over_recent k ps s ≡ after_alternatives over_all k ps s
  alike_alternatives k no_parts s = refl
  alike_alternatives k (more_parts p ps) s =
      let first : Tracked = after over_all k p (enter_first s) in
      let so : IsTrackedSo first = kept k p (enter_first s) (entered_so s) in
      ap (λ x. left over_recent (after_later over_recent k ps x)) (alike k p (enter_first s) (entered_so s))
      ∙ (ap (λ x. left over_recent x) (alike_later k ps first so)
      ∙ left_alike (after_later over_all k ps first) (kept_later k ps first so))

  alike_later : (k : ℕ) (ps : Parts) (s : Tracked) → IsTrackedSo s → after_later over_recent k ps s ≡ after_later over_all k ps s
  alike_later k no_parts s h = refl
  alike_later k (more_parts p ps) s h =
      ap (λ x. after_later over_recent k ps (after over_recent k p x)) (next_alike s h)
      ∙ (ap (λ x. after_later over_recent k ps x) (alike k p (next over_all s) (next_so s))
      ∙ alike_later k ps (after over_all k p (next over_all s)) (kept k p (next over_all s) (next_so s)))

pub shown_alike : (k : ℕ) (t : Uses) → shown over_recent k t ≡ shown over_all k t
shown_alike k t = ap (λ (s : Tracked). s.problem) (alike k t no_use fresh_so)
