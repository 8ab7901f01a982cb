-- The steps over any pattern, from any state, where each end looks at all names: what they leave of the sets, and which problem
-- they note.
use Rattle.std.proofs.Common.{◌≡◌, ℕ, Bool, true, false, not, refl, sym, ◌∙◌, ap, ◌||◌, ◌&&◌, List, [], ◌∷◌, ◌++◌, Option, Some}
use Rattle.std.proofs.Common.{unwrap_or, nat_eq, if◌then◌else◌, inl, inr}
use Rattle.hir_binding.specs.declared.binding.BindingAnnotation.{BindingAnnotation}
use Rattle.hir_binding.specs.declared.binding.BindingProblems.{BindingProblems}
use Rattle.hir_binding.specs.declared.binding.BindingProblems.TheVariants.{BoundMoreThanOnce, BoundInconsistently, NotBoundAcrossAll}
use Rattle.hir_binding.specs.declared.binding.Mark.{Mark}
use Rattle.hir_binding.specs.declared.binding.Mark.TheVariants.{Unseen, Missing, Unmarked, Marked}
use Rattle.hir_binding.specs.Uses.{Uses, name_use, product, alternatives, Parts, no_parts, more_parts}
use Rattle.hir_binding.specs.Steps.{same_mode, over_all, Set, Tracked, problem_of_mark, seen, problem_of_mode, used, enter_first}
use Rattle.hir_binding.specs.Steps.{problem_at_end, unmark, next, seen_if, left_to, left, after, after_parts, after_alternatives}
use Rattle.hir_binding.specs.Steps.{after_later}
use Rattle.hir_binding.proofs.Summary.{binds, binds_some, modes, modes_of, twice, twice_in, twice_each, differ, partly, partly_in}
use Rattle.hir_binding.proofs.Summary.{partly_first, partly_later, mode_after, clash}
use Rattle.hir_binding.proofs.Faults.{Outcome, in_turn, outcome_at, mode_after-append, clash-append, twice_in_turn, partly_in_turn}
use Rattle.hir_binding.proofs.Faults.{twice_at_end, partly_at_end}

abbrev pub is_marked : Mark → Bool
is_marked Marked = true
is_marked Missing = false
is_marked Unmarked = false
is_marked Unseen = false

abbrev pub is_unseen : Mark → Bool
is_unseen Unseen = true
is_unseen Missing = false
is_unseen Unmarked = false
is_unseen Marked = false

abbrev is_unmarked : Mark → Bool
is_unmarked Missing = true
is_unmarked Unmarked = true
is_unmarked Unseen = false
is_unmarked Marked = false

-- a walk over a pattern that binds the name or not, as these modes say, twice or partly
pub record Walk (b : Bool) (ms : List BindingAnnotation) (t p : Bool) (s s' : Tracked) : Type 0 where
  pub outer : s'.outer ≡ s.outer
  pub later : s'.here.later ≡ s.here.later
  pub mark : s'.here.mark ≡ (if b then Marked else s.here.mark)
  pub mode : s'.mode ≡ mode_after s.mode ms
  pub problem : Outcome s.problem s'.problem (clash s.mode ms) (t || (b && is_marked s.here.mark))
      (p || (b && (is_unseen s.here.mark && s.here.later)))

nothing_tracked : (a : Option BindingProblems) → Outcome a a false false false
nothing_tracked a = inl (record { kept = refl; one_mode = refl; once = refl; across_all = refl })

-- a pattern without the name
stay : (s : Tracked) → Walk false [] false false s s
stay s = record { outer = refl; later = refl; mark = refl; mode = refl; problem = nothing_tracked s.problem }

mark_tracked : (m : Mark) (l : Bool) (a : Option BindingProblems) → Outcome a (problem_of_mark m l a) false (is_marked m) (is_unseen m && l)
mark_tracked Marked l a = inr (record { which = BoundMoreThanOnce; tracked = refl; fault = refl })
mark_tracked Missing l a = nothing_tracked a
mark_tracked Unmarked l a = nothing_tracked a
mark_tracked Unseen true a = inr (record { which = NotBoundAcrossAll; tracked = refl; fault = refl })
mark_tracked Unseen false a = nothing_tracked a

-- a use, modes untested
seen_walk : (s : Tracked) → Walk true [] false false s (seen s)
seen_walk s = record { outer = refl; later = refl; mark = refl; mode = refl; problem = mark_tracked s.here.mark s.here.later s.problem }

mode_tracked : (same : Bool) (a : Option BindingProblems) → Outcome a (if same then a else Some BoundInconsistently)
    (not same || false) false false
mode_tracked true a = nothing_tracked a
mode_tracked false a = inr (record { which = BoundInconsistently; tracked = refl; fault = refl })

or_false : (a : Bool) → a || false ≡ a
or_false true = refl
or_false false = refl

used_walk : (m : BindingAnnotation) (s : Tracked) → Walk true (m ∷ []) false false s (used m s)
used_walk m s = record {
  outer = refl;
  later = refl;
  mark = refl;
  mode = refl;
  problem = outcome_at (in_turn (mode_tracked (same_mode (unwrap_or s.mode m) m) s.problem)
      (mark_tracked s.here.mark s.here.later (problem_of_mode s.mode m s.problem))) (or_false _) refl refl;
}

use_walk : (b : Bool) (m : BindingAnnotation) (s : Tracked) → Walk b (if b then m ∷ [] else []) false false s (if b then used m s else s)
use_walk true m s = used_walk m s
use_walk false m s = stay s

mark_in_turn : (b b' : Bool) (m : Mark) → (if b' then Marked else (if b then Marked else m)) ≡ (if (b || b') then Marked else m)
mark_in_turn true true m = refl
mark_in_turn true false m = refl
mark_in_turn false true m = refl
mark_in_turn false false m = refl

is_marked_if : (b : Bool) (m : Mark) → is_marked (if b then Marked else m) ≡ b || is_marked m
is_marked_if true m = refl
is_marked_if false m = refl

is_unseen_if : (b : Bool) (m : Mark) → is_unseen (if b then Marked else m) ≡ not b && is_unseen m
is_unseen_if true m = refl
is_unseen_if false m = refl

is_unmarked_if : (b : Bool) (m : Mark) → is_unmarked (if b then Marked else m) ≡ not b && is_unmarked m
is_unmarked_if true m = refl
is_unmarked_if false m = refl

-- one part of a product and then another
two_walks : {b b' : Bool} {ms ms' : List BindingAnnotation} {t p t' p' : Bool} {s s1 s2 : Tracked} → Walk b ms t p s s1 →
    Walk b' ms' t' p' s1 s2 → Walk (b || b') (ms ++ ms') ((t || t') || (b && b')) (p || p') s s2
two_walks {b = b} {b' = b'} {ms = ms} {ms' = ms'} {t = t} {p = p} {t' = t'} {p' = p'} {s = s} {s1 = s1} {s2 = s2} v w = record {
  outer = w.outer ∙ v.outer;
  later = w.later ∙ v.later;
  mark = w.mark ∙ (ap (λ m. if b' then Marked else m) v.mark ∙ mark_in_turn b b' s.here.mark);
  mode = w.mode ∙ (ap (λ m. mode_after m ms') v.mode ∙ sym (mode_after-append s.mode ms ms'));
  problem = outcome_at (in_turn v.problem w.problem)
      (ap (λ m. clash s.mode ms || clash m ms') v.mode ∙ sym (clash-append s.mode ms ms'))
      (ap (λ m. (t || (b && is_marked s.here.mark)) || (t' || (b' && m))) (ap is_marked v.mark ∙ is_marked_if b s.here.mark)
      ∙ twice_in_turn t t' b b' (is_marked s.here.mark))
      (ap (λ l. (p || (b && (is_unseen s.here.mark && s.here.later))) || (p' || (b' && (is_unseen s1.here.mark && l)))) v.later
      ∙ (ap (λ m. (p || (b && (is_unseen s.here.mark && s.here.later))) || (p' || (b' && (m && s.here.later))))
      (ap is_unseen v.mark ∙ is_unseen_if b s.here.mark)
      ∙ partly_in_turn p p' b b' (is_unseen s.here.mark) s.here.later));
}

-- the alternatives that follow others, of which some bind the name or none does
record Later (some b : Bool) (ms : List BindingAnnotation) (t p : Bool) (s s' : Tracked) : Type 0 where
  outer : s'.outer ≡ s.outer
  mark : is_unseen s'.here.mark ≡ not (some || b)
  mode : s'.mode ≡ mode_after s.mode ms
  problem : Outcome (problem_at_end s.here.mark over_all s.problem) (problem_at_end s'.here.mark over_all s'.problem) (clash s.mode ms) t p

no_later : (some : Bool) (s : Tracked) → is_unseen s.here.mark ≡ not some → Later some false [] false false s s
no_later some s h = record {
  outer = refl;
  mark = h ∙ ap not (sym (or_false some));
  mode = refl;
  problem = nothing_tracked (problem_at_end s.here.mark over_all s.problem);
}

end_tracked : (m : Mark) (a : Option BindingProblems) → Outcome a (problem_at_end m over_all a) false false (is_unmarked m)
end_tracked Missing a = inr (record { which = NotBoundAcrossAll; tracked = refl; fault = refl })
end_tracked Unmarked a = inr (record { which = NotBoundAcrossAll; tracked = refl; fault = refl })
end_tracked Unseen a = nothing_tracked a
end_tracked Marked a = nothing_tracked a

is_marked_unmark : (m : Mark) → is_marked (unmark m) ≡ false
is_marked_unmark Unseen = refl
is_marked_unmark Missing = refl
is_marked_unmark Unmarked = refl
is_marked_unmark Marked = refl

is_unseen_unmark : (m : Mark) → is_unseen (unmark m) ≡ is_unseen m
is_unseen_unmark Unseen = refl
is_unseen_unmark Missing = refl
is_unseen_unmark Unmarked = refl
is_unseen_unmark Marked = refl

is_unmarked_unmark : (m : Mark) → is_unmarked (unmark m) ≡ not (is_unseen m)
is_unmarked_unmark Unseen = refl
is_unmarked_unmark Missing = refl
is_unmarked_unmark Unmarked = refl
is_unmarked_unmark Marked = refl

not_not : (b : Bool) → not (not b) ≡ b
not_not true = refl
not_not false = refl

or_assoc : (a b c : Bool) → (a || b) || c ≡ a || (b || c)
or_assoc true b c = refl
or_assoc false b c = refl

some_after : (b some : Bool) → not b && not some ≡ not (some || b)
some_after true true = refl
some_after true false = refl
some_after false true = refl
some_after false false = refl

-- after one more alternative some bind the name, or still none does
unseen_after : {b : Bool} {ms : List BindingAnnotation} {t p : Bool} (s : Tracked) {s1 : Tracked} (some : Bool) →
    is_unseen s.here.mark ≡ not some → Walk b ms t p (next over_all s) s1 → is_unseen s1.here.mark ≡ not (some || b)
unseen_after {b = b} s some h v = ap is_unseen v.mark ∙ (is_unseen_if b (unmark s.here.mark) ∙
    (ap (λ m. not b && m) (is_unseen_unmark s.here.mark ∙ h) ∙ some_after b some))

one_later : {b : Bool} {ms : List BindingAnnotation} {t p : Bool} (s s1 : Tracked) (some : Bool) → is_unseen s.here.mark ≡ not some →
    Walk b ms t p (next over_all s) s1 →
    Outcome (problem_at_end s.here.mark over_all s.problem) (problem_at_end s1.here.mark over_all s1.problem) (clash s.mode ms) t
    (p || differ some b)
one_later {b = b} {ms = ms} {t = t} {p = p} s s1 some h v = outcome_at (in_turn v.problem (end_tracked s1.here.mark s1.problem))
    (or_false _)
    (ap (λ m. (t || (b && m)) || false) (is_marked_unmark s.here.mark) ∙ twice_at_end t b)
    (ap (λ m. (p || (b && (is_unseen (unmark s.here.mark) && true))) || m)
    (ap is_unmarked v.mark ∙ (is_unmarked_if b (unmark s.here.mark) ∙ ap (λ m. not b && m)
    (is_unmarked_unmark s.here.mark ∙ (ap not h ∙ not_not some))))
    ∙ (ap (λ m. (p || (b && (m && true))) || (not b && some)) (is_unseen_unmark s.here.mark ∙ h)
    ∙ partly_at_end p b some))

more_later : {b b' : Bool} {ms ms' : List BindingAnnotation} {t p t' p' : Bool} (s : Tracked) {s1 s2 : Tracked} (some : Bool) →
    is_unseen s.here.mark ≡ not some → Walk b ms t p (next over_all s) s1 → Later (some || b) b' ms' t' p' s1 s2 →
    Later some (b || b') (ms ++ ms') (t || t') ((p || differ some b) || p') s s2
more_later {b = b} {b' = b'} {ms = ms} {ms' = ms'} s {s1 = s1} some h v w = record {
  outer = w.outer ∙ v.outer;
  mark = w.mark ∙ ap not (or_assoc some b b');
  mode = w.mode ∙ (ap (λ m. mode_after m ms') v.mode ∙ sym (mode_after-append s.mode ms ms'));
  problem = outcome_at (in_turn (one_later s s1 some h v) w.problem)
      (ap (λ m. clash s.mode ms || clash m ms') v.mode ∙ sym (clash-append s.mode ms ms')) refl refl;
}

-- out of an or-pattern
seen_if_walk : (c : Bool) (m : Mark) (s : Tracked) → is_unseen m ≡ not c → Walk c [] false false s (seen_if m s)
seen_if_walk true Missing s h = seen_walk s
seen_if_walk true Unmarked s h = seen_walk s
seen_if_walk true Marked s h = seen_walk s
seen_if_walk false Unseen s h = stay s
seen_if_walk true Unseen s h = cc
seen_if_walk false Missing s h = cc
seen_if_walk false Unmarked s h = cc
seen_if_walk false Marked s h = cc

end_of_first : (b : Bool) (a : Option BindingProblems) → problem_at_end (if b then Marked else Unseen) over_all a ≡ a
end_of_first true a = refl
end_of_first false a = refl

unseen_after_first : (b : Bool) → is_unseen (if b then Marked else Unseen) ≡ not b
unseen_after_first true = refl
unseen_after_first false = refl

once_entered : (t b : Bool) → t || (b && false) ≡ t
once_entered true b = refl
once_entered false true = refl
once_entered false false = refl

left_is : (s2 : Tracked) (sets : List Set) → s2.outer ≡ sets → left over_all s2 ≡ left_to over_all sets s2
left_is s2 sets e = ap (λ x. left_to over_all x s2) e

mode_back : (f : Option BindingAnnotation) (ms : List BindingAnnotation) → clash f ms || false ≡ clash f ms
mode_back f ms = or_false (clash f ms)

or_pattern : {b b' : Bool} {ms ms' : List BindingAnnotation} {t p t' p' : Bool} {s s1 s2 : Tracked} → Walk b ms t p (enter_first s) s1 →
    Later b b' ms' t' p' s1 s2 → Walk (b || b') (ms ++ ms') (t || t') (p || p') s (left_to over_all (s.here ∷ s.outer) s2)
or_pattern {b = b} {b' = b'} {ms = ms} {ms' = ms'} {t = t} {p = p} {t' = t'} {p' = p'} {s = s} {s1 = s1} {s2 = s2} v w =
    let back : Tracked = record s2 { problem = problem_at_end s2.here.mark over_all s2.problem; here = s.here; outer = s.outer } in
    let l : Walk (b || b') [] false false back (seen_if s2.here.mark back) = seen_if_walk (b || b') s2.here.mark back w.mark in
    let first : Outcome s.problem (problem_at_end s1.here.mark over_all s1.problem) (clash s.mode ms) t p =
    rw (ap (λ m. problem_at_end m over_all s1.problem) v.mark ∙ end_of_first b s1.problem)
    (outcome_at v.problem refl (once_entered t b) (once_entered p b)) in
    record {
      outer = l.outer;
      later = l.later;
      mark = l.mark;
      mode = l.mode ∙ (w.mode ∙ (ap (λ m. mode_after m ms') v.mode ∙ sym (mode_after-append s.mode ms ms')));
      problem = outcome_at (in_turn (in_turn first w.problem) l.problem)
          (or_false _ ∙ (ap (λ m. clash s.mode ms || clash m ms') v.mode ∙ sym (clash-append s.mode ms ms'))) refl refl;
    }

left_walk : {ms ms' : List BindingAnnotation} {t p t' p' : Bool} (b b' : Bool) (s s1 s2 : Tracked) → Walk b ms t p (enter_first s) s1 →
    Later b b' ms' t' p' s1 s2 → Walk (b || b') (ms ++ ms') (t || t') (p || p') s (left over_all s2)
left_walk b b' s s1 s2 v w = rw (left_is s2 (s.here ∷ s.outer) (w.outer ∙ v.outer)) (or_pattern v w)

mutual
  pub walk : (k : ℕ) (t : Uses) (s : Tracked) → Walk (binds k t) (modes k t) (twice k t) (partly k t) s (after over_all k t s)
  walk k (name_use n m) s = use_walk (nat_eq n k) m s
  walk k (product ps) s = walk_parts k ps s
  walk k (alternatives ps) s = walk_alternatives k ps s

  walk_parts : (k : ℕ) (ps : Parts) (s : Tracked) → Walk (binds_some k ps) (modes_of k ps) (twice_in k ps) (partly_in k ps) s
      (after_parts over_all k ps s)
  walk_parts k no_parts s = stay s
  walk_parts k (more_parts p ps) s = two_walks (walk k p s) (walk_parts k ps (after over_all k p s))

  walk_alternatives : (k : ℕ) (ps : Parts) (s : Tracked) → Walk (binds_some k ps) (modes_of k ps) (twice_each k ps) (partly_first k ps) s
      (after_alternatives over_all k ps s)
  walk_alternatives k no_parts s = stay s
  walk_alternatives k (more_parts p ps) s = left_walk (binds k p) (binds_some k ps) s (after over_all k p (enter_first s))
      (after_later over_all k ps (after over_all k p (enter_first s))) (walk k p (enter_first s))
      (walk_later k ps (binds k p) (after over_all k p (enter_first s))
      (ap is_unseen (walk k p (enter_first s)).mark ∙ unseen_after_first (binds k p)))

  walk_later : (k : ℕ) (ps : Parts) (some : Bool) (s : Tracked) → is_unseen s.here.mark ≡ not some →
      Later some (binds_some k ps) (modes_of k ps) (twice_each k ps) (partly_later k some ps) s (after_later over_all k ps s)
  walk_later k no_parts some s h = no_later some s h
  walk_later k (more_parts p ps) some s h = more_later s some h (walk k p (next over_all s))
      (walk_later k ps (some || binds k p) (after over_all k p (next over_all s)) (unseen_after s some h (walk k p (next over_all s))))
