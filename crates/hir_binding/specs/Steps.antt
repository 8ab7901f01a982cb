-- What lowering notes of one name, use by use in its order. The last problem that was noted stands. No step on a name depends on
-- another name, so all names are noted by the same steps side by side.
use Rattle.std.specs.Prelude.{ℕ, Bool, true, false, List, [], ◌∷◌, Option, Some, None, unwrap_or, if◌then◌else◌, nat_eq}
use Rattle.hir_binding.specs.declared.binding.BindingAnnotation.{BindingAnnotation}
use Rattle.hir_binding.specs.declared.binding.BindingAnnotation.TheVariants.{Unannotated, Mutable, Ref, RefMut}
use Rattle.hir_binding.specs.declared.binding.BindingProblems.{BindingProblems}
use Rattle.hir_binding.specs.declared.binding.BindingProblems.TheVariants.{BoundMoreThanOnce, BoundInconsistently, NotBoundAcrossAll}
use Rattle.hir_binding.specs.declared.binding.Mark.{Mark}
use Rattle.hir_binding.specs.declared.binding.Mark.TheVariants.{Unseen, Missing, Unmarked, Marked}
use Rattle.hir_binding.specs.Uses.{Uses, name_use, product, alternatives, Parts, no_parts, more_parts}

abbrev pub same_mode : BindingAnnotation → BindingAnnotation → Bool
same_mode Unannotated Unannotated = true
same_mode Mutable Mutable = true
same_mode Ref Ref = true
same_mode RefMut RefMut = true
same_mode _ _ = false

-- which names that an alternative leaves unmarked its end looks at: all of them, or, as the code does, only those that the
-- alternative before used. The others show the problem since the end at which they were left unmarked first.
pub data Ends : Type 0 where
  over_all : Ends
  over_recent : Ends

-- the top pattern and each or-pattern has a set of its own, with a flag that is on from the second alternative
pub record Set : Type 0 where
  pub mark : Mark
  pub later : Bool

-- the mode of the first use, the problem, and the set at hand inside the others
pub record Tracked : Type 0 where
  pub mode : Option BindingAnnotation
  pub problem : Option BindingProblems
  pub here : Set
  pub outer : List Set

-- a name that has no use yet, in these sets
abbrev pub no_use : Tracked
no_use = record { mode = None; problem = None; here = record { mark = Unseen; later = false }; outer = [] }

abbrev pub problem_of_mark : Mark → Bool → Option BindingProblems → Option BindingProblems
problem_of_mark Marked later p = Some BoundMoreThanOnce
problem_of_mark Unseen true p = Some NotBoundAcrossAll
problem_of_mark Unseen false p = p
problem_of_mark Missing later p = p
problem_of_mark Unmarked later p = p

-- a use in the set at hand, whatever its mode
abbrev pub seen : Tracked → Tracked
seen s = record s {
  problem = problem_of_mark s.here.mark s.here.later s.problem;
  here = record { mark = Marked; later = s.here.later };
}

abbrev pub problem_of_mode : Option BindingAnnotation → BindingAnnotation → Option BindingProblems → Option BindingProblems
problem_of_mode first m p = if same_mode (unwrap_or first m) m then p else Some BoundInconsistently

-- the first use gives the name its mode
abbrev pub set_mode : BindingAnnotation → Tracked → Tracked
set_mode m s = record s { mode = Some (unwrap_or s.mode m); problem = problem_of_mode s.mode m s.problem }

-- a use of the name with this mode
abbrev pub used : BindingAnnotation → Tracked → Tracked
used m s = seen (set_mode m s)

-- into the first alternative of an or-pattern
abbrev pub enter_first : Tracked → Tracked
enter_first s = record s { here = record { mark = Unseen; later = false }; outer = s.here ∷ s.outer }

-- a later alternative that leaves a name of its set unmarked
abbrev pub problem_at_end : Mark → Ends → Option BindingProblems → Option BindingProblems
problem_at_end Unseen ends p = p
problem_at_end Missing over_all p = Some NotBoundAcrossAll
problem_at_end Missing over_recent p = p
problem_at_end Unmarked ends p = Some NotBoundAcrossAll
problem_at_end Marked ends p = p

-- a later alternative begins with all marks off
abbrev pub unmark : Mark → Mark
unmark Unseen = Unseen
unmark Missing = Missing
unmark Unmarked = Missing
unmark Marked = Unmarked

-- from one alternative to the next
abbrev pub next : Ends → Tracked → Tracked
next ends s = record s {
  problem = problem_at_end s.here.mark ends s.problem;
  here = record { mark = unmark s.here.mark; later = true };
}

-- a name of the set that is left is one use in the set around it, modes untested
abbrev pub seen_if : Mark → Tracked → Tracked
seen_if Unseen s = s
seen_if Missing s = seen s
seen_if Unmarked s = seen s
seen_if Marked s = seen s

abbrev pub left_to : Ends → List Set → Tracked → Tracked
left_to ends [] s = s
left_to ends (set ∷ sets) s =
    seen_if s.here.mark (record s { problem = problem_at_end s.here.mark ends s.problem; here = set; outer = sets })

-- out of an or-pattern
abbrev pub left : Ends → Tracked → Tracked
left ends s = left_to ends s.outer s

-- the steps over a pattern; an or-pattern without alternatives is passed over
abbrev mutual
  pub after : Ends → ℕ → Uses → Tracked → Tracked
  after ends k (name_use n m) s = if nat_eq n k then used m s else s
  after ends k (product ps) s = after_parts ends k ps s
  after ends k (alternatives ps) s = after_alternatives ends k ps s

  pub after_parts : Ends → ℕ → Parts → Tracked → Tracked
  after_parts ends k no_parts s = s
  after_parts ends k (more_parts p ps) s = after_parts ends k ps (after ends k p s)

  pub after_alternatives : Ends → ℕ → Parts → Tracked → Tracked
  after_alternatives ends k no_parts s = s
  after_alternatives ends k (more_parts p ps) s = left ends (after_later ends k ps (after ends k p (enter_first s)))

  pub after_later : Ends → ℕ → Parts → Tracked → Tracked
  after_later ends k no_parts s = s
  after_later ends k (more_parts p ps) s = after_later ends k ps (after ends k p (next ends s))

-- the problem that is shown for the name with this number
abbrev pub shown : Ends → ℕ → Uses → Option BindingProblems
shown ends k t = (after ends k t no_use).problem
