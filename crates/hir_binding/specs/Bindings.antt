-- What a list of bindings notes of one name.
use Rattle.std.specs.Prelude.{ℕ, ◌+◌, Bool, true, false, Option, Some, None, if◌then◌else◌, nat_eq, map, reverse, slice_get, vec_len}
use Rattle.hir_binding.specs.declared.binding.BindingAnnotation.{BindingAnnotation}
use Rattle.hir_binding.specs.declared.binding.BindingProblems.{BindingProblems}
use Rattle.hir_binding.specs.declared.binding.Mark.{Mark}
use Rattle.hir_binding.specs.declared.binding.Mark.TheVariants.{Unseen, Missing, Unmarked, Marked}
use Rattle.hir_binding.specs.declared.list.Entry.{Entry}
use Rattle.hir_binding.specs.declared.list.BindingList.{BindingList}
use Rattle.hir_binding.specs.Steps.{Tracked, problem_of_mark, seen, set_mode}
use Rattle.hir_binding.specs.Seen.{set_of}

abbrev pub mode_of : Option Entry → Option BindingAnnotation
mode_of None = None
mode_of (Some e) = Some e.mode

abbrev pub problem_of : Option Entry → Option BindingProblems
problem_of None = None
problem_of (Some e) = e.problem

abbrev pub tracked : BindingList → ℕ → Tracked
tracked b k = record {
  mode = mode_of (slice_get b.entries.items k);
  problem = problem_of (slice_get b.entries.items k);
  here = set_of b.here k;
  outer = map (λ s. set_of s k) (reverse b.outer.items);
}

abbrev pub name_count : BindingList → ℕ
name_count b = vec_len b.entries

-- a name that had no use takes the next number
abbrev pub count_with : ℕ → ℕ → ℕ
count_with name count = if nat_eq name count then count + 1 else count

-- how many or-patterns are open
abbrev pub depth : BindingList → ℕ
depth b = vec_len b.outer

abbrev pub is_seen : Mark → Bool
is_seen Unseen = false
is_seen Missing = true
is_seen Unmarked = true
is_seen Marked = true

-- what a use in the set at hand shows, before it is marked
abbrev pub problem_seen_at : Bool → Tracked → Tracked
problem_seen_at b s = if b then record s { problem = problem_of_mark s.here.mark s.here.later s.problem } else s

abbrev pub seen_at : Bool → Tracked → Tracked
seen_at b s = if b then seen s else s

abbrev pub moded_at : Bool → BindingAnnotation → Tracked → Tracked
moded_at b m s = if b then set_mode m s else s
