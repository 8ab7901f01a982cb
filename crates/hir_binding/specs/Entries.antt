-- What becomes of an entry.
use Rattle.hir_binding.specs.declared.binding.Mark.{Mark}
use Rattle.hir_binding.specs.declared.list.Entry.{Entry}
use Rattle.hir_binding.specs.Steps.{over_recent, problem_at_end}

-- at the end of an alternative that leaves this mark
abbrev pub ended_entry : Mark → Entry → Entry
ended_entry m e = record e { problem = problem_at_end m over_recent e.problem }
