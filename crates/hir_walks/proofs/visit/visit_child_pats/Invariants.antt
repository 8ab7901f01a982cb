use Rattle.std.proofs.Common.{◌≡◌, length, map}
use Rattle.hir_walks.specs.EntryParts.{pat_part}
use Rattle.hir_walks.specs.Pats.{taken}
use Rattle.hir_walks.proofs.visit.visit_child_pats.Given as goal

abbrev pub invariant-loop-id : goal.invariant-loop-id
invariant-loop-id g l =
    taken g.V.EntryVisitor.after (map pat_part l.initial.pats) l.initial.visitor
    ≡ taken g.V.EntryVisitor.after (map pat_part l.pats) l.visitor

abbrev pub decreases-loop-id : goal.decreases-loop-id
decreases-loop-id g l = length l.pats
