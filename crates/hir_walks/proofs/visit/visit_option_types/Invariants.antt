use Rattle.std.proofs.Common.{◌≡◌, length}
use Rattle.hir_walks.specs.EntryParts.{option_types}
use Rattle.hir_walks.specs.Pats.{taken}
use Rattle.hir_walks.proofs.visit.visit_option_types.Given as goal

abbrev pub invariant-loop-left : goal.invariant-loop-left
invariant-loop-left g l =
    taken g.V.EntryVisitor.after (option_types l.fn.left) l.fn.visitor
    ≡ taken g.V.EntryVisitor.after (option_types l.left) l.visitor

abbrev pub decreases-loop-left : goal.decreases-loop-left
decreases-loop-left g l = length l.left
