use Rattle.std.proofs.Common.{◌≡◌, length}
use Rattle.hir_store.specs.Parts.{of_args, of_each, of_present}
use Rattle.hir_walks.specs.EntryParts.{parts_in}
use Rattle.hir_walks.specs.Pats.{taken}
use Rattle.hir_walks.proofs.visit.visit_lists.Given as goal

abbrev pub invariant-loop-left : goal.invariant-loop-left
invariant-loop-left g l =
    taken g.V.EntryVisitor.after (parts_in (of_each (of_present of_args) l.fn.left)) l.fn.visitor
    ≡ taken g.V.EntryVisitor.after (parts_in (of_each (of_present of_args) l.left)) l.visitor

abbrev pub decreases-loop-left : goal.decreases-loop-left
decreases-loop-left g l = length l.left
