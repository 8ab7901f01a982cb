use Rattle.std.proofs.Common.{◌≡◌, length, map}
use Rattle.hir_walks.specs.EntryParts.{expr_part}
use Rattle.hir_walks.specs.Pats.{taken}
use Rattle.hir_walks.proofs.visit.visit_each_expr.Given as goal

abbrev pub invariant-loop-id : goal.invariant-loop-id
invariant-loop-id g l =
    taken g.V.EntryVisitor.after (map expr_part l.initial.parts) l.initial.visitor
    ≡ taken g.V.EntryVisitor.after (map expr_part l.parts) l.visitor

abbrev pub decreases-loop-id : goal.decreases-loop-id
decreases-loop-id g l = length l.parts
