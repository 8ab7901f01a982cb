use Rattle.std.proofs.Common.{◌≡◌, length, map}
use Rattle.std.specs.List.{flat_map}
use Rattle.hir_walks.specs.EntryParts.{statement_types, type_part}
use Rattle.hir_walks.specs.Pats.{taken}
use Rattle.hir_walks.proofs.visit.visit_statement_types.Given as goal

abbrev pub invariant-loop-left : goal.invariant-loop-left
invariant-loop-left g l =
    taken g.V.EntryVisitor.after (map type_part (flat_map statement_types l.fn.left)) l.fn.visitor
    ≡ taken g.V.EntryVisitor.after (map type_part (flat_map statement_types l.left)) l.visitor

abbrev pub decreases-loop-left : goal.decreases-loop-left
decreases-loop-left g l = length l.left
