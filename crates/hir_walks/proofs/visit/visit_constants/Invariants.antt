use Rattle.std.proofs.Common.{◌≡◌, length, map}
use Rattle.std.specs.List.{flat_map}
use Rattle.hir_walks.specs.Exprs.{arg_constant}
use Rattle.hir_walks.specs.EntryParts.{const_part}
use Rattle.hir_walks.specs.Pats.{taken}
use Rattle.hir_walks.proofs.visit.visit_constants.Given as goal

abbrev pub invariant-loop-left : goal.invariant-loop-left
invariant-loop-left g l =
    taken g.V.EntryVisitor.after (map const_part (flat_map arg_constant l.fn.left)) l.fn.visitor
    ≡ taken g.V.EntryVisitor.after (map const_part (flat_map arg_constant l.left)) l.visitor

abbrev pub decreases-loop-left : goal.decreases-loop-left
decreases-loop-left g l = length l.left
