use Rattle.std.proofs.Common.{◌≡◌, length}
use Rattle.std.specs.List.{flat_map}
use Rattle.hir_walks.specs.Exprs.{statement_pats}
use Rattle.hir_walks.proofs.expr_pats.first_let.Given as goal

abbrev pub invariant-loop-left : goal.invariant-loop-left
invariant-loop-left l = flat_map statement_pats l.fn.statements ≡ flat_map statement_pats l.left

abbrev pub decreases-loop-left : goal.decreases-loop-left
decreases-loop-left l = length l.left
