use Rattle.std.proofs.Common.{◌≡◌, length}
use Rattle.std.specs.List.{flat_map}
use Rattle.hir_walks.specs.Pats.{taken}
use Rattle.hir_walks.specs.Exprs.{args_constants}
use Rattle.hir_walks.proofs.constants.walk_lists.Given as goal

abbrev pub invariant-loop-left : goal.invariant-loop-left
invariant-loop-left g l =
    taken g.S.ExprSink.after (flat_map args_constants l.fn.left) l.fn.sink
    ≡ taken g.S.ExprSink.after (flat_map args_constants l.left) l.sink

abbrev pub decreases-loop-left : goal.decreases-loop-left
decreases-loop-left g l = length l.left
