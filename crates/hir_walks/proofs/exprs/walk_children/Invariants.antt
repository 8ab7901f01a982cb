use Rattle.std.proofs.Common.{◌≡◌, length}
use Rattle.hir_walks.specs.Pats.{taken}
use Rattle.hir_walks.proofs.exprs.walk_children.Given as goal

abbrev pub invariant-loop-id : goal.invariant-loop-id
invariant-loop-id g l = taken g.S.ExprSink.after l.initial.parts l.initial.sink ≡ taken g.S.ExprSink.after l.parts l.sink

abbrev pub decreases-loop-id : goal.decreases-loop-id
decreases-loop-id g l = length l.parts
