use Rattle.std.proofs.Common.{◌≡◌, ◌≤◌, length, take}
use Rattle.std.specs.List.{flat_map}
use Rattle.hir_walks.specs.Pats.{pats_to, taken}
use Rattle.hir_walks.proofs.exprs.walk_expr_pats.Given as goal

abbrev pub invariant-loop-id : goal.invariant-loop-id
invariant-loop-id g l = (l.room ≤ length l.store.pats)
    × (taken g.S.PatSink.after (take l.initial.room (flat_map (pats_to l.store (length l.store.pats)) l.initial.pats)) l.initial.sink
    ≡ taken g.S.PatSink.after (take l.room (flat_map (pats_to l.store (length l.store.pats)) l.pats)) l.sink)

abbrev pub decreases-loop-id : goal.decreases-loop-id
decreases-loop-id g l = length l.pats
