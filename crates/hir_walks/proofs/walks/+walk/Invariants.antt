use Rattle.std.proofs.Common.{◌≡◌, ◌<◌, ◌≤◌, ◌-◌, ℕ, suc, length, take}
use Rattle.std.specs.List.{flat_map}
use Rattle.hir_walks.specs.Pats.{pats_to, taken}
use Rattle.hir_walks.proofs.walks.+walk.Given as goal

abbrev pub decreases-walk_some : goal.decreases-walk_some
decreases-walk_some g l = l.room

abbrev pub decreases-loop-part : goal.decreases-loop-part
decreases-loop-part g l = length l.parts

-- what is left to be walked is what was to be walked behind the parts that were
abbrev pub invariant-loop-part : goal.invariant-loop-part
invariant-loop-part g l = (l.left < l.room) × ((d : ℕ) → l.room ≤ suc d
    → (taken g.S.PatSink.after (take l.initial.left (flat_map (pats_to l.store d) l.initial.parts)) l.initial.sink
    ≡ taken g.S.PatSink.after (take l.left (flat_map (pats_to l.store d) l.parts)) l.sink)
    × (l.initial.left - length (flat_map (pats_to l.store d) l.initial.parts) ≡ l.left - length (flat_map (pats_to l.store d) l.parts)))
