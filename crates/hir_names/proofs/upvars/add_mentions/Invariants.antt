use Rattle.std.proofs.Common.{◌≡◌, [], length}
use Rattle.hir_store.specs.declared.ids.BindingId.{BindingId}
use Rattle.hir_names.specs.Sets.{has_seen}
use Rattle.hir_names.specs.Upvars.{has_binding, with_upvars}
use Rattle.hir_names.proofs.upvars.add_mentions.Given as goal

abbrev pub invariant-loop-split : goal.invariant-loop-split
invariant-loop-split l = ((b : BindingId) → has_seen l.seen b ≡ has_binding l.upvars b)
    × (with_upvars l.store l.resolutions l.closure [] l.fn.left ≡ with_upvars l.store l.resolutions l.closure l.upvars l.left)

abbrev pub decreases-loop-split : goal.decreases-loop-split
decreases-loop-split l = length l.left
