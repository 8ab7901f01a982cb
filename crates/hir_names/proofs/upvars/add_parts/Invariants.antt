use Rattle.std.proofs.Common.{◌≡◌, ◌++◌, length, reverse}
use Rattle.std.specs.List.{flat_map}
use Rattle.hir_store.specs.Stored.{Store}
use Rattle.hir_names.specs.Upvars.{exprs_in, if_below}
use Rattle.hir_names.proofs.upvars.add_parts.Given as goal

abbrev pub invariant-loop-split : goal.invariant-loop-split
invariant-loop-split l = (store : Store)
    → flat_map (if_below store l.whole (exprs_in store)) l.fn.parts ++ flat_map (exprs_in store) (reverse l.fn.left)
    ≡ flat_map (if_below store l.whole (exprs_in store)) l.parts ++ flat_map (exprs_in store) (reverse l.left)

abbrev pub decreases-loop-split : goal.decreases-loop-split
decreases-loop-split l = length l.parts
