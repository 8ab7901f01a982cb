use Rattle.std.proofs.Common.{◌≡◌, ◌++◌, length, reverse}
use Rattle.std.specs.List.{flat_map}
use Rattle.hir_names.specs.Upvars.{exprs_in}
use Rattle.hir_names.proofs.upvars.exprs_inside.Given as goal

-- what was taken, and behind it what is left
abbrev pub invariant-loop-expr : goal.invariant-loop-expr
invariant-loop-expr l = flat_map (exprs_in l.store) (reverse l.fn.left) ≡ l.exprs ++ flat_map (exprs_in l.store) (reverse l.left)

abbrev pub decreases-loop-expr : goal.decreases-loop-expr
decreases-loop-expr l = length (flat_map (exprs_in l.store) (reverse l.left))
