use Rattle.std.proofs.Common.{◌≡◌, ◌||◌, length}
use Rattle.hir_store.specs.declared.ids.ExprId.{ExprId}
use Rattle.hir_names.specs.Sets.{has_in}
use Rattle.hir_names.specs.Upvars.{has_expr}
use Rattle.hir_names.proofs.upvars.set_of.Given as goal

abbrev pub invariant-loop-split : goal.invariant-loop-split
invariant-loop-split l = (e : ExprId) → (has_in l.set e || has_expr l.left e) ≡ has_expr l.fn.left e

abbrev pub decreases-loop-split : goal.decreases-loop-split
decreases-loop-split l = length l.left
