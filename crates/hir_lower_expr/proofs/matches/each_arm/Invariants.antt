use Rattle.std.proofs.Common.{◌≡◌, length, []}
use Rattle.hir_store.specs.Range.{Grows, HasArms}
use Rattle.hir_env.specs.Whole.{arms_part}
use Rattle.hir_lower_builder.specs.Lower.{lower_arms}
use Rattle.hir_lower_builder.specs.Nests.{KidsArms}
use Rattle.hir_lower_expr.proofs.matches.each_arm.Given as goal

abbrev pub invariant-loop-left : goal.invariant-loop-left
invariant-loop-left g l = let at = g.P.LowerParts.rctx l.lowerer.parts in record {
  so_far : lower_arms [] (arms_part at l.fn.left) l.fn.state ≡ lower_arms l.done (arms_part at l.left) l.state;
  may : KidsArms (g.P.LowerParts.can l.lowerer.parts) at.place l.left;
  placed : Grows l.fn.state.stored l.state.stored × HasArms l.state.stored l.done;
}

abbrev pub decreases-loop-left : goal.decreases-loop-left
decreases-loop-left g l = length l.left
