use Rattle.std.proofs.Common.{◌≡◌, length, []}
use Rattle.hir_store.specs.Range.{Grows, HasBounds}
use Rattle.hir_env.specs.Whole.{bounds_part}
use Rattle.hir_lower_builder.specs.Lower.{lower_bounds}
use Rattle.hir_lower_builder.specs.Methods.{at_place}
use Rattle.hir_lower_builder.specs.Nests.{KidsBounds}
use Rattle.hir_lower_type.proofs.bounds.SeqAstTypeBoundBoundsPart.lower.Given as goal

abbrev pub invariant-loop-left : goal.invariant-loop-left
invariant-loop-left g l = let at = at_place (g.P.LowerParts.rctx l.lowerer.parts) l.fn.place in record {
  so_far : lower_bounds [] (bounds_part at l.fn.self) l.fn.state ≡ lower_bounds l.done (bounds_part at l.left) l.state;
  may : KidsBounds (g.P.LowerParts.can l.lowerer.parts) l.fn.place l.left;
  placed : Grows l.fn.state.stored l.state.stored × HasBounds l.state.stored l.done;
}

abbrev pub decreases-loop-left : goal.decreases-loop-left
decreases-loop-left g l = length l.left
