use Rattle.std.proofs.Common.{◌≡◌, length}
use Rattle.hir_store.specs.Range.{Grows}
use Rattle.hir_lower_builder.specs.Lower.{read_each}
use Rattle.hir_lower_builder.specs.Methods.{HasWalk}
use Rattle.hir_lower_builder.specs.Nests.{KidsSegments}
use Rattle.hir_env.specs.Whole.{segments_part}
use Rattle.hir_lower_path.proofs.path.segments.Given as goal

abbrev pub invariant-loop-last : goal.invariant-loop-last
invariant-loop-last g l = let at = g.P.LowerParts.rctx l.lowerer.parts in record {
  so_far : read_each (segments_part at l.fn.left) l.fn.walk l.fn.state ≡ read_each (segments_part at l.left) l.walk l.state;
  may : KidsSegments (g.P.LowerParts.can l.lowerer.parts) at.place l.left;
  placed : Grows l.fn.state.stored l.state.stored × HasWalk l.state.stored l.walk;
}

abbrev pub decreases-loop-last : goal.decreases-loop-last
decreases-loop-last g l = length l.left
