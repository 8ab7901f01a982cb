use Rattle.std.proofs.Common.{◌≡◌, length, []}
use Rattle.hir_store.specs.Range.{Grows, HasPats}
use Rattle.hir_lower_builder.specs.Preludes.{lower_handed}
use Rattle.hir_lower_builder.proofs.preludes.lower_handed.Given as goal

abbrev pub invariant-loop-left : goal.invariant-loop-left
invariant-loop-left g l = record {
  so_far : lower_handed [] l.fn.left l.fn.state ≡ lower_handed l.done l.left l.state;
  placed : Grows l.fn.state.stored l.state.stored × HasPats l.state.stored l.done;
}

abbrev pub decreases-loop-left : goal.decreases-loop-left
decreases-loop-left g l = length l.left
