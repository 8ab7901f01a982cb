use Rattle.std.proofs.Common.{◌≡◌, length}
use Rattle.hir_store.specs.Range.{Grows}
use Rattle.hir_lower_builder.specs.Calls.{record_each}
use Rattle.hir_lower_builder.proofs.calls.record_each.Given as goal

abbrev pub invariant-loop-eager : goal.invariant-loop-eager
invariant-loop-eager g l = record {
  so_far : record_each l.fn.eager l.fn.state ≡ record_each l.eager l.state;
  placed : Grows l.fn.state.stored l.state.stored;
}

abbrev pub decreases-loop-eager : goal.decreases-loop-eager
decreases-loop-eager g l = length l.eager
