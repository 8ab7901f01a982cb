use Rattle.std.proofs.Common.{◌≡◌, length}
use Rattle.hir_store.specs.Range.{Grows, HasPats}
use Rattle.hir_lower_builder.specs.Methods.{HasPrelude}
use Rattle.hir_lower_builder.specs.Preludes.{let_params}
use Rattle.hir_lower_builder.proofs.preludes.let_params.Given as goal

abbrev pub invariant-loop-left : goal.invariant-loop-left
invariant-loop-left g l = record {
  so_far : let_params l.fn.prelude l.fn.left l.fn.state ≡ let_params l.prelude l.left l.state;
  patterns : HasPats l.state.stored l.left;
  placed : Grows l.fn.state.stored l.state.stored × HasPrelude l.state.stored l.prelude;
}

abbrev pub decreases-loop-left : goal.decreases-loop-left
decreases-loop-left g l = length l.left
