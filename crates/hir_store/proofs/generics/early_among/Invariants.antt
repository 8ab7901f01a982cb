use Rattle.std.proofs.Common.{◌≡◌, ◌+◌, ◌≤◌, length}
use Rattle.std.specs.Prelude.{min}
use Rattle.hir_store.specs.Params.{early_among}
use Rattle.hir_store.proofs.generics.early_among.Given as goal

abbrev pub invariant-loop-left : goal.invariant-loop-left
invariant-loop-left l = record {
  so_far : min (early_among l.fn.left) 4294967295 ≡ min (l.count + early_among l.left) 4294967295;
  few : l.count ≤ 4294967295;
}

abbrev pub decreases-loop-left : goal.decreases-loop-left
decreases-loop-left l = length l.left
