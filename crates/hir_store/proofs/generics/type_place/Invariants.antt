use Rattle.std.proofs.Common.{◌≡◌, ◌+◌, length}
use Rattle.std.specs.List.{position_from}
use Rattle.hir_store.specs.Params.{is_type_called}
use Rattle.hir_store.proofs.generics.type_place.Given as goal

abbrev pub invariant-loop-left : goal.invariant-loop-left
invariant-loop-left l = record {
  so_far : position_from (is_type_called l.name) 0 l.fn.left ≡ position_from (is_type_called l.name) l.at l.left;
  counted : l.at + length l.left ≡ length l.fn.left;
}

abbrev pub decreases-loop-left : goal.decreases-loop-left
decreases-loop-left l = length l.left
