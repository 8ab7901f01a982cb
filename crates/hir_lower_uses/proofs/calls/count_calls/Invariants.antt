use Rattle.std.proofs.Common.{◌≡◌, count_by, ◌≤◌, take}
use Rattle.hir_lower_uses.specs.Uses.{is_call}
use Rattle.hir_lower_uses.proofs.calls.count_calls.Given as goal

abbrev pub invariant-loop-number : goal.invariant-loop-number
invariant-loop-number l = record {
  so_far : l.calls ≡ count_by is_call (take l.number l.store.exprs);
  fits : l.calls ≤ l.number;
}
