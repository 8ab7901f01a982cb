use Rattle.std.proofs.Common.{◌≡◌, ◌≤◌, ℕ, slice_get, option_map}
use Rattle.std.specs.BTreeMap.{get}
use Rattle.std.specs.Ordering.{nat_cmp}
use Rattle.hir_binding.proofs.Loops.{entry_between}
use Rattle.hir_binding.proofs.list.end_alternative.Given as goal

abbrev pub invariant-loop-place : goal.invariant-loop-place
invariant-loop-place l = record {
  from : l.names.previous ≤ l.place;
  entries : (k : ℕ) → slice_get l.entries k
      ≡ option_map (entry_between l.names.previous l.place (get nat_cmp l.names.last k)) (slice_get l.initial.entries k);
}
