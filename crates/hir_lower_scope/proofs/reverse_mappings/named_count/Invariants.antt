use Rattle.std.proofs.Common.{◌≡◌, ◌+◌, ◌≤◌, drop, length}
use Rattle.spec_data.specs.Segments.{named_among}
use Rattle.hir_lower_scope.proofs.reverse_mappings.named_count.Given as goal

abbrev pub invariant-loop-segment : goal.invariant-loop-segment
invariant-loop-segment l = record {
  so_far : length (named_among l.segments) ≡ l.count + length (named_among (drop l.segment-index l.segments));
  no_more : l.count ≤ l.segment-index;
}
