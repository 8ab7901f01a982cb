use Rattle.std.proofs.Common.{◌≡◌, drop, slice_get}
use Rattle.spec_data.specs.Segments.{named_among}
use Rattle.hir_lower_scope.proofs.reverse_mappings.nth_named.Given as goal

abbrev pub invariant-loop-segment : goal.invariant-loop-segment
invariant-loop-segment l =
    slice_get (named_among l.segments) l.index ≡ slice_get (named_among (drop l.segment-index l.segments)) l.before
