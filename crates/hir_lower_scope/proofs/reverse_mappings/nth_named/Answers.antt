use Rattle.std.proofs.lemmas.Grind.{common_steps}
use Rattle.std.proofs.Common.{arith}
use Rattle.hir_lower_scope.proofs.reverse_mappings.nth_named.Goals as goal

pub offset_bounds-segments-segment-index : goal.offset_bounds-segments-segment-index
offset_bounds-segments-segment-index c = grind (arith, common_steps)

pub overflow_sub-before : goal.overflow_sub-before
overflow_sub-before c = grind (arith, common_steps)

pub loop-segment-preserved : goal.loop-segment-preserved
loop-segment-preserved c = grind (arith, common_steps)

pub returns-then-before-eq0 : goal.returns-then-before-eq0
returns-then-before-eq0 c = grind (arith, common_steps)

pub returns : goal.returns
returns c = grind (arith, common_steps)
