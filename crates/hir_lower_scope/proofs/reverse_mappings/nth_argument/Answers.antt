use Rattle.std.proofs.lemmas.Grind.{common_steps}
use Rattle.std.proofs.Common.{arith}
use Rattle.hir_lower_scope.proofs.reverse_mappings.nth_argument.Goals as goal

pub returns-then-before-eq0 : goal.returns-then-before-eq0
returns-then-before-eq0 c = grind (arith, common_steps)

pub overflow_sub-before : goal.overflow_sub-before
overflow_sub-before c = grind (arith, common_steps)

pub offset_bounds-args-arg-index : goal.offset_bounds-args-arg-index
offset_bounds-args-arg-index c = grind (arith, common_steps)

pub returns : goal.returns
returns c = grind (arith, common_steps)

pub loop-arg-preserved : goal.loop-arg-preserved
loop-arg-preserved c = grind (arith, common_steps)
