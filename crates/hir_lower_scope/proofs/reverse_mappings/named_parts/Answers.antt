use Rattle.std.proofs.lemmas.Grind.{common_steps}
use Rattle.std.proofs.Common.{arith}
use Rattle.hir_lower_scope.proofs.reverse_mappings.named_parts.Goals as goal

pub returns-in_default : goal.returns-in_default
returns-in_default c = grind (arith, common_steps)

pub slice_bounds-rest-start : goal.slice_bounds-rest-start
slice_bounds-rest-start c = grind (arith, common_steps)

pub bounds-segments-0 : goal.bounds-segments-0
bounds-segments-0 c = grind (arith, common_steps)

pub slice_bounds-rest-count : goal.slice_bounds-rest-count
slice_bounds-rest-count c = grind (arith, common_steps)

pub returns-in_default-2 : goal.returns-in_default-2
returns-in_default-2 c = grind (arith, common_steps)

pub bounds-segments-0-in-Some-1 : goal.bounds-segments-0-in-Some-1
bounds-segments-0-in-Some-1 c = grind (arith, common_steps)

pub returns-in-Some-path : goal.returns-in-Some-path
returns-in-Some-path c = grind (arith, common_steps)

pub bounds-0 : goal.bounds-0
bounds-0 c = grind (arith, common_steps)

pub returns-in-None : goal.returns-in-None
returns-in-None c = grind (arith, common_steps)
