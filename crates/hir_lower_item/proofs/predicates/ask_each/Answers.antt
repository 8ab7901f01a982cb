use Rattle.std.proofs.lemmas.Grind.{common_steps}
use Rattle.std.proofs.Common.{arith}
use Rattle.hir_lower_item.proofs.predicates.ask_each.Goals as goal

pub loop-left-init : goal.loop-left-init
loop-left-init g c = grind (arith, common_steps)

pub slice_bounds-rest-count : goal.slice_bounds-rest-count
slice_bounds-rest-count g c = grind (arith, common_steps)

pub returns-in_err-ask : goal.returns-in_err-ask
returns-in_err-ask g c = grind (arith, common_steps)

pub loop-left-smaller : goal.loop-left-smaller
loop-left-smaller g c = grind (arith, common_steps)

pub slice_bounds-rest-start : goal.slice_bounds-rest-start
slice_bounds-rest-start g c = grind (arith, common_steps)

pub bounds-left-0 : goal.bounds-left-0
bounds-left-0 g c = grind (arith, common_steps)

pub returns-in_err-bound : goal.returns-in_err-bound
returns-in_err-bound g c = grind (arith, common_steps)

pub returns : goal.returns
returns g c = grind (arith, common_steps)
