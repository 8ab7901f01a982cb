use Rattle.std.proofs.lemmas.Grind.{common_steps}
use Rattle.std.proofs.Common.{arith}
use Rattle.hir_store.proofs.Handed.{handed_append}
use Rattle.hir_store.proofs.visit.visit_each_arg.Goals as goal

pub slice_bounds-rest-count : goal.slice_bounds-rest-count
slice_bounds-rest-count g c = grind (arith, common_steps, handed_append)

pub loop-left-preserved : goal.loop-left-preserved
loop-left-preserved g c = grind (arith, common_steps, handed_append)

pub returns : goal.returns
returns g c = grind (arith, common_steps, handed_append)

pub slice_bounds-rest-start : goal.slice_bounds-rest-start
slice_bounds-rest-start g c = grind (arith, common_steps, handed_append)

pub bounds-left-0 : goal.bounds-left-0
bounds-left-0 g c = grind (arith, common_steps, handed_append)

pub loop-left-smaller : goal.loop-left-smaller
loop-left-smaller g c = grind (arith, common_steps, handed_append)
