use Rattle.std.proofs.Common.{arith}
use Rattle.std.proofs.lemmas.Grind.{common_steps}
use Rattle.hir_lower_bind.proofs.part.SeqAstPatPatsPart.lower_each.Goals as goal

pub loop-left-preserved : goal.loop-left-preserved
loop-left-preserved g c = grind (arith, common_steps)

pub loop-left-init : goal.loop-left-init
loop-left-init g c = grind (arith, common_steps)

pub lower_pat-requires-clause-part : goal.lower_pat-requires-clause-part
lower_pat-requires-clause-part g c = grind (arith, common_steps)

pub returns : goal.returns
returns g c = grind (arith, common_steps)

pub returns-in_err-id : goal.returns-in_err-id
returns-in_err-id g c = grind (arith, common_steps)

pub loop-left-smaller : goal.loop-left-smaller
loop-left-smaller g c = grind (arith, common_steps)

pub slice_bounds-rest-count : goal.slice_bounds-rest-count
slice_bounds-rest-count g c = grind (arith, common_steps)

pub bounds-left-0 : goal.bounds-left-0
bounds-left-0 g c = grind (arith, common_steps)

pub slice_bounds-rest-start : goal.slice_bounds-rest-start
slice_bounds-rest-start g c = grind (arith, common_steps)
