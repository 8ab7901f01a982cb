use Rattle.std.proofs.Common.{arith}
use Rattle.std.proofs.lemmas.Grind.{common_steps}
use Rattle.hir_lower_path.proofs.Ends.{each_before, each_last, read_each_last}
use Rattle.hir_lower_path.proofs.path.segments.Goals as goal

pub loop-last-init : goal.loop-last-init
loop-last-init g c = grind (arith, common_steps, each_before, each_last, read_each_last)

pub loop-last-preserved : goal.loop-last-preserved
loop-last-preserved g c = grind (arith, common_steps, each_before, each_last, read_each_last)

pub returns : goal.returns
returns g c = grind (arith, common_steps, each_before, each_last, read_each_last)

pub returns-in_err-other : goal.returns-in_err-other
returns-in_err-other g c = grind (arith, common_steps, each_before, each_last, read_each_last)

pub returns-in_default-2 : goal.returns-in_default-2
returns-in_default-2 g c = grind (arith, common_steps, each_before, each_last, read_each_last)

pub segment-requires-clause-parts : goal.segment-requires-clause-parts
segment-requires-clause-parts g c = grind (arith, common_steps, each_before, each_last, read_each_last)

pub loop-last-smaller : goal.loop-last-smaller
loop-last-smaller g c = grind (arith, common_steps, each_before, each_last, read_each_last)
