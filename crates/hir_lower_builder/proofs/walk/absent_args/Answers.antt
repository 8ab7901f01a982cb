use Rattle.std.proofs.lemmas.Grind.{common_steps}
use Rattle.std.proofs.Common.{arith}
use Rattle.hir_lower_builder.proofs.Walked.{no_args_push}
use Rattle.hir_lower_builder.proofs.walk.absent_args.Goals as goal

pub slice_bounds-rest-start : goal.slice_bounds-rest-start
slice_bounds-rest-start c = grind (arith, common_steps, no_args_push)

pub loop-left-preserved : goal.loop-left-preserved
loop-left-preserved c = grind (arith, common_steps, no_args_push)

pub slice_bounds-rest-count : goal.slice_bounds-rest-count
slice_bounds-rest-count c = grind (arith, common_steps, no_args_push)

pub loop-left-init : goal.loop-left-init
loop-left-init c = grind (arith, common_steps, no_args_push)

pub loop-left-smaller : goal.loop-left-smaller
loop-left-smaller c = grind (arith, common_steps, no_args_push)

pub returns : goal.returns
returns c = grind (arith, common_steps, no_args_push)
