use Rattle.std.proofs.lemmas.Grind.{common_steps}
use Rattle.std.proofs.Common.{arith}
use Rattle.hir_lower_builder.proofs.parts.Lowerer.collect_each.Goals as goal

pub bounds-all-0 : goal.bounds-all-0
bounds-all-0 c = grind (arith, common_steps)

pub loop-all-preserved-in_ok-push_id : goal.loop-all-preserved-in_ok-push_id
loop-all-preserved-in_ok-push_id c = grind (arith, common_steps)

pub returns-in_err-id : goal.returns-in_err-id
returns-in_err-id c = grind (arith, common_steps)

pub loop-all-preserved : goal.loop-all-preserved
loop-all-preserved c = grind (arith, common_steps)

pub loop-all-smaller-in_ok-push_id : goal.loop-all-smaller-in_ok-push_id
loop-all-smaller-in_ok-push_id c = grind (arith, common_steps)

pub loop-all-init : goal.loop-all-init
loop-all-init c = grind (arith, common_steps)

pub slice_bounds-rest-start : goal.slice_bounds-rest-start
slice_bounds-rest-start c = grind (arith, common_steps)

pub slice_bounds-rest-count : goal.slice_bounds-rest-count
slice_bounds-rest-count c = grind (arith, common_steps)

pub maybe_collect_expr-requires : goal.maybe_collect_expr-requires
maybe_collect_expr-requires c = grind (arith, common_steps)

pub returns : goal.returns
returns c = grind (arith, common_steps)

pub loop-all-smaller : goal.loop-all-smaller
loop-all-smaller c = grind (arith, common_steps)
