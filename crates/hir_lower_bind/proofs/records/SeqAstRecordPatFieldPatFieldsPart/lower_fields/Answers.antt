use Rattle.std.proofs.Common.{arith}
use Rattle.std.proofs.lemmas.Grind.{common_steps}
use Rattle.hir_lower_bind.proofs.records.SeqAstRecordPatFieldPatFieldsPart.lower_fields.Goals as goal

pub loop-left-smaller-in_ok-push_pat_field : goal.loop-left-smaller-in_ok-push_pat_field
loop-left-smaller-in_ok-push_pat_field g c = grind (arith, common_steps)

pub returns : goal.returns
returns g c = grind (arith, common_steps)

pub loop-left-init : goal.loop-left-init
loop-left-init g c = grind (arith, common_steps)

pub loop-left-smaller : goal.loop-left-smaller
loop-left-smaller g c = grind (arith, common_steps)

pub loop-left-preserved : goal.loop-left-preserved
loop-left-preserved g c = grind (arith, common_steps)

pub loop-left-preserved-in_ok-push_pat_field : goal.loop-left-preserved-in_ok-push_pat_field
loop-left-preserved-in_ok-push_pat_field g c = grind (arith, common_steps)

pub field-requires-clause-part : goal.field-requires-clause-part
field-requires-clause-part g c = grind (arith, common_steps)

pub returns-in_err-field : goal.returns-in_err-field
returns-in_err-field g c = grind (arith, common_steps)

pub slice_bounds-rest-count : goal.slice_bounds-rest-count
slice_bounds-rest-count g c = grind (arith, common_steps)

pub slice_bounds-rest-start : goal.slice_bounds-rest-start
slice_bounds-rest-start g c = grind (arith, common_steps)

pub bounds-left-0 : goal.bounds-left-0
bounds-left-0 g c = grind (arith, common_steps)
