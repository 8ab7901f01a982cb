use Rattle.std.proofs.Common.{arith}
use Rattle.std.proofs.lemmas.Grind.{common_steps}
use Rattle.hir_lower_bind.proofs.target_records.AstRecordExprFieldListTargetRecord.record.Goals as goal

pub returns : goal.returns
returns g c = grind (arith, common_steps)

pub fields-requires : goal.fields-requires
fields-requires g c = grind (arith, common_steps)

pub returns-in_err-args : goal.returns-in_err-args
returns-in_err-args g c = grind (arith, common_steps)

pub alloc_target-requires : goal.alloc_target-requires
alloc_target-requires g c = grind (arith, common_steps)
