use Rattle.std.proofs.Common.{arith}
use Rattle.std.proofs.lemmas.Grind.{common_steps}
use Rattle.hir_lower_builder.specs.Forms.{record_contents}
use Rattle.hir_lower_expr.proofs.records.OptionAstRecordExprFieldListRecordPart.lower.Goals as goal

pub listed-requires : goal.listed-requires
unfolding record_contents
listed-requires g c = grind (arith, common_steps)

pub returns-in-Some : goal.returns-in-Some
unfolding record_contents
returns-in-Some g c = grind (arith, common_steps)

pub returns-in-None : goal.returns-in-None
unfolding record_contents
returns-in-None g c = grind (arith, common_steps)
