use Rattle.std.proofs.lemmas.Grind.{common_steps}
use Rattle.std.proofs.Common.{arith}
use Rattle.hir_lower_builder.proofs.Kept.{lower_on}
use Rattle.hir_lower_callbacks.proofs.constant.expr_of.Goals as goal

pub returns-in-None : goal.returns-in-None
returns-in-None g c = grind (arith, common_steps, lower_on)

pub returns-in_err-id : goal.returns-in_err-id
returns-in_err-id g c = grind (arith, common_steps, lower_on)

pub lower-requires : goal.lower-requires
lower-requires g c = grind (arith, common_steps, lower_on)

pub returns-in-Some : goal.returns-in-Some
returns-in-Some g c = grind (arith, common_steps, lower_on)
