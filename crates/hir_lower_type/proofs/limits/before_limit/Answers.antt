use Rattle.std.proofs.Common.{arith}
use Rattle.std.proofs.lemmas.Grind.{common_steps}
use Rattle.hir_lower_builder.specs.Ranges.{inner_form}
use Rattle.hir_lower_type.proofs.limits.before_limit.Goals as goal

pub returns-in_err-id : goal.returns-in_err-id
unfolding inner_form
returns-in_err-id g c = grind (arith, common_steps)

pub returns-in_err-around : goal.returns-in_err-around
unfolding inner_form
returns-in_err-around g c = grind (arith, common_steps)
