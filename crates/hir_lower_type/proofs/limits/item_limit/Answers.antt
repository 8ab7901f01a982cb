use Rattle.std.proofs.lemmas.Grind.{common_steps}
use Rattle.std.proofs.Common.{arith}
use Rattle.hir_lower_builder.specs.Ranges.{inner_form, item_form}
use Rattle.hir_lower_type.proofs.limits.item_limit.Goals as goal

pub returns-in_err-around : goal.returns-in_err-around
unfolding inner_form item_form
returns-in_err-around g c = grind (arith, common_steps)
