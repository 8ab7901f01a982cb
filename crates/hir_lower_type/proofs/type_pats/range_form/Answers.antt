use Rattle.std.proofs.Common.{arith}
use Rattle.std.proofs.lemmas.Grind.{common_steps}
use Rattle.hir_lower_builder.specs.Ranges.{limits_form}
use Rattle.hir_lower_type.proofs.type_pats.range_form.Goals as goal

pub returns : goal.returns
unfolding limits_form
returns g c = grind (arith, common_steps)

pub returns-in_err-end_limit : goal.returns-in_err-end_limit
unfolding limits_form
returns-in_err-end_limit g c = grind (arith, common_steps)
