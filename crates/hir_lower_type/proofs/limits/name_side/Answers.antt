use Rattle.std.proofs.lemmas.Grind.{common_steps}
use Rattle.std.proofs.Common.{arith}
use Rattle.hir_lower_builder.specs.Ranges.{name_limit_form}
use Rattle.hir_lower_type.proofs.limits.name_side.Goals as goal

pub returns : goal.returns
unfolding name_limit_form
returns g c = grind (arith, common_steps)
