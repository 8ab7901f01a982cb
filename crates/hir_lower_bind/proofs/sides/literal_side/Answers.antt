use Rattle.std.proofs.Common.{arith}
use Rattle.std.proofs.lemmas.Grind.{common_steps}
use Rattle.hir_lower_builder.specs.Pats.{literal_side_form}
use Rattle.hir_lower_bind.proofs.sides.literal_side.Goals as goal

pub returns : goal.returns
unfolding literal_side_form
returns g c = grind (arith, common_steps)
