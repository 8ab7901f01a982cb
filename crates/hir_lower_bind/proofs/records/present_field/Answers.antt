use Rattle.std.proofs.Common.{arith}
use Rattle.std.proofs.lemmas.Grind.{common_steps}
use Rattle.hir_lower_builder.specs.Pats.{pat_field_form}
use Rattle.hir_lower_bind.proofs.records.present_field.Goals as goal

pub returns : goal.returns
unfolding pat_field_form
returns g c = grind (arith, common_steps)
