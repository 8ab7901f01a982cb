use Rattle.std.proofs.Common.{arith}
use Rattle.std.proofs.lemmas.Grind.{common_steps}
use Rattle.hir_lower_builder.specs.Targets.{target_field_form}
use Rattle.hir_lower_bind.proofs.target_records.present_field.Goals as goal

pub returns : goal.returns
unfolding target_field_form
returns g c = grind (arith, common_steps)

pub returns-in_err-pat : goal.returns-in_err-pat
unfolding target_field_form
returns-in_err-pat g c = grind (arith, common_steps)
