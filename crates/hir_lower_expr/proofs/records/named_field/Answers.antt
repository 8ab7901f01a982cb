use Rattle.std.proofs.Common.{arith}
use Rattle.std.proofs.lemmas.Grind.{common_steps}
use Rattle.hir_lower_builder.specs.Forms.{field_form}
use Rattle.hir_lower_expr.proofs.records.named_field.Goals as goal

pub returns : goal.returns
unfolding field_form
returns g c = grind (arith, common_steps)
