use Rattle.std.proofs.Common.{arith}
use Rattle.std.proofs.lemmas.Grind.{common_steps}
use Rattle.hir_lower_builder.specs.Forms.{list_form}
use Rattle.hir_lower_expr.proofs.lists.array_form.Goals as goal

pub returns : goal.returns
unfolding list_form
returns g c = grind (arith, common_steps)
