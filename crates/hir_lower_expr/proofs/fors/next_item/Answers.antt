use Rattle.std.proofs.lemmas.Grind.{common_steps}
use Rattle.std.proofs.Common.{arith}
use Rattle.hir_lower_builder.specs.Made.{next_form}
use Rattle.hir_lower_expr.proofs.fors.next_item.Goals as goal

pub returns : goal.returns
unfolding next_form
returns g c = grind (arith, common_steps)
