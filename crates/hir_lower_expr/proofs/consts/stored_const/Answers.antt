use Rattle.std.proofs.Common.{arith}
use Rattle.std.proofs.lemmas.Grind.{common_steps}
use Rattle.hir_lower_builder.specs.Forms.{const_form}
use Rattle.hir_lower_expr.proofs.consts.stored_const.Goals as goal

pub returns : goal.returns
unfolding const_form
returns g c = grind (arith, common_steps)
