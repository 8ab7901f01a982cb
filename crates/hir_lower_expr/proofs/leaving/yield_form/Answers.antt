use Rattle.std.proofs.Common.{arith}
use Rattle.std.proofs.lemmas.Grind.{common_steps}
use Rattle.hir_lower_builder.specs.Forms.{yield_form}
use Rattle.hir_lower_expr.proofs.leaving.yield_form.Goals as goal

pub returns : goal.returns
unfolding yield_form
returns g c = grind (arith, common_steps)
