use Rattle.std.proofs.Common.{arith}
use Rattle.std.proofs.lemmas.Grind.{common_steps}
use Rattle.hir_lower_builder.specs.Pats.{elements_form}
use Rattle.hir_lower_bind.proofs.tuples.stored_elements.Goals as goal

pub returns : goal.returns
unfolding elements_form
returns g c = grind (arith, common_steps)
