use Rattle.std.proofs.Common.{arith}
use Rattle.std.proofs.lemmas.Grind.{common_steps}
use Rattle.hir_lower_builder.specs.Pats.{over_pat_form}
use Rattle.hir_lower_bind.proofs.pats.ref_form.Goals as goal

pub returns : goal.returns
unfolding over_pat_form
returns g c = grind (arith, common_steps)
