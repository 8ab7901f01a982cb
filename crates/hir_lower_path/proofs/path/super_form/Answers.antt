use Rattle.std.proofs.Common.{arith}
use Rattle.std.proofs.lemmas.Grind.{common_steps}
use Rattle.hir_lower_builder.specs.Lowering.{count_out}
use Rattle.hir_lower_builder.proofs.Walked.{super_has}
use Rattle.hir_lower_path.proofs.path.super_form.Goals as goal

pub returns-in-Some : goal.returns-in-Some
unfolding count_out
returns-in-Some g c = grind (arith, common_steps, super_has)
