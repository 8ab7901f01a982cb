use Rattle.std.proofs.lemmas.Grind.{common_steps}
use Rattle.std.proofs.Common.{arith}
use Rattle.hir_lower_builder.proofs.Ribs.{try_exists}
use Rattle.hir_lower_builder.specs.Lowering.{try_target}
use Rattle.hir_lower_builder.proofs.builder.BodyBuilder.try_target.Goals as goal

pub returns : goal.returns
unfolding try_target
returns g c = grind (arith, common_steps, try_exists)
