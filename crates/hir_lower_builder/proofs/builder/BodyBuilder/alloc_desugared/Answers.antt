use Rattle.std.proofs.lemmas.Grind.{common_steps}
use Rattle.std.proofs.Common.{arith}
use Rattle.hir_lower_builder.specs.Lowering.{alloc_desugared}
use Rattle.hir_lower_builder.proofs.builder.BodyBuilder.alloc_desugared.Goals as goal

pub returns : goal.returns
unfolding alloc_desugared
returns g c = grind (arith, common_steps)
