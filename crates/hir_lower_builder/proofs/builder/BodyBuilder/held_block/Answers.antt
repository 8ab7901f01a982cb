use Rattle.std.proofs.lemmas.Grind.{common_steps}
use Rattle.std.proofs.Common.{arith}
use Rattle.hir_lower_builder.proofs.builder.BodyBuilder.held_block.Goals as goal

pub returns : goal.returns
returns c = grind (arith, common_steps)
