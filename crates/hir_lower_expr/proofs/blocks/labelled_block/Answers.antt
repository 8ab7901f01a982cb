use Rattle.std.proofs.Common.{arith}
use Rattle.std.proofs.lemmas.Grind.{common_steps}
use Rattle.hir_lower_builder.specs.Forms.{labelled}
use Rattle.hir_lower_expr.proofs.blocks.labelled_block.Goals as goal

pub returns : goal.returns
unfolding labelled
returns g c = grind (arith, common_steps)
