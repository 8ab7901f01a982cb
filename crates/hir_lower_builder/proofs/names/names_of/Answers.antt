use Rattle.std.proofs.lemmas.Grind.{common_steps}
use Rattle.std.proofs.Common.{arith}
use Rattle.hir_lower_builder.proofs.names.names_of.Goals as goal

pub returns : goal.returns
returns c = grind (arith, common_steps)

pub loop-left-preserved : goal.loop-left-preserved
loop-left-preserved c = grind (arith, common_steps)
