use Rattle.std.proofs.lemmas.Grind.{common_steps}
use Rattle.std.proofs.Common.{arith}
use Rattle.hir_store.proofs.children.first_named.Goals as goal

pub loop-left-preserved-in-len1-up : goal.loop-left-preserved-in-len1-up
loop-left-preserved-in-len1-up c = grind (arith, common_steps)

pub returns-in-Let-default-default-Some-default : goal.returns-in-Let-default-default-Some-default
returns-in-Let-default-default-Some-default c = grind (arith, common_steps)

pub returns-in-Let-default-default-None-Some : goal.returns-in-Let-default-default-None-Some
returns-in-Let-default-default-None-Some c = grind (arith, common_steps)

pub loop-left-preserved : goal.loop-left-preserved
loop-left-preserved c = grind (arith, common_steps)
