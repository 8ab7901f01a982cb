use Rattle.std.proofs.lemmas.Grind.{common_steps}
use Rattle.std.proofs.Common.{arith}
use Rattle.hir_store.proofs.visit.visit_uses.Goals as goal

pub loop-left-preserved : goal.loop-left-preserved
loop-left-preserved g c = grind (arith, common_steps)

pub loop-left-preserved-in-Name : goal.loop-left-preserved-in-Name
loop-left-preserved-in-Name g c = grind (arith, common_steps)

pub returns : goal.returns
returns g c = grind (arith, common_steps)
