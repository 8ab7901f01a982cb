use Rattle.std.proofs.lemmas.Grind.{common_steps}
use Rattle.std.proofs.Common.{arith}
use Rattle.hir_store.proofs.visit.visit_types.Goals as goal

pub returns : goal.returns
returns g c = grind (arith, common_steps)

pub loop-left-preserved : goal.loop-left-preserved
loop-left-preserved g c = grind (arith, common_steps)
