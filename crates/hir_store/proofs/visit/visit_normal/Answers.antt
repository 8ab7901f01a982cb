use Rattle.std.proofs.lemmas.Grind.{common_steps}
use Rattle.std.proofs.Common.{arith}
use Rattle.hir_store.proofs.Handed.{handed_append}
use Rattle.hir_store.proofs.visit.visit_normal.Goals as goal

pub returns : goal.returns
returns g c = grind (arith, common_steps, handed_append)
