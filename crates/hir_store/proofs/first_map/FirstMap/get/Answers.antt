use Rattle.std.proofs.lemmas.Grind.{common_steps}
use Rattle.std.proofs.Common.{arith}
use Rattle.hir_store.proofs.first_map.FirstMap.get.Goals as goal

pub returns : goal.returns
returns g c = grind (arith, common_steps)

pub returns-in_err-answer : goal.returns-in_err-answer
returns-in_err-answer g c = grind (arith, common_steps)
