use Rattle.std.proofs.lemmas.Grind.{common_steps}
use Rattle.std.proofs.Common.{arith}
use Rattle.hir_store.proofs.pointers.PointerMap.get.Goals as goal

pub returns-in_err-value : goal.returns-in_err-value
returns-in_err-value g c = grind (arith, common_steps)

pub returns : goal.returns
returns g c = grind (arith, common_steps)
