use Rattle.std.proofs.lemmas.Grind.{common_steps}
use Rattle.std.proofs.Common.{arith}
use Rattle.hir_store.proofs.path.NormalPath.copy.Goals as goal

pub returns : goal.returns
returns c = grind (arith, common_steps)
