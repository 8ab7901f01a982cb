use Rattle.std.proofs.lemmas.Grind.{common_steps}
use Rattle.std.proofs.Common.{arith}
use Rattle.hir_store.proofs.Copies.{same_names}
use Rattle.hir_store.proofs.name.copy_names.Goals as goal

pub returns : goal.returns
returns c = grind (arith, common_steps, same_names)
