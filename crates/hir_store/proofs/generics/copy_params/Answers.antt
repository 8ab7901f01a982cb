use Rattle.std.proofs.lemmas.Grind.{common_steps}
use Rattle.std.proofs.Common.{arith}
use Rattle.hir_store.proofs.Copies.{same_params}
use Rattle.hir_store.proofs.generics.copy_params.Goals as goal

pub returns : goal.returns
returns c = grind (arith, common_steps, same_params)
