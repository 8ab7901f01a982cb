use Rattle.std.proofs.lemmas.Grind.{common_steps}
use Rattle.std.proofs.Common.{arith}
use Rattle.hir_store.proofs.Copies.{same_use_args}
use Rattle.hir_store.proofs.type_ref.copy_use_args.Goals as goal

pub returns : goal.returns
returns c = grind (arith, common_steps, same_use_args)
