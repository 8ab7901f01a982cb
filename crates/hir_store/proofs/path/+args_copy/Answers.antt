use Rattle.std.proofs.lemmas.Grind.{common_steps}
use Rattle.std.proofs.Common.{arith}
use Rattle.hir_store.proofs.path.+args_copy.Goals as goal

pub copy_bindings-returns : goal.copy_bindings-returns
copy_bindings-returns t c = grind (arith, common_steps)

pub copy_bindings-loop-binding-preserved : goal.copy_bindings-loop-binding-preserved
copy_bindings-loop-binding-preserved t c = grind (arith, common_steps)
