use Rattle.std.proofs.lemmas.Grind.{common_steps}
use Rattle.std.proofs.Common.{arith}
use Rattle.hir_store.proofs.visit.+visit.Goals as goal

pub visit_bindings-returns : goal.visit_bindings-returns
visit_bindings-returns t c = grind (arith, common_steps)
