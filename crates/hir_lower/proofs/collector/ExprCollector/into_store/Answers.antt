use Rattle.std.proofs.lemmas.Grind.{common_steps}
use Rattle.std.proofs.Common.{arith}
use Rattle.hir_lower.proofs.collector.ExprCollector.into_store.Goals as goal

pub returns-clause-definitions : goal.returns-clause-definitions
returns-clause-definitions g c = grind (arith, common_steps)
