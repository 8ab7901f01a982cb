use Rattle.std.proofs.Common.{rules}
use Rattle.hir_lower.proofs.collector.ExprCollector.store.Goals as goal

pub returns-clause-in_range : goal.returns-clause-in_range
returns-clause-in_range g c = search rules
