use Rattle.std.proofs.lemmas.Grind.{common_steps}
use Rattle.std.proofs.Common.{arith}
use Rattle.hir_lower.proofs.body.finished.Goals as goal

pub returns-in-Ok-clause-in_range : goal.returns-in-Ok-clause-in_range
returns-in-Ok-clause-in_range c = grind (arith, common_steps)

pub returns-in-Ok-clause-source_map : goal.returns-in-Ok-clause-source_map
returns-in-Ok-clause-source_map c = grind (arith, common_steps)

pub returns-in-Ok-clause-store : goal.returns-in-Ok-clause-store
returns-in-Ok-clause-store c = grind (arith, common_steps)
