use Rattle.std.proofs.lemmas.Grind.{common_steps}
use Rattle.std.proofs.Common.{arith}
use Rattle.hir_store.proofs.Past.{join_assoc}
use Rattle.hir_lower_builder.proofs.walk.PathWalk.named.Goals as goal

pub returns-clause-past : goal.returns-clause-past
returns-clause-past c = grind (arith, common_steps, join_assoc)

pub returns-clause-value : goal.returns-clause-value
returns-clause-value c = grind (arith, common_steps, join_assoc)
