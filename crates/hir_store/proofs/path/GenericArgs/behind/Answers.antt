use Rattle.std.proofs.lemmas.Grind.{common_steps}
use Rattle.std.proofs.Common.{arith}
use Rattle.hir_store.proofs.Past.{self_before_past}
use Rattle.hir_store.proofs.path.GenericArgs.behind.Goals as goal

pub returns-clause-past : goal.returns-clause-past
returns-clause-past c = grind (arith, common_steps, self_before_past)

pub returns-clause-value : goal.returns-clause-value
returns-clause-value c = grind (arith, common_steps, self_before_past)
