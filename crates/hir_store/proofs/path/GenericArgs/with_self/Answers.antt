use Rattle.std.proofs.lemmas.Grind.{common_steps}
use Rattle.std.proofs.Common.{arith}
use Rattle.hir_store.proofs.Past.{self_alone_past}
use Rattle.hir_store.proofs.path.GenericArgs.with_self.Goals as goal

pub returns-in-Some-clause-past : goal.returns-in-Some-clause-past
returns-in-Some-clause-past c = grind (arith, common_steps, self_alone_past)

pub returns-in_ok-push-in-None-clause-past : goal.returns-in_ok-push-in-None-clause-past
returns-in_ok-push-in-None-clause-past c = grind (arith, common_steps, self_alone_past)

pub returns-in-Some-clause-value : goal.returns-in-Some-clause-value
returns-in-Some-clause-value c = grind (arith, common_steps, self_alone_past)

pub returns-in_ok-push-in-None-clause-value : goal.returns-in_ok-push-in-None-clause-value
returns-in_ok-push-in-None-clause-value c = grind (arith, common_steps, self_alone_past)
