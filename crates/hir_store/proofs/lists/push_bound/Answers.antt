use Rattle.std.proofs.lemmas.Grind.{common_steps}
use Rattle.std.proofs.Common.{arith}
use Rattle.hir_store.proofs.Past.{bounds_push}
use Rattle.hir_store.proofs.lists.push_bound.Goals as goal

pub returns-clause-past : goal.returns-clause-past
returns-clause-past c = grind (arith, common_steps, bounds_push)

pub returns-clause-items : goal.returns-clause-items
returns-clause-items c = grind (arith, common_steps, bounds_push)
