use Rattle.std.proofs.lemmas.Grind.{common_steps}
use Rattle.std.proofs.Common.{arith}
use Rattle.hir_store.proofs.Past.{statements_push}
use Rattle.hir_store.proofs.lists.push_statement.Goals as goal

pub returns-clause-past : goal.returns-clause-past
returns-clause-past c = grind (arith, common_steps, statements_push)

pub returns-clause-statements : goal.returns-clause-statements
returns-clause-statements c = grind (arith, common_steps, statements_push)
