use Rattle.std.proofs.lemmas.Grind.{common_steps}
use Rattle.std.proofs.Common.{arith}
use Rattle.hir_store.proofs.Arenas.{past_push}
use Rattle.hir_store.proofs.lists.push_field.Goals as goal

pub returns-clause-fields : goal.returns-clause-fields
returns-clause-fields c = grind (arith, common_steps, past_push)

pub returns-clause-past : goal.returns-clause-past
returns-clause-past c = grind (arith, common_steps, past_push)
