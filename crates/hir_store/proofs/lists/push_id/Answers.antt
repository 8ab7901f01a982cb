use Rattle.std.proofs.lemmas.Grind.{common_steps}
use Rattle.std.proofs.Common.{arith}
use Rattle.hir_store.proofs.Arenas.{past_push}
use Rattle.hir_store.proofs.lists.push_id.Goals as goal

pub returns-clause-past : goal.returns-clause-past
returns-clause-past c = grind (arith, common_steps, past_push)
