use Rattle.std.proofs.lemmas.Grind.{common_steps}
use Rattle.std.proofs.Common.{arith}
use Rattle.hir_store.proofs.pages.put.Goals as goal

pub returns-clause-paged : goal.returns-clause-paged
returns-clause-paged g c = grind (arith, common_steps)

pub add_page-requires-clause-empty : goal.add_page-requires-clause-empty
add_page-requires-clause-empty g c = grind (arith, common_steps)
