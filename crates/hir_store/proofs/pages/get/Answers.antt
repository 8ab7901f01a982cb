use Rattle.std.proofs.lemmas.Grind.{common_steps}
use Rattle.std.proofs.Common.{arith}
use Rattle.hir_store.proofs.PageLemmas.{get_joined}
use Rattle.hir_store.proofs.pages.get.Goals as goal

pub returns : goal.returns
returns g c = grind (arith, common_steps, get_joined)
