use Rattle.std.proofs.lemmas.Grind.{common_steps}
use Rattle.std.proofs.Common.{arith}
use Rattle.hir_store.proofs.sourced.SourcedArena.split.Goals as goal

pub returns-clause-entries : goal.returns-clause-entries
returns-clause-entries g c = grind (arith, common_steps)

pub returns-clause-map : goal.returns-clause-map
returns-clause-map g c = grind (arith, common_steps)
