use Rattle.std.proofs.lemmas.Grind.{common_steps}
use Rattle.std.proofs.Common.{arith}
use Rattle.hir_lower.proofs.collector.add_param.Goals as goal

pub returns-clause-owners : goal.returns-clause-owners
returns-clause-owners c = grind (arith, common_steps)

pub returns-clause-names : goal.returns-clause-names
returns-clause-names c = grind (arith, common_steps)

pub returns-clause-within : goal.returns-clause-within
returns-clause-within c = grind (arith, common_steps)

pub returns-clause-no_room : goal.returns-clause-no_room
returns-clause-no_room c = grind (arith, common_steps)

pub returns-clause-adds : goal.returns-clause-adds
returns-clause-adds c = grind (arith, common_steps)

pub returns-clause-tracks : goal.returns-clause-tracks
returns-clause-tracks c = grind (arith, common_steps)
