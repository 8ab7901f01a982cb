use Rattle.std.proofs.lemmas.Grind.{common_steps}
use Rattle.std.proofs.Common.{arith}
use Rattle.json_nodes.proofs.generics.binder.Goals as goal

pub field-requires : goal.field-requires
field-requires g c = grind (arith, common_steps)

pub returns-else-has_binder : goal.returns-else-has_binder
returns-else-has_binder g c = grind (arith, common_steps)

pub returns-then-has_binder : goal.returns-then-has_binder
returns-then-has_binder g c = grind (arith, common_steps)
