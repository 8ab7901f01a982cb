use Rattle.std.proofs.Common.{arith}
use Rattle.std.proofs.lemmas.Grind.{common_steps}
use Rattle.hir_lower_expr.proofs.blocks.block_node.Goals as goal

pub returns-in-Coroutine : goal.returns-in-Coroutine
returns-in-Coroutine g c = grind (arith, common_steps)

pub coroutine_node-requires : goal.coroutine_node-requires
coroutine_node-requires g c = grind (arith, common_steps)

pub returns-in-Try : goal.returns-in-Try
returns-in-Try g c = grind (arith, common_steps)

pub plain_node-requires-clause-parts : goal.plain_node-requires-clause-parts
plain_node-requires-clause-parts g c = grind (arith, common_steps)

pub try_node-requires : goal.try_node-requires
try_node-requires g c = grind (arith, common_steps)

pub plain_node-requires-clause-label : goal.plain_node-requires-clause-label
plain_node-requires-clause-label g c = grind (arith, common_steps)

pub returns-in-Plain : goal.returns-in-Plain
returns-in-Plain g c = grind (arith, common_steps)
