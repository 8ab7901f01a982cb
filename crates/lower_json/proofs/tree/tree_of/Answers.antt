use Rattle.std.proofs.lemmas.Grind.{common_steps}
use Rattle.std.proofs.Common.{arith}
use Rattle.lower_json.proofs.tree.tree_of.Goals as goal

pub boxed-pat-requires : goal.boxed-pat-requires
boxed-pat-requires g c = grind (arith, common_steps)

pub path-requires : goal.path-requires
path-requires g c = grind (arith, common_steps)

pub returns-in-Pat : goal.returns-in-Pat
returns-in-Pat g c = grind (arith, common_steps)

pub returns-in-Path : goal.returns-in-Path
returns-in-Path g c = grind (arith, common_steps)

pub one_of-requires : goal.one_of-requires
one_of-requires g c = grind (arith, common_steps)

pub returns-in-Type_ : goal.returns-in-Type_
returns-in-Type_ g c = grind (arith, common_steps)

pub returns-in-Fn : goal.returns-in-Fn
returns-in-Fn g c = grind (arith, common_steps)

pub function-requires-clause-nodes : goal.function-requires-clause-nodes
function-requires-clause-nodes g c = grind (arith, common_steps)

pub function-requires-clause-node : goal.function-requires-clause-node
function-requires-clause-node g c = grind (arith, common_steps)
