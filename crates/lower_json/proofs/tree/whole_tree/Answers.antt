use Rattle.std.proofs.lemmas.Grind.{common_steps}
use Rattle.std.proofs.Common.{arith}
use Rattle.lower_json.proofs.tree.whole_tree.Goals as goal

pub tree_of-tree-requires-clause-items : goal.tree_of-tree-requires-clause-items
tree_of-tree-requires-clause-items g c = grind (arith, common_steps)

pub tree_of-tree-requires-clause-node : goal.tree_of-tree-requires-clause-node
tree_of-tree-requires-clause-node g c = grind (arith, common_steps)

pub returns : goal.returns
returns g c = grind (arith, common_steps)
