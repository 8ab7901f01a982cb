use Rattle.std.proofs.lemmas.Grind.{common_steps}
use Rattle.std.proofs.Common.{arith}
use Rattle.lower_json.specs.Reading.{tree_at}
use Rattle.lower_json.proofs.tree.read_tree_at.Goals as goal

pub whole_tree-requires-clause-items : goal.whole_tree-requires-clause-items
unfolding tree_at
whole_tree-requires-clause-items c = grind (arith, common_steps)

pub returns-in-Some : goal.returns-in-Some
unfolding tree_at
returns-in-Some c = grind (arith, common_steps)

pub whole_tree-requires-clause-parts : goal.whole_tree-requires-clause-parts
unfolding tree_at
whole_tree-requires-clause-parts c = grind (arith, common_steps)

pub whole_tree-requires-in-None-clause-items : goal.whole_tree-requires-in-None-clause-items
unfolding tree_at
whole_tree-requires-in-None-clause-items c = grind (arith, common_steps)

pub whole_tree-requires-in-None-clause-parts : goal.whole_tree-requires-in-None-clause-parts
unfolding tree_at
whole_tree-requires-in-None-clause-parts c = grind (arith, common_steps)
