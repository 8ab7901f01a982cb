use Rattle.std.proofs.lemmas.Grind.{common_steps}
use Rattle.std.proofs.Common.{arith}
use Rattle.lower_json.specs.Reading.{alias_at}
use Rattle.lower_json.proofs.tree.alias_at.Goals as goal

pub type_alias-requires-clause-nodes : goal.type_alias-requires-clause-nodes
unfolding alias_at
type_alias-requires-clause-nodes c = grind (arith, common_steps)

pub returns-then-not-is_alias : goal.returns-then-not-is_alias
unfolding alias_at
returns-then-not-is_alias c = grind (arith, common_steps)

pub returns-in_default : goal.returns-in_default
unfolding alias_at
returns-in_default c = grind (arith, common_steps)

pub type_alias-requires-clause-node : goal.type_alias-requires-clause-node
unfolding alias_at
type_alias-requires-clause-node c = grind (arith, common_steps)

pub returns : goal.returns
unfolding alias_at
returns c = grind (arith, common_steps)
