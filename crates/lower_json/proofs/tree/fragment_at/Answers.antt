use Rattle.std.proofs.lemmas.Grind.{common_steps}
use Rattle.std.proofs.Common.{arith}
use Rattle.lower_json.specs.Reading.{fragment_at}
use Rattle.lower_json.proofs.tree.fragment_at.Goals as goal

pub returns-in_default : goal.returns-in_default
unfolding fragment_at
returns-in_default c = grind (arith, common_steps)

pub returns : goal.returns
unfolding fragment_at
returns c = grind (arith, common_steps)

pub whole_fragment-requires : goal.whole_fragment-requires
unfolding fragment_at
whole_fragment-requires c = grind (arith, common_steps)

pub returns-in_default-kind_at : goal.returns-in_default-kind_at
unfolding fragment_at
returns-in_default-kind_at c = grind (arith, common_steps)
