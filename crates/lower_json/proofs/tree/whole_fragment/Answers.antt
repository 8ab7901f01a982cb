use Rattle.std.proofs.lemmas.Grind.{common_steps}
use Rattle.std.proofs.Common.{arith}
use Rattle.lower_json.proofs.tree.whole_fragment.Goals as goal

pub returns-then-not-refused : goal.returns-then-not-refused
returns-then-not-refused g c = grind (arith, common_steps)

pub returns : goal.returns
returns g c = grind (arith, common_steps)

pub fragment_of-fragment-requires : goal.fragment_of-fragment-requires
fragment_of-fragment-requires g c = grind (arith, common_steps)
