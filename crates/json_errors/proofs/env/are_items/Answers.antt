use Rattle.std.proofs.Common.{arith}
use Rattle.std.proofs.lemmas.Grind.{common_steps}
use Rattle.json_errors.proofs.env.are_items.Goals as goal

pub returns : goal.returns
returns c = grind (arith, common_steps)

pub loop-name-preserved : goal.loop-name-preserved
loop-name-preserved c = grind (arith, common_steps)

pub returns-then-not-item_if_there : goal.returns-then-not-item_if_there
returns-then-not-item_if_there c = grind (arith, common_steps)
