use Rattle.std.proofs.Common.{arith}
use Rattle.std.proofs.lemmas.Grind.{common_steps}
use Rattle.json_errors.proofs.floats.+floats.Goals as goal

pub items_have_float-returns : goal.items_have_float-returns
items_have_float-returns c = grind (arith, common_steps)

pub items_have_float-loop-item-preserved : goal.items_have_float-loop-item-preserved
items_have_float-loop-item-preserved c = grind (arith, common_steps)

pub items_have_float-returns-then-has_float : goal.items_have_float-returns-then-has_float
items_have_float-returns-then-has_float c = grind (arith, common_steps)
