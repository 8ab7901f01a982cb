use Rattle.std.proofs.Common.{arith}
use Rattle.std.proofs.lemmas.Grind.{common_steps}
use Rattle.json_errors.proofs.value.are_parts.Goals as goal

pub loop-item-preserved : goal.loop-item-preserved
loop-item-preserved c = grind (arith, common_steps)

pub returns-then-not-is_part : goal.returns-then-not-is_part
returns-then-not-is_part c = grind (arith, common_steps)

pub returns : goal.returns
returns c = grind (arith, common_steps)
