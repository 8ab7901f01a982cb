use Rattle.std.proofs.Common.{arith}
use Rattle.std.proofs.lemmas.Grind.{common_steps}
use Rattle.json_errors.proofs.Pairs.{too_short, too_long}
use Rattle.json_errors.proofs.value.are_two.Goals as goal

pub returns-in_default : goal.returns-in_default
returns-in_default c = grind (arith, too_short, too_long)

pub returns-in_default-2 : goal.returns-in_default-2
returns-in_default-2 c = grind (arith, too_short, too_long)

pub returns-then-is_some : goal.returns-then-is_some
returns-then-is_some c = grind (arith, common_steps)

pub returns-else-is_some : goal.returns-else-is_some
returns-else-is_some c = grind (arith, common_steps)
