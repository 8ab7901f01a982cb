use Rattle.std.proofs.Common.{arith}
use Rattle.std.proofs.lemmas.Grind.{common_steps}
use Rattle.json_errors.proofs.Pairs.{alias_too_short, alias_too_long}
use Rattle.json_errors.proofs.value.is_alias.Goals as goal

pub returns-in_default-2 : goal.returns-in_default-2
returns-in_default-2 c = grind (arith, alias_too_short, alias_too_long)

pub returns-then-is_alias_word : goal.returns-then-is_alias_word
returns-then-is_alias_word c = grind (arith, common_steps)

pub returns-in_default : goal.returns-in_default
returns-in_default c = grind (arith, alias_too_short, alias_too_long)

pub returns-else-is_alias_word : goal.returns-else-is_alias_word
returns-else-is_alias_word c = grind (arith, common_steps)
