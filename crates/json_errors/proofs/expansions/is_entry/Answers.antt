use Rattle.std.proofs.Common.{arith}
use Rattle.std.proofs.lemmas.Grind.{common_steps}
use Rattle.json_errors.proofs.Entries.{entry_too_short, entry_too_long}
use Rattle.json_errors.proofs.expansions.is_entry.Goals as goal

pub returns-else-is_some : goal.returns-else-is_some
returns-else-is_some c = grind (arith, common_steps)

pub returns-in_default-2 : goal.returns-in_default-2
returns-in_default-2 c = grind (arith, entry_too_short, entry_too_long)

pub returns-else-is_site : goal.returns-else-is_site
returns-else-is_site c = grind (arith, common_steps)

pub returns-else-says : goal.returns-else-says
returns-else-says c = grind (arith, common_steps)

pub returns-then-is_site : goal.returns-then-is_site
returns-then-is_site c = grind (arith, common_steps)

pub returns-then-says : goal.returns-then-says
returns-then-says c = grind (arith, common_steps)

pub returns-in_default : goal.returns-in_default
returns-in_default c = grind (arith, entry_too_short, entry_too_long)

pub returns-then-is_some : goal.returns-then-is_some
returns-then-is_some c = grind (arith, common_steps)
