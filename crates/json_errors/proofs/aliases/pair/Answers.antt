use Rattle.std.proofs.Common.{arith}
use Rattle.std.proofs.lemmas.Grind.{common_steps}
use Rattle.json_errors.proofs.AliasPairs.{alias_too_short, alias_too_long}
use Rattle.json_errors.proofs.aliases.pair.Goals as goal

pub returns-else-is_some-clause-uses : goal.returns-else-is_some-clause-uses
returns-else-is_some-clause-uses c = grind (arith, common_steps)

pub returns-in_default-2-clause-uses : goal.returns-in_default-2-clause-uses
returns-in_default-2-clause-uses c = grind (arith, alias_too_short, alias_too_long)

pub returns-in_default-clause-uses : goal.returns-in_default-clause-uses
returns-in_default-clause-uses c = grind (arith, alias_too_short, alias_too_long)

pub returns-then-is_some-clause-uses : goal.returns-then-is_some-clause-uses
returns-then-is_some-clause-uses c = grind (arith, common_steps)
