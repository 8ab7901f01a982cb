use Rattle.std.proofs.Common.{arith}
use Rattle.std.proofs.lemmas.Grind.{common_steps}
use Rattle.json_errors.proofs.expansions.entries.Goals as goal

pub returns-then-not-entry-clause-walks : goal.returns-then-not-entry-clause-walks
returns-then-not-entry-clause-walks c = grind (arith, common_steps)

pub loop-item-preserved : goal.loop-item-preserved
loop-item-preserved c = grind (arith, common_steps)
