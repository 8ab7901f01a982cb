use Rattle.std.proofs.Common.{arith}
use Rattle.std.proofs.lemmas.Grind.{common_steps}
use Rattle.json_errors.proofs.levels.use_each.Goals as goal

pub returns-then-not-use_one-clause-uses : goal.returns-then-not-use_one-clause-uses
returns-then-not-use_one-clause-uses c = grind (arith, common_steps)

pub loop-item-preserved : goal.loop-item-preserved
loop-item-preserved c = grind (arith, common_steps)
