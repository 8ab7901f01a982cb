use Rattle.std.proofs.Common.{arith}
use Rattle.std.proofs.lemmas.Grind.{common_steps}
use Rattle.json_errors.proofs.listed.ListedNode.fields.Goals as goal

pub returns-clause-walks : goal.returns-clause-walks
returns-clause-walks c = grind (arith, common_steps)

pub loop-field-preserved : goal.loop-field-preserved
loop-field-preserved c = grind (arith, common_steps)

pub returns-in_err-field-clause-walks : goal.returns-in_err-field-clause-walks
returns-in_err-field-clause-walks c = grind (arith, common_steps)
