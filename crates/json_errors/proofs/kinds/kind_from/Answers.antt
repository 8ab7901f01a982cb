use Rattle.std.proofs.Common.{arith}
use Rattle.std.proofs.lemmas.Grind.{common_steps}
use Rattle.json_errors.proofs.kinds.kind_from.Goals as goal

pub returns-in_err-as_str : goal.returns-in_err-as_str
returns-in_err-as_str c = grind (arith, common_steps)

pub returns : goal.returns
returns c = grind (arith, common_steps)
