use Rattle.std.proofs.Common.{arith}
use Rattle.json_errors.proofs.Sides.{kind_behind}
use Rattle.json_errors.proofs.kinds.add.Goals as goal

pub returns-clause-kind : goal.returns-clause-kind
returns-clause-kind c = grind (arith, kind_behind)
