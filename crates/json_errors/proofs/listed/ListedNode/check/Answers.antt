use Rattle.std.proofs.Common.{arith}
use Rattle.json_errors.proofs.Sides.{is_object}
use Rattle.json_errors.proofs.listed.ListedNode.check.Goals as goal

pub returns-clause-walks : goal.returns-clause-walks
returns-clause-walks c = grind (arith, is_object)
