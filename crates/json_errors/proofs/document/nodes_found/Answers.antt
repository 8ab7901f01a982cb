use Rattle.std.proofs.Common.{arith}
use Rattle.json_errors.proofs.Beside.{float_beside, none_beside}
use Rattle.json_errors.proofs.document.nodes_found.Goals as goal

pub returns-clause-whole : goal.returns-clause-whole
returns-clause-whole c = grind (arith, float_beside, none_beside)
