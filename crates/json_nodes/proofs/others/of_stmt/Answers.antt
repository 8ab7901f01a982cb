use Rattle.std.proofs.lemmas.Grind.{common_steps}
use Rattle.std.proofs.Common.{arith}
use Rattle.json_nodes.proofs.others.of_stmt.Goals as goal

pub statement-kind-requires : goal.statement-kind-requires
statement-kind-requires g c = c.requires

pub returns : goal.returns
returns g c = grind (arith, common_steps)
