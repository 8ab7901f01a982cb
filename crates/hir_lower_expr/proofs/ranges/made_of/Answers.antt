use Rattle.std.proofs.Common.{arith}
use Rattle.std.proofs.lemmas.Grind.{common_steps}
use Rattle.hir_lower_expr.proofs.ranges.made_of.Goals as goal

pub returns-in_ok-fields-in-Record : goal.returns-in_ok-fields-in-Record
returns-in_ok-fields-in-Record g c = grind (arith, common_steps)
