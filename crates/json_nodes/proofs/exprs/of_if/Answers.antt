use Rattle.std.proofs.lemmas.Grind.{common_steps}
use Rattle.std.proofs.Common.{arith}
use Rattle.json_nodes.proofs.exprs.of_if.Goals as goal

pub returns-in_err-expr : goal.returns-in_err-expr
returns-in_err-expr g c = grind (arith, common_steps)

pub if_expr-requires : goal.if_expr-requires
if_expr-requires g c = c.requires
