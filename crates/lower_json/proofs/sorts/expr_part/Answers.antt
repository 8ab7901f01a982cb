use Rattle.std.proofs.lemmas.Grind.{common_steps}
use Rattle.std.proofs.Common.{arith}
use Rattle.json_nodes.specs.declared.part.AnyOf.TheVariants as part
use Rattle.lower_json.proofs.Firsts.{made}
use Rattle.lower_json.proofs.sorts.expr_part.Goals as goal

pub returns : goal.returns
returns g c = made part.Expr c.in_ok-of_expr.ensures

pub returns-in_err-of_expr : goal.returns-in_err-of_expr
returns-in_err-of_expr g c = rw c.from_residual.ensures (made part.Expr c.in_err-of_expr.ensures)

pub of_expr-requires : goal.of_expr-requires
of_expr-requires g c = grind (arith, common_steps)
