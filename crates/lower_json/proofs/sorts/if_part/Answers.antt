use Rattle.std.proofs.lemmas.Grind.{common_steps}
use Rattle.std.proofs.Common.{arith}
use Rattle.json_nodes.specs.declared.part.AnyOf.TheVariants as part
use Rattle.lower_json.proofs.Firsts.{made}
use Rattle.lower_json.proofs.sorts.if_part.Goals as goal

pub returns : goal.returns
returns g c = made part.Expr c.in_ok-of_if.ensures

pub returns-in_err-of_if : goal.returns-in_err-of_if
returns-in_err-of_if g c = rw c.from_residual.ensures (made part.Expr c.in_err-of_if.ensures)

pub of_if-requires : goal.of_if-requires
of_if-requires g c = grind (arith, common_steps)
