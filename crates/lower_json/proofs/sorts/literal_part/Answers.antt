use Rattle.json_nodes.specs.declared.part.AnyOf.TheVariants as part
use Rattle.lower_json.proofs.Firsts.{made}
use Rattle.lower_json.proofs.sorts.literal_part.Goals as goal

pub returns : goal.returns
returns g c = made part.Expr c.in_ok-of_literal.ensures

pub returns-in_err-of_literal : goal.returns-in_err-of_literal
returns-in_err-of_literal g c = rw c.from_residual.ensures (made part.Expr c.in_err-of_literal.ensures)
