use Rattle.std.proofs.lemmas.Grind.{common_steps}
use Rattle.std.proofs.Common.{arith}
use Rattle.json_nodes.specs.declared.part.AnyOf.TheVariants as part
use Rattle.lower_json.proofs.Firsts.{made}
use Rattle.lower_json.proofs.sorts.stmt_part.Goals as goal

pub returns : goal.returns
returns g c = made part.Code c.in_ok-of_stmt.ensures

pub returns-in_err-of_stmt : goal.returns-in_err-of_stmt
returns-in_err-of_stmt g c = rw c.from_residual.ensures (made part.Code c.in_err-of_stmt.ensures)

pub of_stmt-requires : goal.of_stmt-requires
of_stmt-requires g c = grind (arith, common_steps)
