use Rattle.std.proofs.lemmas.Grind.{common_steps}
use Rattle.std.proofs.Common.{arith}
use Rattle.json_nodes.specs.declared.part.AnyOf.TheVariants as part
use Rattle.lower_json.proofs.Firsts.{made}
use Rattle.lower_json.proofs.sorts.type_part.Goals as goal

pub returns : goal.returns
returns g c = made part.Type_ c.in_ok-of_type.ensures

pub returns-in_err-of_type : goal.returns-in_err-of_type
returns-in_err-of_type g c = rw c.from_residual.ensures (made part.Type_ c.in_err-of_type.ensures)

pub of_type-requires : goal.of_type-requires
of_type-requires g c = grind (arith, common_steps)
