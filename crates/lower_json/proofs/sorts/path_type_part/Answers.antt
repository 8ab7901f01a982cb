use Rattle.std.proofs.lemmas.Grind.{common_steps}
use Rattle.std.proofs.Common.{arith}
use Rattle.json_nodes.specs.declared.part.AnyOf.TheVariants as part
use Rattle.lower_json.proofs.Firsts.{made}
use Rattle.lower_json.proofs.sorts.path_type_part.Goals as goal

pub returns : goal.returns
returns g c = made part.Type_ c.in_ok-of_path_type.ensures

pub returns-in_err-of_path_type : goal.returns-in_err-of_path_type
returns-in_err-of_path_type g c = rw c.from_residual.ensures (made part.Type_ c.in_err-of_path_type.ensures)

pub of_path_type-requires : goal.of_path_type-requires
of_path_type-requires g c = grind (arith, common_steps)
