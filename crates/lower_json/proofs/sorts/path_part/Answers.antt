use Rattle.std.proofs.lemmas.Grind.{common_steps}
use Rattle.std.proofs.Common.{arith}
use Rattle.json_nodes.specs.declared.part.AnyOf.TheVariants as part
use Rattle.lower_json.proofs.Firsts.{made}
use Rattle.lower_json.proofs.sorts.path_part.Goals as goal

pub returns : goal.returns
returns g c = made part.Path c.in_ok-of_path_part.ensures

pub returns-in_err-of_path_part : goal.returns-in_err-of_path_part
returns-in_err-of_path_part g c = rw c.from_residual.ensures (made part.Path c.in_err-of_path_part.ensures)

pub of_path_part-requires : goal.of_path_part-requires
of_path_part-requires g c = grind (arith, common_steps)
