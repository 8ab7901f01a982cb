use Rattle.std.proofs.lemmas.Grind.{common_steps}
use Rattle.std.proofs.Common.{arith}
use Rattle.json_nodes.specs.declared.part.AnyOf.TheVariants as part
use Rattle.lower_json.proofs.Firsts.{made}
use Rattle.lower_json.proofs.sorts.pat_part.Goals as goal

pub returns : goal.returns
returns g c = made part.Pat c.in_ok-of_pat.ensures

pub returns-in_err-of_pat : goal.returns-in_err-of_pat
returns-in_err-of_pat g c = rw c.from_residual.ensures (made part.Pat c.in_err-of_pat.ensures)

pub of_pat-requires : goal.of_pat-requires
of_pat-requires g c = grind (arith, common_steps)
