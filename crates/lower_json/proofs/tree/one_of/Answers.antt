use Rattle.std.proofs.lemmas.Grind.{common_steps}
use Rattle.std.proofs.Common.{arith}
use Rattle.lower_json.proofs.tree.one_of.Goals as goal

pub returns-in_err-part : goal.returns-in_err-part
returns-in_err-part g c = grind (arith, common_steps)

pub returns : goal.returns
returns g c = grind (arith, common_steps)

pub returns-in_err-kind : goal.returns-in_err-kind
returns-in_err-kind g c = grind (arith, common_steps)

pub of_kind-requires : goal.of_kind-requires
of_kind-requires g c = grind (arith, common_steps)
