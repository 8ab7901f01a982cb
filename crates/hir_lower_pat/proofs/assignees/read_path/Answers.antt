use Rattle.std.proofs.Common.{arith}
use Rattle.std.proofs.lemmas.Grind.{common_steps}
use Rattle.hir_lower_pat.proofs.assignees.read_path.Goals as goal

pub returns-in-Some : goal.returns-in-Some
returns-in-Some g c = grind (arith, common_steps)

pub returns-in_ok-id-in-None : goal.returns-in_ok-id-in-None
returns-in_ok-id-in-None g c = grind (arith, common_steps)

pub path_form-requires : goal.path_form-requires
path_form-requires g c = grind (arith, common_steps)
