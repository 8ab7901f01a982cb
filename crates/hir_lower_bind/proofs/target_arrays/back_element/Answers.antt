use Rattle.std.proofs.lemmas.Grind.{common_steps}
use Rattle.std.proofs.Common.{arith}
use Rattle.hir_lower_bind.proofs.target_arrays.back_element.Goals as goal

pub returns-in_err-id : goal.returns-in_err-id
returns-in_err-id g c = grind (arith, common_steps)

pub returns : goal.returns
returns g c = grind (arith, common_steps)
