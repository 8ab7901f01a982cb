use Rattle.std.proofs.Common.{arith}
use Rattle.std.proofs.lemmas.Grind.{common_steps}
use Rattle.hir_lower_bind.proofs.target_arrays.rest.Goals as goal

pub returns-in_ok-alloc_target-in-Some : goal.returns-in_ok-alloc_target-in-Some
returns-in_ok-alloc_target-in-Some g c = grind (arith, common_steps)
