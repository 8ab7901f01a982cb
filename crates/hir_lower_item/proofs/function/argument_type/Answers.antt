use Rattle.std.proofs.lemmas.Grind.{common_steps}
use Rattle.std.proofs.Common.{arith}
use Rattle.hir_lower_item.proofs.function.argument_type.Goals as goal

pub returns-in_ok-type_or_error-in-Ok : goal.returns-in_ok-type_or_error-in-Ok
returns-in_ok-type_or_error-in-Ok g c = grind (arith, common_steps)

pub returns-then-node : goal.returns-then-node
returns-then-node g c = grind (arith, common_steps)

pub returns-in-Err : goal.returns-in-Err
returns-in-Err g c = grind (arith, common_steps)
