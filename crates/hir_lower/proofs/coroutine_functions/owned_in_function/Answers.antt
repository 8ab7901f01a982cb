use Rattle.std.proofs.lemmas.Grind.{common_steps}
use Rattle.std.proofs.Common.{arith}
use Rattle.hir_lower_builder.specs.Lowering.{owning}
use Rattle.hir_lower.proofs.coroutine_functions.owned_in_function.Goals as goal

pub own-requires : goal.own-requires
unfolding owning
own-requires g c = grind (arith, common_steps)

pub in_function-requires : goal.in_function-requires
unfolding owning
in_function-requires g c = grind (arith, common_steps)

pub returns : goal.returns
unfolding owning
returns g c = grind (arith, common_steps)

pub returns-in_err-inner : goal.returns-in_err-inner
unfolding owning
returns-in_err-inner g c = grind (arith, common_steps)
