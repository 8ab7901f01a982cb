use Rattle.std.proofs.lemmas.Grind.{common_steps}
use Rattle.std.proofs.Common.{arith}
use Rattle.hir_lower.specs.Formals.{behind_self}
use Rattle.hir_lower.proofs.coroutine_functions.behind_self.Goals as goal

pub returns : goal.returns
unfolding behind_self
returns g c = grind (arith, common_steps)

pub returns-in_err-written : goal.returns-in_err-written
unfolding behind_self
returns-in_err-written g c = grind (arith, common_steps)

pub owned_in_function-requires : goal.owned_in_function-requires
unfolding behind_self
owned_in_function-requires g c = grind (arith, common_steps)

pub returns-in_err-formals : goal.returns-in_err-formals
unfolding behind_self
returns-in_err-formals g c = grind (arith, common_steps)
