use Rattle.std.proofs.lemmas.Grind.{common_steps}
use Rattle.std.proofs.Common.{arith}
use Rattle.hir_lower_builder.proofs.builder.BodyBuilder.open_try_named.Goals as goal

pub invariant_of-self-in_err-enter_try : goal.invariant_of-self-in_err-enter_try
invariant_of-self-in_err-enter_try g c = grind (arith, common_steps)

pub returns : goal.returns
returns g c = grind (arith, common_steps)
