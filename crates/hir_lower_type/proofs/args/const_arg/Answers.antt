use Rattle.std.proofs.lemmas.Grind.{common_steps}
use Rattle.std.proofs.Common.{arith}
use Rattle.hir_lower_type.proofs.args.const_arg.Goals as goal

pub returns : goal.returns
returns g c = grind (arith, common_steps)

pub returns-in_err-constant : goal.returns-in_err-constant
returns-in_err-constant g c = grind (arith, common_steps)
