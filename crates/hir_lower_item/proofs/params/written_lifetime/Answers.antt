use Rattle.std.proofs.lemmas.Grind.{common_steps}
use Rattle.std.proofs.Common.{arith}
use Rattle.hir_lower_item.proofs.params.written_lifetime.Goals as goal

pub returns-in_err-id : goal.returns-in_err-id
returns-in_err-id g c = grind (arith, common_steps)

pub returns-in_default : goal.returns-in_default
returns-in_default g c = grind (arith, common_steps)

pub returns-in_err-add_lifetime_param : goal.returns-in_err-add_lifetime_param
returns-in_err-add_lifetime_param g c = grind (arith, common_steps)

pub returns : goal.returns
returns g c = grind (arith, common_steps)
