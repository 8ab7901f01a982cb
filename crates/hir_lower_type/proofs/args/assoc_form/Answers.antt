use Rattle.std.proofs.Common.{arith}
use Rattle.std.proofs.lemmas.Grind.{common_steps}
use Rattle.hir_lower_type.proofs.args.assoc_form.Goals as goal

pub binding_form-requires : goal.binding_form-requires
binding_form-requires g c = grind (arith, common_steps)

pub returns-in_err-binding_form : goal.returns-in_err-binding_form
returns-in_err-binding_form g c = grind (arith, common_steps)

pub returns-in_default : goal.returns-in_default
returns-in_default g c = grind (arith, common_steps)

pub returns : goal.returns
returns g c = grind (arith, common_steps)
