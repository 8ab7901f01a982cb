use Rattle.std.proofs.lemmas.Grind.{common_steps}
use Rattle.std.proofs.Common.{rules, arith}
use Rattle.hir_lower_builder.specs.Types.{ref_type_form}
use Rattle.hir_lower_type.proofs.simple.ref_form.Goals as goal

pub returns : goal.returns
unfolding ref_type_form
returns g c = search rules

pub returns-in_err-lifetime : goal.returns-in_err-lifetime
unfolding ref_type_form
returns-in_err-lifetime g c = grind (arith, common_steps)
