use Rattle.std.proofs.Common.{arith}
use Rattle.std.proofs.lemmas.Grind.{common_steps}
use Rattle.hir_lower_builder.specs.Types.{binding_form}
use Rattle.hir_lower_type.proofs.args.binding_form.Goals as goal

pub args_if_present-requires : goal.args_if_present-requires
unfolding binding_form
args_if_present-requires g c = grind (arith, common_steps)

pub lower-requires : goal.lower-requires
unfolding binding_form
lower-requires g c = grind (arith, common_steps)

pub type_if_present-requires : goal.type_if_present-requires
unfolding binding_form
type_if_present-requires g c = grind (arith, common_steps)

pub returns : goal.returns
unfolding binding_form
returns g c = grind (arith, common_steps)
