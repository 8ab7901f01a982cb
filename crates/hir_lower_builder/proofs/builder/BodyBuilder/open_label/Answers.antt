use Rattle.std.proofs.lemmas.Grind.{common_steps}
use Rattle.std.proofs.Common.{rules, arith}
use Rattle.hir_lower_builder.specs.Lowering.{open_label}
use Rattle.hir_lower_builder.proofs.builder.BodyBuilder.open_label.Goals as goal

pub returns : goal.returns
unfolding open_label
returns g c = search rules

pub invariant_of-self-in_err-enter_label : goal.invariant_of-self-in_err-enter_label
unfolding open_label
invariant_of-self-in_err-enter_label g c = grind (arith, common_steps)

pub invariant_of-self-2 : goal.invariant_of-self-2
unfolding open_label
invariant_of-self-2 g c = grind (arith, common_steps)
