use Rattle.std.proofs.lemmas.Grind.{common_steps}
use Rattle.std.proofs.Common.{arith}
use Rattle.hir_lower_item.proofs.function.output.Goals as goal

pub returns : goal.returns
returns g c = grind (arith, common_steps)

pub answer_form-requires : goal.answer_form-requires
answer_form-requires g c = grind (arith, common_steps)
