use Rattle.std.proofs.Common.{arith}
use Rattle.std.proofs.lemmas.Grind.{common_steps}
use Rattle.hir_lower_builder.specs.Made.{for_iteration_form}
use Rattle.hir_lower_expr.proofs.fors.iteration.Goals as goal

pub returns : goal.returns
unfolding for_iteration_form
returns g c = grind (arith, common_steps)

pub store_made_match-requires : goal.store_made_match-requires
unfolding for_iteration_form
store_made_match-requires g c = grind (arith, common_steps)

pub returns-in_err-value : goal.returns-in_err-value
unfolding for_iteration_form
returns-in_err-value g c = grind (arith, common_steps)
