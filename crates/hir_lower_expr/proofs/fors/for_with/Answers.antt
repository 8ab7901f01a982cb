use Rattle.std.proofs.Common.{arith}
use Rattle.std.proofs.lemmas.Grind.{common_steps}
use Rattle.hir_lower_builder.specs.Made.{for_form}
use Rattle.hir_lower_expr.proofs.fors.for_with.Goals as goal

pub returns-in_err-iterator : goal.returns-in_err-iterator
unfolding for_form
returns-in_err-iterator g c = grind (arith, common_steps)

pub returns-in_err-iterations : goal.returns-in_err-iterations
unfolding for_form
returns-in_err-iterations g c = grind (arith, common_steps)

pub returns-in_err-expr : goal.returns-in_err-expr
unfolding for_form
returns-in_err-expr g c = grind (arith, common_steps)

pub returns : goal.returns
unfolding for_form
returns g c = grind (arith, common_steps)

pub returns-in_err-pat : goal.returns-in_err-pat
unfolding for_form
returns-in_err-pat g c = grind (arith, common_steps)

pub returns-in_err-number : goal.returns-in_err-number
unfolding for_form
returns-in_err-number g c = grind (arith, common_steps)

pub store_match-requires : goal.store_match-requires
unfolding for_form
store_match-requires g c = grind (arith, common_steps)
