use Rattle.std.proofs.Common.{arith, rules}
use Rattle.std.proofs.lemmas.Grind.{common_steps}
use Rattle.hir_lower_builder.specs.Made.{typed_try_form}
use Rattle.hir_lower_expr.proofs.tries.typed_try.Goals as goal

pub returns-in_err-block : goal.returns-in_err-block
unfolding typed_try_form
returns-in_err-block g c = search rules

pub returns-in_err-number : goal.returns-in_err-number
unfolding typed_try_form
returns-in_err-number g c = search rules

pub returns-in_err-type_ref : goal.returns-in_err-type_ref
unfolding typed_try_form
returns-in_err-type_ref g c = search rules

pub returns-in_err-pat : goal.returns-in_err-pat
unfolding typed_try_form
returns-in_err-pat g c = search rules

pub returns-in_err-tail : goal.returns-in_err-tail
unfolding typed_try_form
returns-in_err-tail g c = search rules

pub returns : goal.returns
unfolding typed_try_form
returns g c = search rules

pub bound_block-requires-clause-tail : goal.bound_block-requires-clause-tail
unfolding typed_try_form
bound_block-requires-clause-tail g c = grind (arith, common_steps)

pub lower_type-requires : goal.lower_type-requires
unfolding typed_try_form
lower_type-requires g c = grind (arith, common_steps)

pub bound_block-requires-clause-type_ref : goal.bound_block-requires-clause-type_ref
unfolding typed_try_form
bound_block-requires-clause-type_ref g c = grind (arith, common_steps)

pub bound_block-requires-clause-value : goal.bound_block-requires-clause-value
unfolding typed_try_form
bound_block-requires-clause-value g c = grind (arith, common_steps)

pub bound_block-requires-clause-pat : goal.bound_block-requires-clause-pat
unfolding typed_try_form
bound_block-requires-clause-pat g c = grind (arith, common_steps)

pub lower-requires-clause-part : goal.lower-requires-clause-part
unfolding typed_try_form
lower-requires-clause-part g c = grind (arith, common_steps)

pub lower-requires-clause-role : goal.lower-requires-clause-role
unfolding typed_try_form
lower-requires-clause-role g c = grind (arith, common_steps)
