use Rattle.std.proofs.Common.{arith, rules}
use Rattle.std.proofs.lemmas.Grind.{common_steps}
use Rattle.hir_lower_builder.specs.Forms.{operands_form}
use Rattle.hir_lower_builder.proofs.Binaries.{binary_is}
use Rattle.hir_lower_builder.specs.Lower.{operands_form}
use Rattle.hir_lower_expr.proofs.operators.binary_form.Goals as goal

pub returns : goal.returns
unfolding operands_form
returns g c = search rules

pub returns-in_err-lhs : goal.returns-in_err-lhs
unfolding operands_form
returns-in_err-lhs g c = grind (arith, common_steps, binary_is)

pub returns-in_err-rhs : goal.returns-in_err-rhs
unfolding operands_form
returns-in_err-rhs g c = grind (arith, common_steps, binary_is)

pub alloc_expr-requires : goal.alloc_expr-requires
unfolding operands_form
alloc_expr-requires g c = grind (arith, common_steps, binary_is)

pub lower-requires-2 : goal.lower-requires-2
unfolding operands_form
lower-requires-2 g c = grind (arith, common_steps, binary_is)

pub lower-requires : goal.lower-requires
unfolding operands_form
lower-requires g c = grind (arith, common_steps, binary_is)
